use Rattle.std.proofs.Common.{◌≡◌, true, false, sym, subst}
use Rattle.mn_callers.specs.Acts.{DoesGo, OperatesOn, has_work}
use Rattle.mn_callers.specs.Clients.{past_of}
use Rattle.mn_callers.specs.Hands.{HasTurn, MovesOn, hand_of}
use Rattle.mn_callers.proofs.ClientActs.{has_work_as, of_same}
use Rattle.mn_callers.proofs.Hands.{moves_further, moves_nowhere}
use Rattle.mn_callers.proofs.client.Client.all.Goals as goal

pub loop-alloc-init : goal.loop-alloc-init
loop-alloc-init g c = record { turn = c.requires.turn; goes_on = moves_nowhere g.X.Transport.went g.met.X.Transport.stays _ _; client = c.requires.client; operates = OperatesOn.none; order = λ is. is }

pub has_work-requires : goal.has_work-requires
has_work-requires g c = c.loop-alloc.invariant.client.run.met

pub has_died-requires : goal.has_died-requires
has_died-requires g c = c.in_ok-go.ensures.client.run.met

pub returns-clause-of_run : goal.returns-clause-of_run
returns-clause-of_run g c = c.loop-alloc.invariant.client.run

pub returns-in_err-go-clause-goes_on : goal.returns-in_err-go-clause-goes_on
returns-in_err-go-clause-goes_on g c = moves_further g.X.Transport.went g.met.X.Transport.goes_on _ _ _ _ _ _ c.loop-alloc.invariant.goes_on c.go.ensures.goes_on

pub returns-in_err-go-clause-of_run : goal.returns-in_err-go-clause-of_run
returns-in_err-go-clause-of_run g c = c.in_err-go.ensures.of_run

pub loop-alloc-preserved : goal.loop-alloc-preserved
loop-alloc-preserved g c =
    let old = c.args.self.now in
    let now = c.loop-alloc.self in
    let new = c.go.new.self in
    let points = c.args.points.now in
    let ops = c.args.ops.now in
    let same = c.loop-alloc.invariant.goes_on.client in
    let work = has_work_as g.X.Transport.start c.args.points.now c.loop-alloc.self c.loop-alloc.invariant.client c.args.ops.now c.has_work.result _ c.has_work.ensures.is c.loop-alloc-test.true in
    let paused = sym c.pause.ensures in
    record {
      turn = subst (λ (x : g.row.X.Denot). HasTurn g.X.Transport.board (g.X.Transport.ready x) (hand_of c.go.new.pass new.list)) paused c.go.ensures.turn;
      goes_on = subst (λ (x : g.row.X.Denot). MovesOn (g.X.Transport.went c.args.table.now x) (hand_of c.args.pass.now old.list) (hand_of c.go.new.pass new.list)) paused
          (moves_further g.X.Transport.went g.met.X.Transport.goes_on _ _ _ _ _ _ c.loop-alloc.invariant.goes_on c.go.ensures.goes_on);
      client = c.in_ok-go.ensures.client;
      order = λ is. c.go.ensures.order (c.loop-alloc.invariant.order is);
      operates = OperatesOn.one_more (past_of now) (past_of new) c.loop-alloc.invariant.operates (of_same (λ r. has_work r (past_of now) ≡ true) points now.list.client old.list.client ops same work)
          (of_same (λ r. DoesGo r (past_of now) (past_of new)) points now.list.client old.list.client ops same c.in_ok-go.ensures.does);
    }

pub returns-clause-does : goal.returns-clause-does
returns-clause-does g c =
    let now = c.loop-alloc.self in (
      c.loop-alloc.invariant.operates,
      of_same (λ r. has_work r (past_of now) ≡ false) c.args.points.now now.list.client c.args.self.now.list.client c.args.ops.now c.loop-alloc.invariant.goes_on.client
          (has_work_as g.X.Transport.start c.args.points.now c.loop-alloc.self c.loop-alloc.invariant.client c.args.ops.now c.has_work.result _ c.has_work.ensures.is c.loop-alloc-test.false),
    )

pub loop-alloc-smaller : goal.loop-alloc-smaller
loop-alloc-smaller g c =
    c.in_ok-go.ensures.falls (has_work_as g.X.Transport.start c.args.points.now c.loop-alloc.self c.loop-alloc.invariant.client c.args.ops.now c.has_work.result _ c.has_work.ensures.is c.loop-alloc-test.true)

pub returns-in_err-go-clause-order : goal.returns-in_err-go-clause-order
returns-in_err-go-clause-order g c = λ is. c.go.ensures.order (c.loop-alloc.invariant.order is)

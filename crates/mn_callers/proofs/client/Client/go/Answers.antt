use Rattle.std.proofs.Common.{◌≡◌, length, true, not, refl, sym, ap, ◌∙◌}
use Rattle.mn_callers.specs.Acts.{CallsOnce, CallsUntil, CallsWhile, as_role, has_work, is_at_work}
use Rattle.mn_callers.specs.Clients.{past_of}
use Rattle.mn_base.proofs.Booleans.{clash}
use Rattle.mn_callers.proofs.ClientActs.{at_work, calls_more, has_work_as, none_due, of_same, works_not, works_so}
use Rattle.mn_callers.proofs.ClientEnds.{op_falls}
use Rattle.mn_callers.proofs.Hands.{moves_further, moves_nowhere}
use Rattle.mn_callers.proofs.Orders.{still_first}
use Rattle.mn_callers.proofs.client.Client.go.Goals as goal

pub returns-then-not-has_work-clause-goes_on : goal.returns-then-not-has_work-clause-goes_on
returns-then-not-has_work-clause-goes_on g c = moves_nowhere g.X.Transport.went g.met.X.Transport.stays _ _

pub returns-then-not-has_work-clause-of_run : goal.returns-then-not-has_work-clause-of_run
returns-then-not-has_work-clause-of_run g c = c.requires.client.run

pub has_work-requires : goal.has_work-requires
has_work-requires g c = c.requires.client.run.met

pub begin_if_idle-requires-clause-left : goal.begin_if_idle-requires-clause-left
begin_if_idle-requires-clause-left g c = c.has_work.ensures.left c.if-not-has_work.false

pub begin_if_idle-requires-clause-lives : goal.begin_if_idle-requires-clause-lives
begin_if_idle-requires-clause-lives g c = c.has_work.ensures.lives c.if-not-has_work.false

pub returns-in_err-begin_if_idle-clause-of_run : goal.returns-in_err-begin_if_idle-clause-of_run
returns-in_err-begin_if_idle-clause-of_run g c = c.in_err-begin_if_idle.ensures.of_run

pub loop-alloc-init : goal.loop-alloc-init
loop-alloc-init g c = record { turn = c.begin_if_idle.ensures.turn; goes_on = c.begin_if_idle.ensures.goes_on; client = c.in_ok-begin_if_idle.ensures.client; calls = CallsWhile.none; order = c.begin_if_idle.ensures.order; begun = refl }

pub returns-clause-of_run : goal.returns-clause-of_run
returns-clause-of_run g c = c.loop-alloc.invariant.client.run

pub returns-in_err-call-clause-goes_on : goal.returns-in_err-call-clause-goes_on
returns-in_err-call-clause-goes_on g c = moves_further g.X.Transport.went g.met.X.Transport.goes_on _ _ _ _ _ _ c.loop-alloc.invariant.goes_on c.call.ensures.goes_on

pub returns-in_err-call-clause-of_run : goal.returns-in_err-call-clause-of_run
returns-in_err-call-clause-of_run g c = c.in_err-call.ensures.of_run

pub loop-alloc-preserved : goal.loop-alloc-preserved
loop-alloc-preserved g c =
    let old = c.args.self.now in
    let now = c.loop-alloc.self in
    let new = c.call.new.self in
    let points = c.args.points.now in
    let ops = c.args.ops.now in
    let role = as_role points old.list.client ops in
    let same = c.loop-alloc.invariant.goes_on.client in
    let works : is_at_work role (past_of now) ≡ true = of_same (λ r. is_at_work r (past_of now) ≡ true) points now.list.client old.list.client ops same
    (at_work g.X.Transport.start points now c.loop-alloc.invariant.client ops ∙ (sym c.is_at_work.ensures ∙ c.loop-alloc-test.true)) in
    record {
      turn = c.call.ensures.turn;
      goes_on = moves_further g.X.Transport.went g.met.X.Transport.goes_on _ _ _ _ _ _ c.loop-alloc.invariant.goes_on c.call.ensures.goes_on;
      client = c.in_ok-call.ensures.client;
      order = λ is. still_first ops g.X.Transport.start points now new _ _ refl refl c.call.ensures.goes_on c.loop-alloc.invariant.client.run c.in_ok-call.ensures.client.run c.call.ensures.begun (c.loop-alloc.invariant.order is);
      calls = calls_more role (λ now. not (is_at_work role now)) (past_of c.begin_if_idle.new.self) (past_of now) (past_of new) c.loop-alloc.invariant.calls (ap not works) works
          (of_same (λ r. CallsOnce r (past_of now) (past_of new)) points now.list.client old.list.client ops same (c.in_ok-call.ensures.calls ops));
      begun = c.call.ensures.begun ∙ c.loop-alloc.invariant.begun;
    }

pub returns-then-not-has_work-clause-does : goal.returns-then-not-has_work-clause-does
returns-then-not-has_work-clause-does g c =
    let old = c.args.self.now in
    let role = as_role c.args.points.now old.list.client c.args.ops.now in
    works_not role (CallsUntil role (λ now. not (is_at_work role now))) (past_of old) (has_work_as g.X.Transport.start c.args.points.now c.args.self.now c.requires.client c.args.ops.now c.has_work.result _ c.has_work.ensures.is c.if-not-has_work.true)

pub returns-clause-does : goal.returns-clause-does
returns-clause-does g c =
    let old = c.args.self.now in
    let mid = c.begin_if_idle.new.self in
    let now = c.loop-alloc.self in
    let points = c.args.points.now in
    let ops = c.args.ops.now in
    let role = as_role points old.list.client ops in
    works_so role (CallsUntil role (λ now. not (is_at_work role now))) (past_of old) (past_of mid) (past_of now) (has_work_as g.X.Transport.start c.args.points.now c.args.self.now c.requires.client c.args.ops.now c.has_work.result _ c.has_work.ensures.is c.if-not-has_work.false) c.in_ok-begin_if_idle.ensures.under_way (
      c.loop-alloc.invariant.calls,
      of_same (λ r. not (is_at_work r (past_of now)) ≡ true) points now.list.client old.list.client ops c.loop-alloc.invariant.goes_on.client
          (ap not (at_work g.X.Transport.start points now c.loop-alloc.invariant.client ops ∙ (sym c.is_at_work.ensures ∙ c.loop-alloc-test.false))),
    )

pub loop-alloc-smaller : goal.loop-alloc-smaller
loop-alloc-smaller g c = c.in_ok-call.ensures.falls (sym c.is_at_work.ensures ∙ c.loop-alloc-test.true)

pub returns-then-not-has_work-clause-falls : goal.returns-then-not-has_work-clause-falls
returns-then-not-has_work-clause-falls g c = λ has.
    let old = c.args.self.now in
    let role = as_role c.args.points.now old.list.client c.args.ops.now in
    absurd (clash (has_work role (past_of old)) has (has_work_as g.X.Transport.start c.args.points.now old c.requires.client c.args.ops.now c.has_work.result _ c.has_work.ensures.is c.if-not-has_work.true))

pub returns-clause-falls : goal.returns-clause-falls
returns-clause-falls g c = λ has.
    let now = c.loop-alloc.self in
    op_falls (length c.args.ops.now) c.args.self.now c.begin_if_idle.new.self now (c.has_work.ensures.left c.if-not-has_work.false) c.in_ok-begin_if_idle.ensures.begun c.loop-alloc.invariant.begun
    (none_due now.due (sym c.is_at_work.ensures ∙ c.loop-alloc-test.false))

pub returns-then-not-has_work-clause-order : goal.returns-then-not-has_work-clause-order
returns-then-not-has_work-clause-order g c = λ is. is

pub returns-in_err-begin_if_idle-clause-order : goal.returns-in_err-begin_if_idle-clause-order
returns-in_err-begin_if_idle-clause-order g c = c.begin_if_idle.ensures.order

pub returns-in_err-call-clause-order : goal.returns-in_err-call-clause-order
returns-in_err-call-clause-order g c = λ is.
    still_first c.args.ops.now g.X.Transport.start c.args.points.now c.loop-alloc.self c.call.new.self _ _ refl refl c.call.ensures.goes_on c.loop-alloc.invariant.client.run c.in_err-call.ensures.of_run c.call.ensures.begun
    (c.loop-alloc.invariant.order is)

use Rattle.std.proofs.Common.{ℕ, true, false, ap, ◌∙◌, inr}
use Rattle.mn_runs.specs.Lists.{ClientState}
use Rattle.mn_runs.specs.Protocol.{start_nodes}
use Rattle.mn_callers.specs.Recoveries.{bench_of, work_of}
use Rattle.mn_callers.proofs.Recoveries.{asked_next, asked_none}
use Rattle.mn_callers.proofs.Hands.{moves_further, moves_same, turn_same}
use Rattle.mn_callers.proofs.Sweeping.{recovers_more, recovers_same}
use Rattle.mn_callers.proofs.desk.Desk.recover.Goals as goal

pub returns-in_err-take_work-clause-goes_on : goal.returns-in_err-take_work-clause-goes_on
returns-in_err-take_work-clause-goes_on g c =
    moves_same g.X.Transport.went g.met.X.Transport.stays _ _ _ (ap (λ (l : ClientState). l.client) c.take_work.ensures.list) (ap (λ (l : ClientState). l.entries) c.take_work.ensures.list)

pub loop-alloc-init : goal.loop-alloc-init
loop-alloc-init g c =
    let client = ap (λ (l : ClientState). l.client) c.take_work.ensures.list in
    let entries = ap (λ (l : ClientState). l.entries) c.take_work.ensures.list in
    record {
      turn = turn_same _ c.requires.turn _ client entries;
      goes_on = moves_same g.X.Transport.went g.met.X.Transport.stays _ _ _ client entries;
      does = λ es is. asked_none (start_nodes g.X.Transport.start) c.args.self.now.list.client es c.args.self.now.list c.take_work.new.self.list c.args.self.now.work c.take_work.new.self.work c.take_work.ensures.list
          (c.in_ok-take_work.ensures.work es is ∙ ap (λ (n : ℕ). work_of n c.args.self.now.work es) c.nodes.ensures.count);
      recovers = recovers_same c.args.self.now.list.entries c.take_work.new.self.list.entries entries;
      desk = c.take_work.ensures.desk g.X.Transport.start c.nodes.ensures.count c.requires.desk;
    }

pub returns-clause-goes_on : goal.returns-clause-goes_on
returns-clause-goes_on g c = moves_further g.X.Transport.went g.met.X.Transport.goes_on _ _ _ _ _ _ c.loop-alloc.invariant.goes_on c.call.ensures.goes_on

pub loop-alloc-preserved : goal.loop-alloc-preserved
loop-alloc-preserved g c = record {
  turn = c.call.ensures.turn;
  goes_on = moves_further g.X.Transport.went g.met.X.Transport.goes_on _ _ _ _ _ _ c.loop-alloc.invariant.goes_on c.call.ensures.goes_on;
  does = λ es is. inr (asked_next (start_nodes g.X.Transport.start) c.args.self.now.list.client es (bench_of c.args.self.now) (bench_of c.loop-alloc.self) (bench_of c.call.new.self) c.loop-alloc.self.list.client c.call.result true (c.loop-alloc.invariant.does es is) c.loop-alloc.invariant.goes_on.client c.loop-alloc-test.true c.call.ensures.asks);
  recovers = recovers_more _ _ _ c.loop-alloc.invariant.recovers c.call.ensures.recovers;
  desk = c.call.ensures.desk;
}

pub returns-in_err-take_work-clause-recovers : goal.returns-in_err-take_work-clause-recovers
returns-in_err-take_work-clause-recovers g c = recovers_same c.args.self.now.list.entries c.take_work.new.self.list.entries (ap (λ (l : ClientState). l.entries) c.take_work.ensures.list)

pub returns-clause-recovers : goal.returns-clause-recovers
returns-clause-recovers g c = recovers_more _ _ _ c.loop-alloc.invariant.recovers c.call.ensures.recovers

pub returns-clause-does : goal.returns-clause-does
returns-clause-does g c = λ es is.
    asked_next (start_nodes g.X.Transport.start) c.args.self.now.list.client es (bench_of c.args.self.now) (bench_of c.loop-alloc.self) (bench_of c.call.new.self) c.loop-alloc.self.list.client c.call.result false (c.loop-alloc.invariant.does es is) c.loop-alloc.invariant.goes_on.client c.loop-alloc-test.false c.call.ensures.asks

pub loop-alloc-smaller : goal.loop-alloc-smaller
loop-alloc-smaller g c = c.call.ensures.falls c.loop-alloc-test.true

use Rattle.std.proofs.Common.{List, sym, subst}
use Rattle.std.specs.List.{AllByRecursion}
use Rattle.mn_base.specs.declared.ids.Tid.{Tid}
use Rattle.mn_mini.specs.RecordGrammar.{IsTid}
use Rattle.mn_callers.proofs.Closing.{ids_kept}
use Rattle.mn_callers.proofs.Hands.{moves_further, moves_nowhere}
use Rattle.mn_callers.proofs.Sweeping.{recovers_more, recovers_not}
use Rattle.mn_callers.proofs.desk.Desk.listed_ids.Goals as goal

pub loop-number-init : goal.loop-number-init
loop-number-init g c = record {
  turn = c.requires.turn;
  goes_on = moves_nowhere g.X.Transport.went g.met.X.Transport.stays _ _;
  desk = c.requires.desk;
  idle = c.requires.idle;
  recovers = recovers_not _;
  ids = subst (λ (l : List Tid). AllByRecursion IsTid l) (sym c.new-tids.ensures.items) tt;
}

pub loop-number-preserved : goal.loop-number-preserved
loop-number-preserved g c = record {
  turn = c.add_listed.ensures.turn;
  goes_on = moves_further g.X.Transport.went g.met.X.Transport.goes_on _ _ _ _ _ _ c.loop-number.invariant.goes_on c.add_listed.ensures.goes_on;
  desk = c.add_listed.ensures.desk;
  idle = c.add_listed.ensures.idle;
  recovers = recovers_more _ _ _ c.loop-number.invariant.recovers c.add_listed.ensures.recovers;
  ids = c.in_ok-add_listed.ensures.ids;
}

pub returns-in_err-add_listed-clause-goes_on : goal.returns-in_err-add_listed-clause-goes_on
returns-in_err-add_listed-clause-goes_on g c = moves_further g.X.Transport.went g.met.X.Transport.goes_on _ _ _ _ _ _ c.loop-number.invariant.goes_on c.add_listed.ensures.goes_on

pub returns-in_err-add_listed-clause-recovers : goal.returns-in_err-add_listed-clause-recovers
returns-in_err-add_listed-clause-recovers g c = recovers_more _ _ _ c.loop-number.invariant.recovers c.add_listed.ensures.recovers

pub returns-clause-ids : goal.returns-clause-ids
returns-clause-ids g c = ids_kept c.loop-number.tids.items c.sort_ids.new.tids.items c.sort_ids.ensures.all c.loop-number.invariant.ids

use Rattle.std.proofs.Common.{List, refl, sym, subst, arith}
use Rattle.std.specs.List.{AllByRecursion}
use Rattle.mn_base.specs.declared.ids.Tid.{Tid}
use Rattle.mn_mini.specs.RecordGrammar.{IsTid}
use Rattle.mn_runs.specs.Protocol.{entries_of}
use Rattle.mn_callers.specs.Settled.{records_at}
use Rattle.mn_callers.proofs.Closing.{closes_further, closes_nowhere, held_more, held_next, ids_kept}
use Rattle.mn_callers.proofs.Turns.{goes_further, goes_nowhere}
use Rattle.mn_callers.proofs.settle.Closer.held_ids.Goals as goal

pub loop-number-init : goal.loop-number-init
loop-number-init g c = record {
  closing = c.requires.closing;
  goes_on = goes_nowhere _ _;
  closes = closes_nowhere (entries_of c.args.self.now.list.entries);
  up = c.requires.up;
  ids = subst (λ (l : List Tid). AllByRecursion IsTid l) (sym c.new-tids.ensures.items) tt;
  held = λ k low. absurd (omega arith);
}

pub returns-in_err-add_held-clause-goes_on : goal.returns-in_err-add_held-clause-goes_on
returns-in_err-add_held-clause-goes_on g c = goes_further _ _ _ _ _ _ c.loop-number.invariant.goes_on c.add_held.ensures.goes_on

pub loop-number-preserved : goal.loop-number-preserved
loop-number-preserved g c =
    let r = c.in_ok-add_held.ensures in
    record {
      closing = c.add_held.ensures.closing;
      goes_on = goes_further _ _ _ _ _ _ c.loop-number.invariant.goes_on c.add_held.ensures.goes_on;
      closes = closes_further _ _ _ c.loop-number.invariant.closes r.closes;
      up = r.up;
      ids = r.ids;
      held = held_next c.loop-number.table.stations.items c.add_held.new.table.stations.items c.loop-number.tids.items c.add_held.new.tids.items c.loop-number.number c.loop-number.invariant.held r.more r.same r.held;
    }

pub returns-clause-held : goal.returns-clause-held
returns-clause-held g c = λ n among.
    let records = records_at c.loop-number.table.stations.items n in
    held_more c.loop-number.tids.items c.sort_ids.new.tids.items records records c.sort_ids.ensures.keeps refl (c.loop-number.invariant.held n.0 (omega (arith, among)))

pub returns-clause-ids : goal.returns-clause-ids
returns-clause-ids g c = ids_kept c.loop-number.tids.items c.sort_ids.new.tids.items c.sort_ids.ensures.all c.loop-number.invariant.ids

use Rattle.std.proofs.Common.{List, IfOk, IfErr, sym, subst}
use Rattle.std.specs.List.{AllByRecursion}
use Rattle.mn_mini.specs.RecordGrammar.{IsRecord}
use Rattle.mn_mini.specs.declared.record.Record.{Record}
use Rattle.mn_node.specs.Node.{added_to}
use Rattle.mn_node.specs.Restart.{AreBodiesWithOrWithout, TellsOtherRecords}
use Rattle.mn_node.proofs.Fronts.{front_pieces}
use Rattle.mn_node.proofs.Restarts.{listed_records_sound}
use Rattle.mn_node.proofs.restart.compare_listed.Goals as goal

pub compare-requires : goal.compare-requires
compare-requires c =
    let m = c.args.memory.now in
    let same = front_pieces m c.deref-2.result.now c.deref.result.now c.requires.front c.deref-2.ensures.value c.deref.ensures.value in
    let sound = listed_records_sound c.short_is_like_whole.ensures.grammar m.cut m.records.items c.args.pending.now c.requires.front.within c.requires.sound in
    record { sound = subst (λ (l : List Record). AllByRecursion IsRecord (added_to l c.args.pending.now)) (sym same) sound }

pub returns-clause-listed : goal.returns-clause-listed
returns-clause-listed c =
    let m = c.args.memory.now in
    let same = front_pieces m c.deref-2.result.now c.deref.result.now c.requires.front c.deref-2.ensures.value c.deref.ensures.value in
    subst (λ (l : List Record). IfOk c.compare.result (AreBodiesWithOrWithout c.args.log.bodies l c.args.pending.now)) same c.compare.ensures.listed

pub returns-clause-differs : goal.returns-clause-differs
returns-clause-differs c =
    let m = c.args.memory.now in
    let same = front_pieces m c.deref-2.result.now c.deref.result.now c.requires.front c.deref-2.ensures.value c.deref.ensures.value in
    subst (λ (l : List Record). IfErr c.compare.result (TellsOtherRecords c.args.log l c.args.pending.now)) same c.compare.ensures.differs

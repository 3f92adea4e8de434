use Rattle.std.proofs.Common.{List, sym, subst}
use Rattle.std.specs.List.{AllByRecursion}
use Rattle.mn_mini.specs.declared.record.Record.{Record}
use Rattle.mn_mini.specs.RecordGrammar.{IsRecord}
use Rattle.mn_node.proofs.Found.{first_sound}
use Rattle.mn_node.proofs.node.Node.records.Goals as goal

pub returns-clause-sound : goal.returns-clause-sound
returns-clause-sound g c = subst (λ (l : List Record). AllByRecursion IsRecord l) (sym c.deref.ensures.value) (first_sound c.self.inside.memory.records.items c.self.inside.pending c.self.invariant.sound)

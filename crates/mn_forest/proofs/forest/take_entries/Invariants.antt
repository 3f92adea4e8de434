use Rattle.mn_forest.proofs.Refusing.{Taken}
use Rattle.mn_forest.proofs.forest.take_entries.Given as goal

-- what was taken and the rest are all
abbrev pub invariant-loop-entry : goal.invariant-loop-entry
invariant-loop-entry l = record {
  parents : Taken (λ e. e.parent) l.entries l.initial.parents.items l.parents.items l.entry-index;
  roots : Taken (λ e. e.root) l.entries l.initial.roots.items l.roots.items l.entry-index;
}

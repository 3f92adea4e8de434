use Rattle.std.proofs.Common.{◌≡◌, ◌++◌, drop, map}
use Rattle.mn_work.proofs.catalog.tree_of.Given as goal

-- the parents so far, and those of the rest
abbrev pub invariant-loop-entry : goal.invariant-loop-entry
invariant-loop-entry l =
    l.parents.items ++ map (λ e. e.parent) (drop l.entry-index l.entry-items) ≡ map (λ e. e.parent) l.entry-items

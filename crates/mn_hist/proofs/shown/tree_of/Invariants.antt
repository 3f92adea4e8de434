use Rattle.std.proofs.Common.{◌≡◌, map, take}
use Rattle.mn_hist.proofs.shown.tree_of.Given as goal

-- the parents of so many entries
abbrev pub invariant-loop-entry : goal.invariant-loop-entry
invariant-loop-entry l = l.parents.items ≡ map (λ e. e.parent) (take l.entry-index l.entries)

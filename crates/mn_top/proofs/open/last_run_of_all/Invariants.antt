use Rattle.std.proofs.Common.{◌≡◌, take}
use Rattle.std.specs.List.{flat_map}
use Rattle.mn_mini.specs.Node.{greatest_run}
use Rattle.mn_top.proofs.open.last_run_of_all.Given as goal

-- the greatest of the first nodes
abbrev pub invariant-loop-list : goal.invariant-loop-list
invariant-loop-list l = l.greatest ≡ greatest_run (flat_map (λ list. list) (take l.list-index l.records))

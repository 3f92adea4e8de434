use Rattle.std.proofs.Common.{◌≡◌, ◌<◌, ℕ, Some}
use Rattle.std.specs.Prelude.{slice_get}
use Rattle.std.specs.List.{AllByRecursion}
use Rattle.mn_mini.specs.RecordGrammar.{IsRecord}
use Rattle.mn_node.specs.Node.{added_to}
use Rattle.mn_callers.proofs.ending.tell_records.Given as goal

-- it was asked of each node so far
abbrev pub invariant-loop-node : goal.invariant-loop-node
invariant-loop-node g l = (k : ℕ) (m : _) → k < l.node-index → slice_get l.nodes k ≡ Some m → AllByRecursion IsRecord (added_to m.records m.pending)

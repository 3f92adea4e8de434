use Rattle.std.proofs.Common.{take}
use Rattle.mn_node.specs.State.{AreRecords}
use Rattle.mn_node.proofs.start.records_of.Given as goal

-- the first bodies are records
abbrev pub invariant-loop-number : goal.invariant-loop-number
invariant-loop-number g l = AreRecords (take l.number l.redo.bodies) l.records.items

use Rattle.std.proofs.Common.{List, take}
use Rattle.mn_mini.specs.declared.record.Record.{Record}
use Rattle.mn_node.specs.State.{AreRecords}
use Rattle.mn_top.proofs.damage.first_bad.Given as goal

-- the first bodies are records
abbrev pub invariant-loop-number : goal.invariant-loop-number
invariant-loop-number l = (records : List Record) × AreRecords (take l.number l.front.bodies) records

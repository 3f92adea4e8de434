use Rattle.std.proofs.Common.{◌≡◌, ◌++◌, List, take, reverse}
use Rattle.mn_base.specs.declared.ids.Tid.{Tid}
use Rattle.mn_mini.specs.declared.record.Record.{Record}
use Rattle.mn_mini.specs.Node.{has_forced}
use Rattle.mn_node.specs.Memory.{is_among}
use Rattle.mn_node.proofs.replay.note_all.Given as goal

-- the ids of the first records are noted
abbrev pub invariant-loop-record : goal.invariant-loop-record
invariant-loop-record l =
    (before : List Record) → ((tid : Tid) → is_among l.initial.forced.items tid ≡ has_forced before tid) → (tid : Tid) → is_among l.forced.items tid ≡ has_forced (reverse (take l.record-index l.records) ++ before) tid

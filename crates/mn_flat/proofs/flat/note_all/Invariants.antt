use Rattle.std.proofs.Common.{◌++◌, List, reverse, take}
use Rattle.mn_mini.specs.declared.record.Record.{Record}
use Rattle.mn_flat.specs.Known.{TableTells}
use Rattle.mn_flat.proofs.flat.note_all.Given as goal

-- the records so far are noted behind the older ones
abbrev pub invariant-loop-record : goal.invariant-loop-record
invariant-loop-record l = (older : List Record) → TableTells l.fn.table older → TableTells l.table (reverse (take l.record-index l.records) ++ older)

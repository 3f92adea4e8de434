use Rattle.std.proofs.Common.{◌≡◌, ◌++◌, drop}
use Rattle.mn_plain.specs.Kept.{all_shown}
use Rattle.mn_plain.proofs.versions.table_copies.Given as goal

-- the copies so far, and the rest
abbrev pub invariant-loop-table : goal.invariant-loop-table
invariant-loop-table l = all_shown l.copies.items ++ all_shown (drop l.table-index l.tables) ≡ all_shown l.tables

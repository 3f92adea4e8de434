use Rattle.std.proofs.Common.{◌≡◌, ◌++◌, drop, map}
use Rattle.mn_page.specs.Grammar.{entry_bytes}
use Rattle.mn_work.proofs.catalog.spelled_of.Given as goal

-- the bytes so far, and those of the rest
abbrev pub invariant-loop-entry : goal.invariant-loop-entry
invariant-loop-entry l =
    l.spelled.items ++ map entry_bytes (drop l.entry-index l.entries) ≡ map entry_bytes l.entries

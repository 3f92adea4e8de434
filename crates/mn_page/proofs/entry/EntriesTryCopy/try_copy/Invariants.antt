use Rattle.std.proofs.Common.{◌≡◌, take}
use Rattle.mn_page.proofs.entry.EntriesTryCopy.try_copy.Given as goal

-- the copies so far
abbrev pub invariant-loop-version : goal.invariant-loop-version
invariant-loop-version l = l.entries.items ≡ take l.version-index l.version-items

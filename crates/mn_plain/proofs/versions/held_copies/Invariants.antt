use Rattle.std.proofs.Common.{◌≡◌, ◌++◌, drop}
use Rattle.mn_plain.proofs.versions.held_copies.Given as goal

-- the copies so far, and the rest
abbrev pub invariant-loop-version : goal.invariant-loop-version
invariant-loop-version l = l.copies.items ++ drop l.version-index l.held ≡ l.held

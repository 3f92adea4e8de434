use Rattle.std.proofs.Common.{◌≡◌, take}
use Rattle.mn_base.proofs.copying.copies_of.Given as goal

-- the copies so far
abbrev pub invariant-loop-value : goal.invariant-loop-value
invariant-loop-value g l = l.copies.items ≡ take l.value-index l.values

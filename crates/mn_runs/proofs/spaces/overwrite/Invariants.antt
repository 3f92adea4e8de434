use Rattle.std.proofs.Common.{◌≡◌, take}
use Rattle.mn_mini.specs.Flat.{overwritten}
use Rattle.mn_runs.proofs.spaces.overwrite.Given as goal

-- the bytes so far stand in place
abbrev pub invariant-loop-i : goal.invariant-loop-i
invariant-loop-i l = l.space ≡ overwritten l.fn.space l.start (take l.i l.bytes)

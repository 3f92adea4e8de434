-- What was read so far is within the buffer, which keeps its length.
use Rattle.std.proofs.Common.{◌≡◌, ◌≤◌, length}
use Rattle.mn_filedisk.proofs.backing.read_through.Given as goal

abbrev pub invariant-loop : goal.invariant-loop
invariant-loop g l = (l.count ≤ length l.into) × (length l.into ≡ length l.fn.into)

use Rattle.std.proofs.Common.{take, ◌++◌, Ok, Err, Result, OnErr}
use Rattle.std.proofs.KnownBytes.{Consumes-trans}
use Rattle.mn_io.proofs.source.read_all.Goals as goal

held : {T E P : Type 0} (r : Result T E) → P → OnErr r P
held (Ok _) p = tt
held (Err _) p = p

-- what was read before is gone from the front, and so is the last piece
pub returns-in_err-extend_from_slice-clause-err : goal.returns-in_err-extend_from_slice-clause-err
returns-in_err-extend_from_slice-clause-err g c =
    held c.from_residual-in_err-extend_from_slice.result
    (c.loop-piece.bytes.items ++ take c.in_ok-count.count c.read.new.into, Consumes-trans _ _ _ _ _ c.loop-piece.invariant.so_far c.in_ok-count.ensures.bytes.0)

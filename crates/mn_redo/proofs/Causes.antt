-- The cause in a result.
use Rattle.std.proofs.Common.{Result, Err}
use Rattle.mn_redo.specs.declared.open.OpenCause.{OpenCause}
use Rattle.mn_redo.specs.declared.open.OpenCause.TheVariants.{NoMemory}

abbrev pub cause_in : {T : Type 0} → Result T OpenCause → OpenCause
cause_in (Err cause) = cause
cause_in result = NoMemory

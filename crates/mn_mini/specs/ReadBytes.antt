-- The bytes that a read item has read.
use Rattle.std.specs.Prelude.{ℕ, List}
use Rattle.mn_mini.specs.declared.read_bytes.Held.{Held}
use Rattle.mn_mini.specs.declared.read_bytes.Held.TheVariants.{Own, Shared}

-- its own or shared, they are the same
abbrev pub bytes_of : Held → List ℕ
bytes_of (Own bytes) = bytes
bytes_of (Shared bytes) = bytes

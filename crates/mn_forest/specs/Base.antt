-- The memory that a run of fresh nodes begins with.
use Rattle.std.specs.Prelude.{ℕ, List}
use Rattle.mn_page.specs.Forest.{base_forest, memory_of}

-- the memory that so many nodes begin with
abbrev pub base_memory : ℕ → List (List ℕ)
base_memory nodes = memory_of (base_forest nodes)

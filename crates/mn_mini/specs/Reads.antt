-- What the read items read, in place or in a list.
use Rattle.std.specs.Prelude.{ℕ, List, [], ◌∷◌}
use Rattle.mn_mini.specs.declared.reads.Kept.{Kept}
use Rattle.mn_mini.specs.declared.reads.Kept.TheVariants.{Nothing, One, Several}

abbrev pub reads_in : Kept → List (List ℕ)
reads_in Nothing = []
reads_in (One bytes) = bytes ∷ []
reads_in (Several reads) = reads.value.items

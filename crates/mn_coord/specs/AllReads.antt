-- What the participants read, in place or in a list.
use Rattle.std.specs.Prelude.{ℕ, List, [], ◌∷◌}
use Rattle.mn_coord.specs.declared.all_reads.Kept.{Kept}
use Rattle.mn_coord.specs.declared.all_reads.Kept.TheVariants.{One, Two, Several}

abbrev pub reads_in : Kept → List (List (List ℕ))
reads_in (One reads) = reads ∷ []
reads_in (Two reads) = reads
reads_in (Several reads) = reads.items

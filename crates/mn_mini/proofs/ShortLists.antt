-- Worked examples of lists that are shortened.
use Rattle.std.proofs.Common.{◌≡◌, ℕ, true, false, List, [], ◌∷◌, ◌++◌, replicate, refl}
use Rattle.mn_base.specs.declared.ids.NodeNo.{NodeNo}
use Rattle.mn_base.specs.declared.ids.Tid.{Tid}
use Rattle.mn_mini.specs.declared.part.PartItem.TheVariants.{Compare, Read, Write}
use Rattle.mn_mini.specs.declared.record.Record.{Record}
use Rattle.mn_mini.specs.declared.record.Record.TheVariants.{Voted, Executed, Decided, Forced}
use Rattle.mn_mini.specs.Short.{short}

abbrev id : ℕ → ℕ → Tid
id client serial = record { run = 1; client = record { 0 = client }; serial = serial }

abbrev both : List NodeNo
both = record { 0 = 0 } ∷ record { 0 = 1 } ∷ []

-- the later execution writes the range of the earlier one, which goes
written_again : short (Executed (id 0 1) (Write 16 (replicate 8 1) ∷ []) ∷ Executed (id 0 2) (Write 16 (replicate 8 2) ∷ []) ∷ Forced (id 1 1) ∷ [])
    ≡ Executed (id 0 2) (Write 16 (replicate 8 2) ∷ []) ∷ Forced (id 1 1) ∷ []
written_again = refl

-- the same start and another length: both remain; so they do where ranges only meet
other_lengths : short (Executed (id 0 1) (Write 16 (1 ∷ 1 ∷ []) ∷ []) ∷ Executed (id 0 2) (Write 16 (2 ∷ []) ∷ []) ∷ Executed (id 0 3) (Write 15 (3 ∷ 3 ∷ 3 ∷ []) ∷ []) ∷ [])
    ≡ Executed (id 0 1) (Write 16 (1 ∷ 1 ∷ []) ∷ []) ∷ Executed (id 0 2) (Write 16 (2 ∷ []) ∷ []) ∷ Executed (id 0 3) (Write 15 (3 ∷ 3 ∷ 3 ∷ []) ∷ []) ∷ []
other_lengths = refl

-- one part writes a range twice: the earlier item goes; so do compares and reads
twice_in_a_part : short (Executed (id 0 1) (Compare 1 (0 ∷ []) ∷ Read 2 1 ∷ Write 1 (1 ∷ []) ∷ Write 2 (2 ∷ []) ∷ Write 1 (3 ∷ []) ∷ []) ∷ [])
    ≡ Executed (id 0 1) (Write 2 (2 ∷ []) ∷ Write 1 (3 ∷ []) ∷ []) ∷ []
twice_in_a_part = refl

-- a vote is applied at its decision, not where it stands: the execution between them goes, and the
-- vote, of which its write remains, stays without its compare
at_the_decision : short (Voted (id 0 1) both (Compare 1 (0 ∷ []) ∷ Write 1 (7 ∷ []) ∷ []) ∷ Executed (id 0 2) (Write 1 (8 ∷ []) ∷ []) ∷ Decided (id 0 1) true ∷ [])
    ≡ Voted (id 0 1) both (Write 1 (7 ∷ []) ∷ []) ∷ Decided (id 0 1) true ∷ []
at_the_decision = refl

-- an undecided vote stays whole and writes over nothing; one that is decided no had no write
-- applied, and is left as a read of its first item's range
not_applied : short (Executed (id 0 1) (Write 1 (6 ∷ []) ∷ []) ∷ Voted (id 0 2) both (Compare 1 (6 ∷ []) ∷ Write 1 (7 ∷ []) ∷ []) ∷ Voted (id 0 3) both (Compare 2 (0 ∷ 0 ∷ []) ∷ Write 1 (8 ∷ []) ∷ []) ∷ Decided (id 0 3) false ∷ [])
    ≡ Executed (id 0 1) (Write 1 (6 ∷ []) ∷ []) ∷ Voted (id 0 2) both (Compare 1 (6 ∷ []) ∷ Write 1 (7 ∷ []) ∷ []) ∷ Voted (id 0 3) both (Read 2 2 ∷ []) ∷ Decided (id 0 3) false ∷ []
not_applied = refl

-- two votes of one id: both are applied at the decision, the older one first, which so is written
-- over
two_votes : short (Voted (id 0 1) both (Write 1 (6 ∷ []) ∷ []) ∷ Voted (id 0 1) both (Write 1 (7 ∷ []) ∷ []) ∷ Decided (id 0 1) true ∷ [])
    ≡ Voted (id 0 1) both (Read 1 1 ∷ []) ∷ Voted (id 0 1) both (Write 1 (7 ∷ []) ∷ []) ∷ Decided (id 0 1) true ∷ []
two_votes = refl

-- a vote, and one of its id behind the decision: each goes by the first decision behind it
voted_again : short (Voted (id 0 1) both (Write 1 (6 ∷ []) ∷ []) ∷ Decided (id 0 1) false ∷ Voted (id 0 1) both (Write 1 (7 ∷ []) ∷ []) ∷ Decided (id 0 1) true ∷ Decided (id 0 1) false ∷ [])
    ≡ Voted (id 0 1) both (Read 1 1 ∷ []) ∷ Decided (id 0 1) false ∷ Voted (id 0 1) both (Write 1 (7 ∷ []) ∷ []) ∷ Decided (id 0 1) true ∷ Decided (id 0 1) false ∷ []
voted_again = refl

-- Shortening a list that begins with a shortened one gives other records than shortening it at
-- once: the vote's first item is then another

abbrev first : List Record
first = Voted (id 0 1) both (Compare 1 (0 ∷ []) ∷ Write 2 (7 ∷ []) ∷ []) ∷ Decided (id 0 1) true ∷ []

abbrev second : List Record
second = Executed (id 0 2) (Write 2 (8 ∷ []) ∷ []) ∷ []

at_once : short (first ++ second)
    ≡ Voted (id 0 1) both (Read 1 1 ∷ []) ∷ Decided (id 0 1) true ∷ Executed (id 0 2) (Write 2 (8 ∷ []) ∷ []) ∷ []
at_once = refl

in_two_steps : short (short first ++ second)
    ≡ Voted (id 0 1) both (Read 2 1 ∷ []) ∷ Decided (id 0 1) true ∷ Executed (id 0 2) (Write 2 (8 ∷ []) ∷ []) ∷ []
in_two_steps = refl

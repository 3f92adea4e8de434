-- What a minitransaction means: on a memory of one list of bytes for each node, all at once.
use Rattle.std.specs.Prelude.{ℕ, zero, suc, ◌+◌, List, [], ◌∷◌, length, take, drop, Option, Some}
use Rattle.std.specs.Prelude.{None, if◌then◌else◌, slice_index_or, slice_set, bytes_eq}
use Rattle.mn_base.specs.declared.ids.NodeNo.{NodeNo}
use Rattle.mn_mini.specs.declared.item.Item.{Item}
use Rattle.mn_mini.specs.declared.item.Item.TheVariants.{Compare, Read, Write}
use Rattle.mn_mini.specs.declared.part.PartItem.{PartItem}
use Rattle.mn_mini.specs.declared.part.PartItem.TheVariants as Bare
use Rattle.mn_mini.specs.Mini.{Mini}

-- the bytes of a range of a space
abbrev pub bytes_in : List ℕ → ℕ → ℕ → List ℕ
bytes_in space start length = take length (drop start space)

-- the space with these bytes in place; its length stays
abbrev pub overwritten : List ℕ → ℕ → List ℕ → List ℕ
overwritten [] start bytes = []
overwritten (x ∷ space) zero [] = x ∷ space
overwritten (x ∷ space) zero (b ∷ bytes) = b ∷ overwritten space zero bytes
overwritten (x ∷ space) (suc start) bytes = x ∷ overwritten space start bytes

-- a compare item that differs: its number among the compares, and the bytes in place
pub record Mismatched : Type 0 where
  pub item : ℕ
  pub found : List ℕ

-- A memory

-- the space of a node
abbrev pub space_in : List (List ℕ) → NodeNo → List ℕ
space_in memory n = slice_index_or memory n.0 []

-- the first compare item that differs, where i compares stand before these items
abbrev pub mismatch_from : List (List ℕ) → ℕ → List Item → Option Mismatched
mismatch_from memory i [] = None
mismatch_from memory i (Compare node start bytes ∷ items) =
    if bytes_eq (bytes_in (space_in memory node) start (length bytes)) bytes
    then mismatch_from memory (i + 1) items
    else Some (record { item = i; found = bytes_in (space_in memory node) start (length bytes) })
mismatch_from memory i (Read node start length ∷ items) = mismatch_from memory i items
mismatch_from memory i (Write node start bytes ∷ items) = mismatch_from memory i items

-- the bytes of the read items
abbrev pub reads_in : List (List ℕ) → List Item → List (List ℕ)
reads_in memory [] = []
reads_in memory (Compare node start bytes ∷ items) = reads_in memory items
reads_in memory (Read node start length ∷ items) =
    bytes_in (space_in memory node) start length ∷ reads_in memory items
reads_in memory (Write node start bytes ∷ items) = reads_in memory items

-- the memory with the write items in place
abbrev pub memory_after : List (List ℕ) → List Item → List (List ℕ)
memory_after memory [] = memory
memory_after memory (Compare node start bytes ∷ items) = memory_after memory items
memory_after memory (Read node start length ∷ items) = memory_after memory items
memory_after memory (Write node start bytes ∷ items) =
    memory_after (slice_set memory node.0 (overwritten (space_in memory node) start bytes)) items

-- what a minitransaction does to a memory
pub data Outcome : Type 0 where
  Committed : (reads : List (List ℕ)) → (memory : List (List ℕ)) → Outcome
  Mismatch : (at : Mismatched) → Outcome

abbrev pub unless_mismatched : List (List ℕ) → Mini → Option Mismatched → Outcome
unless_mismatched memory mini (Some at) = Mismatch at
unless_mismatched memory mini None =
    Committed (reads_in memory mini.items) (memory_after memory mini.items)

-- all compare items equal the bytes in place: the reads, and the memory with all writes. Else the
-- first that differs
abbrev pub outcome_on : List (List ℕ) → Mini → Outcome
outcome_on memory mini = unless_mismatched memory mini (mismatch_from memory 0 mini.items)

-- A part on the space of its node, by the same words

abbrev pub part_mismatch_from : List ℕ → ℕ → List PartItem → Option Mismatched
part_mismatch_from space i [] = None
part_mismatch_from space i (Bare.Compare start bytes ∷ items) =
    if bytes_eq (bytes_in space start (length bytes)) bytes
    then part_mismatch_from space (i + 1) items
    else Some (record { item = i; found = bytes_in space start (length bytes) })
part_mismatch_from space i (Bare.Read start length ∷ items) = part_mismatch_from space i items
part_mismatch_from space i (Bare.Write start bytes ∷ items) = part_mismatch_from space i items

abbrev pub part_reads : List ℕ → List PartItem → List (List ℕ)
part_reads space [] = []
part_reads space (Bare.Compare start bytes ∷ items) = part_reads space items
part_reads space (Bare.Read start length ∷ items) =
    bytes_in space start length ∷ part_reads space items
part_reads space (Bare.Write start bytes ∷ items) = part_reads space items

abbrev pub space_after_part : List ℕ → List PartItem → List ℕ
space_after_part space [] = space
space_after_part space (Bare.Compare start bytes ∷ items) = space_after_part space items
space_after_part space (Bare.Read start length ∷ items) = space_after_part space items
space_after_part space (Bare.Write start bytes ∷ items) =
    space_after_part (overwritten space start bytes) items

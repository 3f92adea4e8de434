-- Writes of held parts, at the places of pages and entries of a node: whether each writes the whole
-- place, with a greater number than the space has there.
use Rattle.std.specs.Prelude.{ℕ, ◌≡◌, ◌+◌, ◌-◌, ◌%◌, ◌<◌, Bool, true, ◌&&◌, ◌||◌, nat_lt, nat_le}
use Rattle.std.specs.Prelude.{nat_eq, List, length, take, drop}
use Rattle.std.specs.List.{AllByRecursion}
use Rattle.mn_base.specs.declared.ids.NodeNo.{NodeNo}
use Rattle.mn_mini.specs.declared.part.PartItem.{PartItem}
use Rattle.mn_mini.specs.declared.part.PartItem.TheVariants.{Compare, Read, Write}
use Rattle.mn_page.specs.Space.{catalog_start, catalog_size, entry_size, slots_start, slot_size}
use Rattle.mn_page.specs.Space.{space_length}
use Rattle.mn_runs.specs.Seen.{Place}
use Rattle.mn_law.specs.Places.{IsNumbered, WritesWhole, content_in, number_in}

-- in words

abbrev pub PartRises : NodeNo → List ℕ → List PartItem → Type 0
PartRises n space part =
    (place : Place) → IsNumbered place → place.node ≡ n
    → AllByRecursion (WritesWhole place (λ bytes.
    number_in (content_in space place) < number_in bytes)) part

-- as it is computed

-- a write that meets one of the places of one size, which stand one after another from `first` to
-- `behind`, is just that place, with a greater number
abbrev pub rises : List ℕ → ℕ → ℕ → ℕ → ℕ → List ℕ → Bool
rises space first behind size at bytes =
    (nat_le (at + length bytes) first || (nat_le behind at || nat_eq (length bytes) 0))
    || (nat_eq (length bytes) size && (nat_le first at && (nat_eq ((at - first) % size) 0
    && (nat_le (at + length bytes) (length space)
    && nat_lt (number_in (take (length bytes) (drop at space))) (number_in bytes)))))

-- slots and entries are of the same places on each node
abbrev pub item_rises : List ℕ → PartItem → Bool
item_rises space (Compare start bytes) = true
item_rises space (Read start length) = true
item_rises space (Write start bytes) =
    rises space slots_start space_length slot_size start bytes
    && rises space catalog_start (catalog_start + catalog_size) entry_size start bytes

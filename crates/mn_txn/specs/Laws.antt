-- The laws of plans that follow from what a plan is. Each public law function has one of these as
-- its contract.
use Rattle.std.specs.Prelude.{Bool, nat_eq, filter, ℕ, ◌≡◌, ◌↔◌, IsTrue, List, length, map}
use Rattle.std.specs.Prelude.{Contains, take}
use Rattle.std.specs.List.{AllByRecursion}
use Rattle.mn_base.specs.declared.ids.NodeNo.{NodeNo}
use Rattle.mn_mini.specs.declared.item.Item.{Item}
use Rattle.mn_mini.specs.declared.item.Item.TheVariants.{Compare, Read, Write}
use Rattle.mn_page.specs.Space.{count_start}
use Rattle.mn_runs.specs.declared.entry.Entry.{Entry}
use Rattle.mn_runs.specs.Seen.{Place}
use Rattle.mn_law.specs.Places.{IsNumbered, number_size}
use Rattle.mn_law.specs.Shown.{ShowsLast}
use Rattle.mn_law.specs.Planned.{place_rank, compare_places, write_places, are_in_order}
use Rattle.mn_law.specs.Planned.{IsNextNumber}
use Rattle.mn_txn.specs.declared.image.Image.{Image}
use Rattle.mn_txn.specs.State.{State, image, ImagesAreApart}
use Rattle.mn_txn.specs.Order.{in_item_order}
use Rattle.mn_txn.specs.Plan.{plan_of}

-- the place of an image, with its length
abbrev pub image_place : Image → Place
image_place i = record { node = i.node; start = i.start; length = length i.bytes }

-- the range of its first 8 bytes
abbrev pub image_front : Image → Place
image_front i =
    record { node = i.node; start = i.start; length = length (take number_size i.bytes) }

-- Each image but that of a count is of the place of a page or an entry, and the list has shown its
-- bytes last, of those with its number
abbrev pub ReadsAreShown : List Entry → List Image → Type 0
ReadsAreShown es images =
    AllByRecursion (λ i. (i.start ≡ count_start → ⊥) → IsNumbered (image_place i)
    × ShowsLast es (image_place i) (take number_size i.bytes) i.bytes) images

-- Order

abbrev pub PlansAreInOrder : Type 0
PlansAreInOrder =
    (t : State) → ImagesAreApart t.reads → ImagesAreApart t.writes
    → IsTrue (are_in_order (plan_of t).items)

-- it stands in a slot
abbrev pub is_page : Image → Bool
is_page i = nat_eq (place_rank i.start) 0

-- the pages stand as they joined
abbrev pub PagesStay : Type 0
PagesStay = (images : List Image) → filter is_page (in_item_order images) ≡ filter is_page images

-- Places

-- what is compared is what was read, and what is written is what is to be written
abbrev pub PlansNameTheirPlaces : Type 0
PlansNameTheirPlaces =
    (t : State) → (compare_places (plan_of t) ≡ map image_front (in_item_order t.reads))
    × (write_places (plan_of t) ≡ map image_place (in_item_order t.writes))

abbrev pub PlansNameNoOther : Type 0
PlansNameNoOther =
    (t : State) (place : Place)
    → (Contains (compare_places (plan_of t)) place ↔ Contains (map image_front t.reads) place)
    × (Contains (write_places (plan_of t)) place ↔ Contains (map image_place t.writes) place)

-- Items

-- a compare of the first 8 of bytes that were read, or a write of bytes that are to be written
abbrev pub IsItemOf : State → Item → Type 0
IsItemOf t (Compare node start bytes) =
    (whole : List ℕ) × Contains t.reads (image node start whole) × (bytes ≡ take number_size whole)
IsItemOf t (Read node start length) = ⊥
IsItemOf t (Write node start bytes) = Contains t.writes (image node start bytes)

abbrev pub PlansHoldTheirBytes : Type 0
PlansHoldTheirBytes = (t : State) → AllByRecursion (IsItemOf t) (plan_of t).items

-- Numbers

-- each page or entry that was read and is to be written gets the next number
abbrev pub HasNextNumbers : State → Type 0
HasNextNumbers t =
    (node : NodeNo) (start : ℕ) (old new : List ℕ) → Contains t.reads (image node start old)
    → Contains t.writes (image node start new) → (start ≡ count_start → ⊥)
    → IsNextNumber old new

-- so does each that the plan compares and writes
abbrev pub PlansCountOn : Type 0
PlansCountOn =
    (t : State) → HasNextNumbers t
    → (node : NodeNo) (start : ℕ) (old new : List ℕ)
    → Contains (plan_of t).items (Compare node start old)
    → Contains (plan_of t).items (Write node start new) → (start ≡ count_start → ⊥)
    → IsNextNumber old new

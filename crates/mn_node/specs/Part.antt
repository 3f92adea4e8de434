-- The ranges of a part, as locks take them, and what a part finds in the space.
use Rattle.std.specs.Prelude.{◌≡◌, List, [], ◌∷◌, reverse, Option, Some, None, ⊤}
use Rattle.std.specs.List.{flat_map, AllByRecursion}
use Rattle.mn_base.specs.declared.ids.Range.{Range}
use Rattle.mn_mini.specs.declared.part.PartItem.{PartItem}
use Rattle.mn_mini.specs.declared.part.PartItem.TheVariants.{Compare, Read, Write}
use Rattle.mn_mini.specs.Mini.{range_of}
use Rattle.mn_mini.specs.Flat.{Mismatched}
use Rattle.mn_mini.specs.Node.{HeldPart, Clash}
use Rattle.mn_mini.specs.RecordGrammar.{IsPartItem}
use Rattle.mn_locks.specs.declared.hold.Hold.{Hold}
use Rattle.mn_locks.specs.declared.hold.Held.{Held}
use Rattle.mn_locks.specs.Locks.{holds_of}
use Rattle.mn_node.specs.declared.part.Mismatch.{Mismatch}

-- the ranges that are compared or read, which are held shared
abbrev pub shared_of : List PartItem → List Range
shared_of [] = []
shared_of (Compare start bytes ∷ items) = range_of (Compare start bytes) ∷ shared_of items
shared_of (Read start length ∷ items) = range_of (Read start length) ∷ shared_of items
shared_of (Write start bytes ∷ items) = shared_of items

-- the ranges that are written, which are held alone
abbrev pub alone_of : List PartItem → List Range
alone_of [] = []
alone_of (Compare start bytes ∷ items) = alone_of items
alone_of (Read start length ∷ items) = alone_of items
alone_of (Write start bytes ∷ items) = range_of (Write start bytes) ∷ alone_of items

-- what is held by a held part
abbrev pub part_holds : HeldPart → List Hold
part_holds h = holds_of h.tid (shared_of h.part) (alone_of h.part)

-- what is held by held parts, which stand newest first; the oldest first
abbrev pub holds_by : List HeldPart → List Hold
holds_by hs = flat_map part_holds (reverse hs)

-- all items lie in the space
abbrev pub AreInside : List PartItem → Type 0
AreInside items = AllByRecursion IsPartItem items

-- the code found this mismatch, or none
abbrev pub IsMismatch : Option Mismatched → Option Mismatch → Type 0
IsMismatch None None = ⊤
IsMismatch None (Some found) = ⊥
IsMismatch (Some at) None = ⊥
IsMismatch (Some at) (Some found) = (found.item ≡ at.item) × (found.found ≡ at.found)

-- what the table refuses, as a node tells it
abbrev pub as_clash : Option Held → Option Clash
as_clash None = None
as_clash (Some held) = Some (record { range = held.range; holder = held.holder })

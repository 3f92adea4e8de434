-- Items, of which a lone one lies in place.
use Rattle.std.specs.Prelude.{List, [], ◌∷◌}
use Rattle.mn_mini.specs.declared.item.Item.{Item}
use Rattle.mn_mini.specs.declared.item.Held.{Held as HeldItems}
use Rattle.mn_mini.specs.declared.item.Held.TheVariants as items
use Rattle.mn_mini.specs.declared.part.PartItem.{PartItem}
use Rattle.mn_mini.specs.declared.part.Held.{Held as HeldPart}
use Rattle.mn_mini.specs.declared.part.Held.TheVariants as part

-- of a minitransaction
abbrev pub items_in : HeldItems → List Item
items_in (items.Lone item) = item ∷ []
items_in (items.Shared list) = list.value.items

-- of a node's part
abbrev pub part_items_in : HeldPart → List PartItem
part_items_in (part.Lone item) = item ∷ []
part_items_in (part.Shared list) = list.value.items

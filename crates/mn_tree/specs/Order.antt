-- In which order the pages of a plan stand, and which slots the new ones get.
use Rattle.std.specs.Prelude.{ℕ, ◌+◌, slice_index_or, Bool, false, nat_eq, List, [], ◌∷◌, ◌++◌, map}
use Rattle.std.specs.Prelude.{filter, Option, Some, None, if◌then◌else◌}
use Rattle.std.specs.List.{list_any, flat_map, range_with_len}
use Rattle.mn_base.specs.Ids.{addr_same}
use Rattle.mn_base.specs.declared.ids.Addr.{Addr}
use Rattle.mn_page.specs.declared.page.Page.{Page}
use Rattle.mn_page.specs.Overlay.{Held, held_at, new_addr, placed_old, placed_new}
use Rattle.mn_page.specs.SlotOrder.{stands_first}
use Rattle.mn_tree.specs.State.{Drafted}

abbrev pub both_stand : Option Page → Option Page → Bool
both_stand None q = false
both_stand (Some p) None = false
both_stand (Some p) (Some q) = stands_first p q

-- the new page of the first number stands before that of the second
abbrev pub precedes : List Held → ℕ → ℕ → Bool
precedes pages n m = both_stand (held_at pages (new_addr n)) (held_at pages (new_addr m))

-- a further number before the first one that it precedes
abbrev pub with_number : List Held → ℕ → List ℕ → List ℕ
with_number pages n [] = n ∷ []
with_number pages n (m ∷ ms) = if precedes pages n m then n ∷ m ∷ ms else m ∷ with_number pages n ms

-- further numbers, one after another
abbrev pub with_numbers : List Held → List ℕ → List ℕ → List ℕ
with_numbers pages order [] = order
with_numbers pages order (n ∷ ns) = with_numbers pages (with_number pages n order) ns

-- the new pages by number, in the order in which slots are asked for: from the leaves upwards, at
-- one height from left to right
abbrev pub new_order : Drafted → List ℕ
new_order d = with_numbers d.overlay.pages [] (range_with_len 0 d.overlay.fresh)

-- how many stand before the number
abbrev pub place_in : List ℕ → ℕ → ℕ
place_in [] n = 0
place_in (m ∷ ms) n = if nat_eq m n then 0 else place_in ms n + 1

-- the slot of a new page: the slots stand in the order of the new pages
abbrev pub slot_of : List ℕ → List Addr → ℕ → Addr
slot_of order slots n = slice_index_or slots (place_in order n) (new_addr n)

-- the slots by the number of the new page
abbrev pub slots_by_number : List ℕ → List Addr → ℕ → List Addr
slots_by_number order slots fresh = map (slot_of order slots) (range_with_len 0 fresh)

abbrev pub is_changed : List Addr → Addr → Bool
is_changed changed addr = list_any (λ a. addr_same a addr) changed

-- the changed old pages in the order in which they joined the read set
abbrev pub changed_order : Drafted → List Addr
changed_order d = filter (is_changed d.overlay.changed) d.read

abbrev pub pair_of : Held → Addr × Page
pair_of h = (h.addr, h.page)

abbrev pub old_pages : List Addr → List Held → List Addr → List (Addr × Page)
old_pages by pages addrs = map pair_of (flat_map (placed_old by pages) addrs)

abbrev pub new_pages : List Addr → List Held → List ℕ → List (Addr × Page)
new_pages by pages order = map pair_of (flat_map (placed_new by pages) order)

-- the changed pages, then the new ones, each with its next number and at its place
abbrev pub placed : List Addr → Drafted → List (Addr × Page)
placed slots d =
    let by = slots_by_number (new_order d) slots d.overlay.fresh in
    old_pages by d.overlay.pages (changed_order d) ++ new_pages by d.overlay.pages (new_order d)

-- What a plan writes and where, and how much a try reads and makes, whatever pages came in.
use Rattle.std.specs.Prelude.{ℕ, ◌≡◌, ◌≤◌, ◌<◌, true, List, ◌++◌, length, map, Option}
use Rattle.std.specs.List.{AllByRecursion}
use Rattle.mn_base.specs.declared.ids.Addr.{Addr}
use Rattle.mn_base.specs.declared.ids.VersionNo.{VersionNo}
use Rattle.mn_page.specs.Space.{slot_size}
use Rattle.mn_page.specs.Grammar.{IsAddr, page_bytes}
use Rattle.mn_page.specs.Overlay.{Held}
use Rattle.mn_tree.specs.State.{Drafted, no_pages}
use Rattle.mn_tree.specs.Order.{changed_order, placed}
use Rattle.mn_tree.specs.Laws.{held_pair}
use Rattle.mn_tree.specs.Trees.{is_noted}
use Rattle.mn_tree.specs.Moves.{Move, LeadsTo, done_in, leaves_at}
use Rattle.mn_tree.specs.MoveLaws.{IsStep}

-- at most 16 steps read and make few pages: one that comes in is at most 14 high, and with 16
-- further children the root splits three times at most
abbrev pub MovesAreFew : Type 0
MovesAreFew =
    (parents : List (Option ℕ)) (v : VersionNo) (root : Addr) (moves : List Move) (d : Drafted)
    → IsAddr root → LeadsTo parents v root no_pages moves d → length (done_in moves) ≤ 16
    → (length d.read ≤ 241) × (d.overlay.fresh ≤ 518)

-- where a step is done, some leaf of the read set was touched
abbrev pub MovesTouchLeaves : Type 0
MovesTouchLeaves =
    (parents : List (Option ℕ)) (v : VersionNo) (root : Addr) (moves : List Move) (d : Drafted)
    → LeadsTo parents v root no_pages moves d → 1 ≤ length (done_in moves)
    → (addr : Addr) × (is_noted (leaves_at moves d.read) addr ≡ true)

-- the pages of a plan: the changed ones as they joined the read set, then the new ones in the slots
pub record ArePut (d : Drafted) (slots : List Addr) : Type 0 where
  pub changed : List Held
  pub new : List Held
  pub are : map held_pair (placed slots d) ≡ changed ++ new
  pub in_order : map (λ h. h.addr) changed ≡ changed_order d
  pub in_slots : map (λ h. h.addr) new ≡ slots

abbrev pub PlacedArePut : Type 0
PlacedArePut =
    (parents : List (Option ℕ)) (v : VersionNo) (root : Addr) (moves : List Move) (d : Drafted)
    (slots : List Addr)
    → LeadsTo parents v root no_pages moves d → length slots ≡ d.overlay.fresh → ArePut d slots

-- each of them is as long as a slot
abbrev pub PlacedFillSlots : Type 0
PlacedFillSlots =
    (parents : List (Option ℕ)) (v : VersionNo) (root : Addr) (moves : List Move) (d : Drafted)
    (slots : List Addr)
    → v.0 < 64 → AllByRecursion IsStep (done_in moves) → LeadsTo parents v root no_pages moves d
    → AllByRecursion (λ h. length (page_bytes h.1) ≡ slot_size) (placed slots d)

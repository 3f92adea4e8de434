-- Lists of images in the order of items.
use Rattle.std.proofs.Common.{◌≡◌, ℕ, ◌+◌, ◌*◌, ◌<◌, List, [], ◌∷◌, ◌++◌, refl, ap, ◌∙◌, if◌then◌else◌}
use Rattle.std.specs.Prelude.{nat_eq, false}
use Rattle.std.specs.List.{AllByRecursion}
use Rattle.std.specs.Ordering.{is_lt}
use Rattle.mn_base.specs.declared.ids.Addr.{Addr}
use Rattle.mn_base.proofs.Lists.{all_append, weaker}
use Rattle.mn_page.specs.declared.page.Page.{Page}
use Rattle.mn_law.specs.Planned.{place_rank}
use Rattle.mn_plans.proofs.Compares.{page_rank, entry_rank}
use Rattle.mn_txn.specs.declared.image.Image.{Image}
use Rattle.mn_txn.specs.declared.image.Turn.{Turn}
use Rattle.mn_txn.specs.Order.{turn_of, turn_cmp, stands_before, placed, in_item_order}
use Rattle.mn_txn.specs.Attempt.{page_image}
use Rattle.mn_txn.proofs.Turns.{IsUp}

-- a list in order stays
pub stays : (xs : List Image) → IsUp xs → in_item_order xs ≡ xs
stays [] up = refl
stays (x ∷ xs) up = ap (placed x) (stays xs up.1) ∙ first xs up.0
  where
    first : (ys : List Image) → AllByRecursion (λ y. stands_before y x ≡ false) ys → placed x ys ≡ x ∷ ys
    first [] all = refl
    first (y ∷ ys) all = ap (λ b. if b then y ∷ placed x ys else x ∷ y ∷ ys) all.0

-- Turns

abbrev pub page_turn : Turn
page_turn = record { rank = 0; node = 0; start = 0 }

abbrev pub entry_turn : ℕ → ℕ → Turn
entry_turn n v = record { rank = 1; node = n; start = 64 + 64 * v }

abbrev pub count_turn : ℕ → Turn
count_turn n = record { rank = 2; node = n; start = 16 }

pub page_is : (addr : Addr) (p : Page) → turn_of (page_image addr p) ≡ page_turn
page_is addr p = ap (λ r. if nat_eq r 0 then page_turn else (let t : Turn = record { rank = r; node = addr.node.0; start = 20480 + 1024 * addr.slot } in t)) (page_rank addr.slot)

-- an image at the place of an entry
pub entry_is : (v : ℕ) (i : Image) → i.start ≡ 64 + 64 * v → v < 64 → turn_of i ≡ entry_turn i.node.0 v
entry_is v i at few =
    ap (λ s. if nat_eq (place_rank s) 0 then page_turn else (let t : Turn = record { rank = place_rank s; node = i.node.0; start = s } in t)) at
    ∙ ap (λ r. if nat_eq r 0 then page_turn else (let t : Turn = record { rank = r; node = i.node.0; start = 64 + 64 * v } in t)) (entry_rank v few)

-- a later image doesn't stand before an earlier one
pub late : (a b : Image) (s t : Turn) → turn_of a ≡ s → turn_of b ≡ t → is_lt (turn_cmp t s) ≡ false → stands_before b a ≡ false
late a b s t e f off = ap (λ x. is_lt (turn_cmp (turn_of b) x)) e ∙ (ap (λ y. is_lt (turn_cmp y s)) f ∙ off)

-- Turns of lists

abbrev pub HaveTurn : Turn → List Image → Type 0
HaveTurn t xs = AllByRecursion (λ x. turn_of x ≡ t) xs

-- none of these stands before the image
abbrev pub AreLate : List Image → Image → Type 0
AreLate ys x = AllByRecursion (λ y. stands_before y x ≡ false) ys

-- those of a later turn are late
pub late_all : (x : Image) (s t : Turn) (ys : List Image) → turn_of x ≡ s → HaveTurn t ys
    → is_lt (turn_cmp t s) ≡ false → AreLate ys x
late_all x s t [] e all off = tt
late_all x s t (y ∷ ys) e all off = (late x y s t e all.0 off, late_all x s t ys e all.1 off)

-- and behind each of a list
pub late_each : (P : Image → Type 0) (ys : List Image) → ((x : Image) → P x → AreLate ys x)
    → (xs : List Image) → AllByRecursion P xs → AllByRecursion (λ x. AreLate ys x) xs
late_each P ys each xs all = weaker P (λ x. AreLate ys x) each xs all

-- two lists in order, of which the second is late
pub up_append : (xs ys : List Image) → IsUp xs → IsUp ys → AllByRecursion (λ x. AreLate ys x) xs
    → IsUp (xs ++ ys)
up_append [] ys u v late = v
up_append (x ∷ xs) ys u v late = (all_append (λ y. stands_before y x ≡ false) xs ys u.0 late.0, up_append xs ys u.1 v late.1)

-- pages are in order however they stand
pub pages_up : (xs : List Image) → HaveTurn page_turn xs → IsUp xs
pages_up [] all = tt
pages_up (x ∷ xs) all = (late_all x page_turn page_turn xs all.0 all.1 refl, pages_up xs all.1)

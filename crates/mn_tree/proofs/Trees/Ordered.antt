-- Slots in the order of the new pages, and changed pages in that of the read set.
use Rattle.std.proofs.Common.{◌≡◌, ℕ, zero, suc, ◌+◌, ◌<◌, ◌≤◌, ◌⊎◌, inl, inr, Bool, true, false, cond, ◌&&◌, ◌||◌, List, [], ◌∷◌, map, length, Some, refl, sym, ap, ◌∙◌, arith, if◌then◌else◌, slice_get}
use Rattle.std.specs.Prelude.{nat_eq, filter}
use Rattle.std.specs.List.{AllByRecursion, range_with_len}
use Rattle.std.proofs.lemmas.Bool.{eqb-true, eq-eqb, cases_eq}
use Rattle.mn_base.specs.Ids.{addr_same}
use Rattle.mn_base.specs.declared.ids.Addr.{Addr}
use Rattle.mn_base.proofs.Booleans.{clash}
use Rattle.mn_page.specs.Holds.{PagesAt}
use Rattle.mn_page.specs.Overlay.{Held, is_new, new_addr}
use Rattle.mn_tree.specs.Trees.{is_noted}
use Rattle.mn_tree.specs.Order.{precedes, with_number, with_numbers, place_in, slot_of, slots_by_number, is_changed}
use Rattle.mn_tree.specs.Laws.{AreFreeSlots}
use Rattle.mn_tree.proofs.Trees.Puts.{addr_is}
use Rattle.mn_tree.proofs.Trees.Placing.{some_slot, slot_free, slot_once}

-- Numbers in an order

abbrev pub Has : ℕ → List ℕ → Type 0
Has n [] = ⊥
Has n (m ∷ ms) = (m ≡ n) ⊎ Has n ms

has_with : (pages : List Held) (a n : ℕ) (order : List ℕ) → (a ≡ n) ⊎ Has n order → Has n (with_number pages a order)
has_with pages a n [] (inl e) = inl e
has_with pages a n [] (inr has) = absurd has
has_with pages a n (m ∷ ms) has = cases (precedes pages a m) has (has_with pages a n ms)
  where
    cases : (t : Bool) → (a ≡ n) ⊎ ((m ≡ n) ⊎ Has n ms) → ((a ≡ n) ⊎ Has n ms → Has n (with_number pages a ms)) → Has n (if t then a ∷ m ∷ ms else m ∷ with_number pages a ms)
    cases true has rest = has
    cases false (inl e) rest = inr (rest (inl e))
    cases false (inr (inl e)) rest = inl e
    cases false (inr (inr h)) rest = inr (rest (inr h))

length_with : (pages : List Held) (a : ℕ) (order : List ℕ) → length (with_number pages a order) ≡ suc (length order)
length_with pages a [] = refl
length_with pages a (m ∷ ms) = cases (precedes pages a m) (length_with pages a ms)
  where
    cases : (t : Bool) → length (with_number pages a ms) ≡ suc (length ms) → length (if t then a ∷ m ∷ ms else m ∷ with_number pages a ms) ≡ suc (suc (length ms))
    cases true rest = refl
    cases false rest = ap suc rest

pub all_with : (P : ℕ → Type 0) (pages : List Held) (a : ℕ) (order : List ℕ) → P a → AllByRecursion P order → AllByRecursion P (with_number pages a order)
all_with P pages a [] one all = (one, tt)
all_with P pages a (m ∷ ms) one all = cases (precedes pages a m) (all_with P pages a ms one all.1)
  where
    cases : (t : Bool) → AllByRecursion P (with_number pages a ms) → AllByRecursion P (if t then a ∷ m ∷ ms else m ∷ with_number pages a ms)
    cases true rest = (one, all)
    cases false rest = (all.0, rest)

pub has_all : (pages : List Held) (n : ℕ) (order ns : List ℕ) → Has n order ⊎ Has n ns → Has n (with_numbers pages order ns)
has_all pages n order [] (inl has) = has
has_all pages n order [] (inr has) = absurd has
has_all pages n order (a ∷ ns) (inl has) = has_all pages n (with_number pages a order) ns (inl (has_with pages a n order (inr has)))
has_all pages n order (a ∷ ns) (inr (inl e)) = has_all pages n (with_number pages a order) ns (inl (has_with pages a n order (inl e)))
has_all pages n order (a ∷ ns) (inr (inr has)) = has_all pages n (with_number pages a order) ns (inr has)

pub length_all : (pages : List Held) (order ns : List ℕ) → length (with_numbers pages order ns) ≡ length order + length ns
length_all pages order [] = let e : length order ≡ length order + 0 = omega arith in e
length_all pages order (a ∷ ns) =
    let rest = length_all pages (with_number pages a order) ns in
    let one = length_with pages a order in omega arith

pub all_all : (P : ℕ → Type 0) (pages : List Held) (order ns : List ℕ) → AllByRecursion P order → AllByRecursion P ns → AllByRecursion P (with_numbers pages order ns)
all_all P pages order [] all more = all
all_all P pages order (a ∷ ns) all more = all_all P pages (with_number pages a order) ns (all_with P pages a order more.0 all) more.1

pub has_range : (a k n : ℕ) → a ≤ n → n < a + k → Has n (range_with_len a k)
has_range a zero n low high = absurd (omega arith)
has_range a (suc k) n low high = elim (cases_eq a n) as (λ _. (a ≡ n) ⊎ Has n (range_with_len (a + 1) k)) [
  | inl e ↦ inl e
  | inr off ↦ inr (has_range (a + 1) k n (omega (arith, off)) (omega arith))
]

pub length_range : (a k : ℕ) → length (range_with_len a k) ≡ k
length_range a zero = refl
length_range a (suc k) = ap suc (length_range (a + 1) k)

-- where a number stands

pub place_low : (order : List ℕ) (n : ℕ) → Has n order → place_in order n < length order
place_low [] n has = absurd has
place_low (m ∷ ms) n has = cases (nat_eq m n) refl has (place_low ms n)
  where
    cases : (t : Bool) → nat_eq m n ≡ t → (m ≡ n) ⊎ Has n ms → (Has n ms → place_in ms n < length ms) → (if t then 0 else place_in ms n + 1) < suc (length ms)
    cases true e has rest = omega arith
    cases false e (inl same) rest = absurd (clash (nat_eq m n) (eq-eqb m n same) e)
    cases false e (inr h) rest = let l = rest h in omega arith

pub place_once : (order : List ℕ) (n k : ℕ) → Has n order → Has k order → place_in order n ≡ place_in order k → n ≡ k
place_once [] n k has other e = absurd has
place_once (m ∷ ms) n k has other e = cases (nat_eq m n) (nat_eq m k) refl refl has other e (place_once ms n k)
  where
    cases : (s t : Bool) → nat_eq m n ≡ s → nat_eq m k ≡ t → (m ≡ n) ⊎ Has n ms → (m ≡ k) ⊎ Has k ms → (if s then 0 else place_in ms n + 1) ≡ (if t then 0 else place_in ms k + 1) → (Has n ms → Has k ms → place_in ms n ≡ place_in ms k → n ≡ k) → n ≡ k
    cases true true f g has other e rest = sym (eqb-true m n f) ∙ eqb-true m k g
    cases true false f g has other e rest = absurd (omega arith)
    cases false true f g has other e rest = absurd (omega arith)
    cases false false f g (inl same) other e rest = absurd (clash (nat_eq m n) (eq-eqb m n same) f)
    cases false false f g (inr h) (inl same) e rest = absurd (clash (nat_eq m k) (eq-eqb m k same) g)
    cases false false f g (inr h) (inr i) e rest = rest h i (omega arith)

pub has_place : (ns : List ℕ) (n : ℕ) → Has n ns → (i : ℕ) × (slice_get ns i ≡ Some n)
has_place [] n has = absurd has
has_place (m ∷ ms) n (inl e) = (0, ap (λ k. Some k) e)
has_place (m ∷ ms) n (inr has) = let r = has_place ms n has in (suc r.0, r.1)

-- Slots by number

range_apart : (n a k : ℕ) → n < a → AllByRecursion (λ m. m ≡ n → ⊥) (range_with_len a k)
range_apart n a zero low = tt
range_apart n a (suc k) low = (λ e. absurd (omega arith), range_apart n (a + 1) k (omega arith))

pub slots_free : (order : List ℕ) (slots : List Addr) (at : PagesAt) (fresh : ℕ) → length order ≡ fresh → length slots ≡ fresh → ((n : ℕ) → n < fresh → Has n order) → AreFreeSlots slots at → AreFreeSlots (slots_by_number order slots fresh) at
slots_free order slots at fresh many long has free = along 0 fresh (omega arith)
  where
    slot_at : (n : ℕ) → n < fresh → (s : Addr) × (slice_get slots (place_in order n) ≡ Some s) × (slot_of order slots n ≡ s)
    slot_at n low =
        let l = place_low order n (has n low) in
        let r = some_slot slots (place_in order n) (omega arith) in
        (r.0, r.1, r.2 (new_addr n))

    apart : (n m : ℕ) → n < fresh → m < fresh → slot_of order slots m ≡ slot_of order slots n → m ≡ n
    apart n m low other e =
        let r = slot_at n low in
        let s = slot_at m other in
        let same : s.0 ≡ r.0 = sym s.2 ∙ (e ∙ r.2) in
        place_once order m n (has m other) (has n low) (slot_once slots at (place_in order m) (place_in order n) r.0 free (s.1 ∙ ap (λ (x : Addr). Some x) same) r.1)

    each : (n : ℕ) → n < fresh → (ms : List ℕ) → AllByRecursion (λ m. m < fresh) ms → AllByRecursion (λ m. m ≡ n → ⊥) ms → AllByRecursion (λ a. a ≡ slot_of order slots n → ⊥) (map (slot_of order slots) ms)
    each n low [] lows off = tt
    each n low (m ∷ ms) lows off = (λ e. off.0 (apart n m low lows.0 e), each n low ms lows.1 off.1)

    along : (a k : ℕ) → a + k ≤ fresh → AreFreeSlots (map (slot_of order slots) (range_with_len a k)) at
    along a zero high = tt
    along a (suc k) high =
        let r = slot_at a (omega arith) in
        let f = slot_free slots at (place_in order a) r.0 free r.1 in
        (ap at r.2 ∙ f.0, ap is_new r.2 ∙ f.1, each a (omega arith) (range_with_len (a + 1) k) (lower (a + 1) k (omega arith)) (range_apart a (a + 1) k (omega arith)), along (a + 1) k (omega arith))
      where
        lower : (b j : ℕ) → b + j ≤ fresh → AllByRecursion (λ m. m < fresh) (range_with_len b j)
        lower b zero h = tt
        lower b (suc j) h = (omega arith, lower (b + 1) j (omega arith))

-- Changed pages

pub noted_in_order : (changed read : List Addr) (x : Addr) → (is_noted changed x ≡ true → is_noted read x ≡ true) → is_noted (filter (is_changed changed) read) x ≡ is_noted changed x
noted_in_order changed read x joined = picked read ∙ by_note (is_noted changed x) refl
  where
    picked : (rs : List Addr) → is_noted (filter (is_changed changed) rs) x ≡ (is_noted changed x && is_noted rs x)
    picked [] = last (is_noted changed x)
      where
        last : (b : Bool) → false ≡ (b && false)
        last true = refl
        last false = refl
    picked (r ∷ rs) = cases (is_changed changed r) (addr_same r x) refl refl (picked rs)
      where
        cases : (s t : Bool) → is_changed changed r ≡ s → addr_same r x ≡ t → is_noted (filter (is_changed changed) rs) x ≡ (is_noted changed x && is_noted rs x)
            → is_noted (cond s (r ∷ filter (is_changed changed) rs) (filter (is_changed changed) rs)) x ≡ (is_noted changed x && (t || is_noted rs x))
        cases true true e f rest =
            let here : is_noted changed x ≡ true = ap (is_noted changed) (sym (addr_is r x f)) ∙ e in
            ap (λ b. b || is_noted (filter (is_changed changed) rs) x) f ∙ sym (ap (λ b. b && true) here)
        cases true false e f rest = ap (λ b. b || is_noted (filter (is_changed changed) rs) x) f ∙ rest
        cases false true e f rest =
            let here : is_noted changed x ≡ false = ap (is_noted changed) (sym (addr_is r x f)) ∙ e in
            rest ∙ (ap (λ b. b && is_noted rs x) here ∙ sym (ap (λ b. b && true) here))
        cases false false e f rest = rest

    by_note : (b : Bool) → is_noted changed x ≡ b → (is_noted changed x && is_noted read x) ≡ is_noted changed x
    by_note true e = ap (λ b. b && is_noted read x) e ∙ (joined e ∙ sym e)
    by_note false e = ap (λ b. b && is_noted read x) e ∙ sym e

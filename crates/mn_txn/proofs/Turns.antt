-- A stable sort by turns gives the order of items.
use Rattle.std.proofs.Common.{◌≡◌, ℕ, suc, ◌+◌, Bool, true, false, cond, not, ◌&&◌, List, [], ◌∷◌, get_or, filter, refl, sym, ap, subst, ◌∙◌, arith}
use Rattle.std.specs.Bool.{⊤}
use Rattle.std.specs.List.{AllByRecursion}
use Rattle.std.specs.Cmp.{IsStrictWeakOrder, IsTotalOrder}
use Rattle.std.specs.List.Sorted.{IsSortedBy, IsStableBy, ties}
use Rattle.std.proofs.lemmas.Cmp.{nat_cmp_total, on_total, then_total}
use Rattle.std.proofs.lemmas.List.Elements.{recursion_from_All}
use Rattle.std.proofs.lemmas.List.Sorted.{ranks_by, sorted_far}
use Rattle.mn_txn.specs.declared.image.Image.{Image}
use Rattle.mn_txn.specs.declared.image.Turn.{Turn}
use Rattle.mn_txn.specs.Order.{turn_of, turn_cmp, stands_before, placed, in_item_order}

turns_total : IsTotalOrder turn_cmp
turns_total = then_total (on_total (λ (t : Turn). t.rank) nat_cmp_total) (then_total (on_total (λ (t : Turn). t.node) nat_cmp_total) (on_total (λ (t : Turn). t.start) nat_cmp_total))

pub weak : IsStrictWeakOrder stands_before
weak = ranks_by turns_total turn_of

abbrev alike : Image → Image → Bool
alike = ties stands_before

-- A list in order, by recursion

abbrev pub IsUp : List Image → Type 0
IsUp [] = ⊤
IsUp (x ∷ xs) = AllByRecursion (λ y. stands_before y x ≡ false) xs × IsUp xs

pub by_both : {A : Type 0} (b : Bool) → (b ≡ true → A) → (b ≡ false → A) → A
by_both true t f = t refl
by_both false t f = f refl

not_before_itself : (x : Image) → stands_before x x ≡ false
not_before_itself x = by_both (stands_before x x) (λ t. weak.one_way x x t) (λ f. f)

alike_itself : (x : Image) → alike x x ≡ true
alike_itself x = rw (not_before_itself x) refl

alike_from : (x y : Image) → stands_before x y ≡ false → stands_before y x ≡ false → alike x y ≡ true
alike_from x y f g = rw (f, g) refl

from_alike : (x y : Image) → alike x y ≡ true → (stands_before x y ≡ false) × (stands_before y x ≡ false)
from_alike x y h = by (stands_before x y) (stands_before y x) h
  where
    by : (b c : Bool) → (not b && not c) ≡ true → (b ≡ false) × (c ≡ false)
    by true c h = absurd cc
    by false true h = absurd cc
    by false false h = (refl, refl)

-- What a sort gives

pub up_from_sort : (xs : List Image) → IsSortedBy stands_before xs → IsUp xs
up_from_sort [] s = tt
up_from_sort (x ∷ xs) s = (
  recursion_from_All (λ y. stands_before y x ≡ false) xs (λ k d l. sorted_far stands_before weak (x ∷ xs) s 0 (suc k) d (omega arith) (omega (arith, l))),
  up_from_sort xs (λ k d low high.
      let here = s (suc k) d (omega arith) (omega (arith, high)) in
      let next : suc k + 1 ≡ suc (k + 1) = omega arith in
      subst (λ (n : ℕ). stands_before (get_or (x ∷ xs) n d) (get_or (x ∷ xs) (suc k) d) ≡ false) next here),
)

-- The order of items

pub all_placed : (P : Image → Type 0) (i : Image) (xs : List Image) → P i → AllByRecursion P xs → AllByRecursion P (placed i xs)
all_placed P i [] p a = (p, tt)
all_placed P i (x ∷ xs) p a = by (stands_before x i) (all_placed P i xs p a.1)
  where
    by : (b : Bool) → AllByRecursion P (placed i xs) → AllByRecursion P (cond b (x ∷ placed i xs) (i ∷ x ∷ xs))
    by true later = (a.0, later)
    by false later = (p, a)

none_before : (i x : Image) (xs : List Image) → stands_before x i ≡ false → AllByRecursion (λ y. stands_before y x ≡ false) xs → AllByRecursion (λ y. stands_before y i ≡ false) xs
none_before i x [] h a = tt
none_before i x (y ∷ ys) h a = (weak.chain y x i a.0 h, none_before i x ys h a.1)

up_placed : (i : Image) (xs : List Image) → IsUp xs → IsUp (placed i xs)
up_placed i [] u = (tt, tt)
up_placed i (x ∷ xs) u = by (stands_before x i) refl (up_placed i xs u.1)
  where
    by : (b : Bool) → stands_before x i ≡ b → IsUp (placed i xs) → IsUp (cond b (x ∷ placed i xs) (i ∷ x ∷ xs))
    by true t later = (all_placed (λ y. stands_before y x ≡ false) i xs (weak.one_way x i t) u.0, later)
    by false f later = ((f, none_before i x xs f u.0), u)

pub up_in_order : (xs : List Image) → IsUp (in_item_order xs)
up_in_order [] = tt
up_in_order (x ∷ xs) = up_placed x (in_item_order xs) (up_in_order xs)

stable_placed : (z i : Image) (xs : List Image) → filter (alike z) (placed i xs) ≡ filter (alike z) (i ∷ xs)
stable_placed z i [] = refl
stable_placed z i (x ∷ xs) = by (stands_before x i) refl (stable_placed z i xs)
  where
    turned : (b c : Bool) (l : List Image) → alike z x ≡ b → alike z i ≡ c → stands_before x i ≡ true → cond b (x ∷ cond c (i ∷ l) l) (cond c (i ∷ l) l) ≡ cond c (i ∷ cond b (x ∷ l) l) (cond b (x ∷ l) l)
    turned true true l h k t = let never = weak.chain x z i (from_alike z x h).1 (from_alike z i k).0 in absurd cc
    turned true false l h k t = refl
    turned false true l h k t = refl
    turned false false l h k t = refl

    by : (b : Bool) → stands_before x i ≡ b → filter (alike z) (placed i xs) ≡ filter (alike z) (i ∷ xs) → filter (alike z) (cond b (x ∷ placed i xs) (i ∷ x ∷ xs)) ≡ filter (alike z) (i ∷ x ∷ xs)
    by true t later = ap (λ l. cond (alike z x) (x ∷ l) l) later ∙ turned (alike z x) (alike z i) (filter (alike z) xs) refl refl t
    by false f later = refl

stable_in_order : (z : Image) (xs : List Image) → filter (alike z) (in_item_order xs) ≡ filter (alike z) xs
stable_in_order z [] = refl
stable_in_order z (x ∷ xs) = stable_placed z x (in_item_order xs) ∙ ap (λ l. cond (alike z x) (x ∷ l) l) (stable_in_order z xs)

-- Two lists in order with the same ones alike are one

abbrev first_or : Image → List Image → Image
first_or d [] = d
first_or d (z ∷ zs) = z

abbrev rest_of : List Image → List Image
rest_of [] = []
rest_of (z ∷ zs) = zs

head_has : (P : Image → Type 0) (p : Image → Bool) (ys : List Image) (x : Image) (rest : List Image) → AllByRecursion P ys → filter p ys ≡ x ∷ rest → P x
head_has P p [] x rest a e = absurd cc
head_has P p (y ∷ ys) x rest a e = by (p y) (head_has P p ys x rest a.1) e
  where
    by : (b : Bool) → (filter p ys ≡ x ∷ rest → P x) → cond b (y ∷ filter p ys) (filter p ys) ≡ x ∷ rest → P x
    by true later e = subst P (ap (first_or y) e) a.0
    by false later e = later e

kept_first : (p : Image → Bool) (x : Image) (xs : List Image) → p x ≡ true → filter p (x ∷ xs) ≡ x ∷ filter p xs
kept_first p x xs t = ap (λ b. cond b (x ∷ filter p xs) (filter p xs)) t

unkept : (p : Image → Bool) (x : Image) (xs : List Image) → p x ≡ false → filter p (x ∷ xs) ≡ filter p xs
unkept p x xs f = ap (λ b. cond b (x ∷ filter p xs) (filter p xs)) f

-- no one in the list stands before its first
first_up : (y : Image) (ys : List Image) → IsUp (y ∷ ys) → AllByRecursion (λ z. stands_before z y ≡ false) (y ∷ ys)
first_up y ys u = (not_before_itself y, u.0)

same_first : (x y : Image) (xs ys : List Image) → IsUp (x ∷ xs) → IsUp (y ∷ ys) → ((z : Image) → filter (alike z) (x ∷ xs) ≡ filter (alike z) (y ∷ ys)) → x ≡ y
same_first x y xs ys u v h =
    let x_late = head_has (λ z. stands_before z y ≡ false) (alike x) (y ∷ ys) x (filter (alike x) xs) (first_up y ys v) (sym (h x) ∙ kept_first (alike x) x xs (alike_itself x)) in
    let y_late = head_has (λ z. stands_before z x ≡ false) (alike y) (x ∷ xs) y (filter (alike y) ys) (first_up x xs u) (h y ∙ kept_first (alike y) y ys (alike_itself y)) in
    ap (first_or x) (sym (kept_first (alike x) x xs (alike_itself x)) ∙ h x ∙ kept_first (alike x) y ys (alike_from x y x_late y_late))

same_rest : (x : Image) (xs ys : List Image) → ((z : Image) → filter (alike z) (x ∷ xs) ≡ filter (alike z) (x ∷ ys)) → (z : Image) → filter (alike z) xs ≡ filter (alike z) ys
same_rest x xs ys h z = by_both (alike z x)
    (λ t. ap rest_of (sym (kept_first (alike z) x xs t) ∙ h z ∙ kept_first (alike z) x ys t))
    (λ f. sym (unkept (alike z) x xs f) ∙ h z ∙ unkept (alike z) x ys f)

same_order : (xs ys : List Image) → IsUp xs → IsUp ys → ((z : Image) → filter (alike z) xs ≡ filter (alike z) ys) → xs ≡ ys
same_order [] [] u v h = refl
same_order [] (y ∷ ys) u v h = let none = h y ∙ kept_first (alike y) y ys (alike_itself y) in absurd cc
same_order (x ∷ xs) [] u v h = let none = sym (h x) ∙ kept_first (alike x) x xs (alike_itself x) in absurd cc
same_order (x ∷ xs) (y ∷ ys) u v h =
    let e = same_first x y xs ys u v h in
    let k = subst (λ (w : Image). (z : Image) → filter (alike z) (x ∷ xs) ≡ filter (alike z) (w ∷ ys)) (sym e) h in
    ap (λ l. x ∷ l) (same_order xs ys u.1 v.1 (same_rest x xs ys k)) ∙ ap (λ w. w ∷ ys) e

-- what a stable sort by turns leaves
pub sorted_is : (xs ys : List Image) → IsSortedBy stands_before ys → IsStableBy stands_before xs ys → ys ≡ in_item_order xs
sorted_is xs ys s t = same_order ys (in_item_order xs) (up_from_sort ys s) (up_in_order xs) (λ z. t z ∙ sym (stable_in_order z xs))

-- Ids put in order, each once.
use Rattle.std.proofs.Common.{◌≡◌, ℕ, Bool, true, false, cond, ◌&&◌, ◌||◌, nat_eq, List, [], ◌∷◌, refl, arith}
use Rattle.std.specs.Prelude.{nat_lt}
use Rattle.std.specs.Cmp.{IsTotalOrder}
use Rattle.std.specs.List.{AllByRecursion}
use Rattle.std.specs.List.Sorted.{IsStrictlySortedBy}
use Rattle.std.specs.Ordering.{eq_by_cmp, is_eq, nat_cmp, ordering_then}
use Rattle.std.specs.declared.cmp.Ordering.{Ordering}
use Rattle.std.specs.declared.cmp.Ordering.TheVariants.{Less, Equal, Greater}
use Rattle.std.proofs.lemmas.Bool.Decides.{nat_tests}
use Rattle.std.proofs.lemmas.Cmp.{nat_cmp_total, on_total, then_total}
use Rattle.mn_base.specs.Ids.{tid_lt, tid_same}
use Rattle.mn_base.specs.declared.ids.Tid.{Tid}
use Rattle.mn_callers.specs.Closing.{AreInOrder}

-- by run, then by client, then by serial
abbrev pub id_cmp : Tid → Tid → Ordering
id_cmp a b = ordering_then (nat_cmp a.run b.run) (ordering_then (nat_cmp a.client.0 b.client.0) (nat_cmp a.serial b.serial))

pub ids_total : IsTotalOrder id_cmp
ids_total = then_total (on_total (λ (t : Tid). t.run) nat_cmp_total) (then_total (on_total (λ (t : Tid). t.client.0) nat_cmp_total) (on_total (λ (t : Tid). t.serial) nat_cmp_total))

below_by : (l e m f n g : Bool)
    → ordering_then (cond l Less (cond e Equal Greater)) (ordering_then (cond m Less (cond f Equal Greater)) (cond n Less (cond g Equal Greater))) ≡ Less
    → (l || (e && (m || (f && n)))) ≡ true
below_by true e m f n g h = refl
below_by false true true f n g h = refl
below_by false true false true true g h = refl
below_by false true false true false true h = absurd cc
below_by false true false true false false h = absurd cc
below_by false true false false n g h = absurd cc
below_by false false m f n g h = absurd cc

below : (a b : Tid) → id_cmp a b ≡ Less → tid_lt a b ≡ true
below a b = below_by (nat_lt a.run b.run) (nat_eq a.run b.run) (nat_lt a.client.0 b.client.0) (nat_eq a.client.0 b.client.0) (nat_lt a.serial b.serial) (nat_eq a.serial b.serial)

all_below : (t : Tid) (ts : List Tid) → AllByRecursion (λ u. id_cmp t u ≡ Less) ts → AllByRecursion (λ u. tid_lt t u ≡ true) ts
all_below t [] a = tt
all_below t (u ∷ ts) a = (below t u a.0, all_below t ts a.1)

pub in_order : (ts : List Tid) → IsStrictlySortedBy id_cmp ts → AreInOrder ts
unfolding IsStrictlySortedBy
in_order [] s = tt
in_order (t ∷ ts) s = (all_below t ts s.0, in_order ts s.1)

-- An id is as another where neither is below the other

ties_by : (l e m f n g : Bool) → (e ≡ true → l ≡ false) → (f ≡ true → m ≡ false) → (g ≡ true → n ≡ false)
    → (e && (f && g)) ≡ is_eq (ordering_then (cond l Less (cond e Equal Greater)) (ordering_then (cond m Less (cond f Equal Greater)) (cond n Less (cond g Equal Greater))))
ties_by true true m f n g a b c = absurd (let h : true ≡ false = a refl in cc)
ties_by true false m f n g a b c = refl
ties_by false false m f n g a b c = refl
ties_by false true true true n g a b c = absurd (let h : true ≡ false = b refl in cc)
ties_by false true true false n g a b c = refl
ties_by false true false false n g a b c = refl
ties_by false true false true true true a b c = absurd (let h : true ≡ false = c refl in cc)
ties_by false true false true true false a b c = refl
ties_by false true false true false true a b c = refl
ties_by false true false true false false a b c = refl

not_below : (a b : ℕ) → nat_eq a b ≡ true → nat_lt a b ≡ false
not_below a b e = grind (arith, nat_tests, e)

pub ids_tie : (a b : Tid) → tid_same a b ≡ eq_by_cmp id_cmp a b
ids_tie a b =
    ties_by (nat_lt a.run b.run) (nat_eq a.run b.run) (nat_lt a.client.0 b.client.0) (nat_eq a.client.0 b.client.0) (nat_lt a.serial b.serial) (nat_eq a.serial b.serial)
    (not_below a.run b.run) (not_below a.client.0 b.client.0) (not_below a.serial b.serial)

use Rattle.std.proofs.Common.{◌≡◌, Bool, true, false, refl, sym, ap, subst}
use Rattle.std.specs.Cmp.{IsEquivalence}
use Rattle.std.proofs.lemmas.List.Filters.{dedup_is}
use Rattle.std.proofs.lemmas.List.Kept.{Contains-dedup, Contains-from_dedup, IsStrictlySortedBy-dedup}
use Rattle.std.proofs.lemmas.List.Sorted.{Contains-permutation, IsPermutation-sym}
use Rattle.mn_base.specs.Ids.{tid_same}
use Rattle.mn_base.specs.declared.ids.Tid.{Tid}
use Rattle.mn_runs.proofs.Same.{tid_same-refl, tid_same-true}
use Rattle.mn_callers.proofs.Ordered.{ids_tie, ids_total, in_order}
use Rattle.mn_callers.proofs.settle.sort_ids.Goals as goal

both_ways : (x y : Bool) → (x ≡ true → y ≡ true) → (y ≡ true → x ≡ true) → x ≡ y
both_ways true y f g = sym (f refl)
both_ways false true f g = g refl
both_ways false false f g = refl

turned : (a b : Tid) → tid_same a b ≡ true → tid_same b a ≡ true
turned a b h = subst (λ (x : Tid). tid_same x a ≡ true) (tid_same-true a b h) (tid_same-refl a)

same_equiv : IsEquivalence tid_same
same_equiv = record {
  refl = tid_same-refl;
  symm = λ a b. both_ways (tid_same a b) (tid_same b a) (λ h. turned a b h) (λ h. turned b a h);
  congr = λ a b c h. ap (λ (x : Tid). tid_same x c) (tid_same-true a b h);
}

pub returns-clause-keeps : goal.returns-clause-keeps
returns-clause-keeps c = λ t h.
    let is = dedup_is tid_same _ _ c.dedup.ensures.filtered in
    rw is (Contains-dedup same_equiv tid_same-true _ t (Contains-permutation _ _ t c.sort_unstable.ensures.permutation h))

pub returns-clause-all : goal.returns-clause-all
returns-clause-all c = λ t h.
    let is = dedup_is tid_same _ _ c.dedup.ensures.filtered in
    Contains-permutation _ _ t (IsPermutation-sym _ _ c.sort_unstable.ensures.permutation) (Contains-from_dedup tid_same _ t (rw is at h))

pub returns-clause-order : goal.returns-clause-order
returns-clause-order c =
    let is = dedup_is tid_same _ _ c.dedup.ensures.filtered in
    rw is (in_order _ (IsStrictlySortedBy-dedup ids_total ids_tie _ c.sort_unstable.ensures.sorted))

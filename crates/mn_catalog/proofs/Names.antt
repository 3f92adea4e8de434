-- The first entry of a name.
use Rattle.std.proofs.Common.{◌≡◌, ℕ, ◌+◌, ◌<◌, ◌≤◌, ◌⊎◌, List, length, get_or, nat_eq, slice_get, Some, refl, sym, ap, ◌∙◌, inl, inr, arith}
use Rattle.std.specs.Bool.{Decides}
use Rattle.std.specs.Cmp.Lexicographic.{pointwise}
use Rattle.std.proofs.lemmas.Bool.Decides.{Decides-eqb}
use Rattle.std.proofs.lemmas.Slice.Eq.{slice_eq-Decides}
use Rattle.std.proofs.lemmas.Option.{get_or_from_slice_get}
use Rattle.mn_base.proofs.Naturals.{below_or}
use Rattle.mn_page.specs.declared.entry.CatEntry.{CatEntry}

-- whether two names are the same
pub decides : (xs ys : List ℕ) → Decides (pointwise nat_eq xs ys) (xs ≡ ys)
decides xs ys = slice_eq-Decides Decides-eqb xs ys (pointwise nat_eq xs ys) refl

-- none of the first so many has the name
abbrev pub NoneBelow : ℕ → List CatEntry → List ℕ → Type 0
NoneBelow m es name = (w : ℕ) (e : CatEntry) → w < m → slice_get es w ≡ Some e → e.name ≡ name → ⊥

pub none_next : (m : ℕ) (es : List CatEntry) (name : List ℕ) (e : CatEntry) → NoneBelow m es name
    → e ≡ get_or es m e → m < length es → (e.name ≡ name → ⊥) → NoneBelow (m + 1) es name
none_next m es name e none here there other w x lt at named = by (below_or w m)
  where
    by : (w < m) ⊎ (m ≤ w) → ⊥
    by (inl low) = none w x low at named
    by (inr high) =
        let is : w ≡ m = omega (arith, lt, high) in
        let same : x ≡ e = sym (get_or_from_slice_get es w x e at) ∙ ap (λ k. get_or es k e) is ∙ sym here in
        other (sym (ap (λ y. y.name) same) ∙ named)

-- The tree of a catalog's versions.
use Rattle.std.proofs.Common.{◌≡◌, ℕ, zero, suc, ◌<◌, ◌⊎◌, inl, inr, List, [], ◌∷◌, ◌++◌, length, map, reverse, Option, Some, None, refl, subst, sym, ap, ◌∙◌, arith, slice_get}
use Rattle.std.specs.Prelude.{option_map}
use Rattle.std.proofs.lemmas.List.{length-reverse, reverse-append, reverse-reverse}
use Rattle.mn_base.specs.Tree.{parents_of}
use Rattle.mn_base.specs.declared.ids.VersionNo.{VersionNo}
use Rattle.mn_page.specs.declared.entry.CatEntry.{CatEntry}
use Rattle.mn_page.specs.Forest.{heads_in, parent_number}
use Rattle.mn_vtree.specs.Parents.{AreLess, IsFirstBad, numbers_of}
use Rattle.mn_law.specs.Answers.{ParentsAreBelow}

same_number : (parent : Option VersionNo) → option_map (λ v. v.0) parent ≡ parent_number parent
same_number None = refl
same_number (Some v) = refl

-- the parents of the entries are those of their heads
pub parents_are : (entries : List CatEntry)
    → numbers_of (map (λ e. e.parent) entries) ≡ parents_of (heads_in entries)
parents_are [] = refl
parents_are (e ∷ es) = let here = same_number e.parent in let rest = parents_are es in cc

turned : (o : Option ℕ) (qs : List (Option ℕ)) → reverse (o ∷ qs) ≡ reverse qs ++ o ∷ []
turned o qs = reverse-append (o ∷ []) qs

get_last : (xs : List (Option ℕ)) (x : Option ℕ) → slice_get (xs ++ x ∷ []) (length xs) ≡ Some x
get_last [] x = refl
get_last (y ∷ ys) x = get_last ys x

get_front : (xs : List (Option ℕ)) (x o : Option ℕ) (i : ℕ) → slice_get xs i ≡ Some o
    → slice_get (xs ++ x ∷ []) i ≡ Some o
get_front [] x o i e = absurd cc
get_front (y ∷ ys) x o zero e = e
get_front (y ∷ ys) x o (suc i) e = get_front ys x o i e

pushed_at : (xs : List (Option ℕ)) (x o : Option ℕ) (i : ℕ) → slice_get (xs ++ x ∷ []) i ≡ Some o
    → (slice_get xs i ≡ Some o) ⊎ ((i ≡ length xs) × (x ≡ o))
pushed_at [] x o zero e = inr (refl, cc)
pushed_at [] x o (suc i) e = absurd cc
pushed_at (y ∷ ys) x o zero e = inl e
pushed_at (y ∷ ys) x o (suc i) e = by (pushed_at ys x o i e)
  where
    by : (slice_get ys i ≡ Some o) ⊎ ((i ≡ length ys) × (x ≡ o))
        → (slice_get (y ∷ ys) (suc i) ≡ Some o) ⊎ ((suc i ≡ length (y ∷ ys)) × (x ≡ o))
    by (inl at) = inl at
    by (inr (last, same)) = inr (ap suc last, same)

below_by : (qs : List (Option ℕ)) → AreLess (reverse qs) → ParentsAreBelow qs
below_by [] less = tt
below_by (q ∷ older) less = by q (at_end q) (below_by older front)
  where
    front : AreLess (reverse older)
    front v p at = less v p (ap (λ (l : List (Option ℕ)). slice_get l v) (turned q older) ∙ get_front (reverse older) q (Some p) v at)

    at_end : (o : Option ℕ) → slice_get (reverse (o ∷ older)) (length (reverse older)) ≡ Some o
    at_end o = ap (λ (l : List (Option ℕ)). slice_get l (length (reverse older))) (turned o older) ∙ get_last (reverse older) o

    by : (o : Option ℕ) → slice_get (reverse (q ∷ older)) (length (reverse older)) ≡ Some o → ParentsAreBelow older → ParentsAreBelow (o ∷ older)
    by None at rest = rest
    by (Some p) at rest = (let low = less (length (reverse older)) p at in let long = length-reverse older in omega arith, rest)

less_by : (qs : List (Option ℕ)) → ParentsAreBelow qs → AreLess (reverse qs)
less_by [] below v p at = absurd cc
less_by (None ∷ older) below v p at =
    by (pushed_at (reverse older) None (Some p) v (sym (ap (λ (l : List (Option ℕ)). slice_get l v) (turned None older)) ∙ at)) (less_by older below v p)
  where
    by : (slice_get (reverse older) v ≡ Some (Some p)) ⊎ ((v ≡ length (reverse older)) × (None ≡ Some p)) → (slice_get (reverse older) v ≡ Some (Some p) → p < v) → p < v
    by (inl front) rest = rest front
    by (inr (last, bad)) rest = absurd cc
less_by (Some q ∷ older) below v p at =
    by (pushed_at (reverse older) (Some q) (Some p) v (sym (ap (λ (l : List (Option ℕ)). slice_get l v) (turned (Some q) older)) ∙ at)) (less_by older below.1 v p)
  where
    by : (slice_get (reverse older) v ≡ Some (Some p)) ⊎ ((v ≡ length (reverse older)) × (Some q ≡ Some p)) → (slice_get (reverse older) v ≡ Some (Some p) → p < v) → p < v
    by (inl front) rest = rest front
    by (inr (last, same)) rest =
        let is : q ≡ p = cc in let low = below.0 in let long = length-reverse older in omega arith

pub below : (parents : List (Option ℕ)) → AreLess parents → ParentsAreBelow (reverse parents)
below parents less = below_by (reverse parents) (subst AreLess (sym (reverse-reverse parents)) less)

pub less : (parents : List (Option ℕ)) → ParentsAreBelow (reverse parents) → AreLess parents
less parents below' = subst AreLess (reverse-reverse parents) (less_by (reverse parents) below')

pub none_below : (parents : List (Option ℕ)) (v : ℕ) → IsFirstBad parents v
    → ParentsAreBelow (reverse parents) → ⊥
none_below parents v bad below' =
    let low = less parents below' v bad.bad.0 bad.bad.1 in
    let high = bad.bad.2 in
    omega arith

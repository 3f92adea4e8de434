-- What is above a version, one parent at a time.
use Rattle.std.proofs.Common.{◌≡◌, ℕ, zero, suc, ◌<◌, ◌≤◌, Bool, true, false, ◌||◌, Option, Some, None, List, [], ◌∷◌, ◌++◌, length, reverse, refl, sym, ap, ◌∙◌, subst, ⊎_elim, arith, length-append, append_assoc, get_or, nat_eq, ne_eqb, eq-eqb}
use Rattle.std.specs.Prelude.{slice_get}
use Rattle.std.specs.Option.{option_map_or}
use Rattle.std.proofs.lemmas.List.{reverse-append}
use Rattle.std.proofs.lemmas.Option.{slice_get-get_or}
use Rattle.std.proofs.lemmas.Bool.{cases_eq}
use Rattle.std.proofs.lemmas.List.{length-reverse}
use Rattle.mn_base.specs.Tree.{is_above, is_ancestor}
use Rattle.mn_vtree.specs.Parents.{IsLess, AreLess}

-- newer versions are above none of the older ones
skip : (newer older : List (Option ℕ)) (a v : ℕ) → v < length older → is_above (newer ++ older) a v ≡ is_above older a v
skip [] older a v lt = refl
skip (x ∷ newer) older a v lt =
    let apart : nat_eq v (length (newer ++ older)) ≡ false = ne_eqb v (length (newer ++ older)) (λ e. absurd (omega (arith, length-append newer older))) in
    rw apart (skip newer older a v lt)

-- whether a is above the parent
abbrev pub above_parent : List (Option ℕ) → ℕ → Option ℕ → Bool
above_parent parents a parent = option_map_or (λ p. is_ancestor parents a p) parent false

reversed : (front back : List (Option ℕ)) (x : Option ℕ) → reverse (front ++ x ∷ back) ≡ reverse back ++ (x ∷ reverse front)
reversed front back x = reverse-append front (x ∷ back) ∙ (ap (λ (l : List (Option ℕ)). l ++ reverse front) (reverse-append (x ∷ []) back) ∙ append_assoc (reverse back) (x ∷ []) (reverse front))

older_parent : (front back : List (Option ℕ)) (x : Option ℕ) (a : ℕ) → ((p : ℕ) → x ≡ Some p → p < length front)
    → option_map_or (λ p. is_above (reverse front) a p) x false ≡ above_parent (front ++ x ∷ back) a x
older_parent front back None a less = refl
older_parent front back (Some p) a less =
    let lt : p < length (reverse front) = omega (arith, less p refl, length-reverse front) in
    let lt' : p < length (Some p ∷ reverse front) = omega arith in
    sym (ap (λ (l : List (Option ℕ)). is_above l a p) (reversed front back (Some p)) ∙ (skip (reverse back) (Some p ∷ reverse front) a p lt' ∙ skip (Some p ∷ []) (reverse front) a p lt))

at_front : (front back : List (Option ℕ)) (x : Option ℕ) (a : ℕ) → ((p : ℕ) → x ≡ Some p → p < length front)
    → is_ancestor (front ++ x ∷ back) a (length front) ≡ (nat_eq a (length front) || above_parent (front ++ x ∷ back) a x)
at_front front back x a less =
    let len : length (reverse front) ≡ length front = length-reverse front in
    let lt : length front < length (x ∷ reverse front) = omega arith in
    let here : nat_eq (length front) (length (reverse front)) ≡ true = eq-eqb (length front) (length (reverse front)) (sym len) in
    let one : is_above (x ∷ reverse front) a (length front) ≡ (nat_eq a (length front) || option_map_or (λ p. is_above (reverse front) a p) x false) = rw here refl in
    ap (λ (l : List (Option ℕ)). is_above l a (length front)) (reversed front back x) ∙ (skip (reverse back) (x ∷ reverse front) a (length front) lt ∙ (one ∙ ap (λ (b : Bool). nat_eq a (length front) || b) (older_parent front back x a less)))

split_at : (parents : List (Option ℕ)) (v : ℕ) (x : Option ℕ) → slice_get parents v ≡ Some x → (t : List (Option ℕ) × List (Option ℕ)) × (parents ≡ t.0 ++ x ∷ t.1) × (v ≡ length t.0)
split_at [] v x is = absurd (cc)
split_at (y ∷ parents) zero x is = (([], parents), (let same : y ≡ x = cc in ap (λ (z : Option ℕ). z ∷ parents) same), refl)
split_at (y ∷ parents) (suc v) x is =
    let s = split_at parents v x is in
    ((y ∷ s.0.0, s.0.1), ap (λ (l : List (Option ℕ)). y ∷ l) s.1, ap suc s.2)

-- a is v or above it where it is v, or its parent, or above that
pub ancestor_step : (parents : List (Option ℕ)) (v : ℕ) (x : Option ℕ) (a : ℕ) → IsLess parents v → slice_get parents v ≡ Some x → is_ancestor parents a v ≡ (nat_eq a v || above_parent parents a x)
ancestor_step parents v x a less is =
    let s = split_at parents v x is in
    let below : (p : ℕ) → x ≡ Some p → p < length s.0.0 = λ p e. subst (λ (k : ℕ). p < k) s.2 (less p (is ∙ ap (λ (z : Option ℕ). Some z) e)) in
    subst (λ (t : List (Option ℕ) × ℕ). is_ancestor t.0 a t.1 ≡ (nat_eq a t.1 || above_parent t.0 a x)) (λ i. (sym s.1 i, sym s.2 i)) (at_front s.0.0 s.0.1 x a below)

none_above : (older : List (Option ℕ)) (a v : ℕ) → length older ≤ v → is_above older a v ≡ false
none_above [] a v past = refl
none_above (x ∷ older) a v past =
    let apart : nat_eq v (length older) ≡ false = ne_eqb v (length older) (λ e. absurd (omega arith)) in
    rw apart (none_above older a v (omega arith))

-- above a version that isn't there is none
pub ancestor_past : (parents : List (Option ℕ)) (a v : ℕ) → length parents ≤ v → is_ancestor parents a v ≡ false
ancestor_past parents a v past = none_above (reverse parents) a v (omega (arith, length-reverse parents))

below_at : (parents : List (Option ℕ)) → AreLess parents → (a n v : ℕ) → v < n → v < a → (o : Option (Option ℕ)) → slice_get parents v ≡ o → is_ancestor parents a v ≡ false
below_at parents less a zero v lt under o is = absurd (omega arith)
below_at parents less a (suc n) v lt under None is = ancestor_past parents a v (past parents v is)
  where
    past : (l : List (Option ℕ)) (k : ℕ) → slice_get l k ≡ None → length l ≤ k
    past [] k e = omega arith
    past (y ∷ l) zero e = absurd (cc)
    past (y ∷ l) (suc k) e = omega (arith, past l k e)
below_at parents less a (suc n) v lt under (Some None) is =
    let apart : nat_eq a v ≡ false = ne_eqb a v (λ e. absurd (omega arith)) in
    ancestor_step parents v None a (less v) is ∙ (rw apart refl)
below_at parents less a (suc n) v lt under (Some (Some p)) is =
    let apart : nat_eq a v ≡ false = ne_eqb a v (λ e. absurd (omega arith)) in
    let lower : p < v = less v p is in
    ancestor_step parents v (Some p) a (less v) is ∙ (rw apart (below_at parents less a n p (omega arith) (omega arith) (slice_get parents p) refl))

-- a version is above none that is less
none_below : (parents : List (Option ℕ)) (a v : ℕ) → AreLess parents → v < a → is_ancestor parents a v ≡ false
none_below parents a v less under = below_at parents less a (suc v) v (omega arith) under (slice_get parents v) refl

itself : (parents : List (Option ℕ)) (v : ℕ) → AreLess parents → v < length parents → is_ancestor parents v v ≡ true
itself parents v less lt = ancestor_step parents v (get_or parents v None) v (less v) (slice_get-get_or parents v None lt) ∙ (rw (eq-eqb v v refl) refl)

-- a walk up from v that looks for a: at the top, at a version above a, and where it has come down
-- to a
pub walk_last : (parents : List (Option ℕ)) (a v : ℕ) → IsLess parents v → slice_get parents v ≡ Some None → a < v → is_ancestor parents a v ≡ false
walk_last parents a v less is lt =
    let apart : nat_eq a v ≡ false = ne_eqb a v (λ e. absurd (omega arith)) in
    ancestor_step parents v None a less is ∙ (rw apart refl)

pub walk_next : (parents : List (Option ℕ)) (a v p : ℕ) → IsLess parents v → slice_get parents v ≡ Some (Some p) → a < v → is_ancestor parents a v ≡ is_ancestor parents a p
walk_next parents a v p less is lt =
    let apart : nat_eq a v ≡ false = ne_eqb a v (λ e. absurd (omega arith)) in
    ancestor_step parents v (Some p) a less is ∙ (rw apart refl)

pub walk_ends : (parents : List (Option ℕ)) (a v : ℕ) → AreLess parents → v < length parents → v ≤ a → nat_eq v a ≡ is_ancestor parents a v
walk_ends parents a v less there le = ⊎_elim
    (λ (e : v ≡ a). eq-eqb v a e ∙ sym (subst (λ (b : ℕ). is_ancestor parents b v ≡ true) e (itself parents v less there)))
    (λ (ne : v ≡ a → ⊥). ne_eqb v a ne ∙ sym (none_below parents a v less (omega arith)))
    (cases_eq v a)

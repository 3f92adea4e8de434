-- Where separators ascend, those that are not above a key come first.
use Rattle.std.proofs.Common.{◌≡◌, ℕ, zero, suc, ◌<◌, ◌≤◌, Bool, true, false, true≢false, not, Some, List, [], ◌∷◌, length, refl, sym, ap, ◌∙◌, subst, arith}
use Rattle.std.specs.Prelude.{slice_get, filter}
use Rattle.std.specs.declared.cmp.Ordering.TheVariants.{Less}
use Rattle.std.specs.Ordering.{is_lt}
use Rattle.std.proofs.lemmas.Cmp.{nat_list_cmp_total}
use Rattle.std.proofs.lemmas.List.Sums.{length-filter, count_by-le-length}
use Rattle.std.proofs.lemmas.Option.{same_Some}
use Rattle.mn_base.specs.Order.{key_cmp, key_lt, key_le}
use Rattle.mn_base.proofs.Booleans.{falsely, not_false, not_true}
use Rattle.mn_base.proofs.Keys.{less}
use Rattle.mn_fence.specs.Child.{count_not_above, Ascend, IsChild}

-- who passes the test stands before who falsely it
abbrev Downward : (List ℕ → Bool) → List (List ℕ) → Type 0
Downward p xs = (i j : ℕ) (a b : List ℕ) → i < j → slice_get xs i ≡ Some a → slice_get xs j ≡ Some b → p b ≡ true → p a ≡ true

none_pass : (p : List ℕ → Bool) (xs : List (List ℕ)) → ((i : ℕ) (s : List ℕ) → slice_get xs i ≡ Some s → p s ≡ false) → length (filter p xs) ≡ 0
none_pass p [] fail = refl
none_pass p (x ∷ xs) fail = let first = fail 0 x refl in rw first (none_pass p xs (λ i s is. fail (suc i) s is))

grown_parts : (p : List ℕ → Bool) (x : List ℕ) (xs : List (List ℕ)) → Downward p (x ∷ xs) → (b : Bool) → p x ≡ b
    → ((i : ℕ) (s : List ℕ) → slice_get xs i ≡ Some s → (i < length (filter p xs) → p s ≡ true) × (length (filter p xs) ≤ i → p s ≡ false))
    → (i : ℕ) (s : List ℕ) → slice_get (x ∷ xs) i ≡ Some s → (i < length (filter p (x ∷ xs)) → p s ≡ true) × (length (filter p (x ∷ xs)) ≤ i → p s ≡ false)
grown_parts p x xs down true first rest zero s is = let same : x ≡ s = same_Some x s is in (λ lt. subst (λ (t : List ℕ). p t ≡ true) same first, rw first (λ le. absurd (omega arith)))
grown_parts p x xs down true first rest (suc i) s is = let r = rest i s is in rw first (λ lt. r.0 (omega arith), λ le. r.1 (omega arith))
grown_parts p x xs down false first rest i s is =
    let later : (j : ℕ) (t : List ℕ) → slice_get xs j ≡ Some t → p t ≡ false = λ j t has. falsely (p t) (λ hit. true≢false (sym (down 0 (suc j) x t (omega arith) refl has hit) ∙ first)) in
    let none : length (filter p xs) ≡ 0 = none_pass p xs later in
    rw first (λ lt. absurd (omega arith), λ le. no_one i s is later)
  where
    no_one : (k : ℕ) (t : List ℕ) → slice_get (x ∷ xs) k ≡ Some t → ((j : ℕ) (u : List ℕ) → slice_get xs j ≡ Some u → p u ≡ false) → p t ≡ false
    no_one zero t has later = subst (λ (u : List ℕ). p u ≡ false) (same_Some x t has) first
    no_one (suc k) t has later = later k t has

parts : (p : List ℕ → Bool) (xs : List (List ℕ)) → Downward p xs → (i : ℕ) (s : List ℕ) → slice_get xs i ≡ Some s → (i < length (filter p xs) → p s ≡ true) × (length (filter p xs) ≤ i → p s ≡ false)
parts p [] down i s is = absurd (cc)
parts p (x ∷ xs) down i s is = grown_parts p x xs down (p x) refl (parts p xs (λ a b c d lt h k. down (suc a) (suc b) c d (omega arith) h k)) i s is

-- what is below something not above the key is not above the key
le_down : (a b key : List ℕ) → key_lt a b ≡ true → key_le b key ≡ true → key_le a key ≡ true
le_down a b key lt le = ap not (falsely (is_lt (key_cmp key a)) not_above)
  where
    not_above : is_lt (key_cmp key a) ≡ true → ⊥
    not_above hit =
        let below : key_cmp key b ≡ Less = nat_list_cmp_total.trans key a b (less (key_cmp key a) hit) (less (key_cmp a b) lt) in
        true≢false (sym (ap is_lt below) ∙ not_true (is_lt (key_cmp key b)) le)

pub child_is : (separators : List (List ℕ)) (key : List ℕ) → Ascend separators → IsChild separators key (count_not_above separators key)
child_is separators key up =
    let p : List ℕ → Bool = λ s. key_le s key in
    let count : length (filter p separators) ≡ count_not_above separators key = length-filter p separators in
    let each = parts p separators (λ i j a b lt h k hit. le_down a b key (up i j a b lt h k) hit) in
    record {
      within = count_by-le-length p separators;
      before = λ i s lt is. (each i s is).0 (omega arith);
      after = λ i s le is. not_false (key_lt key s) ((each i s is).1 (omega arith));
    }

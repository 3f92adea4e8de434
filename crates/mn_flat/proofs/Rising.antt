-- A write that is tested against all places of one size, one after another, is tested against each.
use Rattle.std.proofs.Common.{◌≡◌, ◌<◌, ◌≤◌, ◌+◌, ◌-◌, ◌*◌, ◌/◌, ◌%◌, ◌⊎◌, inl, inr, ℕ, zero, suc, Bool, true, ◌&&◌, ◌||◌, List, length, take, drop, max, min, refl, ap, sym, subst, ◌∙◌, arith, mod-lt, mul-suc, mul_comm}
use Rattle.std.specs.Prelude.{nat_lt, nat_le, nat_eq}
use Rattle.std.proofs.Math.Nat.{div-add-mod}
use Rattle.std.proofs.lemmas.Nat.{mod-mul-add}
use Rattle.std.proofs.lemmas.Bool.Decides.{nat_tests}
use Rattle.mn_base.proofs.Booleans.{both_parts, both_true, or_cases, or_left, or_right}
use Rattle.mn_base.proofs.Naturals.{below_or}
use Rattle.mn_base.specs.Ranges.{ranges_meet}
use Rattle.mn_base.specs.declared.ids.NodeNo.{NodeNo}
use Rattle.mn_mini.specs.declared.part.PartItem.TheVariants.{Write}
use Rattle.mn_runs.specs.Seen.{Place}
use Rattle.mn_law.specs.Places.{WritesWhole, content_in, number_in}
use Rattle.mn_flat.specs.Numbers.{rises}

-- Tests of numbers

le_of : (a b : ℕ) → nat_le a b ≡ true → a ≤ b
le_of a b e = grind (arith, nat_tests)

of_le : (a b : ℕ) → a ≤ b → nat_le a b ≡ true
of_le a b e = grind (arith, nat_tests)

lt_of : (a b : ℕ) → nat_lt a b ≡ true → a < b
lt_of a b e = grind (arith, nat_tests)

of_lt : (a b : ℕ) → a < b → nat_lt a b ≡ true
of_lt a b e = grind (arith, nat_tests)

eq_of : (a b : ℕ) → nat_eq a b ≡ true → a ≡ b
eq_of a b e = grind (arith, nat_tests)

of_eq : (a b : ℕ) → a ≡ b → nat_eq a b ≡ true
of_eq a b e = grind (arith, nat_tests)

-- Multiples

product_up : (size j k : ℕ) → j < k → size * j + size ≤ size * k
product_up size j zero less = absurd (omega arith)
product_up size j (suc k) less = by (λ low. product_up size j k low) (below_or j k)
  where
    by : (j < k → size * j + size ≤ size * k) → (j < k) ⊎ (k ≤ j) → size * j + size ≤ size * suc k
    by rec (inl low) = let ih = rec low in let m = mul-suc size k in omega (arith, ih, m)
    by rec (inr high) = let same : j ≡ k = omega arith in subst (λ (i : ℕ). size * j + size ≤ size * suc i) same (let m = mul-suc size j in omega (arith, m))

-- places of one size
abbrev place_at : NodeNo → ℕ → ℕ → ℕ → Place
place_at n first size k = record { node = n; start = first + size * k; length = size }

-- two multiples that are less than one size apart are one
same_place : (size j k : ℕ) → size * j < size * k + size → size * k < size * j + size → j ≡ k
same_place size j k a b = by (below_or j k)
  where
    by : (j < k) ⊎ (k ≤ j) → j ≡ k
    by (inl low) = let up = product_up size j k low in absurd (omega (arith, up, b))
    by (inr high) = other (below_or k j)
      where
        other : (k < j) ⊎ (j ≤ k) → j ≡ k
        other (inl low) = let up = product_up size k j low in absurd (omega (arith, up, a))
        other (inr both) = omega arith

-- From all to each

pub rises_there : (space : List ℕ) (n : NodeNo) (first count size at : ℕ) (bytes : List ℕ) → rises space first (first + size * count) size at bytes ≡ true → (k : ℕ) → k < count
    → WritesWhole (place_at n first size k) (λ new. number_in (content_in space (place_at n first size k)) < number_in new) (Write at bytes)
rises_there space n first count size at bytes e k low = λ meets. by (lt_of (max (first + size * k) at) (min (first + size * k + size) (at + length bytes)) meets)
    (or_cases (nat_le (at + length bytes) first || (nat_le (first + size * count) at || nat_eq (length bytes) 0))
    (nat_eq (length bytes) size && (nat_le first at && (nat_eq ((at - first) % size) 0 && (nat_le (at + length bytes) (length space) && nat_lt (number_in (take (length bytes) (drop at space))) (number_in bytes))))) e)
  where
    up : size * k + size ≤ size * count
    up = product_up size k count low

    by : max (first + size * k) at < min (first + size * k + size) (at + length bytes)
        → ((nat_le (at + length bytes) first || (nat_le (first + size * count) at || nat_eq (length bytes) 0)) ≡ true)
        ⊎ ((nat_eq (length bytes) size && (nat_le first at && (nat_eq ((at - first) % size) 0 && (nat_le (at + length bytes) (length space) && nat_lt (number_in (take (length bytes) (drop at space))) (number_in bytes))))) ≡ true)
        → (at ≡ first + size * k) × (length bytes ≡ size) × (number_in (content_in space (place_at n first size k)) < number_in bytes)
    by meets (inl free) = elim (or_cases (nat_le (at + length bytes) first) (nat_le (first + size * count) at || nat_eq (length bytes) 0) free) as (λ _. (at ≡ first + size * k) × (length bytes ≡ size) × (number_in (content_in space (place_at n first size k)) < number_in bytes)) [
      | inl before ↦ let b = le_of (at + length bytes) first before in absurd (omega (arith, b, meets))
      | inr rest ↦ elim (or_cases (nat_le (first + size * count) at) (nat_eq (length bytes) 0) rest) as (λ _. (at ≡ first + size * k) × (length bytes ≡ size) × (number_in (content_in space (place_at n first size k)) < number_in bytes)) [
        | inl after ↦ let a = le_of (first + size * count) at after in absurd (omega (arith, a, up, meets))
        | inr none ↦ let z = eq_of (length bytes) 0 none in absurd (omega (arith, z, meets))
      ]
    ]
    by meets (inr whole) =
        let fifth : Bool = nat_lt (number_in (take (length bytes) (drop at space))) (number_in bytes) in
        let fourth : Bool = nat_le (at + length bytes) (length space) in
        let third : Bool = nat_eq ((at - first) % size) 0 in
        let second : Bool = nat_le first at in
        let a = both_parts (nat_eq (length bytes) size) (second && (third && (fourth && fifth))) whole in
        let b = both_parts second (third && (fourth && fifth)) a.1 in
        let c = both_parts third (fourth && fifth) b.1 in
        let d = both_parts fourth fifth c.1 in
        let long : length bytes ≡ size = eq_of (length bytes) size a.0 in
        let from : first ≤ at = le_of first at b.0 in
        let even : (at - first) % size ≡ 0 = eq_of ((at - first) % size) 0 c.0 in
        let more : number_in (take (length bytes) (drop at space)) < number_in bytes = lt_of (number_in (take (length bytes) (drop at space))) (number_in bytes) d.1 in
        let parts = div-add-mod (at - first) size in
        let one : (at - first) / size ≡ k = same_place size ((at - first) / size) k (omega (arith, long, from, even, parts, meets)) (omega (arith, long, from, even, parts, meets)) in
        let product : size * ((at - first) / size) ≡ size * k = ap (λ (i : ℕ). size * i) one in
        let here : at ≡ first + size * k = omega (arith, from, even, parts, product) in
        (here, long, subst (λ (s : ℕ). number_in (take size (drop s space)) < number_in bytes) here (subst (λ (l : ℕ). number_in (take l (drop at space)) < number_in bytes) long more))

-- From each to all

pub rises_each : (space : List ℕ) (n : NodeNo) (first count size at : ℕ) (bytes : List ℕ) → 0 < size → 0 < count → first + size * count ≤ length space
    → ((k : ℕ) → k < count → WritesWhole (place_at n first size k) (λ new. number_in (content_in space (place_at n first size k)) < number_in new) (Write at bytes))
    → rises space first (first + size * count) size at bytes ≡ true
rises_each space n first count size at bytes some any room each = by (below_or first (at + length bytes)) (below_or at (first + size * count)) (below_or 0 (length bytes))
  where
    by : (first < at + length bytes) ⊎ (at + length bytes ≤ first) → (at < first + size * count) ⊎ (first + size * count ≤ at) → (0 < length bytes) ⊎ (length bytes ≤ 0) → rises space first (first + size * count) size at bytes ≡ true
    by (inr before) b c = or_left _ _ (or_left _ _ (of_le (at + length bytes) first before))
    by (inl a) (inr after) c = or_left _ _ (or_right _ _ (or_left _ _ (of_le (first + size * count) at after)))
    by (inl a) (inl b) (inr none) = or_left _ _ (or_right _ _ (or_right _ _ (of_eq (length bytes) 0 (omega arith))))
    by (inl a) (inl b) (inl c) =
        or_right _ _ (both_true _ _ (of_eq (length bytes) size long) (both_true _ _ (of_le first at (omega (arith, here))) (both_true _ _ (of_eq ((at - first) % size) 0 even) (both_true _ _ (of_le (at + length bytes) (length space) (omega (arith, here, long, up, room))) (of_lt (number_in (take (length bytes) (drop at space))) (number_in bytes) more)))))
      where
        reach : ℕ
        reach = max at first - first

        k : ℕ
        k = reach / size

        parts : size * k + reach % size ≡ reach
        parts = div-add-mod reach size

        small : reach % size < size
        small = mod-lt reach some

        is : reach ≡ max at first - first
        is = refl

        one : size * 0 + size ≤ size * count
        one = product_up size 0 count any

        inside : reach < size * count
        inside = omega (arith, is, one, some, a, b)

        low : k < count
        low = of (below_or k count)
          where
            of : (k < count) ⊎ (count ≤ k) → k < count
            of (inl l) = l
            of (inr high) = next (below_or count k)
              where
                next : (count < k) ⊎ (k ≤ count) → k < count
                next (inl l) = let u = product_up size count k l in absurd (omega (arith, u, parts, inside))
                next (inr l) = let same : count ≡ k = omega arith in let p : size * count ≡ size * k = ap (λ (i : ℕ). size * i) same in absurd (omega (arith, p, parts, inside))

        up : size * k + size ≤ size * count
        up = product_up size k count low

        met : ranges_meet (record { start = first + size * k; length = size }) (record { start = at; length = length bytes }) ≡ true
        met = of_lt (max (first + size * k) at) (min (first + size * k + size) (at + length bytes)) (omega (arith, is, parts, small, a, b, c, some))

        whole : (at ≡ first + size * k) × (length bytes ≡ size) × (number_in (content_in space (place_at n first size k)) < number_in bytes)
        whole = each k low met

        here : at ≡ first + size * k
        here = whole.0

        long : length bytes ≡ size
        long = whole.1

        even : (at - first) % size ≡ 0
        even = let cut : at - first ≡ k * size + 0 = (let m = mul_comm size k in omega (arith, here, m)) in ap (λ (i : ℕ). i % size) cut ∙ mod-mul-add k size 0 some

        more : number_in (take (length bytes) (drop at space)) < number_in bytes
        more = subst (λ (l : ℕ). number_in (take l (drop at space)) < number_in bytes) (sym long) (subst (λ (s : ℕ). number_in (take size (drop s space)) < number_in bytes) (sym here) whole.2)

-- The places of pages, entries and counts are one or apart.
use Rattle.std.proofs.Common.{◌≡◌, ℕ, ◌+◌, ◌*◌, ◌<◌, ◌≤◌, ◌⊎◌, inl, inr, Bool, true, false, refl, sym, ap, ◌∙◌, arith}
use Rattle.std.specs.Prelude.{nat_lt, min, max}
use Rattle.std.proofs.lemmas.Bool.Decides.{nat_tests}
use Rattle.mn_base.specs.Ranges.{ranges_meet}
use Rattle.mn_base.specs.declared.ids.NodeNo.{NodeNo}
use Rattle.mn_base.specs.declared.ids.Addr.{Addr}
use Rattle.mn_runs.specs.Seen.{Place}
use Rattle.mn_law.specs.Places.{page_place, entry_place, count_place, IsPagePlace, IsEntryPlace, IsCountPlace, IsNumbered, place_range}
use Rattle.mn_law.specs.Planned.{IsWholePlace}

-- one place lies below the other
abbrev pub AreApart : Place → Place → Type 0
AreApart p q = (p.start + p.length ≤ q.start) ⊎ (q.start + q.length ≤ p.start)

meets_none : (s n t m : ℕ) → (s + n ≤ t) ⊎ (t + m ≤ s) → nat_lt (max s t) (min (s + n) (t + m)) ≡ false
meets_none s n t m (inl low) = grind (arith, nat_tests)
meets_none s n t m (inr high) = grind (arith, nat_tests)

pub apart_unmet : (p q : Place) → AreApart p q → ranges_meet (place_range p) (place_range q) ≡ false
apart_unmet p q apart = meets_none p.start p.length q.start q.length apart

-- numbers of slots and of versions

slots : (a b : ℕ) → (a ≡ b) ⊎ ((20480 + 1024 * a + 1024 ≤ 20480 + 1024 * b) ⊎ (20480 + 1024 * b + 1024 ≤ 20480 + 1024 * a))
slots a b = by (nat_lt a b) refl (nat_lt b a) refl
  where
    by : (x : Bool) → nat_lt a b ≡ x → (y : Bool) → nat_lt b a ≡ y → (a ≡ b) ⊎ ((20480 + 1024 * a + 1024 ≤ 20480 + 1024 * b) ⊎ (20480 + 1024 * b + 1024 ≤ 20480 + 1024 * a))
    by true e y f = let less : a < b = grind (arith, nat_tests) in inr (inl (omega arith))
    by false e true f = let more : b < a = grind (arith, nat_tests) in inr (inr (omega arith))
    by false e false f = inl (grind (arith, nat_tests))

versions : (a b : ℕ) → (a ≡ b) ⊎ ((64 + 64 * a + 64 ≤ 64 + 64 * b) ⊎ (64 + 64 * b + 64 ≤ 64 + 64 * a))
versions a b = by (nat_lt a b) refl (nat_lt b a) refl
  where
    by : (x : Bool) → nat_lt a b ≡ x → (y : Bool) → nat_lt b a ≡ y → (a ≡ b) ⊎ ((64 + 64 * a + 64 ≤ 64 + 64 * b) ⊎ (64 + 64 * b + 64 ≤ 64 + 64 * a))
    by true e y f = let less : a < b = grind (arith, nat_tests) in inr (inl (omega arith))
    by false e true f = let more : b < a = grind (arith, nat_tests) in inr (inr (omega arith))
    by false e false f = inl (grind (arith, nat_tests))

-- where a place begins, and how long it is

page_at : (p : Place) (a : Addr) → p ≡ page_place a → (p.start ≡ 20480 + 1024 * a.slot) × (p.length ≡ 1024) × (p.node ≡ a.node)
page_at p a e = (ap (λ (x : Place). x.start) e, ap (λ (x : Place). x.length) e, ap (λ (x : Place). x.node) e)

entry_at : (p : Place) (n : NodeNo) (v : ℕ) → p ≡ entry_place n v → (p.start ≡ 64 + 64 * v) × (p.length ≡ 64) × (p.node ≡ n)
entry_at p n v e = (ap (λ (x : Place). x.start) e, ap (λ (x : Place). x.length) e, ap (λ (x : Place). x.node) e)

count_at : (p : Place) (n : NodeNo) → p ≡ count_place n → (p.start ≡ 16) × (p.length ≡ 8)
count_at p n e = (ap (λ (x : Place). x.start) e, ap (λ (x : Place). x.length) e)

same_page : (a b : Addr) → a.node ≡ b.node → a.slot ≡ b.slot → page_place a ≡ page_place b
same_page a b node slot =
    ap (λ (n : NodeNo). page_place (record { node = n; slot = a.slot })) node
    ∙ ap (λ (s : ℕ). page_place (record { node = b.node; slot = s })) slot

-- on one node, a place with a number and a whole place are one or apart
pub place_cases : (p q : Place) → IsNumbered p → IsWholePlace q → p.node ≡ q.node → (p ≡ q) ⊎ AreApart p q
place_cases p q (inl (a, few, is)) (inl (b, that)) node = by (slots a.slot b.slot)
  where
    by : (a.slot ≡ b.slot) ⊎ ((20480 + 1024 * a.slot + 1024 ≤ 20480 + 1024 * b.slot) ⊎ (20480 + 1024 * b.slot + 1024 ≤ 20480 + 1024 * a.slot)) → (p ≡ q) ⊎ AreApart p q
    by (inl same) = let x = page_at p a is in let y = page_at q b that in inl (is ∙ (same_page a b (sym x.2 ∙ (node ∙ y.2)) same ∙ sym that))
    by (inr (inl low)) = let x = page_at p a is in let y = page_at q b that in let s = x.0 in let n = x.1 in let t = y.0 in inr (inl (omega (arith, s, n, t)))
    by (inr (inr high)) = let x = page_at p a is in let y = page_at q b that in let s = x.0 in let t = y.0 in let k = y.1 in inr (inr (omega (arith, s, t, k)))
place_cases p q (inl (a, few, is)) (inr (inl (m, w, low, that))) node =
    let x = page_at p a is in let y = entry_at q m w that in let s = x.0 in let t = y.0 in let k = y.1 in inr (inr (omega (arith, s, t, k)))
place_cases p q (inl (a, few, is)) (inr (inr (n, that))) node =
    let x = page_at p a is in let y = count_at q n that in let s = x.0 in let t = y.0 in let k = y.1 in inr (inr (omega (arith, s, t, k)))
place_cases p q (inr (n, v, low, is)) (inl (b, that)) node =
    let x = entry_at p n v is in let y = page_at q b that in let s = x.0 in let k = x.1 in let t = y.0 in inr (inl (omega (arith, s, k, t)))
place_cases p q (inr (n, v, low, is)) (inr (inl (m, w, low', that))) node = by (versions v w)
  where
    by : (v ≡ w) ⊎ ((64 + 64 * v + 64 ≤ 64 + 64 * w) ⊎ (64 + 64 * w + 64 ≤ 64 + 64 * v)) → (p ≡ q) ⊎ AreApart p q
    by (inl same) = let x = entry_at p n v is in let y = entry_at q m w that in inl (is ∙ (ap (entry_place n) same ∙ (ap (λ (k : NodeNo). entry_place k w) (sym x.2 ∙ (node ∙ y.2)) ∙ sym that)))
    by (inr (inl less)) = let x = entry_at p n v is in let y = entry_at q m w that in let s = x.0 in let k = x.1 in let t = y.0 in inr (inl (omega (arith, s, k, t)))
    by (inr (inr more)) = let x = entry_at p n v is in let y = entry_at q m w that in let s = x.0 in let t = y.0 in let k = y.1 in inr (inr (omega (arith, s, t, k)))
place_cases p q (inr (n, v, low, is)) (inr (inr (m, that))) node =
    let x = entry_at p n v is in let y = count_at q m that in let s = x.0 in let t = y.0 in let k = y.1 in inr (inr (omega (arith, s, t, k)))

-- a place with a number is no count
pub numbered_no_count : (p : Place) → IsNumbered p → IsCountPlace p → ⊥
numbered_no_count p (inl (a, few, is)) (n, that) = let x = page_at p a is in let y = count_at p n that in let s = x.0 in let t = y.0 in absurd (omega (arith, s, t))
numbered_no_count p (inr (m, v, low, is)) (n, that) = let x = entry_at p m v is in let y = count_at p n that in let s = x.0 in let t = y.0 in absurd (omega (arith, s, t))

-- it lies in the space, with room for its number
pub numbered_fits : (p : Place) → IsNumbered p → (p.start + p.length ≤ 4214784) × (8 ≤ p.length)
numbered_fits p (inl (a, few, is)) = let x = page_at p a is in let s = x.0 in let n = x.1 in (omega (arith, s, n, few), omega (arith, n))
numbered_fits p (inr (m, v, low, is)) = let x = entry_at p m v is in let s = x.0 in let n = x.1 in (omega (arith, s, n, low), omega (arith, n))

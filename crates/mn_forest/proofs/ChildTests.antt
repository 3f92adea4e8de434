-- The tests of the children of a page.
use Rattle.std.proofs.Common.{◌≡◌, ◌<◌, ◌≤◌, ◌+◌, ◌⊎◌, inl, inr, ℕ, zero, suc, Bool, true, false, not, ◌&&◌, ◌||◌, List, length, Option, Some, refl, ap, sym, subst, ◌∙◌, arith, slice_get}
use Rattle.std.specs.Prelude.{MatchBool, nat_eq, nat_lt, IsTrue}
use Rattle.std.specs.List.{list_all, range_with_len, AllByRecursion}
use Rattle.std.proofs.lemmas.Bool.{eqb-true, eq-eqb}
use Rattle.std.proofs.lemmas.List.{length-map}
use Rattle.mn_base.specs.Tree.{serves}
use Rattle.mn_base.proofs.Naturals.{lt_from, lt_true}
use Rattle.mn_base.proofs.Booleans.{both_parts, clash}
use Rattle.mn_plans.proofs.Compares.{element_at}
use Rattle.mn_page.specs.declared.entry.CatEntry.{CatEntry}
use Rattle.mn_page.specs.declared.page.Page.{Page}
use Rattle.mn_page.specs.Grammar.{height_of}
use Rattle.mn_page.specs.Forest.{ChildRange}
use Rattle.mn_page.specs.Holds.{page_serves}
use Rattle.mn_page.proofs.Grid.{all_at_place}
use Rattle.mn_forest.specs.declared.pages.Versions.{Versions}
use Rattle.mn_forest.specs.Rules.{StandsAt, IsChildAt}
use Rattle.mn_forest.specs.Trees.{AreVersions}
use Rattle.mn_forest.proofs.Fronts.{both_hold, means, one_page}

-- Ranges of numbers

range_from : (f : ℕ → Bool) (a k : ℕ) → list_all f (range_with_len a k) ≡ true → (v : ℕ) → a ≤ v → v < a + k → f v ≡ true
range_from f a zero e v low high = absurd (omega arith)
range_from f a (suc k) e v low high = by (Rattle.mn_base.proofs.Naturals.below_or a v) (both_parts (f a) (list_all f (range_with_len (a + 1) k)) e) (λ h l r. range_from f (a + 1) k h v l r)
  where
    use_at : (w : ℕ) → w ≡ v → f w ≡ true → f v ≡ true
    use_at w same is = subst (λ (x : ℕ). f x ≡ true) same is

    by : (a < v) ⊎ (v ≤ a) → (f a ≡ true) × (list_all f (range_with_len (a + 1) k) ≡ true) → (list_all f (range_with_len (a + 1) k) ≡ true → a + 1 ≤ v → v < a + 1 + k → f v ≡ true) → f v ≡ true
    by (inl more) both rest = rest both.1 (omega arith) (omega arith)
    by (inr here) both rest = use_at a (let h : a ≡ v = omega arith in h) both.0

range_to : (f : ℕ → Bool) (a k : ℕ) → ((v : ℕ) → a ≤ v → v < a + k → f v ≡ true) → list_all f (range_with_len a k) ≡ true
range_to f a zero each = refl
range_to f a (suc k) each = let here = each a (omega arith) (omega arith) in let rest = range_to f (a + 1) k (λ v low high. each v (omega arith) (omega arith)) in cc

-- all versions pass
pub all_range : (f : ℕ → Bool) (n : ℕ) → list_all f (range_with_len 0 n) ≡ true → (v : ℕ) → v < n → f v ≡ true
all_range f n e v low = range_from f 0 n e v (omega arith) (omega arith)

pub range_all : (f : ℕ → Bool) (n : ℕ) → ((v : ℕ) → v < n → f v ≡ true) → list_all f (range_with_len 0 n) ≡ true
range_all f n each = range_to f 0 n (λ v low high. each v (omega arith))

-- Tests of versions

-- so many versions as the entries
pub version_count : (versions : Versions) (entries : List CatEntry) → AreVersions versions entries → length versions.roots.items ≡ length entries
version_count versions entries are = ap length are.roots ∙ length-map entries (λ (e : CatEntry). e.root)

implied : (a b c : Bool) → (not a || (not b || c)) ≡ true → a ≡ true → b ≡ true → c ≡ true
implied true true c e f g = e
implied true false c e f g = absurd cc
implied false b c e f g = absurd cc

implies : (a b c : Bool) → (a ≡ true → b ≡ true → c ≡ true) → (not a || (not b || c)) ≡ true
implies true true c f = f refl refl
implies true false c f = refl
implies false b c f = refl

-- what holds of each version of the entries that a page serves, by the test of all numbers
pub served_test : (versions : Versions) (entries : List CatEntry) (p : Page) (t : ℕ → Bool) (b : Bool) → AreVersions versions entries
    → b ≡ list_all (λ v. not (nat_lt v (length versions.roots.items)) || (not (serves versions.tree p.made.0 p.copied v) || t v)) (range_with_len 0 64)
    → MatchBool b ((v : ℕ) → v < length entries → IsTrue (page_serves entries v p) → t v ≡ true) (((v : ℕ) → v < length entries → IsTrue (page_serves entries v p) → t v ≡ true) → ⊥)
served_test versions entries p t b are is = by b is
  where
    n : ℕ
    n = length versions.roots.items

    same_serves : (v : ℕ) → serves versions.tree p.made.0 p.copied v ≡ page_serves entries v p
    same_serves v = ap (λ (ps : List (Option ℕ)). serves ps p.made.0 p.copied v) are.tree

    by : (b : Bool) → b ≡ list_all (λ v. not (nat_lt v (length versions.roots.items)) || (not (serves versions.tree p.made.0 p.copied v) || t v)) (range_with_len 0 64)
        → MatchBool b ((v : ℕ) → v < length entries → IsTrue (page_serves entries v p) → t v ≡ true) (((v : ℕ) → v < length entries → IsTrue (page_serves entries v p) → t v ≡ true) → ⊥)
    by true e = λ v in' does.
        implied (nat_lt v (length versions.roots.items)) (serves versions.tree p.made.0 p.copied v) (t v)
        (all_range (λ v. not (nat_lt v (length versions.roots.items)) || (not (serves versions.tree p.made.0 p.copied v) || t v)) 64 (sym e) v (let few = are.few in omega arith))
        (lt_true v (length versions.roots.items) (let many = version_count versions entries are in omega arith)) (same_serves v ∙ does)
    by false e = λ each.
        clash (list_all (λ v. not (nat_lt v (length versions.roots.items)) || (not (serves versions.tree p.made.0 p.copied v) || t v)) (range_with_len 0 64))
        (range_all (λ v. not (nat_lt v (length versions.roots.items)) || (not (serves versions.tree p.made.0 p.copied v) || t v)) 64
        (λ v low. implies (nat_lt v (length versions.roots.items)) (serves versions.tree p.made.0 p.copied v) (t v) (λ in' does. each v (let l = lt_from v (length versions.roots.items) in' in let many = version_count versions entries are in omega arith) (sym (same_serves v) ∙ does))))
        (sym e)

-- Children

eq_test : (m n : ℕ) (b : Bool) → b ≡ nat_eq m n → MatchBool b (m ≡ n) (m ≡ n → ⊥)
eq_test m n true e = eqb-true m n (sym e)
eq_test m n false e = λ same. clash (nat_eq m n) (eq-eqb m n same) (sym e)

-- the other page serves what the page does
abbrev ServesAll : List CatEntry → Versions → Page → Page → Type 0
ServesAll entries versions p q = (v : ℕ) → v < length entries → IsTrue (page_serves entries v p) → serves versions.tree q.made.0 q.copied v ≡ true

pub child_tested : (memory : List (List ℕ)) (versions : Versions) (entries : List CatEntry) (p q : Page) (c : ChildRange) (low : List ℕ) (high : Option (List ℕ)) (x y z : Bool) → AreVersions versions entries → StandsAt memory c.addr q → low ≡ c.low → high ≡ c.high
    → MatchBool x ((q.low ≡ low) × (q.high ≡ high)) ((q.low ≡ low) × (q.high ≡ high) → ⊥) → y ≡ nat_eq (height_of q.body + 1) (height_of p.body)
    → z ≡ list_all (λ v. not (nat_lt v (length versions.roots.items)) || (not (serves versions.tree p.made.0 p.copied v) || serves versions.tree q.made.0 q.copied v)) (range_with_len 0 64)
    → MatchBool (x && (y && z)) (IsChildAt memory entries p c) (IsChildAt memory entries p c → ⊥)
child_tested memory versions entries p q c low high x y z are stands is_low is_high one two three =
    means _ (IsChildAt memory entries p c) (x && (y && z)) to from
    (both_hold ((q.low ≡ low) × (q.high ≡ high)) ((height_of q.body + 1 ≡ height_of p.body) × ServesAll entries versions p q) x (y && z) one
    (both_hold (height_of q.body + 1 ≡ height_of p.body) (ServesAll entries versions p q) y z (eq_test (height_of q.body + 1) (height_of p.body) y two) (served_test versions entries p (λ v. serves versions.tree q.made.0 q.copied v) z are three)))
  where
    tree : (v : ℕ) → serves versions.tree q.made.0 q.copied v ≡ page_serves entries v q
    tree v = ap (λ (ps : List (Option ℕ)). serves ps q.made.0 q.copied v) are.tree

    to : ((q.low ≡ low) × (q.high ≡ high)) × ((height_of q.body + 1 ≡ height_of p.body) × ServesAll entries versions p q) → IsChildAt memory entries p c
    to h = record { page = q; there = stands; low = h.0.0 ∙ is_low; high = h.0.1 ∙ is_high; height = h.1.0; serves = λ v in' does. sym (tree v) ∙ h.1.1 v in' does }

    from : IsChildAt memory entries p c → ((q.low ≡ low) × (q.high ≡ high)) × ((height_of q.body + 1 ≡ height_of p.body) × ServesAll entries versions p q)
    from r =
        let same : r.page ≡ q = one_page memory c.addr r.page q r.there stands in (
          (ap (λ (k : Page). k.low) (sym same) ∙ (r.low ∙ sym is_low), ap (λ (k : Page). k.high) (sym same) ∙ (r.high ∙ sym is_high)),
          (ap (λ (k : Page). height_of k.body + 1) (sym same) ∙ r.height, λ v in' does. tree v ∙ (ap (λ (k : Page). page_serves entries v k) (sym same) ∙ r.serves v in' does)),
        )

-- an answer on a test that holds or not
pub no_child : {X : Type 0} (P : X → Type 0) (xs : List X) (i : ℕ) → i < length xs → ((x : X) → slice_get xs i ≡ Some x → P x → ⊥) → AllByRecursion P xs → ⊥
no_child P xs i low off all = let s = element_at xs i low in off s.0 s.1 (all_at_place P xs i s.0 all s.1)

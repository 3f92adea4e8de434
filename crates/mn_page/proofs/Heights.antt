-- No page of a forest is higher than 14: a page of height h has 2^h leaves below it, which stand at
-- different addresses since their ranges lie apart, and all nodes together have 2^15 slots.
use Rattle.std.proofs.Common.{◌≡◌, ℕ, zero, suc, ◌+◌, ◌*◌, ◌<◌, ◌≤◌, ◌⊎◌, inl, inr, Bool, true, false, ◌||◌, List, [], ◌∷◌, ◌++◌, length, Option, Some, None, refl, subst, sym, ap, ◌∙◌, arith, slice_get}
use Rattle.std.specs.List.{AllByRecursion, IsDistinct, list_any}
use Rattle.std.proofs.Math.Dec.{eqb}
use Rattle.std.proofs.lemmas.Bool.{eqb-true}
use Rattle.std.proofs.lemmas.Bool.Decides.{eqb_tells}
use Rattle.std.proofs.lemmas.Map.Steps.{length-le_from_distinct_below}
use Rattle.std.proofs.lemmas.List.{length-append}
use Rattle.std.proofs.lemmas.Option.{slice_get_within, option_and_then_some}
use Rattle.mn_base.specs.Order.{below_bound}
use Rattle.mn_base.specs.declared.ids.Addr.{Addr}
use Rattle.mn_base.proofs.Naturals.{below_or}
use Rattle.mn_base.proofs.Lists.{all_append, weaker}
use Rattle.mn_page.specs.declared.page.Page.{Page}
use Rattle.mn_page.specs.declared.page.Body.{Body}
use Rattle.mn_page.specs.declared.page.Body.TheVariants.{Leaf, Inner}
use Rattle.mn_page.specs.Grammar.{IsBody, height_of}
use Rattle.mn_page.specs.Forest.{Forest, page_at, ChildRange, body_children}
use Rattle.mn_page.specs.Holds.{IsForest, IsChild}
use Rattle.mn_page.specs.Laws.{NoneTooHigh}
use Rattle.mn_page.proofs.Grid.{all_at_place}
use Rattle.mn_page.proofs.Counted.{same_addr}
use Rattle.mn_page.proofs.KeyOrder.{Below, AtMost, lt_below, below_is_at_most, at_most_itself, at_most_all, below_at_most, apart}

-- Bounds

-- a key stands below the bound, where there is one
abbrev BelowBound : List ℕ → Option (List ℕ) → Type 0
BelowBound key None = Unit {0}
BelowBound key (Some bound) = Below key bound

below_bound_is : (key : List ℕ) (high : Option (List ℕ)) → below_bound key high ≡ true
    → BelowBound key high
below_bound_is key None is = tt
below_bound_is key (Some bound) is = lt_below key bound is

bound_up : (key mid : List ℕ) (high : Option (List ℕ)) → Below key mid → BelowBound mid high
    → BelowBound key high
bound_up key mid None low up = tt
bound_up key mid (Some bound) low up = below_at_most key mid bound low (below_is_at_most mid bound up)

-- Leaves

-- the number of a slot among those of all nodes
abbrev slot_number : Addr → ℕ
slot_number addr = 4096 * addr.node.0 + addr.slot

-- a leaf within this range stands there
record LeafAt (f : Forest) (low : List ℕ) (high : Option (List ℕ)) (number : ℕ) : Type 0 where
  pub addr : Addr
  pub page : Page
  pub there : page_at f addr ≡ Some page
  pub number_is : number ≡ slot_number addr
  pub leaf : height_of page.body ≡ 0
  pub from : AtMost low page.low
  pub to : BelowBound page.low high

in_slots : (f : Forest) → IsForest f → (addr : Addr) (p : Page) → page_at f addr ≡ Some p
    → (addr.node.0 < 8) × (addr.slot < 4096)
in_slots f s addr p there = option_and_then_some (λ (pages : List Page). slice_get pages addr.slot) (slice_get f.pages addr.node.0) p there (λ pages at here. (
  (let few = s.laid.nodes.1 in let low = slice_get_within f.pages addr.node.0 pages at in omega arith),
  (let few : length pages ≤ 4096 = all_at_place (λ (ps : List Page). length ps ≤ 4096) f.pages addr.node.0 pages s.laid.counts at in let low = slice_get_within pages addr.slot p here in omega arith),
))

-- different addresses have different numbers
same_number : (n s m t : ℕ) → s < 4096 → t < 4096 → 4096 * n + s ≡ 4096 * m + t → (n ≡ m) × (s ≡ t)
same_number n s m t low below is = (omega arith, omega arith)

one_page : (f : Forest) (s : IsForest f) (a b : Addr) (p q : Page) → page_at f a ≡ Some p
    → page_at f b ≡ Some q → slot_number a ≡ slot_number b → p ≡ q
one_page f s a b p q there here is =
    let same : a ≡ b = same_addr a b (same_number a.node.0 a.slot b.node.0 b.slot (in_slots f s a p there).1 (in_slots f s b q here).1 is) in
    some (sym there ∙ (ap (page_at f) same ∙ here))
  where
    some : Some p ≡ Some q → p ≡ q
    some e = cc

-- leaves of ranges that lie apart stand in different slots
apart_slots : (f : Forest) → IsForest f → (low mid : List ℕ) (high : Option (List ℕ)) (a b : ℕ)
    → LeafAt f low (Some mid) a → LeafAt f mid high b → eqb a b ≡ false
apart_slots f s low mid high a b x y = by (eqb_tells a b)
  where
    by : ((eqb a b ≡ true) × (a ≡ b)) ⊎ ((eqb a b ≡ false) × (a ≡ b → ⊥)) → eqb a b ≡ false
    by (inl same) =
        let one : x.page ≡ y.page = one_page f s x.addr y.addr x.page y.page x.there y.there (sym x.number_is ∙ (same.1 ∙ y.number_is)) in
        absurd (apart mid y.page.low y.from (subst (λ (p : Page). Below p.low mid) one x.to))
    by (inr differ) = differ.0

distinct_append : (P Q : ℕ → Type 0) → ((a b : ℕ) → P a → Q b → eqb a b ≡ false) → (xs ys : List ℕ)
    → AllByRecursion P xs → AllByRecursion Q ys → IsDistinct eqb xs → IsDistinct eqb ys
    → IsDistinct eqb (xs ++ ys)
unfolding IsDistinct
distinct_append P Q differ [] ys all those one other = other
distinct_append P Q differ (x ∷ xs) ys all those one other = (
  all_append (λ y. eqb x y ≡ false) xs ys one.0 (weaker Q (λ y. eqb x y ≡ false) (λ y q. differ x y all.0 q) ys those),
  distinct_append P Q differ xs ys all.1 those one.1 other,
)

-- two to this power
abbrev doubled : ℕ → ℕ
doubled zero = 1
doubled (suc n) = doubled n + doubled n

record LeavesBelow (f : Forest) (low : List ℕ) (high : Option (List ℕ)) (height : ℕ) : Type 0 where
  pub numbers : List ℕ
  pub many : length numbers ≡ doubled height
  pub leaves : AllByRecursion (LeafAt f low high) numbers
  pub distinct : IsDistinct eqb numbers

wider : (f : Forest) (low from : List ℕ) (high to : Option (List ℕ)) → AtMost low from
    → ((key : List ℕ) → BelowBound key to → BelowBound key high) → (n : ℕ) → LeafAt f from to n
    → LeafAt f low high n
wider f low from high to down up n l = record { addr = l.addr; page = l.page; there = l.there; number_is = l.number_is; leaf = l.leaf; from = at_most_all low from l.page.low down l.from; to = up l.page.low l.to }

-- the leaves below two ranges, one after the other
both : (f : Forest) → IsForest f → (low mid : List ℕ) (high to : Option (List ℕ)) (height : ℕ)
    → AtMost low mid → BelowBound mid high
    → ((key : List ℕ) → BelowBound key to → BelowBound key high)
    → LeavesBelow f low (Some mid) height → LeavesBelow f mid to height
    → LeavesBelow f low high (suc height)
both f s low mid high to height down here up one other = record {
  numbers = one.numbers ++ other.numbers;
  many = length-append one.numbers other.numbers ∙ (ap (λ k. k + length other.numbers) one.many ∙ ap (λ k. doubled height + k) other.many);
  leaves = all_append (LeafAt f low high) one.numbers other.numbers
      (weaker (LeafAt f low (Some mid)) (LeafAt f low high) (wider f low low high (Some mid) (at_most_itself low) (λ key h. bound_up key mid high h here)) one.numbers one.leaves)
      (weaker (LeafAt f mid to) (LeafAt f low high) (wider f low mid high to down up) other.numbers other.leaves);
  distinct = distinct_append (LeafAt f low (Some mid)) (LeafAt f mid to) (apart_slots f s low mid to) one.numbers other.numbers one.leaves other.leaves one.distinct other.distinct;
}

leaves_below : (f : Forest) → IsForest f → (height : ℕ) (addr : Addr) (p : Page)
    → page_at f addr ≡ Some p → height_of p.body ≡ height → LeavesBelow f p.low p.high height
unfolding IsDistinct
leaves_below f s zero addr p there level = record {
  numbers = slot_number addr ∷ [];
  many = refl;
  leaves = (record { addr = addr; page = p; there = there; number_is = refl; leaf = level; from = at_most_itself p.low; to = below_bound_is p.low p.high (s.laid.pages addr p there).fences }, tt);
  distinct = (tt, tt);
}
leaves_below f s (suc height) addr p there level = by (λ a q here at. leaves_below f s height a q here at) p.body (s.laid.pages addr p there).body (s.tree.children addr p there) level
  where
    under : ((a : Addr) (q : Page) → page_at f a ≡ Some q → height_of q.body ≡ height → LeavesBelow f q.low q.high height) → (c : ChildRange) → IsChild f.entries (page_at f) p c → LeavesBelow f c.low c.high height
    under deeper c child =
        let lower = child.height in
        let at : height_of child.page.body ≡ height = omega arith in
        subst (λ (l : List ℕ). LeavesBelow f l c.high height) child.low (subst (λ (h : Option (List ℕ)). LeavesBelow f child.page.low h height) child.high (deeper c.addr child.page child.there at))

    by : ((a : Addr) (q : Page) → page_at f a ≡ Some q → height_of q.body ≡ height → LeavesBelow f q.low q.high height) → (body : Body) → IsBody p.low p.high body → AllByRecursion (IsChild f.entries (page_at f) p) (body_children p.low p.high body) → height_of body ≡ suc height → LeavesBelow f p.low p.high (suc height)
    by deeper (Leaf pairs) is children h = absurd (omega arith)
    by deeper (Inner above first []) is children h = let some = is.2 in absurd (omega arith)
    by deeper (Inner above first (c ∷ [])) is children h =
        let own = is.6.0 in
        both f s p.low c.separator p.high p.high height (below_is_at_most p.low c.separator (lt_below p.low c.separator own.2)) (below_bound_is c.separator p.high own.3) (λ key low. low)
        (under deeper (record { addr = first; low = p.low; high = Some c.separator }) children.0)
        (under deeper (record { addr = c.addr; low = c.separator; high = p.high }) children.1.0)
    by deeper (Inner above first (c ∷ (d ∷ rest))) is children h =
        let own = is.6.0 in
        let next = is.6.1.0 in
        both f s p.low c.separator p.high (Some d.separator) height (below_is_at_most p.low c.separator (lt_below p.low c.separator own.2)) (below_bound_is c.separator p.high own.3)
        (λ key low. bound_up key d.separator p.high low (below_bound_is d.separator p.high next.3))
        (under deeper (record { addr = first; low = p.low; high = Some c.separator }) children.0)
        (under deeper (record { addr = c.addr; low = c.separator; high = Some d.separator }) children.1.0)

-- Counting

many_leaves : (height : ℕ) → 15 ≤ height → 32768 ≤ doubled height
many_leaves zero high = absurd (omega arith)
many_leaves (suc n) high = by (below_or n 15) (λ more. many_leaves n more)
  where
    by : (n < 15) ⊎ (15 ≤ n) → (15 ≤ n → 32768 ≤ doubled n) → 32768 ≤ doubled n + doubled n
    by (inl last) deeper = let is : n ≡ 14 = omega arith in subst (λ (k : ℕ). 32768 ≤ doubled k + doubled k) (sym is) (omega arith)
    by (inr more) deeper = let most = deeper more in omega arith

all_below : (f : Forest) → IsForest f → (low : List ℕ) (high : Option (List ℕ)) (ns : List ℕ)
    → AllByRecursion (LeafAt f low high) ns → (q : ℕ) → list_any (eqb q) ns ≡ true → q < 32768
all_below f s low high [] all q is = absurd cc
all_below f s low high (n ∷ ns) all q is = by (eqb q n) refl is (λ h. all_below f s low high ns all.1 q h)
  where
    by : (t : Bool) → eqb q n ≡ t → (t || list_any (eqb q) ns) ≡ true
        → (list_any (eqb q) ns ≡ true → q < 32768) → q < 32768
    by true e h deeper =
        let same = eqb-true q n e in
        let here = in_slots f s all.0.addr all.0.page all.0.there in
        let node = here.0 in
        let slot = here.1 in
        let is : n ≡ 4096 * all.0.addr.node.0 + all.0.addr.slot = all.0.number_is in
        omega arith
    by false e h deeper = deeper h

-- the page stands in none of its leaves' slots
other_slots : (f : Forest) → IsForest f → (addr : Addr) (p : Page) → page_at f addr ≡ Some p
    → 1 ≤ height_of p.body → (low : List ℕ) (high : Option (List ℕ)) (ns : List ℕ)
    → AllByRecursion (LeafAt f low high) ns
    → AllByRecursion (λ n. eqb (slot_number addr) n ≡ false) ns
other_slots f s addr p there inner low high ns all = weaker (LeafAt f low high) (λ n. eqb (slot_number addr) n ≡ false) differ ns all
  where
    differ : (n : ℕ) → LeafAt f low high n → eqb (slot_number addr) n ≡ false
    differ n l = by (eqb_tells (slot_number addr) n)
      where
        by : ((eqb (slot_number addr) n ≡ true) × (slot_number addr ≡ n))
            ⊎ ((eqb (slot_number addr) n ≡ false) × (slot_number addr ≡ n → ⊥))
            → eqb (slot_number addr) n ≡ false
        by (inl same) =
            let one : p ≡ l.page = one_page f s addr l.addr p l.page there l.there (same.1 ∙ l.number_is) in
            let level : height_of p.body ≡ 0 = ap (λ (q : Page). height_of q.body) one ∙ l.leaf in
            absurd (omega arith)
        by (inr differ) = differ.0

pub forest_low : (f : Forest) → IsForest f → (addr : Addr) (p : Page) → page_at f addr ≡ Some p
    → height_of p.body ≤ 14
unfolding IsDistinct
forest_low f s addr p there = by (below_or (height_of p.body) 15)
  where
    by : (height_of p.body < 15) ⊎ (15 ≤ height_of p.body) → height_of p.body ≤ 14
    by (inl low) = omega arith
    by (inr high) =
        let l = leaves_below f s (height_of p.body) addr p there refl in
        let slots = in_slots f s addr p there in
        let node = slots.0 in
        let slot = slots.1 in
        let own : slot_number addr < 32768 = omega arith in
        let few : length (slot_number addr ∷ l.numbers) ≤ 32768 = length-le_from_distinct_below (slot_number addr ∷ l.numbers) 32768 (other_slots f s addr p there (omega arith) p.low p.high l.numbers l.leaves, l.distinct) (within l.numbers own (all_below f s p.low p.high l.numbers l.leaves)) in
        let many = l.many in
        let most = many_leaves (height_of p.body) high in
        absurd (omega arith)
      where
        within : (ns : List ℕ) → slot_number addr < 32768
            → ((q : ℕ) → list_any (eqb q) ns ≡ true → q < 32768) → (q : ℕ)
            → list_any (eqb q) (slot_number addr ∷ ns) ≡ true → q < 32768
        within ns own rest q is = at (eqb q (slot_number addr)) refl is
          where
            at : (t : Bool) → eqb q (slot_number addr) ≡ t → (t || list_any (eqb q) ns) ≡ true
                → q < 32768
            at true e h = let same : q ≡ slot_number addr = eqb-true q (slot_number addr) e in omega arith
            at false e h = rest q h

pub none_too_high : NoneTooHigh
none_too_high memory store holds addr p there = forest_low holds.forest holds.sound addr p there

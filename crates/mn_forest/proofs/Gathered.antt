-- The pairs under a page: they ascend within its range, and those of a leaf's range are the leaf's.
use Rattle.std.proofs.Common.{◌≡◌, ◌<◌, ◌≤◌, ℕ, zero, suc, Bool, true, false, cond, List, [], ◌∷◌, ◌++◌, length, map, Option, Some, refl, ap, sym, subst, ◌∙◌, arith, slice_get, append-nil}
use Rattle.std.specs.Prelude.{filter, IsTrue}
use Rattle.std.specs.List.{flat_map, AllByRecursion}
use Rattle.std.specs.Option.{option_map_or}
use Rattle.std.proofs.lemmas.List.Elements.{filter-append}
use Rattle.mn_base.specs.Order.{key_lt, covers_key}
use Rattle.mn_base.specs.Store.{Store, StoreVersion, heads_of, is_ascending}
use Rattle.mn_base.specs.declared.ids.Addr.{Addr}
use Rattle.mn_base.specs.declared.reply.Pair.{Pair}
use Rattle.mn_page.specs.declared.entry.CatEntry.{CatEntry}
use Rattle.mn_page.specs.declared.page.Page.{Page}
use Rattle.mn_page.specs.declared.page.Body.{Body}
use Rattle.mn_page.specs.declared.page.Body.TheVariants.{Leaf, Inner}
use Rattle.mn_page.specs.declared.page.Child.{Child}
use Rattle.mn_page.specs.Grammar.{IsPage, IsBody, IsKey, IsValue, height_of}
use Rattle.mn_page.specs.Forest.{entry_head, heads_in, ChildRange, ranges_from, body_children, children_of}
use Rattle.mn_page.specs.Holds.{PagesAt, page_covers, page_serves, pairs_in, IsChild, IsOnPath, IsTree, ShowsStore}
use Rattle.mn_page.specs.Reading.{addrs_in}
use Rattle.mn_page.proofs.Grid.{all_at_place}
use Rattle.mn_base.proofs.PairsWith.{ascending_parts, ascending_cons, first_above}
use Rattle.mn_base.proofs.Lists.{all_append, weaker}
use Rattle.mn_base.proofs.Booleans.{clash}
use Rattle.mn_plans.proofs.Spaces.{lt_le}
use Rattle.mn_forest.specs.Shown.{pairs_below, height_there, version_shown, store_shown}
use Rattle.mn_forest.proofs.Children.{addrs_are}
use Rattle.mn_forest.proofs.Ranges.{child_covers, covered, covers, IsCut, cut_of, child_for, inside_from, child_inside}
use Rattle.mn_forest.proofs.Partition.{root_on_path, covers_low, same_page}

-- Lists

abbrev pub AllIn : List ℕ → Option (List ℕ) → List Pair → Type 0
AllIn low high ps = AllByRecursion (λ p. covers_key low high p.key ≡ true) ps

-- what is below a separator stands before what is not
first_of_both : (key sep : List ℕ) (xs ys : List Pair) → key_lt key sep ≡ true → first_above key xs ≡ true → AllByRecursion (λ p. key_lt p.key sep ≡ false) ys → first_above key (xs ++ ys) ≡ true
first_of_both key sep [] [] low up high = refl
first_of_both key sep [] (y ∷ ys) low up high = lt_le key sep y.key low high.0
first_of_both key sep (x ∷ xs) ys low up high = up

ascending_both : (sep : List ℕ) (xs ys : List Pair) → AllByRecursion (λ p. key_lt p.key sep ≡ true) xs → is_ascending xs ≡ true → AllByRecursion (λ p. key_lt p.key sep ≡ false) ys → is_ascending ys ≡ true → is_ascending (xs ++ ys) ≡ true
ascending_both sep [] ys low up high also = also
ascending_both sep (x ∷ xs) ys low up high also =
    let p = ascending_parts x xs up in ascending_cons x (xs ++ ys) (first_of_both x.key sep xs ys low.0 p.0 high) (ascending_both sep xs ys low.1 p.1 high also)

filter_all : {X : Type 0} (t : X → Bool) (xs : List X) → AllByRecursion (λ x. t x ≡ true) xs → filter t xs ≡ xs
filter_all t [] all = refl
filter_all {X} t (x ∷ xs) all = ap (λ b. cond b (x ∷ filter t xs) (filter t xs)) all.0 ∙ ap (λ (ys : List X). x ∷ ys) (filter_all t xs all.1)

filter_none : {X : Type 0} (t : X → Bool) (xs : List X) → AllByRecursion (λ x. t x ≡ true → ⊥) xs → filter t xs ≡ []
filter_none t [] all = refl
filter_none {X} t (x ∷ xs) all = by (t x) refl (filter_none t xs all.1)
  where
    by : (b : Bool) → t x ≡ b → filter t xs ≡ [] → filter t (x ∷ xs) ≡ []
    by true e rest = absurd (all.0 e)
    by false e rest = ap (λ b. cond b (x ∷ filter t xs) (filter t xs)) e ∙ rest

filter_flat : {X Y : Type 0} (t : Y → Bool) (g : X → List Y) (xs : List X) → filter t (flat_map g xs) ≡ flat_map (λ x. filter t (g x)) xs
filter_flat t g [] = refl
filter_flat {X} {Y} t g (x ∷ xs) = filter-append t (g x) (flat_map g xs) ∙ ap (λ (ys : List Y). filter t (g x) ++ ys) (filter_flat t g xs)

flat_mapped : {X Y Z : Type 0} (g : Y → List Z) (f : X → Y) (xs : List X) → flat_map g (map f xs) ≡ flat_map (λ x. g (f x)) xs
flat_mapped g f [] = refl
flat_mapped {X} {Y} {Z} g f (x ∷ xs) = ap (λ (ys : List Z). g (f x) ++ ys) (flat_mapped g f xs)

flat_none : {X Y : Type 0} (g : X → List Y) (xs : List X) → ((i : ℕ) (x : X) → slice_get xs i ≡ Some x → g x ≡ []) → flat_map g xs ≡ []
flat_none g [] each = refl
flat_none {X} {Y} g (x ∷ xs) each = ap (λ (ys : List Y). ys ++ flat_map g xs) (each 0 x refl) ∙ flat_none g xs (λ i y is. each (suc i) y is)

-- Children

abbrev Orders : (ChildRange → List Pair) → ChildRange → Type 0
Orders g c = AllIn c.low c.high (g c) × (is_ascending (g c) ≡ true)

abbrev Each : (ChildRange → Type 0) → List ChildRange → Type 0
Each P cs = (i : ℕ) (c : ChildRange) → slice_get cs i ≡ Some c → P c

-- what ascends in each child's range ascends in all
ordered : (g : ChildRange → List Pair) (addr : Addr) (low : List ℕ) (cs : List Child) (high : Option (List ℕ)) → IsCut low cs high → Each (Orders g) (ranges_from addr low cs high)
    → AllIn low high (flat_map g (ranges_from addr low cs high)) × (is_ascending (flat_map g (ranges_from addr low cs high)) ≡ true)
ordered g addr low [] high cut each =
    let r : ChildRange = record { addr = addr; low = low; high = high } in
    let one = each 0 r refl in
    let same : g r ++ [] ≡ g r = append-nil (g r) in (subst (λ (ps : List Pair). AllIn low high ps) (sym same) one.0, ap is_ascending same ∙ one.1)
ordered g addr low (d ∷ cs) high cut each = by (ordered g d.addr d.separator cs high cut.2 (λ i c is. each (suc i) c is))
  where
    by : AllIn d.separator high (flat_map g (ranges_from d.addr d.separator cs high)) × (is_ascending (flat_map g (ranges_from d.addr d.separator cs high)) ≡ true)
        → AllIn low high (flat_map g (ranges_from addr low (d ∷ cs) high)) × (is_ascending (flat_map g (ranges_from addr low (d ∷ cs) high)) ≡ true)
    by rest =
        let r : ChildRange = record { addr = addr; low = low; high = Some d.separator } in
        let one = each 0 r refl in (
          all_append (λ p. covers_key low high p.key ≡ true) (g r) (flat_map g (ranges_from d.addr d.separator cs high))
              (weaker (λ p. covers_key low (Some d.separator) p.key ≡ true) (λ p. covers_key low high p.key ≡ true) (λ p is. inside_from addr low (d ∷ cs) high p.key 0 r cut refl is) (g r) one.0)
              (weaker (λ p. covers_key d.separator high p.key ≡ true) (λ p. covers_key low high p.key ≡ true) (λ p is. wider p is) (flat_map g (ranges_from d.addr d.separator cs high)) rest.0),
          ascending_both d.separator (g r) (flat_map g (ranges_from d.addr d.separator cs high))
              (weaker (λ p. covers_key low (Some d.separator) p.key ≡ true) (λ p. key_lt p.key d.separator ≡ true) (λ p is. (covered low (Some d.separator) p.key is).1) (g r) one.0) one.1
              (weaker (λ p. covers_key d.separator high p.key ≡ true) (λ p. key_lt p.key d.separator ≡ false) (λ p is. (covered d.separator high p.key is).0) (flat_map g (ranges_from d.addr d.separator cs high)) rest.0) rest.1,
        )
      where
        wider : (p : Pair) → covers_key d.separator high p.key ≡ true → covers_key low high p.key ≡ true
        wider p is = let q = covered d.separator high p.key is in covers low high p.key (Rattle.mn_forest.proofs.Ranges.not_lower p.key low d.separator cut.0 q.0) q.1

-- what only the child for a key has is what all have
from_one : {Y : Type 0} (g : ChildRange → List Y) (xs : List Y) (key : List ℕ) (addr : Addr) (low : List ℕ) (cs : List Child) (high : Option (List ℕ)) → IsCut low cs high
    → Each (λ c. child_covers key c ≡ true → g c ≡ xs) (ranges_from addr low cs high) → Each (λ c. child_covers key c ≡ false → g c ≡ []) (ranges_from addr low cs high)
    → covers_key low high key ≡ true → flat_map g (ranges_from addr low cs high) ≡ xs
from_one g xs key addr low [] high cut one none is = append-nil (g (record { addr = addr; low = low; high = high })) ∙ one 0 (record { addr = addr; low = low; high = high }) refl is
from_one {Y} g xs key addr low (d ∷ cs) high cut one none is = by (key_lt key d.separator) refl (λ more. from_one g xs key d.addr d.separator cs high cut.2 (λ i c at. one (suc i) c at) (λ i c at. none (suc i) c at) more)
  where
    first : ChildRange
    first = record { addr = addr; low = low; high = Some d.separator }

    outside : key_lt key d.separator ≡ true → (i : ℕ) (c : ChildRange) → slice_get (ranges_from d.addr d.separator cs high) i ≡ Some c → (b : Bool) → child_covers key c ≡ b → g c ≡ []
    outside low' i c at true e = absurd (clash (key_lt key d.separator) low' (covered d.separator high key (inside_from d.addr d.separator cs high key i c cut.2 at e)).0)
    outside low' i c at false e = none (suc i) c at e

    by : (b : Bool) → key_lt key d.separator ≡ b → (covers_key d.separator high key ≡ true → flat_map g (ranges_from d.addr d.separator cs high) ≡ xs) → flat_map g (ranges_from addr low (d ∷ cs) high) ≡ xs
    by true e rest =
        let here : g (record { addr = addr; low = low; high = Some d.separator }) ≡ xs = one 0 (record { addr = addr; low = low; high = Some d.separator }) refl (covers low (Some d.separator) key (covered low high key is).0 e) in
        let others : flat_map g (ranges_from d.addr d.separator cs high) ≡ [] = flat_none g (ranges_from d.addr d.separator cs high) (λ i c at. outside e i c at (child_covers key c) refl) in
        ap (λ (ys : List Y). g (record { addr = addr; low = low; high = Some d.separator }) ++ ys) others ∙ append-nil (g (record { addr = addr; low = low; high = Some d.separator })) ∙ here
    by false e rest =
        let here : g (record { addr = addr; low = low; high = Some d.separator }) ≡ [] = none 0 (record { addr = addr; low = low; high = Some d.separator }) refl (not_below_high e) in
        ap (λ (ys : List Y). ys ++ flat_map g (ranges_from d.addr d.separator cs high)) here ∙ rest (covers d.separator high key e (covered low high key is).1)
      where
        not_below_high : key_lt key d.separator ≡ false → covers_key low (Some d.separator) key ≡ false
        not_below_high f = cases (covers_key low (Some d.separator) key) refl
          where
            cases : (b : Bool) → covers_key low (Some d.separator) key ≡ b → covers_key low (Some d.separator) key ≡ false
            cases true g' = absurd (clash (key_lt key d.separator) (covered low (Some d.separator) key g').1 f)
            cases false g' = g'

-- the same of the children of a page
page_ordered : (g : ChildRange → List Pair) (p : Page) → IsPage p → 1 ≤ height_of p.body → Each (Orders g) (children_of p) → AllIn p.low p.high (flat_map g (children_of p)) × (is_ascending (flat_map g (children_of p)) ≡ true)
page_ordered g p is high = by p.body is.body high
  where
    by : (b : Body) → IsBody p.low p.high b → 1 ≤ height_of b → Each (Orders g) (body_children p.low p.high b) → AllIn p.low p.high (flat_map g (body_children p.low p.high b)) × (is_ascending (flat_map g (body_children p.low p.high b)) ≡ true)
    by (Leaf pairs) body up each = (tt, refl)
    by (Inner height first rest) body up each = ordered g first p.low rest p.high (cut_of p.low p.high rest body.5 body.6) each

page_from_one : {Y : Type 0} (g : ChildRange → List Y) (xs : List Y) (key : List ℕ) (p : Page) → IsPage p → 1 ≤ height_of p.body → Each (λ c. child_covers key c ≡ true → g c ≡ xs) (children_of p) → Each (λ c. child_covers key c ≡ false → g c ≡ []) (children_of p)
    → page_covers key p ≡ true → flat_map g (children_of p) ≡ xs
page_from_one g xs key p is high = by p.body is.body high
  where
    by : (b : Body) → IsBody p.low p.high b → 1 ≤ height_of b → Each (λ c. child_covers key c ≡ true → g c ≡ xs) (body_children p.low p.high b) → Each (λ c. child_covers key c ≡ false → g c ≡ []) (body_children p.low p.high b)
        → covers_key p.low p.high key ≡ true → flat_map g (body_children p.low p.high b) ≡ xs
    by (Leaf pairs) body up one none does = absurd (omega arith)
    by (Inner height first rest) body up one none does = from_one g xs key first p.low rest p.high (cut_of p.low p.high rest body.5 body.6) one none does

leaf_ordered : (p : Page) → IsPage p → height_of p.body ≡ 0 → AllIn p.low p.high (pairs_in p.body) × (is_ascending (pairs_in p.body) ≡ true)
leaf_ordered p is low = by p.body is.body low
  where
    by : (b : Body) → IsBody p.low p.high b → height_of b ≡ 0 → AllIn p.low p.high (pairs_in b) × (is_ascending (pairs_in b) ≡ true)
    by (Leaf pairs) body e = (weaker (λ x. IsKey x.key × IsValue x.value × IsTrue (covers_key p.low p.high x.key)) (λ x. covers_key p.low p.high x.key ≡ true) (λ x w. w.2) pairs body.2, body.1)
    by (Inner height first rest) body e = absurd (let some = body.0 in omega arith)

-- Pages

module _ (entries : List CatEntry) (at : PagesAt) (t : IsTree entries at) (valid : (addr : Addr) (p : Page) → at addr ≡ Some p → IsPage p) (v : ℕ) (in' : v < length entries) where
  -- a page of a height that serves the version
  pub record Serving (height : ℕ) (addr : Addr) (p : Page) : Type 0 where
    pub there : at addr ≡ Some p
    pub level : height_of p.body ≡ height
    pub serves : IsTrue (page_serves entries v p)

  child_serving : (height : ℕ) (addr : Addr) (p : Page) → Serving (suc height) addr p → (i : ℕ) (c : ChildRange) → slice_get (children_of p) i ≡ Some c → (q : Page) × Serving height c.addr q × (q.low ≡ c.low) × (q.high ≡ c.high)
  child_serving height addr p s i c is =
      let child = all_at_place (IsChild entries at p) (children_of p) i c (t.children addr p s.there) is in
      (child.page, record { there = child.there; level = (let l = s.level in let m = child.height in omega arith); serves = child.serves v in' s.serves }, child.low, child.high)

  leaf_pairs : (addr : Addr) (p : Page) → at addr ≡ Some p → pairs_below at 0 addr ≡ pairs_in p.body
  leaf_pairs addr p there = ap (λ (o : Option Page). option_map_or (λ x. pairs_in x.body) o []) there

  inner_pairs : (height : ℕ) (addr : Addr) (p : Page) → at addr ≡ Some p → pairs_below at (suc height) addr ≡ flat_map (λ c. pairs_below at height c.addr) (children_of p)
  inner_pairs height addr p there =
      ap (λ (o : Option Page). flat_map (pairs_below at height) (option_map_or (λ x. addrs_in x.body) o [])) there
      ∙ ap (λ (l : List Addr). flat_map (pairs_below at height) l) (addrs_are p) ∙ flat_mapped (pairs_below at height) (λ (c : ChildRange). c.addr) (children_of p)

  -- the pairs under a page ascend within its range
  below_ordered : (height : ℕ) (addr : Addr) (p : Page) → Serving height addr p → AllIn p.low p.high (pairs_below at height addr) × (is_ascending (pairs_below at height addr) ≡ true)
  below_ordered zero addr p s =
      let is = leaf_ordered p (valid addr p s.there) s.level in
      let same = leaf_pairs addr p s.there in (subst (λ (ps : List Pair). AllIn p.low p.high ps) (sym same) is.0, ap is_ascending same ∙ is.1)
  below_ordered (suc height) addr p s =
      let is = page_ordered (λ c. pairs_below at height c.addr) p (valid addr p s.there) (let l = s.level in omega arith) (λ i c at'. one c (child_serving height addr p s i c at') (λ q w. below_ordered height c.addr q w)) in
      let same = inner_pairs height addr p s.there in (subst (λ (ps : List Pair). AllIn p.low p.high ps) (sym same) is.0, ap is_ascending same ∙ is.1)
    where
      one : (c : ChildRange) → ((q : Page) × Serving height c.addr q × (q.low ≡ c.low) × (q.high ≡ c.high)) → ((q : Page) → Serving height c.addr q → AllIn q.low q.high (pairs_below at height c.addr) × (is_ascending (pairs_below at height c.addr) ≡ true))
          → Orders (λ c. pairs_below at height c.addr) c
      one c q rest = let r = rest q.0 q.1 in (subst (λ (h : Option (List ℕ)). AllIn c.low h (pairs_below at height c.addr)) q.3 (subst (λ (l : List ℕ). AllIn l q.0.high (pairs_below at height c.addr)) q.2 r.0), r.1)

  -- a leaf for a key under a page that covers it, whose range is within the page's
  record LeafUnder (key : List ℕ) (p : Page) : Type 0 where
    addr : Addr
    leaf : Page
    on : IsOnPath entries at v 0 key addr leaf
    within : (k : List ℕ) → page_covers k leaf ≡ true → page_covers k p ≡ true

  range_covers : (k : List ℕ) (q : Page) (c : ChildRange) → q.low ≡ c.low → q.high ≡ c.high → page_covers k q ≡ child_covers k c
  range_covers k q c low high = ap (λ (l : List ℕ). covers_key l q.high k) low ∙ ap (λ (h : Option (List ℕ)). covers_key c.low h k) high

  leaf_under : (height : ℕ) (addr : Addr) (p : Page) (key : List ℕ) → Serving height addr p → page_covers key p ≡ true → LeafUnder key p
  leaf_under zero addr p key s is = record { addr = addr; leaf = p; on = record { there = s.there; level = s.level; serves = s.serves; covers = is }; within = λ k does. does }
  leaf_under (suc height) addr p key s is =
      let good = valid addr p s.there in
      let c = child_for p key good (let l = s.level in omega arith) is in
      let q = child_serving height addr p s c.0 c.1 c.2 in
      let under = leaf_under height c.1.addr q.0 key q.1 (range_covers key q.0 c.1 q.2 q.3 ∙ c.3) in
      record { addr = under.addr; leaf = under.leaf; on = under.on; within = λ k does. child_inside p k c.0 c.1 good c.2 (sym (range_covers k q.0 c.1 q.2 q.3) ∙ under.within k does) }

  -- a page that covers a key of a leaf covers the leaf's low fence
  meets : (height : ℕ) (addr a : Addr) (p leaf : Page) (key : List ℕ) → Serving height addr p → Serving 0 a leaf → page_covers key p ≡ true → page_covers key leaf ≡ true → page_covers leaf.low p ≡ true
  meets height addr a p leaf key s l is does =
      let under = leaf_under height addr p key s is in
      let one = t.partition v 0 in' (omega arith) key in
      let same : under.addr ≡ a = one.only under.addr under.leaf under.on ∙ sym (one.only a leaf (record { there = l.there; level = l.level; serves = l.serves; covers = does })) in
      let pages : under.leaf ≡ leaf = same_page under.leaf leaf (at a) (ap at (sym same) ∙ under.on.there) l.there in
      under.within leaf.low (subst (λ (q : Page). page_covers leaf.low q ≡ true) (sym pages) (covers_low entries at t valid leaf (valid a leaf l.there)))

  none_of : (height : ℕ) (addr a : Addr) (p leaf : Page) → Serving height addr p → Serving 0 a leaf → page_covers leaf.low p ≡ false → filter (λ pair. page_covers pair.key leaf) (pairs_below at height addr) ≡ []
  none_of height addr a p leaf s l off =
      filter_none (λ pair. page_covers pair.key leaf) (pairs_below at height addr)
      (weaker (λ pair. covers_key p.low p.high pair.key ≡ true) (λ pair. page_covers pair.key leaf ≡ true → ⊥) (λ pair is does. clash (page_covers leaf.low p) (meets height addr a p leaf pair.key s l is does) off) (pairs_below at height addr) (below_ordered height addr p s).0)

  of_leaf : (height : ℕ) (addr a : Addr) (p leaf : Page) → Serving height addr p → Serving 0 a leaf → page_covers leaf.low p ≡ true → filter (λ pair. page_covers pair.key leaf) (pairs_below at height addr) ≡ pairs_in leaf.body
  of_leaf zero addr a p leaf s l is =
      let one = t.partition v 0 in' (omega arith) leaf.low in
      let good = valid a leaf l.there in
      let same : addr ≡ a = one.only addr p (record { there = s.there; level = s.level; serves = s.serves; covers = is }) ∙ sym (one.only a leaf (record { there = l.there; level = l.level; serves = l.serves; covers = covers_low entries at t valid leaf good })) in
      ap (λ (ps : List Pair). filter (λ pair. page_covers pair.key leaf) ps) (ap (pairs_below at 0) same ∙ leaf_pairs a leaf l.there) ∙ filter_all (λ pair. page_covers pair.key leaf) (pairs_in leaf.body) (leaf_ordered leaf good l.level).0
  of_leaf (suc height) addr a p leaf s l is =
      ap (λ (ps : List Pair). filter (λ pair. page_covers pair.key leaf) ps) (inner_pairs height addr p s.there)
      ∙ filter_flat (λ pair. page_covers pair.key leaf) (λ (c : ChildRange). pairs_below at height c.addr) (children_of p)
      ∙ page_from_one (λ c. filter (λ pair. page_covers pair.key leaf) (pairs_below at height c.addr)) (pairs_in leaf.body) leaf.low p (valid addr p s.there) (let k = s.level in omega arith)
      (λ i c at' does. one c (child_serving height addr p s i c at') does (λ q w in''. of_leaf height c.addr a q leaf w l in''))
      (λ i c at' off. none c (child_serving height addr p s i c at') off) is
    where
      one : (c : ChildRange) → ((q : Page) × Serving height c.addr q × (q.low ≡ c.low) × (q.high ≡ c.high)) → child_covers leaf.low c ≡ true
          → ((q : Page) → Serving height c.addr q → page_covers leaf.low q ≡ true → filter (λ pair. page_covers pair.key leaf) (pairs_below at height c.addr) ≡ pairs_in leaf.body) → filter (λ pair. page_covers pair.key leaf) (pairs_below at height c.addr) ≡ pairs_in leaf.body
      one c q does rest = rest q.0 q.1 (range_covers leaf.low q.0 c q.2 q.3 ∙ does)

      none : (c : ChildRange) → ((q : Page) × Serving height c.addr q × (q.low ≡ c.low) × (q.high ≡ c.high)) → child_covers leaf.low c ≡ false → filter (λ pair. page_covers pair.key leaf) (pairs_below at height c.addr) ≡ []
      none c q off = none_of height c.addr a q.0 leaf q.1 l (range_covers leaf.low q.0 c q.2 q.3 ∙ off)

  -- the root of the version
  at_root : (e : CatEntry) → slice_get entries v ≡ Some e → (p : Page) × Serving (height_there at e.root) e.root p × ((key : List ℕ) → page_covers key p ≡ true)
  at_root e is =
      let on = root_on_path entries at t.versions valid v in' (t.roots v in') e is [] in
      let same = ap (λ (o : Option Page). option_map_or (λ x. height_of x.body) o 0) on.1.there in (
        on.0,
        record { there = on.1.there; level = sym same; serves = on.1.serves },
        λ key. let every = root_on_path entries at t.versions valid v in' (t.roots v in') e is key in
            subst (λ (q : Page). page_covers key q ≡ true) (same_page every.0 on.0 (at e.root) every.1.there on.1.there) every.1.covers,
      )

  pub version_ascends : (e : CatEntry) → slice_get entries v ≡ Some e → is_ascending (version_shown at e).pairs ≡ true
  version_ascends e is = let r = at_root e is in (below_ordered (height_there at e.root) e.root r.0 r.1).1

  pub version_leaves : (e : CatEntry) → slice_get entries v ≡ Some e → (addr : Addr) (p : Page) → at addr ≡ Some p → height_of p.body ≡ 0 → IsTrue (page_serves entries v p) → filter (λ pair. page_covers pair.key p) (version_shown at e).pairs ≡ pairs_in p.body
  version_leaves e is addr p there level serves = let r = at_root e is in of_leaf (height_there at e.root) e.root addr r.0 p r.1 (record { there = there; level = level; serves = serves }) (r.2 p.low)

-- The store

heads_shown : (at : PagesAt) (entries : List CatEntry) → heads_of (store_shown at entries) ≡ heads_in entries
heads_shown at [] = refl
heads_shown at (e ∷ es) = ap (λ (hs : List Rattle.mn_base.specs.Store.Head). entry_head e ∷ hs) (heads_shown at es)

version_at : (at : PagesAt) (entries : List CatEntry) (v : ℕ) (version : StoreVersion) → slice_get (store_shown at entries) v ≡ Some version → (e : CatEntry) × (slice_get entries v ≡ Some e) × (version ≡ version_shown at e)
version_at at [] v version is = absurd cc
version_at at (e ∷ es) zero version is = (e, refl, cc)
version_at at (e ∷ es) (suc v) version is = version_at at es v version is

-- a tree shows the store of its leaves
pub shows_store : (entries : List CatEntry) (at : PagesAt) → IsTree entries at → ((addr : Addr) (p : Page) → at addr ≡ Some p → IsPage p) → ShowsStore entries at (store_shown at entries)
shows_store entries at t valid = record {
  heads = heads_shown at entries;
  ascending = Rattle.mn_page.proofs.Grid.all_by_place (λ x. IsTrue (is_ascending x.pairs)) (store_shown at entries) (λ v version is.
      let e = version_at at entries v version is in
      subst (λ (x : StoreVersion). IsTrue (is_ascending x.pairs)) (sym e.2) (version_ascends entries at t valid v (Rattle.mn_flat.proofs.Lists.place_in entries v e.0 e.1) e.0 e.1));
  leaves = λ v version addr p is there level serves.
      let e = version_at at entries v version is in
      subst (λ (x : StoreVersion). filter (λ pair. page_covers pair.key p) x.pairs ≡ pairs_in p.body) (sym e.2) (version_leaves entries at t valid v (Rattle.mn_flat.proofs.Lists.place_in entries v e.0 e.1) e.0 e.1 addr p there level serves);
}

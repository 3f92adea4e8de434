-- A page in place of one with the same made version, copied set, fences, height and children: what
-- the forest is stays.
use Rattle.std.proofs.Common.{◌≡◌, ℕ, zero, suc, ◌+◌, ◌<◌, ◌≤◌, ◌⊎◌, inl, inr, true, cond, ◌&&◌, List, [], ◌∷◌, length, Option, Some, refl, subst, sym, ap, ◌∙◌, slice_get, slice_set, slice_index_or}
use Rattle.std.specs.Prelude.{filter, count_by, nat_eq, IsTrue}
use Rattle.std.specs.List.{AllByRecursion}
use Rattle.std.specs.Option.{option_and_then, option_map_or}
use Rattle.std.proofs.lemmas.Bool.{eqb-true, and_parts, cases_eq}
use Rattle.std.proofs.lemmas.List.{length-set, nil_from_length}
use Rattle.std.proofs.lemmas.Option.{option_and_then_some}
use Rattle.mn_base.specs.Order.{covers_key}
use Rattle.mn_base.specs.Store.{Head, Store, StoreVersion, heads_of, is_ascending}
use Rattle.mn_base.specs.Tree.{serves, parents_of, is_ancestor, versions_in}
use Rattle.mn_base.specs.declared.ids.Addr.{Addr}
use Rattle.mn_base.specs.declared.reply.Pair.{Pair}
use Rattle.mn_base.proofs.Lists.{set_at, weaker}
use Rattle.mn_page.specs.declared.page.Page.{Page}
use Rattle.mn_page.specs.declared.entry.CatEntry.{CatEntry}
use Rattle.mn_page.specs.Grammar.{IsPage, height_of}
use Rattle.mn_page.specs.Forest.{Forest, ChildRange, page_at, children_of}
use Rattle.mn_page.specs.Holds.{page_covers, pairs_in}
use Rattle.mn_page.proofs.Grid.{get_in, set_in, get_in-set_same, get_in-set_other, count-set_in, lengths-set_in, all_by_places, all_at_places, all_filter, all_of_filter}
use Rattle.mn_page.proofs.Counted.{IsChildIn, IsCounted, IsPageIn, IsRootIn, ListsStore, all_pages, forest_heads, height_in, is_on_path, on_path_count, root_in, serves_in, serving_pages}

pub record Alike (p q : Page) : Type 0 where
  pub made : q.made.0 ≡ p.made.0
  pub copied : q.copied ≡ p.copied
  pub low : q.low ≡ p.low
  pub high : q.high ≡ p.high
  pub height : height_of q.body ≡ height_of p.body
  pub children : children_of q ≡ children_of p

pub alike_itself : (p : Page) → Alike p p
alike_itself p = record { made = refl; copied = refl; low = refl; high = refl; height = refl; children = refl }

-- the forest with this page at this address
abbrev pub with_page : Forest → Addr → Page → Forest
with_page f addr q = record { entries = f.entries; pages = set_in f.pages addr.node.0 addr.slot q }

-- the old page of a place, and the new one
pub record Replaced (f : Forest) (addr : Addr) (p q : Page) (n s : ℕ) (old new : Page) : Type 0 where
  pub was : get_in f.pages n s ≡ Some old
  pub now : get_in (with_page f addr q).pages n s ≡ Some new
  pub alike : Alike old new
  pub here : ((addr.node.0 ≡ n) × (addr.slot ≡ s) × (old ≡ p) × (new ≡ q)) ⊎ ((addr.node.0 ≡ n → addr.slot ≡ s → ⊥) × (new ≡ old))

pub same_place : (a b c d : ℕ) → ((a ≡ b) × (c ≡ d)) ⊎ (a ≡ b → c ≡ d → ⊥)
same_place a b c d =
    elim (cases_eq a b) as (λ _. ((a ≡ b) × (c ≡ d)) ⊎ (a ≡ b → c ≡ d → ⊥)) [
      | inl e ↦ elim (cases_eq c d) as (λ _. ((a ≡ b) × (c ≡ d)) ⊎ (a ≡ b → c ≡ d → ⊥)) [
        | inl f ↦ inl (e, f)
        | inr f ↦ inr (λ _ g. f g)
      ]
      | inr e ↦ inr (λ g _. e g)
    ]

-- each page of the old forest has one in the new
pub replaced : (f : Forest) (addr : Addr) (p q : Page) → page_at f addr ≡ Some p → Alike p q → (n s : ℕ) (old : Page) → get_in f.pages n s ≡ Some old → (new : Page) × Replaced f addr p q n s old new
replaced f addr p q there alike n s old was =
    elim (same_place addr.node.0 n addr.slot s) as (λ _. (new : Page) × Replaced f addr p q n s old new) [
      | inl e ↦
          let at : get_in f.pages n s ≡ Some p = subst (λ k. get_in f.pages k s ≡ Some p) e.0 (subst (λ k. get_in f.pages addr.node.0 k ≡ Some p) e.1 there) in
          let is : p ≡ old = cc in
          let now : get_in (with_page f addr q).pages n s ≡ Some q =
          subst (λ k. get_in (with_page f addr q).pages k s ≡ Some q) e.0 (subst (λ k. get_in (with_page f addr q).pages addr.node.0 k ≡ Some q) e.1 (get_in-set_same f.pages addr.node.0 addr.slot p q there)) in
          (q, record { was = was; now = now; alike = subst (λ (x : Page). Alike x q) is alike; here = inl (e.0, e.1, sym is, refl) })
      | inr e ↦ (old, record { was = was; now = get_in-set_other f.pages addr.node.0 addr.slot q n s e ∙ was; alike = alike_itself old; here = inr (e, refl) })
    ]

-- and each page of the new forest one in the old
pub replaces : (f : Forest) (addr : Addr) (p q : Page) → page_at f addr ≡ Some p → Alike p q → (n s : ℕ) (new : Page) → get_in (with_page f addr q).pages n s ≡ Some new → (old : Page) × Replaced f addr p q n s old new
replaces f addr p q there alike n s new now =
    elim (same_place addr.node.0 n addr.slot s) as (λ _. (old : Page) × Replaced f addr p q n s old new) [
      | inl e ↦
          let at : get_in f.pages n s ≡ Some p = subst (λ k. get_in f.pages k s ≡ Some p) e.0 (subst (λ k. get_in f.pages addr.node.0 k ≡ Some p) e.1 there) in
          let is : get_in (with_page f addr q).pages n s ≡ Some q =
          subst (λ k. get_in (with_page f addr q).pages k s ≡ Some q) e.0 (subst (λ k. get_in (with_page f addr q).pages addr.node.0 k ≡ Some q) e.1 (get_in-set_same f.pages addr.node.0 addr.slot p q there)) in
          let same : q ≡ new = cc in
          (p, record { was = at; now = now; alike = subst (λ (x : Page). Alike p x) same alike; here = inl (e.0, e.1, refl, sym same) })
      | inr e ↦ (new, record { was = sym (get_in-set_other f.pages addr.node.0 addr.slot q n s e) ∙ now; now = now; alike = alike_itself new; here = inr (e, refl) })
    ]

-- What the pages' tests say

pub serves_alike : (f : Forest) (p q : Page) → Alike p q → (v : ℕ) → serves_in f v q ≡ serves_in f v p
serves_alike f p q alike v = ap (λ m. serves (parents_of (forest_heads f)) m q.copied v) alike.made ∙ ap (λ c. serves (parents_of (forest_heads f)) p.made.0 c v) alike.copied

pub covers_alike : (p q : Page) → Alike p q → (key : List ℕ) → page_covers key q ≡ page_covers key p
covers_alike p q alike key = ap (λ (l : List ℕ). covers_key l q.high key) alike.low ∙ ap (λ (h : Option (List ℕ)). covers_key p.low h key) alike.high

at_height_alike : (f : Forest) (p q : Page) → Alike p q → (v height : ℕ) → (serves_in f v q && nat_eq (height_of q.body) height) ≡ (serves_in f v p && nat_eq (height_of p.body) height)
at_height_alike f p q alike v height = ap (λ b. b && nat_eq (height_of q.body) height) (serves_alike f p q alike v) ∙ ap (λ k. serves_in f v p && nat_eq k height) alike.height

on_path_alike : (f : Forest) (p q : Page) → Alike p q → (v height : ℕ) (key : List ℕ) → is_on_path f v height key q ≡ is_on_path f v height key p
on_path_alike f p q alike v height key =
    ap (λ b. b && page_covers key q) (at_height_alike f p q alike v height) ∙ ap (λ b. (serves_in f v p && nat_eq (height_of p.body) height) && b) (covers_alike p q alike key)

-- The forest stays one

pub root_stays : (f : Forest) (addr : Addr) (p q : Page) → page_at f addr ≡ Some p → Alike p q → (v : ℕ) (root : Page) → root_in f v ≡ Some root
    → (new : Page) × (root_in (with_page f addr q) v ≡ Some new) × Alike root new
root_stays f addr p q there alike v root is =
    option_and_then_some (λ (e : CatEntry). page_at f e.root) (slice_get f.entries v) root is (λ e at was.
    let r = replaced f addr p q there alike e.root.node.0 e.root.slot root was in
    (r.0, ap (λ (o : Option CatEntry). option_and_then (λ (x : CatEntry). page_at (with_page f addr q) x.root) o) at ∙ r.1.now, r.1.alike))

pub height_stays : (f : Forest) → IsCounted f → (addr : Addr) (p q : Page) → page_at f addr ≡ Some p → Alike p q → (v : ℕ) → v < length f.entries → height_in (with_page f addr q) v ≡ height_in f v
height_stays f sound addr p q there alike v in' =
    let root = sound.roots v in' in
    let r = root_stays f addr p q there alike v root.page root.there in
    ap (λ (o : Option Page). option_map_or (λ (x : Page). height_of x.body) o 0) r.1 ∙ (r.2.height ∙ sym (ap (λ (o : Option Page). option_map_or (λ (x : Page). height_of x.body) o 0) root.there))

pub alike_forest : (f : Forest) → IsCounted f → (addr : Addr) (p q : Page) → page_at f addr ≡ Some p → Alike p q → IsPage q → IsCounted (with_page f addr q)
alike_forest f sound addr p q there alike spelled = record {
  nodes = subst (λ n. (1 ≤ n) × (n ≤ 8)) (sym (length-set f.pages addr.node.0 (slice_set (slice_index_or f.pages addr.node.0 []) addr.slot q))) sound.nodes;
  counts = lengths-set_in (λ n. n ≤ 4096) f.pages addr.node.0 addr.slot q sound.counts;
  tree = sound.tree;
  entries = sound.entries;
  roots = roots;
  pages = all_by_places (IsPageIn (with_page f addr q)) (with_page f addr q).pages page_of;
  partition = partition;
  no_higher = no_higher;
  children = all_by_places (λ r. AllByRecursion (IsChildIn (with_page f addr q) r) (children_of r)) (with_page f addr q).pages children;
}
  where
    roots : (v : ℕ) → v < length f.entries → IsRootIn (with_page f addr q) v
    roots v in' =
        let root = sound.roots v in' in
        let r = root_stays f addr p q there alike v root.page root.there in
        record { page = r.0; there = r.1; made = r.2.made ∙ root.made; low = r.2.low ∙ root.low; high = r.2.high ∙ root.high }

    page_of : (n s : ℕ) (new : Page) → get_in (with_page f addr q).pages n s ≡ Some new → IsPageIn (with_page f addr q) new
    page_of n s new now =
        let r = replaces f addr p q there alike n s new now in
        let old : IsPageIn f r.0 = all_at_places (IsPageIn f) f.pages n s r.0 sound.pages r.1.was in
        record {
          page = elim r.1.here as (λ _. IsPage new) [
            | inl e ↦ subst IsPage (sym e.3) spelled
            | inr e ↦ subst IsPage (sym e.1) old.page
          ];
          made = subst (λ m. m < length f.entries) (sym r.1.alike.made) old.made;
          copied = subst (λ c. AllByRecursion (λ w. (w < length f.entries) × IsTrue (is_ancestor (parents_of (forest_heads f)) new.made.0 w)) (versions_in c)) (sym r.1.alike.copied)
              (subst (λ m. AllByRecursion (λ w. (w < length f.entries) × IsTrue (is_ancestor (parents_of (forest_heads f)) m w)) (versions_in (r.0).copied)) (sym r.1.alike.made) old.copied);
        }

    partition : (v height : ℕ) → v < length f.entries → height ≤ height_in (with_page f addr q) v → (key : List ℕ) → count_by (page_covers key) (serving_pages (with_page f addr q) v height) ≡ 1
    partition v height in' low key =
        sym (on_path_count (with_page f addr q) v height key)
        ∙ (count-set_in (is_on_path f v height key) f.pages addr.node.0 addr.slot p q there (on_path_alike f p q alike v height key)
        ∙ (on_path_count f v height key ∙ sound.partition v height in' (subst (λ k. height ≤ k) (height_stays f sound addr p q there alike v in') low) key))

    no_higher : (v height : ℕ) → v < length f.entries → height_in (with_page f addr q) v < height → serving_pages (with_page f addr q) v height ≡ []
    no_higher v height in' high =
        nil_from_length (serving_pages (with_page f addr q) v height)
        (count-set_in (λ r. serves_in f v r && nat_eq (height_of r.body) height) f.pages addr.node.0 addr.slot p q there (at_height_alike f p q alike v height)
        ∙ ap length (sound.no_higher v height in' (subst (λ k. k < height) (height_stays f sound addr p q there alike v in') high)))

    child : (old new : Page) → Alike old new → (c : ChildRange) → IsChildIn f old c → IsChildIn (with_page f addr q) new c
    child old new same c is =
        let r = replaced f addr p q there alike c.addr.node.0 c.addr.slot is.page is.there in
        record {
          page = r.0;
          there = r.1.now;
          low = r.1.alike.low ∙ is.low;
          high = r.1.alike.high ∙ is.high;
          height = ap (λ k. k + 1) r.1.alike.height ∙ (is.height ∙ sym same.height);
          serves = λ v in' s. serves_alike f is.page r.0 r.1.alike v ∙ is.serves v in' (sym (serves_alike f old new same v) ∙ s);
        }

    children : (n s : ℕ) (new : Page) → get_in (with_page f addr q).pages n s ≡ Some new → AllByRecursion (IsChildIn (with_page f addr q) new) (children_of new)
    children n s new now =
        let r = replaces f addr p q there alike n s new now in
        subst (AllByRecursion (IsChildIn (with_page f addr q) new)) (sym r.1.alike.children)
        (weaker (IsChildIn f r.0) (IsChildIn (with_page f addr q) new) (child r.0 new r.1.alike) (children_of r.0)
        (all_at_places (λ x. AllByRecursion (IsChildIn f x) (children_of x)) f.pages n s r.0 sound.children r.1.was))

-- A leaf with other pairs

abbrev pub re_paired : StoreVersion → List Pair → StoreVersion
re_paired version ps = record version { pairs = ps }

pub heads_stay : (store : Store) (v : ℕ) (version : StoreVersion) (ps : List Pair) → slice_get store v ≡ Some version → heads_of (slice_set store v (re_paired version ps)) ≡ heads_of store
heads_stay [] v version ps at = absurd cc
heads_stay (x ∷ store) zero version ps at = let is : x ≡ version = cc in ap (λ (y : StoreVersion). y.head ∷ heads_of store) (sym is)
heads_stay (x ∷ store) (suc v) version ps at = ap (λ (hs : List Head). x.head ∷ hs) (heads_stay store v version ps at)

pub all-set : {X : Type 0} (P : X → Type 0) (xs : List X) (i : ℕ) (y : X) → AllByRecursion P xs → P y → AllByRecursion P (slice_set xs i y)
all-set P [] i y all new = tt
all-set P (x ∷ xs) zero y all new = (new, all.1)
all-set P (x ∷ xs) (suc i) y all new = (all.0, all-set P xs i y all.1 new)

pub get-set_other : {X : Type 0} (xs : List X) (i j : ℕ) (y : X) → (i ≡ j → ⊥) → slice_get (slice_set xs i y) j ≡ slice_get xs j
get-set_other [] i j y apart = refl
get-set_other (z ∷ xs) zero zero y apart = absurd (apart refl)
get-set_other (z ∷ xs) zero (suc j) y apart = refl
get-set_other (z ∷ xs) (suc i) zero y apart = refl
get-set_other (z ∷ xs) (suc i) (suc j) y apart = get-set_other xs i j y (λ e. apart (ap suc e))

-- the leaf at addr, which serves just the version v, and the version's new pairs
pub record LeafChange (f : Forest) (store : Store) (addr : Addr) (p q : Page) (v : ℕ) (version : StoreVersion) (ps : List Pair) : Type 0 where
  pub there : page_at f addr ≡ Some p
  pub alike : Alike p q
  pub at : slice_get store v ≡ Some version
  pub alone : (w : ℕ) → serves_in f w p ≡ true → w ≡ v
  pub ascending : is_ascending ps ≡ true
  pub here : filter (λ pair. page_covers pair.key p) ps ≡ pairs_in q.body
  -- in the other leaves of the version the pairs stay
  pub elsewhere : (a : Addr) (r : Page) → (addr.node.0 ≡ a.node.0 → addr.slot ≡ a.slot → ⊥) → page_at f a ≡ Some r → height_of r.body ≡ 0 → serves_in f v r ≡ true
      → filter (λ pair. page_covers pair.key r) ps ≡ filter (λ pair. page_covers pair.key r) version.pairs

pub shows_change : (f : Forest) (store : Store) (addr : Addr) (p q : Page) (v : ℕ) (version : StoreVersion) (ps : List Pair) → IsCounted f → ListsStore f store → LeafChange f store addr p q v version ps
    → ListsStore (with_page f addr q) (slice_set store v (re_paired version ps))
shows_change f store addr p q v version ps sound shown change = record {
  heads = heads_stay store v version ps change.at ∙ shown.heads;
  ascending = all-set (λ x. IsTrue (is_ascending x.pairs)) store v (re_paired version ps) shown.ascending change.ascending;
  leaves = λ w other at. all_filter (λ r. filter (λ pair. page_covers pair.key r) other.pairs ≡ pairs_in r.body) (λ r. serves_in f w r && nat_eq (height_of r.body) 0) (all_pages (with_page f addr q))
      (all_by_places (λ r. (serves_in f w r && nat_eq (height_of r.body) 0) ≡ true → filter (λ pair. page_covers pair.key r) other.pairs ≡ pairs_in r.body) (with_page f addr q).pages (leaf w other at));
}
  where
    old_leaf : (w : ℕ) (other : StoreVersion) → slice_get store w ≡ Some other → (n s : ℕ) (r : Page) → get_in f.pages n s ≡ Some r → (serves_in f w r && nat_eq (height_of r.body) 0) ≡ true
        → filter (λ pair. page_covers pair.key r) other.pairs ≡ pairs_in r.body
    old_leaf w other at n s r was pass =
        all_at_places (λ x. (serves_in f w x && nat_eq (height_of x.body) 0) ≡ true → filter (λ pair. page_covers pair.key x) other.pairs ≡ pairs_in x.body) f.pages n s r
        (all_of_filter (λ x. filter (λ pair. page_covers pair.key x) other.pairs ≡ pairs_in x.body) (λ x. serves_in f w x && nat_eq (height_of x.body) 0) (all_pages f) (shown.leaves w other at))
        was pass

    leaf : (w : ℕ) (other : StoreVersion) → slice_get (slice_set store v (re_paired version ps)) w ≡ Some other → (n s : ℕ) (new : Page) → get_in (with_page f addr q).pages n s ≡ Some new → (serves_in f w new && nat_eq (height_of new.body) 0) ≡ true
        → filter (λ pair. page_covers pair.key new) other.pairs ≡ pairs_in new.body
    leaf w other at n s new now pass =
        let r = replaces f addr p q change.there change.alike n s new now in
        elim r.1.here as (λ _. filter (λ pair. page_covers pair.key new) other.pairs ≡ pairs_in new.body) [
          | inl e ↦
              let serves_p : serves_in f w p ≡ true = sym (serves_alike f p q change.alike w) ∙ (ap (serves_in f w) (sym e.3) ∙ (and_parts _ _ pass).0) in
              let is_v : w ≡ v = change.alone w serves_p in
              let at_v : slice_get (slice_set store v (re_paired version ps)) v ≡ Some other = subst (λ k. slice_get (slice_set store v (re_paired version ps)) k ≡ Some other) is_v at in
              let set : slice_get (slice_set store v (re_paired version ps)) v ≡ Some (re_paired version ps) = set_at store v version (re_paired version ps) change.at in
              let same : (re_paired version ps) ≡ other = cc in
              subst (λ (x : Page). filter (λ pair. page_covers pair.key x) other.pairs ≡ pairs_in x.body) (sym e.3)
              (subst (λ (x : StoreVersion). filter (λ pair. page_covers pair.key q) x.pairs ≡ pairs_in q.body) same (same_range ps ∙ change.here))
          | inr e ↦
              subst (λ (x : Page). filter (λ pair. page_covers pair.key x) other.pairs ≡ pairs_in x.body) (sym e.1)
              (unchanged w other at n s r.0 r.1.was e.0 (subst (λ (x : Page). (serves_in f w x && nat_eq (height_of x.body) 0) ≡ true) e.1 pass))
        ]
      where
        same_range : (qs : List Pair) → filter (λ pair. page_covers pair.key q) qs ≡ filter (λ pair. page_covers pair.key p) qs
        same_range [] = refl
        same_range (x ∷ qs) = ap (λ b. cond b (x ∷ filter (λ pair. page_covers pair.key q) qs) (filter (λ pair. page_covers pair.key q) qs)) (covers_alike p q change.alike x.key)
            ∙ ap (λ (ys : List Pair). cond (page_covers x.key p) (x ∷ ys) ys) (same_range qs)

        unchanged : (w : ℕ) (other : StoreVersion) → slice_get (slice_set store v (re_paired version ps)) w ≡ Some other → (n s : ℕ) (r : Page) → get_in f.pages n s ≡ Some r → (addr.node.0 ≡ n → addr.slot ≡ s → ⊥)
            → (serves_in f w r && nat_eq (height_of r.body) 0) ≡ true → filter (λ pair. page_covers pair.key r) other.pairs ≡ pairs_in r.body
        unchanged w other at n s r was apart pass =
            elim (cases_eq v w) as (λ _. filter (λ pair. page_covers pair.key r) other.pairs ≡ pairs_in r.body) [
              | inl is ↦
                  let at_v : slice_get (slice_set store v (re_paired version ps)) v ≡ Some other = subst (λ k. slice_get (slice_set store v (re_paired version ps)) k ≡ Some other) (sym is) at in
                  let set : slice_get (slice_set store v (re_paired version ps)) v ≡ Some (re_paired version ps) = set_at store v version (re_paired version ps) change.at in
                  let same : (re_paired version ps) ≡ other = cc in
                  let pass_v : (serves_in f v r && nat_eq (height_of r.body) 0) ≡ true = subst (λ k. (serves_in f k r && nat_eq (height_of r.body) 0) ≡ true) (sym is) pass in
                  let parts = and_parts _ _ pass_v in
                  subst (λ (x : StoreVersion). filter (λ pair. page_covers pair.key r) x.pairs ≡ pairs_in r.body) same
                  (change.elsewhere (record { node = record { 0 = n }; slot = s }) r apart was (eqb-true _ _ parts.1) parts.0 ∙ old_leaf v version change.at n s r was pass_v)
              | inr differ ↦ old_leaf w other (sym (get-set_other store v w (re_paired version ps) differ) ∙ at) n s r was pass
            ]

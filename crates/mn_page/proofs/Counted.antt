-- A forest by counting: the conditions on its pages as they stand one after another in all slots,
-- which copies and splits count by. Both ways between this form and that of the definitions, which
-- goes by addresses.
use Rattle.std.proofs.Common.{◌≡◌, ℕ, ◌<◌, ◌≤◌, Bool, true, false, ◌&&◌, List, [], length, Option, Some, refl, subst, sym, ap, ◌∙◌, arith, slice_get}
use Rattle.std.specs.Prelude.{filter, count_by, nat_eq, nat_le, IsTrue}
use Rattle.std.specs.List.{flat_map, AllByRecursion}
use Rattle.std.proofs.lemmas.Bool.{eqb-true, eq-eqb, leb-true, leb-false, and_parts, and_from}
use Rattle.std.proofs.lemmas.List.Sums.{length-filter}
use Rattle.mn_base.specs.Store.{Head, Store, StoreVersion, heads_of, is_ascending}
use Rattle.mn_base.specs.Tree.{IsVersionTree, parents_of, is_ancestor, versions_in, serves}
use Rattle.mn_base.specs.declared.ids.Addr.{Addr}
use Rattle.mn_base.specs.declared.ids.NodeNo.{NodeNo}
use Rattle.mn_page.specs.declared.page.Page.{Page}
use Rattle.mn_page.specs.Grammar.{IsPage, IsEntry, height_of}
use Rattle.mn_page.specs.Forest.{Forest, node_count, page_at, heads_in, ChildRange, children_of}
use Rattle.mn_page.specs.Holds.{page_covers, page_serves, root_page, root_height, pairs_in, IsRoot, IsChild, IsOnPath, OneOnPath, IsForest, ShowsStore}
use Rattle.mn_page.proofs.Grid.{get_in, filter_both, all_filter, all_of_filter, all_at_places, all_by_places, same_places, some_places, none_passes, one_passes}

abbrev pub forest_heads : Forest → List Head
forest_heads f = heads_in f.entries

abbrev pub all_pages : Forest → List Page
all_pages f = flat_map (λ pages. pages) f.pages

abbrev pub serves_in : Forest → ℕ → Page → Bool
serves_in f v p = page_serves f.entries v p

-- the pages of a height that serve a version
abbrev pub serving_pages : Forest → ℕ → ℕ → List Page
serving_pages f v height = filter (λ p. serves_in f v p && nat_eq (height_of p.body) height) (all_pages f)

abbrev pub root_in : Forest → ℕ → Option Page
root_in f v = root_page f.entries (page_at f) v

abbrev pub height_in : Forest → ℕ → ℕ
height_in f v = root_height f.entries (page_at f) v

abbrev pub IsRootIn : Forest → ℕ → Type 0
IsRootIn f v = IsRoot f.entries (page_at f) v

abbrev pub IsChildIn : Forest → Page → ChildRange → Type 0
IsChildIn f p c = IsChild f.entries (page_at f) p c

pub record IsPageIn (f : Forest) (p : Page) : Type 0 where
  pub page : IsPage p
  pub made : p.made.0 < length f.entries
  pub copied : AllByRecursion (λ w. (w < length f.entries) × IsTrue (is_ancestor (parents_of (forest_heads f)) p.made.0 w)) (versions_in p.copied)

pub record IsCounted (f : Forest) : Type 0 where
  pub nodes : (1 ≤ node_count f) × (node_count f ≤ 8)
  pub counts : AllByRecursion (λ pages. length pages ≤ 4096) f.pages
  pub tree : IsVersionTree (forest_heads f)
  pub entries : AllByRecursion IsEntry f.entries
  pub roots : (v : ℕ) → v < length f.entries → IsRootIn f v
  pub pages : AllByRecursion (IsPageIn f) (all_pages f)
  pub partition : (v height : ℕ) → v < length f.entries → height ≤ height_in f v → (key : List ℕ) → count_by (page_covers key) (serving_pages f v height) ≡ 1
  pub no_higher : (v height : ℕ) → v < length f.entries → height_in f v < height → serving_pages f v height ≡ []
  pub children : AllByRecursion (λ p. AllByRecursion (IsChildIn f p) (children_of p)) (all_pages f)

pub record ListsStore (f : Forest) (store : Store) : Type 0 where
  pub heads : heads_of store ≡ forest_heads f
  pub ascending : AllByRecursion (λ v. IsTrue (is_ascending v.pairs)) store
  pub leaves : (v : ℕ) (version : StoreVersion) → slice_get store v ≡ Some version
      → AllByRecursion (λ p. filter (λ pair. page_covers pair.key p) version.pairs ≡ pairs_in p.body) (serving_pages f v 0)

-- Pages on a path

-- whether a page serves the version at this height and covers the key
abbrev pub is_on_path : Forest → ℕ → ℕ → List ℕ → Page → Bool
is_on_path f v height key p = (serves_in f v p && nat_eq (height_of p.body) height) && page_covers key p

-- the pages that do are as many as the partition counts
pub on_path_count : (f : Forest) (v height : ℕ) (key : List ℕ) → length (filter (is_on_path f v height key) (all_pages f)) ≡ count_by (page_covers key) (serving_pages f v height)
on_path_count f v height key =
    ap length (sym (filter_both (page_covers key) (λ p. serves_in f v p && nat_eq (height_of p.body) height) (all_pages f)))
    ∙ length-filter (page_covers key) (serving_pages f v height)

pub is_on_path_from : (f : Forest) (v height : ℕ) (key : List ℕ) (p : Page) → height_of p.body ≡ height → serves_in f v p ≡ true → page_covers key p ≡ true → is_on_path f v height key p ≡ true
is_on_path_from f v height key p e s c = and_from _ _ (and_from _ _ s (eq-eqb (height_of p.body) height e)) c

pub on_path : (f : Forest) (v height : ℕ) (key : List ℕ) (addr : Addr) (p : Page) → page_at f addr ≡ Some p → is_on_path f v height key p ≡ true → IsOnPath f.entries (page_at f) v height key addr p
on_path f v height key addr p there is =
    let parts = and_parts _ _ is in
    let inner = and_parts _ _ parts.0 in
    record { there = there; level = eqb-true _ _ inner.1; serves = inner.0; covers = parts.1 }

-- a page of the path for a key, at each height up to the root's
pub some_on_path : (f : Forest) → IsCounted f → (v height : ℕ) → v < length f.entries → height ≤ height_in f v → (key : List ℕ)
    → (n s : ℕ) × (p : Page) × (get_in f.pages n s ≡ Some p) × (is_on_path f v height key p ≡ true)
some_on_path f sound v height in' low key =
    let one : length (filter (is_on_path f v height key) (all_pages f)) ≡ 1 = on_path_count f v height key ∙ sound.partition v height in' low key in
    some_places (is_on_path f v height key) f.pages (omega arith)

pub one_on_path : (f : Forest) → IsCounted f → (v height : ℕ) → v < length f.entries → height ≤ height_in f v → (key : List ℕ) (n s m t : ℕ) (p q : Page)
    → get_in f.pages n s ≡ Some p → get_in f.pages m t ≡ Some q → is_on_path f v height key p ≡ true → is_on_path f v height key q ≡ true → (n ≡ m) × (s ≡ t)
one_on_path f sound v height in' low key n s m t p q at to pass go =
    let one : length (filter (is_on_path f v height key) (all_pages f)) ≡ 1 = on_path_count f v height key ∙ sound.partition v height in' low key in
    same_places (is_on_path f v height key) f.pages n s m t p q (omega arith) at to pass go

-- Addresses

abbrev pub place : ℕ → ℕ → Addr
place n s = record { node = record { 0 = n }; slot = s }

pub same_addr : (a b : Addr) → (a.node.0 ≡ b.node.0) × (a.slot ≡ b.slot) → a ≡ b
same_addr a b e =
    let nodes : a.node ≡ b.node = ap (λ k. let n : NodeNo = record { 0 = k } in n) e.0 in
    ap (λ (n : NodeNo). let r : Addr = record { node = n; slot = a.slot } in r) nodes ∙ ap (λ s. let r : Addr = record { node = b.node; slot = s } in r) e.1

-- Both ways

pub counted : (f : Forest) → IsForest f → IsCounted f
counted f s = record {
  nodes = s.laid.nodes;
  counts = s.laid.counts;
  tree = s.tree.versions;
  entries = s.laid.entries;
  roots = s.tree.roots;
  pages = all_by_places (IsPageIn f) f.pages (λ n m p at. let of = s.tree.pages (place n m) p at in record { page = s.laid.pages (place n m) p at; made = of.made; copied = of.copied });
  partition = λ v height in' low key. sym (on_path_count f v height key) ∙ one v height key (s.tree.partition v height in' low key);
  no_higher = λ v height in' high. none_passes (λ p. serves_in f v p && nat_eq (height_of p.body) height) f.pages (λ n m p at pass.
      let parts = and_parts _ _ pass in
      let level : height_of p.body ≡ height = eqb-true _ _ parts.1 in
      let low = s.tree.no_higher v (place n m) p in' at parts.0 in absurd (omega arith));
  children = all_by_places (λ p. AllByRecursion (IsChildIn f p) (children_of p)) f.pages (λ n m p at. s.tree.children (place n m) p at);
}
  where
    one : (v height : ℕ) (key : List ℕ) → OneOnPath f.entries (page_at f) v height key → length (filter (is_on_path f v height key) (all_pages f)) ≡ 1
    one v height key o =
        one_passes (is_on_path f v height key) f.pages o.addr.node.0 o.addr.slot o.page o.here.there (is_on_path_from f v height key o.page o.here.level o.here.serves o.here.covers)
        (λ m t q at pass. let same : place m t ≡ o.addr = o.only (place m t) q (on_path f v height key (place m t) q at pass) in
        (sym (ap (λ (a : Addr). a.node.0) same), sym (ap (λ (a : Addr). a.slot) same)))

pub forest : (f : Forest) → IsCounted f → IsForest f
forest f c = record {
  laid = record { nodes = c.nodes; counts = c.counts; entries = c.entries; pages = λ addr p at. (of addr p at).page };
  tree = record {
    versions = c.tree;
    roots = c.roots;
    pages = λ addr p at. record { made = (of addr p at).made; copied = (of addr p at).copied };
    partition = λ v height in' low key.
        let some = some_on_path f c v height in' low key in
        record {
          addr = place some.0 some.1;
          page = some.2;
          here = on_path f v height key (place some.0 some.1) some.2 some.3 some.4;
          only = λ a q is. same_addr a (place some.0 some.1)
              (one_on_path f c v height in' low key a.node.0 a.slot some.0 some.1 q some.2 is.there some.3 (is_on_path_from f v height key q is.level is.serves is.covers) some.4);
        };
    no_higher = λ v addr p in' at s. cases v addr p in' at s (nat_le (height_of p.body) (height_in f v)) refl;
    children = λ addr p at. all_at_places (λ x. AllByRecursion (IsChildIn f x) (children_of x)) f.pages addr.node.0 addr.slot p c.children at;
  };
}
  where
    of : (addr : Addr) (p : Page) → page_at f addr ≡ Some p → IsPageIn f p
    of addr p at = all_at_places (IsPageIn f) f.pages addr.node.0 addr.slot p c.pages at

    cases : (v : ℕ) (addr : Addr) (p : Page) → v < length f.entries → page_at f addr ≡ Some p → serves_in f v p ≡ true → (b : Bool) → nat_le (height_of p.body) (height_in f v) ≡ b → height_of p.body ≤ height_in f v
    cases v addr p in' at s true e = leb-true _ _ e
    cases v addr p in' at s false e =
        let high : height_in f v < height_of p.body = leb-false _ _ e in
        let none = c.no_higher v (height_of p.body) in' high in
        let t : Page → Bool = λ x. serves_in f v x && nat_eq (height_of x.body) (height_of p.body) in
        absurd (all_at_places (λ x. (serves_in f v x && nat_eq (height_of x.body) (height_of p.body)) ≡ true → ⊥) f.pages addr.node.0 addr.slot p
        (all_of_filter (λ (x : Page). ⊥) (λ x. serves_in f v x && nat_eq (height_of x.body) (height_of p.body)) (all_pages f) (subst (AllByRecursion (λ (x : Page). ⊥)) (sym none) tt)) at
        (and_from _ _ s (eq-eqb (height_of p.body) (height_of p.body) refl)))

pub listed : (f : Forest) (store : Store) → ShowsStore f.entries (page_at f) store → ListsStore f store
listed f store s = record {
  heads = s.heads;
  ascending = s.ascending;
  leaves = λ v version at. all_filter (λ p. filter (λ pair. page_covers pair.key p) version.pairs ≡ pairs_in p.body) (λ p. serves_in f v p && nat_eq (height_of p.body) 0) (all_pages f)
      (all_by_places (λ p. (serves_in f v p && nat_eq (height_of p.body) 0) ≡ true → filter (λ pair. page_covers pair.key p) version.pairs ≡ pairs_in p.body) f.pages (λ n m p there pass.
      let parts = and_parts _ _ pass in s.leaves v version (place n m) p at there (eqb-true _ _ parts.1) parts.0));
}

-- the leaf's pairs are the version's of its range
pub leaf_pairs_are : (f : Forest) (store : Store) (v : ℕ) (version : StoreVersion) (addr : Addr) (page : Page) → ListsStore f store → slice_get store v ≡ Some version
    → page_at f addr ≡ Some page → height_of page.body ≡ 0 → serves_in f v page ≡ true → filter (λ pair. page_covers pair.key page) version.pairs ≡ pairs_in page.body
leaf_pairs_are f store v version addr page shown at there leaf serves =
    all_at_places (λ p. (serves_in f v p && nat_eq (height_of p.body) 0) ≡ true → filter (λ pair. page_covers pair.key p) version.pairs ≡ pairs_in p.body) f.pages addr.node.0 addr.slot page
    (all_of_filter (λ p. filter (λ pair. page_covers pair.key p) version.pairs ≡ pairs_in p.body) (λ p. serves_in f v p && nat_eq (height_of p.body) 0) (all_pages f) (shown.leaves v version at))
    there (and_from _ _ serves (eq-eqb (height_of page.body) 0 leaf))

pub shows : (f : Forest) (store : Store) → ListsStore f store → ShowsStore f.entries (page_at f) store
shows f store s = record {
  heads = s.heads;
  ascending = s.ascending;
  leaves = λ v version addr p at there leaf serving. leaf_pairs_are f store v version addr p s at there leaf serving;
}

-- A root becomes the parent of a new page that has what it had: the tree grows by a level and shows
-- the same store.
use Rattle.std.proofs.Common.{◌≡◌, ℕ, ◌+◌, ◌<◌, ◌≤◌, inl, inr, true, List, [], ◌∷◌, length, Option, Some, None, refl, subst, sym, ap, ◌∙◌, arith, slice_get}
use Rattle.std.specs.Prelude.{filter}
use Rattle.std.specs.List.{AllByRecursion}
use Rattle.std.specs.Option.{option_and_then, option_map_or}
use Rattle.std.proofs.lemmas.Bool.{cases_eq}
use Rattle.std.proofs.lemmas.Option.{slice_get_within}
use Rattle.mn_base.specs.Order.{covers_key}
use Rattle.mn_base.specs.Store.{Store, StoreVersion}
use Rattle.mn_base.specs.declared.ids.Addr.{Addr}
use Rattle.mn_base.specs.declared.ids.VersionNo.{VersionNo}
use Rattle.mn_base.proofs.Lists.{weaker}
use Rattle.mn_page.specs.declared.entry.CatEntry.{CatEntry}
use Rattle.mn_page.specs.declared.page.Page.{Page}
use Rattle.mn_page.specs.declared.page.Body.TheVariants.{Inner}
use Rattle.mn_page.specs.Grammar.{height_of}
use Rattle.mn_page.specs.Forest.{ChildRange, children_of}
use Rattle.mn_page.specs.Holds.{PagesAt, page_covers, page_serves, root_page, root_height, pairs_in, IsChild, HasVersions, IsOnPath, OneOnPath}
use Rattle.mn_page.specs.Overlay.{page_with, new_page}
use Rattle.mn_page.proofs.Added.{addr_cases}
use Rattle.mn_page.proofs.Copy.{page_same}
use Rattle.mn_tree.specs.Trees.{IsOrdered, ShowsTree, IsWritable, children_after}
use Rattle.mn_tree.proofs.Trees.Puts.{put, put_here, put_else, stood, now, still, nothing}
use Rattle.mn_tree.proofs.Trees.Twins.{Twin, SameFor, changed_tree, twin_itself, serves_its, serves_one}
use Rattle.mn_tree.proofs.Trees.Ranges.{rising_below}

-- a page with no fences covers each key
pub all_covered : (low : List ℕ) (high : Option (List ℕ)) (key : List ℕ) → low ≡ [] → high ≡ None → covers_key low high key ≡ true
all_covered low high key e f = ap (λ (l : List ℕ). covers_key l high key) e ∙ (ap (λ (h : Option (List ℕ)). covers_key [] h key) f ∙ open_range key)
  where
    open_range : (k : List ℕ) → covers_key [] None k ≡ true
    open_range [] = refl
    open_range (b ∷ k) = refl

-- the root of the version at r, and a free address
pub record CanGrow (entries : List CatEntry) (at : PagesAt) (store : Store) (v : VersionNo) (r new : Addr) (p : Page) : Type 0 where
  pub shown : ShowsTree entries at store
  pub writes : IsWritable entries v.0
  pub root_is : writes.entry.root ≡ r
  pub there : at r ≡ Some p
  pub free : at new ≡ None

abbrev pub grown_child : VersionNo → Page → Page
grown_child v p = new_page v p.low p.high p.body

abbrev pub grown_root : Addr → Page → Page
grown_root new p = page_with p p.low p.high (Inner (height_of p.body + 1) new [])

module _ (entries : List CatEntry) (at : PagesAt) (store : Store) (v : VersionNo) (r new : Addr) (p : Page) where
  abbrev child : Page
  child = grown_child v p

  abbrev root_now : Page
  root_now = grown_root new p

  abbrev pages_now : PagesAt
  pages_now = put (put at new child) r root_now

  abbrev Can : Type 0
  Can = CanGrow entries at store v r new p

  low_v : Can → v.0 < length entries
  low_v can = slice_get_within entries v.0 can.writes.entry can.writes.there

  root_was : Can → root_page entries at v.0 ≡ Some p
  root_was can = ap (λ (o : Option CatEntry). option_and_then (λ (e : CatEntry). at e.root) o) can.writes.there ∙ (ap at can.root_is ∙ can.there)

  is_root : (can : Can) → (p.made.0 ≡ v.0) × (p.low ≡ []) × (p.high ≡ None)
  is_root can =
      let root = can.shown.tree.roots v.0 (low_v can) in
      let same : root.page ≡ p = page_same root.page p (sym root.there ∙ root_was can) in
      (ap (λ (y : Page). y.made.0) (sym same) ∙ root.made, ap (λ (y : Page). y.low) (sym same) ∙ root.low, ap (λ (y : Page). y.high) (sym same) ∙ root.high)

  height_was : Can → root_height entries at v.0 ≡ height_of p.body
  height_was can = ap (λ (o : Option Page). option_map_or (λ (y : Page). height_of y.body) o 0) (root_was can)

  root_there : pages_now r ≡ Some root_now
  root_there = put_here (put at new child) r root_now

  root_page_now : Can → root_page entries pages_now v.0 ≡ Some root_now
  root_page_now can = ap (λ (o : Option CatEntry). option_and_then (λ (e : CatEntry). pages_now e.root) o) can.writes.there ∙ (ap pages_now can.root_is ∙ root_there)

  height_now : Can → root_height entries pages_now v.0 ≡ height_of p.body + 1
  height_now can = ap (λ (o : Option Page). option_map_or (λ (y : Page). height_of y.body) o 0) (root_page_now can)

  new_not : Can → (x : Addr) (y : Page) → at x ≡ Some y → new ≡ x → ⊥
  new_not can x y there e = nothing y (at x) (ap at (sym e) ∙ can.free) there

  child_there : Can → pages_now new ≡ Some child
  child_there can = put_else (put at new child) r root_now new (λ e. new_not can r p can.there (sym e)) ∙ put_here at new child

  kept_is : Can → (x : Addr) (y : Page) → (r ≡ x → ⊥) → at x ≡ Some y → pages_now x ≡ Some y
  kept_is can x y off there = put_else (put at new child) r root_now x off ∙ (put_else at new child x (new_not can x y there) ∙ there)

  data Place (x : Addr) (y : Page) : Type 0 where
    at_root : r ≡ x → y ≡ root_now → Place x y
    at_child : new ≡ x → y ≡ child → Place x y
    kept : (r ≡ x → ⊥) → at x ≡ Some y → Place x y

  place : (x : Addr) (y : Page) → pages_now x ≡ Some y → Place x y
  place x y there = elim (stood (put at new child) r root_now x y there) as (λ _. Place x y) [
    | now e is ↦ at_root e is
    | still off first ↦ elim (stood at new child x y first) as (λ _. Place x y) [
      | now e is ↦ at_child e is
      | still new_off second ↦ kept off second
    ]
  ]

  serves_p : Can → page_serves entries v.0 p ≡ true
  serves_p can = subst (λ k. page_serves entries k p ≡ true) (is_root can).0 (serves_its entries can.shown.tree.versions p (can.shown.tree.pages r p can.there).made (can.shown.ordered r p can.there))

  child_ordered : Can → IsOrdered child
  child_ordered can = record { rising = (can.shown.ordered r p can.there).rising; copied_above = refl }

  serves_child : Can → page_serves entries v.0 child ≡ true
  serves_child can = serves_its entries can.shown.tree.versions child (low_v can) (child_ordered can)

  only_v : Can → (y : Page) → y.made.0 ≡ v.0 → (w : ℕ) → page_serves entries w y ≡ true → w ≡ v.0
  only_v can y made w on = serves_one entries v.0 can.shown.tree.versions can.writes y made w on

  others : Can → (w : ℕ) → w < length entries → (w ≡ v.0 → ⊥) → SameFor entries at pages_now w
  others can w low differ = record { forth = forth; back = back }
    where
      forth : (x : Addr) (y : Page) → at x ≡ Some y → page_serves entries w y ≡ true → Twin entries pages_now w x y
      forth x y there on = elim (addr_cases r x) as (λ _. Twin entries pages_now w x y) [
        | inl e ↦
            let same : p ≡ y = page_same p y (sym can.there ∙ (ap at e ∙ there)) in
            absurd (differ (only_v can y (ap (λ (z : Page). z.made.0) (sym same) ∙ (is_root can).0) w on))
        | inr off ↦ twin_itself entries pages_now w x y (kept_is can x y off there) on
      ]

      back : (x : Addr) (y : Page) → pages_now x ≡ Some y → page_serves entries w y ≡ true → Twin entries at w x y
      back x y there on = elim (place x y there) as (λ _. Twin entries at w x y) [
        | at_root e is ↦ absurd (differ (only_v can y (ap (λ (z : Page). z.made.0) is ∙ (is_root can).0) w on))
        | at_child e is ↦ absurd (differ (only_v can y (ap (λ (z : Page). z.made.0) is) w on))
        | kept off was ↦ twin_itself entries at w x y was on
      ]

  ordered_now : (can : Can) (x : Addr) (y : Page) → pages_now x ≡ Some y → IsOrdered y
  ordered_now can x y there = elim (place x y there) as (λ _. IsOrdered y) [
    | at_root e is ↦ subst IsOrdered (sym is) (record { rising = rising_below p.low (children_after p.body) p.high (can.shown.ordered r p can.there).rising; copied_above = (can.shown.ordered r p can.there).copied_above })
    | at_child e is ↦ subst IsOrdered (sym is) (child_ordered can)
    | kept off was ↦ can.shown.ordered x y was
  ]

  versions_now : (can : Can) (x : Addr) (y : Page) → pages_now x ≡ Some y → HasVersions entries y
  versions_now can x y there = elim (place x y there) as (λ _. HasVersions entries y) [
    | at_root e is ↦ let of = can.shown.tree.pages r p can.there in subst (HasVersions entries) (sym is) (record { made = of.made; copied = of.copied })
    | at_child e is ↦ subst (HasVersions entries) (sym is) (record { made = low_v can; copied = tt })
    | kept off was ↦ can.shown.tree.pages x y was
  ]

  -- the page that stood there below the root's new level
  data Was (height : ℕ) (key : List ℕ) (x : Addr) : Type 0 where
    same_place : (r ≡ x → ⊥) → (y : Page) → IsOnPath entries at v.0 height key x y → Was height key x
    moved : new ≡ x → IsOnPath entries at v.0 height key r p → Was height key x

  was : (can : Can) (height : ℕ) (key : List ℕ) (x : Addr) (y : Page) → height ≤ height_of p.body → IsOnPath entries pages_now v.0 height key x y → Was height key x
  was can height key x y low is = elim (place x y is.there) as (λ _. Was height key x) [
    | at_root e same ↦ let high : height_of p.body + 1 ≡ height = ap (λ (z : Page). height_of z.body) (sym same) ∙ is.level in absurd (omega arith)
    | at_child e same ↦ moved e (record { there = can.there; level = ap (λ (z : Page). height_of z.body) (sym same) ∙ is.level; serves = serves_p can; covers = ap (page_covers key) (sym same) ∙ is.covers })
    | kept off old ↦ same_place off y (record { there = old; level = is.level; serves = is.serves; covers = is.covers })
  ]

  partition_low : (can : Can) (height : ℕ) → height ≤ height_of p.body → (key : List ℕ) → OneOnPath entries pages_now v.0 height key
  partition_low can height low key = by_place (can.shown.tree.partition v.0 height (low_v can) (subst (λ k. height ≤ k) (sym (height_was can)) low) key)
    where
      by_place : OneOnPath entries at v.0 height key → OneOnPath entries pages_now v.0 height key
      by_place one = elim (addr_cases r one.addr) as (λ _. OneOnPath entries pages_now v.0 height key) [
        | inl e ↦
            let same : p ≡ one.page = page_same p one.page (sym can.there ∙ (ap at e ∙ one.here.there)) in
            record {
              addr = new;
              page = child;
              here = record { there = child_there can; level = ap (λ (z : Page). height_of z.body) same ∙ one.here.level; serves = serves_child can; covers = ap (page_covers key) same ∙ one.here.covers };
              only = λ x y is. elim (was can height key x y low is) as (λ _. x ≡ new) [
                | same_place off z old ↦ absurd (off (e ∙ sym (one.only x z old)))
                | moved at_new old ↦ sym at_new
              ];
            }
        | inr off ↦ record {
          addr = one.addr;
          page = one.page;
          here = record { there = kept_is can one.addr one.page off one.here.there; level = one.here.level; serves = one.here.serves; covers = one.here.covers };
          only = λ x y is. elim (was can height key x y low is) as (λ _. x ≡ one.addr) [
            | same_place x_off z old ↦ one.only x z old
            | moved at_new old ↦ absurd (off (one.only r p old))
          ];
        }
      ]

  partition_top : (can : Can) (height : ℕ) → height ≡ height_of p.body + 1 → (key : List ℕ) → OneOnPath entries pages_now v.0 height key
  partition_top can height top key = record {
    addr = r;
    page = root_now;
    here = record { there = root_there; level = sym top; serves = serves_p can; covers = all_covered p.low p.high key (is_root can).1 (is_root can).2 };
    only = λ x y is. elim (place x y is.there) as (λ _. x ≡ r) [
      | at_root e same ↦ sym e
      | at_child e same ↦ let flat : height_of p.body ≡ height = ap (λ (z : Page). height_of z.body) (sym same) ∙ is.level in absurd (omega arith)
      | kept off old ↦
          let low = can.shown.tree.no_higher v.0 x y (low_v can) old is.serves in
          let h = height_was can in
          let l = is.level in absurd (omega arith)
    ];
  }

  partition_now : (can : Can) (height : ℕ) → height ≤ height_of p.body + 1 → (key : List ℕ) → OneOnPath entries pages_now v.0 height key
  partition_now can height low key = elim (cases_eq height (height_of p.body + 1)) as (λ _. OneOnPath entries pages_now v.0 height key) [
    | inl e ↦ partition_top can height e key
    | inr differ ↦ partition_low can height (omega arith) key
  ]

  no_higher_now : (can : Can) (x : Addr) (y : Page) → pages_now x ≡ Some y → page_serves entries v.0 y ≡ true → height_of y.body ≤ height_of p.body + 1
  no_higher_now can x y there on = elim (place x y there) as (λ _. height_of y.body ≤ height_of p.body + 1) [
    | at_root e is ↦ let level : height_of y.body ≡ height_of p.body + 1 = ap (λ (z : Page). height_of z.body) is in omega arith
    | at_child e is ↦ let level : height_of y.body ≡ height_of p.body = ap (λ (z : Page). height_of z.body) is in omega arith
    | kept off old ↦
        let low = can.shown.tree.no_higher v.0 x y (low_v can) old on in
        let h = height_was can in omega arith
  ]

  children_now : (can : Can) (x : Addr) (y : Page) → pages_now x ≡ Some y → page_serves entries v.0 y ≡ true → AllByRecursion (IsChild entries pages_now y) (children_of y)
  children_now can x y there on = elim (place x y there) as (λ _. AllByRecursion (IsChild entries pages_now y) (children_of y)) [
    | at_root e is ↦ subst (λ (z : Page). AllByRecursion (IsChild entries pages_now z) (children_of z)) (sym is) (
      record {
        page = child;
        there = child_there can;
        low = refl;
        high = refl;
        height = refl;
        serves = λ w low s. subst (λ k. page_serves entries k child ≡ true) (sym (only_v can root_now (is_root can).0 w s)) (serves_child can);
      },
      tt,
    )
    | at_child e is ↦ subst (λ (z : Page). AllByRecursion (IsChild entries pages_now z) (children_of z)) (sym is)
        (weaker (IsChild entries at p) (IsChild entries pages_now child) under (children_of p) (can.shown.tree.children r p can.there))
    | kept off old ↦ weaker (IsChild entries at y) (IsChild entries pages_now y) (beside off old) (children_of y) (can.shown.tree.children x y old)
  ]
    where
      under : (c : ChildRange) → IsChild entries at p c → IsChild entries pages_now child c
      under c is = record {
        page = is.page;
        there = kept_is can c.addr is.page (λ e. let up = is.height in let flat : height_of p.body ≡ height_of is.page.body = ap (λ (z : Page). height_of z.body) (page_same p is.page (sym can.there ∙ (ap at e ∙ is.there))) in absurd (omega arith)) is.there;
        low = is.low;
        high = is.high;
        height = is.height;
        serves = λ w low s. subst (λ k. page_serves entries k is.page ≡ true) (sym (only_v can child refl w s)) (is.serves v.0 (low_v can) (serves_p can));
      }

      beside : (r ≡ x → ⊥) → at x ≡ Some y → (c : ChildRange) → IsChild entries at y c → IsChild entries pages_now y c
      beside off old c is = record {
        page = is.page;
        there = kept_is can c.addr is.page (λ e.
            let up = is.height in
            let flat : height_of p.body ≡ height_of is.page.body = ap (λ (z : Page). height_of z.body) (page_same p is.page (sym can.there ∙ (ap at e ∙ is.there))) in
            let low = can.shown.tree.no_higher v.0 x y (low_v can) old on in
            let h = height_was can in absurd (omega arith)) is.there;
        low = is.low;
        high = is.high;
        height = is.height;
        serves = is.serves;
      }

  leaves_now : (can : Can) (w : ℕ) (version : StoreVersion) (x : Addr) (y : Page) → slice_get store w ≡ Some version → pages_now x ≡ Some y → height_of y.body ≡ 0 → page_serves entries w y ≡ true → filter (λ pair. page_covers pair.key y) version.pairs ≡ pairs_in y.body
  leaves_now can w version x y found there flat on = elim (place x y there) as (λ _. filter (λ pair. page_covers pair.key y) version.pairs ≡ pairs_in y.body) [
    | at_root e is ↦ let high : height_of y.body ≡ height_of p.body + 1 = ap (λ (z : Page). height_of z.body) is in absurd (omega arith)
    | at_child e is ↦
        let at_v : w ≡ v.0 = only_v can y (ap (λ (z : Page). z.made.0) is) w on in
        subst (λ (z : Page). filter (λ pair. page_covers pair.key z) version.pairs ≡ pairs_in z.body) (sym is)
        (can.shown.shows.leaves w version r p found can.there (ap (λ (z : Page). height_of z.body) (sym is) ∙ flat) (subst (λ k. page_serves entries k p ≡ true) (sym at_v) (serves_p can)))
    | kept off old ↦ can.shown.shows.leaves w version x y found old flat on
  ]

  pub grows : Can → ShowsTree entries pages_now store
  grows can = record {
    tree = changed_tree entries at pages_now v.0 (low_v can) can.shown.tree can.shown.ordered (record {
      others = others can;
      ordered = ordered_now can;
      pages = versions_now can;
      root = record { page = root_now; there = root_page_now can; made = (is_root can).0; low = (is_root can).1; high = (is_root can).2 };
      partition = λ height low key. partition_now can height (subst (λ k. height ≤ k) (height_now can) low) key;
      no_higher = λ x y there on. subst (λ k. height_of y.body ≤ k) (sym (height_now can)) (no_higher_now can x y there on);
      children = children_now can;
    });
    ordered = ordered_now can;
    shows = record { heads = can.shown.shows.heads; ascending = can.shown.shows.ascending; leaves = leaves_now can };
  }

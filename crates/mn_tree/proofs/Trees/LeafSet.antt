-- A leaf gets other pairs: the tree stays, and shows the store in which the version has them.
use Rattle.std.proofs.Common.{◌≡◌, ℕ, ◌+◌, ◌<◌, ◌≤◌, ◌⊎◌, inl, inr, Bool, true, false, List, [], length, Option, Some, refl, subst, sym, ap, ◌∙◌, arith, slice_get, slice_set}
use Rattle.std.specs.Prelude.{filter, IsTrue}
use Rattle.std.specs.List.{AllByRecursion}
use Rattle.std.specs.Option.{option_and_then, option_map_or}
use Rattle.std.proofs.lemmas.Bool.{cases_eq}
use Rattle.std.proofs.lemmas.Option.{option_and_then_some, slice_get_within}
use Rattle.mn_base.specs.Store.{Store, StoreVersion, is_ascending}
use Rattle.mn_base.specs.declared.ids.Addr.{Addr}
use Rattle.mn_base.specs.declared.ids.VersionNo.{VersionNo}
use Rattle.mn_base.specs.declared.reply.Pair.{Pair}
use Rattle.mn_base.proofs.Lists.{set_at, weaker}
use Rattle.mn_page.specs.declared.entry.CatEntry.{CatEntry}
use Rattle.mn_page.specs.declared.page.Page.{Page}
use Rattle.mn_page.specs.declared.page.Body.TheVariants.{Leaf}
use Rattle.mn_page.specs.Grammar.{height_of}
use Rattle.mn_page.specs.Forest.{ChildRange, children_of}
use Rattle.mn_page.specs.Holds.{PagesAt, page_covers, page_serves, root_page, root_height, pairs_in, IsRoot, IsChild, HasVersions, IsOnPath, OneOnPath}
use Rattle.mn_page.specs.Overlay.{page_with}
use Rattle.mn_page.proofs.Alike.{re_paired, heads_stay, all-set, get-set_other}
use Rattle.mn_page.proofs.Added.{addr_cases}
use Rattle.mn_page.proofs.Copy.{page_same}
use Rattle.mn_tree.specs.Trees.{children_after, AreRising, IsOrdered, ShowsTree, IsWritable}
use Rattle.mn_tree.proofs.Trees.Puts.{put, put_here, put_else, stood, now, still}
use Rattle.mn_tree.proofs.Trees.Twins.{Twin, SameFor, changed_tree, twin_itself, serves_its, serves_one}

-- the leaf at a covers the key, and only there the version's new pairs differ from the old ones
pub record CanSet (entries : List CatEntry) (at : PagesAt) (store : Store) (v : VersionNo) (a : Addr) (p : Page) (version : StoreVersion) (ps pairs : List Pair) (key : List ℕ) : Type 0 where
  pub shown : ShowsTree entries at store
  pub writes : IsWritable entries v.0
  pub there : at a ≡ Some p
  pub made : p.made.0 ≡ v.0
  pub old : List Pair
  pub leaf : p.body ≡ Leaf old
  pub covers : page_covers key p ≡ true
  pub found : slice_get store v.0 ≡ Some version
  pub ascending : is_ascending ps ≡ true
  pub here : filter (λ pair. page_covers pair.key p) ps ≡ pairs
  pub outside : (y : Page) → page_covers key y ≡ false → filter (λ pair. page_covers pair.key y) ps ≡ filter (λ pair. page_covers pair.key y) version.pairs

abbrev pub set_leaf : Page → List Pair → Page
set_leaf p pairs = page_with p p.low p.high (Leaf pairs)

module _ (entries : List CatEntry) (at : PagesAt) (store : Store) (v : VersionNo) (a : Addr) (p : Page) (version : StoreVersion) (ps pairs : List Pair) (key : List ℕ) where
  abbrev leaf_now : Page
  leaf_now = set_leaf p pairs

  abbrev pages_now : PagesAt
  pages_now = put at a leaf_now

  abbrev store_now : Store
  store_now = slice_set store v.0 (re_paired version ps)

  abbrev Can : Type 0
  Can = CanSet entries at store v a p version ps pairs key

  low_v : Can → v.0 < length entries
  low_v can = slice_get_within entries v.0 can.writes.entry can.writes.there

  flat_p : Can → height_of p.body ≡ 0
  flat_p can = ap height_of can.leaf

  data Place (x : Addr) (y : Page) : Type 0 where
    at_leaf : a ≡ x → y ≡ leaf_now → Place x y
    kept : (a ≡ x → ⊥) → at x ≡ Some y → Place x y

  place : (x : Addr) (y : Page) → pages_now x ≡ Some y → Place x y
  place x y there = elim (stood at a leaf_now x y there) as (λ _. Place x y) [
    | now e is ↦ at_leaf e is
    | still off was ↦ kept off was
  ]

  leaf_there : pages_now a ≡ Some leaf_now
  leaf_there = put_here at a leaf_now

  kept_is : (x : Addr) (y : Page) → (a ≡ x → ⊥) → at x ≡ Some y → pages_now x ≡ Some y
  kept_is x y off there = put_else at a leaf_now x off ∙ there

  serves_p : Can → page_serves entries v.0 p ≡ true
  serves_p can = subst (λ k. page_serves entries k p ≡ true) can.made (serves_its entries can.shown.tree.versions p (can.shown.tree.pages a p can.there).made (can.shown.ordered a p can.there))

  only_v : Can → (y : Page) → y.made.0 ≡ v.0 → (w : ℕ) → page_serves entries w y ≡ true → w ≡ v.0
  only_v can y made w on = serves_one entries v.0 can.shown.tree.versions can.writes y made w on

  others : Can → (w : ℕ) → w < length entries → (w ≡ v.0 → ⊥) → SameFor entries at pages_now w
  others can w low differ = record { forth = forth; back = back }
    where
      forth : (x : Addr) (y : Page) → at x ≡ Some y → page_serves entries w y ≡ true → Twin entries pages_now w x y
      forth x y there on = elim (addr_cases a x) as (λ _. Twin entries pages_now w x y) [
        | inl e ↦
            let same : p ≡ y = page_same p y (sym can.there ∙ (ap at e ∙ there)) in
            absurd (differ (only_v can y (ap (λ (z : Page). z.made.0) (sym same) ∙ can.made) w on))
        | inr off ↦ twin_itself entries pages_now w x y (kept_is x y off there) on
      ]

      back : (x : Addr) (y : Page) → pages_now x ≡ Some y → page_serves entries w y ≡ true → Twin entries at w x y
      back x y there on = elim (place x y there) as (λ _. Twin entries at w x y) [
        | at_leaf e is ↦ absurd (differ (only_v can y (ap (λ (z : Page). z.made.0) is ∙ can.made) w on))
        | kept off was ↦ twin_itself entries at w x y was on
      ]

  ordered_now : (can : Can) (x : Addr) (y : Page) → pages_now x ≡ Some y → IsOrdered y
  ordered_now can x y there = elim (place x y there) as (λ _. IsOrdered y) [
    | at_leaf e is ↦
        let of = can.shown.ordered a p can.there in
        subst IsOrdered (sym is) (record { rising = subst (λ b. AreRising p.low (children_after b) p.high) can.leaf of.rising; copied_above = of.copied_above })
    | kept off was ↦ can.shown.ordered x y was
  ]

  versions_now : (can : Can) (x : Addr) (y : Page) → pages_now x ≡ Some y → HasVersions entries y
  versions_now can x y there = elim (place x y there) as (λ _. HasVersions entries y) [
    | at_leaf e is ↦ let of = can.shown.tree.pages a p can.there in subst (HasVersions entries) (sym is) (record { made = of.made; copied = of.copied })
    | kept off was ↦ can.shown.tree.pages x y was
  ]

  root_now : (can : Can) → IsRoot entries pages_now v.0 × (root_height entries pages_now v.0 ≡ root_height entries at v.0)
  root_now can = option_and_then_some (λ (e : CatEntry). at e.root) (slice_get entries v.0) root.page root.there (λ e there was. by_place e there was (addr_cases a e.root))
    where
      root : IsRoot entries at v.0
      root = can.shown.tree.roots v.0 (low_v can)

      height_is : root_height entries at v.0 ≡ height_of root.page.body
      height_is = ap (λ (o : Option Page). option_map_or (λ (y : Page). height_of y.body) o 0) root.there

      found : (e : CatEntry) → slice_get entries v.0 ≡ Some e → (y : Page) → pages_now e.root ≡ Some y → root_page entries pages_now v.0 ≡ Some y
      found e there y is = ap (λ (o : Option CatEntry). option_and_then (λ (z : CatEntry). pages_now z.root) o) there ∙ is

      height_now : (y : Page) → root_page entries pages_now v.0 ≡ Some y → height_of y.body ≡ height_of root.page.body → root_height entries pages_now v.0 ≡ root_height entries at v.0
      height_now y is same = ap (λ (o : Option Page). option_map_or (λ (z : Page). height_of z.body) o 0) is ∙ (same ∙ sym height_is)

      by_place : (e : CatEntry) → slice_get entries v.0 ≡ Some e → at e.root ≡ Some root.page → (a ≡ e.root) ⊎ (a ≡ e.root → ⊥) → IsRoot entries pages_now v.0 × (root_height entries pages_now v.0 ≡ root_height entries at v.0)
      by_place e there was (inl is_a) =
          let same : p ≡ root.page = page_same p root.page (sym can.there ∙ (ap at is_a ∙ was)) in
          let is = found e there leaf_now (ap pages_now (sym is_a) ∙ leaf_there) in (
            record { page = leaf_now; there = is; made = can.made; low = ap (λ (y : Page). y.low) same ∙ root.low; high = ap (λ (y : Page). y.high) same ∙ root.high },
            height_now leaf_now is (sym (flat_p can) ∙ ap (λ (y : Page). height_of y.body) same),
          )
      by_place e there was (inr off) =
          let is = found e there root.page (kept_is e.root root.page off was) in
          (record { page = root.page; there = is; made = root.made; low = root.low; high = root.high }, height_now root.page is refl)

  -- the page that stood there
  was : (can : Can) (height : ℕ) (k : List ℕ) (x : Addr) (y : Page) → IsOnPath entries pages_now v.0 height k x y → (z : Page) × IsOnPath entries at v.0 height k x z
  was can height k x y is = elim (place x y is.there) as (λ _. (z : Page) × IsOnPath entries at v.0 height k x z) [
    | at_leaf e same ↦
        (p, record { there = ap at (sym e) ∙ can.there; level = flat_p can ∙ (ap (λ (z : Page). height_of z.body) (sym same) ∙ is.level); serves = serves_p can; covers = ap (page_covers k) (sym same) ∙ is.covers })
    | kept off old ↦ (y, record { there = old; level = is.level; serves = is.serves; covers = is.covers })
  ]

  partition_now : (can : Can) (height : ℕ) → height ≤ root_height entries at v.0 → (k : List ℕ) → OneOnPath entries pages_now v.0 height k
  partition_now can height low k = by_place (can.shown.tree.partition v.0 height (low_v can) low k)
    where
      with_page : (one : OneOnPath entries at v.0 height k) (y : Page) → IsOnPath entries pages_now v.0 height k one.addr y → OneOnPath entries pages_now v.0 height k
      with_page one y here = record { addr = one.addr; page = y; here = here; only = λ x z is. let o = was can height k x z is in one.only x o.0 o.1 }

      by_place : OneOnPath entries at v.0 height k → OneOnPath entries pages_now v.0 height k
      by_place one = elim (addr_cases a one.addr) as (λ _. OneOnPath entries pages_now v.0 height k) [
        | inl e ↦
            let same : p ≡ one.page = page_same p one.page (sym can.there ∙ (ap at e ∙ one.here.there)) in
            with_page one leaf_now (record {
              there = ap pages_now (sym e) ∙ leaf_there;
              level = sym (flat_p can) ∙ (ap (λ (z : Page). height_of z.body) same ∙ one.here.level);
              serves = serves_p can;
              covers = ap (page_covers k) same ∙ one.here.covers;
            })
        | inr off ↦ with_page one one.page (record { there = kept_is one.addr one.page off one.here.there; level = one.here.level; serves = one.here.serves; covers = one.here.covers })
      ]

  no_higher_now : (can : Can) (x : Addr) (y : Page) → pages_now x ≡ Some y → page_serves entries v.0 y ≡ true → height_of y.body ≤ root_height entries at v.0
  no_higher_now can x y there on = elim (place x y there) as (λ _. height_of y.body ≤ root_height entries at v.0) [
    | at_leaf e is ↦ let flat : height_of y.body ≡ 0 = ap (λ (z : Page). height_of z.body) is in omega arith
    | kept off old ↦ can.shown.tree.no_higher v.0 x y (low_v can) old on
  ]

  children_now : (can : Can) (x : Addr) (y : Page) → pages_now x ≡ Some y → AllByRecursion (IsChild entries pages_now y) (children_of y)
  children_now can x y there = elim (place x y there) as (λ _. AllByRecursion (IsChild entries pages_now y) (children_of y)) [
    | at_leaf e is ↦ subst (λ (z : Page). AllByRecursion (IsChild entries pages_now z) (children_of z)) (sym is) tt
    | kept off old ↦ weaker (IsChild entries at y) (IsChild entries pages_now y) child (children_of y) (can.shown.tree.children x y old)
  ]
    where
      child : (c : ChildRange) → IsChild entries at y c → IsChild entries pages_now y c
      child c is = elim (addr_cases a c.addr) as (λ _. IsChild entries pages_now y c) [
        | inl e ↦
            let same : p ≡ is.page = page_same p is.page (sym can.there ∙ (ap at e ∙ is.there)) in
            record {
              page = leaf_now;
              there = ap pages_now (sym e) ∙ leaf_there;
              low = ap (λ (z : Page). z.low) same ∙ is.low;
              high = ap (λ (z : Page). z.high) same ∙ is.high;
              height = ap (λ k. k + 1) (sym (flat_p can)) ∙ (ap (λ (z : Page). height_of z.body + 1) same ∙ is.height);
              serves = λ w low s. ap (page_serves entries w) same ∙ is.serves w low s;
            }
        | inr off ↦ record { page = is.page; there = kept_is c.addr is.page off is.there; low = is.low; high = is.high; height = is.height; serves = is.serves }
      ]

  -- The store

  own_leaf : (can : Can) (x : Addr) (y : Page) → pages_now x ≡ Some y → height_of y.body ≡ 0 → page_serves entries v.0 y ≡ true → filter (λ pair. page_covers pair.key y) ps ≡ pairs_in y.body
  own_leaf can x y there flat on = elim (place x y there) as (λ _. filter (λ pair. page_covers pair.key y) ps ≡ pairs_in y.body) [
    | at_leaf e is ↦ subst (λ (z : Page). filter (λ pair. page_covers pair.key z) ps ≡ pairs_in z.body) (sym is) can.here
    | kept off old ↦ can.outside y (away off old (page_covers key y) refl) ∙ can.shown.shows.leaves v.0 version x y can.found old flat on
  ]
    where
      away : (a ≡ x → ⊥) → at x ≡ Some y → (t : Bool) → page_covers key y ≡ t → page_covers key y ≡ false
      away off old true e =
          let one = can.shown.tree.partition v.0 0 (low_v can) (omega arith) key in
          absurd (off (one.only a p (record { there = can.there; level = flat_p can; serves = serves_p can; covers = can.covers }) ∙ sym (one.only x y (record { there = old; level = flat; serves = on; covers = e }))))
      away off old false e = e

  other_leaf : (can : Can) (w : ℕ) (other : StoreVersion) (x : Addr) (y : Page) → (w ≡ v.0 → ⊥) → slice_get store w ≡ Some other → pages_now x ≡ Some y → height_of y.body ≡ 0 → page_serves entries w y ≡ true
      → filter (λ pair. page_covers pair.key y) other.pairs ≡ pairs_in y.body
  other_leaf can w other x y differ at_w there flat on = elim (place x y there) as (λ _. filter (λ pair. page_covers pair.key y) other.pairs ≡ pairs_in y.body) [
    | at_leaf e is ↦ absurd (differ (only_v can y (ap (λ (z : Page). z.made.0) is ∙ can.made) w on))
    | kept off old ↦ can.shown.shows.leaves w other x y at_w old flat on
  ]

  leaves_now : (can : Can) (w : ℕ) (other : StoreVersion) (x : Addr) (y : Page) → slice_get store_now w ≡ Some other → pages_now x ≡ Some y → height_of y.body ≡ 0 → page_serves entries w y ≡ true
      → filter (λ pair. page_covers pair.key y) other.pairs ≡ pairs_in y.body
  leaves_now can w other x y at_w there flat on = elim (cases_eq v.0 w) as (λ _. filter (λ pair. page_covers pair.key y) other.pairs ≡ pairs_in y.body) [
    | inl e ↦
        let both : Some (re_paired version ps) ≡ Some other = sym (set_at store v.0 version (re_paired version ps) can.found) ∙ (ap (slice_get store_now) e ∙ at_w) in
        let same : ps ≡ other.pairs = ap (λ (o : Option StoreVersion). option_map_or (λ (z : StoreVersion). z.pairs) o []) both in
        ap (filter (λ pair. page_covers pair.key y)) (sym same) ∙ own_leaf can x y there flat (subst (λ k. page_serves entries k y ≡ true) (sym e) on)
    | inr differ ↦ other_leaf can w other x y (λ e. differ (sym e)) (sym (get-set_other store v.0 w (re_paired version ps) differ) ∙ at_w) there flat on
  ]

  pub sets_leaf : Can → ShowsTree entries pages_now store_now
  sets_leaf can =
      let r = root_now can in
      record {
        tree = changed_tree entries at pages_now v.0 (low_v can) can.shown.tree can.shown.ordered (record {
          others = others can;
          ordered = ordered_now can;
          pages = versions_now can;
          root = r.0;
          partition = λ height low k. partition_now can height (subst (λ n. height ≤ n) r.1 low) k;
          no_higher = λ x y there on. subst (λ n. height_of y.body ≤ n) (sym r.1) (no_higher_now can x y there on);
          children = λ x y there on. children_now can x y there;
        });
        ordered = ordered_now can;
        shows = record {
          heads = heads_stay store v.0 version ps can.found ∙ can.shown.shows.heads;
          ascending = all-set (λ x. IsTrue (is_ascending x.pairs)) store v.0 (re_paired version ps) can.shown.shows.ascending can.ascending;
          leaves = leaves_now can;
        };
      }

-- Pages that change for one version alone: the other versions' trees stay.
use Rattle.std.proofs.Common.{◌≡◌, ℕ, ◌+◌, ◌<◌, ◌≤◌, inl, inr, Bool, true, false, List, [], ◌∷◌, length, Option, Some, refl, subst, sym, ap, ◌∙◌, arith, slice_get}
use Rattle.std.specs.Prelude.{suc, zero}
use Rattle.std.specs.List.{AllByRecursion}
use Rattle.std.specs.Option.{option_and_then, option_map, option_map_or}
use Rattle.std.proofs.lemmas.Bool.{cases_eq}
use Rattle.std.proofs.lemmas.Option.{option_and_then_some, slice_get-map}
use Rattle.mn_base.specs.Order.{covers_key}
use Rattle.mn_base.specs.Tree.{IsVersionTree, serves}
use Rattle.mn_base.specs.declared.ids.Addr.{Addr}
use Rattle.mn_base.proofs.Booleans.{clash}
use Rattle.mn_base.proofs.Lists.{weaker}
use Rattle.mn_page.specs.declared.entry.CatEntry.{CatEntry}
use Rattle.mn_page.specs.declared.page.Page.{Page}
use Rattle.mn_page.specs.Grammar.{height_of}
use Rattle.mn_page.specs.Forest.{ChildRange, children_of, body_children, heads_in, entry_head}
use Rattle.mn_page.specs.Holds.{PagesAt, page_covers, page_serves, root_page, root_height, IsRoot, IsChild, HasVersions, IsOnPath, OneOnPath, IsTree}
use Rattle.mn_page.proofs.Ancestors.{serves_alone, serves_made}
use Rattle.mn_page.proofs.Copy.{page_same}
use Rattle.mn_tree.specs.Trees.{IsOrdered, IsWritable}

-- Heads

pub head_at : (entries : List CatEntry) (v : ℕ) (e : CatEntry) → slice_get entries v ≡ Some e → slice_get (heads_in entries) v ≡ Some (entry_head e)
head_at entries v e there = slice_get-map entry_head entries v ∙ ap (option_map entry_head) there

pub some_entry : (entries : List CatEntry) (v : ℕ) → v < length entries → (e : CatEntry) × (slice_get entries v ≡ Some e)
some_entry [] v low = absurd (omega arith)
some_entry (e ∷ entries) zero low = (e, refl)
some_entry (e ∷ entries) (suc v) low = some_entry entries v (omega arith)

-- a page in order serves the version that it was made in
pub serves_its : (entries : List CatEntry) → IsVersionTree (heads_in entries) → (p : Page) → p.made.0 < length entries → IsOrdered p → page_serves entries p.made.0 p ≡ true
serves_its entries tree p low ordered =
    let e = some_entry entries p.made.0 low in
    serves_made (heads_in entries) tree p.made.0 p.copied (entry_head e.0) (head_at entries p.made.0 e.0 e.1) ordered.copied_above

-- and a page that was made in a writable version serves no other
pub serves_one : (entries : List CatEntry) (v : ℕ) → IsVersionTree (heads_in entries) → IsWritable entries v → (p : Page) → p.made.0 ≡ v → (w : ℕ) → page_serves entries w p ≡ true → w ≡ v
serves_one entries v tree writes p made w serves =
    sym (serves_alone (heads_in entries) tree p.made.0 p.copied w (entry_head writes.entry) (ap (slice_get (heads_in entries)) made ∙ head_at entries v writes.entry writes.there) writes.writable serves) ∙ made

-- The same pages for a version

-- a page at the address that serves the version and looks like p
pub record Twin (entries : List CatEntry) (at : PagesAt) (w : ℕ) (x : Addr) (p : Page) : Type 0 where
  pub page : Page
  pub there : at x ≡ Some page
  pub serves : page_serves entries w page ≡ true
  pub made : page.made.0 ≡ p.made.0
  pub low : page.low ≡ p.low
  pub high : page.high ≡ p.high
  pub body : page.body ≡ p.body

pub twin_itself : (entries : List CatEntry) (at : PagesAt) (w : ℕ) (x : Addr) (p : Page) → at x ≡ Some p → page_serves entries w p ≡ true → Twin entries at w x p
twin_itself entries at w x p there serves = record { page = p; there = there; serves = serves; made = refl; low = refl; high = refl; body = refl }

pub record SameFor (entries : List CatEntry) (was now : PagesAt) (w : ℕ) : Type 0 where
  pub forth : (x : Addr) (p : Page) → was x ≡ Some p → page_serves entries w p ≡ true → Twin entries now w x p
  pub back : (x : Addr) (p : Page) → now x ≡ Some p → page_serves entries w p ≡ true → Twin entries was w x p

pub covers_twin : (entries : List CatEntry) (at : PagesAt) (w : ℕ) (x : Addr) (p : Page) (t : Twin entries at w x p) (key : List ℕ) → page_covers key t.page ≡ page_covers key p
covers_twin entries at w x p t key = ap (λ (l : List ℕ). covers_key l t.page.high key) t.low ∙ ap (λ (h : Option (List ℕ)). covers_key p.low h key) t.high

pub children_twin : (entries : List CatEntry) (at : PagesAt) (w : ℕ) (x : Addr) (p : Page) (t : Twin entries at w x p) → children_of t.page ≡ children_of p
children_twin entries at w x p t =
    ap (λ (l : List ℕ). body_children l t.page.high t.page.body) t.low
    ∙ (ap (λ (h : Option (List ℕ)). body_children p.low h t.page.body) t.high ∙ ap (body_children p.low p.high) t.body)

pub path_twin : (entries : List CatEntry) (at : PagesAt) (w height : ℕ) (key : List ℕ) (x : Addr) (p : Page) (t : Twin entries at w x p) → height_of p.body ≡ height → page_covers key p ≡ true
    → IsOnPath entries at w height key x t.page
path_twin entries at w height key x p t level covers =
    record { there = t.there; level = ap height_of t.body ∙ level; serves = t.serves; covers = covers_twin entries at w x p t key ∙ covers }

-- the root stays
pub root_twin : (entries : List CatEntry) (was now : PagesAt) (w : ℕ) → IsVersionTree (heads_in entries) → w < length entries → SameFor entries was now w → ((x : Addr) (p : Page) → was x ≡ Some p → IsOrdered p) → IsRoot entries was w
    → IsRoot entries now w × (root_height entries now w ≡ root_height entries was w)
root_twin entries was now w tree low same ordered root =
    option_and_then_some (λ (e : CatEntry). was e.root) (slice_get entries w) root.page root.there (λ e there at.
    let serves : page_serves entries w root.page ≡ true =
    subst (λ k. page_serves entries k root.page ≡ true) root.made (serves_its entries tree root.page (subst (λ k. k < length entries) (sym root.made) low) (ordered e.root root.page at)) in
    let t = same.forth e.root root.page at serves in
    let now_there : root_page entries now w ≡ Some t.page = ap (λ (o : Option CatEntry). option_and_then (λ (y : CatEntry). now y.root) o) there ∙ t.there in (
      record { page = t.page; there = now_there; made = t.made ∙ root.made; low = t.low ∙ root.low; high = t.high ∙ root.high },
      ap (λ (o : Option Page). option_map_or (λ (p : Page). height_of p.body) o 0) now_there
          ∙ (ap height_of t.body ∙ sym (ap (λ (o : Option Page). option_map_or (λ (p : Page). height_of p.body) o 0) root.there)),
    ))

-- each key still has its one page
pub partition_twin : (entries : List CatEntry) (was now : PagesAt) (w height : ℕ) (key : List ℕ) → SameFor entries was now w → OneOnPath entries was w height key → OneOnPath entries now w height key
partition_twin entries was now w height key same one =
    let t = same.forth one.addr one.page one.here.there one.here.serves in
    record {
      addr = one.addr;
      page = t.page;
      here = path_twin entries now w height key one.addr one.page t one.here.level one.here.covers;
      only = λ x p is.
          let b = same.back x p is.there is.serves in
          one.only x b.page (path_twin entries was w height key x p b is.level is.covers);
    }

-- What a change for one version leaves to be shown

pub record Changes (entries : List CatEntry) (was now : PagesAt) (v : ℕ) : Type 0 where
  pub others : (w : ℕ) → w < length entries → (w ≡ v → ⊥) → SameFor entries was now w
  pub ordered : (x : Addr) (p : Page) → now x ≡ Some p → IsOrdered p
  pub pages : (x : Addr) (p : Page) → now x ≡ Some p → HasVersions entries p
  pub root : IsRoot entries now v
  pub partition : (height : ℕ) → height ≤ root_height entries now v → (key : List ℕ) → OneOnPath entries now v height key
  pub no_higher : (x : Addr) (p : Page) → now x ≡ Some p → page_serves entries v p ≡ true → height_of p.body ≤ root_height entries now v
  pub children : (x : Addr) (p : Page) → now x ≡ Some p → page_serves entries v p ≡ true → AllByRecursion (IsChild entries now p) (children_of p)

pub changed_tree : (entries : List CatEntry) (was now : PagesAt) (v : ℕ) → v < length entries → IsTree entries was → ((x : Addr) (p : Page) → was x ≡ Some p → IsOrdered p) → Changes entries was now v → IsTree entries now
changed_tree entries was now v low tree ordered c = record {
  versions = tree.versions;
  roots = λ w in'. elim (cases_eq w v) as (λ _. IsRoot entries now w) [
    | inl e ↦ subst (IsRoot entries now) (sym e) c.root
    | inr differ ↦ (root_of w in' differ).0
  ];
  pages = c.pages;
  partition = λ w height in' high key. elim (cases_eq w v) as (λ _. OneOnPath entries now w height key) [
    | inl e ↦ subst (λ k. OneOnPath entries now k height key) (sym e) (c.partition height (subst (λ k. height ≤ root_height entries now k) e high) key)
    | inr differ ↦ partition_twin entries was now w height key (c.others w in' differ) (tree.partition w height in' (subst (λ k. height ≤ k) (root_of w in' differ).1 high) key)
  ];
  no_higher = λ w x p in' there serves. elim (cases_eq w v) as (λ _. height_of p.body ≤ root_height entries now w) [
    | inl e ↦ subst (λ k. height_of p.body ≤ root_height entries now k) (sym e) (c.no_higher x p there (subst (λ k. page_serves entries k p ≡ true) e serves))
    | inr differ ↦
        let b = (c.others w in' differ).back x p there serves in
        let least : height_of b.page.body ≤ root_height entries was w = tree.no_higher w x b.page in' b.there b.serves in
        subst (λ k. height_of p.body ≤ k) (sym (root_of w in' differ).1) (subst (λ k. k ≤ root_height entries was w) (ap height_of b.body) least)
  ];
  children = λ x p there. by_version x p there (page_serves entries v p) refl;
}
  where
    root_of : (w : ℕ) → w < length entries → (w ≡ v → ⊥) → IsRoot entries now w × (root_height entries now w ≡ root_height entries was w)
    root_of w in' differ = root_twin entries was now w tree.versions in' (c.others w in' differ) ordered (tree.roots w in')

    child : (x : Addr) (p old : Page) → now x ≡ Some p → was x ≡ Some old → page_serves entries v p ≡ false → (w : ℕ) → w < length entries → page_serves entries w p ≡ true → page_serves entries w old ≡ true → old.body ≡ p.body
        → (r : ChildRange) → IsChild entries was old r → IsChild entries now p r
    child x p old there was_there off w in' on old_on body r is =
        let other : w ≡ v → ⊥ = λ e. clash (page_serves entries v p) (subst (λ k. page_serves entries k p ≡ true) e on) off in
        let t = (c.others w in' other).forth r.addr is.page is.there (is.serves w in' old_on) in
        record {
          page = t.page;
          there = t.there;
          low = t.low ∙ is.low;
          high = t.high ∙ is.high;
          height = ap (λ b. height_of b + 1) t.body ∙ (is.height ∙ ap height_of body);
          serves = λ u in_u serves.
              let away : u ≡ v → ⊥ = λ e. clash (page_serves entries v p) (subst (λ k. page_serves entries k p ≡ true) e serves) off in
              let b = (c.others u in_u away).back x p there serves in
              let same : b.page ≡ old = page_same b.page old (sym b.there ∙ was_there) in
              let s = (c.others u in_u away).forth r.addr is.page is.there (is.serves u in_u (subst (λ (y : Page). page_serves entries u y ≡ true) same b.serves)) in
              let same_child : s.page ≡ t.page = page_same s.page t.page (sym s.there ∙ t.there) in
              subst (λ (y : Page). page_serves entries u y ≡ true) same_child s.serves;
        }

    by_version : (x : Addr) (p : Page) → now x ≡ Some p → (b : Bool) → page_serves entries v p ≡ b → AllByRecursion (IsChild entries now p) (children_of p)
    by_version x p there true on = c.children x p there on
    by_version x p there false off =
        let in' = (c.pages x p there).made in
        let on = serves_its entries tree.versions p in' (c.ordered x p there) in
        let other : p.made.0 ≡ v → ⊥ = λ e. clash (page_serves entries v p) (subst (λ k. page_serves entries k p ≡ true) e on) off in
        let b = (c.others p.made.0 in' other).back x p there on in
        subst (AllByRecursion (IsChild entries now p)) (children_twin entries was p.made.0 x p b)
        (weaker (IsChild entries was b.page) (IsChild entries now p) (child x p b.page there b.there off p.made.0 in' on b.serves b.body) (children_of b.page) (tree.children x b.page b.there))

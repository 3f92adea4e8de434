-- Trees by what is tested of each page: its children fit, and it is a root or named from one height
-- up. At each height, then, just one page covers a key; and the other way round.
use Rattle.std.proofs.Common.{◌≡◌, ◌<◌, ◌≤◌, ◌+◌, ◌⊎◌, inl, inr, ℕ, zero, suc, true, List, [], ◌∷◌, length, Option, Some, None, refl, ap, sym, subst, ◌∙◌, arith, slice_get, Contains}
use Rattle.std.specs.Prelude.{IsTrue}
use Rattle.std.specs.List.{AllByRecursion}
use Rattle.std.specs.Option.{option_map_or, option_and_then}
use Rattle.mn_base.specs.Tree.{IsVersionTree}
use Rattle.mn_base.specs.declared.ids.Addr.{Addr}
use Rattle.mn_base.proofs.Naturals.{below_or}
use Rattle.mn_page.specs.declared.entry.CatEntry.{CatEntry}
use Rattle.mn_page.specs.declared.page.Page.{Page}
use Rattle.mn_page.specs.declared.page.Body.{Body}
use Rattle.mn_page.specs.declared.page.Body.TheVariants.{Leaf, Inner}
use Rattle.mn_page.specs.Grammar.{IsPage, IsBody, height_of}
use Rattle.mn_page.specs.Forest.{heads_in, entry_head, ChildRange, children_of}
use Rattle.mn_page.specs.Holds.{PagesAt, page_covers, page_serves, root_page, root_height, IsRoot, HasVersions, IsChild, IsOnPath, OneOnPath, IsTree}
use Rattle.mn_page.specs.Reading.{addrs_in}
use Rattle.mn_page.proofs.Ancestors.{serves_made}
use Rattle.mn_page.proofs.Grid.{all_at_place}
use Rattle.mn_forest.proofs.Ranges.{child_covers, covers, child_for, child_inside, child_once}
use Rattle.mn_forest.proofs.Children.{child_addr, child_at_addr}

-- a page of this height that serves the version and stands there names the address
pub record IsNamedIn (entries : List CatEntry) (at : PagesAt) (v height : ℕ) (addr : Addr) : Type 0 where
  pub from : Addr
  pub parent : Page
  pub there : at from ≡ Some parent
  pub level : height_of parent.body ≡ height
  pub serves : IsTrue (page_serves entries v parent)
  pub named : Contains (addrs_in parent.body) addr

abbrev pub IsRootIn : List CatEntry → ℕ → Addr → Type 0
IsRootIn entries v addr = (e : CatEntry) × (slice_get entries v ≡ Some e) × (e.root ≡ addr)

pub record IsBuilt (entries : List CatEntry) (at : PagesAt) : Type 0 where
  pub versions : IsVersionTree (heads_in entries)
  pub roots : (v : ℕ) → v < length entries → IsRoot entries at v
  pub valid : (addr : Addr) (p : Page) → at addr ≡ Some p → IsPage p
  pub pages : (addr : Addr) (p : Page) → at addr ≡ Some p → HasVersions entries p
  pub children : (addr : Addr) (p : Page) → at addr ≡ Some p → AllByRecursion (IsChild entries at p) (children_of p)
  pub reach : (addr : Addr) (p : Page) (v : ℕ) → at addr ≡ Some p → v < length entries → IsTrue (page_serves entries v p) → IsRootIn entries v addr ⊎ IsNamedIn entries at v (height_of p.body + 1) addr

-- Roots

pub same_page : (x y : Page) (o : Option Page) → o ≡ Some x → o ≡ Some y → x ≡ y
same_page x y o e f = cc

pub root_at : (entries : List CatEntry) (at : PagesAt) (v : ℕ) (e : CatEntry) → slice_get entries v ≡ Some e → root_page entries at v ≡ at e.root
root_at entries at v e is = ap (λ (o : Option CatEntry). option_and_then (λ x. at x.root) o) is

height_at : (entries : List CatEntry) (at : PagesAt) (v : ℕ) (p : Page) → root_page entries at v ≡ Some p → root_height entries at v ≡ height_of p.body
height_at entries at v p is = ap (λ (o : Option Page). option_map_or (λ x. height_of x.body) o 0) is

pub entry_at : (entries : List CatEntry) (v : ℕ) → v < length entries → (e : CatEntry) × (slice_get entries v ≡ Some e)
entry_at [] v low = absurd (omega arith)
entry_at (e ∷ es) zero low = (e, refl)
entry_at (e ∷ es) (suc v) low = entry_at es v (omega arith)

pub head_at : (entries : List CatEntry) (v : ℕ) (e : CatEntry) → slice_get entries v ≡ Some e → slice_get (heads_in entries) v ≡ Some (entry_head e)
head_at [] v e is = absurd cc
head_at (x ∷ es) zero e is = let same : x ≡ e = cc in ap (λ (y : CatEntry). Some (entry_head y)) same
head_at (x ∷ es) (suc v) e is = head_at es v e is

all_keys : (key : List ℕ) (p : Page) → p.low ≡ [] → p.high ≡ None → page_covers key p ≡ true
all_keys key p low high = ap (λ (l : List ℕ). Rattle.mn_base.specs.Order.covers_key l p.high key) low ∙ ap (λ (h : Option (List ℕ)). Rattle.mn_base.specs.Order.covers_key [] h key) high ∙ every key
  where
    every : (k : List ℕ) → Rattle.mn_base.specs.Order.covers_key [] None k ≡ true
    every [] = refl
    every (b ∷ k) = refl

-- a root serves its version and covers each key
pub root_on_path : (entries : List CatEntry) (at : PagesAt) → IsVersionTree (heads_in entries) → ((addr : Addr) (p : Page) → at addr ≡ Some p → IsPage p) → (v : ℕ) → v < length entries → IsRoot entries at v
    → (e : CatEntry) → slice_get entries v ≡ Some e → (key : List ℕ) → (p : Page) × IsOnPath entries at v (root_height entries at v) key e.root p
root_on_path entries at tree valid v in' r e is key =
    let there : at e.root ≡ Some r.page = sym (root_at entries at v e is) ∙ r.there in
    let good = valid e.root r.page there in
    let own = serves_made (heads_in entries) tree v r.page.copied (entry_head e) (head_at entries v e is) (subst (λ (m : ℕ). Rattle.std.specs.List.list_all (Rattle.std.specs.Prelude.nat_lt m) (Rattle.mn_base.specs.Tree.versions_in r.page.copied) ≡ true) r.made good.copied_above) in (
      r.page,
      record {
        there = there;
        level = sym (height_at entries at v r.page r.there);
        serves = subst (λ (m : ℕ). IsTrue (Rattle.mn_base.specs.Tree.serves (Rattle.mn_base.specs.Tree.parents_of (heads_in entries)) m r.page.copied v)) (sym r.made) own;
        covers = all_keys key r.page r.low r.high;
      },
    )

-- From what is tested to the tree

module _ (entries : List CatEntry) (at : PagesAt) (b : IsBuilt entries at) where
  -- no page that serves a version is above its root
  none_higher : (v : ℕ) → v < length entries → (n : ℕ) (addr : Addr) (p : Page) → at addr ≡ Some p → IsTrue (page_serves entries v p) → height_of p.body + n ≡ 65536 → root_height entries at v < height_of p.body → ⊥
  none_higher v in' zero addr p there serves sum high = let low = level_low p.body (b.valid addr p there).body in omega arith
    where
      level_low : (body : Body) → IsBody p.low p.high body → height_of body < 65536
      level_low (Leaf pairs) is = omega arith
      level_low (Inner height first rest) is = is.1
  none_higher v in' (suc n) addr p there serves sum high = elim (b.reach addr p v there in' serves) as (λ _. ⊥) [
    | inl r ↦
        let root : root_page entries at v ≡ Some p = root_at entries at v r.0 r.1 ∙ ap at r.2 ∙ there in
        let level = height_at entries at v p root in omega arith
    | inr up ↦ none_higher v in' n up.from up.parent up.there up.serves (let l = up.level in omega arith) (let l = up.level in omega arith)
  ]

  not_higher : (v : ℕ) (addr : Addr) (p : Page) → v < length entries → at addr ≡ Some p → IsTrue (page_serves entries v p) → height_of p.body ≤ root_height entries at v
  not_higher v addr p in' there serves = elim (below_or (root_height entries at v) (height_of p.body)) as (λ _. height_of p.body ≤ root_height entries at v) [
    | inl high ↦ absurd (by (b.valid addr p there).body high)
    | inr low ↦ low
  ]
    where
      level_low : (body : Body) → IsBody p.low p.high body → height_of body < 65536
      level_low (Leaf pairs) is = omega arith
      level_low (Inner height first rest) is = is.1

      by : IsBody p.low p.high p.body → root_height entries at v < height_of p.body → ⊥
      by body high = let low = level_low p.body body in none_higher v in' (Rattle.std.specs.Prelude.◌-◌ 65536 (height_of p.body)) addr p there serves (omega arith) high

  -- at the root's height there is the root alone
  at_top : (v : ℕ) (key : List ℕ) → v < length entries → OneOnPath entries at v (root_height entries at v) key
  at_top v key in' =
      let e = entry_at entries v in' in
      let here = root_on_path entries at b.versions b.valid v in' (b.roots v in') e.0 e.1 key in
      record { addr = e.0.root; page = here.0; here = here.1; only = λ a p is. only e.0 e.1 a p is }
    where
      only : (e : CatEntry) → slice_get entries v ≡ Some e → (a : Addr) (p : Page) → IsOnPath entries at v (root_height entries at v) key a p → a ≡ e.root
      only e is a p on = elim (b.reach a p v on.there in' on.serves) as (λ _. a ≡ e.root) [
        | inl r ↦ let same : r.0 ≡ e = cc in sym (r.2) ∙ ap (λ (x : CatEntry). x.root) same
        | inr up ↦ absurd (let low = not_higher v up.from up.parent in' up.there up.serves in let l = up.level in let m = on.level in omega arith)
      ]

  -- one height down
  down : (v height : ℕ) (key : List ℕ) → v < length entries → height < root_height entries at v → OneOnPath entries at v (height + 1) key → OneOnPath entries at v height key
  down v height key in' low up =
      let some = child_for up.page key (b.valid up.addr up.page up.here.there) (let l = up.here.level in omega arith) up.here.covers in
      let child = all_at_place (IsChild entries at up.page) (children_of up.page) some.0 some.1 (b.children up.addr up.page up.here.there) some.2 in
      record {
        addr = some.1.addr;
        page = child.page;
        here = record {
          there = child.there;
          level = (let l = up.here.level in let m = child.height in omega arith);
          serves = child.serves v in' up.here.serves;
          covers = ap (λ (l : List ℕ). Rattle.mn_base.specs.Order.covers_key l child.page.high key) child.low ∙ ap (λ (h : Option (List ℕ)). Rattle.mn_base.specs.Order.covers_key some.1.low h key) child.high ∙ some.3;
        };
        only = λ a p is. only some.0 some.1 some.2 some.3 a p is;
      }
    where
      named : (i : ℕ) (c : ChildRange) → slice_get (children_of up.page) i ≡ Some c → child_covers key c ≡ true → (a : Addr) (p : Page) → IsOnPath entries at v height key a p → IsNamedIn entries at v (height_of p.body + 1) a → a ≡ c.addr
      named i c is does a p on from =
          let j = child_at_addr from.parent a from.named in
          let child = all_at_place (IsChild entries at from.parent) (children_of from.parent) j.0 j.1 (b.children from.from from.parent from.there) j.2 in
          let same : child.page ≡ p = same_page child.page p (at a) (ap at (sym j.3) ∙ child.there) on.there in
          let range : child_covers key j.1 ≡ true = ap (λ (l : List ℕ). Rattle.mn_base.specs.Order.covers_key l j.1.high key) (sym child.low ∙ ap (λ (q : Page). q.low) same) ∙ ap (λ (h : Option (List ℕ)). Rattle.mn_base.specs.Order.covers_key p.low h key) (sym child.high ∙ ap (λ (q : Page). q.high) same) ∙ on.covers in
          let wide = child_inside from.parent key j.0 j.1 (b.valid from.from from.parent from.there) j.2 range in
          let one : from.from ≡ up.addr = up.only from.from from.parent (record { there = from.there; level = (let l = from.level in let m = on.level in omega arith); serves = from.serves; covers = wide }) in
          let pages : from.parent ≡ up.page = same_page from.parent up.page (at up.addr) (ap at (sym one) ∙ from.there) up.here.there in
          let both : j.1 ≡ c = child_once up.page key j.0 i j.1 c (b.valid up.addr up.page up.here.there) (subst (λ (q : Page). slice_get (children_of q) j.0 ≡ Some j.1) pages j.2) is range does in
          sym j.3 ∙ ap (λ (x : ChildRange). x.addr) both

      only : (i : ℕ) (c : ChildRange) → slice_get (children_of up.page) i ≡ Some c → child_covers key c ≡ true → (a : Addr) (p : Page) → IsOnPath entries at v height key a p → a ≡ c.addr
      only i c is does a p on = elim (b.reach a p v on.there in' on.serves) as (λ _. a ≡ c.addr) [
        | inl r ↦ absurd (let root : root_page entries at v ≡ Some p = root_at entries at v r.0 r.1 ∙ ap at r.2 ∙ on.there in let level = height_at entries at v p root in let m = on.level in omega arith)
        | inr from ↦ named i c is does a p on from
      ]

  one_each : (v : ℕ) (key : List ℕ) → v < length entries → (n height : ℕ) → height + n ≡ root_height entries at v → OneOnPath entries at v height key
  one_each v key in' zero height sum = let same : root_height entries at v ≡ height = omega arith in subst (λ (h : ℕ). OneOnPath entries at v h key) same (at_top v key in')
  one_each v key in' (suc n) height sum = down v height key in' (omega arith) (one_each v key in' n (height + 1) (omega arith))

  pub is_tree : IsTree entries at
  is_tree = record {
    versions = b.versions;
    roots = b.roots;
    pages = b.pages;
    partition = λ v height in' low key. one_each v key in' (Rattle.std.specs.Prelude.◌-◌ (root_height entries at v) height) height (omega arith);
    no_higher = λ v addr p in' there serves. not_higher v addr p in' there serves;
    children = b.children;
  }

-- From the tree to what is tested

module _ (entries : List CatEntry) (at : PagesAt) (t : IsTree entries at) (valid : (addr : Addr) (p : Page) → at addr ≡ Some p → IsPage p) where
  -- a page covers its low fence
  pub covers_low : (p : Page) → IsPage p → page_covers p.low p ≡ true
  covers_low p is = covers p.low p.high p.low (Rattle.mn_base.proofs.Keys.not_below p.low) is.fences

  pub reached : (addr : Addr) (p : Page) (v : ℕ) → at addr ≡ Some p → v < length entries → IsTrue (page_serves entries v p) → IsRootIn entries v addr ⊎ IsNamedIn entries at v (height_of p.body + 1) addr
  reached addr p v there in' serves = elim (below_or (height_of p.body) (root_height entries at v)) as (λ _. IsRootIn entries v addr ⊎ IsNamedIn entries at v (height_of p.body + 1) addr) [
    | inl low ↦ inr (named low)
    | inr high ↦ inl (root (let low = t.no_higher v addr p in' there serves in let same : height_of p.body ≡ root_height entries at v = omega arith in same))
  ]
    where
      is : IsPage p
      is = valid addr p there

      here : (height : ℕ) → height_of p.body ≡ height → IsOnPath entries at v height p.low addr p
      here height same = record { there = there; level = same; serves = serves; covers = covers_low p is }

      root : height_of p.body ≡ root_height entries at v → IsRootIn entries v addr
      root same =
          let e = entry_at entries v in' in
          let on = root_on_path entries at t.versions valid v in' (t.roots v in') e.0 e.1 p.low in
          let one = t.partition v (root_height entries at v) in' (omega arith) p.low in
          (e.0, e.1, one.only e.0.root on.0 on.1 ∙ sym (one.only addr p (here (root_height entries at v) same)))

      named : height_of p.body < root_height entries at v → IsNamedIn entries at v (height_of p.body + 1) addr
      named low =
          let up = t.partition v (height_of p.body + 1) in' (omega arith) p.low in
          let some = child_for up.page p.low (valid up.addr up.page up.here.there) (let l = up.here.level in omega arith) up.here.covers in
          let child = all_at_place (IsChild entries at up.page) (children_of up.page) some.0 some.1 (t.children up.addr up.page up.here.there) some.2 in
          let one = t.partition v (height_of p.body) in' (omega arith) p.low in
          let on : IsOnPath entries at v (height_of p.body) p.low some.1.addr child.page = record {
            there = child.there;
            level = (let l = up.here.level in let m = child.height in omega arith);
            serves = child.serves v in' up.here.serves;
            covers = ap (λ (l : List ℕ). Rattle.mn_base.specs.Order.covers_key l child.page.high p.low) child.low ∙ ap (λ (h : Option (List ℕ)). Rattle.mn_base.specs.Order.covers_key some.1.low h p.low) child.high ∙ some.3;
          } in
          let same : some.1.addr ≡ addr = one.only some.1.addr child.page on ∙ sym (one.only addr p (here (height_of p.body) refl)) in
          record { from = up.addr; parent = up.page; there = up.here.there; level = up.here.level; serves = up.here.serves; named = subst (λ (a : Addr). Contains (addrs_in up.page.body) a) same (child_addr up.page some.0 some.1 some.2) }

  pub is_built : IsBuilt entries at
  is_built = record { versions = t.versions; roots = t.roots; valid = valid; pages = t.pages; children = t.children; reach = reached }

-- The path of a key in a tree: it ends at the version's one leaf for the key.
use Rattle.std.proofs.Common.{◌≡◌, ℕ, zero, suc, ◌+◌, ◌<◌, inl, inr, Bool, true, false, List, [], ◌∷◌, length, Option, Some, None, refl, subst, sym, ap, ◌∙◌, arith, slice_get, if◌then◌else◌}
use Rattle.std.specs.Prelude.{nat_eq}
use Rattle.std.specs.Option.{option_and_then, option_or}
use Rattle.std.proofs.lemmas.Bool.{eqb-true, and_parts}
use Rattle.std.proofs.lemmas.Option.{option_and_then_some, slice_get_within}
use Rattle.mn_base.specs.Order.{covers_key, key_le, below_bound}
use Rattle.mn_base.specs.Store.{Store}
use Rattle.mn_base.specs.declared.ids.Addr.{Addr}
use Rattle.mn_base.specs.declared.ids.VersionNo.{VersionNo}
use Rattle.mn_base.specs.declared.reply.Pair.{Pair}
use Rattle.mn_page.specs.declared.entry.CatEntry.{CatEntry}
use Rattle.mn_page.specs.declared.page.Page.{Page}
use Rattle.mn_page.specs.declared.page.Body.{Body}
use Rattle.mn_page.specs.declared.page.Body.TheVariants.{Leaf, Inner}
use Rattle.mn_page.specs.declared.page.Child.{Child}
use Rattle.mn_page.specs.Grammar.{height_of}
use Rattle.mn_page.specs.Forest.{ChildRange, ranges_from, children_of, body_children}
use Rattle.mn_page.specs.Holds.{PagesAt, page_covers, page_serves, root_page, IsChild, IsOnPath, IsTree}
use Rattle.mn_page.specs.Overlay.{Held, held_at, child_for, path_to}
use Rattle.mn_page.proofs.Grid.{all_at_place}
use Rattle.mn_page.proofs.Copy.{page_same}
use Rattle.mn_path.specs.Walk.{child_from}
use Rattle.mn_tree.specs.Trees.{laid_over, ShowsTree, IsOrdered}
use Rattle.mn_tree.proofs.Ways.{child_is}
use Rattle.mn_tree.proofs.Trees.Twins.{serves_its, serves_one}
use Rattle.mn_tree.proofs.Trees.Grows.{all_covered}
use Rattle.mn_tree.proofs.Trees.Among.{Among, rest_addrs, body_addrs, has_child}
use Rattle.mn_tree.proofs.Trees.Raised.{OnPath}
use Rattle.mn_tree.proofs.Trees.Puts.{nothing}

-- the child that the path goes down to
record Covering (rs : List ChildRange) (key : List ℕ) (addr : Addr) : Type 0 where
  place : ℕ
  range : ChildRange
  there : slice_get rs place ≡ Some range
  is : range.addr ≡ addr
  covers : covers_key range.low range.high key ≡ true

covering : (rs : List ChildRange) (key : List ℕ) (addr : Addr) → child_for rs key ≡ Some addr → Covering rs key addr
covering [] key addr e = absurd cc
covering (r ∷ rs) key addr e = cases (covers_key r.low r.high key) refl e (covering rs key addr)
  where
    cases : (t : Bool) → covers_key r.low r.high key ≡ t → (if t then Some r.addr else child_for rs key) ≡ Some addr → (child_for rs key ≡ Some addr → Covering rs key addr) → Covering (r ∷ rs) key addr
    cases true covers f rest = record { place = 0; range = r; there = refl; is = cc; covers = covers }
    cases false off f rest = let c = rest f in record { place = suc c.place; range = c.range; there = c.there; is = c.is; covers = c.covers }

among_ranges : (x : Addr) (low : List ℕ) (cs : List Child) (high : Option (List ℕ)) (i : ℕ) (r : ChildRange) → slice_get (ranges_from x low cs high) i ≡ Some r → Among r.addr (x ∷ rest_addrs cs)
among_ranges x low [] high zero r e = let is : record { addr = x; low = low; high = high } ≡ r = cc in inl (ap (λ (c : ChildRange). c.addr) is)
among_ranges x low [] high (suc i) r e = absurd cc
among_ranges x low (c ∷ cs) high zero r e = let is : record { addr = x; low = low; high = Some c.separator } ≡ r = cc in inl (ap (λ (d : ChildRange). d.addr) is)
among_ranges x low (c ∷ cs) high (suc i) r e = inr (among_ranges c.addr c.separator cs high i r e)

among_children : (low : List ℕ) (high : Option (List ℕ)) (b : Body) (i : ℕ) (r : ChildRange) → slice_get (body_children low high b) i ≡ Some r → Among r.addr (body_addrs b)
among_children low high (Leaf pairs) i r e = absurd cc
among_children low high (Inner height first rest) i r e = among_ranges first low rest high i r e

-- a page's child in a tree
child_in : (entries : List CatEntry) (at : PagesAt) → IsTree entries at → (a : Addr) (p : Page) → at a ≡ Some p → (i : ℕ) (r : ChildRange) → slice_get (children_of p) i ≡ Some r → IsChild entries at p r
child_in entries at tree a p there i r found = all_at_place (IsChild entries at p) (children_of p) i r (tree.children a p there) found

-- each page that a page names is there
pub settled : (entries : List CatEntry) (at : PagesAt) → IsTree entries at → (a : Addr) (p : Page) → at a ≡ Some p → (x : Addr) → Among x (body_addrs p.body) → at x ≡ None → ⊥
settled entries at tree a p there x among none =
    let c = has_child p x among in
    let is = child_in entries at tree a p there c.place c.range c.there in
    nothing is.page (at x) none (ap at (sym c.is) ∙ is.there)

-- a page at height 0 is a leaf
pub is_leaf : (entries : List CatEntry) (at : PagesAt) → IsTree entries at → (a : Addr) (p : Page) → at a ≡ Some p → height_of p.body ≡ 0 → (pairs : List Pair) × (p.body ≡ Leaf pairs)
is_leaf entries at tree a p there flat = by_body p.body refl
  where
    by_body : (b : Body) → p.body ≡ b → (pairs : List Pair) × (p.body ≡ Leaf pairs)
    by_body (Leaf pairs) is = (pairs, is)
    by_body (Inner height first rest) is =
        let c = has_child p first (subst (λ b. Among first (body_addrs b)) (sym is) (inl refl)) in
        let child = child_in entries at tree a p there c.place c.range c.there in
        let up = child.height in absurd (omega arith)

-- what a path to a leaf is
pub record FoundPath (entries : List CatEntry) (at : PagesAt) (v : VersionNo) (root : Addr) (key : List ℕ) (path : List Held) : Type 0 where
  pub leaf : Held
  pub above : List Held
  pub is : path ≡ leaf ∷ above
  pub on : OnPath entries at v root leaf above
  pub there : at leaf.addr ≡ Some leaf.page
  pub level : height_of leaf.page.body ≡ 0
  pub serves : page_serves entries v.0 leaf.page ≡ true
  pub covers : page_covers key leaf.page ≡ true

abbrev held : Addr → Page → Held
held addr page = record { addr = addr; page = page }

-- a page of a key's path and those above it, up to the root
abbrev pub IsUp : List CatEntry → PagesAt → ℕ → Addr → List ℕ → ℕ → Held → List Held → Type 0
IsUp entries at v root key height h [] = IsOnPath entries at v height key h.addr h.page × (root ≡ h.addr)
IsUp entries at v root key height h (parent ∷ above) = IsOnPath entries at v height key h.addr h.page × IsUp entries at v root key (suc height) parent above

-- a key's whole path
pub record WholePath (entries : List CatEntry) (at : PagesAt) (v : VersionNo) (root : Addr) (key : List ℕ) : Type 0 where
  pub leaf : Held
  pub above : List Held
  pub up : IsUp entries at v.0 root key 0 leaf above
  pub found : FoundPath entries at v root key (leaf ∷ above)

module _ (entries : List CatEntry) (under : PagesAt) (pages : List Held) (v : VersionNo) (root : Addr) (key : List ℕ) (low_v : v.0 < length entries) (tree : IsTree entries (laid_over pages under)) (ordered : (a : Addr) (p : Page) → laid_over pages under a ≡ Some p → IsOrdered p) where
  abbrev at : PagesAt
  at = laid_over pages under

  -- a page on the way
  record Way (addr : Addr) (page : Page) (above : List Held) : Type 0 where
    on : OnPath entries at v root (held addr page) above
    there : at addr ≡ Some page
    serves : page_serves entries v.0 page ≡ true
    covers : page_covers key page ≡ true

  is_there : (addr : Addr) (page : Page) → held_at pages addr ≡ Some page → at addr ≡ Some page
  is_there addr page e = ap (λ o. option_or o (under addr)) e

  -- the way goes on to the child that covers the key
  goes_down : (addr : Addr) (page : Page) (above : List Held) → Way addr page above → (next : Addr) → child_for (children_of page) key ≡ Some next → (q : Page) → at next ≡ Some q → Way next q (held addr page ∷ above)
  goes_down addr page above way next chosen q there =
      let c = covering (children_of page) key next chosen in
      let child = child_in entries at tree addr page way.there c.place c.range c.there in
      let same : child.page ≡ q = page_same child.page q (sym child.there ∙ (ap at c.is ∙ there)) in
      let child_serves : (w : ℕ) → w < length entries → page_serves entries w page ≡ true → page_serves entries w q ≡ true = λ w in' s. subst (λ (y : Page). page_serves entries w y ≡ true) same (child.serves w in' s) in
      let covers : page_covers key q ≡ true =
      subst (λ (y : Page). page_covers key y ≡ true) same (ap (λ (l : List ℕ). covers_key l child.page.high key) child.low ∙ (ap (λ (h : Option (List ℕ)). covers_key c.range.low h key) child.high ∙ c.covers)) in
      record {
        on = (
          there,
          record {
            among = subst (λ (x : Addr). Among x (body_addrs page.body)) c.is (among_children page.low page.high page.body c.place c.range c.there);
            level = ap (λ (y : Page). height_of y.body + 1) (sym same) ∙ child.height;
            own = λ writes made.
                let of = tree.pages addr page way.there in
                serves_one entries v.0 tree.versions writes q made page.made.0 (child_serves page.made.0 of.made (serves_its entries tree.versions page of.made (ordered addr page way.there)));
            settled = settled entries at tree addr page way.there;
          },
          way.on,
        );
        there = there;
        serves = child_serves v.0 low_v way.serves;
        covers = covers;
      }

  down : (fuel : ℕ) (addr : Addr) (above path : List Held) → ((page : Page) → held_at pages addr ≡ Some page → Way addr page above) → path_to fuel pages addr key above ≡ Some path → FoundPath entries at v root key path
  down zero addr above path way e = absurd cc
  down (suc fuel) addr above path way e =
      option_and_then_some
      (λ page. if nat_eq (height_of page.body) 0 then Some (held addr page ∷ above) else option_and_then (λ next. path_to fuel pages next key (held addr page ∷ above)) (child_for (children_of page) key)) (held_at pages addr) path e
      (λ page there f. by_height page there (nat_eq (height_of page.body) 0) refl f (λ next more. down fuel next (held addr page ∷ above) path more))
    where
      by_height : (page : Page) → held_at pages addr ≡ Some page → (t : Bool) → nat_eq (height_of page.body) 0 ≡ t
          → (if t then Some (held addr page ∷ above) else option_and_then (λ next. path_to fuel pages next key (held addr page ∷ above)) (child_for (children_of page) key)) ≡ Some path
          → ((next : Addr) → ((q : Page) → held_at pages next ≡ Some q → Way next q (held addr page ∷ above)) → path_to fuel pages next key (held addr page ∷ above) ≡ Some path → FoundPath entries at v root key path)
          → FoundPath entries at v root key path
      by_height page there true flat f rest =
          let w = way page there in
          let same : held addr page ∷ above ≡ path = cc in
          record { leaf = held addr page; above = above; is = sym same; on = w.on; there = w.there; level = eqb-true (height_of page.body) 0 flat; serves = w.serves; covers = w.covers }
      by_height page there false high f rest =
          option_and_then_some (λ next. path_to fuel pages next key (held addr page ∷ above)) (child_for (children_of page) key) path f
          (λ next chosen g. rest next (λ q found. goes_down addr page above (way page there) next chosen q (is_there next q found)) g)

  -- an inner page names a child for each key that it covers
  chooses : (page : Page) (height : ℕ) → page_covers key page ≡ true → height_of page.body ≡ suc height → (next : Addr) × (child_for (children_of page) key ≡ Some next)
  chooses page height covers high = by_body page.body refl high
    where
      by_body : (b : Body) → page.body ≡ b → height_of b ≡ suc height → (next : Addr) × (child_for (children_of page) key ≡ Some next)
      by_body (Leaf pairs) is h = absurd (omega arith)
      by_body (Inner level first rest) is h =
          let parts = and_parts (key_le page.low key) (below_bound key page.high) covers in
          (child_from first rest key, ap (λ (b : Body). child_for (body_children page.low page.high b) key) is ∙ child_is first rest page.low page.high key parts.0 parts.1)

  -- from a page on the way down to the leaf
  descends : (height : ℕ) (addr : Addr) (page : Page) (above : List Held) → Way addr page above → height_of page.body ≡ height → IsUp entries at v.0 root key height (held addr page) above → WholePath entries at v root key
  descends zero addr page above way flat up = record {
    leaf = held addr page;
    above = above;
    up = up;
    found = record { leaf = held addr page; above = above; is = refl; on = way.on; there = way.there; level = flat; serves = way.serves; covers = way.covers };
  }
  descends (suc height) addr page above way high up =
      let c = chooses page height way.covers high in
      let to = covering (children_of page) key c.0 c.1 in
      let child = child_in entries at tree addr page way.there to.place to.range to.there in
      let there : at c.0 ≡ Some child.page = ap at (sym to.is) ∙ child.there in
      let lower : height_of child.page.body ≡ height = let one = child.height in omega arith in
      let w = goes_down addr page above way c.0 c.1 child.page there in
      descends height c.0 child.page (held addr page ∷ above) w lower (record { there = there; level = lower; serves = w.serves; covers = w.covers }, up)

module _ (entries : List CatEntry) (under : PagesAt) (pages : List Held) (store : Store) (v : VersionNo) (entry : CatEntry) (key : List ℕ) (shown : ShowsTree entries (laid_over pages under) store) (there : slice_get entries v.0 ≡ Some entry) where
  low_v : v.0 < length entries
  low_v = slice_get_within entries v.0 entry there

  way_from : (page : Page) → laid_over pages under entry.root ≡ Some page → Way entries under pages v entry.root key low_v shown.tree shown.ordered entry.root page []
  way_from page at_root =
      let root = shown.tree.roots v.0 low_v in
      let root_is : root_page entries (laid_over pages under) v.0 ≡ Some page = ap (λ (o : Option CatEntry). option_and_then (λ (x : CatEntry). laid_over pages under x.root) o) there ∙ at_root in
      let same : root.page ≡ page = page_same root.page page (sym root.there ∙ root_is) in
      let made : page.made.0 ≡ v.0 = ap (λ (y : Page). y.made.0) (sym same) ∙ root.made in
      record {
        on = (at_root, made, refl);
        there = at_root;
        serves = subst (λ k. page_serves entries k page ≡ true) made (serves_its entries shown.tree.versions page (shown.tree.pages entry.root page at_root).made (shown.ordered entry.root page at_root));
        covers = all_covered page.low page.high key (ap (λ (y : Page). y.low) (sym same) ∙ root.low) (ap (λ (y : Page). y.high) (sym same) ∙ root.high);
      }

  -- each key has a path
  pub whole_path : WholePath entries (laid_over pages under) v entry.root key
  whole_path =
      let root = shown.tree.roots v.0 low_v in
      let at_root : laid_over pages under entry.root ≡ Some root.page = sym (ap (λ (o : Option CatEntry). option_and_then (λ (x : CatEntry). laid_over pages under x.root) o) there) ∙ root.there in
      let w = way_from root.page at_root in
      descends entries under pages v entry.root key low_v shown.tree shown.ordered (height_of root.page.body) entry.root root.page [] w refl (record { there = w.there; level = refl; serves = w.serves; covers = w.covers }, refl)

pub path_found : (entries : List CatEntry) (under : PagesAt) (pages : List Held) (store : Store) (v : VersionNo) (entry : CatEntry) (key : List ℕ) (fuel : ℕ) (path : List Held) → ShowsTree entries (laid_over pages under) store → slice_get entries v.0 ≡ Some entry
    → path_to fuel pages entry.root key [] ≡ Some path → FoundPath entries (laid_over pages under) v entry.root key path
path_found entries under pages store v entry key fuel path shown there e =
    down entries under pages v entry.root key (low_v entries under pages store v entry key shown there) shown.tree shown.ordered fuel entry.root [] path
    (λ page found. way_from entries under pages store v entry key shown there page (ap (λ o. option_or o (under entry.root)) found)) e

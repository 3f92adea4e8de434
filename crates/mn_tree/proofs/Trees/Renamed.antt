-- Pages at other addresses are the same tree.
use Rattle.std.proofs.Common.{◌≡◌, ℕ, ◌+◌, ◌≤◌, true, List, [], ◌∷◌, map, Option, Some, refl, subst, sym, ap, ◌∙◌, slice_get}
use Rattle.std.specs.Prelude.{filter}
use Rattle.std.specs.List.{AllByRecursion}
use Rattle.std.specs.Option.{option_and_then, option_map_or}
use Rattle.std.proofs.lemmas.Option.{option_and_then_some}
use Rattle.std.proofs.lemmas.List.Elements.{filter_agree}
use Rattle.mn_base.specs.Order.{covers_key}
use Rattle.mn_base.specs.Store.{Store, StoreVersion}
use Rattle.mn_base.specs.declared.ids.Addr.{Addr}
use Rattle.mn_base.specs.declared.ids.VersionNo.{VersionNo}
use Rattle.mn_page.specs.declared.entry.CatEntry.{CatEntry}
use Rattle.mn_page.specs.declared.page.Page.{Page}
use Rattle.mn_page.specs.declared.page.Body.{Body}
use Rattle.mn_page.specs.declared.page.Body.TheVariants.{Leaf, Inner}
use Rattle.mn_page.specs.declared.page.Child.{Child}
use Rattle.mn_page.specs.Grammar.{height_of}
use Rattle.mn_page.specs.Forest.{ChildRange, ranges_from, children_of, body_children}
use Rattle.mn_page.specs.Holds.{PagesAt, page_covers, page_serves, root_page, root_height, pairs_in, IsRoot, IsChild, HasVersions, IsOnPath, OneOnPath}
use Rattle.mn_page.specs.Overlay.{child_at}
use Rattle.mn_page.proofs.Copy.{page_same}
use Rattle.mn_tree.specs.Trees.{AreRising, children_after, IsOrdered, ShowsTree}

-- a body whose children stand elsewhere
abbrev pub renamed_body : (Addr → Addr) → Body → Body
renamed_body to (Leaf pairs) = Leaf pairs
renamed_body to (Inner height first rest) = Inner height (to first) (map (λ c. child_at c.separator (to c.addr)) rest)

-- the page at its new address
pub record Moved (to : Addr → Addr) (at : PagesAt) (a : Addr) (p : Page) : Type 0 where
  pub page : Page
  pub there : at (to a) ≡ Some page
  pub made : page.made ≡ p.made
  pub copied : page.copied ≡ p.copied
  pub low : page.low ≡ p.low
  pub high : page.high ≡ p.high
  pub body : page.body ≡ renamed_body to p.body

-- the page that was moved to this address
pub record Came (to : Addr → Addr) (was now : PagesAt) (x : Addr) (q : Page) : Type 0 where
  pub addr : Addr
  pub page : Page
  pub there : was addr ≡ Some page
  pub is : to addr ≡ x
  pub moved : Moved to now addr page

pub record Renames (entries : List CatEntry) (was now : PagesAt) (to : Addr → Addr) : Type 0 where
  pub forth : (a : Addr) (p : Page) → was a ≡ Some p → Moved to now a p
  pub back : (x : Addr) (q : Page) → now x ≡ Some q → Came to was now x q
  pub roots : (v : ℕ) (e : CatEntry) → slice_get entries v ≡ Some e → to e.root ≡ e.root

renamed_level : (to : Addr → Addr) (b : Body) → height_of (renamed_body to b) ≡ height_of b
renamed_level to (Leaf pairs) = refl
renamed_level to (Inner height first rest) = refl

renamed_pairs : (to : Addr → Addr) (b : Body) → pairs_in (renamed_body to b) ≡ pairs_in b
renamed_pairs to (Leaf pairs) = refl
renamed_pairs to (Inner height first rest) = refl

renamed_rising : (to : Addr → Addr) (low : List ℕ) (high : Option (List ℕ)) (b : Body) → AreRising low (children_after b) high → AreRising low (children_after (renamed_body to b)) high
renamed_rising to low high (Leaf pairs) r = r
renamed_rising to low high (Inner height first rest) r = along low rest r
  where
    along : (l : List ℕ) (cs : List Child) → AreRising l cs high → AreRising l (map (λ c. child_at c.separator (to c.addr)) cs) high
    along l [] r = r
    along l (c ∷ cs) r = (r.0, along c.separator cs r.1)

abbrev moved_range : (Addr → Addr) → ChildRange → ChildRange
moved_range to r = record { addr = to r.addr; low = r.low; high = r.high }

renamed_ranges : (to : Addr → Addr) (P Q : ChildRange → Type 0) → ((r : ChildRange) → P r → Q (moved_range to r)) → (low : List ℕ) (high : Option (List ℕ)) (b : Body) → AllByRecursion P (body_children low high b) → AllByRecursion Q (body_children low high (renamed_body to b))
renamed_ranges to P Q more low high (Leaf pairs) all = tt
renamed_ranges to P Q more low high (Inner height first rest) all = along first low rest all
  where
    along : (x : Addr) (l : List ℕ) (cs : List Child) → AllByRecursion P (ranges_from x l cs high) → AllByRecursion Q (ranges_from (to x) l (map (λ c. child_at c.separator (to c.addr)) cs) high)
    along x l [] all = (more (record { addr = x; low = l; high = high }) all.0, tt)
    along x l (c ∷ cs) all = (more (record { addr = x; low = l; high = Some c.separator }) all.0, along c.addr c.separator cs all.1)

module _ (entries : List CatEntry) (was now : PagesAt) (store : Store) (to : Addr → Addr) (shown : ShowsTree entries was store) (by : Renames entries was now to) where
  serves_moved : (a : Addr) (p : Page) (m : Moved to now a p) (w : ℕ) → page_serves entries w m.page ≡ page_serves entries w p
  serves_moved a p m w = ap (λ (made : VersionNo). page_serves entries w (record { seq = m.page.seq; made = made; copied = m.page.copied; low = m.page.low; high = m.page.high; body = m.page.body })) m.made
      ∙ ap (λ c. page_serves entries w (record { seq = m.page.seq; made = p.made; copied = c; low = m.page.low; high = m.page.high; body = m.page.body })) m.copied

  covers_moved : (a : Addr) (p : Page) (m : Moved to now a p) (key : List ℕ) → page_covers key m.page ≡ page_covers key p
  covers_moved a p m key = ap (λ (l : List ℕ). covers_key l m.page.high key) m.low ∙ ap (λ (h : Option (List ℕ)). covers_key p.low h key) m.high

  level_moved : (a : Addr) (p : Page) (m : Moved to now a p) → height_of m.page.body ≡ height_of p.body
  level_moved a p m = ap height_of m.body ∙ renamed_level to p.body

  -- what came to an address is what was moved there
  came_same : (x : Addr) (q : Page) → now x ≡ Some q → (c : Came to was now x q) → c.moved.page ≡ q
  came_same x q there c = page_same c.moved.page q (sym c.moved.there ∙ (ap now c.is ∙ there))

  root_moved : (v : ℕ) → IsRoot entries was v → IsRoot entries now v × (root_height entries now v ≡ root_height entries was v)
  root_moved v root = option_and_then_some (λ (e : CatEntry). was e.root) (slice_get entries v) root.page root.there (λ e there at.
      let m = by.forth e.root root.page at in
      let now_there : root_page entries now v ≡ Some m.page = ap (λ (o : Option CatEntry). option_and_then (λ (y : CatEntry). now y.root) o) there ∙ (ap now (sym (by.roots v e there)) ∙ m.there) in (
        record { page = m.page; there = now_there; made = ap (λ (w : VersionNo). w.0) m.made ∙ root.made; low = m.low ∙ root.low; high = m.high ∙ root.high },
        ap (λ (o : Option Page). option_map_or (λ (p : Page). height_of p.body) o 0) now_there
            ∙ (level_moved e.root root.page m ∙ sym (ap (λ (o : Option Page). option_map_or (λ (p : Page). height_of p.body) o 0) root.there)),
      ))

  path_back : (v height : ℕ) (key : List ℕ) (x : Addr) (q : Page) (is : IsOnPath entries now v height key x q) (c : Came to was now x q) → IsOnPath entries was v height key c.addr c.page
  path_back v height key x q is c =
      let same = came_same x q is.there c in
      record {
        there = c.there;
        level = sym (level_moved c.addr c.page c.moved) ∙ (ap (λ (y : Page). height_of y.body) same ∙ is.level);
        serves = sym (serves_moved c.addr c.page c.moved v) ∙ (ap (page_serves entries v) same ∙ is.serves);
        covers = sym (covers_moved c.addr c.page c.moved key) ∙ (ap (page_covers key) same ∙ is.covers);
      }

  one_moved : (v height : ℕ) (key : List ℕ) → OneOnPath entries was v height key → OneOnPath entries now v height key
  one_moved v height key one =
      let m = by.forth one.addr one.page one.here.there in
      record {
        addr = to one.addr;
        page = m.page;
        here = record { there = m.there; level = level_moved one.addr one.page m ∙ one.here.level; serves = serves_moved one.addr one.page m v ∙ one.here.serves; covers = covers_moved one.addr one.page m key ∙ one.here.covers };
        only = λ x q is.
            let c = by.back x q is.there in
            sym c.is ∙ ap to (one.only c.addr c.page (path_back v height key x q is c));
      }

  versions_moved : (x : Addr) (q : Page) → now x ≡ Some q → HasVersions entries q
  versions_moved x q there =
      let c = by.back x q there in
      let same = came_same x q there c in
      let of = shown.tree.pages c.addr c.page c.there in
      subst (HasVersions entries) same (versions_as c.page c.moved.page c.moved.made c.moved.copied of)
    where
      versions_as : (p r : Page) → r.made ≡ p.made → r.copied ≡ p.copied → HasVersions entries p → HasVersions entries r
      versions_as p r made copied of =
          let as_made : HasVersions entries (record { seq = r.seq; made = r.made; copied = p.copied; low = r.low; high = r.high; body = r.body }) =
          subst (λ (w : VersionNo). HasVersions entries (record { seq = r.seq; made = w; copied = p.copied; low = r.low; high = r.high; body = r.body })) (sym made) (record { made = of.made; copied = of.copied }) in
          subst (λ c. HasVersions entries (record { seq = r.seq; made = r.made; copied = c; low = r.low; high = r.high; body = r.body })) (sym copied) as_made

  ordered_moved : (x : Addr) (q : Page) → now x ≡ Some q → IsOrdered q
  ordered_moved x q there =
      let c = by.back x q there in
      let m = c.moved in
      let of = shown.ordered c.addr c.page c.there in
      subst IsOrdered (came_same x q there c) (ordered_as c.page m.page m.made m.copied m.low m.high m.body of)
    where
      ordered_as : (p r : Page) → r.made ≡ p.made → r.copied ≡ p.copied → r.low ≡ p.low → r.high ≡ p.high → r.body ≡ renamed_body to p.body → IsOrdered p → IsOrdered r
      ordered_as p r made copied low high body of =
          let made_as : IsOrdered (record { seq = r.seq; made = r.made; copied = r.copied; low = p.low; high = p.high; body = p.body }) =
          subst (λ c. IsOrdered (record { seq = r.seq; made = r.made; copied = c; low = p.low; high = p.high; body = p.body })) (sym copied)
          (subst (λ (w : VersionNo). IsOrdered (record { seq = r.seq; made = w; copied = p.copied; low = p.low; high = p.high; body = p.body })) (sym made) (record { rising = of.rising; copied_above = of.copied_above })) in
          record {
            rising = subst (λ (l : List ℕ). AreRising l (children_after r.body) r.high) (sym low)
                (subst (λ (h : Option (List ℕ)). AreRising p.low (children_after r.body) h) (sym high) (subst (λ b. AreRising p.low (children_after b) p.high) (sym body) (renamed_rising to p.low p.high p.body of.rising)));
            copied_above = made_as.copied_above;
          }

  children_moved : (x : Addr) (q : Page) → now x ≡ Some q → AllByRecursion (IsChild entries now q) (children_of q)
  children_moved x q there =
      let c = by.back x q there in
      subst (λ (y : Page). AllByRecursion (IsChild entries now y) (children_of y)) (came_same x q there c) (of_page c.addr c.page c.there c.moved)
    where
      child : (a : Addr) (p : Page) (m : Moved to now a p) (r : ChildRange) → IsChild entries was p r → IsChild entries now m.page (moved_range to r)
      child a p m r is =
          let n = by.forth r.addr is.page is.there in
          record {
            page = n.page;
            there = n.there;
            low = n.low ∙ is.low;
            high = n.high ∙ is.high;
            height = ap (λ k. k + 1) (level_moved r.addr is.page n) ∙ (is.height ∙ sym (level_moved a p m));
            serves = λ w low on. serves_moved r.addr is.page n w ∙ is.serves w low (sym (serves_moved a p m w) ∙ on);
          }

      of_page : (a : Addr) (p : Page) → was a ≡ Some p → (m : Moved to now a p) → AllByRecursion (IsChild entries now m.page) (children_of m.page)
      of_page a p at m =
          subst (λ (l : List ℕ). AllByRecursion (IsChild entries now m.page) (body_children l m.page.high m.page.body)) (sym m.low)
          (subst (λ (h : Option (List ℕ)). AllByRecursion (IsChild entries now m.page) (body_children p.low h m.page.body)) (sym m.high)
          (subst (λ b. AllByRecursion (IsChild entries now m.page) (body_children p.low p.high b)) (sym m.body)
          (renamed_ranges to (IsChild entries was p) (IsChild entries now m.page) (child a p m) p.low p.high p.body (shown.tree.children a p at))))

  leaves_moved : (v : ℕ) (version : StoreVersion) (x : Addr) (q : Page) → slice_get store v ≡ Some version → now x ≡ Some q → height_of q.body ≡ 0 → page_serves entries v q ≡ true → filter (λ pair. page_covers pair.key q) version.pairs ≡ pairs_in q.body
  leaves_moved v version x q found there flat on =
      let c = by.back x q there in
      let m = c.moved in
      let same = came_same x q there c in
      let old = shown.shows.leaves v version c.addr c.page found c.there (sym (level_moved c.addr c.page m) ∙ (ap (λ (y : Page). height_of y.body) same ∙ flat)) (sym (serves_moved c.addr c.page m v) ∙ (ap (page_serves entries v) same ∙ on)) in
      subst (λ (y : Page). filter (λ pair. page_covers pair.key y) version.pairs ≡ pairs_in y.body) same
      (filter_agree (λ pair. page_covers pair.key m.page) (λ pair. page_covers pair.key c.page) (λ pair. covers_moved c.addr c.page m pair.key) version.pairs ∙ (old ∙ sym (ap pairs_in m.body ∙ renamed_pairs to c.page.body)))

  pub renamed_shown : ShowsTree entries now store
  renamed_shown = record {
    tree = record {
      versions = shown.tree.versions;
      roots = λ v low. (root_moved v (shown.tree.roots v low)).0;
      pages = versions_moved;
      partition = λ v height low high key. one_moved v height key (shown.tree.partition v height low (subst (λ k. height ≤ k) (root_moved v (shown.tree.roots v low)).1 high) key);
      no_higher = λ v x q low there on.
          let c = by.back x q there in
          let same = came_same x q there c in
          let least = shown.tree.no_higher v c.addr c.page low c.there (sym (serves_moved c.addr c.page c.moved v) ∙ (ap (page_serves entries v) same ∙ on)) in
          subst (λ k. height_of q.body ≤ k) (sym (root_moved v (shown.tree.roots v low)).1) (subst (λ k. k ≤ root_height entries was v) (sym (level_moved c.addr c.page c.moved) ∙ ap (λ (y : Page). height_of y.body) same) least);
      children = children_moved;
    };
    ordered = ordered_moved;
    shows = record { heads = shown.shows.heads; ascending = shown.shows.ascending; leaves = leaves_moved };
  }

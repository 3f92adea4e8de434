-- A page below the root splits: its left half keeps its place, its right half is new, and its
-- parent gets a further child.
use Rattle.std.proofs.Common.{◌≡◌, ℕ, ◌+◌, ◌<◌, ◌≤◌, ◌⊎◌, inl, inr, Bool, true, false, not, ◌&&◌, List, [], ◌∷◌, ◌++◌, length, Option, Some, None, refl, subst, sym, ap, ◌∙◌, arith, slice_get, if◌then◌else◌}
use Rattle.std.specs.Prelude.{filter}
use Rattle.std.specs.List.{AllByRecursion}
use Rattle.std.specs.Option.{option_and_then, option_map_or, option_to_list}
use Rattle.std.proofs.lemmas.Bool.{and_parts, and_from}
use Rattle.std.proofs.lemmas.Option.{option_and_then_some, slice_get_within}
use Rattle.std.proofs.lemmas.List.Elements.{filter_agree}
use Rattle.mn_base.specs.Order.{key_lt, below_bound}
use Rattle.mn_base.specs.Store.{Store, StoreVersion}
use Rattle.mn_base.specs.declared.ids.Addr.{Addr}
use Rattle.mn_base.specs.declared.ids.VersionNo.{VersionNo}
use Rattle.mn_page.specs.declared.entry.CatEntry.{CatEntry}
use Rattle.mn_page.specs.declared.page.Page.{Page}
use Rattle.mn_page.specs.declared.page.Body.{Body}
use Rattle.mn_page.specs.declared.page.Body.TheVariants.{Leaf, Inner}
use Rattle.mn_page.specs.declared.page.Child.{Child}
use Rattle.mn_page.specs.Grammar.{height_of}
use Rattle.mn_page.specs.Forest.{ChildRange, children_of, body_children}
use Rattle.mn_page.specs.Holds.{PagesAt, page_covers, page_serves, root_page, root_height, pairs_in, IsRoot, IsChild, HasVersions, IsOnPath, OneOnPath}
use Rattle.mn_page.specs.Overlay.{Halves, halves_of, page_with, new_page, rest_with, body_with, child_at}
use Rattle.mn_page.proofs.Grid.{all_at_place, all_split, filter_both}
use Rattle.mn_page.proofs.Added.{addr_cases}
use Rattle.mn_page.proofs.Copy.{page_same}
use Rattle.mn_tree.specs.Trees.{IsOrdered, ShowsTree, IsWritable}
use Rattle.mn_tree.proofs.Trees.Puts.{put, put_here, put_else, stood, now, still, nothing}
use Rattle.mn_tree.proofs.Trees.Twins.{Twin, SameFor, changed_tree, twin_itself, serves_its, serves_one}
use Rattle.mn_tree.proofs.Trees.Ranges.{Cuts, body_cut, body_rising, children_within, cut_range, left_covers, right_covers}
use Rattle.mn_tree.proofs.Trees.Halved.{Halved, halved}
use Rattle.mn_tree.proofs.Trees.Fits.{pairs_fit}
use Rattle.mn_base.specs.Ids.{addr_same}
use Rattle.mn_base.proofs.Booleans.{clash}
use Rattle.mn_base.proofs.Lists.{weaker}

pub same_level : (b : Body) (addr to : Addr) (more : Option Child) → height_of (body_with b addr to more) ≡ height_of b
same_level (Leaf pairs) addr to more = refl
same_level (Inner height first rest) addr to more = cases (addr_same first addr)
  where
    cases : (t : Bool) → height_of (if t then Inner height to (option_to_list more ++ rest) else Inner height first (rest_with rest addr to more)) ≡ height
    cases true = refl
    cases false = refl

-- some child of a page stands at the address
pub record HasChild (p : Page) (addr : Addr) : Type 0 where
  pub place : ℕ
  pub range : ChildRange
  pub there : slice_get (children_of p) place ≡ Some range
  pub is : range.addr ≡ addr

-- the page at a, its parent at q and a free address
pub record CanSplit (entries : List CatEntry) (at : PagesAt) (store : Store) (v : VersionNo) (a q new : Addr) (p par : Page) (h : Halves) : Type 0 where
  pub shown : ShowsTree entries at store
  pub writes : IsWritable entries v.0
  pub there : at a ≡ Some p
  pub made : p.made.0 ≡ v.0
  pub par_there : at q ≡ Some par
  pub par_made : par.made.0 ≡ v.0
  pub free : at new ≡ None
  pub child : HasChild par a
  pub halves : halves_of p.body ≡ Some h

abbrev pub left_page : Page → Halves → Page
left_page p h = page_with p p.low (Some h.separator) h.left

abbrev pub right_page : VersionNo → Page → Halves → Page
right_page v p h = new_page v h.separator p.high h.right

abbrev pub par_page : Addr → Addr → Page → Halves → Page
par_page a new par h = page_with par par.low par.high (body_with par.body a a (Some (child_at h.separator new)))

module _ (entries : List CatEntry) (at : PagesAt) (store : Store) (v : VersionNo) (a q new : Addr) (p par : Page) (h : Halves) where
  abbrev left : Page
  left = left_page p h

  abbrev right : Page
  right = right_page v p h

  abbrev par_now : Page
  par_now = par_page a new par h

  abbrev pages_now : PagesAt
  pages_now = put (put (put at new right) a left) q par_now

  abbrev Can : Type 0
  Can = CanSplit entries at store v a q new p par h

  low_v : Can → v.0 < length entries
  low_v can = slice_get_within entries v.0 can.writes.entry can.writes.there

  -- the child of the parent
  as_child : Can → (r : ChildRange) → r.addr ≡ a → IsChild entries at par r → (r.low ≡ p.low) × (r.high ≡ p.high) × (height_of p.body + 1 ≡ height_of par.body)
  as_child can r e is =
      let same : is.page ≡ p = page_same is.page p (sym is.there ∙ (ap at e ∙ can.there)) in
      (sym is.low ∙ ap (λ (x : Page). x.low) same, sym is.high ∙ ap (λ (x : Page). x.high) same, ap (λ (x : Page). height_of x.body + 1) (sym same) ∙ is.height)

  par_child : (can : Can) → IsChild entries at par can.child.range
  par_child can = all_at_place (IsChild entries at par) (children_of par) can.child.place can.child.range (can.shown.tree.children q par can.par_there) can.child.there

  level : Can → height_of p.body + 1 ≡ height_of par.body
  level can = (as_child can can.child.range can.child.is (par_child can)).2

  par_apart : Can → q ≡ a → ⊥
  par_apart can e =
      let same : par ≡ p = page_same par p (sym can.par_there ∙ (ap at e ∙ can.there)) in
      let flat : height_of par.body ≡ height_of p.body = ap (λ (x : Page). height_of x.body) same in
      let up = level can in absurd (omega arith)

  new_not : Can → (x : Addr) (y : Page) → at x ≡ Some y → new ≡ x → ⊥
  new_not can x y there e = nothing y (at x) (ap at (sym e) ∙ can.free) there

  serves_p : Can → page_serves entries v.0 p ≡ true
  serves_p can = subst (λ k. page_serves entries k p ≡ true) can.made (serves_its entries can.shown.tree.versions p (can.shown.tree.pages a p can.there).made (can.shown.ordered a p can.there))

  serves_par : Can → page_serves entries v.0 par ≡ true
  serves_par can = subst (λ k. page_serves entries k par ≡ true) can.par_made (serves_its entries can.shown.tree.versions par (can.shown.tree.pages q par can.par_there).made (can.shown.ordered q par can.par_there))

  right_ordered : (can : Can) → Halved p.low p.high p.body h → IsOrdered right
  right_ordered can cut = record { rising = cut.right_rising; copied_above = refl }

  serves_right : (can : Can) → Halved p.low p.high p.body h → page_serves entries v.0 right ≡ true
  serves_right can cut = serves_its entries can.shown.tree.versions right (low_v can) (right_ordered can cut)

  only_v : Can → (y : Page) → y.made.0 ≡ v.0 → (w : ℕ) → page_serves entries w y ≡ true → w ≡ v.0
  only_v can y made w on = serves_one entries v.0 can.shown.tree.versions can.writes y made w on

  is_halved : Can → Halved p.low p.high p.body h
  is_halved can = halved p.low p.high p.body h can.halves (can.shown.ordered a p can.there).rising (pairs_fit entries at store v.0 a p can.shown.shows (low_v can) can.there (serves_p can))

  -- Where the pages stand

  data Place (x : Addr) (y : Page) : Type 0 where
    at_par : q ≡ x → y ≡ par_now → Place x y
    at_left : a ≡ x → y ≡ left → Place x y
    at_right : new ≡ x → y ≡ right → Place x y
    kept : (q ≡ x → ⊥) → (a ≡ x → ⊥) → at x ≡ Some y → Place x y

  place : (x : Addr) (y : Page) → pages_now x ≡ Some y → Place x y
  place x y there = elim (stood (put (put at new right) a left) q par_now x y there) as (λ _. Place x y) [
    | now e is ↦ at_par e is
    | still q_off first ↦ elim (stood (put at new right) a left x y first) as (λ _. Place x y) [
      | now e is ↦ at_left e is
      | still a_off second ↦ elim (stood at new right x y second) as (λ _. Place x y) [
        | now e is ↦ at_right e is
        | still new_off third ↦ kept q_off a_off third
      ]
    ]
  ]

  par_is : pages_now q ≡ Some par_now
  par_is = put_here (put (put at new right) a left) q par_now

  left_is : Can → pages_now a ≡ Some left
  left_is can = put_else (put (put at new right) a left) q par_now a (par_apart can) ∙ put_here (put at new right) a left

  right_is : Can → pages_now new ≡ Some right
  right_is can =
      put_else (put (put at new right) a left) q par_now new (λ e. new_not can q par can.par_there (sym e))
      ∙ (put_else (put at new right) a left new (λ e. new_not can a p can.there (sym e)) ∙ put_here at new right)

  kept_is : Can → (x : Addr) (y : Page) → (q ≡ x → ⊥) → (a ≡ x → ⊥) → at x ≡ Some y → pages_now x ≡ Some y
  kept_is can x y q_off a_off there =
      put_else (put (put at new right) a left) q par_now x q_off
      ∙ (put_else (put at new right) a left x a_off ∙ (put_else at new right x (new_not can x y there) ∙ there))

  -- For the other versions nothing changes

  others : Can → (w : ℕ) → w < length entries → (w ≡ v.0 → ⊥) → SameFor entries at pages_now w
  others can w low differ = record { forth = forth; back = back }
    where
      forth : (x : Addr) (y : Page) → at x ≡ Some y → page_serves entries w y ≡ true → Twin entries pages_now w x y
      forth x y there on = elim (addr_cases q x) as (λ _. Twin entries pages_now w x y) [
        | inl e ↦
            let same : par ≡ y = page_same par y (sym can.par_there ∙ (ap at e ∙ there)) in
            absurd (differ (only_v can y (ap (λ (z : Page). z.made.0) (sym same) ∙ can.par_made) w on))
        | inr q_off ↦ elim (addr_cases a x) as (λ _. Twin entries pages_now w x y) [
          | inl e ↦
              let same : p ≡ y = page_same p y (sym can.there ∙ (ap at e ∙ there)) in
              absurd (differ (only_v can y (ap (λ (z : Page). z.made.0) (sym same) ∙ can.made) w on))
          | inr a_off ↦ twin_itself entries pages_now w x y (kept_is can x y q_off a_off there) on
        ]
      ]

      back : (x : Addr) (y : Page) → pages_now x ≡ Some y → page_serves entries w y ≡ true → Twin entries at w x y
      back x y there on = elim (place x y there) as (λ _. Twin entries at w x y) [
        | at_par e is ↦ absurd (differ (only_v can y (ap (λ (z : Page). z.made.0) is ∙ can.par_made) w on))
        | at_left e is ↦ absurd (differ (only_v can y (ap (λ (z : Page). z.made.0) is ∙ can.made) w on))
        | at_right e is ↦ absurd (differ (only_v can y (ap (λ (z : Page). z.made.0) is) w on))
        | kept q_off a_off was ↦ twin_itself entries at w x y was on
      ]

  -- The pages by themselves

  cuts : (can : Can) → Halved p.low p.high p.body h → AllByRecursion (Cuts a (Some (child_at h.separator new))) (children_of par)
  cuts can cut = weaker (IsChild entries at par) (Cuts a (Some (child_at h.separator new))) one (children_of par) (can.shown.tree.children q par can.par_there)
    where
      one : (r : ChildRange) → IsChild entries at par r → Cuts a (Some (child_at h.separator new)) r
      one r is e =
          let of = as_child can r e is in
          (ap (λ (k : List ℕ). key_lt k h.separator) of.0 ∙ cut.above, ap (below_bound h.separator) of.1 ∙ cut.below)

  ordered_now : (can : Can) → Halved p.low p.high p.body h → (x : Addr) (y : Page) → pages_now x ≡ Some y → IsOrdered y
  ordered_now can cut x y there = elim (place x y there) as (λ _. IsOrdered y) [
    | at_par e is ↦ subst IsOrdered (sym is) (record {
      rising = body_rising a a (Some (child_at h.separator new)) par.low par.high par.body (can.shown.ordered q par can.par_there).rising (cuts can cut);
      copied_above = (can.shown.ordered q par can.par_there).copied_above;
    })
    | at_left e is ↦ subst IsOrdered (sym is) (record { rising = cut.left_rising; copied_above = (can.shown.ordered a p can.there).copied_above })
    | at_right e is ↦ subst IsOrdered (sym is) (right_ordered can cut)
    | kept q_off a_off was ↦ can.shown.ordered x y was
  ]

  versions_now : (can : Can) → (x : Addr) (y : Page) → pages_now x ≡ Some y → HasVersions entries y
  versions_now can x y there = elim (place x y there) as (λ _. HasVersions entries y) [
    | at_par e is ↦ let of = can.shown.tree.pages q par can.par_there in subst (HasVersions entries) (sym is) (record { made = of.made; copied = of.copied })
    | at_left e is ↦ let of = can.shown.tree.pages a p can.there in subst (HasVersions entries) (sym is) (record { made = of.made; copied = of.copied })
    | at_right e is ↦ subst (HasVersions entries) (sym is) (record { made = low_v can; copied = tt })
    | kept q_off a_off was ↦ can.shown.tree.pages x y was
  ]

  -- The root

  root_now : (can : Can) → IsRoot entries pages_now v.0 × (root_height entries pages_now v.0 ≡ root_height entries at v.0)
  root_now can =
      let root = can.shown.tree.roots v.0 (low_v can) in
      option_and_then_some (λ (e : CatEntry). at e.root) (slice_get entries v.0) root.page root.there (λ e there was. by_place e there was (addr_cases q e.root) (addr_cases a e.root))
    where
      root : IsRoot entries at v.0
      root = can.shown.tree.roots v.0 (low_v can)

      height_is : root_height entries at v.0 ≡ height_of root.page.body
      height_is = ap (λ (o : Option Page). option_map_or (λ (y : Page). height_of y.body) o 0) root.there

      found : (e : CatEntry) → slice_get entries v.0 ≡ Some e → (y : Page) → pages_now e.root ≡ Some y → root_page entries pages_now v.0 ≡ Some y
      found e there y is = ap (λ (o : Option CatEntry). option_and_then (λ (z : CatEntry). pages_now z.root) o) there ∙ is

      height_now : (y : Page) → root_page entries pages_now v.0 ≡ Some y → height_of y.body ≡ height_of root.page.body → root_height entries pages_now v.0 ≡ root_height entries at v.0
      height_now y is same = ap (λ (o : Option Page). option_map_or (λ (z : Page). height_of z.body) o 0) is ∙ (same ∙ sym height_is)

      by_place : (e : CatEntry) → slice_get entries v.0 ≡ Some e → at e.root ≡ Some root.page → (q ≡ e.root) ⊎ (q ≡ e.root → ⊥) → (a ≡ e.root) ⊎ (a ≡ e.root → ⊥) → IsRoot entries pages_now v.0 × (root_height entries pages_now v.0 ≡ root_height entries at v.0)
      by_place e there was (inl q_is) a_or =
          let same : par ≡ root.page = page_same par root.page (sym can.par_there ∙ (ap at q_is ∙ was)) in
          let is = found e there par_now (ap pages_now (sym q_is) ∙ par_is) in (
            record { page = par_now; there = is; made = can.par_made; low = ap (λ (y : Page). y.low) same ∙ root.low; high = ap (λ (y : Page). y.high) same ∙ root.high },
            height_now par_now is (same_level par.body a a (Some (child_at h.separator new)) ∙ ap (λ (y : Page). height_of y.body) same),
          )
      by_place e there was (inr q_off) (inl a_is) =
          let same : p ≡ root.page = page_same p root.page (sym can.there ∙ (ap at a_is ∙ was)) in
          let top : height_of par.body ≤ root_height entries at v.0 = can.shown.tree.no_higher v.0 q par (low_v can) can.par_there (serves_par can) in
          let flat : height_of p.body ≡ height_of root.page.body = ap (λ (y : Page). height_of y.body) same in
          let up = level can in
          let is = height_is in absurd (omega arith)
      by_place e there was (inr q_off) (inr a_off) =
          let is = found e there root.page (kept_is can e.root root.page q_off a_off was) in
          (record { page = root.page; there = is; made = root.made; low = root.low; high = root.high }, height_now root.page is refl)

  -- Each key has its one page

  left_says : Halved p.low p.high p.body h → (key : List ℕ) → page_covers key left ≡ (page_covers key p && key_lt key h.separator)
  left_says cut key = left_covers p.low h.separator p.high key cut.below

  right_says : Halved p.low p.high p.body h → (key : List ℕ) → page_covers key right ≡ (page_covers key p && not (key_lt key h.separator))
  right_says cut key = right_covers p.low h.separator p.high key cut.above

  par_path : (can : Can) (height : ℕ) (key : List ℕ) → IsOnPath entries pages_now v.0 height key q par_now → IsOnPath entries at v.0 height key q par
  par_path can height key is = record { there = can.par_there; level = sym (same_level par.body a a (Some (child_at h.separator new))) ∙ is.level; serves = is.serves; covers = is.covers }

  -- the page that stood there, and on which side of the separator the key lies
  data Was (height : ℕ) (key : List ℕ) (x : Addr) : Type 0 where
    same_place : (a ≡ x → ⊥) → (y : Page) → IsOnPath entries at v.0 height key x y → Was height key x
    left_of : a ≡ x → key_lt key h.separator ≡ true → IsOnPath entries at v.0 height key a p → Was height key x
    right_of : new ≡ x → key_lt key h.separator ≡ false → IsOnPath entries at v.0 height key a p → Was height key x

  not_true : (b : Bool) → not b ≡ true → b ≡ false
  not_true true e = absurd cc
  not_true false e = refl

  was : (can : Can) → Halved p.low p.high p.body h → (height : ℕ) (key : List ℕ) (x : Addr) (y : Page) → IsOnPath entries pages_now v.0 height key x y → Was height key x
  was can cut height key x y is = elim (place x y is.there) as (λ _. Was height key x) [
    | at_par e same ↦ same_place (λ f. par_apart can (e ∙ sym f)) par
        (subst (λ (z : Addr). IsOnPath entries at v.0 height key z par) e
        (par_path can height key (record { there = par_is; level = ap (λ (z : Page). height_of z.body) (sym same) ∙ is.level; serves = ap (page_serves entries v.0) (sym same) ∙ is.serves; covers = ap (page_covers key) (sym same) ∙ is.covers })))
    | at_left e same ↦
        let both = and_parts (page_covers key p) (key_lt key h.separator) (sym (left_says cut key) ∙ (ap (page_covers key) (sym same) ∙ is.covers)) in
        left_of e both.1 (record { there = can.there; level = sym cut.left_level ∙ (ap (λ (z : Page). height_of z.body) (sym same) ∙ is.level); serves = serves_p can; covers = both.0 })
    | at_right e same ↦
        let both = and_parts (page_covers key p) (not (key_lt key h.separator)) (sym (right_says cut key) ∙ (ap (page_covers key) (sym same) ∙ is.covers)) in
        right_of e (not_true (key_lt key h.separator) both.1) (record { there = can.there; level = sym cut.right_level ∙ (ap (λ (z : Page). height_of z.body) (sym same) ∙ is.level); serves = serves_p can; covers = both.0 })
    | kept q_off a_off old ↦ same_place a_off y (record { there = old; level = is.level; serves = is.serves; covers = is.covers })
  ]

  partition_now : (can : Can) → Halved p.low p.high p.body h → (height : ℕ) → height ≤ root_height entries at v.0 → (key : List ℕ) → OneOnPath entries pages_now v.0 height key
  partition_now can cut height low key = by_place (can.shown.tree.partition v.0 height (low_v can) low key)
    where
      on_left : (one : OneOnPath entries at v.0 height key) → a ≡ one.addr → key_lt key h.separator ≡ true → OneOnPath entries pages_now v.0 height key
      on_left one e side =
          let same : p ≡ one.page = page_same p one.page (sym can.there ∙ (ap at e ∙ one.here.there)) in
          let covers : page_covers key p ≡ true = ap (page_covers key) same ∙ one.here.covers in
          record {
            addr = a;
            page = left;
            here = record {
              there = left_is can;
              level = cut.left_level ∙ (ap (λ (z : Page). height_of z.body) same ∙ one.here.level);
              serves = serves_p can;
              covers = left_says cut key ∙ and_from _ _ covers side;
            };
            only = λ x y is. elim (was can cut height key x y is) as (λ _. x ≡ a) [
              | same_place off z old ↦ one.only x z old ∙ sym e
              | left_of at_a s old ↦ sym at_a
              | right_of at_new s old ↦ absurd (clash (key_lt key h.separator) side s)
            ];
          }

      on_right : (one : OneOnPath entries at v.0 height key) → a ≡ one.addr → key_lt key h.separator ≡ false → OneOnPath entries pages_now v.0 height key
      on_right one e side =
          let same : p ≡ one.page = page_same p one.page (sym can.there ∙ (ap at e ∙ one.here.there)) in
          let covers : page_covers key p ≡ true = ap (page_covers key) same ∙ one.here.covers in
          record {
            addr = new;
            page = right;
            here = record {
              there = right_is can;
              level = cut.right_level ∙ (ap (λ (z : Page). height_of z.body) same ∙ one.here.level);
              serves = serves_right can cut;
              covers = right_says cut key ∙ and_from _ _ covers (ap not side);
            };
            only = λ x y is. elim (was can cut height key x y is) as (λ _. x ≡ new) [
              | same_place off z old ↦ absurd (off (e ∙ sym (one.only x z old)))
              | left_of at_a s old ↦ absurd (clash (key_lt key h.separator) s side)
              | right_of at_new s old ↦ sym at_new
            ];
          }

      elsewhere : (one : OneOnPath entries at v.0 height key) → (a ≡ one.addr → ⊥) → (y : Page) → IsOnPath entries pages_now v.0 height key one.addr y → OneOnPath entries pages_now v.0 height key
      elsewhere one off y here = record {
        addr = one.addr;
        page = y;
        here = here;
        only = λ x z is. elim (was can cut height key x z is) as (λ _. x ≡ one.addr) [
          | same_place a_off u old ↦ one.only x u old
          | left_of at_a s old ↦ absurd (off (one.only a p old))
          | right_of at_new s old ↦ absurd (off (one.only a p old))
        ];
      }

      by_side : (one : OneOnPath entries at v.0 height key) → a ≡ one.addr → (t : Bool) → key_lt key h.separator ≡ t → OneOnPath entries pages_now v.0 height key
      by_side one e true side = on_left one e side
      by_side one e false side = on_right one e side

      by_place : OneOnPath entries at v.0 height key → OneOnPath entries pages_now v.0 height key
      by_place one = elim (addr_cases a one.addr) as (λ _. OneOnPath entries pages_now v.0 height key) [
        | inl e ↦ by_side one e (key_lt key h.separator) refl
        | inr a_off ↦ elim (addr_cases q one.addr) as (λ _. OneOnPath entries pages_now v.0 height key) [
          | inl e ↦
              let same : par ≡ one.page = page_same par one.page (sym can.par_there ∙ (ap at e ∙ one.here.there)) in
              elsewhere one a_off par_now (record {
                there = ap pages_now (sym e) ∙ par_is;
                level = same_level par.body a a (Some (child_at h.separator new)) ∙ (ap (λ (z : Page). height_of z.body) same ∙ one.here.level);
                serves = serves_par can;
                covers = ap (page_covers key) same ∙ one.here.covers;
              })
          | inr q_off ↦
              elsewhere one a_off one.page (record { there = kept_is can one.addr one.page q_off a_off one.here.there; level = one.here.level; serves = one.here.serves; covers = one.here.covers })
        ]
      ]

  no_higher_now : (can : Can) → Halved p.low p.high p.body h → (x : Addr) (y : Page) → pages_now x ≡ Some y → page_serves entries v.0 y ≡ true → height_of y.body ≤ root_height entries at v.0
  no_higher_now can cut x y there on = elim (place x y there) as (λ _. height_of y.body ≤ root_height entries at v.0) [
    | at_par e is ↦ subst (λ k. k ≤ root_height entries at v.0) (sym (same_level par.body a a (Some (child_at h.separator new))) ∙ ap (λ (z : Page). height_of z.body) (sym is)) (can.shown.tree.no_higher v.0 q par (low_v can) can.par_there (serves_par can))
    | at_left e is ↦ subst (λ k. k ≤ root_height entries at v.0) (sym cut.left_level ∙ ap (λ (z : Page). height_of z.body) (sym is)) (can.shown.tree.no_higher v.0 a p (low_v can) can.there (serves_p can))
    | at_right e is ↦ subst (λ k. k ≤ root_height entries at v.0) (sym cut.right_level ∙ ap (λ (z : Page). height_of z.body) (sym is)) (can.shown.tree.no_higher v.0 a p (low_v can) can.there (serves_p can))
    | kept q_off a_off old ↦ can.shown.tree.no_higher v.0 x y (low_v can) old on
  ]

  -- Children

  -- the page has no other parent in the version
  one_parent : (can : Can) (x : Addr) (y : Page) → at x ≡ Some y → page_serves entries v.0 y ≡ true → (r : ChildRange) → page_covers r.low y ≡ true → IsChild entries at y r → r.addr ≡ a → q ≡ x
  one_parent can x y there on r covers is e =
      let same : is.page ≡ p = page_same is.page p (sym is.there ∙ (ap at e ∙ can.there)) in
      let low : r.low ≡ p.low = sym is.low ∙ ap (λ (z : Page). z.low) same in
      let up : height_of p.body + 1 ≡ height_of y.body = ap (λ (z : Page). height_of z.body + 1) (sym same) ∙ is.height in
      let par_low : can.child.range.low ≡ p.low = (as_child can can.child.range can.child.is (par_child can)).0 in
      let par_covers : page_covers p.low par ≡ true =
      ap (λ (k : List ℕ). page_covers k par) (sym par_low)
      ∙ all_at_place (λ s. page_covers s.low par ≡ true) (children_of par) can.child.place can.child.range (children_within par.low par.high par.body (can.shown.ordered q par can.par_there).rising) can.child.there in
      let one = can.shown.tree.partition v.0 (height_of par.body) (low_v can) (can.shown.tree.no_higher v.0 q par (low_v can) can.par_there (serves_par can)) p.low in
      one.only q par (record { there = can.par_there; level = refl; serves = serves_par can; covers = par_covers })
      ∙ sym (one.only x y (record { there = there; level = sym up ∙ level can; serves = on; covers = ap (λ (k : List ℕ). page_covers k y) (sym low) ∙ covers }))

  -- a child below the page stays where it is
  below_stays : (can : Can) (x : Addr) (y : Page) → height_of y.body + 1 ≡ height_of p.body → at x ≡ Some y → pages_now x ≡ Some y
  below_stays can x y under there =
      kept_is can x y
      (λ e. let flat : height_of par.body ≡ height_of y.body = ap (λ (z : Page). height_of z.body) (page_same par y (sym can.par_there ∙ (ap at e ∙ there))) in let up = level can in absurd (omega arith))
      (λ e. let flat : height_of p.body ≡ height_of y.body = ap (λ (z : Page). height_of z.body) (page_same p y (sym can.there ∙ (ap at e ∙ there))) in absurd (omega arith)) there

  left_children : (can : Can) → Halved p.low p.high p.body h → AllByRecursion (IsChild entries pages_now left) (children_of left) × AllByRecursion (IsChild entries pages_now right) (children_of right)
  left_children can cut =
      let all : AllByRecursion (IsChild entries at p) (body_children p.low (Some h.separator) h.left ++ body_children h.separator p.high h.right) = subst (AllByRecursion (IsChild entries at p)) cut.children (can.shown.tree.children a p can.there) in
      let two = all_split (IsChild entries at p) (body_children p.low (Some h.separator) h.left) (body_children h.separator p.high h.right) all in
      (weaker (IsChild entries at p) (IsChild entries pages_now left) on_left (children_of left) two.0, weaker (IsChild entries at p) (IsChild entries pages_now right) on_right (children_of right) two.1)
    where
      on_left : (r : ChildRange) → IsChild entries at p r → IsChild entries pages_now left r
      on_left r is = record { page = is.page; there = below_stays can r.addr is.page is.height is.there; low = is.low; high = is.high; height = is.height ∙ sym cut.left_level; serves = is.serves }

      on_right : (r : ChildRange) → IsChild entries at p r → IsChild entries pages_now right r
      on_right r is = record {
        page = is.page;
        there = below_stays can r.addr is.page is.height is.there;
        low = is.low;
        high = is.high;
        height = is.height ∙ sym cut.right_level;
        serves = λ w low on. subst (λ k. page_serves entries k is.page ≡ true) (sym (only_v can right refl w on)) (is.serves v.0 (low_v can) (serves_p can));
      }

  par_children : (can : Can) → Halved p.low p.high p.body h → AllByRecursion (IsChild entries pages_now par_now) (children_of par_now)
  par_children can cut =
      body_cut a a (Some (child_at h.separator new)) (IsChild entries at par) (IsChild entries pages_now par_now) (record { stays = stays; cut = cut_now; one = one }) par.low par.high par.body (can.shown.ordered q par can.par_there).rising (can.shown.tree.children q par can.par_there)
    where
      keeps : height_of par.body ≡ height_of par_now.body
      keeps = sym (same_level par.body a a (Some (child_at h.separator new)))

      stays : (r : ChildRange) → (r.addr ≡ a → ⊥) → IsChild entries at par r → IsChild entries pages_now par_now r
      stays r off is = record {
        page = is.page;
        there = kept_is can r.addr is.page
            (λ e. let up = is.height in let flat : height_of par.body ≡ height_of is.page.body = ap (λ (z : Page). height_of z.body) (page_same par is.page (sym can.par_there ∙ (ap at e ∙ is.there))) in absurd (omega arith))
            (λ e. off (sym e)) is.there;
        low = is.low;
        high = is.high;
        height = is.height ∙ keeps;
        serves = is.serves;
      }

      cut_now : (r : ChildRange) → r.addr ≡ a → IsChild entries at par r → AllByRecursion (IsChild entries pages_now par_now) (cut_range a (Some (child_at h.separator new)) r)
      cut_now r e is =
          let of = as_child can r e is in (
            record {
              page = left;
              there = left_is can;
              low = sym of.0;
              high = refl;
              height = ap (λ k. k + 1) cut.left_level ∙ (of.2 ∙ keeps);
              serves = λ w low on. subst (λ k. page_serves entries k left ≡ true) (sym (only_v can par_now can.par_made w on)) (serves_p can);
            },
            (
              record {
                page = right;
                there = right_is can;
                low = refl;
                high = sym of.1;
                height = ap (λ k. k + 1) cut.right_level ∙ (of.2 ∙ keeps);
                serves = λ w low on. subst (λ k. page_serves entries k right ≡ true) (sym (only_v can par_now can.par_made w on)) (serves_right can cut);
              },
              tt,
            ),
          )

      one : (r s : ChildRange) → IsChild entries at par r → IsChild entries at par s → r.addr ≡ a → s.addr ≡ a → r.low ≡ s.low
      one r s is other e f = (as_child can r e is).0 ∙ sym (as_child can s f other).0

  other_children : (can : Can) (x : Addr) (y : Page) → (q ≡ x → ⊥) → (a ≡ x → ⊥) → at x ≡ Some y → page_serves entries v.0 y ≡ true → AllByRecursion (IsChild entries pages_now y) (children_of y)
  other_children can x y q_off a_off there on = each (children_of y) (can.shown.tree.children x y there) (children_within y.low y.high y.body (can.shown.ordered x y there).rising)
    where
      child : (r : ChildRange) → IsChild entries at y r → page_covers r.low y ≡ true → IsChild entries pages_now y r
      child r is covers = elim (addr_cases q r.addr) as (λ _. IsChild entries pages_now y r) [
        | inl e ↦
            let same : par ≡ is.page = page_same par is.page (sym can.par_there ∙ (ap at e ∙ is.there)) in
            record {
              page = par_now;
              there = ap pages_now (sym e) ∙ par_is;
              low = ap (λ (z : Page). z.low) same ∙ is.low;
              high = ap (λ (z : Page). z.high) same ∙ is.high;
              height = ap (λ k. k + 1) (same_level par.body a a (Some (child_at h.separator new))) ∙ (ap (λ (z : Page). height_of z.body + 1) same ∙ is.height);
              serves = λ w low s. ap (page_serves entries w) same ∙ is.serves w low s;
            }
        | inr off ↦ elim (addr_cases r.addr a) as (λ _. IsChild entries pages_now y r) [
          | inl e ↦ absurd (q_off (one_parent can x y there on r covers is e))
          | inr away ↦ record { page = is.page; there = kept_is can r.addr is.page off (λ e. away (sym e)) is.there; low = is.low; high = is.high; height = is.height; serves = is.serves }
        ]
      ]

      each : (rs : List ChildRange) → AllByRecursion (IsChild entries at y) rs → AllByRecursion (λ r. page_covers r.low y ≡ true) rs → AllByRecursion (IsChild entries pages_now y) rs
      each [] all within = tt
      each (r ∷ rs) all within = (child r all.0 within.0, each rs all.1 within.1)

  children_now : (can : Can) → Halved p.low p.high p.body h → (x : Addr) (y : Page) → pages_now x ≡ Some y → page_serves entries v.0 y ≡ true → AllByRecursion (IsChild entries pages_now y) (children_of y)
  children_now can cut x y there on = elim (place x y there) as (λ _. AllByRecursion (IsChild entries pages_now y) (children_of y)) [
    | at_par e is ↦ subst (λ (z : Page). AllByRecursion (IsChild entries pages_now z) (children_of z)) (sym is) (par_children can cut)
    | at_left e is ↦ subst (λ (z : Page). AllByRecursion (IsChild entries pages_now z) (children_of z)) (sym is) (left_children can cut).0
    | at_right e is ↦ subst (λ (z : Page). AllByRecursion (IsChild entries pages_now z) (children_of z)) (sym is) (left_children can cut).1
    | kept q_off a_off old ↦ other_children can x y q_off a_off old on
  ]

  -- It shows the same store

  leaves_now : (can : Can) → Halved p.low p.high p.body h → (w : ℕ) (version : StoreVersion) (x : Addr) (y : Page) → slice_get store w ≡ Some version → pages_now x ≡ Some y → height_of y.body ≡ 0 → page_serves entries w y ≡ true
      → filter (λ pair. page_covers pair.key y) version.pairs ≡ pairs_in y.body
  leaves_now can cut w version x y found there flat on = elim (place x y there) as (λ _. filter (λ pair. page_covers pair.key y) version.pairs ≡ pairs_in y.body) [
    | at_par e is ↦
        let high : height_of y.body ≡ height_of par.body = ap (λ (z : Page). height_of z.body) is ∙ same_level par.body a a (Some (child_at h.separator new)) in
        let up = level can in absurd (omega arith)
    | at_left e is ↦
        let at_v : w ≡ v.0 = only_v can y (ap (λ (z : Page). z.made.0) is ∙ can.made) w on in
        let leaf : height_of p.body ≡ 0 = sym cut.left_level ∙ (ap (λ (z : Page). height_of z.body) (sym is) ∙ flat) in
        subst (λ (z : Page). filter (λ pair. page_covers pair.key z) version.pairs ≡ pairs_in z.body) (sym is)
        (filter_agree (λ pair. page_covers pair.key left) (λ pair. page_covers pair.key p && key_lt pair.key h.separator) (λ pair. left_says cut pair.key) version.pairs
        ∙ (sym (filter_both (λ pair. key_lt pair.key h.separator) (λ pair. page_covers pair.key p) version.pairs)
        ∙ (ap (filter (λ pair. key_lt pair.key h.separator)) (shown_leaf at_v leaf) ∙ cut.left_pairs)))
    | at_right e is ↦
        let at_v : w ≡ v.0 = only_v can y (ap (λ (z : Page). z.made.0) is) w on in
        let leaf : height_of p.body ≡ 0 = sym cut.right_level ∙ (ap (λ (z : Page). height_of z.body) (sym is) ∙ flat) in
        subst (λ (z : Page). filter (λ pair. page_covers pair.key z) version.pairs ≡ pairs_in z.body) (sym is)
        (filter_agree (λ pair. page_covers pair.key right) (λ pair. page_covers pair.key p && not (key_lt pair.key h.separator)) (λ pair. right_says cut pair.key) version.pairs
        ∙ (sym (filter_both (λ pair. not (key_lt pair.key h.separator)) (λ pair. page_covers pair.key p) version.pairs)
        ∙ (ap (filter (λ pair. not (key_lt pair.key h.separator))) (shown_leaf at_v leaf) ∙ cut.right_pairs)))
    | kept q_off a_off old ↦ can.shown.shows.leaves w version x y found old flat on
  ]
    where
      shown_leaf : w ≡ v.0 → height_of p.body ≡ 0 → filter (λ pair. page_covers pair.key p) version.pairs ≡ pairs_in p.body
      shown_leaf e leaf = can.shown.shows.leaves w version a p found can.there leaf (subst (λ k. page_serves entries k p ≡ true) (sym e) (serves_p can))

  pub split_below : Can → ShowsTree entries pages_now store
  split_below can =
      let cut = is_halved can in
      let r = root_now can in
      record {
        tree = changed_tree entries at pages_now v.0 (low_v can) can.shown.tree can.shown.ordered (record {
          others = others can;
          ordered = ordered_now can cut;
          pages = versions_now can;
          root = r.0;
          partition = λ height low key. partition_now can cut height (subst (λ k. height ≤ k) r.1 low) key;
          no_higher = λ x y there on. subst (λ k. height_of y.body ≤ k) (sym r.1) (no_higher_now can cut x y there on);
          children = children_now can cut;
        });
        ordered = ordered_now can cut;
        shows = record { heads = can.shown.shows.heads; ascending = can.shown.shows.ascending; leaves = leaves_now can cut };
      }

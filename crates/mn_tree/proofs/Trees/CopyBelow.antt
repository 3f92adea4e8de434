-- A page is copied for a version, below a parent that was made in it: the tree shows the same
-- store.
use Rattle.std.proofs.Common.{◌≡◌, ℕ, ◌+◌, ◌<◌, ◌≤◌, ◌⊎◌, inl, inr, true, false, List, [], ◌∷◌, length, Option, Some, None, refl, subst, sym, ap, ◌∙◌, arith, slice_get}
use Rattle.std.specs.Prelude.{filter, IsTrue}
use Rattle.std.specs.List.{AllByRecursion}
use Rattle.std.specs.Option.{option_and_then, option_map_or}
use Rattle.std.proofs.lemmas.Bool.{and_parts}
use Rattle.std.proofs.lemmas.List.{length-map}
use Rattle.std.proofs.lemmas.Option.{option_and_then_some, slice_get_within}
use Rattle.mn_base.specs.Store.{Store, StoreVersion}
use Rattle.mn_base.specs.Tree.{is_ancestor, parents_of}
use Rattle.mn_base.specs.declared.ids.Addr.{Addr}
use Rattle.mn_base.specs.declared.ids.VersionNo.{VersionNo}
use Rattle.mn_base.proofs.Booleans.{clash}
use Rattle.mn_base.proofs.Lists.{weaker}
use Rattle.mn_page.specs.declared.entry.CatEntry.{CatEntry}
use Rattle.mn_page.specs.declared.page.Page.{Page}
use Rattle.mn_page.specs.Grammar.{height_of}
use Rattle.mn_page.specs.Forest.{ChildRange, children_of, heads_in, entry_head}
use Rattle.mn_page.specs.Holds.{PagesAt, page_covers, page_serves, root_page, root_height, pairs_in, IsRoot, IsChild, HasVersions, IsOnPath, OneOnPath}
use Rattle.mn_page.specs.Overlay.{page_with, new_page, copied_for, body_with}
use Rattle.mn_page.proofs.Grid.{all_at_place}
use Rattle.mn_page.proofs.Added.{addr_cases}
use Rattle.mn_page.proofs.Copy.{page_same}
use Rattle.mn_tree.specs.Trees.{IsOrdered, ShowsTree, IsWritable}
use Rattle.mn_tree.proofs.Trees.Puts.{put, put_here, put_else, stood, now, still, nothing}
use Rattle.mn_tree.proofs.Trees.Twins.{Twin, SameFor, changed_tree, twin_itself, serves_its, serves_one, head_at}
use Rattle.mn_tree.proofs.Trees.Ranges.{Cuts, body_cut, body_rising, children_within, cut_range}
use Rattle.mn_tree.proofs.Trees.SplitBelow.{HasChild, same_level}
use Rattle.mn_tree.proofs.Trees.Joined.{serves_still, serves_no_more, joined_all, joined_above}

-- the page at a was made in another version, and its parent at q in this one
pub record CanCopy (entries : List CatEntry) (at : PagesAt) (store : Store) (v : VersionNo) (a q new : Addr) (p par : Page) : Type 0 where
  pub shown : ShowsTree entries at store
  pub writes : IsWritable entries v.0
  pub there : at a ≡ Some p
  pub other : p.made.0 ≡ v.0 → ⊥
  pub par_there : at q ≡ Some par
  pub par_made : par.made.0 ≡ v.0
  pub free : at new ≡ None
  pub child : HasChild par a

module _ (entries : List CatEntry) (at : PagesAt) (store : Store) (v : VersionNo) (a q new : Addr) (p par : Page) where
  abbrev copy : Page
  copy = new_page v p.low p.high p.body

  abbrev old_now : Page
  old_now = copied_for v p

  abbrev par_now : Page
  par_now = page_with par par.low par.high (body_with par.body a new None)

  abbrev pages_now : PagesAt
  pages_now = put (put (put at new copy) a old_now) q par_now

  abbrev Can : Type 0
  Can = CanCopy entries at store v a q new p par

  low_v : Can → v.0 < length entries
  low_v can = slice_get_within entries v.0 can.writes.entry can.writes.there

  few : Can → v.0 < 64
  few can =
      let low = low_v can in
      let count = can.shown.tree.versions.count in
      let many : length (heads_in entries) ≡ length entries = length-map entries entry_head in omega arith

  as_child : Can → (r : ChildRange) → r.addr ≡ a → IsChild entries at par r → (r.low ≡ p.low) × (r.high ≡ p.high) × (height_of p.body + 1 ≡ height_of par.body)
  as_child can r e is =
      let same : is.page ≡ p = page_same is.page p (sym is.there ∙ (ap at e ∙ can.there)) in
      (sym is.low ∙ ap (λ (x : Page). x.low) same, sym is.high ∙ ap (λ (x : Page). x.high) same, ap (λ (x : Page). height_of x.body + 1) (sym same) ∙ is.height)

  par_child : (can : Can) → IsChild entries at par can.child.range
  par_child can = all_at_place (IsChild entries at par) (children_of par) can.child.place can.child.range (can.shown.tree.children q par can.par_there) can.child.there

  level : Can → height_of p.body + 1 ≡ height_of par.body
  level can = (as_child can can.child.range can.child.is (par_child can)).2

  par_apart : Can → q ≡ a → ⊥
  par_apart can e =
      let same : par ≡ p = page_same par p (sym can.par_there ∙ (ap at e ∙ can.there)) in
      let flat : height_of par.body ≡ height_of p.body = ap (λ (x : Page). height_of x.body) same in
      let up = level can in absurd (omega arith)

  new_not : Can → (x : Addr) (y : Page) → at x ≡ Some y → new ≡ x → ⊥
  new_not can x y there e = nothing y (at x) (ap at (sym e) ∙ can.free) there

  serves_par : Can → page_serves entries v.0 par ≡ true
  serves_par can = subst (λ k. page_serves entries k par ≡ true) can.par_made (serves_its entries can.shown.tree.versions par (can.shown.tree.pages q par can.par_there).made (can.shown.ordered q par can.par_there))

  serves_p : Can → page_serves entries v.0 p ≡ true
  serves_p can =
      let is = par_child can in
      let same : is.page ≡ p = page_same is.page p (sym is.there ∙ (ap at can.child.is ∙ can.there)) in
      subst (λ (y : Page). page_serves entries v.0 y ≡ true) same (is.serves v.0 (low_v can) (serves_par can))

  copy_ordered : Can → IsOrdered copy
  copy_ordered can = record { rising = (can.shown.ordered a p can.there).rising; copied_above = refl }

  serves_copy : Can → page_serves entries v.0 copy ≡ true
  serves_copy can = serves_its entries can.shown.tree.versions copy (low_v can) (copy_ordered can)

  only_v : Can → (y : Page) → y.made.0 ≡ v.0 → (w : ℕ) → page_serves entries w y ≡ true → w ≡ v.0
  only_v can y made w on = serves_one entries v.0 can.shown.tree.versions can.writes y made w on

  -- the old page serves what it served, but for the version
  old_still : (can : Can) (w : ℕ) → (w ≡ v.0 → ⊥) → page_serves entries w old_now ≡ page_serves entries w p
  old_still can w differ =
      serves_still (heads_in entries) can.shown.tree.versions v.0 (entry_head can.writes.entry) (head_at entries v.0 can.writes.entry can.writes.there) can.writes.writable p.made.0 p.copied w differ

  old_off : (can : Can) → page_serves entries v.0 old_now ≡ false
  old_off can =
      serves_no_more (heads_in entries) can.shown.tree.versions v.0 (entry_head can.writes.entry) (head_at entries v.0 can.writes.entry can.writes.there) can.writes.writable p.made.0 p.copied (few can)

  old_not : (can : Can) (w : ℕ) → page_serves entries w old_now ≡ true → w ≡ v.0 → ⊥
  old_not can w on e = clash (page_serves entries v.0 old_now) (subst (λ k. page_serves entries k old_now ≡ true) e on) (old_off can)

  -- Where the pages stand

  data Place (x : Addr) (y : Page) : Type 0 where
    at_par : q ≡ x → y ≡ par_now → Place x y
    at_old : a ≡ x → y ≡ old_now → Place x y
    at_copy : new ≡ x → y ≡ copy → Place x y
    kept : (q ≡ x → ⊥) → (a ≡ x → ⊥) → at x ≡ Some y → Place x y

  place : (x : Addr) (y : Page) → pages_now x ≡ Some y → Place x y
  place x y there = elim (stood (put (put at new copy) a old_now) q par_now x y there) as (λ _. Place x y) [
    | now e is ↦ at_par e is
    | still q_off first ↦ elim (stood (put at new copy) a old_now x y first) as (λ _. Place x y) [
      | now e is ↦ at_old e is
      | still a_off second ↦ elim (stood at new copy x y second) as (λ _. Place x y) [
        | now e is ↦ at_copy e is
        | still new_off third ↦ kept q_off a_off third
      ]
    ]
  ]

  par_is : pages_now q ≡ Some par_now
  par_is = put_here (put (put at new copy) a old_now) q par_now

  old_is : Can → pages_now a ≡ Some old_now
  old_is can = put_else (put (put at new copy) a old_now) q par_now a (par_apart can) ∙ put_here (put at new copy) a old_now

  copy_is : Can → pages_now new ≡ Some copy
  copy_is can =
      put_else (put (put at new copy) a old_now) q par_now new (λ e. new_not can q par can.par_there (sym e))
      ∙ (put_else (put at new copy) a old_now new (λ e. new_not can a p can.there (sym e)) ∙ put_here at new copy)

  kept_is : Can → (x : Addr) (y : Page) → (q ≡ x → ⊥) → (a ≡ x → ⊥) → at x ≡ Some y → pages_now x ≡ Some y
  kept_is can x y q_off a_off there =
      put_else (put (put at new copy) a old_now) q par_now x q_off
      ∙ (put_else (put at new copy) a old_now x a_off ∙ (put_else at new copy x (new_not can x y there) ∙ there))

  others : Can → (w : ℕ) → w < length entries → (w ≡ v.0 → ⊥) → SameFor entries at pages_now w
  others can w low differ = record { forth = forth; back = back }
    where
      forth : (x : Addr) (y : Page) → at x ≡ Some y → page_serves entries w y ≡ true → Twin entries pages_now w x y
      forth x y there on = elim (addr_cases q x) as (λ _. Twin entries pages_now w x y) [
        | inl e ↦
            let same : par ≡ y = page_same par y (sym can.par_there ∙ (ap at e ∙ there)) in
            absurd (differ (only_v can y (ap (λ (z : Page). z.made.0) (sym same) ∙ can.par_made) w on))
        | inr q_off ↦ elim (addr_cases a x) as (λ _. Twin entries pages_now w x y) [
          | inl e ↦
              let same : p ≡ y = page_same p y (sym can.there ∙ (ap at e ∙ there)) in
              record {
                page = old_now;
                there = ap pages_now (sym e) ∙ old_is can;
                serves = old_still can w differ ∙ (ap (page_serves entries w) same ∙ on);
                made = ap (λ (z : Page). z.made.0) same;
                low = ap (λ (z : Page). z.low) same;
                high = ap (λ (z : Page). z.high) same;
                body = ap (λ (z : Page). z.body) same;
              }
          | inr a_off ↦ twin_itself entries pages_now w x y (kept_is can x y q_off a_off there) on
        ]
      ]

      back : (x : Addr) (y : Page) → pages_now x ≡ Some y → page_serves entries w y ≡ true → Twin entries at w x y
      back x y there on = elim (place x y there) as (λ _. Twin entries at w x y) [
        | at_par e is ↦ absurd (differ (only_v can y (ap (λ (z : Page). z.made.0) is ∙ can.par_made) w on))
        | at_old e is ↦ record {
          page = p;
          there = ap at (sym e) ∙ can.there;
          serves = sym (old_still can w differ) ∙ (ap (page_serves entries w) (sym is) ∙ on);
          made = ap (λ (z : Page). z.made.0) (sym is);
          low = ap (λ (z : Page). z.low) (sym is);
          high = ap (λ (z : Page). z.high) (sym is);
          body = ap (λ (z : Page). z.body) (sym is);
        }
        | at_copy e is ↦ absurd (differ (only_v can y (ap (λ (z : Page). z.made.0) is) w on))
        | kept q_off a_off was ↦ twin_itself entries at w x y was on
      ]

  -- The pages by themselves

  made_above : (can : Can) → is_ancestor (parents_of (heads_in entries)) p.made.0 v.0 ≡ true
  made_above can = (and_parts _ _ (serves_p can)).0

  ordered_now : (can : Can) (x : Addr) (y : Page) → pages_now x ≡ Some y → IsOrdered y
  ordered_now can x y there = elim (place x y there) as (λ _. IsOrdered y) [
    | at_par e is ↦ subst IsOrdered (sym is) (record {
      rising = body_rising a new None par.low par.high par.body (can.shown.ordered q par can.par_there).rising (weaker (IsChild entries at par) (Cuts a None) (λ r is e. tt) (children_of par) (can.shown.tree.children q par can.par_there));
      copied_above = (can.shown.ordered q par can.par_there).copied_above;
    })
    | at_old e is ↦ subst IsOrdered (sym is) (record {
      rising = (can.shown.ordered a p can.there).rising;
      copied_above = joined_above (heads_in entries) can.shown.tree.versions v.0 (entry_head can.writes.entry) (head_at entries v.0 can.writes.entry can.writes.there) can.writes.writable p.made.0 p.copied can.other (made_above can)
          (can.shown.ordered a p can.there).copied_above;
    })
    | at_copy e is ↦ subst IsOrdered (sym is) (copy_ordered can)
    | kept q_off a_off was ↦ can.shown.ordered x y was
  ]

  versions_now : (can : Can) (x : Addr) (y : Page) → pages_now x ≡ Some y → HasVersions entries y
  versions_now can x y there = elim (place x y there) as (λ _. HasVersions entries y) [
    | at_par e is ↦ let of = can.shown.tree.pages q par can.par_there in subst (HasVersions entries) (sym is) (record { made = of.made; copied = of.copied })
    | at_old e is ↦
        let of = can.shown.tree.pages a p can.there in
        subst (HasVersions entries) (sym is) (record {
          made = of.made;
          copied = joined_all (heads_in entries) can.shown.tree.versions v.0 (entry_head can.writes.entry) (head_at entries v.0 can.writes.entry can.writes.there) can.writes.writable
              (λ w. (w < length entries) × IsTrue (is_ancestor (parents_of (heads_in entries)) p.made.0 w)) p.copied (low_v can, made_above can) of.copied;
        })
    | at_copy e is ↦ subst (HasVersions entries) (sym is) (record { made = low_v can; copied = tt })
    | kept q_off a_off was ↦ can.shown.tree.pages x y was
  ]

  root_now : (can : Can) → IsRoot entries pages_now v.0 × (root_height entries pages_now v.0 ≡ root_height entries at v.0)
  root_now can = option_and_then_some (λ (e : CatEntry). at e.root) (slice_get entries v.0) root.page root.there (λ e there was. by_place e there was (addr_cases q e.root) (addr_cases a e.root))
    where
      root : IsRoot entries at v.0
      root = can.shown.tree.roots v.0 (low_v can)

      height_is : root_height entries at v.0 ≡ height_of root.page.body
      height_is = ap (λ (o : Option Page). option_map_or (λ (y : Page). height_of y.body) o 0) root.there

      found : (e : CatEntry) → slice_get entries v.0 ≡ Some e → (y : Page) → pages_now e.root ≡ Some y → root_page entries pages_now v.0 ≡ Some y
      found e there y is = ap (λ (o : Option CatEntry). option_and_then (λ (z : CatEntry). pages_now z.root) o) there ∙ is

      height_now : (y : Page) → root_page entries pages_now v.0 ≡ Some y → height_of y.body ≡ height_of root.page.body → root_height entries pages_now v.0 ≡ root_height entries at v.0
      height_now y is same = ap (λ (o : Option Page). option_map_or (λ (z : Page). height_of z.body) o 0) is ∙ (same ∙ sym height_is)

      by_place : (e : CatEntry) → slice_get entries v.0 ≡ Some e → at e.root ≡ Some root.page → (q ≡ e.root) ⊎ (q ≡ e.root → ⊥) → (a ≡ e.root) ⊎ (a ≡ e.root → ⊥) → IsRoot entries pages_now v.0 × (root_height entries pages_now v.0 ≡ root_height entries at v.0)
      by_place e there was (inl q_is) a_or =
          let same : par ≡ root.page = page_same par root.page (sym can.par_there ∙ (ap at q_is ∙ was)) in
          let is = found e there par_now (ap pages_now (sym q_is) ∙ par_is) in (
            record { page = par_now; there = is; made = can.par_made; low = ap (λ (y : Page). y.low) same ∙ root.low; high = ap (λ (y : Page). y.high) same ∙ root.high },
            height_now par_now is (same_level par.body a new None ∙ ap (λ (y : Page). height_of y.body) same),
          )
      by_place e there was (inr q_off) (inl a_is) =
          let same : p ≡ root.page = page_same p root.page (sym can.there ∙ (ap at a_is ∙ was)) in
          absurd (can.other (ap (λ (y : Page). y.made.0) same ∙ root.made))
      by_place e there was (inr q_off) (inr a_off) =
          let is = found e there root.page (kept_is can e.root root.page q_off a_off was) in
          (record { page = root.page; there = is; made = root.made; low = root.low; high = root.high }, height_now root.page is refl)

  -- the page that stood there
  data Was (height : ℕ) (key : List ℕ) (x : Addr) : Type 0 where
    same_place : (a ≡ x → ⊥) → (y : Page) → IsOnPath entries at v.0 height key x y → Was height key x
    moved : new ≡ x → IsOnPath entries at v.0 height key a p → Was height key x

  was : (can : Can) (height : ℕ) (key : List ℕ) (x : Addr) (y : Page) → IsOnPath entries pages_now v.0 height key x y → Was height key x
  was can height key x y is = elim (place x y is.there) as (λ _. Was height key x) [
    | at_par e same ↦ same_place (λ f. par_apart can (e ∙ sym f)) par (record {
      there = ap at (sym e) ∙ can.par_there;
      level = sym (same_level par.body a new None) ∙ (ap (λ (z : Page). height_of z.body) (sym same) ∙ is.level);
      serves = serves_par can;
      covers = ap (page_covers key) (sym same) ∙ is.covers;
    })
    | at_old e same ↦ absurd (clash (page_serves entries v.0 old_now) (ap (page_serves entries v.0) (sym same) ∙ is.serves) (old_off can))
    | at_copy e same ↦ moved e (record { there = can.there; level = ap (λ (z : Page). height_of z.body) (sym same) ∙ is.level; serves = serves_p can; covers = ap (page_covers key) (sym same) ∙ is.covers })
    | kept q_off a_off old ↦ same_place a_off y (record { there = old; level = is.level; serves = is.serves; covers = is.covers })
  ]

  partition_now : (can : Can) (height : ℕ) → height ≤ root_height entries at v.0 → (key : List ℕ) → OneOnPath entries pages_now v.0 height key
  partition_now can height low key = by_place (can.shown.tree.partition v.0 height (low_v can) low key)
    where
      elsewhere : (one : OneOnPath entries at v.0 height key) → (a ≡ one.addr → ⊥) → (y : Page) → IsOnPath entries pages_now v.0 height key one.addr y → OneOnPath entries pages_now v.0 height key
      elsewhere one off y here = record {
        addr = one.addr;
        page = y;
        here = here;
        only = λ x z is. elim (was can height key x z is) as (λ _. x ≡ one.addr) [
          | same_place a_off u old ↦ one.only x u old
          | moved at_new old ↦ absurd (off (one.only a p old))
        ];
      }

      by_place : OneOnPath entries at v.0 height key → OneOnPath entries pages_now v.0 height key
      by_place one = elim (addr_cases a one.addr) as (λ _. OneOnPath entries pages_now v.0 height key) [
        | inl e ↦
            let same : p ≡ one.page = page_same p one.page (sym can.there ∙ (ap at e ∙ one.here.there)) in
            record {
              addr = new;
              page = copy;
              here = record { there = copy_is can; level = ap (λ (z : Page). height_of z.body) same ∙ one.here.level; serves = serves_copy can; covers = ap (page_covers key) same ∙ one.here.covers };
              only = λ x z is. elim (was can height key x z is) as (λ _. x ≡ new) [
                | same_place off u old ↦ absurd (off (e ∙ sym (one.only x u old)))
                | moved at_new old ↦ sym at_new
              ];
            }
        | inr a_off ↦ elim (addr_cases q one.addr) as (λ _. OneOnPath entries pages_now v.0 height key) [
          | inl e ↦
              let same : par ≡ one.page = page_same par one.page (sym can.par_there ∙ (ap at e ∙ one.here.there)) in
              elsewhere one a_off par_now (record {
                there = ap pages_now (sym e) ∙ par_is;
                level = same_level par.body a new None ∙ (ap (λ (z : Page). height_of z.body) same ∙ one.here.level);
                serves = serves_par can;
                covers = ap (page_covers key) same ∙ one.here.covers;
              })
          | inr q_off ↦
              elsewhere one a_off one.page (record { there = kept_is can one.addr one.page q_off a_off one.here.there; level = one.here.level; serves = one.here.serves; covers = one.here.covers })
        ]
      ]

  no_higher_now : (can : Can) (x : Addr) (y : Page) → pages_now x ≡ Some y → page_serves entries v.0 y ≡ true → height_of y.body ≤ root_height entries at v.0
  no_higher_now can x y there on = elim (place x y there) as (λ _. height_of y.body ≤ root_height entries at v.0) [
    | at_par e is ↦ subst (λ k. k ≤ root_height entries at v.0) (sym (same_level par.body a new None) ∙ ap (λ (z : Page). height_of z.body) (sym is)) (can.shown.tree.no_higher v.0 q par (low_v can) can.par_there (serves_par can))
    | at_old e is ↦ absurd (clash (page_serves entries v.0 old_now) (ap (page_serves entries v.0) (sym is) ∙ on) (old_off can))
    | at_copy e is ↦ subst (λ k. k ≤ root_height entries at v.0) (ap (λ (z : Page). height_of z.body) (sym is)) (can.shown.tree.no_higher v.0 a p (low_v can) can.there (serves_p can))
    | kept q_off a_off old ↦ can.shown.tree.no_higher v.0 x y (low_v can) old on
  ]

  -- Children

  one_parent : (can : Can) (x : Addr) (y : Page) → at x ≡ Some y → page_serves entries v.0 y ≡ true → (r : ChildRange) → page_covers r.low y ≡ true → IsChild entries at y r → r.addr ≡ a → q ≡ x
  one_parent can x y there on r covers is e =
      let same : is.page ≡ p = page_same is.page p (sym is.there ∙ (ap at e ∙ can.there)) in
      let low : r.low ≡ p.low = sym is.low ∙ ap (λ (z : Page). z.low) same in
      let up : height_of p.body + 1 ≡ height_of y.body = ap (λ (z : Page). height_of z.body + 1) (sym same) ∙ is.height in
      let par_low : can.child.range.low ≡ p.low = (as_child can can.child.range can.child.is (par_child can)).0 in
      let par_covers : page_covers p.low par ≡ true =
      ap (λ (k : List ℕ). page_covers k par) (sym par_low)
      ∙ all_at_place (λ s. page_covers s.low par ≡ true) (children_of par) can.child.place can.child.range (children_within par.low par.high par.body (can.shown.ordered q par can.par_there).rising) can.child.there in
      let one = can.shown.tree.partition v.0 (height_of par.body) (low_v can) (can.shown.tree.no_higher v.0 q par (low_v can) can.par_there (serves_par can)) p.low in
      one.only q par (record { there = can.par_there; level = refl; serves = serves_par can; covers = par_covers })
      ∙ sym (one.only x y (record { there = there; level = sym up ∙ level can; serves = on; covers = ap (λ (k : List ℕ). page_covers k y) (sym low) ∙ covers }))

  copy_children : (can : Can) → AllByRecursion (IsChild entries pages_now copy) (children_of copy)
  copy_children can = weaker (IsChild entries at p) (IsChild entries pages_now copy) child (children_of p) (can.shown.tree.children a p can.there)
    where
      child : (r : ChildRange) → IsChild entries at p r → IsChild entries pages_now copy r
      child r is = record {
        page = is.page;
        there = kept_is can r.addr is.page
            (λ e. let flat : height_of par.body ≡ height_of is.page.body = ap (λ (z : Page). height_of z.body) (page_same par is.page (sym can.par_there ∙ (ap at e ∙ is.there))) in let up = level can in let under = is.height in absurd (omega arith))
            (λ e. let flat : height_of p.body ≡ height_of is.page.body = ap (λ (z : Page). height_of z.body) (page_same p is.page (sym can.there ∙ (ap at e ∙ is.there))) in let under = is.height in absurd (omega arith)) is.there;
        low = is.low;
        high = is.high;
        height = is.height;
        serves = λ w low on. subst (λ k. page_serves entries k is.page ≡ true) (sym (only_v can copy refl w on)) (is.serves v.0 (low_v can) (serves_p can));
      }

  par_children : (can : Can) → AllByRecursion (IsChild entries pages_now par_now) (children_of par_now)
  par_children can =
      body_cut a new None (IsChild entries at par) (IsChild entries pages_now par_now) (record { stays = stays; cut = cut_now; one = one }) par.low par.high par.body (can.shown.ordered q par can.par_there).rising (can.shown.tree.children q par can.par_there)
    where
      keeps : height_of par.body ≡ height_of par_now.body
      keeps = sym (same_level par.body a new None)

      stays : (r : ChildRange) → (r.addr ≡ a → ⊥) → IsChild entries at par r → IsChild entries pages_now par_now r
      stays r off is = record {
        page = is.page;
        there = kept_is can r.addr is.page
            (λ e. let up = is.height in let flat : height_of par.body ≡ height_of is.page.body = ap (λ (z : Page). height_of z.body) (page_same par is.page (sym can.par_there ∙ (ap at e ∙ is.there))) in absurd (omega arith))
            (λ e. off (sym e)) is.there;
        low = is.low;
        high = is.high;
        height = is.height ∙ keeps;
        serves = is.serves;
      }

      cut_now : (r : ChildRange) → r.addr ≡ a → IsChild entries at par r → AllByRecursion (IsChild entries pages_now par_now) (cut_range new None r)
      cut_now r e is =
          let of = as_child can r e is in (
            record {
              page = copy;
              there = copy_is can;
              low = sym of.0;
              high = sym of.1;
              height = of.2 ∙ keeps;
              serves = λ w low on. subst (λ k. page_serves entries k copy ≡ true) (sym (only_v can par_now can.par_made w on)) (serves_copy can);
            },
            tt,
          )

      one : (r s : ChildRange) → IsChild entries at par r → IsChild entries at par s → r.addr ≡ a → s.addr ≡ a → r.low ≡ s.low
      one r s is other e f = (as_child can r e is).0 ∙ sym (as_child can s f other).0

  other_children : (can : Can) (x : Addr) (y : Page) → (q ≡ x → ⊥) → (a ≡ x → ⊥) → at x ≡ Some y → page_serves entries v.0 y ≡ true → AllByRecursion (IsChild entries pages_now y) (children_of y)
  other_children can x y q_off a_off there on = each (children_of y) (can.shown.tree.children x y there) (children_within y.low y.high y.body (can.shown.ordered x y there).rising)
    where
      child : (r : ChildRange) → IsChild entries at y r → page_covers r.low y ≡ true → IsChild entries pages_now y r
      child r is covers = elim (addr_cases q r.addr) as (λ _. IsChild entries pages_now y r) [
        | inl e ↦
            let same : par ≡ is.page = page_same par is.page (sym can.par_there ∙ (ap at e ∙ is.there)) in
            record {
              page = par_now;
              there = ap pages_now (sym e) ∙ par_is;
              low = ap (λ (z : Page). z.low) same ∙ is.low;
              high = ap (λ (z : Page). z.high) same ∙ is.high;
              height = ap (λ k. k + 1) (same_level par.body a new None) ∙ (ap (λ (z : Page). height_of z.body + 1) same ∙ is.height);
              serves = λ w low s. ap (page_serves entries w) same ∙ is.serves w low s;
            }
        | inr off ↦ elim (addr_cases r.addr a) as (λ _. IsChild entries pages_now y r) [
          | inl e ↦ absurd (q_off (one_parent can x y there on r covers is e))
          | inr away ↦ record { page = is.page; there = kept_is can r.addr is.page off (λ e. away (sym e)) is.there; low = is.low; high = is.high; height = is.height; serves = is.serves }
        ]
      ]

      each : (rs : List ChildRange) → AllByRecursion (IsChild entries at y) rs → AllByRecursion (λ r. page_covers r.low y ≡ true) rs → AllByRecursion (IsChild entries pages_now y) rs
      each [] all within = tt
      each (r ∷ rs) all within = (child r all.0 within.0, each rs all.1 within.1)

  children_now : (can : Can) (x : Addr) (y : Page) → pages_now x ≡ Some y → page_serves entries v.0 y ≡ true → AllByRecursion (IsChild entries pages_now y) (children_of y)
  children_now can x y there on = elim (place x y there) as (λ _. AllByRecursion (IsChild entries pages_now y) (children_of y)) [
    | at_par e is ↦ subst (λ (z : Page). AllByRecursion (IsChild entries pages_now z) (children_of z)) (sym is) (par_children can)
    | at_old e is ↦ absurd (clash (page_serves entries v.0 old_now) (ap (page_serves entries v.0) (sym is) ∙ on) (old_off can))
    | at_copy e is ↦ subst (λ (z : Page). AllByRecursion (IsChild entries pages_now z) (children_of z)) (sym is) (copy_children can)
    | kept q_off a_off old ↦ other_children can x y q_off a_off old on
  ]

  -- It shows the same store

  leaves_now : (can : Can) (w : ℕ) (version : StoreVersion) (x : Addr) (y : Page) → slice_get store w ≡ Some version → pages_now x ≡ Some y → height_of y.body ≡ 0 → page_serves entries w y ≡ true → filter (λ pair. page_covers pair.key y) version.pairs ≡ pairs_in y.body
  leaves_now can w version x y found there flat on = elim (place x y there) as (λ _. filter (λ pair. page_covers pair.key y) version.pairs ≡ pairs_in y.body) [
    | at_par e is ↦
        let high : height_of y.body ≡ height_of par.body = ap (λ (z : Page). height_of z.body) is ∙ same_level par.body a new None in
        let up = level can in absurd (omega arith)
    | at_old e is ↦
        let old_on : page_serves entries w old_now ≡ true = ap (page_serves entries w) (sym is) ∙ on in
        subst (λ (z : Page). filter (λ pair. page_covers pair.key z) version.pairs ≡ pairs_in z.body) (sym is)
        (can.shown.shows.leaves w version a p found can.there (ap (λ (z : Page). height_of z.body) (sym is) ∙ flat) (sym (old_still can w (old_not can w old_on)) ∙ old_on))
    | at_copy e is ↦
        let at_v : w ≡ v.0 = only_v can y (ap (λ (z : Page). z.made.0) is) w on in
        subst (λ (z : Page). filter (λ pair. page_covers pair.key z) version.pairs ≡ pairs_in z.body) (sym is)
        (can.shown.shows.leaves w version a p found can.there (ap (λ (z : Page). height_of z.body) (sym is) ∙ flat) (subst (λ k. page_serves entries k p ≡ true) (sym at_v) (serves_p can)))
    | kept q_off a_off old ↦ can.shown.shows.leaves w version x y found old flat on
  ]

  pub copies_below : Can → ShowsTree entries pages_now store
  copies_below can =
      let r = root_now can in
      record {
        tree = changed_tree entries at pages_now v.0 (low_v can) can.shown.tree can.shown.ordered (record {
          others = others can;
          ordered = ordered_now can;
          pages = versions_now can;
          root = r.0;
          partition = λ height low key. partition_now can height (subst (λ k. height ≤ k) r.1 low) key;
          no_higher = λ x y there on. subst (λ k. height_of y.body ≤ k) (sym r.1) (no_higher_now can x y there on);
          children = children_now can;
        });
        ordered = ordered_now can;
        shows = record { heads = can.shown.shows.heads; ascending = can.shown.shows.ascending; leaves = leaves_now can };
      }

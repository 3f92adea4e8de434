-- What is kept when a page comes in.
use Rattle.std.specs.Prelude.{IfSome, nat_le, ◌&&◌}
use Rattle.std.specs.Option.{option_map, option_map_or}
use Rattle.std.proofs.Common.{◌≡◌, ◌≤◌, ◌^◌, ℕ, List, [], ◌∷◌, length, Bool, true, false, Option, Some, None, refl, sym, ap, subst, ◌∙◌}
use Rattle.mn_base.specs.Tree.{serves}
use Rattle.mn_base.specs.declared.ids.Addr.{Addr}
use Rattle.mn_base.specs.declared.ids.VersionNo.{VersionNo}
use Rattle.mn_base.proofs.Booleans.{both_parts, both_true}
use Rattle.mn_page.specs.Grammar.{height_of}
use Rattle.mn_page.specs.Holds.{page_covers}
use Rattle.mn_path.specs.Walk.{is_below, max_height}
use Rattle.mn_page.specs.declared.page.Page.{Page}
use Rattle.mn_page.specs.Overlay.{Held, held_at, held_with}
use Rattle.mn_tree.specs.declared.draft.Draft.{Draft}
use Rattle.mn_tree.specs.declared.kept.Kept.{Kept}
use Rattle.mn_tree.specs.declared.way.Way.{Way}
use Rattle.mn_tree.specs.Walk.{helds, is_live}
use Rattle.mn_tree.specs.Way.{IsWay, AreHeld, CameTo, may_follow}
use Rattle.mn_tree.specs.Found.{IsMet}
use Rattle.mn_tree.specs.Kept.{IsKept, asked, state_of}
use Rattle.mn_tree.specs.State.{TreeState, Drafted, Wanted, drafted, drafted_with, fits, may_come_in}
use Rattle.mn_tree.proofs.Trees.Puts.{nothing}
use Rattle.mn_tree.proofs.Trees.Tidy.{held_here}
use Rattle.mn_tree.proofs.Trees.StepWrites.{held_past}

module _ (pages : List Held) (addr : Addr) (page : Page) (absent : held_at pages addr ≡ None) where
  -- pages that are held stay
  all_stay : (passed : List Held) → AreHeld pages passed → AreHeld (held_with pages addr page) passed
  all_stay [] held = tt
  all_stay (h ∷ passed) held =
      (held_past pages addr page h.addr (λ e. nothing h.page (held_at pages addr) absent (ap (held_at pages) e ∙ held.0)) ∙ held.0, all_stay passed held.1)

  -- so a walk can go on where it came to
  way_stays : (parents : List (Option ℕ)) (v : ℕ) (root : Addr) (key : Option (List ℕ)) (way : Way) → IfSome key (λ k. IsWay parents v root pages k way) → IfSome key (λ k. IsWay parents v root (held_with pages addr page) k way)
  way_stays parents v root None way come = tt
  way_stays parents v root (Some key) way come = record { passed = come.passed; addrs = come.addrs; held = all_stay come.passed come.held; leads = come.leads }

-- a page that comes in where a walk goes on
module _ (parents : List (Option ℕ)) (v : ℕ) (root : Addr) (k : Kept) (draft : Draft) (way : Way) (page : Page) (absent : held_at (helds k.draft.pages.items) k.way.next ≡ None)
    (added : drafted draft ≡ drafted_with (drafted k.draft) k.way.next page) (kept : IsKept parents v root k) where
  came_with : CameTo parents v root (helds draft.pages.items) k.way
  came_with = subst (λ (pages : List Held). CameTo parents v root pages k.way) (sym (ap (λ (d : Drafted). d.overlay.pages) added)) (way_stays (helds k.draft.pages.items) k.way.next page absent parents v root k.way.key k.way kept.came)

  -- the walk meets it there
  met_with : (key : Option (List ℕ)) → IfSome key (λ key. may_follow parents v key k.way.above page ≡ true)
      → IfSome key (λ key. IsMet parents v (helds draft.pages.items) key k.way (record { addr = k.way.next; page = page }))
  met_with None follows = tt
  met_with (Some key) follows = record {
    addr = refl;
    there = ap (λ (d : Drafted). held_at d.overlay.pages k.way.next) added ∙ held_here (helds k.draft.pages.items) k.way.next page;
    follows = follows;
  }

  pub kept_with : ((pages : List Held) → CameTo parents v root pages k.way → IfSome k.way.key (λ key. IsMet parents v pages key k.way (record { addr = k.way.next; page = page })) → CameTo parents v root pages way)
      → IfSome k.way.key (λ key. may_follow parents v key k.way.above page ≡ true) → IsKept parents v root (record { draft = draft; asks = false; way = way })
  kept_with below follows = record {
    bound = subst (λ (os : List Addr). length os ≤ 2 ^ 16) (sym (ap (λ (d : Drafted). d.origins) added)) kept.bound;
    absent = tt;
    came = below (helds draft.pages.items) came_with (met_with k.way.key follows);
  }

-- what was asked for stands where the way goes on
at_key : (way : Way) (addr : Addr) (key : Option (List ℕ)) → option_map (λ (w : Wanted). w.addr) (option_map (λ k. record { addr = way.next; key = k; above = way.above }) key) ≡ Some addr → way.next ≡ addr
at_key way addr None e = absurd cc
at_key way addr (Some k) e = cc

pub asked_at : (asks : Bool) (way : Way) (addr : Addr) → option_map (λ (w : Wanted). w.addr) (asked asks way) ≡ Some addr → way.next ≡ addr
asked_at false way addr is = absurd cc
asked_at true way addr is = at_key way addr way.key is

pub asked_is : (asks : Bool) (way : Way) (key : List ℕ) → asks ≡ true → way.key ≡ Some key → asked asks way ≡ Some (record { addr = way.next; key = key; above = way.above })
asked_is false way key on is = absurd cc
asked_is true way key on is = ap (λ (o : Option (List ℕ)). option_map (λ k. record { addr = way.next; key = k; above = way.above }) o) is

-- What is known of a page that fits
module _ (parents : List (Option ℕ)) (version : VersionNo) (root : Addr) (d : Drafted) (p : Page) where
  parts_by : (way : Way) (key : Option (List ℕ)) → way.key ≡ key → option_map_or (may_come_in (record { parents = parents; version = version; root = root; draft = d; wanted = None }) p) (option_map (λ k. record { addr = way.next; key = k; above = way.above }) key) false ≡ true
      → IfSome key (λ key. page_covers key p ≡ true) × (is_below way.above (height_of p.body) ≡ true) × IfSome key (λ key. may_follow parents version.0 key way.above p ≡ true)
  unfolding is_live
  parts_by way None is fit = absurd cc
  parts_by way (Some key) is fit =
      let live = both_parts (serves parents p.made.0 p.copied version.0) (page_covers key p && (is_below way.above (height_of p.body) && nat_le (height_of p.body) max_height)) fit in
      let within = both_parts (page_covers key p) (is_below way.above (height_of p.body) && nat_le (height_of p.body) max_height) live.1 in
      let below = both_parts (is_below way.above (height_of p.body)) (nat_le (height_of p.body) max_height) within.1 in
      (within.0, below.0, both_true (is_below way.above (height_of p.body)) (serves parents p.made.0 p.copied version.0 && page_covers key p) below.0 (both_true (serves parents p.made.0 p.copied version.0) (page_covers key p) live.0 within.0))

  pub fits_tells : (asks : Bool) (way : Way) → fits (record { parents = parents; version = version; root = root; draft = d; wanted = asked asks way }) p ≡ true
      → IfSome way.key (λ key. page_covers key p ≡ true) × (is_below way.above (height_of p.body) ≡ true) × IfSome way.key (λ key. may_follow parents version.0 key way.above p ≡ true)
  fits_tells false way fit = absurd cc
  fits_tells true way fit = parts_by way way.key refl fit

-- the same of what is kept, as contracts see it
pub fits_here : (parents : List (Option ℕ)) (version : VersionNo) (root : Addr) (k : Kept) (p q : Page) (s : TreeState) → state_of parents version root k ≡ s → q ≡ p → true ≡ fits s q
    → IfSome k.way.key (λ key. page_covers key p ≡ true) × (is_below k.way.above (height_of p.body) ≡ true) × IfSome k.way.key (λ key. may_follow parents version.0 key k.way.above p ≡ true)
fits_here parents version root k p q s is same fit =
    fits_tells parents version root (drafted k.draft) p k.asks k.way (ap (λ (x : TreeState). fits x p) is ∙ ap (fits s) (sym same) ∙ sym fit)

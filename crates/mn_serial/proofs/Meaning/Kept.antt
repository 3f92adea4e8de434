-- What a client's list shows of the catalog holds of every later store.
use Rattle.std.proofs.Common.{◌≡◌, ℕ, ◌<◌, ◌≤◌, true, List, [], ◌∷◌, ◌++◌, length, Some, refl, subst, sym, ap, ◌∙◌, arith}
use Rattle.std.specs.Prelude.{IsTrue}
use Rattle.mn_base.specs.Store.{Head, Store, heads_of, number_named}
use Rattle.mn_base.specs.History.{store_after}
use Rattle.mn_base.specs.declared.history.Past.{Past}
use Rattle.mn_base.specs.declared.ids.ClientNo.{ClientNo}
use Rattle.mn_base.specs.declared.ids.Addr.{Addr}
use Rattle.mn_mini.specs.Flat.{bytes_in, space_in}
use Rattle.mn_page.specs.declared.page.Page.{Page}
use Rattle.mn_page.specs.declared.entry.CatEntry.{CatEntry}
use Rattle.mn_page.specs.Forest.{page_at, heads_in}
use Rattle.mn_page.specs.Holds.{Holds, page_serves}
use Rattle.mn_runs.specs.declared.entry.Entry.{Entry}
use Rattle.mn_runs.specs.Calls.{client_entries}
use Rattle.mn_runs.specs.Seen.{Place, Seen}
use Rattle.mn_law.specs.Places.{page_place, catalog_place, IsNumbered}
use Rattle.mn_law.specs.Planned.{ContinuesCatalog}
use Rattle.mn_law.specs.Shown.{SeesCatalog, SeesPage, ShowsCatalog}
use Rattle.mn_serial.specs.History.{Placed}
use Rattle.mn_runs.specs.Protocol.{Start, start_nodes, FollowsProtocol}
use Rattle.mn_votes.specs.Laws.{StartsSound}
use Rattle.mn_commits.proofs.Bytes.Step.{flat}
use Rattle.mn_commits.proofs.Bytes.Seen.{StandsIn, seen_is_flat}
use Rattle.mn_plans.proofs.Kept.{serves_kept}
use Rattle.mn_plans.proofs.HoldsOne.{holds_one}
use Rattle.mn_serial.proofs.Settled.Kept.{KeptAt}
use Rattle.mn_serial.proofs.Meaning.Chain.{Chain, Between, chain_between}
use Rattle.mn_serial.proofs.Meaning.Continued.{continues_after}
use Rattle.mn_plans.proofs.Catalogs.{catalog_tells, page_tells}
use Rattle.mn_serial.proofs.Meaning.Splits.{split_deeper, shorter}
use Rattle.mn_serial.proofs.Meaning.Prefixes.{HoldsAt, PlansAt}
use Rattle.mn_runs.proofs.Prefixes.{follows_before}
use Rattle.mn_plans.proofs.Compares.{number_within}

-- a read that stands in a memory, said of its place
pub at_place : (memory : List (List ℕ)) (seen : Seen) (place : Place) → seen.place ≡ place
    → StandsIn memory seen
    → seen.bytes ≡ bytes_in (space_in memory place.node) place.start place.length
at_place memory seen place is stands = subst (λ (p : Place). seen.bytes ≡ bytes_in (space_in memory p.node) p.start p.length) is stands

-- a catalog that was seen where the memory holds a store has the store's heads
pub catalog_heads : (memory : List (List ℕ)) (store : Store) (seen : Seen) (entries : List CatEntry)
    → Holds memory store → StandsIn memory seen → SeesCatalog seen entries
    → heads_in entries ≡ heads_of store
catalog_heads memory store seen entries holds stands sees =
    let same = catalog_tells memory store holds entries sees.2 (sym (at_place memory seen catalog_place sees.0 stands) ∙ sees.3) in
    ap heads_in same ∙ sym holds.shown.heads

-- a page that was seen there stands in the forest
pub page_seen : (memory : List (List ℕ)) (store : Store) (holds : Holds memory store) (seen : Seen) (addr : Addr) (page : Page) → StandsIn memory seen → SeesPage seen addr page → page_at holds.forest addr ≡ Some page
page_seen memory store holds seen addr page stands sees = page_tells memory store holds addr page sees.1.0 (sym (at_place memory seen (page_place addr) sees.0 stands) ∙ sees.1.1)

-- what is known at every place of a log: the operations so far, with the stores between them; and
-- what the places of pages and entries keep
pub record Known (start : Start) (store : Store) (past : List Entry) (placed : List Placed) : Type 0 where
  pub sound : StartsSound start
  pub follows : FollowsProtocol start past
  pub chain : Chain (HoldsAt start past) (PlansAt past) (length past) store 0 placed
  pub contents : (place : Place) → IsNumbered place → place.node.0 < start_nodes start → KeptAt start past place

-- stores that hold at two places: the later one comes from the earlier one by some operations
pub record Later (one other : Store) : Type 0 where
  pub history : List Past
  pub is : store_after one history ≡ other

pub stores_go_on : (start : Start) (store : Store) (past : List Entry) (placed : List Placed)
    → Known start store past placed → (later before later' target : List Entry)
    → past ≡ later ++ before → past ≡ later' ++ target → length before ≤ length target
    → (s t : Store) → Holds (flat start before) s → Holds (flat start target) t → Later s t
stores_go_on start store past placed known later before later' target split split' up s t holds holds' =
    let b : Between (HoldsAt start past) (length before) (length target) =
    chain_between (HoldsAt start past) (PlansAt past) (length past) store 0 placed (length before) (length target) (omega arith) up (shorter past later' target split') known.chain in
    let first : b.0 ≡ s = holds_one (flat start before) b.0 s (b.2 later before split refl) holds in
    let last : store_after b.0 b.1 ≡ t = holds_one (flat start target) (store_after b.0 b.1) t (b.3 later' target split' refl) holds' in
    record { history = b.1; is = ap (λ (x : Store). store_after x b.1) (sym first) ∙ last }

-- some store holds at each place
pub some_store : (start : Start) (store : Store) (past : List Entry) (placed : List Placed)
    → Known start store past placed → (later before : List Entry) → past ≡ later ++ before
    → (s : Store) × Holds (flat start before) s
some_store start store past placed known later before split =
    let b : Between (HoldsAt start past) (length before) (length before) =
    chain_between (HoldsAt start past) (PlansAt past) (length past) store 0 placed (length before) (length before) (omega arith) (omega arith) (shorter past later before split) known.chain in
    (b.0, b.2 later before split refl)

-- a catalog that a client's list shows is continued by every later store
pub catalog_continued : (start : Start) (store : Store) (past : List Entry) (placed : List Placed)
    → Known start store past placed → (later before later' target : List Entry)
    → past ≡ later ++ before → past ≡ later' ++ target
    → length before ≤ length target → (c : ClientNo) (entries : List CatEntry)
    → ShowsCatalog (client_entries c before) entries → (t : Store) → Holds (flat start target) t
    → ContinuesCatalog (heads_in entries) (heads_of t)
catalog_continued start store past placed known later before later' target split split' up c entries (seen, has, sees) t holds =
    let read = seen_is_flat start before c seen known.sound (follows_before start past later before split known.follows) has in
    let newer : List Entry = later ++ (read.1 ++ read.0 ∷ []) in
    let there : past ≡ newer ++ read.2 = split_deeper past later before read.1 read.0 read.2 split read.3 in
    let old = some_store start store past placed known newer read.2 there in
    let short : length read.2 ≤ length before = shorter before (read.1 ++ read.0 ∷ []) read.2 (split_deeper before [] before read.1 read.0 read.2 refl read.3) in
    let on = stores_go_on start store past placed known newer read.2 later' target there split' (omega arith) old.0 t old.1 holds in
    let heads = catalog_heads (flat start read.2) old.0 seen entries old.1 read.6 sees in
    subst (λ (hs : List Head). ContinuesCatalog hs (heads_of t)) (sym heads) (subst (λ (x : Store). ContinuesCatalog (heads_of old.0) (heads_of x)) on.is (continues_after old.0 on.history))

-- serving by the kept catalog is serving by the store's own
pub serves_there : (entries : List CatEntry) (memory : List (List ℕ)) (t : Store) (holds : Holds memory t) (name : List ℕ) (page : Page) (v : ℕ) → ContinuesCatalog (heads_in entries) (heads_of t) → number_named (heads_in entries) name ≡ Some v
    → IsTrue (page_serves entries v page) → page_serves holds.forest.entries v page ≡ true
serves_there entries memory t holds name page v on named serves =
    ap (λ (hs : List Head). Rattle.mn_base.specs.Tree.serves (Rattle.mn_base.specs.Tree.parents_of hs) page.made.0 page.copied v) (sym holds.shown.heads)
    ∙ (serves_kept (heads_in entries) (heads_of t) on page.made.0 page.copied v (number_within (heads_in entries) name v named) ∙ serves)

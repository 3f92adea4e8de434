-- How a transaction of several steps goes on.
use Rattle.std.specs.Prelude.{ℕ, ◌≡◌, ◌+◌, ◌<◌, ◌≤◌, ◌⊎◌, Bool, true, false, not, nat_eq, List, []}
use Rattle.std.specs.Prelude.{◌∷◌, ◌++◌, length, map, take, Option, Some, None, ⊤}
use Rattle.std.specs.Prelude.{MatchOption, Contains, IsTrue, slice_get}
use Rattle.std.specs.List.{AllByRecursion, list_any}
use Rattle.std.specs.Option.{is_some}
use Rattle.byteorder.specs.Endian.{big_bytes}
use Rattle.mn_alloc.specs.Plan.{free_slots, new_slots}
use Rattle.mn_base.specs.Store.{max_versions, step_key}
use Rattle.mn_base.specs.Tree.{parents_of}
use Rattle.mn_base.specs.declared.ids.Addr.{Addr}
use Rattle.mn_base.specs.declared.ids.NodeNo.{NodeNo}
use Rattle.mn_base.specs.declared.ids.VersionNo.{VersionNo}
use Rattle.mn_base.specs.declared.answer.Answer.{Answer}
use Rattle.mn_base.specs.declared.answer.Answer.TheVariants as answer
use Rattle.mn_base.specs.declared.answer.Busy.{Busy}
use Rattle.mn_base.specs.declared.op.Op.TheVariants.{Tx}
use Rattle.mn_base.specs.declared.op.Step.{Step}
use Rattle.mn_base.specs.declared.reply.Reply.{Reply}
use Rattle.mn_base.specs.declared.reply.Reply.TheVariants.{Values, Unmet}
use Rattle.mn_mini.specs.declared.item.Item.TheVariants.{Compare}
use Rattle.mn_mini.specs.Mini.{Mini}
use Rattle.mn_page.specs.declared.page.Page.{Page}
use Rattle.mn_page.specs.declared.entry.CatEntry.{CatEntry}
use Rattle.mn_page.specs.Forest.{heads_in}
use Rattle.mn_page.specs.Grammar.{IsEntry, SpellsPage, entry_bytes, height_of, page_bytes}
use Rattle.mn_page.specs.Overlay.{Held}
use Rattle.mn_page.specs.Space.{count_size, count_start, entry_start, max_slots, slot_start}
use Rattle.mn_tree.specs.State.{IsWanted, TreeState, fits, new_state, stepped, with_page}
use Rattle.mn_tree.specs.declared.stepped.Stepped.{Stepped}
use Rattle.mn_tree.specs.MoveLaws.{IsStep}
use Rattle.mn_tree.specs.Moves.{Move, comes_in}
use Rattle.mn_tree.specs.Tries.{ComeTo, EndsUnmet}
use Rattle.mn_tree.specs.declared.stepped.Stepped.TheVariants as steps
use Rattle.mn_runs.specs.declared.entry.Entry.{Entry}
use Rattle.mn_runs.specs.Clients.{is_plan}
use Rattle.mn_law.specs.Places.{number_size}
use Rattle.mn_law.specs.Planned.{IsPlanned}
use Rattle.mn_txn.specs.Attempt.{Attempt as Tried, IsAttempt}
use Rattle.mn_txn.specs.AttemptPlan.{done_items, unmet_items}
use Rattle.mn_txn.specs.Tries.{IsWornPage}
use Rattle.mn_txn.specs.declared.attempt.Tried.{Tried as Told}
use Rattle.mn_txn.specs.declared.seen.SeenPage.{SeenPage}
use Rattle.mn_txn.specs.Seen.{seen_as, seen_at}
use Rattle.mn_work.specs.declared.attempt.Attempt.{Attempt}
use Rattle.mn_work.specs.declared.attempt.Reached.{Reached}
use Rattle.mn_work.specs.declared.attempt.Reached.TheVariants as reached
use Rattle.mn_work.specs.declared.known.Known.{Known}
use Rattle.mn_work.specs.declared.next.Next.{Next}
use Rattle.mn_work.specs.declared.next.Taken.{Taken}
use Rattle.mn_work.specs.Among.{FaultIsMet}
use Rattle.mn_work.specs.Counts.{TakesCount}
use Rattle.mn_work.specs.Last.{CacheIsLast, CatalogIsLast, PagesAreLast}
use Rattle.mn_work.specs.Seen.{SpellsNone}
use Rattle.mn_work.specs.Walks.{Admits}

-- How far it has come

-- no page was read yet
pub record IsBegun (parents : List (Option ℕ)) (version : VersionNo) (root : Addr) (a : Attempt)
    : Type 0 where
  pub version_is : a.version ≡ version
  pub root_is : a.root ≡ root
  pub overlay : a.overlay ≡ new_state parents version root
  pub pages : a.pages.items ≡ []
  pub found : a.found.items ≡ []
  pub done : a.done ≡ 0
  pub counts : a.counts.items ≡ []

-- by this catalog it has come so far: its steps before the next one are done, on the pages that
-- came in, and have found this; the counts of the first nodes were read
pub record IsUnderWay (nodes : ℕ) (entries : List CatEntry) (all : List Step) (a : Attempt)
    : Type 0 where
  pub name : List ℕ
  pub admits : Admits entries (Tx name all) a.version a.root
  pub entry : IsEntry admits.entry
  pub early : a.version.0 < max_versions
  pub right : AllByRecursion IsStep all
  pub some : 1 ≤ length all
  pub many : length all ≤ 16
  pub parents : a.overlay.parents ≡ parents_of (heads_in entries)
  pub version : a.overlay.version ≡ a.version
  pub root : a.overlay.root ≡ a.root
  pub moves : List Move
  pub came : List Held
  pub come : ComeTo (parents_of (heads_in entries)) a.version a.root moves a.overlay.draft came
      (take a.done all) a.found.items
  pub pages : a.pages.items ≡ map seen_as came
  pub within : AllByRecursion (λ h. h.addr.node.0 < nodes) came
  pub low : a.done ≤ length all
  pub few : length a.counts.items ≤ nodes
  pub given : AllByRecursion (λ count. count ≤ max_slots) a.counts.items

abbrev pub IsOnItsWay : Known → List Step → Attempt → Type 0
IsOnItsWay known all a =
    MatchOption known.catalog ⊥ (λ entries. IsUnderWay known.nodes entries all a)

-- the version and where its root stands stay
abbrev pub KeepsVersion : Attempt → Attempt → Type 0
KeepsVersion before after = (after.version ≡ before.version) × (after.root ≡ before.root)

-- What it wants

-- the next step
abbrev pub IsNextStep : List Step → Attempt → Step → Type 0
IsNextStep all a step = slice_get all a.done ≡ Some step

-- the next step has asked for the page at this address
pub record Asks (all : List Step) (a : Attempt) (addr : Addr) : Type 0 where
  pub step : Step
  pub next : IsNextStep all a step
  pub answer : (stepped a.overlay step).answer ≡ steps.Need addr
  pub state : (stepped a.overlay step).state ≡ a.overlay
  pub wanted : IsWanted a.overlay addr

-- the walk of the next step can't go on: at a page at fault, or on a node that there is not
pub record IsStuck (nodes : ℕ) (all : List Step) (a : Attempt) : Type 0 where
  pub step : Step
  pub next : IsNextStep all a step
  pub addr : Addr
  pub met : ((stepped a.overlay step).answer ≡ steps.BadPath addr)
      ⊎ (((stepped a.overlay step).answer ≡ steps.Need addr) × (nodes ≤ addr.node.0))

-- the cause is a fault that the walk for the key of the next step meets among the pages as read
pub record IsCause (nodes : ℕ) (entries : List CatEntry) (all : List Step) (a : Attempt)
    (busy : Busy) : Type 0 where
  pub step : Step
  pub next : IsNextStep all a step
  pub met : FaultIsMet nodes entries a.version (step_key step) a.root a.pages.items (Some busy)

-- all steps are done, and the counts were read, if there are new pages
abbrev pub HasAll : ℕ → List Step → Attempt → Type 0
HasAll nodes all a =
    (a.done ≡ length all) × (1 ≤ a.overlay.draft.overlay.fresh → length a.counts.items ≡ nodes)

-- there are too few slots
abbrev pub IsShort : Attempt → ℕ → ℕ → Type 0
IsShort a need free =
    (need ≡ a.overlay.draft.overlay.fresh) × (free ≡ free_slots a.counts.items) × (free < need)

-- what was tried, on its way by this catalog
abbrev pub tried : (nodes : ℕ) (entries : List CatEntry) (all : List Step) (a : Attempt)
    → IsUnderWay nodes entries all a → Tried
tried nodes entries all a way = record {
  name = way.name;
  version = a.version;
  entry = way.admits.entry;
  steps = all;
  moves = way.moves;
  draft = a.overlay.draft;
  reply = Values a.found.items;
  counts = a.counts.items;
  slots = new_slots a.overlay.draft.overlay.fresh a.counts.items;
}

-- a page that it changed was read with the last number, at this place
abbrev pub IsWorn : ℕ → List CatEntry → List Step → Attempt → NodeNo → ℕ → Type 0
IsWorn nodes entries all a node start =
    (way : IsUnderWay nodes entries all a) → IsWornPage (tried nodes entries all a way) node start

-- a page was read at one of these slots
abbrev pub was_read : List SeenPage → List Addr → Bool
was_read pages slots = list_any (λ slot. is_some (seen_at pages slot)) slots

-- so it was at a slot that the counts have free: no run gives such replies
abbrev pub IsReadSlot : Attempt → Type 0
IsReadSlot a =
    was_read a.pages.items (new_slots a.overlay.draft.overlay.fresh a.counts.items) ≡ true

-- why a try fails without a cause
abbrev pub FailsUntold : ℕ → List Step → Attempt → Type 0
FailsUntold nodes all a = IsStuck nodes all a ⊎ (HasAll nodes all a × IsReadSlot a)

-- the last page that came in was kept, for its next step, which can't go on at it
pub record IsUnfit (all : List Step) (a : Attempt) : Type 0 where
  pub step : Step
  pub next : IsNextStep all a step
  pub addr : Addr
  pub need : (stepped a.overlay step).answer ≡ steps.Need addr
  pub page : Page
  pub unfit : fits a.overlay page ≡ false
  pub older : List SeenPage
  pub leaf : Bool
  pub last : a.pages.items
      ≡ older ++ record { addr = addr; bytes = page_bytes page; leaf = leaf } ∷ []

-- the plan does what the transaction does with this reply, by whatever name the catalog has its
-- version, for a client whose list has shown last the catalog and the pages that came in
abbrev pub DoesSteps : List CatEntry → List Step → Attempt → Reply → Mini → Type 0
DoesSteps entries all a reply mini =
    (name : List ℕ) (es : List Entry) → Admits entries (Tx name all) a.version a.root
    → CatalogIsLast es entries → PagesAreLast es a.pages.items
    → IsPlanned es (heads_in entries) (Tx name all) mini reply

-- the try read the page there, with bytes that begin so
pub record IsPageRead (a : Attempt) (n : NodeNo) (start : ℕ) (bytes : List ℕ) : Type 0 where
  pub page : SeenPage
  pub among : Contains a.pages.items page
  pub node_is : page.addr.node ≡ n
  pub start_is : slot_start page.addr.slot ≡ start
  pub bytes_are : take number_size page.bytes ≡ bytes

-- its catalog, which each node has, has the version's entry there, which begins so
pub record IsEntryRead (entries : List CatEntry) (a : Attempt) (start : ℕ) (bytes : List ℕ)
    : Type 0 where
  pub entry : CatEntry
  pub there : slice_get entries a.version.0 ≡ Some entry
  pub start_is : entry_start a.version.0 ≡ start
  pub bytes_are : take number_size (entry_bytes entry) ≡ bytes

-- it read the node's count there, which is this one
pub record IsCountRead (a : Attempt) (n : NodeNo) (start : ℕ) (bytes : List ℕ) : Type 0 where
  pub count : ℕ
  pub there : slice_get a.counts.items n.0 ≡ Some count
  pub start_is : count_start ≡ start
  pub bytes_are : big_bytes count_size count ≡ bytes

-- the try went by these bytes
abbrev pub IsReadAt : List CatEntry → Attempt → NodeNo → ℕ → List ℕ → Type 0
IsReadAt entries a n start bytes =
    IsPageRead a n start bytes ⊎ IsEntryRead entries a start bytes ⊎ IsCountRead a n start bytes

-- so it did by all that the plan compares
abbrev pub ComparesRead : List CatEntry → Attempt → Mini → Type 0
ComparesRead entries a mini =
    (n : NodeNo) (start : ℕ) (bytes : List ℕ) → Contains mini.items (Compare n start bytes)
    → IsReadAt entries a n start bytes

-- its new pages take the next slots by the counts that it read, and by those alone
abbrev pub TakesSlots : Attempt → Tried → Type 0
TakesSlots a t =
    (t.slots ≡ new_slots t.draft.overlay.fresh a.counts.items)
    × ((t.counts ≡ a.counts.items) ⊎ (t.slots ≡ []))

-- where its Checks are met it compares all that the steps went by, and writes the pages that they
-- changed; where one is unmet it compares leaves, and writes nothing
abbrev pub IsMadeOf : ℕ → Attempt → Tried → Reply → Mini → Type 0
IsMadeOf nodes a t (Values found) mini = TakesSlots a t × (mini ≡ done_items nodes t)
IsMadeOf nodes a t (Unmet step found) mini = mini ≡ unmet_items nodes t
IsMadeOf nodes a t other mini = ⊥

-- the plan is just what its steps, made on the pages that came in and on no others, ask for
pub record IsPlanMade (nodes : ℕ) (entries : List CatEntry) (all : List Step) (a : Attempt)
    (reply : Reply) (mini : Mini) : Type 0 where
  pub tried : Tried
  pub is : IsAttempt (heads_in entries) nodes tried
  pub version : tried.version ≡ a.version
  pub entry : slice_get entries a.version.0 ≡ Some tried.entry
  pub steps : tried.steps ≡ all
  pub reply_is : tried.reply ≡ reply
  pub came : a.pages.items ≡ map seen_as (comes_in tried.moves)
  pub made : IsMadeOf nodes a tried reply mini

-- the plan that it wants: over all nodes, of compares and writes alone
pub record IsPlanWanted (nodes : ℕ) (entries : List CatEntry) (all : List Step) (a : Attempt)
    (reply : Reply) (mini : Mini) : Type 0 where
  pub made : IsPlanMade nodes entries all a reply mini
  pub does : DoesSteps entries all a reply mini
  pub compares : ComparesRead entries a mini
  pub nodes_are : mini.nodes ≡ nodes
  pub plan : IsTrue (is_plan mini.items)

-- the answer of a later try: there are too few slots, or there are enough and a page is worn
abbrev pub IsAnsweredAs : ℕ → List CatEntry → List Step → Attempt → Answer → Type 0
IsAnsweredAs nodes entries all a (answer.Full need free) = IsShort a need free
IsAnsweredAs nodes entries all a (answer.Worn node start) =
    (1 ≤ a.overlay.draft.overlay.fresh
    → a.overlay.draft.overlay.fresh ≤ free_slots a.counts.items)
    × IsWorn nodes entries all a node start
IsAnsweredAs nodes entries all a other = ⊥

-- why only a first try fails: it goes by kept pages, and fails where a later one is answered
abbrev pub FailsFirst : ℕ → List CatEntry → List Step → Attempt → Type 0
FailsFirst nodes entries all a =
    IsUnfit all a
    ⊎ (HasAll nodes all a × ((answer : Answer) × IsAnsweredAs nodes entries all a answer))

-- what it wants next, by these entries
abbrev pub WantsBy : ℕ → List CatEntry → Bool → List Step → Attempt → Next → Type 0
WantsBy nodes entries later all a (Next.Page addr peek) =
    Asks all a addr × (addr.node.0 < nodes) × (peek ≡ not later)
WantsBy nodes entries later all a (Next.Count node peek) =
    (a.done ≡ length all) × (1 ≤ a.overlay.draft.overlay.fresh)
    × (node.0 ≡ length a.counts.items) × (node.0 < nodes) × (peek ≡ not later)
WantsBy nodes entries later all a (Next.Plan mini reply) =
    IsPlanWanted nodes entries all a reply mini
WantsBy nodes entries later all a (Next.Answers answer) =
    (later ≡ true) × HasAll nodes all a × IsAnsweredAs nodes entries all a answer
WantsBy nodes entries later all a (Next.Fails (Some cause)) =
    (later ≡ true) × IsStuck nodes all a × IsCause nodes entries all a cause
WantsBy nodes entries later all a (Next.Fails None) =
    FailsUntold nodes all a ⊎ ((later ≡ false) × FailsFirst nodes entries all a)
WantsBy nodes entries later all a Next.Catalog = ⊥

abbrev pub WantsNext : Known → Bool → List Step → Attempt → Next → Type 0
WantsNext known later all a next =
    MatchOption known.catalog ⊥ (λ entries. WantsBy known.nodes entries later all a next)

-- it goes on as it has come, unless it ends; where it is answered it has come so far too
abbrev pub StaysOnItsWay : Known → List Step → Attempt → Next → Type 0
StaysOnItsWay known all a (Next.Page addr peek) = IsOnItsWay known all a
StaysOnItsWay known all a (Next.Count node peek) = IsOnItsWay known all a
StaysOnItsWay known all a (Next.Answers answer) = IsOnItsWay known all a
StaysOnItsWay known all a next = ⊤

-- a fault that is found is one of the pages as read; the first try tells none
abbrev pub IsFault : Known → Bool → Attempt → List ℕ → Option Busy → Type 0
IsFault known later a key None = ⊤
IsFault known later a key (Some busy) =
    (later ≡ true)
    × MatchOption known.catalog ⊥
    (λ entries. FaultIsMet known.nodes entries a.version key a.root a.pages.items (Some busy))

-- whatever fault its walk meets, it may fail by that cause
abbrev pub MayFail : Known → Bool → List Step → Attempt → Type 0
MayFail known later all a =
    (step : Step) (cause : Option Busy) → IsNextStep all a step
    → IsFault known later a (step_key step) cause → WantsNext known later all a (Next.Fails cause)

-- what became of the page that its next step needs: a kept one came in, in a first try, or it has
-- to be read, or the try may fail by it
abbrev pub ReachesOn : Known → Bool → List Step → Addr → Attempt → Reached → Type 0
ReachesOn known later all addr a reached.Came = (later ≡ false) × IsOnItsWay known all a
ReachesOn known later all addr a reached.Needed =
    WantsNext known later all a (Next.Page addr (not later)) × IsOnItsWay known all a
ReachesOn known later all addr a reached.Unfit = MayFail known later all a

-- where a page came in, it was an inner one, at which the step goes on
abbrev pub ComesInner : Addr → Attempt → Attempt → Reached → Type 0
ComesInner addr before after reached.Came =
    (page : Page) × (1 ≤ height_of page.body) × (fits before.overlay page ≡ true)
    × (after.overlay ≡ with_page before.overlay addr page)
ComesInner addr before after other = ⊤

-- the same try over another state of its tree
abbrev pub with_overlay : Attempt → TreeState → Attempt
with_overlay a s = record {
  version = a.version;
  root = a.root;
  overlay = s;
  pages = a.pages;
  found = a.found;
  done = a.done;
  counts = a.counts;
}

-- its next step was made on the state of its tree before, and has this answer
pub record HasStepped (known : Known) (all : List Step) (a : Attempt) (answer : Stepped) : Type 0
  where
    pub before : TreeState
    pub way : IsOnItsWay known all (with_overlay a before)
    pub step : Step
    pub next : IsNextStep all a step
    pub answer_is : (stepped before step).answer ≡ answer
    pub state : a.overlay ≡ (stepped before step).state

-- the answer needs no page
abbrev pub NeedsNone : Stepped → Type 0
NeedsNone (steps.Need addr) = ⊥
NeedsNone answer = ⊤

-- no page is to be read next
abbrev pub NamesNoPage : Option Next → Type 0
NamesNoPage (Some (Next.Page addr peek)) = ⊥
NamesNoPage next = ⊤

abbrev pub IsFailure : Next → Type 0
IsFailure (Next.Fails cause) = ⊤
IsFailure next = ⊥

-- what came of the next step's run: it is done, or it can't go on
abbrev pub RunsOn : Known → Bool → List Step → Attempt → Option Next → Type 0
RunsOn known later all a None = IsOnItsWay known all a
RunsOn known later all a (Some next) =
    WantsNext known later all a next × StaysOnItsWay known all a next

-- the next step alone is done
abbrev pub RunsFurther : Attempt → Attempt → Option Next → Type 0
RunsFurther before after None = after.done ≡ before.done + 1
RunsFurther before after (Some next) = ⊤

-- whichever list has shown last what is cached and the pages that came in, it has so still
abbrev pub StaysLast : List (Addr × Page) → Attempt → Attempt → Type 0
StaysLast pages before after =
    (es : List Entry) → CacheIsLast es pages → PagesAreLast es before.pages.items
    → PagesAreLast es after.pages.items

-- Inside

-- the page came in
abbrev pub HasCome : Attempt → Addr → List ℕ → Bool → Attempt → Type 0
HasCome before addr bytes leaf after =
    after.pages.items
    ≡ before.pages.items ++ record { addr = addr; bytes = bytes; leaf = leaf } ∷ []

-- a page that was asked for came in: the step goes on at it, or it doesn't fit
abbrev pub ComesIn : Attempt → Addr → Page → Attempt → Bool → Type 0
ComesIn before addr page after goes =
    HasCome before addr (page_bytes page) (nat_eq (height_of page.body) 0) after
    × (fits before.overlay page ≡ goes)
    × (goes ≡ true → after.overlay ≡ with_page before.overlay addr page)
    × (goes ≡ false → after.overlay ≡ before.overlay)

-- only its pages may differ
abbrev pub KeepsSteps : Attempt → Attempt → Type 0
KeepsSteps before after =
    KeepsVersion before after × (after.found ≡ before.found) × (after.done ≡ before.done)
    × (after.counts ≡ before.counts)

-- what a plan is made of
abbrev pub IsTold : ℕ → CatEntry → List Step → Attempt → Told → Type 0
IsTold nodes entry all a r =
    (r.nodes ≡ nodes) × (r.version ≡ a.version) × (r.entry ≡ entry) × (r.steps.now ≡ all)
    × (r.pages.now ≡ a.pages.items) × (r.read_set.now ≡ a.overlay.draft.read)

-- its next step is a Check that is unmet: by this catalog the moves before it led to the draft
pub record IsUnmet (nodes : ℕ) (entries : List CatEntry) (all : List Step) (a : Attempt)
    (found : Option (List ℕ)) : Type 0 where
  pub name : List ℕ
  pub admits : Admits entries (Tx name all) a.version a.root
  pub entry : IsEntry admits.entry
  pub early : a.version.0 < max_versions
  pub right : AllByRecursion IsStep all
  pub some : 1 ≤ length all
  pub many : length all ≤ 16
  pub step : Step
  pub next : IsNextStep all a step
  pub moves : List Move
  pub came : List Held
  pub ends : EndsUnmet (parents_of (heads_in entries)) a.version a.root moves a.overlay.draft came
      (take a.done all) step found
  pub pages : a.pages.items ≡ map seen_as came
  pub within : AllByRecursion (λ h. h.addr.node.0 < nodes) came

abbrev pub HasUnmet : Known → List Step → Attempt → Option (List ℕ) → Type 0
HasUnmet known all a found =
    MatchOption known.catalog ⊥ (λ entries. IsUnmet known.nodes entries all a found)

-- the counts of all nodes were read, and leave enough slots; or there are none to take
abbrev pub HasCounts : Known → Attempt → List ℕ → List Addr → Type 0
HasCounts known a counts slots =
    ((counts ≡ a.counts.items) × (length counts ≡ known.nodes)
    × (a.overlay.draft.overlay.fresh ≤ free_slots counts))
    ⊎ ((counts ≡ []) × (a.overlay.draft.overlay.fresh ≡ 0))

-- only what was found may differ
abbrev pub SameButFound : Attempt → Attempt → Type 0
SameButFound before after =
    KeepsVersion before after × (after.overlay ≡ before.overlay) × (after.pages ≡ before.pages)
    × (after.counts ≡ before.counts) × (after.done ≡ before.done)

-- What the bytes of a page made of it

-- the step that asked for it goes on at it, or its walk meets a page at fault
abbrev pub TakesPage : ℕ → List CatEntry → Bool → List Step → Attempt → Addr → Page → Attempt
    → Taken → Type 0
TakesPage nodes entries later all before addr page after Taken.GoesOn =
    (fits before.overlay page ≡ true) × (after.overlay ≡ with_page before.overlay addr page)
TakesPage nodes entries later all before addr page after (Taken.Fails None) =
    fits before.overlay page ≡ false
TakesPage nodes entries later all before addr page after (Taken.Fails (Some cause)) =
    (fits before.overlay page ≡ false) × (later ≡ true) × IsCause nodes entries all after cause
TakesPage nodes entries later all before addr page after taken = ⊥

-- bytes that spell no page are at fault
abbrev pub TakesNone : ℕ → List CatEntry → Bool → List Step → Attempt → Taken → Type 0
TakesNone nodes entries later all after (Taken.Fails None) = ⊤
TakesNone nodes entries later all after (Taken.Fails (Some cause)) =
    (later ≡ true) × IsCause nodes entries all after cause
TakesNone nodes entries later all after taken = ⊥

abbrev pub TakesBytes : ℕ → List CatEntry → Bool → List Step → Attempt → Addr → List ℕ → Attempt
    → Taken → Type 0
TakesBytes nodes entries later all before addr bytes after taken =
    (SpellsNone bytes × HasCome before addr bytes false after
    × TakesNone nodes entries later all after taken)
    ⊎ ((page : Page) × SpellsPage bytes page
    × HasCome before addr bytes (nat_eq (height_of page.body) 0) after
    × TakesPage nodes entries later all before addr page after taken)

abbrev pub TakesRead : Known → Bool → List Step → Attempt → Addr → List ℕ → Attempt → Taken
    → Type 0
TakesRead known later all before addr bytes after taken =
    MatchOption known.catalog ⊥
    (λ entries. TakesBytes known.nodes entries later all before addr bytes after taken)

-- it goes on as it has come, unless it failed
abbrev pub CameBySteps : Known → List Step → Attempt → Taken → Type 0
CameBySteps known all a Taken.GoesOn = IsOnItsWay known all a
CameBySteps known all a taken = ⊤

-- Counts

abbrev pub CountsOn : Attempt → Attempt → List ℕ → Taken → Type 0
CountsOn before after bytes taken = TakesCount before.counts.items bytes after.counts.items taken

abbrev pub SameButCounts : Attempt → Attempt → Type 0
SameButCounts before after =
    KeepsVersion before after × (after.overlay ≡ before.overlay) × (after.pages ≡ before.pages)
    × (after.found ≡ before.found) × (after.done ≡ before.done)

-- How a Snapshot or a Branch goes on, which makes a child of a version.
use Rattle.std.specs.Prelude.{ℕ, ◌≡◌, ◌≢◌, ◌<◌, ◌≤◌, ◌⊎◌, ◌&&◌, Bool, true, false, not, List, []}
use Rattle.std.specs.Prelude.{length, Option, Some, None, ⊤, MatchOption}
use Rattle.std.specs.List.{AllByRecursion}
use Rattle.std.specs.Option.{option_map_or}
use Rattle.mn_alloc.specs.Plan.{free_slots, next_slot}
use Rattle.mn_base.specs.Store.{refusal}
use Rattle.mn_base.specs.Tree.{has_version, parents_of}
use Rattle.mn_base.specs.declared.ids.Addr.{Addr}
use Rattle.mn_base.specs.declared.ids.NodeNo.{NodeNo}
use Rattle.mn_base.specs.declared.ids.VersionNo.{VersionNo}
use Rattle.mn_base.specs.declared.op.Op.{Op}
use Rattle.mn_base.specs.declared.op.Op.TheVariants.{Snapshot, Branch}
use Rattle.mn_base.specs.declared.answer.Busy.TheVariants.{Path}
use Rattle.mn_base.specs.declared.answer.Answer.{Answer}
use Rattle.mn_base.specs.declared.answer.Answer.TheVariants as answer
use Rattle.mn_base.specs.declared.reply.Reply.TheVariants.{Made}
use Rattle.mn_page.specs.declared.page.Page.{Page}
use Rattle.mn_page.specs.declared.entry.CatEntry.{CatEntry}
use Rattle.mn_page.specs.Forest.{heads_in}
use Rattle.mn_page.specs.Grammar.{IsPage, SpellsPage}
use Rattle.mn_page.specs.Space.{max_slots}
use Rattle.mn_path.specs.Walk.{front_of, is_on_path}
use Rattle.mn_txn.specs.ChildPlan.{IsBranchPlan, IsSnapshotPlan, MayHaveChild, RefusesBranch}
use Rattle.mn_txn.specs.ChildPlan.{RefusesSnapshot}
use Rattle.mn_txn.specs.declared.error.PlanError.{PlanError}
use Rattle.mn_txn.specs.declared.error.PlanError.TheVariants.{Worn, NoMemory}
use Rattle.mn_mini.specs.Mini.{Mini}
use Rattle.mn_runs.specs.declared.entry.Entry.{Entry}
use Rattle.mn_law.specs.Planned.{IsPlanned}
use Rattle.mn_work.specs.declared.child.Child.{Child}
use Rattle.mn_work.specs.declared.known.Known.{Known}
use Rattle.mn_work.specs.declared.next.Next.{Next}
use Rattle.mn_work.specs.declared.next.Taken.{Taken}
use Rattle.mn_work.specs.Counts.{TakesCount}
use Rattle.mn_work.specs.Descents.{IsOffNodes}
use Rattle.mn_work.specs.Last.{CacheIsLast, CatalogIsLast, PageIsLast, RootIsLast}
use Rattle.mn_work.specs.Seen.{SpellsNone}
use Rattle.mn_work.specs.Walks.{Admits}

-- the root page may be copied for a new version: it serves the version, and wasn't copied for it
abbrev pub may_copy : List CatEntry → ℕ → Page → Bool
may_copy entries v page =
    is_on_path (parents_of (heads_in entries)) v [] None (front_of page)
    && not (has_version page.copied (length entries))

abbrev pub may_copy_by : Option (List CatEntry) → ℕ → Page → Bool
may_copy_by catalog v page = option_map_or (λ entries. may_copy entries v page) catalog false

-- the operation makes a child
abbrev pub MakesChild : Op → Type 0
MakesChild (Snapshot version child) = ⊤
MakesChild (Branch version child) = ⊤
MakesChild op = ⊥

-- by this catalog it has come so far: the root page, once it was read, may be copied, and the
-- counts of the first nodes were read
pub record IsUnderWay (nodes : ℕ) (entries : List CatEntry) (op : Op) (c : Child) : Type 0 where
  pub makes : MakesChild op
  pub admits : Admits entries op c.version c.root
  pub page : MatchOption c.page ⊤
      (λ p. IsPage p × (may_copy entries c.version.0 p ≡ true) × (c.root.node.0 < nodes))
  pub few : length c.counts.items ≤ nodes
  pub given : AllByRecursion (λ count. count ≤ max_slots) c.counts.items

-- what the root page made of it
abbrev pub TakesRoot : Option (List CatEntry) → Child → Page → Child → Taken → Type 0
TakesRoot catalog before page after Taken.GoesOn =
    (may_copy_by catalog before.version.0 page ≡ true) × (after.page ≡ Some page)
TakesRoot catalog before page after (Taken.Fails None) = ⊥
TakesRoot catalog before page after (Taken.Fails (Some cause)) =
    (may_copy_by catalog before.version.0 page ≡ false) × (cause ≡ Path before.root page.seq)
    × (after.page ≡ before.page)
TakesRoot catalog before page after taken = ⊥

-- what the bytes of the root page made of it
abbrev pub TakesRootBytes : Option (List CatEntry) → Child → List ℕ → Child → Taken → Type 0
TakesRootBytes catalog before bytes after taken =
    (SpellsNone bytes × (taken ≡ Taken.Fails (Some (Path before.root 0)))
    × (after.page ≡ before.page))
    ⊎ ((page : Page) × SpellsPage bytes page × TakesRoot catalog before page after taken)

-- the version, where its root stands and the counts stay
abbrev pub KeepsTry : Child → Child → Type 0
KeepsTry before after =
    (after.version ≡ before.version) × (after.root ≡ before.root) × (after.counts ≡ before.counts)

-- the plan of the operation, for a child whose root has this slot
abbrev pub IsPlanFor : ℕ → List CatEntry → Op → Page → Addr → Mini → Type 0
IsPlanFor nodes entries (Snapshot version child) root slot mini =
    IsSnapshotPlan entries nodes version child root slot mini
IsPlanFor nodes entries (Branch version child) root slot mini =
    IsBranchPlan entries nodes version child root slot mini
IsPlanFor nodes entries op root slot mini = ⊥

-- what it may not write is worn
abbrev pub IsWornFor : List CatEntry → Op → Page → NodeNo → ℕ → Type 0
IsWornFor entries (Snapshot version child) root node start =
    RefusesSnapshot entries version root (Worn node start)
IsWornFor entries (Branch version child) root node start =
    RefusesBranch entries version root (Worn node start)
IsWornFor entries op root node start = ⊥

-- what a plan of it asks for
abbrev pub MayPlan : ℕ → List CatEntry → Op → Page → Addr → Type 0
MayPlan nodes entries (Snapshot version child) root slot =
    MayHaveChild entries nodes version root slot
    × (refusal (heads_in entries) (Snapshot version child) ≡ None)
MayPlan nodes entries (Branch version child) root slot =
    MayHaveChild entries nodes version root slot
    × (refusal (heads_in entries) (Branch version child) ≡ None)
MayPlan nodes entries op root slot = ⊥

-- it does what the operation does, wherever its compares hold, for a client whose list has shown
-- last the catalog and the root page, where that stands
pub record DoesChild (entries : List CatEntry) (op : Op) (root : Page) (mini : Mini) : Type 0 where
  pub planned : (es : List Entry) (version : VersionNo) (addr : Addr)
      → Admits entries op version addr → CatalogIsLast es entries → PageIsLast es addr root
      → IsPlanned es (heads_in entries) op mini Made

-- why it has none
abbrev pub RefusesChild : List CatEntry → Op → Page → PlanError → Type 0
RefusesChild entries op root (Worn node start) = IsWornFor entries op root node start
RefusesChild entries op root NoMemory = ⊤

-- whichever list has shown last what is cached and the root page, it has so still
abbrev pub StaysLast : List (Addr × Page) → Child → Child → Type 0
StaysLast pages before after =
    (es : List Entry) → CacheIsLast es pages → RootIsLast es before.root before.page
    → RootIsLast es after.root after.page

-- Steps

-- it is under way by the kept catalog
abbrev pub IsOnItsWay : Known → Op → Child → Type 0
IsOnItsWay known op c = MatchOption known.catalog ⊥ (λ entries. IsUnderWay known.nodes entries op c)

-- all is read that a plan needs, of 1 to 8 nodes
pub record HasRead (known : Known) (op : Op) (c : Child) : Type 0 where
  pub way : IsOnItsWay known op c
  pub page : c.page ≢ None
  pub all : length c.counts.items ≡ known.nodes
  pub some : 1 ≤ known.nodes
  pub few : known.nodes ≤ 8

-- the plan that it wants does what the operation does, by the root page and the counts
pub record IsWanted (nodes : ℕ) (entries : List CatEntry) (op : Op) (c : Child) (mini : Mini)
    : Type 0 where
  pub root : Page
  pub page : c.page ≡ Some root
  pub planned : DoesChild entries op root mini
  pub plan : IsPlanFor nodes entries op root (next_slot c.counts.items) mini
  -- the count of the slot's node is among those that were read
  pub counted : length c.counts.items ≡ nodes
  pub node : (next_slot c.counts.items).node.0 < nodes

-- there is no slot left, or what is to be written is worn: the answer of a later try
abbrev pub IsAnsweredAs : List CatEntry → Op → Child → Answer → Type 0
IsAnsweredAs entries op c (answer.Full need free) =
    (need ≡ 1) × (free ≡ free_slots c.counts.items) × (free < need)
IsAnsweredAs entries op c (answer.Worn node start) =
    (root : Page) × (c.page ≡ Some root) × IsWornFor entries op root node start
IsAnsweredAs entries op c other = ⊥

-- how it ends where all is read. It fails where the root was read at a slot that the counts have
-- free, as no run has it; and in a first try where a later one is answered
abbrev pub EndsBy : ℕ → List CatEntry → Bool → Op → Child → Next → Type 0
EndsBy nodes entries later op c (Next.Plan mini reply) =
    (reply ≡ Made) × IsWanted nodes entries op c mini
EndsBy nodes entries later op c (Next.Answers answer) =
    (later ≡ true) × (length c.counts.items ≡ nodes) × IsAnsweredAs entries op c answer
EndsBy nodes entries later op c (Next.Fails None) =
    (next_slot c.counts.items ≡ c.root)
    ⊎ ((later ≡ false) × ((answer : Answer) × IsAnsweredAs entries op c answer))
EndsBy nodes entries later op c next = ⊥

abbrev pub WantsEnd : Known → Bool → Op → Child → Next → Type 0
WantsEnd known later op c next =
    MatchOption known.catalog ⊥ (λ entries. EndsBy known.nodes entries later op c next)

-- it wants the root page; in a later try it fails only at an address on a node that there is not
abbrev pub WantsPage : Known → Bool → Child → Next → Type 0
WantsPage known later c (Next.Page addr peek) =
    (c.page ≡ None) × (addr ≡ c.root) × (addr.node.0 < known.nodes) × (peek ≡ not later)
WantsPage known later c (Next.Fails cause) = later ≡ true → IsOffNodes known.nodes c.root cause
WantsPage known later c next = ⊥

-- the root page was kept, in a first try, or is wanted
abbrev pub WantsRoot : Known → Bool → Child → Child → Option Next → Type 0
WantsRoot known later before after (Some next) = WantsPage known later after next
WantsRoot known later before after None =
    (later ≡ false) × (before.root.node.0 < known.nodes)
    × ((page : Page) × IsPage page × (may_copy_by known.catalog before.version.0 page ≡ true)
    × (after.page ≡ Some page))

-- the try fails where the root page made it fail
abbrev pub failing : Taken → Option Next
failing (Taken.Fails cause) = Some (Next.Fails cause)
failing taken = None

-- it wants the next node's count
abbrev pub WantsCount : Known → Bool → Child → Next → Type 0
WantsCount known later c (Next.Count node peek) =
    (c.page ≢ None) × (node.0 ≡ length c.counts.items) × (node.0 < known.nodes) × (peek ≡ not later)
WantsCount known later c next = ⊥

abbrev pub WantsNext : Known → Bool → Op → Child → Next → Type 0
WantsNext known later op c next =
    WantsPage known later c next ⊎ WantsCount known later c next ⊎ WantsEnd known later op c next

-- asked where the try goes on
abbrev pub UnlessFails : Next → Type 0 → Type 0
UnlessFails (Next.Fails cause) told = ⊤
UnlessFails next told = told

abbrev pub StaysOnItsWay : Known → Op → Child → Next → Type 0
StaysOnItsWay known op c next = UnlessFails next (IsOnItsWay known op c)

-- the next count joins those before it
abbrev pub CountsOn : Child → Child → List ℕ → Taken → Type 0
CountsOn before after bytes taken = TakesCount before.counts.items bytes after.counts.items taken

-- only the counts may differ
abbrev pub SameButCounts : Child → Child → Type 0
SameButCounts before after =
    (after.version ≡ before.version) × (after.root ≡ before.root) × (after.page ≡ before.page)

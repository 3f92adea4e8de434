-- When an operation may be answered, and how.
use Rattle.std.specs.Prelude.{ℕ, ◌≡◌, ◌+◌, ◌-◌, ◌*◌, ◌^◌, ◌<◌, ◌≤◌, ◌⊎◌, Bool, true, false, not}
use Rattle.std.specs.Prelude.{◌&&◌, ◌||◌, nat_eq, nat_lt, IsTrue, List, [], ◌∷◌, ◌++◌, length}
use Rattle.std.specs.Prelude.{reverse, sum, Option, Some, None, ⊤, Contains, slice_get, map}
use Rattle.std.specs.Prelude.{unwrap_or}
use Rattle.std.specs.List.{list_all, list_any, flat_map, AllByRecursion}
use Rattle.byteorder.specs.Endian.{big_bytes}
use Rattle.mn_base.specs.Ids.{node_same}
use Rattle.mn_base.specs.Order.{covers_key}
use Rattle.mn_base.specs.Store.{number_named, op_version, max_versions, step_key}
use Rattle.mn_base.specs.Tree.{parents_of, has_version}
use Rattle.mn_base.specs.declared.ids.NodeNo.{NodeNo}
use Rattle.mn_base.specs.declared.ids.Addr.{Addr}
use Rattle.mn_base.specs.declared.ids.Tid.{Tid}
use Rattle.mn_base.specs.declared.op.Op.{Op}
use Rattle.mn_base.specs.declared.op.Op.TheVariants.{Tx, Snapshot, Branch, Scan}
use Rattle.mn_base.specs.declared.reply.Reply.{Reply}
use Rattle.mn_base.specs.declared.answer.Busy.{Busy}
use Rattle.mn_base.specs.declared.answer.Busy.TheVariants.{Lock, Moved, Forced, Path}
use Rattle.mn_base.specs.declared.answer.Answer.{Answer}
use Rattle.mn_base.specs.declared.answer.Answer.TheVariants.{Replied, Busy as GaveUp, Down, InDoubt}
use Rattle.mn_base.specs.declared.answer.Answer.TheVariants.{Full, Worn, NoMemory}
use Rattle.mn_mini.specs.declared.part.PartItem.{PartItem}
use Rattle.mn_mini.specs.declared.part.PartItem.TheVariants as Bare
use Rattle.mn_mini.specs.declared.request.Request.{Request}
use Rattle.mn_mini.specs.declared.request.Request.TheVariants as Ask
use Rattle.mn_mini.specs.declared.reply.NodeReply.{NodeReply}
use Rattle.mn_mini.specs.declared.reply.NodeReply.TheVariants as Say
use Rattle.mn_mini.specs.Mini.{Mini, participants_of, is_read}
use Rattle.mn_mini.specs.Flat.{bytes_in}
use Rattle.mn_page.specs.declared.page.Page.{Page}
use Rattle.mn_page.specs.declared.entry.CatEntry.{CatEntry}
use Rattle.mn_page.specs.Grammar.{SpellsPage, height_of}
use Rattle.mn_page.specs.Space.{count_start, count_size, catalog_start, catalog_size, max_slots}
use Rattle.mn_page.specs.Space.{entry_start}
use Rattle.mn_page.specs.Forest.{heads_in, ChildRange, children_of}
use Rattle.mn_page.specs.Holds.{page_covers}
use Rattle.mn_runs.specs.declared.entry.Entry.{Entry}
use Rattle.mn_runs.specs.declared.entry.What.{What}
use Rattle.mn_runs.specs.declared.entry.What.TheVariants.{Issue, Answered}
use Rattle.mn_runs.specs.Calls.{Call, call_in, calls_of, is_prepare, is_exec, is_done, is_stopped}
use Rattle.mn_runs.specs.Calls.{is_down_reply, is_last_of, was_told, was_done, was_decided, Issued}
use Rattle.mn_runs.specs.Calls.{issue_in, issues_of, Begun, under_way, since_begin}
use Rattle.mn_runs.specs.Clients.{is_plan, is_given_up}
use Rattle.mn_runs.specs.Seen.{Place, Seen, seen_in, seen_at}
use Rattle.mn_law.specs.Places.{page_place, count_place, catalog_place, catalog_node, number_size}
use Rattle.mn_law.specs.Planned.{IsPlanned}
use Rattle.mn_law.specs.Needs.{NeedsSlots, WritesOld}
use Rattle.mn_law.specs.Shown.{SeesCatalog, SeesPage, ShowsCatalog, ServesNamed, ReadShows}
use Rattle.mn_law.specs.Shown.{ScanShows}

-- Plans that are over

-- every plan of the operation is given up
abbrev pub are_given_up : List Entry → Bool
are_given_up now = list_all (λ i. is_read i.mini.items || is_given_up now i) (issues_of now)

-- a decision of each plan was sent to each participant that voted yes
abbrev pub is_settled : List Entry → Issued → Bool
is_settled now i =
    list_all (λ n. not (was_told (is_prepare i.tid) is_done n now) || was_decided i.tid n now)
    (participants_of i.mini)

abbrev pub are_settled : List Entry → Bool
are_settled now = list_all (λ i. is_read i.mini.items || is_settled now i) (issues_of now)

-- Plans of a list

-- a minitransaction is a plan of the operation, with this reply, by a catalog that the list shows
abbrev pub IsPlanBy : List Entry → Op → Mini → Reply → Type 0
IsPlanBy es op mini reply =
    (entries : List CatEntry) × ShowsCatalog es entries
    × IsPlanned es (heads_in entries) op mini reply

-- the last issue of the operation under way, with the entries before it; `now` are the entries
-- since its Begin
pub record LastIssue (es now : List Entry) (i : Issued) (before : List Entry) : Type 0 where
  pub entry : Entry
  pub later : List Entry
  pub earlier : List Issued
  pub split : es ≡ later ++ entry ∷ [] ++ before
  pub here : issue_in entry.what ≡ i ∷ []
  pub none_later : issues_of later ≡ []
  pub of_operation : issues_of now ≡ i ∷ earlier

-- each participant was done
abbrev pub all_done : List Entry → Issued → Bool
all_done es i = list_all (λ n. was_done i.tid n es) (participants_of i.mini)

-- Tries and their causes

-- a compare item of a part: where it stands, and what it expects
abbrev pub part_compares : List PartItem → List (ℕ × List ℕ)
part_compares [] = []
part_compares (Bare.Compare start bytes ∷ items) = (start, bytes) ∷ part_compares items
part_compares (Bare.Read start length ∷ items) = part_compares items
part_compares (Bare.Write start bytes ∷ items) = part_compares items

-- a read of the list shows these bytes at this start
abbrev pub ShowsBytes : List Seen → NodeNo → ℕ → List ℕ → Type 0
ShowsBytes seens n start bytes =
    (seen : Seen) × Contains seens seen × (seen.place.node ≡ n) × (seen.place.start ≤ start)
    × (bytes_in seen.bytes (start - seen.place.start) (length bytes) ≡ bytes)

-- the same, or the number of an entry was shown on the node from which the catalog is read
abbrev pub ShowsExpected : List Seen → NodeNo → ℕ → List ℕ → Type 0
ShowsExpected seens n start bytes =
    ShowsBytes seens n start bytes
    ⊎ ((v : ℕ) × (v < max_versions) × (start ≡ entry_start v) × (length bytes ≡ number_size)
    × ShowsBytes seens catalog_node start bytes)

-- a compare of a part differed, from bytes that a read of this try had shown
abbrev pub DiffersAs : List Seen → NodeNo → List PartItem → ℕ → List ℕ → Busy → Type 0
DiffersAs seens n part item found busy =
    (start : ℕ) × (expected : List ℕ)
    × (slice_get (part_compares part) item ≡ Some (start, expected))
    × ShowsExpected seens n start expected × (busy ≡ Moved n start expected found)

-- a Prepare or Exec was refused so
abbrev pub RefusedAs : List Seen → NodeNo → Request → NodeReply → Busy → Type 0
RefusedAs seens n request (Say.BadLock start length holder) busy = busy ≡ Lock n start length holder
RefusedAs seens n (Ask.Prepare tid participants part) (Say.BadCompare item found) busy =
    DiffersAs seens n part item found busy
RefusedAs seens n (Ask.Exec tid part) (Say.BadCompare item found) busy =
    DiffersAs seens n part item found busy
RefusedAs seens n (Ask.Prepare tid participants part) Say.BadForced busy = busy ≡ Forced tid
RefusedAs seens n request reply busy = ⊥

-- an address that one key reaches by the reads of a try: the root that its catalog gives, or the
-- child of a page that it reached; with the height that a page there must have
pub data Reached (seens : List Seen) (op : Op) (key : List ℕ) : Addr → Option ℕ → Type 0 where
  by_root : (seen : Seen) (entries : List CatEntry) (v : ℕ) (e : CatEntry) → Contains seens seen
      → SeesCatalog seen entries
      → number_named (heads_in entries) (op_version op) ≡ Some v → slice_get entries v ≡ Some e
      → Reached seens op key e.root None
  by_child : (addr : Addr) (height : Option ℕ) (seen : Seen) (page : Page) (child : ChildRange)
      → Reached seens op key addr height → Contains seens seen
      → SeesPage seen addr page → Contains (children_of page) child
      → covers_key child.low child.high key ≡ true
      → Reached seens op key child.addr (Some (height_of page.body - 1))

-- a page of this height may not stand here
abbrev pub is_wrong_height : Option ℕ → ℕ → Bool
is_wrong_height None height = nat_lt 14 height
is_wrong_height (Some wanted) height = not (nat_eq height wanted) || nat_lt 14 height

-- the operation copies its version's root for a new version
abbrev pub is_copying : Op → Bool
is_copying (Snapshot version child) = true
is_copying (Branch version child) = true
is_copying op = false

-- the page is the root, which the operation copies, and was copied for the new version already
abbrev pub is_copied_root : List CatEntry → Op → Option ℕ → Page → Bool
is_copied_root entries op None page = is_copying op && has_version page.copied (length entries)
is_copied_root entries op (Some height) page = false

-- the page is at fault for the version and the key
abbrev pub IsPageAtFault : List CatEntry → Op → List ℕ → Option ℕ → Page → Type 0
IsPageAtFault entries op key height page =
    (ServesNamed entries (op_version op) page → ⊥)
    ⊎ (page_covers key page ≡ false)
    ⊎ (is_wrong_height height (height_of page.body) ≡ true)
    ⊎ (is_copied_root entries op height page ≡ true)

-- what was read at an address is at fault, and the page's number, or 0 where no page stands
abbrev pub IsAtFault : List CatEntry → Op → List ℕ → Option ℕ → List ℕ → ℕ → Type 0
IsAtFault entries op key height bytes seq =
    (((page : Page) → SpellsPage bytes page → ⊥) × (seq ≡ 0))
    ⊎ ((page : Page) × SpellsPage bytes page × IsPageAtFault entries op key height page
    × (seq ≡ page.seq))

-- a catalog of the reads gives the root from which one key reaches this address
abbrev pub ReachesAddr : List Seen → Op → List CatEntry → List ℕ → Addr → Option ℕ → Type 0
ReachesAddr seens op entries key addr height =
    (catalog : Seen) × Contains seens catalog × SeesCatalog catalog entries
    × Reached seens op key addr height

-- a leaf that the entry brought ends at this key
abbrev pub EndsAtKey : Entry → List ℕ → Type 0
EndsAtKey e key =
    (seen : Seen) × (addr : Addr) × (page : Page) × Contains (seen_at e) seen
    × SeesPage seen addr page × (height_of page.body ≡ 0) × (page.high ≡ Some key)

-- a key for which the operation walks: that of a step; where a scan stands, at its lower bound or
-- behind the leaf that it took last; and where the root alone is looked at, the least key
abbrev pub IsKeyOf : Op → List Entry → List ℕ → Type 0
IsKeyOf (Tx version steps) taken key = Contains (map step_key steps) key
IsKeyOf (Scan version low high limit) [] key = key ≡ unwrap_or low []
IsKeyOf (Scan version low high limit) (e ∷ es) key = EndsAtKey e key
IsKeyOf op taken key = key ≡ []

-- a read met a page at fault, at an address that the reads name for one of these keys
abbrev pub MeetsBadPage : List Seen → Op → (List ℕ → Type 0) → Addr → ℕ → Type 0
MeetsBadPage seens op IsKey addr seq =
    (seen : Seen) × (key : List ℕ) × (height : Option ℕ) × (entries : List CatEntry)
    × Contains seens seen × ReachesAddr seens op entries key addr height
    × (seen.place ≡ page_place addr) × IsAtFault entries op key height seen.bytes seq × IsKey key

-- the reads name, for one of these keys, an address on a node that there is not
abbrev pub MeetsBadAddr : ℕ → List Seen → Op → (List ℕ → Type 0) → Addr → ℕ → Type 0
MeetsBadAddr nodes seens op IsKey addr seq =
    (key : List ℕ) × (height : Option ℕ) × (entries : List CatEntry)
    × ReachesAddr seens op entries key addr height × (nodes ≤ addr.node.0) × (seq ≡ 0)
    × IsKey key

-- each parent has a lower number; newest first
abbrev pub ParentsAreBelow : List (Option ℕ) → Type 0
ParentsAreBelow [] = ⊤
ParentsAreBelow (None ∷ older) = ParentsAreBelow older
ParentsAreBelow (Some p ∷ older) = (p < length older) × ParentsAreBelow older

-- a read of the catalog's place that brought no catalog
abbrev pub IsBadCatalog : Seen → Type 0
IsBadCatalog seen =
    (seen.place ≡ catalog_place) × ((entries : List CatEntry) → SeesCatalog seen entries
    → ParentsAreBelow (reverse (parents_of (heads_in entries))) → ⊥)

-- a read of a node's count that brought no count
abbrev pub IsBadCount : Seen → Type 0
IsBadCount seen =
    (seen.place ≡ count_place seen.place.node)
    × ((count : ℕ) → count ≤ max_slots → seen.bytes ≡ big_bytes count_size count → ⊥)

-- a read met such a catalog or count: slot 0 of its node stands for it
abbrev pub MeetsBadPlace : List Seen → Addr → ℕ → Type 0
MeetsBadPlace seens addr seq =
    (seen : Seen) × Contains seens seen × (IsBadCatalog seen ⊎ IsBadCount seen)
    × (addr ≡ record { node = seen.place.node; slot = 0 }) × (seq ≡ 0)

-- a read of a try met a fault of path, on the way of one of these keys
abbrev pub MeetsFault : ℕ → List Seen → Op → (List ℕ → Type 0) → Busy → Type 0
MeetsFault nodes seens op IsKey (Path addr seq) =
    MeetsBadPage seens op IsKey addr seq ⊎ MeetsBadAddr nodes seens op IsKey addr seq
    ⊎ MeetsBadPlace seens addr seq
MeetsFault nodes seens op IsKey busy = ⊥

-- a try, its entries newest first, failed so: its last call was refused, or a read of it met a
-- fault on the way of a key of the operation, where a scan took so much before
abbrev pub FailsAs : ℕ → Op → List Entry → List Entry → Busy → Type 0
FailsAs nodes op taken [] busy = ⊥
FailsAs nodes op taken (e ∷ es) busy =
    ((call : Call) × (call_in e.node e.what ≡ call ∷ [])
    × RefusedAs (seen_in es) call.node call.request call.reply busy)
    ⊎ MeetsFault nodes (seen_in (e ∷ es)) op (IsKeyOf op taken) busy

-- a Prepare or an Exec was refused
abbrev pub is_refusal : NodeReply → Bool
is_refusal (Say.BadLock start length holder) = true
is_refusal (Say.BadCompare item found) = true
is_refusal Say.BadForced = true
is_refusal reply = false

abbrev pub none_refused : List Entry → Bool
none_refused es = list_all (λ c. not (is_refusal c.reply)) (calls_of es)

abbrev pub is_any_prepare : Request → Bool
is_any_prepare (Ask.Prepare tid participants part) = true
is_any_prepare request = false

abbrev pub is_any_decide : Request → Bool
is_any_decide (Ask.Decide tid verdict) = true
is_any_decide request = false

abbrev pub is_peek : Request → Bool
is_peek (Ask.Peek start length) = true
is_peek request = false

-- an Exec that reads the catalog
abbrev pub asks_catalog : Request → Bool
asks_catalog (Ask.Exec tid (Bare.Read start length ∷ [])) =
    nat_eq start catalog_start && nat_eq length catalog_size
asks_catalog request = false

-- it asks node 0 for the catalog
abbrev pub is_catalog_call : Call → Bool
is_catalog_call c = nat_eq c.node.0 0 && asks_catalog c.request

abbrev pub asks_for_catalog : List Entry → Bool
asks_for_catalog es = list_any is_catalog_call (calls_of es)

-- of these calls, newest first, none but the oldest asks for the catalog; decisions of the try
-- before may be older
abbrev pub asks_at_first : List Call → Bool
asks_at_first [] = true
asks_at_first (c ∷ cs) =
    (not (is_catalog_call c) || list_all (λ d. is_any_decide d.request) cs) && asks_at_first cs

-- a refusal ends a try, and a read of the catalog begins one: there is no refusal before its last
-- entry, and no such read behind its first call
abbrev pub is_one_try : List Entry → Bool
is_one_try [] = true
is_one_try (e ∷ es) = none_refused es && asks_at_first (calls_of (e ∷ es))

-- a later try reads everything anew: it asks for the catalog, and peeks at nothing
abbrev pub reads_anew : List Entry → Bool
reads_anew es = asks_for_catalog es && list_all (λ c. not (is_peek c.request)) (calls_of es)

-- the tries are all of the operation's, but for a scan, which may have taken leaves before
abbrev pub IsWhole : Op → List Entry → Type 0
IsWhole (Scan version low high limit) taken = ⊤
IsWhole op taken = taken ≡ []

-- an entry that brought a leaf
abbrev pub BringsLeaf : Entry → Type 0
BringsLeaf e =
    (seen : Seen) × (addr : Addr) × (page : Page) × Contains (seen_at e) seen
    × SeesPage seen addr page × (height_of page.body ≡ 0)

-- what a scan took ends with a leaf that serves its version by a catalog read before, or is nothing
abbrev pub EndsWithLeaf : Op → List Entry → Type 0
EndsWithLeaf op [] = ⊤
EndsWithLeaf op (e ∷ es) =
    (seen : Seen) × (addr : Addr) × (page : Page) × (entries : List CatEntry)
    × Contains (seen_at e) seen × SeesPage seen addr page × (height_of page.body ≡ 0)
    × ShowsCatalog es entries × ServesNamed entries (op_version op) page

-- in a try of a scan no read but the newest brings a leaf: a leaf that was taken begins a new count
abbrev pub BringsNone : List Entry → Type 0
BringsNone [] = ⊤
BringsNone (e ∷ es) = AllByRecursion (λ d. BringsLeaf d → ⊥) es

abbrev pub LeafIsNewest : Op → List Entry → Type 0
LeafIsNewest (Scan version low high limit) try = BringsNone try
LeafIsNewest op try = ⊤

-- a transaction may go by a catalog that its client's list showed before the operation, and a scan
-- that took leaves by its own; each other try asks for the catalog
abbrev pub MayBeKept : List Entry → Op → List Entry → List Entry → Type 0
MayBeKept older (Tx version steps) taken first =
    IsTrue (asks_for_catalog first) ⊎ ((entries : List CatEntry) × ShowsCatalog older entries)
MayBeKept older (Scan version low high limit) (e ∷ es) first = ⊤
MayBeKept older op taken first = IsTrue (asks_for_catalog first)

-- eight tries failed, each from the second on anew and by a cause, and the last by this one. A scan
-- counts from the leaf that it took last. The first may have no entry, where what it used was kept
-- from earlier operations
pub record FailedTries (nodes : ℕ) (op : Op) (es now : List Entry) (busy : Busy) : Type 0 where
  pub older : List Entry
  pub all : es ≡ now ++ older
  pub rest : List Entry
  pub last : List Entry
  pub middle : List (List Entry)
  pub first : List Entry
  pub taken : List Entry
  pub split : now ≡ rest ++ last ++ flat_map (λ try. try) middle ++ first ++ taken
  pub over : IsTrue (list_all (λ c. is_any_decide c.request) (calls_of rest))
  pub six : length middle ≡ 6
  pub last_fails : FailsAs nodes op taken last busy
  pub others_fail : AllByRecursion (λ try. (cause : Busy) × FailsAs nodes op taken try cause)
      middle
  pub tries : IsTrue (is_one_try last && (list_all is_one_try middle && is_one_try first))
  pub anew : IsTrue (reads_anew last && list_all reads_anew middle)
  pub whole : IsWhole op taken
  pub took : EndsWithLeaf op taken
  pub leaves : LeafIsNewest op last × AllByRecursion (LeafIsNewest op) middle
      × LeafIsNewest op first
  pub may_be_kept : MayBeKept older op taken first

-- Answers

-- how many nodes the operation's minitransactions were made for: its last one tells
abbrev pub nodes_of : List Issued → ℕ
nodes_of [] = 0
nodes_of (i ∷ is) = i.mini.nodes

-- the free slots that the counts of so many nodes leave, as a try read them
abbrev pub FreeSlots : ℕ → List Seen → ℕ → Type 0
FreeSlots nodes seens free =
    (counts : List ℕ) × (length counts ≡ nodes) × (free + sum counts ≡ max_slots * nodes)
    × ((n : NodeNo) (count : ℕ) → slice_get counts n.0 ≡ Some count
    → ShowsBytes seens n count_start (big_bytes count_size count))

-- the newest entry was refused
abbrev pub ends_refused : List Entry → Bool
ends_refused [] = false
ends_refused (e ∷ es) = list_any (λ c. is_refusal c.reply) (call_in e.node e.what)

-- a later try begins after one that failed: after a refusal, after a fault, or after a first one
-- that was not refused, of which no fault need be seen
abbrev pub BeginsAfter : ℕ → Op → List Entry → List Entry → Type 0
BeginsAfter nodes op older earlier =
    IsTrue (ends_refused earlier)
    ⊎ ((fault : Busy) × MeetsFault nodes (seen_in earlier) op (IsKeyOf op []) fault)
    ⊎ (IsTrue (none_refused earlier && is_one_try earlier) × MayBeKept older op [] earlier)

-- the last try of the operation, a later one that was not refused, and the decisions after it
pub record LastTry (nodes : ℕ) (op : Op) (es now : List Entry) (try : List Entry) : Type 0 where
  pub older : List Entry
  pub all : es ≡ now ++ older
  pub rest : List Entry
  pub earlier : List Entry
  pub split : now ≡ rest ++ try ++ earlier
  pub over : IsTrue (list_all (λ c. is_any_decide c.request) (calls_of rest))
  pub begins : BeginsAfter nodes op older earlier
  pub is_try : IsTrue (reads_anew try && (none_refused try && is_one_try try))

-- a node answered Down to a request that is no Decide, or stopped inside a Prepare that was not the
-- last
abbrev pub is_down_cause : NodeNo → Call → Bool
is_down_cause n c =
    node_same c.node n && ((is_down_reply c.reply && not (is_any_decide c.request))
    || (is_stopped c.reply && (is_any_prepare c.request && not (is_last_of c.node c.request))))

-- a read since Begin shows the reply, by what the list held before it; `now` are the entries since
-- Begin
pub record SomeReadShows (es now : List Entry) (op : Op) (reply : Reply) : Type 0 where
  pub entry : Entry
  pub newer : List Entry
  pub older : List Entry
  pub before : List Entry
  pub since : now ≡ newer ++ entry ∷ older
  pub split : es ≡ newer ++ entry ∷ before
  pub seen : Seen
  pub brought : Contains (seen_at entry) seen
  pub shows : ReadShows before seen op reply

-- the last issue is a plan with this reply, and every participant was done
abbrev pub LastPlanReplies : List Entry → List Entry → Op → Reply → Type 0
LastPlanReplies es now op reply =
    (i : Issued) × (before : List Entry) × LastIssue es now i before × IsTrue (is_plan i.mini.items)
    × IsPlanBy before op i.mini reply × IsTrue (all_done es i)

-- that node stopped inside the last Prepare, or the Exec, of this id
abbrev pub is_doubt_cause : NodeNo → Tid → Call → Bool
is_doubt_cause n tid c =
    node_same c.node n && (is_stopped c.reply
    && (is_exec tid c.request || (is_prepare tid c.request && is_last_of n c.request)))

-- what shows an answer in the client's own list
abbrev pub ShowsAnswer : List Entry → List Entry → Op → Answer → Type 0
ShowsAnswer es now op (Replied reply) =
    LastPlanReplies es now op reply ⊎ (IsTrue (are_given_up now) × SomeReadShows es now op reply)
    ⊎ (IsTrue (are_given_up now) × ScanShows (seen_in now) op reply)
ShowsAnswer es now op (GaveUp busy) =
    IsTrue (are_given_up now) × FailedTries (nodes_of (issues_of now)) op es now busy
ShowsAnswer es now op (Down n) =
    IsTrue (are_given_up now) × IsTrue (list_any (is_down_cause n) (calls_of now))
ShowsAnswer es now op (InDoubt tid n) =
    (i : Issued) × (before : List Entry) × LastIssue es now i before × (tid ≡ i.tid)
    × IsTrue (list_any (is_doubt_cause n tid) (calls_of now))
ShowsAnswer es now op (Full need free) =
    IsTrue (are_given_up now) × (try : List Entry)
    × LastTry (nodes_of (issues_of now)) op es now try
    × (free < need) × NeedsSlots (seen_in try) op need
    × FreeSlots (nodes_of (issues_of now)) (seen_in try) free
ShowsAnswer es now op (Worn n start) =
    IsTrue (are_given_up now) × (try : List Entry) × (place : Place)
    × LastTry (nodes_of (issues_of now)) op es now try × (place.node ≡ n) × (place.start ≡ start)
    × WritesOld (seen_in try) op place × ShowsBytes (seen_in try) n start (big_bytes 8 (2 ^ 64 - 1))
ShowsAnswer es now op NoMemory = IsTrue (are_given_up now)

-- each answer but InDoubt waits for the decisions of the operation's plans
abbrev pub IsSettled : List Entry → Answer → Type 0
IsSettled now (InDoubt tid n) = ⊤
IsSettled now answer = IsTrue (are_settled now)

-- a plan of the operation under way, with some reply
abbrev pub IsPlanOfOp : List Entry → Option Begun → Mini → Type 0
IsPlanOfOp es None mini = ⊥
IsPlanOfOp es (Some begun) mini = (reply : Reply) × IsPlanBy es begun.op mini reply

abbrev pub IsShownFor : List Entry → Option Begun → Answer → Type 0
IsShownFor es None answer = ⊥
IsShownFor es (Some begun) answer = ShowsAnswer es (since_begin es) begun.op answer

-- the meaning of a client's step, beyond the protocol: a plan is planned, and an answer is shown
abbrev pub MeansBy : List Entry → What → Type 0
MeansBy es (Issue tid mini) =
    IsTrue (are_settled (since_begin es))
    × (IsTrue (is_read mini.items) ⊎ IsPlanOfOp es (under_way es) mini)
MeansBy es (Answered number answer) =
    IsSettled (since_begin es) answer × IsShownFor es (under_way es) answer
MeansBy es what = ⊤

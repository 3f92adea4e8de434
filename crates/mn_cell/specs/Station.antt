-- What is known of a node with its list and its pass, whenever no call of it is under way.
use Rattle.std.specs.Prelude.{ℕ, ◌+◌, ◌-◌, ◌^◌, ◌≡◌, ◌≤◌, ◌<◌, ◌⊎◌, min, Bool, true, false, List}
use Rattle.std.specs.Prelude.{[], ◌∷◌, ◌++◌, reverse, Option, Some, None, IsSome}
use Rattle.std.specs.Prelude.{slice_index_or, ⊤}
use Rattle.std.specs.List.{AllByRecursion}
use Rattle.atomic_table.specs.Seated.{TableId}
use Rattle.mn_base.specs.declared.gate.StopAt.{StopAt}
use Rattle.mn_base.specs.declared.gate.StopAt.TheVariants.{Before, Half, After}
use Rattle.mn_base.specs.declared.ids.NodeNo.{NodeNo}
use Rattle.mn_mini.specs.declared.record.Record.{Record}
use Rattle.mn_mini.specs.declared.request.Request.{Request}
use Rattle.mn_mini.specs.Node.{answer}
use Rattle.mn_io.specs.DiskModel.{DiskState}
use Rattle.mn_io.specs.Faults.{Rose}
use Rattle.mn_node.specs.Node.{listed}
use Rattle.mn_node.specs.State.{NodeState, StandsForRecords}
use Rattle.mn_actors.specs.declared.board.Pass.{Pass}
use Rattle.mn_actors.specs.declared.actor.Actor.TheVariants.{Node}
use Rattle.mn_actors.specs.Lists.{held, or_empty}
use Rattle.mn_actors.specs.Sight.{board_of, view_of}
use Rattle.mn_runs.specs.declared.entry.Entry.{Entry}
use Rattle.mn_runs.specs.declared.entry.What.{What}
use Rattle.mn_runs.specs.declared.entry.What.TheVariants.{Restarted, Stopped}
use Rattle.mn_runs.specs.Nodes.{added_by, is_down, node_records, stopped_request}
use Rattle.mn_runs.specs.Protocol.{Start, base_at, start_nodes, start_records, NodeListAllowed}
use Rattle.mn_cell.specs.Passes.{OwnsJust}

-- a board that is none
abbrev pub no_board : TableId
no_board =
    record {
      words = 0;
      slots = 0;
      views_name = 0;
      atom = 0;
      block = 0;
      offset = 0;
      slot_names = [];
    }

-- What a run starts from

-- a node as it is when a run starts: up, with these records
pub record IsNodeAtStart {D : Type 0} (state : D → DiskState) (faults : D → ℕ) (start : Start)
    (number : NodeNo) (before : ℕ) (honest : Type 0) (n : NodeState D) : Type 0 where
  pub node : n.node ≡ number.0
  pub nodes : n.nodes ≡ start_nodes start
  pub among : number.0 < start_nodes start
  pub up : n.down ≡ false
  pub records : n.records ≡ slice_index_or start.records number.0 []
  pub counted : faults n.disk ≡ before
  pub as_honest : honest → (state n.disk).honest

-- The list of a node

-- a stop in a request that nobody asked for
abbrev pub unasked_in : What → ℕ
unasked_in (Stopped (Some request) None) = 1
unasked_in what = 0

abbrev pub unasked : List Entry → ℕ
unasked [] = 0
unasked (e ∷ es) = unasked es + unasked_in e.what

-- a client or a coordinator made the entry
abbrev pub HasCaller : Entry → Type 0
HasCaller e = IsSome e.client

-- by these records the request, if there is one, adds one
abbrev pub WouldAddRecord : List ℕ → List Record → Option Request → Type 0
WouldAddRecord base records None = ⊤
WouldAddRecord base records (Some request) = IsSome (answer base records request).added

abbrev pub StopsWhereItWouldAdd : List ℕ → List Record → What → Type 0
StopsWhereItWouldAdd base records (Stopped request asked) = WouldAddRecord base records request
StopsWhereItWouldAdd base records what = ⊤

-- each stop inside a request is inside one that would have added a record
abbrev pub AllStopWhereTheyWouldAdd : List ℕ → List Record → List Entry → Type 0
AllStopWhereTheyWouldAdd base start [] = ⊤
AllStopWhereTheyWouldAdd base start (e ∷ es) =
    StopsWhereItWouldAdd base (node_records base start es) e.what
    × AllStopWhereTheyWouldAdd base start es

-- a count has risen by so much since, or it stands at its last value
abbrev pub RoseBy : ℕ → ℕ → ℕ → Type 0
RoseBy by before now = min (before + by) (2 ^ 64 - 1) ≤ now

-- Stops that were asked for

abbrev pub asked_or : What → Option StopAt → Option StopAt
asked_or (Stopped request asked) before = asked
asked_or what before = before

-- the stop that was asked for where the node stopped last
abbrev pub last_asked : List Entry → Option StopAt
last_asked [] = None
last_asked (e ∷ es) = asked_or e.what (last_asked es)

-- a restart kept the stopped request's record as the stop asked: never where that was before the
-- log or at half of the record, and behind it always, unless the count of faults has risen
abbrev pub IsRecordKeptAsAsked : Type 0 → Option StopAt → Bool → Type 0
IsRecordKeptAsAsked rose None kept = ⊤
IsRecordKeptAsAsked rose (Some Before) kept = kept ≡ false
IsRecordKeptAsAsked rose (Some Half) kept = kept ≡ false
IsRecordKeptAsAsked rose (Some After) kept = rose ⊎ (kept ≡ true)

abbrev pub StepKeepsRecordAsAsked : Type 0 → What → Option StopAt → Type 0
StepKeepsRecordAsAsked rose (Restarted kept) asked = IsRecordKeptAsAsked rose asked kept
StepKeepsRecordAsAsked rose what asked = ⊤

-- each restart did
abbrev pub RestartsKeepRecordsAsAsked : Type 0 → List Entry → Type 0
RestartsKeepRecordsAsAsked rose [] = ⊤
RestartsKeepRecordsAsAsked rose (e ∷ es) =
    StepKeepsRecordAsAsked rose e.what (last_asked es) × RestartsKeepRecordsAsAsked rose es

-- what a stop that was asked for has left on an honest disk, for the next restart to find, unless
-- the disk failed while the log was shortened
abbrev pub DiskStandsAsAsked : {D : Type 0} → (D → DiskState) → Type 0 → NodeState D → Option StopAt
    → Type 0
DiskStandsAsAsked state rose n None = ⊤
DiskStandsAsAsked state rose n (Some Before) =
    (n.cutting ≡ true) ⊎ ((n.cutting ≡ false)
    × StandsForRecords (state n.disk) n.node n.nodes (listed n.cut n.records))
DiskStandsAsAsked state rose n (Some Half) =
    (n.cutting ≡ true) ⊎ ((n.cutting ≡ false)
    × StandsForRecords (state n.disk) n.node n.nodes (listed n.cut n.records))
DiskStandsAsAsked state rose n (Some After) =
    rose ⊎ ((r : Record) × (n.pending ≡ Some r) × (n.cutting ≡ false)
    × StandsForRecords (state n.disk) n.node n.nodes (listed n.cut n.records ++ r ∷ []))

-- The entries, newest first, are those of a node that started so: each is allowed by those before
-- it, and the node has the records that they leave. Each has a caller, and where one stopped it
-- inside a request, that would have added a record. It stopped unasked in requests at most as often
-- as its disk's count of faults has risen. A disk that was honest is, and then each restart kept
-- what the stop before it had asked for; while the node is down, the disk says so of the next one.
pub record HasMadeEntries {D : Type 0} (state : D → DiskState) (faults : D → ℕ) (start : Start)
    (number : NodeNo) (before : ℕ) (honest : Type 0) (es : List Entry) (n : NodeState D)
    : Type 0 where
  pub node : n.node ≡ number.0
  pub nodes : n.nodes ≡ start_nodes start
  pub among : number.0 < start_nodes start
  pub allowed : NodeListAllowed start number es
  pub called : AllByRecursion HasCaller es
  pub stops : AllStopWhereTheyWouldAdd (base_at start number) (start_records start number) es
  pub records : reverse n.records
      ≡ node_records (base_at start number) (start_records start number) es
  pub down : n.down ≡ is_down es
  pub pending : n.down ≡ true → n.pending
      ≡ added_by (base_at start number)
      (node_records (base_at start number) (start_records start number) es) (stopped_request es)
  pub counted : RoseBy (unasked es) before (faults n.disk)
  pub as_honest : honest → (state n.disk).honest
  pub kept : (state n.disk).honest → RestartsKeepRecordsAsAsked (Rose before (faults n.disk)) es
  pub left : n.down ≡ true → DiskStandsAsAsked state (Rose before (faults n.disk)) n (last_asked es)

-- Stations

-- a node with its number, its list, and the place that its pass knows
pub record StationState (D : Type 0) : Type 0 where
  pub number : NodeNo
  pub node : NodeState D
  pub list : List (ℕ × Entry)
  pub known : ℕ

-- the place that the pass knows, if it is there
abbrev pub known_by : {L E : Type 0} {g : _} → Option (Pass L E g) → ℕ
known_by None = 0
known_by (Some p) = (view_of p).known

-- the list of the node in its pass
abbrev pub list_in : {L E : Type 0} {g : _} → NodeNo → Pass L E g → List (ℕ × E)
list_in n p = or_empty (held (view_of p) (Node n))

-- the same, if the pass is there
abbrev pub list_by : {L E : Type 0} {g : _} → NodeNo → Option (Pass L E g) → List (ℕ × E)
list_by n None = []
list_by n (Some p) = list_in n p

-- the pass is there, of this board, owns just the node, and has this list
abbrev pub IsPassOf : {L E : Type 0} {g : _} → TableId → NodeNo → List (ℕ × E) → Option (Pass L E g)
    → Type 0
IsPassOf board n list None = ⊥
IsPassOf board n list (Some p) =
    (board_of p ≡ board) × OwnsJust (view_of p) (Node n) × (held (view_of p) (Node n) ≡ Some list)

-- the node is as its entries leave it, and its number, records, down or up are those from before,
-- as is the place that its pass knows
pub record IsAsBefore {D : Type 0} (old new : StationState D) : Type 0 where
  pub list : new.list ≡ old.list
  pub records : new.node.records ≡ old.node.records
  pub down : new.node.down ≡ old.node.down
  pub known : new.known ≡ old.known

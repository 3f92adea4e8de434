-- What the coordinator that opens and closes does to the records of the nodes. Lists of records
-- stand newest first.
use Rattle.std.specs.Prelude.{ℕ, ◌+◌, ◌-◌, ◌≡◌, ◌≤◌, ◌<◌, ◌⊎◌, Bool, true, false, List, ◌++◌}
use Rattle.std.specs.Prelude.{[], ◌∷◌}
use Rattle.std.specs.Prelude.{length}
use Rattle.std.specs.Prelude.{Option, Some, None, Contains, nat_lt, ⊤}
use Rattle.std.specs.List.{AllByRecursion, list_all}
use Rattle.atomic_table.specs.Seated.{TableId}
use Rattle.mn_base.specs.Ids.{tid_lt}
use Rattle.mn_base.specs.declared.ids.NodeNo.{NodeNo}
use Rattle.mn_base.specs.declared.ids.Tid.{Tid}
use Rattle.mn_cell.specs.Station.{StationState}
use Rattle.mn_cell.specs.declared.trace.RunCause.{RunCause}
use Rattle.mn_cell.specs.declared.trace.RunCause.TheVariants as cause
use Rattle.mn_mini.specs.declared.record.Record.{Record}
use Rattle.mn_mini.specs.declared.record.Record.TheVariants.{Voted}
use Rattle.mn_mini.specs.declared.reply.NodeReply.{NodeReply}
use Rattle.mn_mini.specs.declared.reply.NodeReply.TheVariants as Say
use Rattle.mn_mini.specs.Node.{doubts_of, held_parts, is_held}
use Rattle.mn_recov.specs.declared.stage.RecovStage.{RecovStage}
use Rattle.mn_recov.specs.declared.stage.RecovStage.TheVariants.{Looking, Found}
use Rattle.mn_recov.specs.Recovery.{Recovery, participant}
use Rattle.mn_runs.specs.declared.entry.Entry.{Entry}
use Rattle.mn_runs.specs.declared.entry.What.{What}
use Rattle.mn_runs.specs.declared.entry.What.TheVariants.{Called, Restarted}
use Rattle.mn_runs.specs.Calls.{lists_doubt}
use Rattle.mn_runs.specs.Protocol.{Start, start_nodes}
use Rattle.mn_callers.specs.Desks.{IsOfRecovery}
use Rattle.mn_callers.specs.Failed.{closer}
use Rattle.mn_callers.specs.Settled.{records_at}
use Rattle.mn_callers.specs.Turn.{IsTurn, Turn}

-- the turn is the closing coordinator's, whose list recovers alone
pub record IsClosing {D : Type 0} (board : TableId) (start : Start) (t : Turn D) : Type 0 where
  pub turn : IsTurn board (start_nodes start) t
  pub client : t.list.client ≡ closer
  pub list : IsOfRecovery start t.list

-- why the run fails by a reply, if it does
abbrev pub failure_of : NodeNo → NodeReply → Option RunCause
failure_of n Say.Stopped = Some (cause.Disk n)
failure_of n Say.Down = Some (cause.Disk n)
failure_of n Say.NoMemory = Some cause.NoMemory
failure_of n reply = None

-- Records

abbrev pub IsNoVote : Record → Type 0
IsNoVote (Voted tid participants part) = ⊥
IsNoVote r = ⊤

-- the older records with newer ones before them that are no votes
pub record Extends (older newer : List Record) : Type 0 where
  pub added : List Record
  pub no_votes : AllByRecursion IsNoVote added
  pub is : newer ≡ added ++ older

-- those of each node
abbrev pub AllExtend : {D : Type 0} → List (StationState D) → List (StationState D) → Type 0
AllExtend old new = (n : NodeNo) → Extends (records_at old n) (records_at new n)

-- the ids that are held are among these
abbrev pub AreHeldIn : List Tid → List Record → Type 0
AreHeldIn tids records = AllByRecursion (λ h. Contains tids h.tid) (held_parts records)

-- ids in order, each once
abbrev pub AreInOrder : List Tid → Type 0
AreInOrder [] = ⊤
AreInOrder (t ∷ ts) = AllByRecursion (λ u. tid_lt t u ≡ true) ts × AreInOrder ts

-- Recoveries

-- the participants that a node with these records lists for the id
abbrev pub listed_in : Tid → List Record → Option (List NodeNo)
listed_in tid records = lists_doubt tid (doubts_of (held_parts records))

abbrev pub are_nodes : ℕ → List NodeNo → Bool
are_nodes nodes participants = list_all (λ n. nat_lt n.0 nodes) participants

-- a recovery passes the list over: it lacks the id, or gives it with other than nodes of the space
abbrev pub IsPassedOver : ℕ → Option (List NodeNo) → Type 0
IsPassedOver nodes None = ⊤
IsPassedOver nodes (Some participants) = are_nodes nodes participants ≡ false

-- it passed over what these records listed earlier
pub record WasPassedOver (nodes : ℕ) (tid : Tid) (now : List Record) : Type 0 where
  pub before : List Record
  pub since : Extends before now
  pub passed : IsPassedOver nodes (listed_in tid before)

-- a node listed the id earlier with these participants, which are nodes of the space
pub record WasFound (nodes : ℕ) (tid : Tid) (participants : List NodeNo)
    (lists : NodeNo → List Record) : Type 0 where
  pub node : NodeNo
  pub among : node.0 < nodes
  pub before : List Record
  pub since : Extends before (lists node)
  pub listed : listed_in tid before ≡ Some participants
  pub there : are_nodes nodes participants ≡ true

-- the id is done with: each node was passed over, or none of the participants holds it any longer
abbrev pub IsDone : ℕ → Tid → (NodeNo → List Record) → Type 0
IsDone nodes tid lists =
    ((n : NodeNo) → n.0 < nodes → WasPassedOver nodes tid (lists n))
    ⊎ ((participants : List NodeNo) × WasFound nodes tid participants lists
    × AllByRecursion (λ n. is_held (lists n) tid ≡ false) participants)

-- how far that is, by the stage of the recovery
abbrev pub IsDoneTo : ℕ → Tid → (NodeNo → List Record) → RecovStage → Type 0
IsDoneTo nodes tid lists (Looking node) =
    (n : NodeNo) → n.0 < node → n.0 < nodes → WasPassedOver nodes tid (lists n)
IsDoneTo nodes tid lists (Found participants voted verdict decided) =
    WasFound nodes tid participants lists × (length participants ≤ 8)
    × ((i : ℕ) → i < decided → is_held (lists (participant participants i)) tid ≡ false)

-- no less than the calls that a recovery has left
abbrev pub calls_left : ℕ → RecovStage → ℕ
calls_left nodes (Looking node) = (nodes - node) + 17
calls_left nodes (Found participants voted verdict decided) =
    (length participants - voted) + (length participants - decided)

-- of the recovery that a coordinator has, if it has one
abbrev pub calls_of : Option Recovery → ℕ
calls_of None = 0
calls_of (Some r) = calls_left r.nodes r.stage

-- Its list

-- a call that is answered, or a restart
abbrev pub IsCallOrRestart : What → Type 0
IsCallOrRestart (Called request reply) = ⊤
IsCallOrRestart (Restarted kept) = ⊤
IsCallOrRestart what = ⊥

-- the list went on by such entries
pub record ClosesOn (old new : List Entry) : Type 0 where
  pub own : List Entry
  pub new_is : new ≡ own ++ old
  pub kinds : AllByRecursion (λ e. IsCallOrRestart e.what) own

-- entries at opening or closing: the closing coordinator calls nodes and restarts them; no node
-- stops
abbrev pub AreOfCloser : List Entry → Type 0
AreOfCloser es = AllByRecursion (λ e. (e.client ≡ Some closer) × IsCallOrRestart e.what) es

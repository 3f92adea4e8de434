-- A script that is being run, between two turns.
use Rattle.std.specs.Prelude.{ℕ, ◌+◌, ◌-◌, ◌≡◌, ◌≤◌, ◌<◌, List, [], length, map, nat_lt}
use Rattle.std.specs.Prelude.{nat_eq}
use Rattle.std.specs.Prelude.{if◌then◌else◌, slice_get, Some, None, IsSomeAnd}
use Rattle.std.specs.List.{AllByRecursion}
use Rattle.std.specs.Option.{option_map_or}
use Rattle.atomic_table.specs.Seated.{TableId}
use Rattle.mn_actors.specs.declared.actor.Actor.TheVariants.{Client as OfClient, Node}
use Rattle.mn_actors.specs.declared.clock.View.{View}
use Rattle.mn_actors.specs.Lists.{held}
use Rattle.mn_actors.specs.Sight.{board_of, view_of}
use Rattle.mn_base.specs.declared.ids.ClientNo.{ClientNo}
use Rattle.mn_base.specs.declared.ids.NodeNo.{NodeNo}
use Rattle.mn_cell.specs.Runs.{IsIssueOf}
use Rattle.mn_cell.specs.Station.{StationState}
use Rattle.mn_io.specs.DiskModel.{DiskState}
use Rattle.mn_mini.specs.declared.record.Record.{Record}
use Rattle.mn_node.specs.State.{NodeState}
use Rattle.mn_script.specs.Script.{Script}
use Rattle.mn_runs.specs.declared.entry.Entry.{Entry}
use Rattle.mn_runs.specs.Protocol.{Start, start_nodes, entries_of}
use Rattle.mn_callers.specs.declared.client.Client.{Client}
use Rattle.mn_callers.specs.declared.desk.Desk.{Desk}
use Rattle.mn_callers.specs.declared.callers.Callers.{Callers}
use Rattle.mn_callers.specs.declared.table.Table.{Table}
use Rattle.mn_actors.specs.declared.board.Pass.{Pass}
use Rattle.mn_callers.specs.Acts.{BeginsFirst, ops_by}
use Rattle.mn_callers.specs.Clients.{IsClient, IsOfRun, past_of}
use Rattle.mn_callers.specs.Desks.{IsDesk, IsOfRecovery}
use Rattle.mn_callers.specs.Failed.{closer}
use Rattle.mn_callers.specs.Turn.{AreStations, BoardState, IsBoard, IsTrail, callers_count, seen_of}
use Rattle.mn_callers.specs.Turn.{trail_by}

abbrev pub caller_at : ℕ → ClientNo
caller_at k = record { 0 = k }

-- Callers

-- the list of an actor: clients have the numbers from 0, the closing coordinator 16, the recovery
-- coordinators those from 17
abbrev pub list_by : Callers → ClientNo → List (ℕ × Entry)
list_by callers c =
    if nat_lt c.0 16
    then option_map_or (λ k. k.list.entries) (slice_get callers.clients.items c.0) []
    else (if nat_eq c.0 16 then callers.closer.list.entries
    else option_map_or (λ d. d.list.entries) (slice_get callers.desks.items (c.0 - 17)) [])

-- each client is one of the script, has its list of this run, and has begun the first of its
-- operations; so each recovery coordinator has its list
pub record AreCallers (start : Start) (script : Script) (callers : Callers) : Type 0 where
  pub count : length callers.clients.items ≡ length script.clients
  pub clients : (k : ℕ) (c : Client) → slice_get callers.clients.items k ≡ Some c
      → IsOfRun start script.points c
  pub begins : (k : ℕ) (c : Client) → slice_get callers.clients.items k ≡ Some c
      → BeginsFirst (ops_by script.clients (caller_at k)) (past_of c)
  pub desks : (k : ℕ) (d : Desk) → slice_get callers.desks.items k ≡ Some d → IsDesk start d
  pub closer_list : IsOfRecovery start callers.closer.list

-- each list is of the actor that it stands for
pub record HaveNumbers (callers : Callers) : Type 0 where
  pub clients : (k : ℕ) (c : Client) → slice_get callers.clients.items k ≡ Some c
      → c.list.client ≡ caller_at k
  pub closer_is : callers.closer.list.client ≡ closer
  pub desks : (k : ℕ) (d : Desk) → slice_get callers.desks.items k ≡ Some d
      → d.list.client ≡ caller_at (17 + k)

-- nothing of a client's own is left to do
abbrev pub AreReady : Start → Script → Callers → Type 0
AreReady start script callers =
    (k : ℕ) (c : Client) → slice_get callers.clients.items k ≡ Some c
    → IsClient start script.points c

-- The log

-- an actor of the board made the entry
abbrev pub IsManned : Entry → Type 0
IsManned e = IsSomeAnd e.client (λ c. c.0 < callers_count)

-- the log so far: the stations and the callers have its entries
pub record HasTrail {D : Type 0} (stations : List (StationState D)) (known : ℕ)
    (callers : Callers) : Type 0 where
  pub trail : List (ℕ × Entry)
  pub is : IsTrail stations known trail
  pub by : (c : ClientNo) → c.0 < callers_count → list_by callers c ≡ trail_by c trail
  pub manned : AllByRecursion (λ p. IsManned p.1) trail

-- The whole

-- what is seen of a play: the board of its table and of the pass `rest`, which owns the callers
pub record PlayState (D : Type 0) : Type 0 where
  pub table : BoardState
  pub stations : List (StationState D)
  pub rest : TableId
  pub view : View Entry
  pub callers : Callers

abbrev pub state_at : {N D L : _} {g : _} → Table N D → Pass L Entry g → Callers → PlayState D
state_at table rest callers = record {
  table = seen_of table.board;
  stations = table.stations.items;
  rest = board_of rest;
  view = view_of rest;
  callers = callers;
}

-- no actor has a turn: `rest` owns the callers, whose lists are of this run
pub record IsAtRest {D : Type 0} (board : TableId) (start : Start) (p : PlayState D) : Type 0 where
  pub table : IsBoard board (start_nodes start) p.table
  pub stations : AreStations (start_nodes start) p.stations
  pub passes : p.rest ≡ board
  pub owns : (c : ClientNo) → c.0 < callers_count
      → held p.view (OfClient c) ≡ Some (list_by p.callers c)
  pub no_others : (c : ClientNo) → callers_count ≤ c.0 → held p.view (OfClient c) ≡ None
  pub no_nodes : (n : NodeNo) → held p.view (Node n) ≡ None
  pub of_run : (c : ClientNo) → c.0 < callers_count
      → AllByRecursion (IsIssueOf start) (entries_of (list_by p.callers c))
  pub few : length p.callers.clients.items ≤ 16
  pub four : length p.callers.desks.items ≡ 4
  pub numbers : HaveNumbers p.callers

-- and the callers are those of the script
pub record IsPlay {D : Type 0} (board : TableId) (start : Start) (script : Script)
    (p : PlayState D) : Type 0 where
  pub nodes : start_nodes start ≡ script.nodes
  pub rests : IsAtRest board start p
  pub callers : AreCallers start script p.callers

-- it is the play of some script
abbrev pub IsOfSome : {D : Type 0} → TableId → Start → PlayState D → Type 0
IsOfSome board start p = (script : Script) × IsPlay board start script p

-- whatever script it played, it still does
abbrev pub StaysPlay : {D : Type 0} → TableId → Start → PlayState D → PlayState D → Type 0
StaysPlay board start old new =
    (script : Script) → IsPlay board start script old → IsPlay board start script new

-- where nothing of a client's own was left to do, nothing is
abbrev pub StayReady : Start → Callers → Callers → Type 0
StayReady start old new =
    (script : Script) → AreReady start script old → AreReady start script new

-- The meanings that the run names

-- they are those of the nodes that were given
pub record NamesGiven {D : Type 0} (state : D → DiskState) (faults : D → ℕ)
    (records : List (List Record)) (counts : ℕ → ℕ) (honest : ℕ → Type 0)
    (given : List (NodeState D)) : Type 0 where
  pub records_are : records ≡ map (λ m. m.records) given
  pub counted : (k : ℕ) (m : NodeState D) → slice_get given k ≡ Some m
      → counts k ≡ faults m.disk
  pub is_honest : (k : ℕ) (m : NodeState D) → slice_get given k ≡ Some m
      → (honest k → (state m.disk).honest) × ((state m.disk).honest → honest k)

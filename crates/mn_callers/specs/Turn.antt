-- The turn of an actor: what it sees of the run while it acts, and how the log goes on by it. A
-- trail is the log so far, newest first.
use Rattle.std.specs.Prelude.{ℕ, ◌≡◌, ◌≤◌, List, ◌++◌, length, filter, map, reverse}
use Rattle.std.specs.Prelude.{Option, Some, slice_get}
use Rattle.std.specs.Option.{option_map}
use Rattle.atomic_table.specs.Seated.{TableId}
use Rattle.mn_actors.specs.declared.board.Board.{Board}
use Rattle.mn_actors.specs.declared.board.Pass.{Pass}
use Rattle.mn_actors.specs.declared.clock.View.{View}
use Rattle.mn_actors.specs.Sight.{board_of, clients_of, id_of, nodes_of, view_of}
use Rattle.mn_base.specs.declared.ids.ClientNo.{ClientNo}
use Rattle.mn_cell.specs.Calls.{numbered}
use Rattle.mn_cell.specs.Station.{StationState}
use Rattle.mn_runs.specs.declared.entry.Entry.{Entry}
use Rattle.mn_runs.specs.Calls.{is_at, is_by}
use Rattle.mn_runs.specs.Lists.{ClientState}
use Rattle.mn_callers.specs.Hands.{Fall, Hand, HasTurn, MovesOn}
use Rattle.mn_callers.specs.declared.table.Table.{Table}

-- What an actor sees

-- how many actors a board has that call nodes: the clients, the coordinator that opens and closes,
-- and the recovery coordinators
abbrev pub callers_count : ℕ
callers_count = 21

-- a board: which it is, and how many nodes and callers it has
pub record BoardState : Type 0 where
  pub id : TableId
  pub nodes : ℕ
  pub clients : ℕ

abbrev pub seen_of : {L E : Type 0} → Board L E → BoardState
seen_of b = record { id = id_of b; nodes = nodes_of b; clients = clients_of b }

-- it is this board, of so many nodes and of all callers
abbrev pub IsBoard : TableId → ℕ → BoardState → Type 0
IsBoard board nodes b = (b.id ≡ board) × (b.nodes ≡ nodes) × (b.clients ≡ callers_count)

-- the board, the stations of the nodes, and the actor's pass and list
pub record Turn (D : Type 0) : Type 0 where
  pub table : BoardState
  pub stations : List (StationState D)
  pub board : TableId
  pub view : View Entry
  pub list : ClientState

abbrev pub turn_at : {N D L : _} {g : _} → Table N D → Pass L Entry g → ClientState → Turn D
turn_at table pass list = record {
  table = seen_of table.board;
  stations = table.stations.items;
  board = board_of pass;
  view = view_of pass;
  list = list;
}

-- the stations of so many nodes, in order
pub record AreStations {D : Type 0} (nodes : ℕ) (stations : List (StationState D)) : Type 0 where
  pub count : length stations ≡ nodes
  pub few : nodes ≤ 8
  pub in_order : (k : ℕ) (s : StationState D) → slice_get stations k ≡ Some s
      → s.number ≡ numbered k

-- the board is this, of so many nodes, and the stations are theirs
pub record IsTable {D : Type 0} (board : TableId) (nodes : ℕ) (seen : BoardState)
    (theirs : List (StationState D)) : Type 0 where
  pub table : IsBoard board nodes seen
  pub stations : AreStations nodes theirs

-- what the actor has in hand
abbrev pub hand_in : {D : Type 0} → Turn D → Hand
hand_in t = record { board = t.board; view = t.view; list = t.list }

-- it is a turn in the run of this board and of so many nodes
abbrev pub IsTurn : {D : Type 0} → TableId → ℕ → Turn D → Type 0
IsTurn board nodes t = HasTurn board (IsTable board nodes t.table t.stations) (hand_in t)

-- The log

-- its entries
abbrev pub past_in : List (ℕ × Entry) → List Entry
past_in trail = map (λ p. p.1) trail

-- the entries of the trail at the node, and those by the actor, oldest first
abbrev pub trail_at : ℕ → List (ℕ × Entry) → List (ℕ × Entry)
trail_at k trail = reverse (filter (λ p. is_at (numbered k) p.1) trail)

abbrev pub trail_by : ClientNo → List (ℕ × Entry) → List (ℕ × Entry)
trail_by c trail = reverse (filter (λ p. is_by c p.1) trail)

-- the stations have the entries of the trail, whose places are known
pub record IsTrail {D : Type 0} (stations : List (StationState D)) (known : ℕ)
    (trail : List (ℕ × Entry)) : Type 0 where
  pub at_nodes : (k : ℕ) (s : StationState D) → slice_get stations k ≡ Some s
      → s.list ≡ trail_at k trail
  pub falling : Fall known trail

-- the list of the station of this number, if there is one
abbrev pub list_at : {D : Type 0} → ℕ → List (StationState D) → Option (List (ℕ × Entry))
list_at k stations = option_map (λ s. s.list) (slice_get stations k)

-- each station's list went on by those of these entries, newest first, that are at its node
abbrev pub StationsWent : {D : Type 0} → List (StationState D) → List (StationState D)
    → List (ℕ × Entry) → Type 0
StationsWent old new own =
    (k : ℕ) → list_at k new ≡ option_map (λ l. l ++ trail_at k own) (list_at k old)

-- the log went on by entries of the actor alone, which ended its list
abbrev pub ExtendsLog : {D : Type 0} → Turn D → Turn D → Type 0
ExtendsLog old new = MovesOn (StationsWent old.stations new.stations) (hand_in old) (hand_in new)

-- What contracts see of a board and of a pass.
use Rattle.std.specs.Prelude.{ℕ}
use Rattle.atomic_table.specs.Seated.{TableId}
use Rattle.mn_actors.specs.declared.board.Board.{Board}
use Rattle.mn_actors.specs.declared.board.Pass.{Pass}
use Rattle.mn_actors.specs.declared.clock.View.{View}

-- which board it is
abbrev pub id_of : {L E : Type 0} → Board L E → TableId
id_of b = b.table.shared.table_id

-- how many nodes it has
abbrev pub nodes_of : {L E : Type 0} → Board L E → ℕ
nodes_of b = b.table.shared.key.nodes

-- how many clients it has
abbrev pub clients_of : {L E : Type 0} → Board L E → ℕ
clients_of b = b.table.shared.key.clients

-- the board that the pass is of
abbrev pub board_of : {L E : Type 0} {g : _} → Pass L E g → TableId
board_of p = p.seat.table_id

-- what the pass knows
abbrev pub view_of : {L E : Type 0} {g : _} → Pass L E g → View E
view_of p = p.seat.me.0

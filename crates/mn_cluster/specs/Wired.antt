-- A run's board and cells as one thread reaches them.
use Rattle.std.specs.Prelude.{ℕ, ◌≡◌, ◌≤◌, Bool, List}
use Rattle.atomic_table.specs.Seated.{TableId}
use Rattle.mn_cell.specs.Filled.{filled_to}

-- the board is this, and the cells of so many nodes are filled
pub record IsWired (board : TableId) (count : ℕ) (seen : TableId) (nodes : ℕ)
    (filled : List Bool) : Type 0 where
  pub board_is : seen ≡ board
  pub nodes_are : nodes ≡ count
  pub few : count ≤ 8
  pub filled_are : filled ≡ filled_to count

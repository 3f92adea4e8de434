-- A run that has begun.
use Rattle.std.specs.Prelude.{ℕ, ◌≡◌, ◌≤◌, [], vec_capacity}
use Rattle.mn_callers.specs.declared.begun.Begun.{Begun}
use Rattle.mn_callers.specs.Turn.{callers_count}

-- it has the rooms for its end: for so many nodes and for the lists of all callers, of which none
-- stands there
pub record HasRooms {N D G : _} (nodes : ℕ) (begun : Begun N D G) : Type 0 where
  pub empty : begun.nodes.items ≡ []
  pub room : nodes ≤ vec_capacity begun.nodes
  pub no_lists : begun.lists.items ≡ []
  pub lists_room : callers_count ≤ vec_capacity begun.lists

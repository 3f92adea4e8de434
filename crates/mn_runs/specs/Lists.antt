-- The entries of one client, and the room for further ones.
use Rattle.std.specs.Prelude.{ℕ, ◌≤◌, ◌-◌, ◌^◌, List}
use Rattle.mn_base.specs.declared.ids.ClientNo.{ClientNo}
use Rattle.mn_runs.specs.declared.entry.Entry.{Entry}

-- whose list it is, its entries with their places, and for how many further ones there is room
pub record ClientState : Type 0 where
  pub client : ClientNo
  pub entries : List (ℕ × Entry)
  pub room : ℕ

-- clients have the numbers 0 to 20; the memory has the room, and within it the list stays as short
-- as a log's may be
pub record IsClientList (client : ClientNo) (size capacity room : ℕ) : Type 0 where
  pub known : client.0 ≤ 20
  pub there : room ≤ capacity - size
  pub short : room ≤ 2 ^ 57 - size

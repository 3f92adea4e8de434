-- The generated script.
use Rattle.std.specs.Prelude.{ℕ, zero, suc, ◌+◌, ◌%◌, List, [], ◌∷◌, ◌++◌, map, flat_map, codes}
use Rattle.std.specs.List.{range_with_len}
use Rattle.mn_base.specs.declared.gate.StopAt.{StopAt}
use Rattle.mn_base.specs.declared.gate.StopAt.TheVariants.{Before, Half, After}
use Rattle.mn_base.specs.declared.op.Op.{Op}
use Rattle.mn_base.specs.declared.op.Op.TheVariants.{Tx, Snapshot}
use Rattle.mn_script.specs.declared.elements.Mark.TheVariants.{Plain, First, Last}
use Rattle.mn_script.specs.declared.elements.ScriptClient.{ScriptClient}
use Rattle.mn_script.specs.declared.elements.Point.{Point}
use Rattle.mn_script.specs.declared.elements.Point.TheVariants.{Stop}
use Rattle.mn_script.specs.Script.{Script}
use Rattle.mn_gen.specs.Accounts.{put_of}
use Rattle.mn_gen.specs.Work.{scan_of, worked}

-- the numbers from 0 to 7
abbrev pub eight : List ℕ
eight = range_with_len 0 8

-- puts 100 into an account
abbrev pub opening : ℕ → ℕ → Op
opening client account = Tx (codes "main") (put_of client account 100 ∷ [])

-- puts 100 into each account of a client
abbrev pub openings : ℕ → List Op
openings client = map (opening client) eight

-- the client that opens the accounts of all others, and then goes on in `w`
abbrev pub opener : ScriptClient
opener = record {
  name = codes "s";
  mark = First;
  ops = flat_map openings eight ++ Snapshot (codes "main") (codes "w") ∷ [];
}

-- a client that moves between its accounts in 400 operations, from this state of the draws
abbrev pub mover_from : ℕ → ℕ → ScriptClient
mover_from state client = record {
  name = 99 ∷ (48 + client) ∷ [];
  mark = Plain;
  ops = (worked client state 400).ops;
}

-- the state behind its draws
abbrev pub state_behind : ℕ → ℕ → ℕ
state_behind state client = (worked client state 400).books.state

-- the state where client `c0`, `c1` and so on begins: one stream goes over all
unfoldable pub state_at : ℕ → ℕ → ℕ
state_at number zero = number
state_at number (suc client) = state_behind (state_at number client) client

abbrev pub mover : ℕ → ℕ → ScriptClient
mover number client = mover_from (state_at number client) client

-- the client that looks at the end
abbrev pub closer : ScriptClient
closer = record {
  name = codes "z";
  mark = Last;
  ops = Snapshot (codes "w") (codes "w2") ∷ scan_of (codes "w") ∷ [];
}

abbrev pub clients_of : ℕ → List ScriptClient
clients_of number = opener ∷ map (mover number) eight ++ closer ∷ []

-- a node stops in an operation of client `c1`, `c2` or `c3`
abbrev pub stop_of : ℕ → ℕ → ℕ → StopAt → Point
stop_of nodes which number at =
    Stop (record { 0 = which % nodes }) (record { 0 = which + 1 }) number at

abbrev pub points_of : ℕ → List Point
points_of nodes =
    stop_of nodes 1 30 After ∷ stop_of nodes 2 60 Half ∷ stop_of nodes 3 90 Before ∷ []

-- the script of a number for so many nodes
unfoldable pub generated : ℕ → ℕ → Script
generated nodes number = record {
  nodes = nodes;
  recoverers = 2;
  clients = clients_of number;
  points = points_of nodes;
  schedule = [];
}

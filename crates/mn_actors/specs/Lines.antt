-- Actors, and entries with the actors that make them.
use Rattle.std.specs.Prelude.{ℕ, ◌<◌, Bool, false, Option, Some, None}
use Rattle.mn_base.specs.declared.ids.NodeNo.{NodeNo}
use Rattle.mn_base.specs.declared.ids.ClientNo.{ClientNo}
use Rattle.mn_base.specs.Ids.{node_same, client_same}
use Rattle.mn_actors.specs.declared.actor.Actor.{Actor}
use Rattle.mn_actors.specs.declared.actor.Actor.TheVariants.{Node, Client}

abbrev pub node_at : ℕ → Actor
node_at k = Node (record { 0 = k })

abbrev pub client_at : ℕ → Actor
client_at k = Client (record { 0 = k })

abbrev pub same_actor : Actor → Actor → Bool
same_actor (Node n) (Node m) = node_same n m
same_actor (Node n) (Client d) = false
same_actor (Client c) (Node m) = false
same_actor (Client c) (Client d) = client_same c d

-- the actor is one of a board with this many nodes and clients
abbrev pub IsActor : ℕ → ℕ → Actor → Type 0
IsActor nodes clients (Node n) = n.0 < nodes
IsActor nodes clients (Client c) = c.0 < clients

-- an entry with the actors that make it
pub record Line (E : Type 0) : Type 0 where
  pub node : Option NodeNo
  pub client : Option ClientNo
  pub entry : E

abbrev pub line : {E : Type 0} → Option NodeNo → Option ClientNo → E → Line E
line n c e = record { node = n; client = c; entry = e }

-- there is a node, and it is k
abbrev pub is_node : Option NodeNo → NodeNo → Bool
is_node None k = false
is_node (Some n) k = node_same k n

-- there is a client, and it is k
abbrev pub is_client : Option ClientNo → ClientNo → Bool
is_client None k = false
is_client (Some c) k = client_same k c

-- the actor makes the line, so that it stands in the actor's list
abbrev pub stands_in : {E : Type 0} → Actor → Line E → Bool
stands_in (Node n) x = is_node x.node n
stands_in (Client c) x = is_client x.client c

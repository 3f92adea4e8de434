-- The lists that a pass owns, and what each call does to them.
use Rattle.std.specs.Prelude.{ℕ, ◌≡◌, ◌+◌, ◌^◌, ◌<◌, max, false, Option, Some, None, List, [], ◌∷◌}
use Rattle.std.specs.Prelude.{◌++◌, length, slice_index_or}
use Rattle.mn_base.specs.declared.ids.NodeNo.{NodeNo}
use Rattle.mn_base.specs.declared.ids.ClientNo.{ClientNo}
use Rattle.mn_actors.specs.declared.actor.Actor.{Actor}
use Rattle.mn_actors.specs.declared.actor.Actor.TheVariants.{Node, Client}
use Rattle.mn_actors.specs.declared.clock.View.{View}
use Rattle.mn_actors.specs.Lines.{Line, stands_in, same_actor, IsActor}

-- there is a node or a client
abbrev pub SomeActor : Option NodeNo → Option ClientNo → Type 0
SomeActor None None = ⊥
SomeActor None (Some c) = Unit {0}
SomeActor (Some n) c = Unit {0}

module _ {E : Type 0} where
  -- the list of an actor, if the pass owns it: its entries with their places
  abbrev pub held : View E → Actor → Option (List (ℕ × E))
  held v (Node n) = slice_index_or v.nodes n.0 None
  held v (Client c) = slice_index_or v.clients c.0 None

  -- the pass owns the actor
  abbrev pub Owns : View E → Actor → Type 0
  Owns v a = (l : List (ℕ × E)) × (held v a ≡ Some l)

  -- the pass owns all actors of the board
  abbrev pub OwnsAll : ℕ → ℕ → View E → Type 0
  OwnsAll nodes clients v = (a : Actor) → IsActor nodes clients a → Owns v a

  -- the pass owns the actor, whose list may grow
  abbrev pub HasRoom : View E → Actor → Type 0
  HasRoom v a = (l : List (ℕ × E)) × (held v a ≡ Some l) × (length l < 2 ^ 58)

  abbrev pub or_empty : Option (List (ℕ × E)) → List (ℕ × E)
  or_empty None = []
  or_empty (Some l) = l

  -- the list of the node, empty where there is none
  abbrev pub own_node : View E → Option NodeNo → List (ℕ × E)
  own_node v None = []
  own_node v (Some n) = or_empty (held v (Node n))

  -- the list of the client, empty where there is none
  abbrev pub own_client : View E → Option ClientNo → List (ℕ × E)
  own_client v None = []
  own_client v (Some c) = or_empty (held v (Client c))

  -- the pass owns the node, if there is one, and its list may grow
  abbrev pub NodeRoom : View E → Option NodeNo → Type 0
  NodeRoom v None = Unit {0}
  NodeRoom v (Some n) = HasRoom v (Node n)

  -- the pass owns the client, if there is one, and its list may grow
  abbrev pub ClientRoom : View E → Option ClientNo → Type 0
  ClientRoom v None = Unit {0}
  ClientRoom v (Some c) = HasRoom v (Client c)

  -- the pass may add the line: it owns the actors, of which there is one at least, and the line is
  -- legal by their lists
  pub record MayAppend (legal : List (ℕ × E) → List (ℕ × E) → Line E → Type 0) (v : View E)
      (x : Line E) : Type 0 where
    pub some_actor : SomeActor x.node x.client
    pub node_room : NodeRoom v x.node
    pub client_room : ClientRoom v x.client
    pub is_legal : legal (own_node v x.node) (own_client v x.client) x

  abbrev pub grow : Option (List (ℕ × E)) → ℕ × E → Option (List (ℕ × E))
  grow None e = None
  grow (Some l) e = Some (l ++ e ∷ [])

  -- the entry ends the list of the node, if there is one
  abbrev pub NodeGrows : View E → View E → Option NodeNo → ℕ × E → Type 0
  NodeGrows v w None e = Unit {0}
  NodeGrows v w (Some n) e = held w (Node n) ≡ grow (held v (Node n)) e

  -- the entry ends the list of the client, if there is one
  abbrev pub ClientGrows : View E → View E → Option ClientNo → ℕ × E → Type 0
  ClientGrows v w None e = Unit {0}
  ClientGrows v w (Some c) e = held w (Client c) ≡ grow (held v (Client c)) e

  -- v became w by a line at the place: it ends the lists of its actors, and the others stay
  pub record IsAppended (v : View E) (place : ℕ) (x : Line E) (w : View E) : Type 0 where
    pub known : w.known ≡ place + 1
    pub node_list : NodeGrows v w x.node (place, x.entry)
    pub client_list : ClientGrows v w x.client (place, x.entry)
    pub others : (a : Actor) → stands_in a x ≡ false → held w a ≡ held v a

  abbrev pub IsSameLists : View E → View E → Type 0
  IsSameLists v w = (a : Actor) → held w a ≡ held v a

  abbrev pub or_else : Option (List (ℕ × E)) → Option (List (ℕ × E)) → Option (List (ℕ × E))
  or_else None p = p
  or_else (Some l) p = Some l

  -- v and w became u, which owns what either did
  pub record IsJoined (v w u : View E) : Type 0 where
    pub known : u.known ≡ max v.known w.known
    pub lists : (a : Actor) → held u a ≡ or_else (held v a) (held w a)

  -- v became w and u: u owns the actor alone, and w the others
  pub record IsSplit (v : View E) (a : Actor) (w u : View E) : Type 0 where
    pub known : (w.known ≡ v.known) × (u.known ≡ v.known)
    pub given : (held u a ≡ held v a) × (held w a ≡ None)
    pub others : (b : Actor) → same_actor b a ≡ false → (held w b ≡ held v b) × (held u b ≡ None)

-- Passes of one actor.
use Rattle.std.specs.Prelude.{ℕ, ◌≡◌, ◌+◌, false, None, List}
use Rattle.mn_base.specs.declared.ids.ClientNo.{ClientNo}
use Rattle.mn_base.specs.declared.ids.NodeNo.{NodeNo}
use Rattle.mn_actors.specs.declared.actor.Actor.{Actor}
use Rattle.mn_actors.specs.declared.actor.Actor.TheVariants.{Node, Client}
use Rattle.mn_actors.specs.declared.clock.View.{View}
use Rattle.mn_actors.specs.Lines.{Line, same_actor}
use Rattle.mn_actors.specs.Lists.{held, grow, IsSameLists, Owns}
use Rattle.mn_actors.specs.Rule.{IsLegalLog, list_of}

module _ {E : Type 0} where
  -- it owns the actor and no other
  abbrev pub OwnsJust : View E → Actor → Type 0
  OwnsJust v a = Owns v a × ((b : Actor) → same_actor b a ≡ false → held v b ≡ None)

  -- the actor's list has this entry more, with its place, which is known
  abbrev pub ListHasGrown : View E → Actor → ℕ × E → View E → Type 0
  ListHasGrown v a e w = (held w a ≡ grow (held v a) e) × OwnsJust w a × (w.known ≡ e.0 + 1)

  -- it knows the same place and owns the same lists
  abbrev pub IsSameView : View E → View E → Type 0
  IsSameView v w = (w.known ≡ v.known) × IsSameLists v w

  -- the lists of a node and of a client are those of one log, each of whose lines was legal when it
  -- was added
  pub record AreOfOneLog (legal : List (ℕ × E) → List (ℕ × E) → Line E → Type 0) (n : NodeNo)
      (c : ClientNo) (node client : List (ℕ × E)) : Type 0 where
    pub log : List (Line E)
    pub legal_log : IsLegalLog legal log
    pub at_node : node ≡ list_of (Node n) log
    pub by_client : client ≡ list_of (Client c) log

-- Callers that have become workers, and have become callers again.
use Rattle.std.specs.Prelude.{ℕ, ◌+◌, ◌≡◌, List, [], ◌∷◌, map, slice_get, ⊤}
use Rattle.std.specs.Prelude.{Option, Some, None, Ok, false, if◌then◌else◌}
use Rattle.std.specs.List.{AllByRecursion}
use Rattle.atomic_table.specs.Seated.{TableId}
use Rattle.mn_actors.specs.declared.actor.Actor.{Actor}
use Rattle.mn_actors.specs.declared.actor.Actor.TheVariants as actors
use Rattle.mn_actors.specs.declared.clock.View.{View}
use Rattle.mn_actors.specs.Lines.{same_actor}
use Rattle.mn_actors.specs.Lists.{held}
use Rattle.mn_actors.specs.Sight.{view_of}
use Rattle.mn_base.specs.Ids.{client_same}
use Rattle.mn_base.specs.declared.ids.ClientNo.{ClientNo}
use Rattle.mn_callers.specs.declared.client.Client.{Client as OneClient}
use Rattle.mn_callers.specs.declared.desk.Desk.{Desk}
use Rattle.mn_callers.specs.Hands.{HasTurn}
use Rattle.mn_callers.specs.Plays.{caller_at}
use Rattle.mn_cluster.specs.declared.worker.Role.{Role}
use Rattle.mn_cluster.specs.declared.worker.Role.TheVariants.{Client, Recoverer}
use Rattle.mn_cluster.specs.declared.worker.Worker.{Worker}
use Rattle.mn_cluster.specs.Workers.{hand_with, list_of}
use Rattle.mn_runs.specs.declared.entry.Entry.{Entry}

-- Roles

abbrev pub roles_of : List Worker → List Role
roles_of workers = map (λ w. w.role) workers

abbrev pub desk_roles : List Desk → List Role
desk_roles desks = map (λ d. Recoverer d) desks

-- those of clients that have found memory so far
abbrev pub client_roles : List OneClient → List Role
client_roles clients = map (λ c. Client c (Ok tt)) clients

-- the recovery coordinators among them, in order, and the clients
abbrev pub desks_in : List Role → List Desk
desks_in [] = []
desks_in (Client c done ∷ roles) = desks_in roles
desks_in (Recoverer d ∷ roles) = d ∷ desks_in roles

abbrev pub clients_in : List Role → List OneClient
clients_in [] = []
clients_in (Client c done ∷ roles) = c ∷ clients_in roles
clients_in (Recoverer d ∷ roles) = clients_in roles

-- the list of the actor, if one of them has it
abbrev pub list_in : List Role → ClientNo → Option (List (ℕ × Entry))
list_in [] c = None
list_in (role ∷ roles) c =
    if client_same c (list_of role).client then Some (list_of role).entries else list_in roles c

-- it found memory for all that it did
abbrev pub IsDone : Role → Type 0
IsDone (Client c done) = done ≡ Ok tt
IsDone (Recoverer d) = ⊤

-- their actors have the numbers from this one on, in order, and the pass has their lists
abbrev pub AreInOrder : ℕ → List Role → View Entry → Type 0
AreInOrder from roles v =
    (k : ℕ) (role : Role) → slice_get roles k ≡ Some role
    → ((list_of role).client ≡ caller_at (from + k))
    × (held v (actors.Client (list_of role).client) ≡ Some (list_of role).entries)

-- Passes

-- each has its turn on the board, and knows this place
abbrev pub AreHired : TableId → ℕ → List Worker → Type 0
AreHired board known workers =
    AllByRecursion (λ w. HasTurn board ⊤ (hand_with w) × ((view_of w.pass).known ≡ known)) workers

-- each has its turn
abbrev pub HaveTurns : TableId → List Worker → Type 0
HaveTurns board workers = AllByRecursion (λ w. HasTurn board ⊤ (hand_with w)) workers

-- none, where there is the first; else the other
abbrev pub unless : {X Y : Type 0} → Option X → Option Y → Option Y
unless None o = o
unless (Some x) o = None

-- the pass owns the actor no longer, and the others as before
pub record IsWithout (c : ClientNo) (v w : View Entry) : Type 0 where
  pub known : w.known ≡ v.known
  pub gone : held w (actors.Client c) ≡ None
  pub others : (a : Actor) → same_actor a (actors.Client c) ≡ false → held w a ≡ held v a

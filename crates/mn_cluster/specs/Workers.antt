-- Callers that work on threads of their own.
use Rattle.std.specs.Prelude.{◌+◌, ◌≡◌, Bool, nat_le, ◌<◌, length, Ok, OnOk, MatchBool}
use Rattle.std.specs.Prelude.{⊤}
use Rattle.atomic_table.specs.Seated.{TableId}
use Rattle.mn_base.specs.declared.ids.ClientNo.{ClientNo}
use Rattle.mn_cluster.specs.declared.worker.Role.{Role}
use Rattle.mn_cluster.specs.declared.worker.Role.TheVariants.{Client, Recoverer}
use Rattle.mn_cluster.specs.declared.worker.Worker.{Worker}
use Rattle.mn_cluster.specs.Marks.{is_marked}
use Rattle.mn_callers.specs.Acts.{DoesAll, ops_by, role_of}
use Rattle.mn_callers.specs.Clients.{IsClient, IsOfRun, past_of}
use Rattle.mn_callers.specs.Desks.{IsDesk, RecoversOn}
use Rattle.mn_callers.specs.Going.{KeepsOrder}
use Rattle.mn_callers.specs.Hands.{Hand, HasTurn, MovesOn, hand_of}
use Rattle.mn_script.specs.declared.elements.Mark.TheVariants.{Plain}
use Rattle.mn_script.specs.Script.{Script}
use Rattle.mn_runs.specs.Lists.{ClientState}
use Rattle.mn_runs.specs.Protocol.{Start, entries_of}

-- the list of who works
abbrev pub list_of : Role → ClientState
list_of (Client c done) = c.list
list_of (Recoverer d) = d.list

-- the worker's pass and list
abbrev pub hand_with : Worker → Hand
hand_with w = hand_of w.pass (list_of w.role)

-- the recovery coordinator is one of the script's
abbrev pub is_of_script : Script → ClientNo → Bool
is_of_script script c = nat_le c.0 (16 + script.recoverers)

-- a client of the script that is ready, or a recovery coordinator
abbrev pub IsRole : Start → Script → Role → Type 0
IsRole start script (Client c done) =
    IsClient start script.points c × (c.list.client.0 < length script.clients)
    × (done ≡ Ok tt)
IsRole start script (Recoverer d) = IsDesk start d

-- before it works: it has its turn
pub record IsWorker (board : TableId) (start : Start) (script : Script) (w : Worker)
    : Type 0 where
  pub turn : HasTurn board ⊤ (hand_with w)
  pub role_is : IsRole start script w.role

-- A client without a mark did all its operations, or found no memory; one with a mark did nothing;
-- either way it began its operations in order. A recovery coordinator of the script recovered what
-- it found; another did nothing.
abbrev pub DidWork : Start → Script → Role → Role → Type 0
DidWork start script (Client c was) (Client d is) =
    IsOfRun start script.points d × OnOk is (IsClient start script.points d)
    × MatchBool (is_marked Plain script c.list.client)
    (OnOk is (DoesAll (role_of script c.list.client) (past_of c) (past_of d)))
    ((d ≡ c) × (is ≡ was))
    × KeepsOrder (ops_by script.clients c.list.client) (past_of c) (past_of d)
DidWork start script (Recoverer c) (Recoverer d) =
    IsDesk start d
    × MatchBool (is_of_script script c.list.client)
    (RecoversOn (entries_of c.list.entries) (entries_of d.list.entries)) (d ≡ c)
DidWork start script was is = ⊥

-- and behind it: its list went on by what it did
pub record HasWorked (board : TableId) (start : Start) (script : Script) (old new : Worker)
    : Type 0 where
  pub turn : HasTurn board ⊤ (hand_with new)
  pub moves : MovesOn (λ own. ⊤) (hand_with old) (hand_with new)
  pub did : DidWork start script old.role new.role

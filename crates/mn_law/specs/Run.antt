-- Runs: each entry keeps the protocol, and means what it says.
use Rattle.std.specs.Prelude.{ℕ, ◌≡◌, List, [], ◌∷◌, length, map, Option, Some, None, ⊤, ◌<◌}
use Rattle.std.specs.List.{range_with_len, AllByRecursion}
use Rattle.mn_base.specs.declared.ids.NodeNo.{NodeNo}
use Rattle.mn_base.specs.declared.ids.ClientNo.{ClientNo}
use Rattle.mn_runs.specs.declared.entry.Entry.{Entry}
use Rattle.mn_runs.specs.declared.entry.What.{What}
use Rattle.mn_runs.specs.Calls.{client_entries, node_entries}
use Rattle.mn_runs.specs.Clients.{ClientAllows}
use Rattle.mn_runs.specs.Protocol.{Start, IsActor, IsOwnStep, IsNodeStep, KeepsProtocol}
use Rattle.mn_runs.specs.Protocol.{FollowsProtocol, entries_of, start_nodes, IsOfRun}
use Rattle.mn_runs.specs.Protocol.{NodeListAllowed}
use Rattle.mn_law.specs.Answers.{MeansBy}

-- the meaning of a step, by its client's own list
abbrev pub Means : List Entry → Option ClientNo → What → Type 0
Means past None what = ⊤
Means past (Some c) what = MeansBy (client_entries c past) what

-- an entry is legal after these entries
pub record IsLegalStep (start : Start) (past : List Entry) (e : Entry) : Type 0 where
  pub keeps : KeepsProtocol start past e
  pub means : Means past e.client e.what

-- each entry is; newest first
abbrev pub IsRun : Start → List Entry → Type 0
IsRun start [] = ⊤
IsRun start (e ∷ past) = IsRun start past × IsLegalStep start past e

-- Legality by lists

-- a step at no node is one that a client takes alone
abbrev pub HasNode : Option NodeNo → What → Type 0
HasNode None what = IsOwnStep what
HasNode (Some n) what = ⊤

-- a step with no client is one that a node takes with no caller; any other is allowed by the
-- client's own list, and means what it says
abbrev pub IsCallersStep : List Entry → Option ClientNo → Option NodeNo → What → Type 0
IsCallersStep es None at what = IsNodeStep what
IsCallersStep es (Some c) at what = ClientAllows c es at what × MeansBy es what

-- an entry is legal by what its client's own list held, whatever the records, the number of nodes
-- and the run's number
pub record IsLegalBy (es : List Entry) (e : Entry) : Type 0 where
  pub actor : IsActor e.client
  pub node : HasNode e.node e.what
  pub step : IsCallersStep es e.client e.node e.what

-- Recorded logs

-- a recorded log is a run: its places count from 0
pub record IsLogOfRun (start : Start) (log : List (ℕ × Entry)) : Type 0 where
  pub places : map (λ p. p.0) log ≡ range_with_len 0 (length log)
  pub run : IsRun start (entries_of log)

-- a run keeps the protocol
abbrev pub RunsFollowProtocol : Type 0
RunsFollowProtocol =
    (start : Start) (past : List Entry) → IsRun start past → FollowsProtocol start past

-- Runs by lists

-- each entry of a client's list is legal by the ones before it
abbrev pub ClientListLegal : List Entry → Type 0
ClientListLegal [] = ⊤
ClientListLegal (e ∷ es) = ClientListLegal es × IsLegalBy es e

-- an entry of the run: at one of its nodes if at any, of this run's number, and legal without a
-- list where no client makes it
abbrev pub IsAtNode : Start → Option NodeNo → Type 0
IsAtNode start None = ⊤
IsAtNode start (Some n) = n.0 < start_nodes start

abbrev pub IsLegalAlone : Entry → Option ClientNo → Type 0
IsLegalAlone e None = IsLegalBy [] e
IsLegalAlone e (Some c) = ⊤

abbrev pub IsEntryOf : Start → Entry → Type 0
IsEntryOf start e = IsAtNode start e.node × IsOfRun start e.what × IsLegalAlone e e.client

-- a log whose actors' lists are allowed and legal one by one is a run
abbrev pub ListsMakeRun : Type 0
ListsMakeRun =
    (start : Start) (past : List Entry)
    → ((n : NodeNo) → NodeListAllowed start n (node_entries n past))
    → ((c : ClientNo) → ClientListLegal (client_entries c past))
    → AllByRecursion (IsEntryOf start) past → IsRun start past

-- Runs: each entry is allowed by what its actors' lists held before it.
use Rattle.std.specs.Prelude.{ℕ, ◌+◌, ◌≡◌, ◌<◌, ◌≤◌, List, [], ◌∷◌, length, reverse, Option, Some}
use Rattle.std.specs.Prelude.{None, ⊤, nat_lt, if◌then◌else◌, slice_index_or, false, map}
use Rattle.std.specs.List.{flat_map}
use Rattle.mn_base.specs.declared.ids.NodeNo.{NodeNo}
use Rattle.mn_base.specs.declared.ids.ClientNo.{ClientNo}
use Rattle.mn_mini.specs.declared.record.Record.{Record}
use Rattle.mn_mini.specs.Node.{greatest_run, held_parts}
use Rattle.mn_page.specs.Base.{base_of}
use Rattle.mn_runs.specs.declared.entry.Entry.{Entry}
use Rattle.mn_runs.specs.declared.entry.What.{What}
use Rattle.mn_runs.specs.declared.entry.What.TheVariants.{Issue, Called, Stopped, Restarted}
use Rattle.mn_runs.specs.Calls.{node_entries, client_entries}
use Rattle.mn_runs.specs.Nodes.{node_records, NodeAllows, is_down}
use Rattle.mn_runs.specs.Clients.{ClientAllows}

-- what a run starts from: the records of each node, from the first on
pub record Start : Type 0 where
  pub records : List (List Record)

-- the start of a run whose nodes have these records
abbrev pub start_of : List (List Record) → Start
start_of records = record { records = records }

abbrev pub start_nodes : Start → ℕ
start_nodes start = length start.records

-- the base space of a node of so many; beyond them there is none
abbrev pub base_at : Start → NodeNo → List ℕ
base_at start n = if nat_lt n.0 (start_nodes start) then base_of (start_nodes start) n.0 else []

-- newest first
abbrev pub start_records : Start → NodeNo → List Record
start_records start n = reverse (slice_index_or start.records n.0 [])

-- one above the greatest run of the records, or 1 where there is none
abbrev pub run_number : Start → ℕ
run_number start = greatest_run (flat_map (λ records. records) start.records) + 1

-- the records of a node, newest first
abbrev pub records_of : Start → List Entry → NodeNo → List Record
records_of start past n =
    node_records (base_at start n) (start_records start n) (node_entries n past)

-- a step that a client takes alone
abbrev pub IsOwnStep : What → Type 0
IsOwnStep (Called request reply) = ⊥
IsOwnStep (Stopped request asked) = ⊥
IsOwnStep (Restarted kept) = ⊥
IsOwnStep what = ⊤

-- a step that a node takes with no caller
abbrev pub IsNodeStep : What → Type 0
IsNodeStep (Stopped None asked) = ⊤
IsNodeStep (Restarted kept) = ⊤
IsNodeStep what = ⊥

abbrev pub AllowedAt : Start → List Entry → Option NodeNo → What → Type 0
AllowedAt start past None what = IsOwnStep what
AllowedAt start past (Some n) what =
    (n.0 < start_nodes start) × NodeAllows (base_at start n) (start_records start n)
    (node_entries n past) what

abbrev pub AllowedBy : List Entry → Option ClientNo → Option NodeNo → What → Type 0
AllowedBy past None at what = IsNodeStep what
AllowedBy past (Some c) at what = ClientAllows c (client_entries c past) at what

-- an issue has this run's number, and was made for as many nodes as there are
abbrev pub IsOfRun : Start → What → Type 0
IsOfRun start (Issue tid mini) = (tid.run ≡ run_number start) × (mini.nodes ≡ start_nodes start)
IsOfRun start what = ⊤

-- clients have the numbers 0 to 15, the closing coordinator 16, the recovery coordinators 17 to 20
abbrev pub IsActor : Option ClientNo → Type 0
IsActor None = ⊤
IsActor (Some c) = c.0 ≤ 20

-- the entry keeps the commit protocol, after these entries
pub record KeepsProtocol (start : Start) (past : List Entry) (e : Entry) : Type 0 where
  pub actor : IsActor e.client
  pub at_node : AllowedAt start past e.node e.what
  pub by_client : AllowedBy past e.client e.node e.what
  pub of_run : IsOfRun start e.what

-- each entry does; newest first
abbrev pub FollowsProtocol : Start → List Entry → Type 0
FollowsProtocol start [] = ⊤
FollowsProtocol start (e ∷ past) = FollowsProtocol start past × KeepsProtocol start past e

-- Lists

-- each entry of a node's list is allowed by the ones before it
abbrev pub NodeListAllowed : Start → NodeNo → List Entry → Type 0
NodeListAllowed start n [] = ⊤
NodeListAllowed start n (e ∷ es) =
    NodeListAllowed start n es × NodeAllows (base_at start n) (start_records start n) es e.what

-- Nodes at rest

-- each node is up
abbrev pub AreUp : Start → List Entry → Type 0
AreUp start past = (n : NodeNo) → n.0 < start_nodes start → is_down (node_entries n past) ≡ false

-- no node holds anything
abbrev pub AreFree : Start → List Entry → Type 0
AreFree start past = (n : NodeNo) → n.0 < start_nodes start
    → held_parts (records_of start past n) ≡ []

-- Recorded logs

-- the entries of a recorded log, newest first
abbrev pub entries_of : List (ℕ × Entry) → List Entry
entries_of log = reverse (map (λ p. p.1) log)

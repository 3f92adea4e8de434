-- What the votes and decisions of a run rest on.
use Rattle.std.proofs.Common.{◌≡◌, ◌≤◌, ◌<◌, ◌⊎◌, Bool, true, false, List, [], ◌∷◌, length, Option, Some, Contains}
use Rattle.std.specs.Bool.{⊤}
use Rattle.std.specs.List.{AllByRecursion}
use Rattle.mn_base.specs.declared.ids.NodeNo.{NodeNo}
use Rattle.mn_base.specs.declared.ids.ClientNo.{ClientNo}
use Rattle.mn_base.specs.declared.ids.Tid.{Tid}
use Rattle.mn_mini.specs.declared.part.PartItem.{PartItem}
use Rattle.mn_mini.specs.declared.record.Record.{Record}
use Rattle.mn_mini.specs.declared.record.Record.TheVariants.{Voted, Executed, Decided, Forced}
use Rattle.mn_mini.specs.declared.request.Request.{Request}
use Rattle.mn_mini.specs.declared.request.Request.TheVariants as Ask
use Rattle.mn_mini.specs.Mini.{Mini, participants_of, part_of}
use Rattle.mn_mini.specs.Node.{has_voted, has_executed, has_forced}
use Rattle.mn_runs.specs.declared.entry.Entry.{Entry}
use Rattle.mn_runs.specs.Calls.{node_entries, client_entries, issue_named, issues_of, is_exec, is_done, is_stopped, was_told, was_done, was_stopped, was_abandoned, has_yes, has_no, WasListed}
use Rattle.mn_runs.specs.Nodes.{stopped_request}
use Rattle.mn_runs.specs.Protocol.{Start, start_nodes, run_number, start_records, records_of}
use Rattle.mn_runs.specs.Sound.{voted_participants, has_record}

-- the minitransaction of an id, as its client issued it
abbrev pub mini_of : List Entry → Tid → Option Mini
mini_of past tid = issue_named tid (issues_of (client_entries tid.client past))

-- the id was issued to these participants
abbrev pub IssuedTo : List Entry → Tid → List NodeNo → Type 0
IssuedTo past tid ps = (mini : Mini) × (mini_of past tid ≡ Some mini) × (ps ≡ participants_of mini)

-- the id has a record at the start
abbrev pub IsOld : Start → Tid → Type 0
IsOld start tid = (m : NodeNo) × (m.0 < start_nodes start) × (has_record (start_records start m) tid ≡ true)

-- the node has a record of the id at the start
abbrev pub StartRecord : Start → NodeNo → Tid → Type 0
StartRecord start m tid = (m.0 < start_nodes start) × (has_record (start_records start m) tid ≡ true)

-- a vote of the start names these participants of the id
abbrev pub StartVote : Start → NodeNo → Tid → List NodeNo → Type 0
StartVote start m tid ps = (m.0 < start_nodes start) × (voted_participants tid (start_records start m) ≡ Some ps)

abbrev pub StartNames : Start → Tid → List NodeNo → Type 0
StartNames start tid ps = (m : NodeNo) × StartVote start m tid ps

-- these are the participants of the id
abbrev pub Names : Start → List Entry → Tid → List NodeNo → Type 0
Names start past tid ps = IssuedTo past tid ps ⊎ StartNames start tid ps

-- a node may list the id with these participants
abbrev pub MayList : Start → List Entry → Tid → List NodeNo → Type 0
MayList start past tid ps = (IssuedTo past tid ps × (2 ≤ length ps)) ⊎ StartNames start tid ps

-- its client sent its Prepare or Exec to the node, which was done or stopped
abbrev pub WasTried : List Entry → Tid → NodeNo → Type 0
WasTried past tid k = (was_done tid k (client_entries tid.client past) ≡ true) ⊎ (was_stopped tid k (client_entries tid.client past) ≡ true)

-- its client sent the node a request that passes the test, which was done or stopped
abbrev pub WasAsked : (Request → Bool) → List Entry → ClientNo → NodeNo → Type 0
WasAsked ask past c k = (was_told ask is_done k (client_entries c past) ≡ true) ⊎ (was_told ask is_stopped k (client_entries c past) ≡ true)

-- its client sent its Exec to the node, which was done or stopped
abbrev pub WasExecuted : List Entry → Tid → NodeNo → Type 0
WasExecuted past tid k = WasAsked (is_exec tid) past tid.client k

-- the node will never vote for the id: it was forced, or the id was abandoned with nothing sent
-- there that could still count
abbrev pub IsStuck : Start → List Entry → Tid → NodeNo → Type 0
IsStuck start past tid k =
    (has_forced (records_of start past k) tid ≡ true)
    ⊎ ((was_abandoned tid (client_entries tid.client past) ≡ true) × (was_done tid k (client_entries tid.client past) ≡ false) × (was_stopped tid k (client_entries tid.client past) ≡ false))

abbrev pub IsLostAt : Start → List Entry → Tid → NodeNo → Type 0
IsLostAt start past tid k = (has_voted (records_of start past k) tid ≡ false) × IsStuck start past tid k

-- some participant has not voted and never will
abbrev pub IssuedLost : Start → List Entry → Tid → Type 0
IssuedLost start past tid = (ps : List NodeNo) × (k : NodeNo) × IssuedTo past tid ps × Contains ps k × IsLostAt start past tid k

-- an id of the start votes no more
abbrev pub StartLost : Start → Tid → Type 0
StartLost start tid = (ps : List NodeNo) × (k : NodeNo) × StartNames start tid ps × Contains ps k × (has_voted (start_records start k) tid ≡ false)

abbrev pub IsLost : Start → List Entry → Tid → Type 0
IsLost start past tid = IssuedLost start past tid ⊎ StartLost start tid

-- every participant has voted
abbrev pub IssuedVoted : Start → List Entry → Tid → Type 0
IssuedVoted start past tid = (ps : List NodeNo) × IssuedTo past tid ps × AllByRecursion (λ k. has_voted (records_of start past k) tid ≡ true) ps

abbrev pub StartVoted : Start → Tid → Type 0
StartVoted start tid = (ps : List NodeNo) × StartNames start tid ps × AllByRecursion (λ k. has_voted (start_records start k) tid ≡ true) ps

abbrev pub AllVoted : Start → List Entry → Tid → Type 0
AllVoted start past tid = IssuedVoted start past tid ⊎ StartVoted start tid

-- the node is one of several participants of the id, and this is its part
abbrev pub PartAt : List Entry → Tid → NodeNo → List PartItem → Type 0
PartAt past tid k part = (mini : Mini) × (mini_of past tid ≡ Some mini) × (part ≡ part_of mini k) × Contains (participants_of mini) k × (2 ≤ length (participants_of mini))

-- the node is the one participant of the id, and this is its part
abbrev pub ExecAt : List Entry → Tid → NodeNo → List PartItem → Type 0
ExecAt past tid k part = (mini : Mini) × (mini_of past tid ≡ Some mini) × (part ≡ part_of mini k) × (participants_of mini ≡ k ∷ [])

-- what backs a request that may add a record
abbrev pub RequestSound : Start → List Entry → NodeNo → Request → Type 0
RequestSound start past k (Ask.Prepare tid ps part) = IssuedTo past tid ps × WasTried past tid k × PartAt past tid k part
RequestSound start past k (Ask.Exec tid part) = WasExecuted past tid k × ExecAt past tid k part
RequestSound start past k (Ask.Decide tid true) = AllVoted start past tid
RequestSound start past k (Ask.Decide tid false) = IsLost start past tid
RequestSound start past k (Ask.Force tid) = (ps : List NodeNo) × MayList start past tid ps
RequestSound start past k Ask.List = ⊤
RequestSound start past k (Ask.Peek at length) = ⊤

-- what backs a record
abbrev pub RecordSound : Start → List Entry → NodeNo → Record → Type 0
RecordSound start past k (Voted tid ps part) = (IssuedTo past tid ps × WasTried past tid k × PartAt past tid k part) ⊎ StartVote start k tid ps
RecordSound start past k (Executed tid part) = (WasExecuted past tid k × ExecAt past tid k part) ⊎ IsOld start tid
RecordSound start past k (Decided tid true) = AllVoted start past tid
RecordSound start past k (Decided tid false) = IsLost start past tid
RecordSound start past k (Forced tid) = ((ps : List NodeNo) × MayList start past tid ps) ⊎ StartRecord start k tid

-- the lists have the same votes and executions of the id
abbrev pub SameVotes : Tid → List Record → List Record → Type 0
SameVotes tid new old = (has_voted new tid ≡ has_voted old tid) × (has_executed new tid ≡ has_executed old tid) × (voted_participants tid new ≡ voted_participants tid old)

-- what every run keeps
pub record Kept (start : Start) (past : List Entry) : Type 0 where
  pub issued : (c : ClientNo) (tid : Tid) (mini : Mini) → issue_named tid (issues_of (client_entries c past)) ≡ Some mini
      → (tid.client ≡ c) × (tid.serial ≤ length (issues_of (client_entries c past))) × (tid.run ≡ run_number start)
  pub old : (k : NodeNo) (tid : Tid) → IsOld start tid → SameVotes tid (records_of start past k) (start_records start k)
  pub records : (k : NodeNo) → AllByRecursion (RecordSound start past k) (records_of start past k)
  pub pending : (k : NodeNo) (request : Request) → stopped_request (node_entries k past) ≡ Some request → RequestSound start past k request
  pub yes : (c : ClientNo) (k : NodeNo) (tid : Tid) → has_yes tid k (client_entries c past) ≡ true → has_voted (records_of start past k) tid ≡ true
  pub no : (c : ClientNo) (tid : Tid) → has_no tid (client_entries c past) ≡ true → IsLost start past tid
  pub abandoned : (c : ClientNo) (tid : Tid) → was_abandoned tid (client_entries c past) ≡ true → IsLost start past tid
  pub listed : (c : ClientNo) (tid : Tid) (ps : List NodeNo) → WasListed tid ps (client_entries c past) → MayList start past tid ps

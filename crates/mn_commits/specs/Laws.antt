-- The laws of what is committed, and of the bytes that it makes.
use Rattle.std.specs.Prelude.{ℕ, ◌≡◌, ◌+◌, ◌<◌, Bool, true, false, not, ◌&&◌, ◌||◌, IsTrue, List}
use Rattle.std.specs.Prelude.{[], ◌∷◌, ◌++◌, Option, Some, None, ⊤, slice_get, Contains}
use Rattle.std.specs.List.{list_any}
use Rattle.mn_base.specs.declared.ids.NodeNo.{NodeNo}
use Rattle.mn_base.specs.declared.ids.ClientNo.{ClientNo}
use Rattle.mn_base.specs.declared.ids.Tid.{Tid}
use Rattle.mn_mini.specs.declared.part.PartItem.{PartItem}
use Rattle.mn_mini.specs.declared.request.Request.{Request}
use Rattle.mn_mini.specs.declared.request.Request.TheVariants as Ask
use Rattle.mn_mini.specs.declared.reply.NodeReply.TheVariants as Say
use Rattle.mn_mini.specs.Mini.{Mini, participants_of, range_of, is_write}
use Rattle.mn_mini.specs.Flat.{Committed, bytes_in, outcome_on, part_reads, space_in}
use Rattle.mn_mini.specs.Node.{HeldPart, held_parts, has_voted, has_forced, has_decided_yes}
use Rattle.mn_mini.specs.Node.{has_decided_no, space_of}
use Rattle.mn_mini.specs.Laws.{PartsAreApart}
use Rattle.mn_runs.specs.declared.entry.Entry.{Entry}
use Rattle.mn_base.specs.declared.answer.Answer.{Answer}
use Rattle.mn_runs.specs.declared.entry.What.TheVariants.{Called, Restarted, Answered}
use Rattle.mn_runs.specs.Calls.{Issued, is_by, node_entries, client_entries, is_exec, is_done}
use Rattle.mn_runs.specs.Calls.{is_stopped, was_told_somewhere, was_done, was_stopped}
use Rattle.mn_runs.specs.Calls.{was_abandoned, issue_named, issues_of, since_begin}
use Rattle.mn_runs.specs.Nodes.{stopped_request}
use Rattle.mn_runs.specs.Protocol.{Start, start_nodes, base_at, records_of, FollowsProtocol}
use Rattle.mn_runs.specs.Commits.{committed_by, flat_after}
use Rattle.mn_runs.specs.Sound.{AreSound, is_committed, have_voted, voted_participants, memory_in}
use Rattle.mn_runs.specs.Sound.{opened_memory}
use Rattle.mn_runs.specs.Clients.{is_given_up}
use Rattle.mn_runs.specs.Seen.{Seen, seen_in, seen_at}
use Rattle.mn_votes.specs.Laws.{StartsSound}

-- Votes

-- a decided yes has all its votes
abbrev pub YesHasVotes : Type 0
YesHasVotes =
    (start : Start) (past : List Entry) (n : NodeNo) (tid : Tid) (participants : List NodeNo)
    → StartsSound start → FollowsProtocol start past
    → n.0 < start_nodes start → has_decided_yes (records_of start past n) tid ≡ true
    → voted_participants tid (records_of start past n) ≡ Some participants
    → have_voted (records_of start past) tid participants ≡ true

-- an id with a decided no is never committed
abbrev pub NoIsNotCommitted : Type 0
NoIsNotCommitted =
    (start : Start) (past : List Entry) (n : NodeNo) (tid : Tid) → StartsSound start
    → FollowsProtocol start past
    → n.0 < start_nodes start → has_decided_no (records_of start past n) tid ≡ true
    → is_committed (start_nodes start) (records_of start past) tid ≡ false

-- the records at every place fit together
abbrev pub RecordsStaySound : Type 0
RecordsStaySound =
    (start : Start) (past : List Entry) → StartsSound start → FollowsProtocol start past
    → AreSound (start_nodes start) (records_of start past)

-- Bytes

-- a minitransaction that commits has the flat meaning there: its compares hold
abbrev pub CommitsAreFlat : Type 0
CommitsAreFlat =
    (start : Start) (past : List Entry) (e : Entry) (i : Issued) → StartsSound start
    → FollowsProtocol start (e ∷ past) → committed_by past e ≡ Some i
    → (reads : List (List ℕ)) × (memory : List (List ℕ))
    × (outcome_on (flat_after (opened_memory start) past) i.mini ≡ Committed reads memory)

-- a write item of the part covers the place
abbrev pub writes_at : ℕ → PartItem → Bool
writes_at place item =
    is_write item && (Rattle.std.specs.Prelude.nat_le (range_of item).start place
    && Rattle.std.specs.Prelude.nat_lt place ((range_of item).start + (range_of item).length))

-- a held part of a committed id covers the place by a write
abbrev pub is_pending_at : (Tid → Bool) → ℕ → List HeldPart → Bool
is_pending_at committed place hs =
    list_any (λ h. committed h.tid && list_any (writes_at place) h.part) hs

-- a byte of a node's space is the flat memory's, unless a write of a committed id that is still
-- held covers it
abbrev pub SpacesAgree : Type 0
SpacesAgree =
    (start : Start) (past : List Entry) (n : NodeNo) (place : ℕ) → StartsSound start
    → FollowsProtocol start past → n.0 < start_nodes start
    → is_pending_at (is_committed (start_nodes start) (records_of start past)) place
    (held_parts (records_of start past n)) ≡ false
    → slice_get (space_of (base_at start n) (records_of start past n)) place
    ≡ slice_get (space_in (flat_after (opened_memory start) past) n) place

-- a node's Done to the Prepare or Exec of a part
abbrev pub part_of_request : Request → Option (List PartItem)
part_of_request (Ask.Prepare tid participants part) = Some part
part_of_request (Ask.Exec tid part) = Some part
part_of_request request = None

-- the reads of a Done are those of the flat memory at its place
abbrev pub ReadsAreFlat : Type 0
ReadsAreFlat =
    (start : Start) (past : List Entry) (e : Entry) (k : NodeNo) (request : Request)
    (part : List PartItem) (reads : List (List ℕ)) → StartsSound start
    → FollowsProtocol start (e ∷ past)
    → e.node ≡ Some k → e.what ≡ Called request (Say.Done reads)
    → part_of_request request ≡ Some part
    → reads ≡ part_reads (space_in (flat_after (opened_memory start) past) k) part

-- an Exec that is done commits its minitransaction there, and answers what that reads of the flat
-- memory
abbrev pub ExecsAreFlat : Type 0
ExecsAreFlat =
    (start : Start) (past : List Entry) (e : Entry) (k : NodeNo) (tid : Tid) (part : List PartItem)
    (reads : List (List ℕ)) → StartsSound start → FollowsProtocol start (e ∷ past)
    → e.node ≡ Some k → e.what ≡ Called (Ask.Exec tid part) (Say.Done reads)
    → (i : Issued) × (memory : List (List ℕ)) × (i.tid ≡ tid) × (committed_by past e ≡ Some i)
    × (outcome_on (flat_after (opened_memory start) past) i.mini ≡ Committed reads memory)

-- a Prepare that is done answers no reads, since what has several participants has no read items
abbrev pub PreparesReadNothing : Type 0
PreparesReadNothing =
    (start : Start) (past : List Entry) (e : Entry) (k : NodeNo) (tid : Tid)
    (participants : List NodeNo) (part : List PartItem) (reads : List (List ℕ)) → StartsSound start
    → FollowsProtocol start (e ∷ past)
    → e.node ≡ Some k → e.what ≡ Called (Ask.Prepare tid participants part) (Say.Done reads)
    → reads ≡ []

-- what a client has seen stood in the flat memory where it was read
abbrev pub SeenIsFlat : Type 0
SeenIsFlat =
    (start : Start) (past : List Entry) (c : ClientNo) (seen : Seen) → StartsSound start
    → FollowsProtocol start past → Contains (seen_in (client_entries c past)) seen
    → (e : Entry) × (later : List Entry) × (before : List Entry) × (past ≡ later ++ e ∷ before)
    × IsTrue (is_by c e) × Contains (seen_at e) seen
    × (seen.bytes ≡ bytes_in (space_in (flat_after (opened_memory start) before) seen.place.node)
    seen.place.start seen.place.length)

-- the memory that the records make, with what is committed applied whether decided or not, is the
-- flat memory
abbrev pub MemoryIsFlat : Type 0
MemoryIsFlat =
    (start : Start) (past : List Entry) → StartsSound start
    → FollowsProtocol start past
    → memory_in (start_nodes start) (base_at start) (records_of start past)
    ≡ flat_after (opened_memory start) past

-- no entry commits the id
abbrev pub IsNeverCommitted : Tid → List Entry → Type 0
IsNeverCommitted tid [] = ⊤
IsNeverCommitted tid (e ∷ past) =
    ((i : Issued) → committed_by past e ≡ Some i → i.tid ≡ tid → ⊥) × IsNeverCommitted tid past

-- an id that was abandoned is committed at no place, before or after
abbrev pub AbandonedIsNever : Type 0
AbandonedIsNever =
    (start : Start) (past later : List Entry) (c : ClientNo) (tid : Tid) → StartsSound start
    → FollowsProtocol start (later ++ past) → was_abandoned tid (client_entries c past) ≡ true
    → IsNeverCommitted tid (later ++ past)

-- nor is one whose Exec was answered neither Done nor Stopped
abbrev pub RefusedIsNever : Type 0
RefusedIsNever =
    (start : Start) (past later : List Entry) (c : ClientNo) (tid : Tid) → StartsSound start
    → FollowsProtocol start (later ++ past)
    → was_told_somewhere (is_exec tid) (λ reply. not (is_done reply || is_stopped reply))
    (client_entries c past) ≡ true → IsNeverCommitted tid (later ++ past)

-- nor is a plan that is given up when its operation is answered
abbrev pub GivenUpIsNever : Type 0
GivenUpIsNever =
    (start : Start) (past later : List Entry) (e : Entry) (c : ClientNo) (number : ℕ)
    (answer : Answer) (i : Issued) → StartsSound start → FollowsProtocol start (later ++ e ∷ past)
    → e.client ≡ Some c → e.what ≡ Answered number answer
    → issue_named i.tid (issues_of (since_begin (client_entries c past))) ≡ Some i.mini
    → is_given_up (since_begin (client_entries c past)) i ≡ true
    → IsNeverCommitted i.tid (later ++ e ∷ past)

-- nor is one whose Exec a node stopped inside, where the restart did not keep it
abbrev pub UnkeptIsNever : Type 0
UnkeptIsNever =
    (start : Start) (past later : List Entry) (e : Entry) (k : NodeNo) (tid : Tid)
    (part : List PartItem) → StartsSound start → FollowsProtocol start (later ++ e ∷ past)
    → e.node ≡ Some k → e.what ≡ Restarted false
    → stopped_request (node_entries k past) ≡ Some (Ask.Exec tid part)
    → IsNeverCommitted tid (later ++ e ∷ past)

-- an id is committed at most once
abbrev pub CommitsOnce : Type 0
CommitsOnce =
    (start : Start) (past : List Entry) (e : Entry) (i : Issued) → StartsSound start
    → FollowsProtocol start (e ∷ past) → committed_by past e ≡ Some i → IsNeverCommitted i.tid past

-- a node that was forced never votes
abbrev pub ForcedNeverVotes : Type 0
ForcedNeverVotes =
    (start : Start) (past later : List Entry) (n : NodeNo) (tid : Tid) → StartsSound start
    → FollowsProtocol start (later ++ past) → n.0 < start_nodes start
    → has_forced (records_of start past n) tid ≡ true
    → has_voted (records_of start (later ++ past) n) tid ≡ false

-- the participant has no vote, and its client's list has no Prepare or Exec of the id that it was
-- done with or stopped in
abbrev pub LacksVote : Start → List Entry → Tid → NodeNo → Type 0
LacksVote start past tid k =
    (has_voted (records_of start past k) tid ≡ false)
    × (was_done tid k (client_entries tid.client past) ≡ false)
    × (was_stopped tid k (client_entries tid.client past) ≡ false)

-- after an id was abandoned, some participant lacks its vote at every later place
abbrev pub AbandonedLacksVote : Type 0
AbandonedLacksVote =
    (start : Start) (past : List Entry) (c : ClientNo) (tid : Tid) → StartsSound start
    → FollowsProtocol start past → was_abandoned tid (client_entries c past) ≡ true
    → (mini : Mini) × (issue_named tid (issues_of past) ≡ Some mini) × (k : NodeNo)
    × Contains (participants_of mini) k
    × ((later : List Entry) → FollowsProtocol start (later ++ past)
    → LacksVote start (later ++ past) tid k)

-- All of the flat meaning, for a run with its memory

-- a run from records that fit together, whose opened memory this is
pub record IsRunFrom (start : Start) (memory : List (List ℕ)) (past : List Entry) : Type 0 where
  pub sound : StartsSound start
  pub opened : opened_memory start ≡ memory
  pub keeps : FollowsProtocol start past

-- what a committed minitransaction found, what each node's records make of its space, and what was
-- read are the flat meaning's: `memory` is the memory before the run, `after` the one after it
pub record IsFlatRun (start : Start) (memory after : List (List ℕ)) (past : List Entry)
    : Type 0 where
  pub commits : (later : List Entry) (e : Entry) (before : List Entry) (i : Issued)
      → past ≡ later ++ e ∷ before → committed_by before e ≡ Some i
      → (reads : List (List ℕ)) × (next : List (List ℕ))
      × (outcome_on (flat_after memory before) i.mini ≡ Committed reads next)
  pub execs : (later : List Entry) (e : Entry) (before : List Entry) (k : NodeNo) (tid : Tid)
      (part : List PartItem) (reads : List (List ℕ)) → past ≡ later ++ e ∷ before
      → e.node ≡ Some k → e.what ≡ Called (Ask.Exec tid part) (Say.Done reads)
      → (i : Issued) × (next : List (List ℕ)) × (i.tid ≡ tid) × (committed_by before e ≡ Some i)
      × (outcome_on (flat_after memory before) i.mini ≡ Committed reads next)
  pub spaces : (n : NodeNo) (place : ℕ) → n.0 < start_nodes start
      → is_pending_at (is_committed (start_nodes start) (records_of start past)) place
      (held_parts (records_of start past n)) ≡ false
      → slice_get (space_of (base_at start n) (records_of start past n)) place
      ≡ slice_get (space_in after n) place
  pub records : memory_in (start_nodes start) (base_at start) (records_of start past) ≡ after
  pub held_apart : (n : NodeNo) → n.0 < start_nodes start
      → PartsAreApart (held_parts (records_of start past n))

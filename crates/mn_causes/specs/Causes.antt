-- Why an operation was busy: what the records held, and what other operations committed. What the
-- client's own list shows of a cause is part of the answer; this is what every run adds to it.
use Rattle.std.specs.Prelude.{ℕ, ◌≡◌, ◌<◌, ◌≤◌, ◌⊎◌, Bool, true, false, ◌&&◌, ◌||◌, IsTrue, List}
use Rattle.std.specs.Prelude.{[], ◌∷◌, ◌++◌, length, Some, Contains, slice_get, bytes_eq}
use Rattle.std.specs.List.{list_any}
use Rattle.mn_base.specs.Ids.{node_same}
use Rattle.mn_base.specs.Store.{Store}
use Rattle.mn_base.specs.declared.ids.NodeNo.{NodeNo}
use Rattle.mn_base.specs.declared.ids.ClientNo.{ClientNo}
use Rattle.mn_base.specs.declared.ids.Tid.{Tid}
use Rattle.mn_base.specs.declared.ids.Addr.{Addr}
use Rattle.mn_base.specs.declared.ids.Range.{Range}
use Rattle.mn_base.specs.declared.op.Op.{Op}
use Rattle.mn_base.specs.declared.answer.Busy.{Busy}
use Rattle.mn_base.specs.declared.answer.Busy.TheVariants.{Lock, Moved, Forced, Path}
use Rattle.mn_base.specs.declared.answer.Answer.TheVariants.{Busy as GaveUp}
use Rattle.mn_mini.specs.declared.part.PartItem.{PartItem}
use Rattle.mn_mini.specs.declared.request.Request.{Request}
use Rattle.mn_mini.specs.declared.request.Request.TheVariants as Ask
use Rattle.mn_mini.specs.declared.reply.NodeReply.{NodeReply}
use Rattle.mn_mini.specs.declared.reply.NodeReply.TheVariants as Say
use Rattle.mn_mini.specs.Mini.{Mini, range_of, item_conflicts_with}
use Rattle.mn_mini.specs.Node.{HeldPart, held_parts, has_forced}
use Rattle.mn_runs.specs.declared.entry.Entry.{Entry}
use Rattle.mn_runs.specs.declared.entry.What.TheVariants.{Issue, Called}
use Rattle.mn_runs.specs.Calls.{call_in, is_try, is_prepare, is_decide, is_down_reply, is_stopped}
use Rattle.mn_runs.specs.Calls.{was_told, was_decided, client_entries, issues_of, since_begin}
use Rattle.mn_runs.specs.Calls.{under_way}
use Rattle.mn_runs.specs.Seen.{seen_at, seen_in}
use Rattle.mn_law.specs.Answers.{FailedTries, IsKeyOf, MeetsFault, ShowsExpected, nodes_of}
use Rattle.mn_law.specs.Answers.{part_compares}
use Rattle.mn_runs.specs.Protocol.{Start, run_number, records_of}
use Rattle.mn_commits.specs.Laws.{part_of_request}
use Rattle.mn_serial.specs.Meaning.{OpenedRun, StandsAt, AnswersOp, CommitsPlanAt}
use Rattle.mn_runs.specs.Clients.{recovers_nothing}

-- The last try

-- an operation that was busy, with the tries that its client's own list shows for that answer
pub record BusyTries (past : List Entry) (c : ClientNo) (number place : ℕ)
    (busy : Busy) : Type 0 where
  pub answer : Entry
  pub later : List Entry
  pub before : List Entry
  pub split : past ≡ later ++ answer ∷ before
  pub is_place : place ≡ length before
  pub answers : AnswersOp answer c number (GaveUp busy)
  pub op : Op
  pub of : under_way (client_entries c before) ≡ Some (record { number = number; op = op })
  pub failed : FailedTries (nodes_of (issues_of (since_begin (client_entries c before)))) op
      (client_entries c before) (since_begin (client_entries c before)) busy

-- an entry of the last of these tries, at its place in the log: behind it, up to the answer, its
-- client has the newer entries of the try and what came after the try, and nothing else
pub record IsInLast {past : List Entry} {c : ClientNo} {number place : ℕ} {busy : Busy}
    (tries : BusyTries past c number place busy) (at : ℕ) (entry : Entry) : Type 0 where
  pub later : List Entry
  pub before : List Entry
  pub split : tries.before ≡ later ++ entry ∷ before
  pub is_place : at ≡ length before
  pub client : entry.client ≡ Some c
  pub newer : List Entry
  pub older : List Entry
  pub in_try : tries.failed.last ≡ newer ++ entry ∷ older
  pub behind : client_entries c later ≡ tries.failed.rest ++ newer
  pub of : under_way (client_entries c before) ≡ Some (record { number = number; op = tries.op })

-- a call of the last try
pub record IsCallInLast {past : List Entry} {c : ClientNo} {number place : ℕ} {busy : Busy}
    (tries : BusyTries past c number place busy) (at : ℕ) (n : NodeNo) (request : Request)
    (reply : NodeReply) : Type 0 where
  pub entry : Entry
  pub there : IsInLast tries at entry
  pub node : entry.node ≡ Some n
  pub what : entry.what ≡ Called request reply

-- a plan of another operation is committed at this place
pub record CommitsOther (past : List Entry) (c : ClientNo) (number commit : ℕ) : Type 0 where
  pub other : ClientNo
  pub its : ℕ
  pub commits : CommitsPlanAt past commit other its
  pub not_own : other ≡ c → its ≡ number → ⊥

-- Locks

-- the list has a Prepare of the id to the node after a Decide of it there
abbrev pub prepared_after_decide : Tid → NodeNo → List Entry → Bool
prepared_after_decide tid n [] = false
prepared_after_decide tid n (e ∷ es) =
    (list_any (λ c. node_same c.node n && is_prepare tid c.request) (call_in e.node e.what)
    && was_decided tid n es)
    || prepared_after_decide tid n es

-- the node was down, or stopped, at its client's Decide of the id
abbrev pub missed_decision : Tid → NodeNo → List Entry → Bool
missed_decision tid n es =
    was_told (is_decide tid) (λ reply. is_down_reply reply || is_stopped reply) n es

-- or the Decide came before the Prepare, as it may where the client forced the id itself
abbrev pub missed_or_early : Tid → NodeNo → List Entry → Bool
missed_or_early tid n es = missed_decision tid n es || prepared_after_decide tid n es

-- a client issued the id for this operation, before
pub record IssuedBefore (before : List Entry) (tid : Tid) (c : ClientNo) (number : ℕ) : Type 0 where
  pub entry : Entry
  pub later : List Entry
  pub older : List Entry
  pub split : before ≡ later ++ entry ∷ older
  pub client : entry.client ≡ Some c
  pub mini : Mini
  pub what : entry.what ≡ Issue tid mini
  pub op : Op
  pub of : under_way (client_entries c older) ≡ Some (record { number = number; op = op })

-- the id is one of an older run, or of another operation; it is of this one only where excepted
abbrev pub IsOfAnother : (Tid → NodeNo → List Entry → Bool) → Start → List Entry → ClientNo → ℕ
    → NodeNo → Tid → Type 0
IsOfAnother excepted start before c number n tid =
    (tid.run < run_number start)
    ⊎ ((other : ClientNo) × (its : ℕ) × IssuedBefore before tid other its
    × (other ≡ c → its ≡ number → IsTrue (excepted tid n (client_entries c before))))

-- the records held that range for the other id, where the last try was refused
pub record WasHeld (excepted : Tid → NodeNo → List Entry → Bool) (start : Start) (past : List Entry)
    (c : ClientNo) (number place : ℕ) (n : NodeNo) (range : Range) (holder : Tid) : Type 0 where
  pub tries : BusyTries past c number place (Lock n range.start range.length holder)
  pub at : ℕ
  pub request : Request
  pub call : IsCallInLast tries at n request (Say.BadLock range.start range.length holder)
  pub part : List PartItem
  pub item : PartItem
  pub held : HeldPart
  pub asked : part_of_request request ≡ Some part
  pub has_item : Contains part item
  pub there : Contains (held_parts (records_of start call.there.before n)) held
  pub holder_is : held.tid ≡ holder
  pub other : is_try holder request ≡ false
  pub range_is : range_of item ≡ range
  pub conflicts : IsTrue (item_conflicts_with item held.part)
  pub holder_of : IsOfAnother excepted start call.there.before c number n holder

abbrev pub LockWasHeld : Type 0
LockWasHeld =
    (start : Start) (store : Store) (past : List Entry) (place : ℕ) (e : Entry) (c : ClientNo)
    (number : ℕ) (n : NodeNo) (begins size : ℕ) (holder : Tid)
    → OpenedRun start store past → StandsAt past place e
    → AnswersOp e c number (GaveUp (Lock n begins size holder))
    → WasHeld missed_or_early start past c number place n
    (record { start = begins; length = size }) holder

-- of a client that makes no request of a recovery: the holder is of another operation, unless the
-- node answered Down or Stopped to this operation's Decide of it
abbrev pub LockOfOther : Type 0
LockOfOther =
    (start : Start) (store : Store) (past : List Entry) (place : ℕ) (e : Entry) (c : ClientNo)
    (number : ℕ) (n : NodeNo) (begins size : ℕ) (holder : Tid)
    → OpenedRun start store past → StandsAt past place e
    → AnswersOp e c number (GaveUp (Lock n begins size holder))
    → IsTrue (recovers_nothing (client_entries c past))
    → WasHeld missed_decision start past c number place n
    (record { start = begins; length = size }) holder

-- Forced

-- an actor sent the node a Force of the id, which it voted no to, or stopped in
pub record WasForcedBy (before : List Entry) (n : NodeNo) (tid : Tid)
    (sender : ClientNo) : Type 0 where
  pub entry : Entry
  pub later : List Entry
  pub older : List Entry
  pub split : before ≡ later ++ entry ∷ older
  pub client : entry.client ≡ Some sender
  pub reply : NodeReply
  pub call : call_in entry.node entry.what
      ≡ record { node = n; request = Ask.Force tid; reply = reply } ∷ []
  pub said : (reply ≡ Say.Vote false) ⊎ (reply ≡ Say.Stopped)

-- where the last try was refused a node has the id forced, there and at every later place
pub record IsForcedAt (start : Start) (past : List Entry) (c : ClientNo) (number place : ℕ)
    (tid : Tid) : Type 0 where
  pub tries : BusyTries past c number place (Forced tid)
  pub at : ℕ
  pub node : NodeNo
  pub participants : List NodeNo
  pub part : List PartItem
  pub call : IsCallInLast tries at node (Ask.Prepare tid participants part) Say.BadForced
  pub forced : (newer older : List Entry) → past ≡ newer ++ older → at ≤ length older
      → has_forced (records_of start older node) tid ≡ true
  pub sender : ClientNo
  pub sent : WasForcedBy call.there.before node tid sender

abbrev pub ForcedStands : Type 0
ForcedStands =
    (start : Start) (store : Store) (past : List Entry) (place : ℕ) (e : Entry) (c : ClientNo)
    (number : ℕ) (tid : Tid) → OpenedRun start store past → StandsAt past place e
    → AnswersOp e c number (GaveUp (Forced tid)) → IsForcedAt start past c number place tid

-- of a client that makes no request of a recovery: another actor forced it
abbrev pub ForcedByOther : Type 0
ForcedByOther =
    (start : Start) (store : Store) (past : List Entry) (place : ℕ) (e : Entry) (c : ClientNo)
    (number : ℕ) (tid : Tid) → OpenedRun start store past → StandsAt past place e
    → AnswersOp e c number (GaveUp (Forced tid)) → IsTrue (recovers_nothing (client_entries c past))
    → (f : IsForcedAt start past c number place tid) × (f.sender ≡ c → ⊥)

-- Moved

-- in the last try the expected bytes were read, and then others were found there; between the two
-- another operation's plan is committed
pub record WasMoved (past : List Entry) (c : ClientNo) (number place : ℕ) (n : NodeNo) (begins : ℕ)
    (expected found : List ℕ) : Type 0 where
  pub tries : BusyTries past c number place (Moved n begins expected found)
  -- the refusal
  pub at : ℕ
  pub request : Request
  pub item : ℕ
  pub call : IsCallInLast tries at n request (Say.BadCompare item found)
  pub part : List PartItem
  pub asked : part_of_request request ≡ Some part
  pub compares : slice_get (part_compares part) item ≡ Some (begins, expected)
  pub differ : bytes_eq found expected ≡ false
  -- the read
  pub read : ℕ
  pub reader : Entry
  pub reads : IsInLast tries read reader
  pub shows : ShowsExpected (seen_at reader) n begins expected
  -- the other operation
  pub commit : ℕ
  pub other : CommitsOther past c number commit
  pub inside : (read < commit) × (commit < at)

abbrev pub MovedByOther : Type 0
MovedByOther =
    (start : Start) (store : Store) (past : List Entry) (place : ℕ) (e : Entry) (c : ClientNo)
    (number : ℕ) (n : NodeNo) (begins : ℕ) (expected found : List ℕ)
    → OpenedRun start store past → StandsAt past place e
    → AnswersOp e c number (GaveUp (Moved n begins expected found))
    → WasMoved past c number place n begins expected found

-- Path

-- before this place, from an entry of the last try on, a plan of another operation is committed
pub record CommitsWithin {past : List Entry} {c : ClientNo} {number place : ℕ} {busy : Busy}
    (tries : BusyTries past c number place busy) (at : ℕ) : Type 0 where
  pub from : ℕ
  pub first : Entry
  pub begins : IsInLast tries from first
  pub commit : ℕ
  pub other : CommitsOther past c number commit
  pub inside : (from ≤ commit) × (commit < at)

-- what the last try read up to this entry meets the fault
abbrev pub MeetsAt : {past : List Entry} {c : ClientNo} {number place at : ℕ} {busy : Busy}
    {e : Entry} → (tries : BusyTries past c number place busy) → IsInLast tries at e → Type 0
MeetsAt {past} {c} {number} {place} {at} {busy} {e} tries i =
    MeetsFault (nodes_of (issues_of (since_begin (client_entries c tries.before))))
    (seen_in (e ∷ i.older)) tries.op (IsKeyOf tries.op tries.failed.taken) busy

-- the last try meets the fault at an entry, and at each such entry another operation's plan has
-- been committed within the try
pub record PathMoved (past : List Entry) (c : ClientNo) (number place : ℕ) (addr : Addr) (seq : ℕ)
    : Type 0 where
  pub tries : BusyTries past c number place (Path addr seq)
  pub to : ℕ
  pub reader : Entry
  pub reads : IsInLast tries to reader
  pub meets : MeetsAt tries reads
  pub moved : (at : ℕ) (e : Entry) (i : IsInLast tries at e) → MeetsAt tries i
      → CommitsWithin tries at

abbrev pub PathByOther : Type 0
PathByOther =
    (start : Start) (store : Store) (past : List Entry) (place : ℕ) (e : Entry) (c : ClientNo)
    (number : ℕ) (addr : Addr) (seq : ℕ) → OpenedRun start store past → StandsAt past place e
    → AnswersOp e c number (GaveUp (Path addr seq)) → PathMoved past c number place addr seq

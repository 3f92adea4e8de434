-- A memory node is a list of records, and each answer follows from it. Lists of records stand
-- newest first here: what a record changes is said of the records before it.
use Rattle.std.specs.Prelude.{ℕ, max, Bool, true, false, not, ◌&&◌, List, [], ◌∷◌, length, Option}
use Rattle.std.specs.Prelude.{Some, None, is_some, if◌then◌else◌}
use Rattle.std.specs.List.{list_any}
use Rattle.mn_base.specs.Ids.{tid_same, tid_lt}
use Rattle.mn_base.specs.Ranges.{least_tid}
use Rattle.mn_base.specs.declared.ids.NodeNo.{NodeNo}
use Rattle.mn_base.specs.declared.ids.Tid.{Tid}
use Rattle.mn_base.specs.declared.ids.Range.{Range}
use Rattle.mn_mini.specs.declared.part.PartItem.{PartItem}
use Rattle.mn_mini.specs.declared.record.Record.{Record}
use Rattle.mn_mini.specs.declared.record.Record.TheVariants.{Voted, Executed, Decided, Forced}
use Rattle.mn_mini.specs.declared.request.Request.{Request}
use Rattle.mn_mini.specs.declared.request.Request.TheVariants as Ask
use Rattle.mn_mini.specs.declared.reply.NodeReply.{NodeReply}
use Rattle.mn_mini.specs.declared.reply.NodeReply.TheVariants as Say
use Rattle.mn_mini.specs.declared.doubt.Doubt.{Doubt}
use Rattle.mn_mini.specs.Mini.{range_of, item_conflicts_with, has_write}
use Rattle.mn_mini.specs.Flat.{Mismatched, bytes_in, part_mismatch_from, part_reads}
use Rattle.mn_mini.specs.Flat.{space_after_part}

-- Which records there are

-- the run in which the record was made
abbrev pub record_run : Record → ℕ
record_run (Voted tid participants part) = tid.run
record_run (Executed tid part) = tid.run
record_run (Decided tid verdict) = tid.run
record_run (Forced tid) = tid.run

-- the greatest run of the records, or 0 where there are none
abbrev pub greatest_run : List Record → ℕ
greatest_run [] = 0
greatest_run (r ∷ records) = max (record_run r) (greatest_run records)

-- the record is of this id
abbrev pub is_of : Tid → Record → Bool
is_of tid (Voted t participants part) = tid_same t tid
is_of tid (Executed t part) = tid_same t tid
is_of tid (Decided t verdict) = tid_same t tid
is_of tid (Forced t) = tid_same t tid

abbrev pub is_vote_of : Tid → Record → Bool
is_vote_of tid (Voted t participants part) = tid_same t tid
is_vote_of tid r = false

abbrev pub is_execution_of : Tid → Record → Bool
is_execution_of tid (Executed t part) = tid_same t tid
is_execution_of tid r = false

abbrev pub is_yes_of : Tid → Record → Bool
is_yes_of tid (Decided t true) = tid_same t tid
is_yes_of tid r = false

abbrev pub is_no_of : Tid → Record → Bool
is_no_of tid (Decided t false) = tid_same t tid
is_no_of tid r = false

abbrev pub is_force_of : Tid → Record → Bool
is_force_of tid (Forced t) = tid_same t tid
is_force_of tid r = false

abbrev pub has_voted : List Record → Tid → Bool
has_voted records tid = list_any (is_vote_of tid) records

abbrev pub has_executed : List Record → Tid → Bool
has_executed records tid = list_any (is_execution_of tid) records

abbrev pub has_decided_yes : List Record → Tid → Bool
has_decided_yes records tid = list_any (is_yes_of tid) records

abbrev pub has_decided_no : List Record → Tid → Bool
has_decided_no records tid = list_any (is_no_of tid) records

abbrev pub has_forced : List Record → Tid → Bool
has_forced records tid = list_any (is_force_of tid) records

-- What is held

-- a part that is voted and not yet decided
pub record HeldPart : Type 0 where
  pub tid : Tid
  pub participants : List NodeNo
  pub part : List PartItem

abbrev pub without_tid : Tid → List HeldPart → List HeldPart
without_tid tid [] = []
without_tid tid (h ∷ hs) = if tid_same h.tid tid then without_tid tid hs else h ∷ without_tid tid hs

-- from its vote to its decision a part is held
abbrev pub held_parts : List Record → List HeldPart
held_parts [] = []
held_parts (Voted tid participants part ∷ records) =
    record { tid = tid; participants = participants; part = part } ∷ held_parts records
held_parts (Executed tid part ∷ records) = held_parts records
held_parts (Decided tid verdict ∷ records) = without_tid tid (held_parts records)
held_parts (Forced tid ∷ records) = held_parts records

-- the held part of this id
abbrev pub held_part_of : Tid → List HeldPart → Option HeldPart
held_part_of tid [] = None
held_part_of tid (h ∷ hs) = if tid_same h.tid tid then Some h else held_part_of tid hs

abbrev pub is_held : List Record → Tid → Bool
is_held records tid = is_some (held_part_of tid (held_parts records))

-- The space

-- the space with the writes of those held parts whose ids are so, the oldest first
abbrev pub with_held : (Tid → Bool) → List ℕ → List HeldPart → List ℕ
with_held is_so space [] = space
with_held is_so space (h ∷ hs) =
    if is_so h.tid then space_after_part (with_held is_so space hs) h.part
    else with_held is_so space hs

-- the base space, changed by each executed part, and by each voted part of an id where the id is
-- decided with yes
abbrev pub space_of : List ℕ → List Record → List ℕ
space_of base [] = base
space_of base (Voted tid participants part ∷ records) = space_of base records
space_of base (Executed tid part ∷ records) = space_after_part (space_of base records) part
space_of base (Decided tid true ∷ records) =
    with_held (λ t. tid_same t tid) (space_of base records) (held_parts records)
space_of base (Decided tid false ∷ records) = space_of base records
space_of base (Forced tid ∷ records) = space_of base records

-- Locks

-- the ids of the held parts of other ids with which an item conflicts
abbrev pub holders : List HeldPart → Tid → PartItem → List Tid
holders [] tid item = []
holders (h ∷ hs) tid item =
    if not (tid_same h.tid tid) && item_conflicts_with item h.part then h.tid ∷ holders hs tid item
    else holders hs tid item

-- a range that is held, and by whom
pub record Clash : Type 0 where
  pub range : Range
  pub holder : Tid

abbrev pub clash_or : PartItem → Option Tid → Option Clash → Option Clash
clash_or item None rest = rest
clash_or item (Some t) rest = Some (record { range = range_of item; holder = t })

-- the part's first range that conflicts with a held part of another id, with the least such id
abbrev pub clash_of : List HeldPart → Tid → List PartItem → Option Clash
clash_of hs tid [] = None
clash_of hs tid (item ∷ part) =
    clash_or item (least_tid (holders hs tid item)) (clash_of hs tid part)

-- Answers

-- a reply, and at most one new record
pub record Response : Type 0 where
  pub reply : NodeReply
  pub added : Option Record

abbrev pub only_reply : NodeReply → Response
only_reply reply = record { reply = reply; added = None }

abbrev pub after_compares : List ℕ → List PartItem → Option Record → Option Mismatched → Response
after_compares space part added (Some at) = only_reply (Say.BadCompare at.item at.found)
after_compares space part added None =
    record { reply = Say.Done (part_reads space part); added = added }

abbrev pub after_locks : List ℕ → List PartItem → Option Record → Option Clash → Response
after_locks space part added (Some clash) =
    only_reply (Say.BadLock clash.range.start clash.range.length clash.holder)
after_locks space part added None =
    after_compares space part added (part_mismatch_from space 0 part)

-- first the locks are tested, then the compares; then the part is read, and the record is added
abbrev pub tested : List ℕ → List Record → Tid → List PartItem → Option Record → Response
tested base records tid part added =
    after_locks (space_of base records) part added (clash_of (held_parts records) tid part)

-- the held ids with their participants, in order of id
abbrev pub with_doubt : Doubt → List Doubt → List Doubt
with_doubt d [] = d ∷ []
with_doubt d (e ∷ ds) = if tid_lt d.tid e.tid then d ∷ e ∷ ds else e ∷ with_doubt d ds

abbrev pub doubts_of : List HeldPart → List Doubt
doubts_of [] = []
doubts_of (h ∷ hs) =
    with_doubt (record { tid = h.tid; participants = h.participants }) (doubts_of hs)

abbrev pub answer : List ℕ → List Record → Request → Response
answer base records (Ask.Prepare tid participants part) =
    if has_forced records tid then only_reply Say.BadForced
    else tested base records tid part (Some (Voted tid participants part))
answer base records (Ask.Exec tid part) =
    tested base records tid part (if has_write part then Some (Executed tid part) else None)
answer base records (Ask.Decide tid verdict) =
    record {
      reply = Say.Decided;
      added = if is_held records tid then Some (Decided tid verdict) else None;
    }
answer base records (Ask.Force tid) =
    if has_voted records tid then only_reply (Say.Vote true)
    else record {
      reply = Say.Vote false;
      added = if has_forced records tid then None else Some (Forced tid);
    }
answer base records Ask.List = only_reply (Say.Listed (doubts_of (held_parts records)))
answer base records (Ask.Peek start length) =
    only_reply (Say.Peeked (bytes_in (space_of base records) start length))

-- the records with what was added
abbrev pub with_added : Option Record → List Record → List Record
with_added None records = records
with_added (Some r) records = r ∷ records

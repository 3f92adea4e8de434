-- A node: its log, its memory, and what it does with a request.
use Rattle.std.specs.Prelude.{◌≡◌, ◌≢◌, ◌≤◌, ◌<◌, ◌⊎◌, ◌+◌, ◌-◌, ◌*◌, ◌^◌, ℕ, List, [], ◌∷◌, ◌++◌}
use Rattle.std.specs.Prelude.{length, map, reverse, take, drop, Bool, true, false, Option, Some}
use Rattle.std.specs.Prelude.{None, ⊤, vec_len, vec_capacity}
use Rattle.mn_io.specs.DiskModel.{DiskState, IsStable, LeavesOnly, DiskStays}
use Rattle.mn_io.specs.Faults.{Rose}
use Rattle.mn_redo.specs.Grammar.{IsStagedAt, Stands}
use Rattle.mn_redo.specs.Appender.{AppenderState, IsLogOf}
use Rattle.mn_redo.specs.Redo.{HasHeader, StandsFor}
use Rattle.mn_redo.specs.declared.redo.Phase.TheVariants.{Started}
use Rattle.mn_mini.specs.declared.record.Record.{Record}
use Rattle.mn_mini.specs.declared.request.Request.{Request}
use Rattle.mn_mini.specs.declared.reply.NodeReply.{NodeReply}
use Rattle.mn_mini.specs.declared.reply.NodeReply.TheVariants as Say
use Rattle.mn_mini.specs.Node.{Response, answer}
use Rattle.mn_mini.specs.RecordGrammar.{record_bytes}
use Rattle.mn_mini.specs.Short.{short}
use Rattle.mn_node.specs.declared.memory.Memory.{Memory}
use Rattle.mn_base.specs.declared.gate.StopAt.{StopAt}
use Rattle.mn_base.specs.declared.gate.StopAt.TheVariants.{Before, Half, After}
use Rattle.mn_node.specs.declared.logging.Logging.{Logging}
use Rattle.mn_node.specs.declared.logging.Logging.TheVariants.{NoRoom, Unshortened, Stopped, Logged}
use Rattle.mn_node.specs.declared.requests.Served.{Served}
use Rattle.mn_node.specs.declared.requests.Served.TheVariants as Serve
use Rattle.mn_page.specs.Base.{base_of}
use Rattle.mn_node.specs.Memory.{IsMemory, HasDecisionRoom, HasFront}

-- the bodies of records
abbrev pub bodies_of : List Record → List (List ℕ)
bodies_of records = map record_bytes records

-- the records, of which the first so many are shortened
abbrev pub listed : ℕ → List Record → List Record
listed cut records = short (take cut records) ++ drop cut records

-- the list in the log of a node with this memory
abbrev pub on_disk : Memory → List Record
on_disk m = listed m.cut m.records.items

-- the bytes stand for the records: their list is that of the records, of which the first, so many
-- as there may be, are shortened
pub record StandsUpTo (node nodes : ℕ) (content : List ℕ) (records : List Record) : Type 0 where
  pub cut : ℕ
  pub within : cut ≤ length records
  pub stands : Stands node nodes content (bodies_of (listed cut records))

-- the log is that of these bodies, and an honest disk stands for them
pub record IsLogFor {D : Type 0} (state : D → DiskState) (redo : AppenderState D)
    (bodies : List (List ℕ)) : Type 0 where
  pub log : IsLogOf state redo bodies
  pub stands : (state redo.disk).honest → StandsFor (state redo.disk) redo.node redo.nodes bodies

-- a node that is up: its log is that of its records, the first perhaps shortened, and there is room
-- for a decision of each held part
pub record IsNodeUp {D : Type 0} (state : D → DiskState) (redo : AppenderState D) (m : Memory)
    : Type 0 where
  pub memory : IsMemory m
  pub room : HasDecisionRoom m
  pub started : redo.phase ≡ Started
  pub log : IsLogFor state redo (bodies_of (on_disk m))
  pub front : HasFront m
  pub spare_bodies : vec_len m.held ≤ redo.spare_bodies
  pub spare_bytes : 11 * vec_len m.held ≤ redo.spare_bytes

-- room for one record more, of so many bytes, and so many ranges
pub record HasRoomForRecord {D : Type 0} (redo : AppenderState D) (m : Memory) (size count : ℕ)
    : Type 0 where
  pub held : vec_len m.held < 2 ^ 32 - 2
  pub size_fits : size < 2 ^ 32
  pub bodies : vec_len m.held + 2 ≤ redo.spare_bodies
  pub bytes : 11 * (vec_len m.held + 1) + size ≤ redo.spare_bytes
  pub records : vec_len m.records + vec_len m.held + 2 ≤ vec_capacity m.records
  pub forced : vec_len m.forced < vec_capacity m.forced
  pub votes : vec_len m.held < vec_capacity m.held
  pub ranges : count ≤ m.locks.spare

-- the log is on the same disk, and its node is the same
pub record LogKeepsDisk {D : Type 0} (state : D → DiskState) (faults : D → ℕ)
    (old new : AppenderState D) : Type 0 where
  pub node : new.node ≡ old.node
  pub nodes : new.nodes ≡ old.nodes
  pub honest : (state old.disk).honest → (state new.disk).honest
  pub no_better : (state new.disk).honest → (state old.disk).honest
  pub later : faults old.disk ≤ faults new.disk
  -- a header that was there is still there
  pub header : ((state old.disk).honest → HasHeader (state old.disk)) → (state new.disk).honest
      → HasHeader (state new.disk)

abbrev pub KeepsNodeNumbers : Memory → Memory → Type 0
KeepsNodeNumbers old new = (new.node ≡ old.node) × (new.nodes ≡ old.nodes)

abbrev pub added_to : List Record → Option Record → List Record
added_to records None = records
added_to records (Some r) = records ++ r ∷ []

-- what the records of a node answer, which stand oldest first
abbrev pub node_answer : Memory → Request → Response
node_answer m request = answer (base_of m.nodes m.node) (reverse m.records.items) request

-- the bytes stand for the one list or for the other
abbrev pub IsEither : ℕ → ℕ → List Record → List Record → List ℕ → Type 0
IsEither node nodes list other c =
    Stands node nodes c (bodies_of list) ⊎ Stands node nodes c (bodies_of other)

-- each image of the disk stands for the one list or for the other
abbrev pub StandsForEither : DiskState → ℕ → ℕ → List Record → List Record → Type 0
StandsForEither disk node nodes list other =
    (c : List ℕ) → disk.images c → IsEither node nodes list other c

-- each image of the disk stands for these records, or for these and the one
abbrev pub StandsWithOrWithout : DiskState → ℕ → ℕ → List Record → Option Record → Type 0
StandsWithOrWithout disk node nodes records added =
    StandsForEither disk node nodes records (added_to records added)

-- the bytes stand for these records, or for these and the one, and in both the first may be
-- shortened
abbrev pub IsUpToWithOrWithout : ℕ → ℕ → List Record → Option Record → List ℕ → Type 0
IsUpToWithOrWithout node nodes records added c =
    StandsUpTo node nodes c records ⊎ StandsUpTo node nodes c (added_to records added)

-- what a crash at any moment of a call leaves: the disk wasn't touched, or it leaves only bytes
-- that have P, where the disk is honest
abbrev pub CrashLeavesOnly : {D : Type 0} → (D → DiskState) → D → D → (List ℕ → Type 0) → Type 0
CrashLeavesOnly state old new P =
    (new ≡ old) ⊎ ((state old).honest → LeavesOnly (state old) (state new) P)

-- the disk wasn't touched, or nothing of it has changed but its room, where it is honest
abbrev pub DiskStaysIfHonest : {D : Type 0} → (D → DiskState) → D → D → Type 0
DiskStaysIfHonest state old new =
    (new ≡ old) ⊎ ((state old).honest → DiskStays (state old) (state new))

-- the body's record stands behind its closed gate, and is stable
pub record IsHalfWritten (disk : DiskState) (node nodes : ℕ) (bodies : List (List ℕ))
    (body : List ℕ)
    : Type 0 where
  pub staged : IsStagedAt node nodes bodies body disk.content
  pub stable : IsStable disk

-- Where a record was to be put into the log and wasn't, the disk failed, or a stop was asked for.
-- Of an honest disk: a stop before the log leaves it as it was; one at half of the record leaves
-- the list from before, and, unless the disk failed, the record behind its closed gate; one after
-- the record leaves, unless the disk failed, the list with the record.
abbrev pub StopLeaves : {D : Type 0} → (D → DiskState) → (D → ℕ) → D → D → ℕ → ℕ → List (List ℕ)
    → List ℕ → Option StopAt → Type 0
StopLeaves state faults old new node nodes bodies body None = Rose (faults old) (faults new)
StopLeaves state faults old new node nodes bodies body (Some Before) =
    (state old).honest → StandsFor (state new) node nodes bodies × DiskStays (state old) (state new)
StopLeaves state faults old new node nodes bodies body (Some Half) =
    ((state old).honest → StandsFor (state new) node nodes bodies)
    × (Rose (faults old) (faults new)
    ⊎ ((state old).honest → IsHalfWritten (state new) node nodes bodies body))
StopLeaves state faults old new node nodes bodies body (Some After) =
    Rose (faults old) (faults new)
    ⊎ ((state old).honest → StandsFor (state new) node nodes (bodies ++ body ∷ []))

-- the log, which was that of these bodies, has one more, stable on an honest disk
pub record HasOneBodyMore {D : Type 0} (state : D → DiskState) (old new : AppenderState D)
    (bodies : List (List ℕ)) (body : List ℕ) : Type 0 where
  pub started : new.phase ≡ Started
  pub log : IsLogFor state new (bodies ++ body ∷ [])
  pub spare_bodies : old.spare_bodies ≤ new.spare_bodies + 1
  pub spare_bytes : old.spare_bytes ≤ new.spare_bytes + length body

-- a node that stopped inside a request which adds this record: its disk stands for its records,
-- with the record or without, as far as the stop says
pub record HasStopped {D : Type 0} (state : D → DiskState) (faults : D → ℕ) (old new : D)
    (node nodes : ℕ) (records : List Record) (r : Record) (stop : Option StopAt) : Type 0 where
  pub stands : (state old).honest → StandsWithOrWithout (state new) node nodes records (Some r)
  pub at : StopLeaves state faults old new node nodes (bodies_of records) (record_bytes r) stop

-- the disk failed while the log was shortened: it has its list, or that of all records, shortened
pub record FailsToShorten {D : Type 0} (state : D → DiskState) (faults : D → ℕ) (old new : D)
    (node nodes : ℕ) (list records : List Record) : Type 0 where
  pub rose : Rose (faults old) (faults new)
  pub stands : (state old).honest → StandsForEither (state new) node nodes list (short records)

-- before a record was to be put into the log nothing was done; or the log was shortened, and so
-- many records stand shortened now, all of them
abbrev pub MayHaveShortened : {D : Type 0} → (D → DiskState) → (D → ℕ) → D → D → List Record → ℕ
    → ℕ → Type 0
MayHaveShortened state faults old between records before after =
    ((between ≡ old) × (after ≡ before))
    ⊎ ((after ≡ length records) × (faults old ≤ faults between)
    × ((state old).honest → (state between).honest))

-- a node that stopped at the record of a request, once its log was shortened where that was due
pub record StopsAtRecord {D : Type 0} (state : D → DiskState) (faults : D → ℕ) (old new : D)
    (node nodes : ℕ) (records : List Record) (before after : ℕ) (r : Record)
    (stop : Option StopAt) : Type 0 where
  pub between : D
  pub shortened : MayHaveShortened state faults old between records before after
  pub stopped : HasStopped state faults between new node nodes (listed after records) r stop

-- how a node stopped: the disk failed while its log was shortened, or it stopped at the record
abbrev pub Stops : {D : Type 0} → (D → DiskState) → (D → ℕ) → D → D → ℕ → ℕ → List Record → ℕ → ℕ
    → Bool → Record → Option StopAt → Type 0
Stops state faults old new node nodes records before after true r stop =
    (after ≡ before)
    × FailsToShorten state faults old new node nodes (listed before records) records
Stops state faults old new node nodes records before after false r stop =
    StopsAtRecord state faults old new node nodes records before after r stop

-- no stop was asked for, or there is nothing to stop at
abbrev pub NoStopIsDue : Option StopAt → Option Record → Type 0
NoStopIsDue None added = ⊤
NoStopIsDue (Some stop) added = added ≡ None

-- what a reply says of a node that is up: nothing has changed for want of memory; else the reply is
-- the answer, and its record is added
abbrev pub Replies : {D : Type 0} → (D → DiskState) → Memory → Request → Option StopAt → NodeReply
    → AppenderState D → Memory → Type 0
Replies state m request stop Say.NoMemory new after =
    IsNodeUp state new after × (after.records.items ≡ m.records.items) × (after.cut ≡ m.cut)
Replies state m request stop Say.Stopped new after = ⊥
Replies state m request stop Say.Down new after = ⊥
Replies state m request stop reply new after =
    IsNodeUp state new after × ((node_answer m request).reply ≡ reply)
    × (after.records.items ≡ added_to m.records.items (node_answer m request).added)
    × NoStopIsDue stop (node_answer m request).added

-- what a request does to a node that is up: it replies, or it stops, and then its record may stand
-- on the disk or not
abbrev pub Handled : {D : Type 0} → (D → DiskState) → (D → ℕ) → AppenderState D → Memory → Request
    → Option StopAt → Served → AppenderState D → Memory → Type 0
Handled state faults redo m request stop (Serve.Replied reply) new after =
    Replies state m request stop reply new after
Handled state faults redo m request stop (Serve.Stopped left cutting) new after =
    (after.records.items ≡ m.records.items) × ((node_answer m request).added ≡ Some left)
    × Stops state faults redo.disk new.disk redo.node redo.nodes m.records.items m.cut after.cut
    cutting left stop
    × HasFront after

-- a reply that is Done
abbrev pub IsDone : NodeReply → Type 0
IsDone (Say.Done reads) = ⊤
IsDone reply = ⊥

abbrev pub RepliesDone : Served → Type 0
RepliesDone (Serve.Replied reply) = IsDone reply
RepliesDone served = ⊥

-- where the log may be shortened, its tail is short behind a record that was added
abbrev pub KeepsTailShort : {D : Type 0} → AppenderState D → Option Record → Served
    → AppenderState D → Type 0
KeepsTailShort old added served new =
    old.number ≢ 2 ^ 63 → (r : Record) → added ≡ Some r → RepliesDone served
    → new.tail < 2 ^ 20 + 5 + length (record_bytes r)

-- the log has the record, stable on an honest disk, and the memory has the room for it
pub record IsLogged {D : Type 0} (state : D → DiskState) (redo : AppenderState D) (m : Memory)
    (r : Record) (count : ℕ) : Type 0 where
  pub memory : IsMemory m
  pub room : HasDecisionRoom m
  pub held : vec_len m.held < 2 ^ 32 - 2
  pub records : vec_len m.records + vec_len m.held + 2 ≤ vec_capacity m.records
  pub forced : vec_len m.forced < vec_capacity m.forced
  pub votes : vec_len m.held < vec_capacity m.held
  pub ranges : count ≤ m.locks.spare
  pub started : redo.phase ≡ Started
  pub log : IsLogFor state redo (bodies_of (on_disk m ++ r ∷ []))
  pub front : HasFront m
  pub spare_bodies : vec_len m.held + 1 ≤ redo.spare_bodies
  pub spare_bytes : 11 * (vec_len m.held + 1) ≤ redo.spare_bytes

-- what the attempt to log a record leaves
abbrev pub LoggingLeaves : {D : Type 0} → (D → DiskState) → (D → ℕ) → AppenderState D → Memory
    → Record → ℕ → Option StopAt → Logging → AppenderState D → Memory → Type 0
LoggingLeaves state faults redo m r count stop NoRoom new after =
    IsNodeUp state new after × (after.records.items ≡ m.records.items) × (after.cut ≡ m.cut)
LoggingLeaves state faults redo m r count stop Unshortened new after =
    (after.records.items ≡ m.records.items)
    × Stops state faults redo.disk new.disk redo.node redo.nodes m.records.items m.cut after.cut
    true r stop
    × HasFront after
LoggingLeaves state faults redo m r count stop Stopped new after =
    (after.records.items ≡ m.records.items)
    × Stops state faults redo.disk new.disk redo.node redo.nodes m.records.items m.cut after.cut
    false r stop
    × HasFront after
LoggingLeaves state faults redo m r count stop Logged new after =
    IsLogged state new after r count × (after.records.items ≡ m.records.items)
    × (vec_len after.held ≡ vec_len m.held) × (stop ≡ None)

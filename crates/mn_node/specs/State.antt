-- What contracts see of a node.
use Rattle.std.specs.Prelude.{◌≡◌, ◌<◌, ◌≤◌, ℕ, Bool, true, false, List, [], reverse, get_or}
use Rattle.std.specs.Prelude.{length, Option, Some, None, IsSome, take, ⊤}
use Rattle.std.specs.List.{AllByRecursion}
use Rattle.mn_base.specs.declared.gate.StopAt.{StopAt}
use Rattle.mn_io.specs.DiskModel.{DiskState}
use Rattle.mn_redo.specs.Appender.{AppenderState}
use Rattle.mn_redo.specs.Grammar.{places}
use Rattle.mn_redo.specs.Redo.{HasHeader, RedoState, StandsFor}
use Rattle.mn_mini.specs.declared.record.Record.{Record}
use Rattle.mn_mini.specs.declared.request.Request.{Request}
use Rattle.mn_mini.specs.declared.request.Request.TheVariants as Ask
use Rattle.mn_mini.specs.declared.reply.NodeReply.{NodeReply}
use Rattle.mn_mini.specs.declared.reply.NodeReply.TheVariants as Say
use Rattle.mn_mini.specs.Laws.{PartsAreApart}
use Rattle.mn_mini.specs.Node.{Response, answer, held_parts}
use Rattle.mn_mini.specs.RecordGrammar.{IsRecord, SpellsNone}
use Rattle.mn_mini.specs.Short.{short}
use Rattle.mn_node.specs.declared.memory.Memory.{Memory}
use Rattle.mn_node.specs.declared.restart.Found.{Found}
use Rattle.mn_node.specs.declared.restart.Found.TheVariants.{Own, Longer, AllShortened}
use Rattle.mn_page.specs.Base.{base_of}
use Rattle.mn_node.specs.Memory.{HasFront}
use Rattle.mn_node.specs.Node.{IsNodeUp, NoStopIsDue, StandsForEither, Stops, added_to, bodies_of}
use Rattle.mn_node.specs.Node.{IsUpToWithOrWithout, StandsUpTo, listed, on_disk}

-- its disk, its number and that of all nodes, its records, the oldest first, how many of them, the
-- first, are shortened in its log, the number of the log's current area and the bytes of records
-- since it was read or shortened, and whether the node is down: then beside the record of the
-- request inside which it stopped, which may stand on the disk or not, and whether the disk failed
-- while the log was shortened
pub record NodeState (D : Type 0) : Type 0 where
  pub disk : D
  pub node : ℕ
  pub nodes : ℕ
  pub records : List Record
  pub cut : ℕ
  pub number : ℕ
  pub tail : ℕ
  pub down : Bool
  pub pending : Option Record
  pub cutting : Bool

-- what the disk of a node that is down may have in place of its list: where it failed while the log
-- was shortened, all records, shortened; else the list with the pending record
abbrev pub other_list : Bool → List Record → List Record → Option Record → List Record
other_list true list records pending = short records
other_list false list records pending = added_to list pending

-- the same of what a node keeps in memory
abbrev pub other_list_of : Memory → Option Record → Bool → List Record
other_list_of m pending cutting = other_list cutting (on_disk m) m.records.items pending

-- the list that was found: the node's own, that and the pending record, or all records, shortened
abbrev pub list_of : Memory → Option Record → Found → List Record
list_of m pending Own = on_disk m
list_of m pending Longer = added_to (on_disk m) pending
list_of m pending (AllShortened list) = short m.records.items

-- there is a pending record where it was found, and a shortened list is that of all records
abbrev pub FitsMemory : Memory → Option Record → Found → Type 0
FitsMemory m pending Own = ⊤
FitsMemory m pending Longer = IsSome pending
FitsMemory m pending (AllShortened list) = list.items ≡ short m.records.items

-- which other list may be found, by whether the disk failed while the log was shortened
abbrev pub MayBeFound : Bool → Found → Type 0
MayBeFound cutting Own = ⊤
MayBeFound cutting Longer = cutting ≡ false
MayBeFound cutting (AllShortened list) = cutting ≡ true

-- the pending record was found
abbrev pub is_longer : Found → Bool
is_longer Longer = true
is_longer found = false

-- the pending record that its disk may have behind its list
abbrev pub left_behind_list : Bool → Option Record → Option Record
left_behind_list true pending = None
left_behind_list false pending = pending

-- an honest disk has the list of the records, the first perhaps shortened, and while the node is
-- down, that or the other
pub record IsNode {D : Type 0} (state : D → DiskState) (redo : AppenderState D) (m : Memory)
    (down : Bool) (pending : Option Record) (cutting : Bool) : Type 0 where
  pub up : down ≡ false → IsNodeUp state redo m
  pub settled : down ≡ false → pending ≡ None
  pub whole : down ≡ false → cutting ≡ false
  pub front : HasFront m
  pub sound : AllByRecursion IsRecord (added_to m.records.items pending)
  pub apart : PartsAreApart (held_parts (reverse m.records.items))
  pub apart_left : PartsAreApart (held_parts (reverse (added_to m.records.items pending)))
  pub stands : (state redo.disk).honest
      → StandsForEither (state redo.disk) redo.node redo.nodes (on_disk m)
      (other_list_of m pending cutting)
  pub header : (state redo.disk).honest → HasHeader (state redo.disk)
  pub node : m.node ≡ redo.node
  pub nodes : m.nodes ≡ redo.nodes
  pub some : 0 < redo.nodes

-- where the disk is honest, each image of it stands for the records
abbrev pub StandsForRecords : DiskState → ℕ → ℕ → List Record → Type 0
StandsForRecords disk node nodes records =
    disk.honest → StandsFor disk node nodes (bodies_of records)

-- each image of the disk stands for the records, of which the first may be shortened
abbrev pub StandsForUpTo : DiskState → ℕ → ℕ → List Record → Type 0
StandsForUpTo disk node nodes records =
    (c : List ℕ) → disk.images c → StandsUpTo node nodes c records

-- the same where the disk is honest
abbrev pub StandsUpToAll : DiskState → ℕ → ℕ → List Record → Type 0
StandsUpToAll disk node nodes records = disk.honest → StandsForUpTo disk node nodes records

-- each image of the disk stands for these records, or for these and the one, and in both the first
-- may be shortened
abbrev pub StandsUpToWithOrWithout : DiskState → ℕ → ℕ → List Record → Option Record → Type 0
StandsUpToWithOrWithout disk node nodes records added =
    (c : List ℕ) → disk.images c → IsUpToWithOrWithout node nodes records added c

-- a vote or an execution
abbrev pub MayShorten : Request → Type 0
MayShorten (Ask.Prepare tid participants part) = ⊤
MayShorten (Ask.Exec tid part) = ⊤
MayShorten request = ⊥

-- the reply to a request, and the record that it adds, by the records alone
abbrev pub response_to : {D : Type 0} → NodeState D → Request → Response
response_to n request = answer (base_of n.nodes n.node) (reverse n.records) request

-- what a call leaves of a node's disk and its numbers
pub record NodeKeepsDisk {D : Type 0} (state : D → DiskState) (faults : D → ℕ)
    (old new : NodeState D)
    : Type 0 where
  pub node : new.node ≡ old.node
  pub nodes : new.nodes ≡ old.nodes
  pub honest : (state old.disk).honest → (state new.disk).honest
  pub no_better : (state new.disk).honest → (state old.disk).honest
  pub later : faults old.disk ≤ faults new.disk

-- What a request does, by the reply. NoMemory: nothing. Stopped: the node is down, with the records
-- from before, and the record that the answer adds may stand on the disk or not, as far as the stop
-- says. Down: it was down, and nothing has changed. Else the reply is the answer, and its record is
-- added and stable; where a stop was asked for, there was no record to stop at.
abbrev pub Answers : {D : Type 0} → (D → DiskState) → (D → ℕ) → NodeState D → Request
    → Option StopAt → NodeReply → NodeState D → Type 0
Answers state faults old request stop Say.NoMemory new =
    (old.down ≡ false) × (new.down ≡ false) × (new.records ≡ old.records) × (new.cut ≡ old.cut)
    × StandsForRecords (state new.disk) new.node new.nodes (listed new.cut new.records)
Answers state faults old request stop Say.Stopped new =
    (old.down ≡ false) × (new.down ≡ true) × (new.records ≡ old.records)
    × (r : Record) × ((response_to old request).added ≡ Some r) × (new.pending ≡ Some r)
    × Stops state faults old.disk new.disk old.node old.nodes old.records old.cut new.cut
    new.cutting r stop
Answers state faults old request stop Say.Down new = (old.down ≡ true) × (new ≡ old)
Answers state faults old request stop reply new =
    (old.down ≡ false) × (new.down ≡ false) × ((response_to old request).reply ≡ reply)
    × (new.records ≡ added_to old.records (response_to old request).added)
    × NoStopIsDue stop (response_to old request).added
    × StandsForRecords (state new.disk) new.node new.nodes (listed new.cut new.records)

-- what is asked of a log before its node is started: if its bodies are records, no two parts of
-- different ids that they hold conflict
abbrev pub HoldsPartsApart : List (List ℕ) → Type 0
HoldsPartsApart bodies =
    (records : List Record) → AllByRecursion IsRecord records → bodies ≡ bodies_of records
    → PartsAreApart (held_parts (reverse records))

-- the bodies are those of records, which are in the grammar
pub record AreRecords (bodies : List (List ℕ)) (records : List Record) : Type 0 where
  pub bodies_are : bodies ≡ bodies_of records
  pub sound : AllByRecursion IsRecord records

-- of bodies whose log begins at a place, the first that spells no record is the one whose gate is
-- at this place
pub record IsFirstBadBody (start : ℕ) (bodies : List (List ℕ)) (at : ℕ) : Type 0 where
  pub number : ℕ
  pub within : number < length bodies
  pub before : List Record
  pub records : AreRecords (take number bodies) before
  pub bad : SpellsNone (get_or bodies number [])
  pub at_is : at ≡ get_or (places start bodies) number 0

-- a node that was started on a log
pub record IsStarted {D : Type 0} (state : D → DiskState) (redo : RedoState D) (n : NodeState D)
    : Type 0 where
  pub up : n.down ≡ false
  pub records : AreRecords redo.bodies n.records
  pub node : n.node ≡ redo.node
  pub nodes : n.nodes ≡ redo.nodes
  pub uncut : n.cut ≡ 0
  pub stands : StandsForRecords (state n.disk) n.node n.nodes n.records

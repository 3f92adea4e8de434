-- Logs that were read from disks, and nodes that were started on them.
use Rattle.std.specs.Prelude.{ℕ, ◌≡◌, ◌≢◌, ◌≤◌, ◌<◌, false, List, length, slice_get, Some, ⊤}
use Rattle.std.specs.List.{AllByRecursion}
use Rattle.mn_base.specs.Store.{Store}
use Rattle.mn_cell.specs.declared.trace.RunCause.{RunCause}
use Rattle.mn_cell.specs.declared.trace.RunCause.TheVariants as runs
use Rattle.mn_forest.specs.declared.error.ForestError.{ForestError}
use Rattle.mn_forest.specs.declared.error.ForestError.TheVariants as forest
use Rattle.mn_flat.specs.declared.error.VoteError.{VoteError}
use Rattle.mn_flat.specs.declared.error.VoteError.TheVariants as vote
use Rattle.mn_hist.specs.Audit.{versions_told}
use Rattle.mn_io.specs.DiskModel.{DiskState}
use Rattle.mn_io.specs.Faults.{Rose}
use Rattle.mn_mini.specs.declared.record.Record.{Record}
use Rattle.mn_node.specs.State.{AreRecords, HoldsPartsApart, NodeState, StandsForRecords}
use Rattle.mn_node.specs.State.{StandsUpToAll, StandsUpToWithOrWithout}
use Rattle.mn_node.specs.declared.start.StartCause.{StartCause}
use Rattle.mn_node.specs.declared.start.StartCause.TheVariants as starts
use Rattle.mn_redo.specs.Grammar.{IsDamaged, Stands}
use Rattle.mn_redo.specs.Redo.{RedoState, StandsFor}
use Rattle.mn_redo.specs.declared.open.OpenCause.{OpenCause}
use Rattle.mn_redo.specs.declared.open.OpenCause.TheVariants as opens
use Rattle.mn_redo.specs.declared.redo.Phase.TheVariants.{Closing}
use Rattle.mn_report.specs.Report.{check_text}
use Rattle.mn_script.specs.Script.{Script}
use Rattle.mn_runs.specs.declared.entry.Entry.{Entry}
use Rattle.mn_runs.specs.Protocol.{Start, run_number, start_of}
use Rattle.mn_top.specs.declared.due.DamageRule.TheVariants.{Both, Forest, Kept, Log, Runs, Votes}
use Rattle.mn_top.specs.declared.due.Due.{Due}
use Rattle.mn_top.specs.declared.due.Due.TheVariants as dues
use Rattle.mn_top.specs.Check.{HasRisen}
use Rattle.mn_top.specs.Ending.{Misfits}
use Rattle.mn_top.specs.Opening.{AreUnwritten, HasNumber, IsBadLog, IsFirstBadLog, IsOpenedAs}
use Rattle.mn_top.specs.Opening.{IsUnwritten, WereRead}
use Rattle.mn_top.specs.Telling.{Tells}
use Rattle.mn_top.specs.declared.words.Command.{Command}

-- One log

-- the log of the node of this number, of so many nodes, was read from this disk: its bodies are
-- those of these records, and nothing was written
pub record WasRead {D : Type 0} (state : D → DiskState) (faults : D → ℕ) (nodes k : ℕ) (old : D)
    (redo : RedoState D) (list : List Record) : Type 0 where
  pub going : redo.phase ≢ Closing
  pub node : redo.node ≡ k
  pub nodes_are : redo.nodes ≡ nodes
  pub records : AreRecords redo.bodies list
  pub read : (state old).honest → Stands k nodes (state old).content redo.bodies
  pub stands : (state redo.disk).honest → StandsFor (state redo.disk) k nodes redo.bodies
  pub unwritten : IsUnwritten (state old) (state redo.disk)
  pub later : faults old ≤ faults redo.disk

-- the log of this disk wasn't opened, for this cause, and nothing was written
pub record WasRefused {D : Type 0} (state : D → DiskState) (faults : D → ℕ) (nodes k : ℕ) (old : D)
    (cause : OpenCause) (disk : D) : Type 0 where
  pub unwritten : IsUnwritten (state old) (state disk)
  pub later : faults old ≤ faults disk
  pub fault : cause ≡ opens.Fault → Rose (faults old) (faults disk)
  pub damaged : (state old).honest → (at : ℕ) → cause ≡ opens.Damaged at
      → IsDamaged k nodes (state old).content at
  pub content : (state old).honest → (at : ℕ) → cause ≡ opens.Damaged at
      → (state disk).content ≡ (state old).content

-- what may be due of a disk whose records weren't read
abbrev pub IsDueOf : {D : Type 0} → (D → DiskState) → (D → ℕ) → ℕ → ℕ → D → D → Due → Type 0
IsDueOf state faults nodes k old new (dues.DiskFault n) = (n ≡ k) × Rose (faults old) (faults new)
IsDueOf state faults nodes k old new (dues.Damaged n place Log) =
    (n ≡ k) × IsBadLog nodes k (state old) place
IsDueOf state faults nodes k old new dues.NoMemory = ⊤
IsDueOf state faults nodes k old new due = ⊥

-- they weren't, nothing was written, and this is due
pub record WasntRead {D : Type 0} (state : D → DiskState) (faults : D → ℕ) (nodes k : ℕ)
    (old new : D) (due : Due) : Type 0 where
  pub unwritten : IsUnwritten (state old) (state new)
  pub due_is : IsDueOf state faults nodes k old new due

-- what is due where the records of a log aren't read, or its node isn't started
abbrev pub due_of_starting : ℕ → StartCause → Due
due_of_starting k starts.Fault = dues.DiskFault k
due_of_starting k (starts.Damaged at) = dues.Damaged k at Log
due_of_starting k starts.NoMemory = dues.NoMemory

-- All logs

-- the logs of the first of these disks were read, in order
pub record AreRead {D : Type 0} (state : D → DiskState) (faults : D → ℕ) (given : List D)
    (redos : List (RedoState D)) (records : List (List Record)) : Type 0 where
  pub within : length redos ≤ length given
  pub same : length records ≡ length redos
  pub each : (k : ℕ) (old : D) (redo : RedoState D) (list : List Record)
      → slice_get given k ≡ Some old → slice_get redos k ≡ Some redo
      → slice_get records k ≡ Some list
      → WasRead state faults (length given) k old redo list

-- those of all
pub record AllRead {D : Type 0} (state : D → DiskState) (faults : D → ℕ) (given : List D)
    (redos : List (RedoState D)) (records : List (List Record)) : Type 0 where
  pub are : AreRead state faults given redos records
  pub whole : length redos ≡ length given

-- what is due where the logs of the disks weren't all read: the first that wasn't is told
abbrev pub IsDueAtOpening : {D : Type 0} → (D → DiskState) → (D → ℕ) → List D → List D → Due
    → Type 0
IsDueAtOpening state faults given left (dues.DiskFault n) =
    HasRisen faults given left n × WereRead state given n
IsDueAtOpening state faults given left (dues.Damaged n place Log) =
    IsFirstBadLog state given n place
IsDueAtOpening state faults given left dues.NoMemory = ⊤
IsDueAtOpening state faults given left due = ⊥

-- they weren't, nothing was written, and this is due
pub record WerentRead {D : Type 0} (state : D → DiskState) (faults : D → ℕ) (given left : List D)
    (due : Due) : Type 0 where
  pub unwritten : AreUnwritten state given left
  pub due_is : IsDueAtOpening state faults given left due

-- the records make this store, and a run on them has this number
pub record MakeStart (records : List (List Record)) (store : Store) (run : ℕ) : Type 0 where
  pub opened : IsOpenedAs (start_of records) store
  pub numbered_so : HasNumber (start_of records)
  pub run_is : run ≡ run_number (start_of records)

-- why they hold no store
abbrev pub HoldNone : List (List Record) → Due → Type 0
HoldNone records (dues.Damaged n place Runs) = ⊥
HoldNone records (dues.Damaged n place rule) = Misfits records n place rule
HoldNone records dues.NoMemory = ⊤
HoldNone records due = ⊥

-- what a check tells of them: the versions of their store, or why they hold none
abbrev pub AreTold : List (List Record) → Due → Type 0
AreTold records (dues.Report text) =
    (store : Store) × IsOpenedAs (start_of records) store
    × (text ≡ check_text (versions_told store))
AreTold records due = HoldNone records due

-- why they make none
abbrev pub AreJudged : List (List Record) → Due → Type 0
AreJudged records (dues.Damaged n place rule) = Misfits records n place rule
AreJudged records dues.NoMemory = ⊤
AreJudged records due = ⊥

-- what is due where the records make no memory, or their memory holds no store
abbrev pub due_of_votes : VoteError → Due
due_of_votes (vote.Unvoted n number) = dues.Damaged n.0 number Votes
due_of_votes (vote.Both n number) = dues.Damaged n.0 number Both
due_of_votes vote.NoMemory = dues.NoMemory

abbrev pub due_of_forest : ForestError → Due
due_of_forest (forest.Broken n start rule) = dues.Damaged n.0 start (Forest rule)
due_of_forest forest.NoMemory = dues.NoMemory

-- Nodes

-- the node of this log may be started: an honest disk stands for its bodies, which are records
pub record MayBeStarted {D : Type 0} (state : D → DiskState) (redo : RedoState D) : Type 0 where
  pub going : redo.phase ≢ Closing
  pub some : 0 < redo.nodes
  pub apart : HoldsPartsApart redo.bodies
  pub list : List Record
  pub records : AreRecords redo.bodies list
  pub stands : (state redo.disk).honest
      → StandsFor (state redo.disk) redo.node redo.nodes redo.bodies

-- each of these may be
abbrev pub MayAllBeStarted : {D : Type 0} → (D → DiskState) → List (RedoState D) → Type 0
MayAllBeStarted {D} state redos =
    (k : ℕ) (redo : RedoState D) → slice_get redos k ≡ Some redo → MayBeStarted state redo

-- the node of this log was started
pub record WasStarted {D : Type 0} (state : D → DiskState) (faults : D → ℕ) (redo : RedoState D)
    (n : NodeState D) : Type 0 where
  pub up : n.down ≡ false
  pub node : n.node ≡ redo.node
  pub nodes_are : n.nodes ≡ redo.nodes
  pub records : AreRecords redo.bodies n.records
  pub stands : StandsForRecords (state n.disk) n.node n.nodes n.records
  pub honest : (state redo.disk).honest → (state n.disk).honest
  pub later : faults redo.disk ≤ faults n.disk

-- the nodes of the first of these logs were, in order
pub record AreStarted {D : Type 0} (state : D → DiskState) (faults : D → ℕ)
    (redos : List (RedoState D)) (nodes : List (NodeState D)) : Type 0 where
  pub within : length nodes ≤ length redos
  pub each : (k : ℕ) (redo : RedoState D) (n : NodeState D) → slice_get redos k ≡ Some redo
      → slice_get nodes k ≡ Some n → WasStarted state faults redo n

-- the disk of this log still stands for its bodies, where it is honest
pub record StillStands {D : Type 0} (state : D → DiskState) (faults : D → ℕ) (redo : RedoState D)
    (disk : D) : Type 0 where
  pub honest : (state redo.disk).honest → (state disk).honest
  pub later : faults redo.disk ≤ faults disk
  pub stands : (state redo.disk).honest
      → StandsFor (state disk) redo.node redo.nodes redo.bodies

-- the disk of the log of this number failed
pub record FailedAt {D : Type 0} (faults : D → ℕ) (redos : List (RedoState D)) (disks : List D)
    (k : ℕ) : Type 0 where
  pub redo : RedoState D
  pub disk : D
  pub was : slice_get redos k ≡ Some redo
  pub is : slice_get disks k ≡ Some disk
  pub rose : Rose (faults redo.disk) (faults disk)

-- what may be due where a node wasn't started
abbrev pub IsDueAtStart : {D : Type 0} → (D → ℕ) → List (RedoState D) → List D → Due → Type 0
IsDueAtStart faults redos disks (dues.DiskFault k) = FailedAt faults redos disks k
IsDueAtStart faults redos disks dues.NoMemory = ⊤
IsDueAtStart faults redos disks due = ⊥

-- the nodes of these logs weren't all started, and these are their disks
pub record WerentStarted {D : Type 0} (state : D → DiskState) (faults : D → ℕ)
    (redos : List (RedoState D)) (disks : List D) (due : Due) : Type 0 where
  pub count : length disks ≡ length redos
  pub each : (k : ℕ) (redo : RedoState D) (disk : D) → slice_get redos k ≡ Some redo
      → slice_get disks k ≡ Some disk → StillStands state faults redo disk
  pub due_is : IsDueAtStart faults redos disks due

-- what the disk of a node stands for
pub record ClosesSo {D : Type 0} (state : D → DiskState) (n : NodeState D) : Type 0 where
  pub up : n.down ≡ false → StandsUpToAll (state n.disk) n.node n.nodes n.records
  pub stands : (state n.disk).honest
      → StandsUpToWithOrWithout (state n.disk) n.node n.nodes n.records n.pending

-- those of these nodes
abbrev pub AllCloseSo : {D : Type 0} → (D → DiskState) → List (NodeState D) → Type 0
AllCloseSo state nodes = AllByRecursion (ClosesSo state) nodes

-- the node of this number, of so many, is up on this disk, with the records that it showed
pub record IsReady {D : Type 0} (state : D → DiskState) (faults : D → ℕ) (nodes k : ℕ) (old : D)
    (list : List Record) (n : NodeState D) : Type 0 where
  pub up : n.down ≡ false
  pub node : n.node ≡ k
  pub nodes_are : n.nodes ≡ nodes
  pub records : n.records ≡ list
  pub honest : (state old).honest → (state n.disk).honest
  pub later : faults old ≤ faults n.disk

-- each node is
pub record AreReady {D : Type 0} (state : D → DiskState) (faults : D → ℕ) (given : List D)
    (records : List (List Record)) (nodes : List (NodeState D)) : Type 0 where
  pub count : length nodes ≡ length given
  pub same : length records ≡ length given
  pub each : (k : ℕ) (old : D) (list : List Record) (n : NodeState D)
      → slice_get given k ≡ Some old → slice_get records k ≡ Some list
      → slice_get nodes k ≡ Some n → IsReady state faults (length given) k old list n

-- Runs

-- what is due of a run's log
abbrev pub IsToldOf : Command → Start → Store → Script → List Entry → Due → Type 0
IsToldOf command from store script past (dues.Report text) =
    Tells command from store script past text
IsToldOf command from store script past dues.NoMemory = ⊤
IsToldOf command from store script past due = ⊥

-- what is due of a run that failed
abbrev pub due_of_failing : RunCause → Due
due_of_failing (runs.Disk n) = dues.DiskFault n.0
due_of_failing (runs.Damaged n place kept found) = dues.Damaged n.0 place Kept
due_of_failing runs.NoMemory = dues.NoMemory

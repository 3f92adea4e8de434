-- What a crash leaves of the disks, whatever the program answers.
use Rattle.std.specs.Prelude.{ℕ, ◌≡◌, ◌<◌, ◌++◌, List, [], length, reverse, slice_get, Some}
use Rattle.std.specs.Prelude.{if◌then◌else◌, nat_lt}
use Rattle.std.specs.List.{AllByRecursion}
use Rattle.mn_base.specs.History.{store_after}
use Rattle.mn_base.specs.Store.{Store}
use Rattle.mn_base.specs.declared.ids.NodeNo.{NodeNo}
use Rattle.mn_cell.specs.Calls.{numbered}
use Rattle.mn_io.specs.DiskModel.{DiskState}
use Rattle.mn_mini.specs.declared.record.Record.{Record}
use Rattle.mn_mini.specs.RecordGrammar.{IsRecord}
use Rattle.mn_node.specs.Node.{StandsUpTo, bodies_of}
use Rattle.mn_page.specs.Base.{base_of}
use Rattle.mn_redo.specs.Grammar.{Stands}
use Rattle.mn_runs.specs.Protocol.{FollowsProtocol, Start, base_at, records_of, start_nodes}
use Rattle.mn_runs.specs.Protocol.{start_of}
use Rattle.mn_runs.specs.declared.entry.Entry.{Entry}
use Rattle.mn_law.specs.Opened.{IsOpened}
use Rattle.mn_serial.specs.History.{Placed, pasts_of}
use Rattle.mn_serial.specs.Meaning.{HistoryRun, IsStop}
use Rattle.mn_serial.specs.OneHistory.{IsOneHistory}
use Rattle.mn_top.specs.Opening.{IsOpenedAs}

abbrev pub AreHonest : {D : Type 0} → (D → DiskState) → List D → Type 0
AreHonest {D} state disks =
    (k : ℕ) (disk : D) → slice_get disks k ≡ Some disk → (state disk).honest

-- one image of each disk, in order
pub record AreImages {D : Type 0} (state : D → DiskState) (disks : List D)
    (images : List (List ℕ)) : Type 0 where
  pub count : length images ≡ length disks
  pub each : (k : ℕ) (disk : D) (image : List ℕ) → slice_get disks k ≡ Some disk
      → slice_get images k ≡ Some image → (state disk).images image

-- the base space of a node of so many; beyond them there is none
abbrev pub bases : ℕ → NodeNo → List ℕ
bases nodes n = if nat_lt n.0 nodes then base_of nodes n.0 else []

-- the bytes of all nodes stand for records of the grammar that hold a store; in the bytes of a node
-- the first may be shortened. Here the newest of a node stand first
pub record HoldStore (images : List (List ℕ)) : Type 0 where
  pub lists : NodeNo → List Record
  pub store : Store
  pub sound : (n : NodeNo) → n.0 < length images → AllByRecursion IsRecord (lists n)
  pub stand : (k : ℕ) (image : List ℕ) → slice_get images k ≡ Some image
      → StandsUpTo k (length images) image (reverse (lists (numbered k)))
  pub opened : IsOpened (length images) (bases (length images)) lists store

-- each disk is honest, and whatever a crash leaves of them holds a store
pub record AreOpenable {D : Type 0} (state : D → DiskState) (disks : List D) : Type 0 where
  pub honest : AreHonest state disks
  pub hold : (images : List (List ℕ)) → AreImages state disks images → HoldStore images

-- disks that are so are handed back so
abbrev pub StayOpenable : {D : Type 0} → (D → DiskState) → List D → List D → Type 0
StayOpenable state given left = AreOpenable state given → AreOpenable state left

-- What any stop leaves of a run

-- One image of each disk behind a run: some of the nodes that are down have come back, some of them
-- with the record inside whose request they stopped, and then each image stands for its node's
-- records, of which the first may be shortened. They are opened, with the store of the one history
-- of the run, in which all that was replied to stands; what was in doubt stands or doesn't.
pub record IsStopped (start : Start) (store : Store) (past : List Entry)
    (images : List (List ℕ)) : Type 0 where
  pub stops : List Entry
  pub are : AllByRecursion (λ e. IsStop e.what) stops
  pub follow : FollowsProtocol start (stops ++ past)
  pub sound : (n : NodeNo) → n.0 < start_nodes start
      → AllByRecursion IsRecord (records_of start (stops ++ past) n)
  pub stand : (k : ℕ) (image : List ℕ) → slice_get images k ≡ Some image
      → StandsUpTo k (start_nodes start) image
      (reverse (records_of start (stops ++ past) (numbered k)))
  pub placed : List Placed
  pub run : HistoryRun start store (stops ++ past) placed
  pub one : IsOneHistory start store (stops ++ past) placed
  pub opened : IsOpened (start_nodes start) (base_at start) (records_of start (stops ++ past))
      (store_after store (pasts_of placed))

-- whatever a crash leaves of honest disks is so
abbrev pub AnyStopLeaves : {D : Type 0} → (D → DiskState) → List D → List D → Start → Store
    → List Entry → Type 0
AnyStopLeaves state given left start store past =
    AreHonest state given → (images : List (List ℕ)) → AreImages state left images
    → IsStopped start store past images

-- Opening again

-- the bytes of the nodes are logs of these records
pub record AreLogsOf (contents : List (List ℕ)) (records : List (List Record)) : Type 0 where
  pub count : length records ≡ length contents
  pub sound : (k : ℕ) (list : List Record) → slice_get records k ≡ Some list
      → AllByRecursion IsRecord list
  pub stand : (k : ℕ) (content : List ℕ) (list : List Record) → slice_get contents k ≡ Some content
      → slice_get records k ≡ Some list → Stands k (length contents) content (bodies_of list)

-- What any stop of a run leaves is opened again: whatever records the bytes show, they hold the
-- store of the run's history, and no other. So the next call starts from that store.
abbrev pub NextStartsThere : Type 0
NextStartsThere =
    (start : Start) (store : Store) (past : List Entry) (images : List (List ℕ))
    (records : List (List Record)) → length images ≡ start_nodes start
    → (stopped : IsStopped start store past images) → AreLogsOf images records
    → IsOpenedAs (start_of records) (store_after store (pasts_of stopped.placed))
    × ((next : Store) → IsOpenedAs (start_of records) next
    → next ≡ store_after store (pasts_of stopped.placed))

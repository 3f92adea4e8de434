-- What disks show when they are opened, and where their logs are none.
use Rattle.std.specs.Prelude.{ℕ, ◌≡◌, ◌<◌, ◌⊎◌, List, length, slice_get, Some}
use Rattle.std.specs.List.{AllByRecursion}
use Rattle.mn_base.specs.Store.{Store}
use Rattle.mn_io.specs.DiskModel.{DiskState, NoneNew, WritesNothing}
use Rattle.mn_mini.specs.declared.record.Record.{Record}
use Rattle.mn_mini.specs.RecordGrammar.{IsRecord}
use Rattle.mn_node.specs.Node.{bodies_of}
use Rattle.mn_node.specs.State.{AreRecords, IsFirstBadBody}
use Rattle.mn_redo.specs.Grammar.{AreInFront, IsDamaged, IsLogAt, Stands}
use Rattle.mn_law.specs.Opened.{IsOpened}
use Rattle.mn_runs.specs.Protocol.{Start, base_at, run_number, start_nodes, start_records}

-- Records

-- an honest disk of the node of this number, of so many nodes, reads as these records
pub record ReadsAs (nodes k : ℕ) (disk : DiskState) (list : List Record) : Type 0 where
  pub sound : AllByRecursion IsRecord list
  pub stands : disk.honest → Stands k nodes disk.content (bodies_of list)

-- the disks show these records, a list for each node
pub record Show {D : Type 0} (state : D → DiskState) (given : List D)
    (records : List (List Record)) : Type 0 where
  pub count : length records ≡ length given
  pub read : (k : ℕ) (disk : D) (list : List Record) → slice_get given k ≡ Some disk
      → slice_get records k ≡ Some list → ReadsAs (length given) k (state disk) list

-- the records fit together, and their memory holds the store
abbrev pub IsOpenedAs : Start → Store → Type 0
IsOpenedAs start store = IsOpened (start_nodes start) (base_at start) (start_records start) store

-- there is a number for a further run: 4,294,967,294 is the last one that a run may have
abbrev pub HasNumber : Start → Type 0
HasNumber start = run_number start < 4294967295

-- Damage

-- the bytes are damaged at this place, and these bodies, the first of which begins at `start`,
-- stand in front of it
abbrev pub IsDamagedBehind : ℕ → ℕ → List ℕ → ℕ → ℕ → List (List ℕ) → Type 0
IsDamagedBehind nodes k content at start bodies =
    IsDamaged k nodes content at × AreInFront k nodes content at start bodies

-- the whole log is these bodies, or they stand in front of its damage; it begins at `start`
abbrev pub Begins : ℕ → ℕ → List ℕ → ℕ → List (List ℕ) → Type 0
Begins nodes k content start bodies =
    ((number : ℕ) × IsLogAt k nodes content number start bodies)
    ⊎ ((at : ℕ) × IsDamagedBehind nodes k content at start bodies)

-- the bytes are damaged at this place, behind bodies that are all records
abbrev pub IsDamagedFirst : ℕ → ℕ → List ℕ → ℕ → Type 0
IsDamagedFirst nodes k content at =
    (start : ℕ)
    × ((bodies : List (List ℕ)) × IsDamagedBehind nodes k content at start bodies
    × ((list : List Record) × AreRecords bodies list))

-- where the log of an honest disk is first outside its grammar: at the place of its damage, or at
-- the gate of the first body that is no record
abbrev pub IsBadLog : ℕ → ℕ → DiskState → ℕ → Type 0
IsBadLog nodes k disk at =
    disk.honest → IsDamagedFirst nodes k disk.content at
    ⊎ ((start : ℕ)
    × ((bodies : List (List ℕ)) × Begins nodes k disk.content start bodies
    × IsFirstBadBody start bodies at))

-- the disks before this one were read: each reads as records
abbrev pub WereRead : {D : Type 0} → (D → DiskState) → List D → ℕ → Type 0
WereRead {D} state given k =
    (m : ℕ) (disk : D) → m < k → slice_get given m ≡ Some disk
    → (list : List Record) × ReadsAs (length given) m (state disk) list

-- that disk's log is bad there, and those before it were read
pub record IsFirstBadLog {D : Type 0} (state : D → DiskState) (given : List D) (k at : ℕ)
    : Type 0 where
  pub disk : D
  pub is : slice_get given k ≡ Some disk
  pub bad : IsBadLog (length given) k (state disk) at
  pub before : WereRead state given k

-- nothing was written to an honest disk
pub record IsUnwritten (old new : DiskState) : Type 0 where
  pub honest : old.honest → new.honest
  pub writes_nothing : old.honest → WritesNothing old new
  pub none_new : old.honest → NoneNew old new

abbrev pub AreUnwritten : {D : Type 0} → (D → DiskState) → List D → List D → Type 0
AreUnwritten {D} state given left =
    (k : ℕ) (old new : D) → slice_get given k ≡ Some old → slice_get left k ≡ Some new
    → IsUnwritten (state old) (state new)

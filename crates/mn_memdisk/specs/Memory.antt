-- What contracts see of a disk in memory.
use Rattle.std.specs.Prelude.{◌≡◌, ℕ, Bool, true, List, Result, IsErr}
use Rattle.mn_io.specs.DiskModel.{DiskState}
use Rattle.mn_io.specs.Faults.{next_count}
use Rattle.mn_io.specs.Memory.{is_one_of, counted}
use Rattle.mn_memdisk.specs.History.{Event, disk_after}

-- the bytes at first, each event since with the newest first, what a read gives, how many calls
-- there were, which calls fail, how many did, and the room for more
pub record MemoryState : Type 0 where
  pub first : List ℕ
  pub events : List Event
  pub content : List ℕ
  pub calls : ℕ
  pub fails : List ℕ
  pub faults : ℕ
  pub spare_changes : ℕ
  pub spare_bytes : ℕ

abbrev pub state_of : MemoryState → DiskState
state_of disk = disk_after disk.first disk.events disk.content

-- one call was counted, and a fault exactly where its number is in the list
pub record IsCounted (old new : MemoryState) : Type 0 where
  pub calls : new.calls ≡ next_count old.calls
  pub faults : new.faults ≡ counted (is_one_of old.calls old.fails) old.faults
  pub fails : new.fails ≡ old.fails

-- a disk that stops with others: the disk in memory that it is, whether it has stopped, and how
-- many calls failed
pub record StopState : Type 0 where
  pub disk : MemoryState
  pub is_stopped : Bool
  pub faults : ℕ

-- the call failed, touched nothing, and the disk stays stopped
pub record DidNothing {T E : Type 0} (old new : StopState) (result : Result T E) : Type 0 where
  pub failed : IsErr result
  pub disk : new.disk ≡ old.disk
  pub stays : new.is_stopped ≡ true

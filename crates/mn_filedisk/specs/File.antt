-- What contracts see of a disk over a file. What its bytes are, it doesn't tell.
use Rattle.std.specs.Prelude.{◌≡◌, ℕ, Bool, [], Result, is_err}
use Rattle.mn_io.specs.DiskModel.{DiskState}
use Rattle.mn_io.specs.Memory.{counted}

-- whether there is a file, whether the disk is lost, so that each call fails, and how often one
-- failed
pub record FileState : Type 0 where
  pub has_file : Bool
  pub is_lost : Bool
  pub faults : ℕ

-- what stands behind the disk of a node, and whether it is written
pub record NodeFileState : Type 0 where
  pub file : FileState
  pub is_written : Bool

-- a disk of which nothing is promised but its faults and its room
abbrev pub untold : DiskState
untold = record { honest = ⊥; content = []; images = λ c. ⊥; moment = 0; since = λ t c. ⊥ }

-- a call that looks at what is there: one that failed was counted once, and nothing else changed
pub record HasLooked {T E : Type 0} (old new : FileState) (result : Result T E) : Type 0 where
  pub faults : new.faults ≡ counted (is_err result) old.faults
  pub file : new.has_file ≡ old.has_file
  pub lost : new.is_lost ≡ old.is_lost

-- a call that changes what is there, or makes it stable: one that failed was counted once, and just
-- then the disk is lost
pub record HasChanged {T E : Type 0} (old new : FileState) (result : Result T E) : Type 0 where
  pub faults : new.faults ≡ counted (is_err result) old.faults
  pub file : new.has_file ≡ old.has_file
  pub lost : new.is_lost ≡ is_err result

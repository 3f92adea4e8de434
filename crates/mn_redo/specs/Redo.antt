-- What contracts see of a log on a disk, and what is so of each.
use Rattle.std.specs.Prelude.{◌≤◌, ◌*◌, ℕ, ◌+◌, List, length}
use Rattle.mn_io.specs.DiskModel.{DiskState}
use Rattle.mn_redo.specs.Appender.{AppenderState, IsLogOf}
use Rattle.mn_redo.specs.Grammar.{IsFresh, Stands}
use Rattle.mn_redo.specs.Log.{IsFrontKept, listed_in}
use Rattle.mn_redo.specs.declared.redo.Phase.{Phase}

-- the disk, the number of its node, that of all nodes, the place where the log begins, the number
-- of the current area, the bodies in the log, the bytes of records since it was opened or
-- shortened, and for how many more bodies, with how many bytes, there is room
pub record RedoState (D : Type 0) : Type 0 where
  pub disk : D
  pub node : ℕ
  pub nodes : ℕ
  pub phase : Phase
  pub start : ℕ
  pub number : ℕ
  pub tail : ℕ
  pub bodies : List (List ℕ)
  pub spare_bodies : ℕ
  pub spare_bytes : ℕ

-- each image of the disk stands for the list
abbrev pub StandsFor : DiskState → ℕ → ℕ → List (List ℕ) → Type 0
StandsFor disk node nodes bodies = (c : List ℕ) → disk.images c → Stands node nodes c bodies

-- no image of the disk is fresh
abbrev pub HasHeader : DiskState → Type 0
HasHeader disk = (c : List ℕ) → disk.images c → IsFresh c → ⊥

-- these bytes in memory are those of the log up to its closed gate, with the places of its gates,
-- and there is room for more of them
pub record IsCopied {D : Type 0} (state : D → DiskState) (appender : AppenderState D)
    (bytes gates : List ℕ) (room_bytes room_gates spare_bodies spare_bytes : ℕ) : Type 0 where
  pub kept : IsFrontKept bytes gates
  pub log : IsLogOf state appender (listed_in 0 bytes)
  pub spare : spare_bodies ≤ appender.spare_bodies
  pub spare_too : spare_bytes ≤ appender.spare_bytes
  pub gates_fit : length gates + spare_bodies ≤ room_gates
  pub bytes_fit : length bytes + spare_bytes + 5 * spare_bodies ≤ room_bytes

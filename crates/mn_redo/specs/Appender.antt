-- What contracts see of a log that keeps no copy of its bodies, and which lists it may be.
use Rattle.std.specs.Prelude.{◌<◌, ◌≤◌, ◌≡◌, ◌≢◌, ◌^◌, ◌*◌, ℕ, ◌+◌, List, [], length}
use Rattle.mn_io.specs.DiskModel.{DiskState, IsStable}
use Rattle.mn_redo.specs.Grammar.{records, HaveSizes, IsFresh, IsLogAt}
use Rattle.mn_redo.specs.declared.redo.Phase.{Phase}
use Rattle.mn_redo.specs.declared.redo.Phase.TheVariants.{Fresh, Started, Closing}

-- the disk, the number of its node, that of all nodes, how many bodies the log has, the place where
-- it begins, the place of the closed gate behind them, the number of the current area, the bytes of
-- records since it was opened or shortened, and for how many more, with how many bytes, there is
-- room
pub record AppenderState (D : Type 0) : Type 0 where
  pub disk : D
  pub node : ℕ
  pub nodes : ℕ
  pub phase : Phase
  pub count : ℕ
  pub start : ℕ
  pub gate : ℕ
  pub number : ℕ
  pub tail : ℕ
  pub spare_bodies : ℕ
  pub spare_bytes : ℕ

-- It may be the log of these bodies: they fit its numbers, and where the disk is honest and has its
-- header, they are those of the disk. Before it has one, there are none.
pub record IsLogOf {D : Type 0} (state : D → DiskState) (a : AppenderState D)
    (bodies : List (List ℕ)) : Type 0 where
  pub none : a.phase ≡ Fresh → bodies ≡ []
  pub count : a.count ≡ length bodies
  pub few : length bodies < 2 ^ 32
  pub gate : a.gate ≡ a.start + length (records bodies)
  pub near : a.gate < 2 ^ 63
  pub sizes : HaveSizes bodies
  pub log : a.phase ≡ Started → (state a.disk).honest
      → IsLogAt a.node a.nodes (state a.disk).content a.number a.start bodies

-- the room that its spare numbers promise, in memory and on the disk
pub record HasPromisedRoom (capacity changes bytes count gate spare_bodies spare_bytes : ℕ)
    : Type 0 where
  pub piece : spare_bytes + 5 * spare_bodies ≤ capacity
  pub few : count + spare_bodies < 2 ^ 32
  pub near : gate + spare_bytes + 5 * spare_bodies < 2 ^ 63
  pub disk_changes : 10 * spare_bodies ≤ changes
  pub disk_bytes : spare_bytes + 19 * spare_bodies ≤ bytes

-- a log that has no header on its disk yet, with room for it
pub record IsBlank (disk : DiskState)
    (changes bytes count start gate number spare_bodies spare_bytes : ℕ) : Type 0 where
  pub none : count ≡ 0
  pub begins : start ≡ 80
  pub first : gate ≡ 80
  pub no_number : number ≡ 0
  pub start_changes : 10 * spare_bodies + 8 ≤ changes
  pub start_bytes : spare_bytes + 19 * spare_bodies + 82 ≤ bytes
  pub fresh : disk.honest → IsFresh disk.content

-- the bytes are those of a log whose closed gate is at this place
pub record IsSomeLog (node nodes : ℕ) (content : List ℕ) (number start gate : ℕ) : Type 0 where
  pub bodies : List (List ℕ)
  pub log : IsLogAt node nodes content number start bodies
  pub gate_is : gate ≡ start + length (records bodies)

-- what is so of it in each phase; of one that is closing, nothing
pub record IsUsable {D : Type 0} (state : D → DiskState) (spare_changes spare_bytes : D → ℕ)
    (capacity : ℕ) (a : AppenderState D) : Type 0 where
  pub room : a.phase ≢ Closing
      → HasPromisedRoom capacity (spare_changes a.disk) (spare_bytes a.disk) a.count a.gate
      a.spare_bodies a.spare_bytes
  pub stable : a.phase ≢ Closing → (state a.disk).honest → IsStable (state a.disk)
  pub blank : a.phase ≡ Fresh
      → IsBlank (state a.disk) (spare_changes a.disk) (spare_bytes a.disk) a.count a.start a.gate
      a.number a.spare_bodies a.spare_bytes
  pub few : a.number ≤ 2 ^ 63
  pub order : a.start ≤ a.gate
  pub rest : a.tail ≤ a.gate
  pub log : a.phase ≡ Started → (state a.disk).honest
      → IsSomeLog a.node a.nodes (state a.disk).content a.number a.start a.gate

-- The two areas of a disk, each an image behind a gate, and what a crash leaves of one that is
-- written.
use Rattle.std.specs.Prelude.{◌≡◌, ◌≢◌, ◌⊎◌, ℕ, ◌+◌, ◌*◌, List, length, take, drop}
use Rattle.std.specs.Prelude.{get_or}

-- the place of the gate of an area, which is 0 or 1
abbrev pub gate_place : ℕ → ℕ
gate_place area = 16 + 32 * area

-- the gate: 1 where the area is open
abbrev pub gate_of : ℕ → List ℕ → ℕ
gate_of area content = get_or content (gate_place area) 0

-- the 16 bytes behind the gate
abbrev pub image_of : ℕ → List ℕ → List ℕ
image_of area content = take 16 (drop (gate_place area + 1) content)

-- the bytes are the same but for the gate and the image of this area
pub record SameOutside (area : ℕ) (old new : List ℕ) : Type 0 where
  pub front : take (gate_place area) new ≡ take (gate_place area) old
  pub back : drop (gate_place area + 17) new ≡ drop (gate_place area + 17) old
  pub size : length new ≡ length old

-- the area is closed
pub record IsClosed (area : ℕ) (old new : List ℕ) : Type 0 where
  pub outside : SameOutside area old new
  pub gate : gate_of area new ≢ 1

-- the area is open with this image
pub record IsWritten (area : ℕ) (image old new : List ℕ) : Type 0 where
  pub outside : SameOutside area old new
  pub gate : gate_of area new ≡ 1
  pub image_is : image_of area new ≡ image

-- what a crash leaves while the area is closed: the bytes from before, or a closed area
abbrev pub IsClosedOrOld : ℕ → List ℕ → List ℕ → Type 0
IsClosedOrOld area old new = (new ≡ old) ⊎ IsClosed area old new

-- what a crash leaves while an image is written: the bytes from before, a closed area, or the area
-- open with that image
abbrev pub IsClosedOldOrWritten : ℕ → List ℕ → List ℕ → List ℕ → Type 0
IsClosedOldOrWritten area image old new = IsClosedOrOld area old new ⊎ IsWritten area image old new

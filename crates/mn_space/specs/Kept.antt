-- What is kept of a space.
use Rattle.std.specs.Prelude.{◌≡◌, ◌≤◌, ◌+◌, ◌*◌, ℕ, List, length}
use Rattle.mn_page.specs.Space.{slots_start, slot_size, space_length}

-- the bytes are all that stands before the slots, and slots as wholes, as far as the space goes
pub record AreWholeSlots (kept : List ℕ) : Type 0 where
  pub slots : ℕ
  pub count : length kept ≡ slots_start + slot_size * slots
  pub within : length kept ≤ space_length

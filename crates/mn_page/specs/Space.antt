-- The space of a memory node: where its parts begin, and how long they are.
use Rattle.std.specs.Prelude.{ℕ, ◌+◌, ◌*◌}

-- the count of slots given out stands here, in so many bytes
abbrev pub count_start : ℕ
count_start = 16

abbrev pub count_size : ℕ
count_size = 8

-- the catalog: entries of one length, one after another
abbrev pub catalog_start : ℕ
catalog_start = 64

abbrev pub catalog_size : ℕ
catalog_size = 4096

abbrev pub entry_size : ℕ
entry_size = 64

-- the slots: pages of one length, one after another up to the end of the space
abbrev pub slots_start : ℕ
slots_start = 20480

abbrev pub slot_size : ℕ
slot_size = 1024

abbrev pub max_slots : ℕ
max_slots = 4096

abbrev pub space_length : ℕ
space_length = slots_start + slot_size * max_slots

-- where a slot and an entry begin
abbrev pub slot_start : ℕ → ℕ
slot_start slot = slots_start + slot_size * slot

abbrev pub entry_start : ℕ → ℕ
entry_start v = catalog_start + entry_size * v

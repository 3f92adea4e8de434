-- The bytes that a disk in memory holds, and how each change of them is undone.
use Rattle.std.specs.Prelude.{◌≡◌, ◌≤◌, ℕ, ◌+◌, ◌-◌, List, [], length, take, drop, ⊤}
use Rattle.mn_io.specs.DiskModel.{written_at}
use Rattle.mn_memdisk.specs.History.{Event, write, lost_write, shorten, lost_cut, synced}
use Rattle.mn_memdisk.specs.History.{after, IsWithin}
use Rattle.mn_memdisk.specs.declared.changes.Change.{Change}
use Rattle.mn_memdisk.specs.declared.changes.Change.TheVariants.{Wrote, LostWrite, Shortened}
use Rattle.mn_memdisk.specs.declared.changes.Change.TheVariants.{LostCut, Synced}

-- what a disk holds
pub record Held : Type 0 where
  -- its bytes, and behind them those that a cut took off
  pub bytes : List ℕ
  -- how many of them a read gives
  pub size : ℕ
  -- what each write overwrote, and what each that failed would have written, the newest last
  pub saved : List ℕ

-- what a disk holds, and for how many bytes more there is room
pub record HeldState : Type 0 where
  pub held : Held
  pub room : ℕ

-- what a read gives
abbrev pub shown : Held → List ℕ
shown held = take held.size held.bytes

-- it has as many bytes as a read gives
abbrev pub IsBounded : Held → Type 0
IsBounded held = held.size ≤ length held.bytes

-- the last n bytes
abbrev pub last : ℕ → List ℕ → List ℕ
last n bytes = drop (length bytes - n) bytes

-- those in front of the last n
abbrev pub but_last : ℕ → List ℕ → List ℕ
but_last n bytes = take (length bytes - n) bytes

-- how many bytes were to be written by a change
abbrev pub size_of : Change → ℕ
size_of (Wrote at count grown before) = count
size_of (LostWrite at count) = count
size_of (Shortened n before) = 0
size_of (LostCut n) = 0
size_of Synced = 0

-- the bytes that were to be written by the newest change
abbrev pub piece_of : Held → Change → List ℕ
piece_of held (Wrote at count grown before) = take count (drop at held.bytes)
piece_of held (LostWrite at count) = last count held.saved
piece_of held (Shortened n before) = []
piece_of held (LostCut n) = []
piece_of held Synced = []

-- the event that a change stands for, with the bytes that it was to write
abbrev pub event_with : Change → List ℕ → Event
event_with (Wrote at count grown before) piece = write at piece
event_with (LostWrite at count) piece = lost_write at piece
event_with (Shortened n before) piece = shorten n
event_with (LostCut n) piece = lost_cut n
event_with Synced piece = synced

-- the event that the newest change stands for
abbrev pub event_of : Held → Change → Event
event_of held x = event_with x (piece_of held x)

-- what was held before the newest change: of a write, what it overwrote is put back, and what it
-- added is taken off
abbrev pub undone : Change → Held → Held
undone (Wrote at count grown before) held = record {
  bytes = take (length held.bytes - grown)
      (written_at held.bytes at (last (count - grown) held.saved));
  size = before;
  saved = but_last (count - grown) held.saved;
}
undone (LostWrite at count) held = record held { saved = but_last count held.saved }
undone (Shortened n before) held = record held { size = before }
undone (LostCut n) held = held
undone Synced held = held

-- the bytes that undoing the newest change takes are there
abbrev pub Fits : Change → Held → Type 0
Fits (Wrote at count grown before) held =
    (at + count ≤ length held.bytes) × (grown ≤ count) × (count - grown ≤ length held.saved)
Fits (LostWrite at count) held = count ≤ length held.saved
Fits (Shortened n before) held = ⊤
Fits (LostCut n) held = ⊤
Fits Synced held = ⊤

-- a change did what the event says, and undoing it leads back
pub record Follows (x : Change) (event : Event) (old new : Held) : Type 0 where
  pub fits : Fits x new
  pub back : undone x new ≡ old
  pub stands_for : event_of new x ≡ event
  pub within : IsWithin event (shown old)
  pub done : shown new ≡ after event (shown old)
  pub bounded : IsBounded new

-- What a list of events, the newest first, makes of the bytes of a disk, and what a crash after
-- them may leave.
use Rattle.std.specs.Prelude.{◌≤◌, ◌≡◌, ℕ, ◌+◌, List, [], ◌∷◌, length, take, drop, ⊤}
use Rattle.mn_io.specs.DiskModel.{DiskState, Torn, Cut, written_at}

-- what happened to a disk; a lost event is a call that failed, which a crash may show
pub data Event : Type 0 where
  write : (at : ℕ) (piece : List ℕ) → Event
  lost_write : (at : ℕ) (piece : List ℕ) → Event
  shorten : (n : ℕ) → Event
  lost_cut : (n : ℕ) → Event
  synced : Event

-- the bytes after one event more
abbrev pub after : Event → List ℕ → List ℕ
after (write at piece) content = written_at content at piece
after (lost_write at piece) content = content
after (shorten n) content = take n content
after (lost_cut n) content = content
after synced content = content

-- what a read gives
abbrev pub content_of : List ℕ → List Event → List ℕ
content_of first [] = first
content_of first (event ∷ older) = after event (content_of first older)

-- what a crash may make of an image, and of the content beside it, once the event has begun
abbrev pub EventShows : Event → List ℕ → List ℕ → List ℕ → Type 0
EventShows (write at piece) content old new = Torn at (length piece) old new
EventShows (lost_write at piece) content old new = Torn at (length piece) old new
EventShows (shorten n) content old new = Cut n old new
EventShows (lost_cut n) content old new = Cut n old new
EventShows synced content old new = new ≡ content

-- what a crash now may leave: after a sync, the content alone
abbrev pub IsImage : List ℕ → List Event → List ℕ → Type 0
IsImage first [] c = c ≡ first
IsImage first (event ∷ older) c =
    (d : List ℕ) × IsImage first older d × EventShows event (content_of first older) d c

-- a write is within the content
abbrev pub IsWithin : Event → List ℕ → Type 0
IsWithin (write at piece) content = at ≤ length content
IsWithin event content = ⊤

-- each write was within the content
abbrev pub IsSound : List ℕ → List Event → Type 0
IsSound first [] = ⊤
IsSound first (event ∷ older) = IsWithin event (content_of first older) × IsSound first older

-- A disk that had these bytes at first, all of them stable, and then these events. It is honest
-- where the events are those of a disk and a read gives what they leave, which is so of every disk
-- in memory.
abbrev pub disk_after : List ℕ → List Event → List ℕ → DiskState
disk_after first events content = record {
  honest = IsSound first events × (content ≡ content_of first events);
  content = content;
  images = IsImage first events;
  moment = length events;
  since = λ t c. (j : ℕ) × (j + t ≤ length events) × IsImage first (drop j events) c;
}

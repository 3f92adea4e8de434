-- The events that the changes of a disk in memory stand for.
use Rattle.std.specs.Prelude.{◌≡◌, ◌≢◌, ◌≤◌, ◌<◌, ℕ, get_or, List, [], ◌∷◌, ◌++◌, length, take}
use Rattle.std.specs.Prelude.{drop, reverse, ⊤}
use Rattle.mn_memdisk.specs.Held.{Held, IsBounded, Follows, shown, undone, event_of, event_with}
use Rattle.mn_memdisk.specs.Held.{last, but_last, size_of}
use Rattle.mn_memdisk.specs.History.{Event}
use Rattle.mn_memdisk.specs.declared.changes.Change.{Change}
use Rattle.mn_memdisk.specs.declared.changes.Change.TheVariants.{Synced}

-- the bytes that a disk had at first: those that a read gave before all changes, the newest first
abbrev pub first_of : List Change → Held → List ℕ
first_of [] held = shown held
first_of (x ∷ older) held = first_of older (undone x held)

-- the events of changes, the newest first
abbrev pub events_of : List Change → Held → List Event
events_of [] held = []
events_of (x ∷ older) held = event_of held x ∷ events_of older (undone x held)

-- each change, the newest first, did what its event says and can be undone
abbrev pub IsKept : List Change → Held → Type 0
IsKept [] held = IsBounded held
IsKept (x ∷ older) held =
    Follows x (event_of held x) (undone x held) held × IsKept older (undone x held)

-- none of the changes from this number on is a sync
abbrev pub UnsyncedFrom : ℕ → List Change → Type 0
UnsyncedFrom number changes =
    (k : ℕ) (d : Change) → number ≤ k → k < length changes → get_or changes k d ≢ Synced

-- the events, the newest first, of changes with the oldest first, whose bytes stand by themselves
-- with those of the oldest last
abbrev pub events_with : List Change → List ℕ → List Event
events_with [] pieces = []
events_with (x ∷ newer) pieces =
    events_with newer (but_last (size_of x) pieces) ++ event_with x (last (size_of x) pieces) ∷ []

-- the bytes of all these changes are there
abbrev pub HavePieces : List Change → List ℕ → Type 0
HavePieces [] pieces = ⊤
HavePieces (x ∷ newer) pieces =
    (size_of x ≤ length pieces) × HavePieces newer (but_last (size_of x) pieces)

-- Of the changes that led to the old bytes, those from a number on were undone, which led to the
-- new ones. What they were to write stands by itself.
pub record IsBack (number : ℕ) (changes : List Change) (pieces : List ℕ) (old new : Held)
    : Type 0 where
  pub kept : IsKept (reverse (take number changes)) new
  pub first : first_of (reverse changes) old ≡ first_of (reverse (take number changes)) new
  pub events : events_of (reverse changes) old
      ≡ events_with (drop number changes) pieces ++ events_of (reverse (take number changes)) new
  pub there : HavePieces (drop number changes) pieces

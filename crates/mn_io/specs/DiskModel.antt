-- What the calls of a disk do to its bytes, and what a crash may do between two syncs.
use Rattle.std.specs.Prelude.{◌≡◌, ◌⊎◌, ℕ, ◌+◌, ◌≤◌, min, max, List, ◌++◌, length, take, drop}

-- What a disk means at a moment. Between two syncs a written range may hold any bytes, the length
-- lies between the least and the greatest, and other bytes stay; after a sync that succeeded a
-- crash leaves what a read gives.
pub record DiskState : Type 1 where
  -- it is as this model says; of one that isn't, nothing is promised but its faults and its room
  pub honest : Type 0
  -- what a read gives
  pub content : List ℕ
  -- what a crash now may leave
  pub images : List ℕ → Type 0
  -- now, as a number that doesn't fall
  pub moment : ℕ
  -- what a crash might have left, at some moment from the given one on
  pub since : ℕ → List ℕ → Type 0

-- the bytes with a piece written over them at a place
abbrev pub written_at : List ℕ → ℕ → List ℕ → List ℕ
written_at old at piece = take at old ++ (piece ++ drop (at + length piece) old)

-- after a write of n bytes that a crash cuts short: any bytes in the range and past the old end,
-- the same elsewhere
pub record Torn (at n : ℕ) (old new : List ℕ) : Type 0 where
  pub before : take at new ≡ take at old
  pub after : drop (at + n) new ≡ drop (at + n) old
  pub no_shorter : length old ≤ length new
  pub no_longer : length new ≤ max (length old) (at + n)

-- after a cut: some length between, or the same where it was shorter
pub record Cut (n : ℕ) (old new : List ℕ) : Type 0 where
  pub no_shorter : min (length old) n ≤ length new
  pub front : take (length new) old ≡ new

-- each image now is an image before, after a step
abbrev pub ImagesFollow : (List ℕ → List ℕ → Type 0) → DiskState → DiskState → Type 0
ImagesFollow step old new = (c : List ℕ) → new.images c → (d : List ℕ) × old.images d × step d c

-- no image is new
abbrev pub NoneNew : DiskState → DiskState → Type 0
NoneNew old new = (c : List ℕ) → new.images c → old.images c

-- a crash leaves what a read gives, and nothing else
abbrev pub IsStable : DiskState → Type 0
IsStable disk = (c : List ℕ) → disk.images c → c ≡ disk.content

-- time goes on, and the disk stays honest: since t, a crash might have left what it might have left
-- before, or what it may leave now
pub record Elapses (old new : DiskState) : Type 0 where
  pub honest : new.honest
  pub later : old.moment ≤ new.moment
  pub nothing_else : (t : ℕ) (c : List ℕ) → t ≤ old.moment → new.since t c → old.since t c
      ⊎ new.images c
  pub keeps : (t : ℕ) (c : List ℕ) → t ≤ old.moment → old.since t c → new.since t c

-- a call that changes nothing
pub record DiskStays (old new : DiskState) : Type 0 where
  pub time : Elapses old new
  pub content : new.content ≡ old.content
  pub images : NoneNew old new

-- what is so at each moment of an honest disk
pub record IsDisk (disk : DiskState) : Type 0 where
  -- what a read gives is an image
  pub read : disk.images disk.content
  -- this moment is one of those since an earlier one
  pub counts_now : (t : ℕ) (c : List ℕ) → t ≤ disk.moment → disk.images c → disk.since t c
  -- since this moment there is no other
  pub only_now : (c : List ℕ) → disk.since disk.moment c → disk.images c

-- a crash at any moment since old leaves bytes that have P
pub record LeavesOnly (old new : DiskState) (P : List ℕ → Type 0) : Type 0 where
  pub later : old.moment ≤ new.moment
  pub each : (c : List ℕ) → new.since old.moment c → P c
  -- for a run that began earlier
  pub before : (t : ℕ) (c : List ℕ) → t ≤ old.moment → new.since t c → old.since t c ⊎ P c

-- nothing was written: what a crash at any moment since old leaves, a crash at old might have left
abbrev pub WritesNothing : DiskState → DiskState → Type 0
WritesNothing old new = LeavesOnly old new old.images

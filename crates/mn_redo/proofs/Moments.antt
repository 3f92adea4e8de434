-- What the moments of a call say of the images after it.
use Rattle.std.proofs.Common.{List, ℕ, inl, arith}
use Rattle.mn_io.specs.DiskModel.{DiskState, IsDisk, LeavesOnly}

-- before anything was done
pub none_leaves : (disk : DiskState) (P : List ℕ → Type 0) → IsDisk disk → ((c : List ℕ) → disk.images c → P c) → LeavesOnly disk disk P
none_leaves disk P is_disk f = record { later = omega arith; each = λ c left. f c (is_disk.only_now c left); before = λ t c le left. inl left }

pub left_now : (old new : DiskState) (P : List ℕ → Type 0) → IsDisk new → LeavesOnly old new P → (c : List ℕ) → new.images c → P c
left_now old new P is_disk h c image = h.each c (is_disk.counts_now old.moment c h.later image)

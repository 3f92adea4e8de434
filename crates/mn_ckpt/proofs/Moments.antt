-- What a call that changes nothing leaves.
use Rattle.std.proofs.Common.{⊎_elim, inl, inr, ℕ, List, sym, ◌∙◌, arith}
use Rattle.mn_io.specs.DiskModel.{DiskState, IsDisk, IsStable, LeavesOnly, DiskStays}

pub stays_leaves : (old new : DiskState) (P : List ℕ → Type 0) → IsDisk old → DiskStays old new → ((c : List ℕ) → old.images c → P c) → LeavesOnly old new P
stays_leaves old new P is_disk stays f = record {
  later = stays.time.later;
  each = λ c left. ⊎_elim (λ was. f c (is_disk.only_now c was)) (λ now. f c (stays.images c now)) (stays.time.nothing_else old.moment c (omega arith) left);
  before = λ t c le left. ⊎_elim (λ was. inl was) (λ now. inr (f c (stays.images c now))) (stays.time.nothing_else t c le left);
}

pub stays_stable : (old new : DiskState) → DiskStays old new → IsStable old → IsStable new
stays_stable old new stays stable c image = stable c (stays.images c image) ∙ sym stays.content

-- A log has a header, and so has each image of a disk that stands for one.
use Rattle.std.proofs.Common.{inl, inr, ℕ, List, ◌∷◌, [], ◌++◌}
use Rattle.mn_io.specs.DiskModel.{DiskState, IsDisk, LeavesOnly}
use Rattle.mn_redo.specs.Grammar.{HasLog, IsLead, IsLog, IsLogBeforeOrAfter, IsLogOneOrOther}
use Rattle.mn_redo.specs.Redo.{HasHeader}
use Rattle.mn_redo.proofs.Moments.{left_now}
use Rattle.mn_redo.proofs.Unique.{led_not_fresh, has_not_fresh}

pub headed : (node nodes : ℕ) (before : List ℕ) (bodies : List (List ℕ)) (old new : DiskState) → IsLead node nodes before → IsDisk new → LeavesOnly old new (λ c. IsLog before c bodies) → HasHeader new
headed node nodes before bodies old new lead is_disk left c image fresh = led_not_fresh node nodes before c bodies lead (left_now old new (λ l. IsLog before l bodies) is_disk left c image) fresh

either : (before : List ℕ) (bodies : List (List ℕ)) (body c : List ℕ) → IsLogBeforeOrAfter before bodies body c → (P : Type 0) → ((others : List (List ℕ)) → IsLog before c others → P) → P
either before bodies body c (inl old) P f = f bodies old
either before bodies body c (inr new) P f = f (bodies ++ body ∷ []) new

pub headed_after : (node nodes : ℕ) (before : List ℕ) (bodies : List (List ℕ)) (body : List ℕ) (old new : DiskState) → IsLead node nodes before → IsDisk new → LeavesOnly old new (IsLogBeforeOrAfter before bodies body) → HasHeader new
headed_after node nodes before bodies body old new lead is_disk left c image fresh =
    either before bodies body c (left_now old new (IsLogBeforeOrAfter before bodies body) is_disk left c image) ⊥ (λ others log. led_not_fresh node nodes before c others lead log fresh)

which : (node nodes : ℕ) (bodies others : List (List ℕ)) (c : List ℕ) → IsLogOneOrOther node nodes bodies others c → (P : Type 0) → ((list : List (List ℕ)) → HasLog node nodes c list → P) → P
which node nodes bodies others c (inl old) P f = f bodies old
which node nodes bodies others c (inr new) P f = f others new

pub headed_either : (node nodes : ℕ) (bodies others : List (List ℕ)) (old new : DiskState) → IsDisk new → LeavesOnly old new (IsLogOneOrOther node nodes bodies others) → HasHeader new
headed_either node nodes bodies others old new is_disk left c image fresh =
    which node nodes bodies others c (left_now old new (IsLogOneOrOther node nodes bodies others) is_disk left c image) ⊥ (λ list log. has_not_fresh node nodes c list log fresh)

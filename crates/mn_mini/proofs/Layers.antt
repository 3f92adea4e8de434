-- The writes of held parts, one over the other.
use Rattle.std.proofs.Common.{◌≡◌, ℕ, Bool, true, false, List, [], ◌∷◌, Some, None, refl, ap, sym, ◌∙◌, if◌then◌else◌}
use Rattle.std.specs.List.{AllByRecursion}
use Rattle.mn_base.specs.Ids.{tid_same}
use Rattle.mn_base.specs.declared.ids.Tid.{Tid}
use Rattle.mn_mini.specs.Flat.{space_after_part}
use Rattle.mn_mini.specs.Node.{HeldPart, held_part_of, with_held, without_tid}

-- a part whose id is not so is passed over
passed : (is_so : Tid → Bool) (space : List ℕ) (h : HeldPart) (hs : List HeldPart) → is_so h.tid ≡ false → with_held is_so space (h ∷ hs) ≡ with_held is_so space hs
passed is_so space h hs off = ap (λ (b : Bool). if b then space_after_part (with_held is_so space hs) h.part else with_held is_so space hs) off

-- where none of the ids is so nothing is written
pub none_so : (is_so : Tid → Bool) (space : List ℕ) (hs : List HeldPart) → AllByRecursion (λ h. is_so h.tid ≡ false) hs → with_held is_so space hs ≡ space
none_so is_so space [] all = refl
none_so is_so space (h ∷ hs) all = passed is_so space h hs all.0 ∙ none_so is_so space hs all.1

-- parts of an id that is not so may go
pub without_layer : (is_so : Tid → Bool) (space : List ℕ) (hs : List HeldPart) (t : Tid) → ((u : Tid) → tid_same u t ≡ true → is_so u ≡ false) → with_held is_so space (without_tid t hs) ≡ with_held is_so space hs
without_layer is_so space [] t off = refl
without_layer is_so space (h ∷ hs) t off =
    elim (tid_same h.tid t) as (λ b. tid_same h.tid t ≡ b → with_held is_so space (if b then without_tid t hs else h ∷ without_tid t hs) ≡ with_held is_so space (h ∷ hs)) [
      | true ↦ λ e. without_layer is_so space hs t off ∙ sym (passed is_so space h hs (off h.tid e))
      | false ↦ λ _. ap (λ (w : List ℕ). if is_so h.tid then space_after_part w h.part else w) (without_layer is_so space hs t off)
    ] refl

-- of an id that is not held nothing is written
pub not_held : (space : List ℕ) (hs : List HeldPart) (t : Tid) → held_part_of t hs ≡ None → with_held (λ u. tid_same u t) space hs ≡ space
not_held space [] t none = refl
not_held space (h ∷ hs) t none =
    elim (tid_same h.tid t) as (λ b. tid_same h.tid t ≡ b → (if b then Some h else held_part_of t hs) ≡ None → with_held (λ u. tid_same u t) space (h ∷ hs) ≡ space) [
      | true ↦ λ _ found. absurd cc
      | false ↦ λ off none. passed (λ u. tid_same u t) space h hs off ∙ not_held space hs t none
    ] refl none

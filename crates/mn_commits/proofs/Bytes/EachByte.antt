-- A byte that no committed part writes is the same below and above the committed parts.
use Rattle.std.proofs.Common.{◌≡◌, ℕ, zero, suc, ◌+◌, ◌<◌, ◌≤◌, ◌⊎◌, inl, inr, Bool, true, false, ◌&&◌, ◌||◌, List, [], ◌∷◌, length, refl, ap, ◌∙◌, arith, if◌then◌else◌}
use Rattle.std.specs.Prelude.{nat_lt, nat_le}
use Rattle.std.proofs.lemmas.Bool.Decides.{nat_tests}
use Rattle.std.specs.List.{AllByRecursion, list_any, slice_get}
use Rattle.mn_base.specs.declared.ids.Tid.{Tid}
use Rattle.mn_base.proofs.Booleans.{or_split}
use Rattle.mn_mini.specs.declared.part.PartItem.{PartItem}
use Rattle.mn_mini.specs.declared.part.PartItem.TheVariants.{Compare, Read, Write}
use Rattle.mn_mini.specs.Flat.{overwritten, space_after_part}
use Rattle.mn_mini.specs.Node.{HeldPart, with_held}
use Rattle.mn_commits.specs.Laws.{writes_at, is_pending_at}

byte_below : (space : List ℕ) (start : ℕ) (bytes : List ℕ) (p : ℕ) → p < start → slice_get (overwritten space start bytes) p ≡ slice_get space p
byte_below [] start bytes p low = refl
byte_below (x ∷ space) zero bytes p low = absurd (omega arith)
byte_below (x ∷ space) (suc start) bytes zero low = refl
byte_below (x ∷ space) (suc start) bytes (suc p) low = byte_below space start bytes p (omega arith)

byte_above : (space : List ℕ) (start : ℕ) (bytes : List ℕ) (p : ℕ) → start + length bytes ≤ p → slice_get (overwritten space start bytes) p ≡ slice_get space p
byte_above [] start bytes p high = refl
byte_above (x ∷ space) zero [] p high = refl
byte_above (x ∷ space) zero (b ∷ bytes) zero high = absurd (omega arith)
byte_above (x ∷ space) zero (b ∷ bytes) (suc p) high = byte_above space zero bytes p (omega arith)
byte_above (x ∷ space) (suc start) bytes zero high = absurd (omega arith)
byte_above (x ∷ space) (suc start) bytes (suc p) high = byte_above space start bytes p (omega arith)

outside : (start n p : ℕ) → (nat_le start p && nat_lt p (start + n)) ≡ false → (p < start) ⊎ (start + n ≤ p)
outside start n p e =
    elim (nat_le start p) as (λ b. nat_le start p ≡ b → (b && nat_lt p (start + n)) ≡ false → (p < start) ⊎ (start + n ≤ p)) [
      | true ↦ λ _ f. inr (grind (arith, nat_tests))
      | false ↦ λ f _. inl (grind (arith, nat_tests))
    ] refl e

byte_after_part : (space : List ℕ) (part : List PartItem) (p : ℕ) → list_any (writes_at p) part ≡ false → slice_get (space_after_part space part) p ≡ slice_get space p
byte_after_part space [] p e = refl
byte_after_part space (Compare start bytes ∷ part) p e = byte_after_part space part p e
byte_after_part space (Read start n ∷ part) p e = byte_after_part space part p e
byte_after_part space (Write start bytes ∷ part) p e =
    let s = or_split (nat_le start p && nat_lt p (start + length bytes)) (list_any (writes_at p) part) e in
    byte_after_part (overwritten space start bytes) part p s.1
    ∙ elim (outside start (length bytes) p s.0) as (λ _. slice_get (overwritten space start bytes) p ≡ slice_get space p) [
      | inl low ↦ byte_below space start bytes p low
      | inr high ↦ byte_above space start bytes p high
    ]

pub byte_of_layers : (f : Tid → Bool) (space : List ℕ) (hs : List HeldPart) (p : ℕ) → is_pending_at f p hs ≡ false → slice_get (with_held f space hs) p ≡ slice_get space p
byte_of_layers f space [] p e = refl
byte_of_layers f space (h ∷ hs) p e =
    let s = or_split (f h.tid && list_any (writes_at p) h.part) (is_pending_at f p hs) e in
    elim (f h.tid) as (λ b. (b && list_any (writes_at p) h.part) ≡ false → slice_get (if b then space_after_part (with_held f space hs) h.part else with_held f space hs) p ≡ slice_get space p) [
      | true ↦ λ none. byte_after_part (with_held f space hs) h.part p none ∙ byte_of_layers f space hs p s.1
      | false ↦ λ _. byte_of_layers f space hs p s.1
    ] s.0

-- the same ids are committed
pub same_pending : (f g : Tid → Bool) (p : ℕ) (hs : List HeldPart) → AllByRecursion (λ h. f h.tid ≡ g h.tid) hs → is_pending_at f p hs ≡ is_pending_at g p hs
same_pending f g p [] all = refl
same_pending f g p (h ∷ hs) all = ap (λ (b : Bool). (b && list_any (writes_at p) h.part) || is_pending_at f p hs) all.0 ∙ ap (λ (b : Bool). (g h.tid && list_any (writes_at p) h.part) || b) (same_pending f g p hs all.1)

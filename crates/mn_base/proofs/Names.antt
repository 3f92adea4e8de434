-- Bytes without a fault are a name.
use Rattle.std.proofs.Common.{◌≡◌, ◌≤◌, ◌<◌, ◌+◌, ℕ, Bool, true, false, IsTrue, List, [], ◌∷◌, Some, None, length, arith, refl, if◌then◌else◌}
use Rattle.std.specs.Prelude.{nat_lt}
use Rattle.std.specs.List.{list_all}
use Rattle.std.proofs.lemmas.Bool.Decides.{nat_tests}
use Rattle.mn_base.specs.Name.{IsName, is_name_byte, is_name_place, name_fault, name_fault_from}
use Rattle.mn_base.proofs.Booleans.{both_parts}

right_from : (at : ℕ) (bs : List ℕ) → at ≤ 16 → name_fault_from at bs ≡ None → (at + length bs ≤ 16) × IsTrue (list_all is_name_byte bs)
right_from at [] within e = (grind arith, refl)
right_from at (b ∷ bs) within e = by_place (is_name_place at b) refl e (right_from (at + 1) bs)
  where
    by_place : (t : Bool) → is_name_place at b ≡ t → (if t then name_fault_from (at + 1) bs else Some at) ≡ None
        → (at + 1 ≤ 16 → name_fault_from (at + 1) bs ≡ None → (at + 1 + length bs ≤ 16) × IsTrue (list_all is_name_byte bs))
        → (at + length (b ∷ bs) ≤ 16) × IsTrue (list_all is_name_byte (b ∷ bs))
    by_place true p e rest =
        let place = both_parts (nat_lt at 16) (is_name_byte b) p in
        let below : at < 16 = (let h = place.0 in grind (arith, nat_tests)) in
        let more = rest (omega arith) e in
        let within = more.0 in
        (grind arith, rw place.1 more.1)
    by_place false p e rest = absurd cc

pub no_fault_is_name : (bytes : List ℕ) → name_fault bytes ≡ None → IsName bytes
no_fault_is_name [] e = absurd cc
no_fault_is_name (b ∷ bs) e = let r = right_from 0 (b ∷ bs) (omega arith) e in let within = r.0 in (grind arith, grind arith, r.1)

no_fault_from : (at : ℕ) (bs : List ℕ) → at + length bs ≤ 16 → IsTrue (list_all is_name_byte bs) → name_fault_from at bs ≡ None
no_fault_from at [] within all = refl
no_fault_from at (b ∷ bs) within all =
    let bytes = both_parts (is_name_byte b) (list_all is_name_byte bs) all in
    let below : nat_lt at 16 ≡ true = grind (arith, nat_tests) in
    rw (below, bytes.0) (no_fault_from (at + 1) bs (grind arith) bytes.1)

name_has_no_fault : (bytes : List ℕ) → IsName bytes → name_fault bytes ≡ None
name_has_no_fault [] name = absurd (omega (arith, name.0))
name_has_no_fault (b ∷ bs) name = no_fault_from 0 (b ∷ bs) (let within = name.1 in grind arith) name.2

-- bytes with a fault are no name
pub fault_is_no_name : (bytes : List ℕ) (at : ℕ) → name_fault bytes ≡ Some at → IsName bytes → ⊥
fault_is_no_name bytes at e name = let none = name_has_no_fault bytes name in cc

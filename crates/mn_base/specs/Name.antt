-- Names of versions and clients.
use Rattle.std.specs.Prelude.{◌≤◌, ℕ, ◌+◌, Bool, ◌&&◌, ◌||◌, IsTrue, List, [], ◌∷◌, length, nat_le}
use Rattle.std.specs.Prelude.{nat_lt, Option, Some, None, if◌then◌else◌}
use Rattle.std.specs.List.{list_all}

-- a letter from `a` to `z` or a digit
abbrev pub is_name_byte : ℕ → Bool
is_name_byte b = (nat_le 97 b && nat_le b 122) || (nat_le 48 b && nat_le b 57)

-- a name: 1 to 16 letters and digits
abbrev pub IsName : List ℕ → Type 0
IsName name = (1 ≤ length name) × (length name ≤ 16) × IsTrue (list_all is_name_byte name)

-- a name may have this byte at this place
abbrev pub is_name_place : ℕ → ℕ → Bool
is_name_place at b = nat_lt at 16 && is_name_byte b

-- the first place, counted from this one on, at which no name goes on
abbrev pub name_fault_from : ℕ → List ℕ → Option ℕ
name_fault_from at [] = None
name_fault_from at (b ∷ bs) = if is_name_place at b then name_fault_from (at + 1) bs else Some at

-- where the bytes stop being a name; the empty string at 0
abbrev pub name_fault : List ℕ → Option ℕ
name_fault [] = Some 0
name_fault (b ∷ bs) = name_fault_from 0 (b ∷ bs)

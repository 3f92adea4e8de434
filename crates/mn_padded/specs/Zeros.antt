-- Bytes that end with zeros.
use Rattle.std.specs.Prelude.{◌≡◌, ℕ, ◌≤◌, Bool, true, nat_eq, List, length, drop}
use Rattle.std.specs.List.{list_all}

-- whether all bytes from a place on are zero
abbrev pub zeros_from : ℕ → List ℕ → Bool
zeros_from at bytes = list_all (λ b. nat_eq b 0) (drop at bytes)

-- the place is within the bytes, and all that stand from there on are zero
abbrev pub IsFilled : ℕ → List ℕ → Type 0
IsFilled filled bytes = (filled ≤ length bytes) × (zeros_from filled bytes ≡ true)

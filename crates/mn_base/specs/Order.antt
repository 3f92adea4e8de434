-- Keys are ordered by their bytes; a proper prefix comes first.
use Rattle.std.specs.Prelude.{ℕ, ◌+◌, ◌*◌, Bool, true, ◌&&◌, not, List, slice_index}
use Rattle.std.specs.Prelude.{Option, Some, None}
use Rattle.std.specs.declared.cmp.Ordering.{Ordering}
use Rattle.std.specs.Ordering.{is_lt, nat_cmp}
use Rattle.std.specs.Cmp.Lexicographic.{slice_cmp}

abbrev pub key_cmp : List ℕ → List ℕ → Ordering
key_cmp a b = slice_cmp nat_cmp a b

-- a comes before b
abbrev pub key_lt : List ℕ → List ℕ → Bool
key_lt a b = is_lt (key_cmp a b)

-- a does not come after b
abbrev pub key_le : List ℕ → List ℕ → Bool
key_le a b = not (key_lt b a)

-- a is below the bound; an absent bound does not bound
abbrev pub below_bound : List ℕ → Option (List ℕ) → Bool
below_bound a None = true
below_bound a (Some bound) = key_lt a bound

-- the key lies at or above low and below high
abbrev pub covers_key : List ℕ → Option (List ℕ) → List ℕ → Bool
covers_key low high key = key_le low key && below_bound key high

-- the number that the four bytes from i on spell, the greatest first
abbrev pub word_at : List ℕ → ℕ → ℕ
word_at bytes i =
    ((slice_index bytes i * 256 + slice_index bytes (i + 1)) * 256 + slice_index bytes (i + 2))
    * 256 + slice_index bytes (i + 3)

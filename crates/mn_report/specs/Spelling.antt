-- How a byte string and a number are spelled as words.
use Rattle.std.specs.Prelude.{ℕ, ◌+◌, ◌/◌, ◌%◌, Bool, ◌&&◌, not, List, [], ◌∷◌, ◌==◌, nat_le}
use Rattle.std.specs.Prelude.{nat_lt, flat_map, decimal, if◌then◌else◌}

-- 21 to 7e, other than `%` and `;`
abbrev pub is_plain : ℕ → Bool
is_plain b = nat_le 33 b && nat_le b 126 && not (b == 37) && not (b == 59)

-- a lower-case hexadecimal digit
abbrev pub hex_digit : ℕ → ℕ
hex_digit n = if nat_lt n 10 then 48 + n else 87 + n

-- a byte as two such digits
abbrev pub hex_byte : ℕ → List ℕ
hex_byte b = hex_digit (b / 16) ∷ hex_digit (b % 16) ∷ []

-- a plain byte stands for itself, and each other one is `%` and two digits
abbrev pub spelled_byte : ℕ → List ℕ
spelled_byte b = if is_plain b then b ∷ [] else 37 ∷ hex_byte b

abbrev pub spelled : List ℕ → List ℕ
spelled bytes = flat_map spelled_byte bytes

-- the word of a byte string; `%` alone is the empty one
abbrev pub word_of : List ℕ → List ℕ
word_of [] = 37 ∷ []
word_of (b ∷ bs) = spelled (b ∷ bs)

-- a word behind a space
abbrev pub spaced : List ℕ → List ℕ
spaced word = 32 ∷ word

-- a number behind a space
abbrev pub spaced_number : ℕ → List ℕ
spaced_number n = 32 ∷ decimal n

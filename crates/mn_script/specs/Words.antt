-- The words of a line, and what they say.
use Rattle.std.specs.Prelude.{◌≡◌, ℕ, ◌+◌, ◌-◌, ◌*◌, Bool, false, ◌&&◌, not, List, [], ◌∷◌, ◌==◌}
use Rattle.std.specs.Prelude.{nat_le, nat_lt, length, take, drop, min, Option, Some, None}
use Rattle.std.specs.Prelude.{option_map, option_and_then, Result, Ok, Err, bytes_eq, if◌then◌else◌}
use Rattle.std.specs.List.{list_all}
use Rattle.mn_base.specs.Name.{is_name_byte}
use Rattle.mn_report.specs.Spelling.{is_plain}
use Rattle.mn_script.specs.declared.error.LineError.{LineError}
use Rattle.mn_script.specs.declared.error.LineError.TheVariants.{Wrong, NoMemory}

abbrev pub Text : Type 0
Text = List ℕ

-- how many bytes stand before the first such byte
abbrev pub len_to : ℕ → Text → ℕ
len_to stop [] = 0
len_to stop (b ∷ bs) = if b == stop then 0 else len_to stop bs + 1

-- the word that begins at a place of a line; past the last word there is none, and what is there is
-- empty
abbrev pub word_at : Text → ℕ → Text
word_at line at = take (len_to 32 (drop at line)) (drop at line)

-- where the next word begins; behind the last word one past the line's end
abbrev pub next_at : Text → ℕ → ℕ
next_at line at = min (at + length (word_at line at) + 1) (length line + 1)

-- the column of a place, counted from 1; a missing word is at the line's length plus 1
abbrev pub column_at : Text → ℕ → ℕ
column_at line at = min (at + 1) (length line + 1)

-- What a part of a line says is a value and the place behind it, or the column of its first wrong
-- word.
abbrev pub Part : Type 0 → Type 0
Part X = Result (X × ℕ) ℕ

infixl 10 ◌>>=◌
abbrev pub ◌>>=◌ : {A B : Type 0} → Result A ℕ → (A → Result B ℕ) → Result B ℕ
(Ok x) >>= f = f x
(Err column) >>= f = Err column

-- the word at a place says this, or nothing, and then it is wrong
abbrev pub told_at : {X : Type 0} → Text → ℕ → Option X → Part X
told_at line at None = Err (column_at line at)
told_at line at (Some x) = Ok (x, next_at line at)

-- no more words
abbrev pub end_at : {X : Type 0} → Text → ℕ → X → Result X ℕ
end_at line at x = if nat_lt (length line) at then Ok x else Err (column_at line at)

-- What a reader gave is what the part says, unless there was no memory.
abbrev pub Gives : {X : Type 0} → Result X LineError → Result X ℕ → Type 0
Gives (Ok x) said = said ≡ Ok x
Gives (Err (Wrong column)) said = said ≡ Err column
Gives (Err NoMemory) said = Unit {0}

-- the same of a part that ends at a place
abbrev pub GivesPart : {X : Type 0} → Result X LineError → ℕ → Part X → Type 0
GivesPart (Ok x) at said = said ≡ Ok (x, at)
GivesPart (Err (Wrong column)) at said = said ≡ Err column
GivesPart (Err NoMemory) at said = Unit {0}

-- Names

abbrev pub is_name : Text → Bool
is_name word = nat_le 1 (length word) && (nat_le (length word) 16 && list_all is_name_byte word)

abbrev pub name_word : Text → Option Text
name_word word = if is_name word then Some word else None

-- Numbers

abbrev pub is_digit : ℕ → Bool
is_digit b = nat_le 48 b && nat_le b 57

-- the number that these digits go on to; one above 9,999 counts as 10,000
abbrev pub number_from : ℕ → Text → ℕ
number_from n [] = n
number_from n (b ∷ bs) = number_from (min (n * 10 + (b - 48)) 10000) bs

-- digits without a leading zero
abbrev pub is_number : Text → Bool
is_number [] = false
is_number (b ∷ []) = is_digit b
is_number (b ∷ c ∷ cs) = is_digit b && (not (b == 48) && list_all is_digit (c ∷ cs))

abbrev pub in_range : ℕ → ℕ → ℕ → Option ℕ
in_range low high n = if nat_le low n && nat_le n high then Some n else None

-- a number from low to high
abbrev pub number_word : ℕ → ℕ → Text → Option ℕ
number_word low high word = if is_number word then in_range low high (number_from 0 word) else None

-- Byte strings

-- the value of a lower-case hexadecimal digit
abbrev pub digit_value : ℕ → Option ℕ
digit_value d =
    if is_digit d then Some (d - 48)
    else (if nat_le 97 d && nat_le d 102 then Some (d - 87) else None)

abbrev pub unless_plain : ℕ → Option ℕ
unless_plain b = if is_plain b then None else Some b

-- the byte that `%` and two digits stand for; one that stands for itself may not be escaped
abbrev pub escaped : ℕ → ℕ → Option ℕ
escaped high low =
    option_and_then (λ h. option_and_then (λ l. unless_plain (h * 16 + l)) (digit_value low))
    (digit_value high)

-- the bytes that a word spells
abbrev pub unspelled : Text → Option Text
unspelled [] = Some []
unspelled (b ∷ []) = if is_plain b then Some (b ∷ []) else None
unspelled (b ∷ h ∷ []) = if is_plain b then option_map (λ bs. b ∷ bs) (unspelled (h ∷ [])) else None
unspelled (b ∷ h ∷ l ∷ more) =
    if is_plain b then option_map (λ bs. b ∷ bs) (unspelled (h ∷ l ∷ more))
    else (if b == 37 then option_and_then (λ x. option_map (λ bs. x ∷ bs) (unspelled more))
    (escaped h l) else None)

-- the byte string that a word stands for: `%` alone is the empty one, and no word is empty
abbrev pub string_word : Text → Option Text
string_word word =
    if bytes_eq word (37 ∷ []) then Some [] else (if length word == 0 then None else unspelled word)

abbrev pub of_length : ℕ → ℕ → Text → Option Text
of_length low high bytes =
    if nat_le low (length bytes) && nat_le (length bytes) high then Some bytes else None

abbrev pub key_word : Text → Option Text
key_word word = option_and_then (of_length 1 32) (string_word word)

abbrev pub value_word : Text → Option Text
value_word word = option_and_then (of_length 0 64) (string_word word)

-- Words give back what they spell.
use Rattle.std.proofs.Common.{◌≡◌, ◌≤◌, ◌<◌, ◌+◌, ◌*◌, ◌-◌, ◌/◌, ◌%◌, ℕ, Bool, true, false, ◌&&◌, [], ◌∷◌, ◌++◌, Some, refl, ap, ◌∙◌, length, arith, bytes_eq}
use Rattle.std.specs.Prelude.{◌==◌, not, nat_lt, nat_le, if◌then◌else◌, min, decimal, option_map}
use Rattle.std.specs.List.{list_all}
use Rattle.std.proofs.lemmas.List.Folds.{list_all-append}
use Rattle.std.proofs.lemmas.Bool.Decides.{nat_tests}
use Rattle.std.proofs.lemmas.Fmt.{decimal_by_steps}
use Rattle.mn_base.specs.Name.{IsName, is_name_byte}
use Rattle.mn_base.proofs.Booleans.{both_parts, both_true}
use Rattle.mn_report.specs.Spelling.{is_plain, hex_digit, spelled_byte, spelled, word_of}
use Rattle.mn_script.specs.Words.{Text, is_name, name_word, is_digit, is_number, number_from, number_word, digit_value, escaped, unspelled, string_word, key_word, value_word}
use Rattle.mn_script.specs.Script.{AreBytes, IsKey, IsValue}
use Rattle.mn_script.proofs.StringLemmas.{unspelled-plain}
use Rattle.mn_script.proofs.Texts.{From, from-cons, from-append, le-true, other-byte}

-- Names

name-byte : (b : ℕ) → is_name_byte b ≡ true → 33 ≤ b
name-byte b e = grind (arith, nat_tests)

name-from : (name : Text) → list_all is_name_byte name ≡ true → From 33 name
name-from [] p = refl
name-from (b ∷ bs) p =
    let one = both_parts (is_name_byte b) (list_all is_name_byte bs) p in
    from-cons 33 b bs (name-byte b one.0) (name-from bs one.1)

pub from-name : (name : Text) → IsName name → From 33 name
from-name name is = name-from name is.2

pub name_word-is : (name : Text) → IsName name → name_word name ≡ Some name
name_word-is name is =
    let first = le-true 1 (length name) is.0 in
    let second = le-true (length name) 16 is.1 in
    let all : is_name name ≡ true = both_true _ _ first (both_true _ _ second is.2) in
    rw all refl

-- Numbers

-- the first digit isn't zero
abbrev Leads : Text → Type 0
Leads [] = ⊥
Leads (b ∷ bs) = (b == 48) ≡ false

number-push : (ds : Text) (d : ℕ) → is_number ds ≡ true → Leads ds → is_digit d ≡ true → is_number (ds ++ d ∷ []) ≡ true
number-push [] d p l q = absurd l
number-push (b ∷ []) d p l q = rw (p, l, q) refl
number-push (b ∷ c ∷ cs) d p l q =
    let one = both_parts (is_digit b) (not (b == 48) && list_all is_digit (c ∷ cs)) p in
    let two = both_parts (not (b == 48)) (list_all is_digit (c ∷ cs)) one.1 in
    let tail : list_all is_digit ((c ∷ cs) ++ d ∷ []) ≡ true = list_all-append is_digit (c ∷ cs) (d ∷ []) ∙ both_true _ _ two.1 (both_true _ _ q refl) in
    both_true (is_digit b) (not (b == 48) && list_all is_digit ((c ∷ cs) ++ d ∷ [])) one.0 (both_true (not (b == 48)) (list_all is_digit ((c ∷ cs) ++ d ∷ [])) two.0 tail)

leads-push : (ds : Text) (d : ℕ) → Leads ds → Leads (ds ++ d ∷ [])
leads-push [] d l = absurd l
leads-push (b ∷ bs) d l = l

number_from-append : (n : ℕ) (a b : Text) → number_from n (a ++ b) ≡ number_from (number_from n a) b
number_from-append n [] b = refl
number_from-append n (x ∷ xs) b = number_from-append (min (n * 10 + (x - 48)) 10000) xs b

digit-is : (n : ℕ) → n < 10 → is_digit (48 + n) ≡ true
digit-is n h = both_true (nat_le 48 (48 + n)) (nat_le (48 + n) 57) (le-true 48 (48 + n) (omega arith)) (le-true (48 + n) 57 (omega arith))

-- digits that spell a number
record Spells (n : ℕ) (ds : Text) : Type 0 where
  number : is_number ds ≡ true
  leads : 1 ≤ n → Leads ds
  from : From 33 ds
  value : n < 10000 → number_from 0 ds ≡ n

spells_one : (n : ℕ) → n < 10 → Spells n ((48 + n) ∷ [])
spells_one n h = record {
  number = digit-is n h;
  leads = λ some. other-byte (48 + n) 48 (omega arith);
  from = from-cons 33 (48 + n) [] (omega arith) refl;
  value = λ _. omega arith;
}

spells_more : (n : ℕ) (ds : Text) → 10 ≤ n → Spells (n / 10) ds → Spells n (ds ++ (48 + n % 10) ∷ [])
spells_more n ds h is =
    let some : 1 ≤ n / 10 = omega arith in
    let small : n % 10 < 10 = omega arith in
    record {
      number = number-push ds (48 + n % 10) is.number (is.leads some) (digit-is (n % 10) small);
      leads = λ _. leads-push ds (48 + n % 10) (is.leads some);
      from = from-append 33 ds ((48 + n % 10) ∷ []) is.from (from-cons 33 (48 + n % 10) [] (omega arith) refl);
      value = λ l. (let v = is.value (omega arith) in number_from-append 0 ds ((48 + n % 10) ∷ []) ∙ omega arith);
    }

spells : (n : ℕ) → n < 10000 → Spells n (decimal n)
spells n h = decimal_by_steps Spells spells_one spells_more n (omega arith)

pub from-decimal : (n : ℕ) → n < 10000 → From 33 (decimal n)
from-decimal n h = (spells n h).from

pub number_word-is : (low high n : ℕ) → low ≤ n → n ≤ high → n < 10000 → number_word low high (decimal n) ≡ Some n
number_word-is low high n l h small =
    let s = spells n small in
    let number = s.number in
    let value = s.value small in
    let least = le-true low n l in
    let most = le-true n high h in
    rw (number, value, least, most) refl

-- Byte strings

hex-from : (n : ℕ) → n < 16 → 33 ≤ hex_digit n
hex-from n h = grind (arith, nat_tests)

digit_value-hex : (n : ℕ) → n < 16 → digit_value (hex_digit n) ≡ Some n
digit_value-hex n h = by_digit (nat_lt n 10) refl
  where
    by_digit : (t : Bool) → nat_lt n 10 ≡ t → digit_value (if t then 48 + n else 87 + n) ≡ Some n
    by_digit true e = (let small : n < 10 = grind (arith, nat_tests) in let is = digit-is n small in rw is (ap (λ (k : ℕ). Some k) (omega arith)))
    by_digit false e =
        let large : 10 ≤ n = grind (arith, nat_tests) in
        let none : nat_le (87 + n) 57 ≡ false = grind (arith, nat_tests) in
        let first : nat_le 48 (87 + n) ≡ true = le-true 48 (87 + n) (omega arith) in
        let second : nat_le 97 (87 + n) ≡ true = le-true 97 (87 + n) (omega arith) in
        let third : nat_le (87 + n) 102 ≡ true = le-true (87 + n) 102 (omega arith) in
        rw (none, first, second, third) (ap (λ (k : ℕ). Some k) (omega arith))

escaped-is : (b : ℕ) → b < 256 → is_plain b ≡ false → escaped (hex_digit (b / 16)) (hex_digit (b % 16)) ≡ Some b
escaped-is b small other =
    let same : b / 16 * 16 + b % 16 ≡ b = omega arith in
    rw (digit_value-hex (b / 16) (omega arith), digit_value-hex (b % 16) (omega arith), same, other) refl

unspelled-byte : (b : ℕ) (rest : Text) → b < 256 → unspelled (spelled_byte b ++ rest) ≡ option_map (λ bs. b ∷ bs) (unspelled rest)
unspelled-byte b rest small = by_plain (is_plain b) refl
  where
    by_plain : (t : Bool) → is_plain b ≡ t → unspelled ((if t then b ∷ [] else 37 ∷ hex_digit (b / 16) ∷ hex_digit (b % 16) ∷ []) ++ rest) ≡ option_map (λ bs. b ∷ bs) (unspelled rest)
    by_plain true e = unspelled-plain b rest e
    by_plain false e = rw (escaped-is b small e) refl

unspelled-is : (bytes : Text) → AreBytes bytes → unspelled (spelled bytes) ≡ Some bytes
unspelled-is [] p = refl
unspelled-is (b ∷ bs) p = rw (unspelled-byte b (spelled bs) p.0, unspelled-is bs p.1) refl

plain-other : (b : ℕ) → is_plain b ≡ true → (b == 37) ≡ false
plain-other b e = grind (arith, nat_tests)

plain-from : (b : ℕ) → is_plain b ≡ true → 33 ≤ b
plain-from b e = grind (arith, nat_tests)

-- a spelling of a byte and more isn't `%` alone, and isn't empty
not_none : (b : ℕ) (rest : Text) → bytes_eq (spelled_byte b ++ rest) (37 ∷ []) ≡ false
not_none b rest = by_plain (is_plain b) refl
  where
    by_plain : (t : Bool) → is_plain b ≡ t → bytes_eq ((if t then b ∷ [] else 37 ∷ hex_digit (b / 16) ∷ hex_digit (b % 16) ∷ []) ++ rest) (37 ∷ []) ≡ false
    by_plain true e = rw (plain-other b e) refl
    by_plain false e = refl

not_empty : (b : ℕ) (rest : Text) → (length (spelled_byte b ++ rest) == 0) ≡ false
not_empty b rest = by_plain (is_plain b)
  where
    by_plain : (t : Bool) → (length ((if t then b ∷ [] else 37 ∷ hex_digit (b / 16) ∷ hex_digit (b % 16) ∷ []) ++ rest) == 0) ≡ false
    by_plain true = other-byte (length (b ∷ rest)) 0 (omega arith)
    by_plain false = other-byte (length (37 ∷ hex_digit (b / 16) ∷ hex_digit (b % 16) ∷ rest)) 0 (omega arith)

string_word-is : (bytes : Text) → AreBytes bytes → string_word (word_of bytes) ≡ Some bytes
string_word-is [] p = refl
string_word-is (b ∷ bs) p = rw (not_none b (spelled bs), not_empty b (spelled bs)) (unspelled-is (b ∷ bs) p)

from-spelled_byte : (b : ℕ) → b < 256 → From 33 (spelled_byte b)
from-spelled_byte b small = by_plain (is_plain b) refl
  where
    by_plain : (t : Bool) → is_plain b ≡ t → From 33 (if t then b ∷ [] else 37 ∷ hex_digit (b / 16) ∷ hex_digit (b % 16) ∷ [])
    by_plain true e = from-cons 33 b [] (plain-from b e) refl
    by_plain false e =
        from-cons 33 37 (hex_digit (b / 16) ∷ hex_digit (b % 16) ∷ []) (omega arith)
        (from-cons 33 (hex_digit (b / 16)) (hex_digit (b % 16) ∷ []) (hex-from (b / 16) (omega arith)) (from-cons 33 (hex_digit (b % 16)) [] (hex-from (b % 16) (omega arith)) refl))

from-spelled : (bytes : Text) → AreBytes bytes → From 33 (spelled bytes)
from-spelled [] p = refl
from-spelled (b ∷ bs) p = from-append 33 (spelled_byte b) (spelled bs) (from-spelled_byte b p.0) (from-spelled bs p.1)

pub from-word_of : (bytes : Text) → AreBytes bytes → From 33 (word_of bytes)
from-word_of [] p = refl
from-word_of (b ∷ bs) p = from-spelled (b ∷ bs) p

pub key_word-is : (key : Text) → IsKey key → key_word (word_of key) ≡ Some key
key_word-is key is =
    let least = le-true 1 (length key) is.0 in
    let most = le-true (length key) 32 is.1 in
    rw (string_word-is key is.2, least, most) refl

pub value_word-is : (value : Text) → IsValue value → value_word (word_of value) ≡ Some value
value_word-is value is =
    let least = le-true 0 (length value) (omega arith) in
    let most = le-true (length value) 64 is.0 in
    rw (string_word-is value is.1, least, most) refl

-- the word of a key isn't that of no bound
pub key-not_none : (key : Text) → IsKey key → bytes_eq (word_of key) (37 ∷ []) ≡ false
key-not_none [] is = absurd (let h = is.0 in omega arith)
key-not_none (b ∷ bs) is = not_none b (spelled bs)

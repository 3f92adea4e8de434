-- What the values of the parts of a line meet.
use Rattle.std.proofs.Common.{◌≡◌, ◌≤◌, ◌<◌, ◌+◌, ◌*◌, ◌-◌, ℕ, Bool, true, false, ◌&&◌, [], ◌∷◌, Option, Some, None, Result, Ok, Err, refl, subst, length, arith, bytes_eq}
use Rattle.std.specs.Prelude.{not, ◌==◌, option_map, option_and_then, nat_lt, nat_le, if◌then◌else◌, IfSome}
use Rattle.std.proofs.lemmas.Bool.Decides.{nat_tests}
use Rattle.mn_base.specs.Name.{IsName}
use Rattle.mn_base.proofs.Booleans.{both_parts}
use Rattle.mn_report.specs.Spelling.{is_plain}
use Rattle.mn_script.specs.Words.{Text, column_at, ◌>>=◌, told_at, end_at, is_name, name_word, is_number, number_from, number_word, in_range, is_digit, digit_value, unless_plain, escaped, unspelled, string_word, of_length, key_word, value_word}
use Rattle.mn_script.specs.Script.{AreBytes, IsKey, IsValue}

-- the value, if there is one, is right
pub Right : {A : Type 0} → (A → Type 0) → Result A ℕ → Type 0
Right P (Ok x) = P x
Right P (Err column) = Unit {0}

pub right-ok : {A : Type 0} (P : A → Type 0) (x : A) → P x → Right P (Ok x)
unfolding Right
right-ok P x h = h

pub right-err : {A : Type 0} (P : A → Type 0) (column : ℕ) → Right P (Err column)
unfolding Right
right-err P column = tt

pub right-gives : {A : Type 0} (P : A → Type 0) (r : Result A ℕ) (x : A) → Right P r → r ≡ Ok x → P x
unfolding Right
right-gives P (Ok y) x h e = subst P (cc) h
right-gives P (Err column) x h e = absurd (cc)

pub right-bind : {A B : Type 0} (Q : A → Type 0) (P : B → Type 0) (r : Result A ℕ) (f : A → Result B ℕ) → Right Q r → ((x : A) → Q x → Right P (f x)) → Right P (r >>= f)
unfolding Right
right-bind Q P (Ok x) f h g = g x h
right-bind Q P (Err column) f h g = tt

pub right-if : {A : Type 0} (P : A → Type 0) (c : Bool) (a b : Result A ℕ) → (c ≡ true → Right P a) → (c ≡ false → Right P b) → Right P (if c then a else b)
right-if P true a b f g = f refl
right-if P false a b f g = g refl

pub right-either : {A : Type 0} (P : A → Type 0) (c : Bool) (a b : Result A ℕ) → Right P a → Right P b → Right P (if c then a else b)
right-either P true a b f g = f
right-either P false a b f g = g

pub right-when : {A : Type 0} (P : A → Type 0) (c : Bool) (a b : Result A ℕ) → (c ≡ true → Right P a) → Right P b → Right P (if c then a else b)
right-when P true a b f g = f refl
right-when P false a b f g = g

pub right-told : {X : Type 0} (Q : X → Type 0) (line : Text) (at : ℕ) (o : Option X) → IfSome o Q → Right (λ (p : X × ℕ). Q p.0) (told_at line at o)
unfolding Right
right-told Q line at None h = tt
right-told Q line at (Some x) h = h

pub right-end : {X : Type 0} (P : X → Type 0) (line : Text) (at : ℕ) (x : X) → P x → Right P (end_at line at x)
right-end P line at x h = right-if P (nat_lt (length line) at) (Ok x) (Err (column_at line at)) (λ _. right-ok P x h) (λ _. right-err P (column_at line at))

pub at_most : (m n : ℕ) → nat_le m n ≡ true → m ≤ n
at_most m n e = grind (arith, nat_tests)

pub some-if : {X : Type 0} (Q : X → Type 0) (c : Bool) (x : X) → (c ≡ true → Q x) → IfSome (if c then Some x else None) Q
some-if Q true x h = h refl
some-if Q false x h = tt

pub some-unless : {X : Type 0} (Q : X → Type 0) (c : Bool) (o : Option X) → (c ≡ false → IfSome o Q) → IfSome (if c then None else o) Q
some-unless Q true o h = tt
some-unless Q false o h = h refl

pub some-when : {X : Type 0} (Q : X → Type 0) (c : Bool) (o : Option X) → (c ≡ true → IfSome o Q) → IfSome (if c then o else None) Q
some-when Q true o h = h refl
some-when Q false o h = tt

pub some-either : {X : Type 0} (Q : X → Type 0) (c : Bool) (a b : Option X) → (c ≡ true → IfSome a Q) → (c ≡ false → IfSome b Q) → IfSome (if c then a else b) Q
some-either Q true a b f g = f refl
some-either Q false a b f g = g refl

pub some-map : {A B : Type 0} (Q : A → Type 0) (P : B → Type 0) (f : A → B) (o : Option A) → IfSome o Q → ((x : A) → Q x → P (f x)) → IfSome (option_map f o) P
some-map Q P f None h g = tt
some-map Q P f (Some x) h g = g x h

pub some-then : {A B : Type 0} (Q : A → Type 0) (P : B → Type 0) (f : A → Option B) (o : Option A) → IfSome o Q → ((x : A) → Q x → IfSome (f x) P) → IfSome (option_and_then f o) P
some-then Q P f None h g = tt
some-then Q P f (Some x) h g = g x h

pub name_right : (word : Text) → IfSome (name_word word) IsName
name_right word =
    some-if IsName (is_name word) word (λ e.
    let one = both_parts _ _ e in
    let two = both_parts _ _ one.1 in
    (at_most 1 (length word) one.0, at_most (length word) 16 two.0, two.1))

abbrev pub IsWithin : ℕ → ℕ → ℕ → Type 0
IsWithin low high n = (low ≤ n) × (n ≤ high)

pub number_right : (low high : ℕ) (word : Text) → IfSome (number_word low high word) (IsWithin low high)
number_right low high word =
    some-when (IsWithin low high) (is_number word) (in_range low high (number_from 0 word)) (λ _.
    some-if (IsWithin low high) (nat_le low (number_from 0 word) && nat_le (number_from 0 word) high) (number_from 0 word) (λ e.
    let one = both_parts _ _ e in (at_most low (number_from 0 word) one.0, at_most (number_from 0 word) high one.1)))

plain_byte : (b : ℕ) → is_plain b ≡ true → b < 256
plain_byte b e =
    let one = both_parts (nat_le 33 b && nat_le b 126 && not (b == 37)) (not (b == 59)) e in
    let two = both_parts (nat_le 33 b && nat_le b 126) (not (b == 37)) one.0 in
    let three = both_parts (nat_le 33 b) (nat_le b 126) two.0 in
    let small = at_most b 126 three.1 in
    omega arith

digit_right : (d : ℕ) → IfSome (digit_value d) (λ n. n < 16)
digit_right d = first (is_digit d) refl
  where
    second : (t : Bool) → (nat_le 97 d && nat_le d 102) ≡ t → IfSome (if t then Some (d - 87) else None) (λ n. n < 16)
    second true e = (let one = both_parts (nat_le 97 d) (nat_le d 102) e in let h = at_most d 102 one.1 in omega arith)
    second false e = tt

    first : (t : Bool) → is_digit d ≡ t → IfSome (if t then Some (d - 48) else (if nat_le 97 d && nat_le d 102 then Some (d - 87) else None)) (λ n. n < 16)
    first true e = (let one = both_parts (nat_le 48 d) (nat_le d 57) e in let h = at_most d 57 one.1 in omega arith)
    first false e = second (nat_le 97 d && nat_le d 102) refl

escaped_right : (high low : ℕ) → IfSome (escaped high low) (λ b. b < 256)
escaped_right high low =
    some-then (λ h. h < 16) (λ b. b < 256) (λ h. option_and_then (λ l. unless_plain (h * 16 + l)) (digit_value low)) (digit_value high) (digit_right high) (λ h hs.
    some-then (λ l. l < 16) (λ b. b < 256) (λ l. unless_plain (h * 16 + l)) (digit_value low) (digit_right low) (λ l ls.
    some-unless (λ b. b < 256) (is_plain (h * 16 + l)) (Some (h * 16 + l)) (λ _. omega arith)))

unspelled_right : (word : Text) → IfSome (unspelled word) AreBytes
unspelled_right [] = tt
unspelled_right (b ∷ []) = some-if AreBytes (is_plain b) (b ∷ []) (λ e. (plain_byte b e, tt))
unspelled_right (b ∷ h ∷ []) =
    some-when AreBytes (is_plain b) (option_map (λ bs. b ∷ bs) (unspelled (h ∷ []))) (λ e.
    some-map AreBytes AreBytes (λ bs. b ∷ bs) (unspelled (h ∷ [])) (unspelled_right (h ∷ [])) (λ bs r. (plain_byte b e, r)))
unspelled_right (b ∷ h ∷ l ∷ more) =
    some-either AreBytes (is_plain b) (option_map (λ bs. b ∷ bs) (unspelled (h ∷ l ∷ more))) (if b == 37 then option_and_then (λ x. option_map (λ bs. x ∷ bs) (unspelled more)) (escaped h l) else None) (λ e.
    some-map AreBytes AreBytes (λ bs. b ∷ bs) (unspelled (h ∷ l ∷ more)) (unspelled_right (h ∷ l ∷ more)) (λ bs r. (plain_byte b e, r))) (λ _.
    some-when AreBytes (b == 37) (option_and_then (λ x. option_map (λ bs. x ∷ bs) (unspelled more)) (escaped h l)) (λ _.
    some-then (λ x. x < 256) AreBytes (λ x. option_map (λ bs. x ∷ bs) (unspelled more)) (escaped h l) (escaped_right h l) (λ x small.
    some-map AreBytes AreBytes (λ bs. x ∷ bs) (unspelled more) (unspelled_right more) (λ bs r. (small, r)))))

string_right : (word : Text) → IfSome (string_word word) AreBytes
string_right word =
    some-either AreBytes (bytes_eq word (37 ∷ [])) (Some []) (if length word == 0 then None else unspelled word) (λ _. tt) (λ _.
    some-unless AreBytes (length word == 0) (unspelled word) (λ _. unspelled_right word))

pub key_right : (word : Text) → IfSome (key_word word) IsKey
key_right word =
    some-then AreBytes IsKey (of_length 1 32) (string_word word) (string_right word) (λ bs r.
    some-if IsKey (nat_le 1 (length bs) && nat_le (length bs) 32) bs (λ e.
    let one = both_parts (nat_le 1 (length bs)) (nat_le (length bs) 32) e in (at_most 1 (length bs) one.0, at_most (length bs) 32 one.1, r)))

pub value_right : (word : Text) → IfSome (value_word word) IsValue
value_right word =
    some-then AreBytes IsValue (of_length 0 64) (string_word word) (string_right word) (λ bs r.
    some-if IsValue (nat_le 0 (length bs) && nat_le (length bs) 64) bs (λ e.
    let one = both_parts (nat_le 0 (length bs)) (nat_le (length bs) 64) e in (at_most (length bs) 64 one.1, r)))

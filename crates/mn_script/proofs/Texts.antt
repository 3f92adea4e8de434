-- Texts: their lines, and the words that stand at the places of a line.
use Rattle.std.proofs.Common.{◌≡◌, ◌≤◌, ◌<◌, ◌+◌, ℕ, zero, suc, true, false, [], ◌∷◌, ◌++◌, Option, Some, Result, Ok, refl, ap, sym, ◌∙◌, subst, length, drop, length-append, length-drop, add-one, arith}
use Rattle.std.specs.Prelude.{◌==◌, nat_lt, nat_le}
use Rattle.std.specs.List.{list_all}
use Rattle.std.proofs.Math.Seq.{take-append_seam, drop-append_seam}
use Rattle.std.proofs.lemmas.List.Folds.{list_all-append}
use Rattle.std.proofs.lemmas.Bool.Decides.{nat_tests}
use Rattle.mn_base.proofs.Booleans.{both_parts, both_true}
use Rattle.mn_report.specs.Spelling.{spaced}
use Rattle.mn_script.specs.Words.{Text, len_to, word_at, next_at, Part, ◌>>=◌, told_at, end_at}
use Rattle.mn_script.specs.Reading.{lines_of}
use Rattle.mn_script.proofs.Parts.{at_most}

-- Bytes from a least one on

abbrev pub From : ℕ → Text → Type 0
From low text = list_all (nat_le low) text ≡ true

pub from-append : (low : ℕ) (a b : Text) → From low a → From low b → From low (a ++ b)
from-append low a b p q = rw (list_all-append (nat_le low) a b, p, q) refl

pub le-true : (m n : ℕ) → m ≤ n → nat_le m n ≡ true
le-true m n h = grind (arith, nat_tests)

pub from-cons : (low b : ℕ) (text : Text) → low ≤ b → From low text → From low (b ∷ text)
from-cons low b text h p = both_true (nat_le low b) (list_all (nat_le low) text) (le-true low b h) p

pub from-less : (low high : ℕ) (text : Text) → low ≤ high → From high text → From low text
from-less low high [] h p = refl
from-less low high (b ∷ bs) h p =
    let one = both_parts (nat_le high b) (list_all (nat_le high) bs) p in
    let least = at_most high b one.0 in
    from-cons low b bs (omega arith) (from-less low high bs h one.1)

-- a word behind a space
pub from-spaced : (word : Text) → From 33 word → From 32 (spaced word)
from-spaced word p = from-cons 32 32 word (omega arith) (from-less 32 33 word (omega arith) p)

-- Lines

pub other-byte : (m n : ℕ) → n < m → (m == n) ≡ false
other-byte m n h = grind (arith, nat_tests)

pub lines_of-line : (text rest : Text) → From 32 text → lines_of (text ++ 10 ∷ rest) ≡ text ∷ lines_of rest
lines_of-line [] rest p = refl
lines_of-line (b ∷ bs) rest p =
    let one = both_parts (nat_le 32 b) (list_all (nat_le 32) bs) p in
    let least = at_most 32 b one.0 in
    rw (other-byte b 10 (omega arith), lines_of-line bs rest one.1) refl

-- Words

-- a word ends at a space or at the line's end
abbrev pub Tail : Text → Type 0
Tail [] = Unit {0}
Tail (b ∷ bs) = b ≡ 32

len_to-word : (word tail : Text) → From 33 word → Tail tail → len_to 32 (word ++ tail) ≡ length word
len_to-word [] [] p t = refl
len_to-word [] (b ∷ bs) p t = rw t refl
len_to-word (b ∷ bs) tail p t =
    let one = both_parts (nat_le 33 b) (list_all (nat_le 33) bs) p in
    let least = at_most 33 b one.0 in
    rw (other-byte b 32 (omega arith), len_to-word bs tail one.1 t) (add-one (length bs))

drop-nothing : (n : ℕ) → drop {A = ℕ} n [] ≡ []
drop-nothing zero = refl
drop-nothing (suc n) = refl

drop-twice : (m n : ℕ) (xs : Text) → drop n (drop m xs) ≡ drop (m + n) xs
drop-twice zero n xs = (let e : 0 + n ≡ n = omega arith in rw e refl)
drop-twice (suc m) n [] = (let e : suc m + n ≡ suc (m + n) = omega arith in rw e (drop-nothing n))
drop-twice (suc m) n (x ∷ xs) = (let e : suc m + n ≡ suc (m + n) = omega arith in rw e (drop-twice m n xs))

-- what is behind the byte at a place
drop-behind : (b x : ℕ) (line rest : Text) (at : ℕ) → drop at (b ∷ line) ≡ x ∷ rest → drop at line ≡ rest
drop-behind b x line rest zero e = cc
drop-behind b x [] rest (suc at) e = (let none : [] ≡ x ∷ rest = sym (drop-nothing at) ∙ e in absurd (cc))
drop-behind b x (c ∷ cs) rest (suc at) e = drop-behind c x cs rest at e

-- what stands from the space before a place on; past the last word nothing
abbrev pub At : Text → ℕ → Text → Type 0
At line at tail = (at ≤ length line + 1) × (drop at (32 ∷ line) ≡ tail)

pub at_front : (line : Text) → At line 0 (spaced line)
at_front line = (omega arith, refl)

-- how long the rest is
pub at_length : (line : Text) (at : ℕ) (tail : Text) → At line at tail → at + length tail ≡ length line + 1
at_length line at tail a =
    let e : length (drop at (32 ∷ line)) ≡ length tail = ap (λ (l : Text). length l) a.1 in
    let d = length-drop at (32 ∷ line) in
    let h = a.0 in
    omega arith

pub word_at-is : (line : Text) (at : ℕ) (word tail : Text) → At line at (spaced word ++ tail) → From 33 word → Tail tail → word_at line at ≡ word
word_at-is line at word tail a p t =
    let rest : drop at line ≡ word ++ tail = drop-behind 32 32 line (word ++ tail) at a.1 in
    rw (rest, len_to-word word tail p t) (take-append_seam word tail)

pub next_at-is : (line : Text) (at : ℕ) (word tail : Text) → At line at (spaced word ++ tail) → From 33 word → Tail tail → At line (next_at line at) tail
next_at-is line at word tail a p t =
    let size = at_length line at (spaced word ++ tail) a in
    let parts = length-append word tail in
    let is : next_at line at ≡ at + (length word + 1) = rw (word_at-is line at word tail a p t) (omega arith) in
    let behind : drop (at + (length word + 1)) (32 ∷ line) ≡ tail =
    sym (drop-twice at (length word + 1) (32 ∷ line)) ∙ ap (λ (l : Text). drop (length word + 1) l) a.1 ∙ ap (λ (n : ℕ). drop n (spaced word ++ tail)) (add-one (length word)) ∙ drop-append_seam word tail in
    subst (λ (n : ℕ). At line n tail) (sym is) (omega arith, behind)

-- Parts

-- a part gives a value, and the rest stands behind it
abbrev pub Says : {X : Type 0} → Part X → X → Text → Text → Type 0
Says {X} part x line tail = (n : ℕ) × (part ≡ Ok (x, n)) × At line n tail

pub says-told : {X : Type 0} (f : Text → Option X) (x : X) (line : Text) (at : ℕ) (word tail : Text) → At line at (spaced word ++ tail) → From 33 word → Tail tail → f word ≡ Some x
    → Says (told_at line at (f (word_at line at))) x line tail
says-told {X} f x line at word tail a p t e =
    (next_at line at, ap (λ (w : Text). told_at line at (f w)) (word_at-is line at word tail a p t) ∙ ap (λ (o : Option X). told_at line at o) e, next_at-is line at word tail a p t)

pub says-bind : {X Y : Type 0} (part : Part X) (x : X) (f : X × ℕ → Part Y) (y : Y) (line tail after : Text) → Says part x line tail → ((n : ℕ) → At line n tail → Says (f (x, n)) y line after)
    → Says (part >>= f) y line after
says-bind {X} {Y} part x f y line tail after said more =
    subst (λ (r : Part X). Says (r >>= f) y line after) (sym said.1) (more said.0 said.2)

pub ok-bind : {X Y : Type 0} (part : Part X) (x : X) (f : X × ℕ → Result Y ℕ) (y : Y) (line tail : Text) → Says part x line tail → ((n : ℕ) → At line n tail → f (x, n) ≡ Ok y) → (part >>= f) ≡ Ok y
ok-bind {X} {Y} part x f y line tail said more =
    subst (λ (r : Part X). (r >>= f) ≡ Ok y) (sym said.1) (more said.0 said.2)

pub ends : {X : Type 0} (x : X) (line : Text) (at : ℕ) → At line at [] → end_at line at x ≡ Ok x
ends {X} x line at a =
    let size = at_length line at [] a in
    let past : nat_lt (length line) at ≡ true = grind (arith, nat_tests) in
    rw past refl

pub is_end : (line : Text) (at : ℕ) → At line at [] → nat_lt (length line) at ≡ true
is_end line at a = (let size = at_length line at [] a in grind (arith, nat_tests))

pub goes_on : (line : Text) (at b : ℕ) (tail : Text) → At line at (b ∷ tail) → nat_lt (length line) at ≡ false
goes_on line at b tail a = (let size = at_length line at (b ∷ tail) a in grind (arith, nat_tests))

-- Spellings of numbers, ranges, ids and items: each is read back, and none begins as another.
use Rattle.std.proofs.Common.{◌≡◌, ◌≤◌, ◌<◌, ◌^◌, ℕ, zero, suc, List, [], ◌∷◌, ◌++◌, length, drop, refl, ap, sym, ◌∙◌, arith, append_assoc, get_or, lit<}
use Rattle.std.proofs.lemmas.Nat.{be_bytes_4, be_bytes_2}
use Rattle.byteorder.specs.Endian.{big_bytes, big_number}
use Rattle.byteorder.specs.Numbers.{length-bytes_high_first, big_number-reads_back}
use Rattle.mn_base.specs.declared.ids.Tid.{Tid}
use Rattle.mn_base.specs.declared.ids.Range.{Range}
use Rattle.mn_mini.specs.declared.part.PartItem.{PartItem}
use Rattle.mn_mini.specs.declared.part.PartItem.TheVariants.{Compare, Read, Write}
use Rattle.mn_mini.specs.Mini.{range_of}
use Rattle.mn_mini.specs.RecordGrammar.{tid_bytes, range_bytes, kind_of, data_of, item_bytes, IsTid, IsRange}

-- Lists

-- lists that are equal when joined are equal in parts of equal lengths
pub cut : {X : Type 0} (a b c d : List X) → length a ≡ length b → a ++ c ≡ b ++ d → (a ≡ b) × (c ≡ d)
cut [] [] c d n e = (refl, e)
cut [] (y ∷ b) c d n e = absurd (omega (arith, n))
cut (x ∷ a) [] c d n e = absurd (omega (arith, n))
cut {X = X} (x ∷ a) (y ∷ b) c d n e =
    let heads : x ≡ y = cc in
    let tails : a ++ c ≡ b ++ d = cc in
    let rest = cut a b c d (omega (arith, n)) tails in
    (ap (λ (h : X). h ∷ a) heads ∙ ap (λ (t : List X). y ∷ t) rest.0, rest.1)

-- Numbers

bytes_of_4 : (a b c d : ℕ) → a < 256 → b < 256 → c < 256 → d < 256 → (i : ℕ) → get_or (a ∷ (b ∷ (c ∷ (d ∷ [])))) i 0 < 256
bytes_of_4 a b c d p q r s zero = p
bytes_of_4 a b c d p q r s (suc zero) = q
bytes_of_4 a b c d p q r s (suc (suc zero)) = r
bytes_of_4 a b c d p q r s (suc (suc (suc zero))) = s
bytes_of_4 a b c d p q r s (suc (suc (suc (suc i)))) = lit< tt

bytes_of_2 : (a b : ℕ) → a < 256 → b < 256 → (i : ℕ) → get_or (a ∷ (b ∷ [])) i 0 < 256
bytes_of_2 a b p q zero = p
bytes_of_2 a b p q (suc zero) = q
bytes_of_2 a b p q (suc (suc i)) = lit< tt

-- four bytes are those of the number that they read as
pub spelled_4 : (bs : List ℕ) → 4 ≤ length bs → ((i : ℕ) → get_or bs i 0 < 256) → bs ≡ big_bytes 4 (big_number 4 bs) ++ drop 4 bs
spelled_4 [] long bytes = absurd (omega arith)
spelled_4 (a ∷ []) long bytes = absurd (omega arith)
spelled_4 (a ∷ (b ∷ [])) long bytes = absurd (omega arith)
spelled_4 (a ∷ (b ∷ (c ∷ []))) long bytes = absurd (omega arith)
spelled_4 (a ∷ (b ∷ (c ∷ (d ∷ rest)))) long bytes =
    ap (λ (l : List ℕ). l ++ rest)
    (sym (be_bytes_4 (a ∷ (b ∷ (c ∷ (d ∷ [])))) (big_number 4 (a ∷ (b ∷ (c ∷ (d ∷ rest))))) refl (bytes_of_4 a b c d (bytes 0) (bytes 1) (bytes 2) (bytes 3)) (omega arith)))

pub spelled_2 : (bs : List ℕ) → 2 ≤ length bs → ((i : ℕ) → get_or bs i 0 < 256) → bs ≡ big_bytes 2 (big_number 2 bs) ++ drop 2 bs
spelled_2 [] long bytes = absurd (omega arith)
spelled_2 (a ∷ []) long bytes = absurd (omega arith)
spelled_2 (a ∷ (b ∷ rest)) long bytes =
    ap (λ (l : List ℕ). l ++ rest)
    (sym (be_bytes_2 (a ∷ (b ∷ [])) (big_number 2 (a ∷ (b ∷ rest))) refl (bytes_of_2 a b (bytes 0) (bytes 1)) (omega arith)))

pub number_once : (n x y : ℕ) (a b : List ℕ) → x < 256 ^ n → y < 256 ^ n → big_bytes n x ++ a ≡ big_bytes n y ++ b → (x ≡ y) × (a ≡ b)
number_once n x y a b small_x small_y same =
    let both = cut (big_bytes n x) (big_bytes n y) a b (length-bytes_high_first n x ∙ sym (length-bytes_high_first n y)) same in
    (sym (big_number-reads_back n x a small_x) ∙ ap (λ (l : List ℕ). big_number n l) same ∙ big_number-reads_back n y b small_y, both.1)

-- Ranges and ids

pub same_range : (r s : Range) → r.start ≡ s.start → r.length ≡ s.length → r ≡ s
same_range r s e f =
    let start : r ≡ record { start = s.start; length = r.length } = ap (λ (n : ℕ). let made : Range = record { start = n; length = r.length } in made) e in
    start ∙ ap (λ (n : ℕ). let made : Range = record { start = s.start; length = n } in made) f

pub range_once : (r s : Range) (a b : List ℕ) → IsRange r → IsRange s → range_bytes r ++ a ≡ range_bytes s ++ b → (r ≡ s) × (a ≡ b)
range_once r s a b in_r in_s same =
    let starts = number_once 4 r.start s.start (big_bytes 4 r.length ++ a) (big_bytes 4 s.length ++ b) (omega (arith, in_r.2)) (omega (arith, in_s.2)) same in
    let lengths = number_once 4 r.length s.length a b (omega (arith, in_r.1)) (omega (arith, in_s.1)) starts.1 in
    (same_range r s starts.0 lengths.0, lengths.1)

pub same_tid : (t u : Tid) → t.run ≡ u.run → t.client.0 ≡ u.client.0 → t.serial ≡ u.serial → t ≡ u
same_tid t u e f g =
    let run : t ≡ record { run = u.run; client = t.client; serial = t.serial } = ap (λ (n : ℕ). let made : Tid = record { run = n; client = t.client; serial = t.serial } in made) e in
    let client : record { run = u.run; client = t.client; serial = t.serial } ≡ (let made : Tid = record { run = u.run; client = u.client; serial = t.serial } in made) = ap (λ (n : ℕ). let made : Tid = record { run = u.run; client = record { 0 = n }; serial = t.serial } in made) f in
    run ∙ client ∙ ap (λ (n : ℕ). let made : Tid = record { run = u.run; client = u.client; serial = n } in made) g

pub tid_once : (t u : Tid) (a b : List ℕ) → IsTid t → IsTid u → tid_bytes t ++ a ≡ tid_bytes u ++ b → (t ≡ u) × (a ≡ b)
tid_once t u a b is_t is_u same =
    let runs = number_once 4 t.run u.run (t.client.0 ∷ (big_bytes 4 t.serial ++ a)) (u.client.0 ∷ (big_bytes 4 u.serial ++ b)) is_t.1 is_u.1 same in
    let clients = cut (t.client.0 ∷ []) (u.client.0 ∷ []) (big_bytes 4 t.serial ++ a) (big_bytes 4 u.serial ++ b) refl runs.1 in
    let serials = number_once 4 t.serial u.serial a b is_t.4 is_u.4 clients.1 in
    let client : t.client.0 ≡ u.client.0 = (let told = clients.0 in cc) in
    (same_tid t u runs.0 client serials.0, serials.1)

-- Items

-- what the spelling of an item says of its kind and of what is behind
pub item_parts : (kind : ℕ) (behind rest : List ℕ) (item : PartItem) → kind ∷ behind ≡ item_bytes item ++ rest → (kind ≡ kind_of item) × (behind ≡ range_bytes (range_of item) ++ (data_of item ++ rest))
item_parts kind behind rest item same =
    let tail : behind ≡ (range_bytes (range_of item) ++ data_of item) ++ rest = cc in
    let head : kind ≡ kind_of item = cc in
    (head, tail ∙ append_assoc (range_bytes (range_of item)) (data_of item) rest)

pub data_length : (item : PartItem) → (kind_of item ≡ 2 → ⊥) → length (data_of item) ≡ (range_of item).length
data_length (Compare start bytes) other = refl
data_length (Read start length) other = absurd (other refl)
data_length (Write start bytes) other = refl

-- What a log's bytes stand for, and how one more record joins them.
use Rattle.std.proofs.Common.{◌≡◌, ◌≢◌, ◌<◌, ◌≤◌, ◌^◌, ℕ, zero, suc, ◌+◌, List, [], ◌∷◌, ◌++◌, length, take, drop, refl, sym, ◌∙◌, ap, arith, append_assoc, length-append}
use Rattle.std.proofs.lemmas.Bool.Decides.{nat_tests}
use Rattle.std.proofs.lemmas.List.{take_at, drop_at, append-nil}
use Rattle.std.proofs.lemmas.Nat.{from_be_bytes-to_be_bytes_4}
use Rattle.std.specs.Int.{w32, to_be_bytes, from_be_bytes}
use Rattle.mn_redo.specs.Grammar.{behind_gate, records, HaveSizes, bodies_in, places}
use Rattle.mn_redo.specs.Log.{listed_in}

pub records_push : (bodies : List (List ℕ)) (body : List ℕ) → records (bodies ++ body ∷ []) ≡ records bodies ++ (1 ∷ behind_gate body)
records_push [] body = append-nil (1 ∷ behind_gate body)
records_push (b ∷ bodies) body = ap (λ (l : List ℕ). (1 ∷ behind_gate b) ++ l) (records_push bodies body) ∙ sym (append_assoc (1 ∷ behind_gate b) (records bodies) (1 ∷ behind_gate body))

pub sizes_push : (bodies : List (List ℕ)) (body : List ℕ) → HaveSizes bodies → length body < 2 ^ 32 → HaveSizes (bodies ++ body ∷ [])
sizes_push [] body sizes size = (size, tt)
sizes_push (b ∷ bodies) body sizes size = (sizes.0, sizes_push bodies body sizes.1 size)

pub length-behind_gate : (body : List ℕ) → length (behind_gate body) ≡ 4 + length body
length-behind_gate body = length-append (to_be_bytes w32 (length body)) body

pub places_push : (at : ℕ) (bodies : List (List ℕ)) (body : List ℕ) → places at (bodies ++ body ∷ []) ≡ places at bodies ++ (at + length (records bodies)) ∷ []
places_push at [] body = ap (λ (n : ℕ). n ∷ []) (omega arith)
places_push at (b ∷ bodies) body =
    ap (λ (l : List ℕ). at ∷ l) (places_push (at + 5 + length b) bodies body
    ∙ ap (λ (n : ℕ). places (at + 5 + length b) bodies ++ n ∷ []) (omega (arith, length-append (1 ∷ behind_gate b) (records bodies), length-behind_gate b)))

pub length-places : (at : ℕ) (bodies : List (List ℕ)) → length (places at bodies) ≡ length bodies
length-places at [] = refl
length-places at (b ∷ bodies) = omega (arith, length-places (at + 5 + length b) bodies)

pub closed_end : (fuel gate : ℕ) (tail : List ℕ) → gate ≢ 1 → bodies_in fuel (gate ∷ tail) ≡ []
closed_end zero gate tail shut = refl
closed_end (suc fuel) gate tail shut = grind (arith, nat_tests)

-- one open record at the front
pub first_record : (fuel : ℕ) (body rest : List ℕ) → length body < 2 ^ 32 → bodies_in (suc fuel) ((1 ∷ behind_gate body) ++ rest) ≡ body ∷ bodies_in fuel rest
first_record fuel body rest size =
    let four = to_be_bytes w32 (length body) in
    let all : behind_gate body ++ rest ≡ four ++ (body ++ rest) = append_assoc four body rest in
    let len : from_be_bytes w32 (take 4 (behind_gate body ++ rest)) ≡ length body = ap (λ (l : List ℕ). from_be_bytes w32 (take 4 l)) all ∙ ap (from_be_bytes w32) (take_at four (body ++ rest) 4 refl) ∙ from_be_bytes-to_be_bytes_4 (length body) size in
    let behind : drop 4 (behind_gate body ++ rest) ≡ body ++ rest = ap (λ (l : List ℕ). drop 4 l) all ∙ drop_at four (body ++ rest) 4 refl in
    ap (λ (n : ℕ). take n (drop 4 (behind_gate body ++ rest)) ∷ bodies_in fuel (drop n (drop 4 (behind_gate body ++ rest)))) len
    ∙ ap (λ (l : List ℕ). take (length body) l ∷ bodies_in fuel (drop (length body) l)) behind
    ∙ ap (λ (l : List ℕ). l ∷ bodies_in fuel (drop (length body) (body ++ rest))) (take_at body rest (length body) refl)
    ∙ ap (λ (l : List ℕ). body ∷ bodies_in fuel l) (drop_at body rest (length body) refl)

pub bodies_of_records : (fuel gate : ℕ) (bodies : List (List ℕ)) (tail : List ℕ) → HaveSizes bodies → length bodies ≤ fuel → gate ≢ 1 → bodies_in fuel (records bodies ++ gate ∷ tail) ≡ bodies
bodies_of_records fuel gate [] tail sizes le shut = closed_end fuel gate tail shut
bodies_of_records zero gate (b ∷ bodies) tail sizes le shut = absurd (omega arith)
bodies_of_records (suc fuel) gate (b ∷ bodies) tail sizes le shut =
    ap (bodies_in (suc fuel)) (append_assoc (1 ∷ behind_gate b) (records bodies) (gate ∷ tail)) ∙ first_record fuel b (records bodies ++ gate ∷ tail) sizes.0
    ∙ ap (λ (l : List (List ℕ)). b ∷ l) (bodies_of_records fuel gate bodies tail sizes.1 (omega arith) shut)

pub at_least : (bodies : List (List ℕ)) → length bodies ≤ length (records bodies)
at_least [] = omega arith
at_least (b ∷ bodies) = omega (arith, at_least bodies, length-append (1 ∷ behind_gate b) (records bodies))

-- the bytes of a log are those of its list
pub listed_is : (before : List ℕ) (bodies : List (List ℕ)) (bytes : List ℕ) → HaveSizes bodies → bytes ≡ (before ++ records bodies) ++ 0 ∷ [] → listed_in (length before) bytes ≡ bodies
listed_is before bodies bytes sizes is =
    ap (λ (l : List ℕ). bodies_in (length bytes) (drop (length before) l)) (is ∙ append_assoc before (records bodies) (0 ∷ []))
    ∙ ap (bodies_in (length bytes)) (drop_at before (records bodies ++ 0 ∷ []) (length before) refl)
    ∙ bodies_of_records (length bytes) 0 bodies [] sizes (omega (arith, ap length is, at_least bodies, length-append (before ++ records bodies) (0 ∷ []), length-append before (records bodies))) (omega arith)

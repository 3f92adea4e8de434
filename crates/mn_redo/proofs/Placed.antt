-- Where the bodies of a log stand.
use Rattle.std.proofs.Common.{◌≡◌, ◌<◌, ◌≤◌, ℕ, zero, suc, ◌+◌, List, [], ◌∷◌, ◌++◌, length, take, drop, get_or, refl, sym, ◌∙◌, ap, arith, append_assoc, length-append}
use Rattle.std.proofs.lemmas.List.{take_at, drop_at}
use Rattle.std.specs.Int.{w32, to_be_bytes}
use Rattle.mn_redo.specs.Grammar.{behind_gate, records, places}
use Rattle.mn_redo.specs.Log.{BytesAreKept, listed_in}
use Rattle.mn_redo.proofs.Parse.{length-behind_gate, length-places}

-- where there is an element, it is the same whatever stands for a missing one
pub any_default : (xs : List ℕ) (k d e : ℕ) → k < length xs → get_or xs k d ≡ get_or xs k e
any_default [] k d e h = absurd (omega arith)
any_default (x ∷ xs) zero d e h = refl
any_default (x ∷ xs) (suc k) d e h = any_default xs k d e (omega arith)

pub record IsPlaced (at : ℕ) (bodies : List (List ℕ)) (k : ℕ) : Type 0 where
  pub front : List (List ℕ)
  pub back : List (List ℕ)
  pub split : records bodies ≡ records front ++ ((1 ∷ behind_gate (get_or bodies k [])) ++ records back)
  pub place : (d : ℕ) → get_or (places at bodies) k d ≡ at + length (records front)
  pub next : (d : ℕ) → suc k < length bodies → get_or (places at bodies) (suc k) d ≡ at + length (records front) + 5 + length (get_or bodies k [])
  pub last : length bodies ≤ suc k → back ≡ []

pub placed : (at : ℕ) (bodies : List (List ℕ)) (k : ℕ) → k < length bodies → IsPlaced at bodies k
placed at [] k h = absurd (omega arith)
placed at (b ∷ bodies) zero h = record {
  front = [];
  back = bodies;
  split = refl;
  place = λ d. omega arith;
  next = λ d more. second bodies d more;
  last = λ few. none bodies few;
}
  where
    second : (bodies : List (List ℕ)) (d : ℕ) → 1 < length (b ∷ bodies) → get_or (places at (b ∷ bodies)) 1 d ≡ at + 0 + 5 + length b
    second [] d more = absurd (omega arith)
    second (x ∷ bodies) d more = omega arith

    none : (bodies : List (List ℕ)) → length (b ∷ bodies) ≤ 1 → bodies ≡ []
    none [] few = refl
    none (x ∷ bodies) few = absurd (omega arith)
placed at (b ∷ bodies) (suc k) h =
    let p = placed (at + 5 + length b) bodies k (omega arith) in
    let long = length-append (1 ∷ behind_gate b) (records p.front) in
    record {
      front = b ∷ p.front;
      back = p.back;
      split = ap (λ (l : List ℕ). (1 ∷ behind_gate b) ++ l) p.split ∙ sym (append_assoc (1 ∷ behind_gate b) (records p.front) ((1 ∷ behind_gate (get_or bodies k [])) ++ records p.back));
      place = λ d. omega (arith, p.place d, long, length-behind_gate b);
      next = λ d more. omega (arith, p.next d (omega arith), long, length-behind_gate b);
      last = λ few. p.last (omega arith);
    }

pub kept_length : (bytes : List ℕ) → BytesAreKept [] bytes → length bytes ≡ length (records (listed_in 0 bytes)) + 1
kept_length bytes kept = omega (arith, ap length kept.bytes_are, length-append (records (listed_in 0 bytes)) (0 ∷ []))

-- places from a start on, and from 0 on
pub places_from : (start at : ℕ) (bodies : List (List ℕ)) (k : ℕ) → k < length bodies → get_or (places (start + at) bodies) k 0 ≡ start + get_or (places at bodies) k 0
places_from start at [] k h = absurd (omega arith)
places_from start at (b ∷ bodies) zero h = refl
places_from start at (b ∷ bodies) (suc k) h = ap (λ (n : ℕ). get_or (places n bodies) k 0) (omega arith) ∙ places_from start (at + 5 + length b) bodies k (omega arith)

pub places_from_0 : (start : ℕ) (bodies : List (List ℕ)) (k : ℕ) → k < length bodies → start + get_or (places 0 bodies) k 0 ≡ get_or (places start bodies) k 0
places_from_0 start bodies k h = sym (places_from start 0 bodies k h) ∙ ap (λ (n : ℕ). get_or (places n bodies) k 0) (omega arith)

module _ (front_bytes bytes gates : List ℕ) (k : ℕ) (kept : BytesAreKept front_bytes bytes) (gates_are : gates ≡ places (length front_bytes) (listed_in (length front_bytes) bytes)) (within : k < length (listed_in (length front_bytes) bytes)) where
  abbrev bodies : List (List ℕ)
  bodies = listed_in (length front_bytes) bytes

  abbrev body : List ℕ
  body = get_or bodies k []

  abbrev p : IsPlaced (length front_bytes) bodies k
  p = placed (length front_bytes) bodies k within

  pub gates_length : length gates ≡ length bodies
  gates_length = ap length gates_are ∙ length-places (length front_bytes) bodies

  pub gate_place : (d : ℕ) → get_or gates k d ≡ length front_bytes + length (records p.front)
  gate_place d = ap (λ (l : List ℕ). get_or l k d) gates_are ∙ p.place d

  pub next_place : (d : ℕ) → suc k < length gates → get_or gates (suc k) d ≡ length front_bytes + length (records p.front) + 5 + length body
  next_place d more = ap (λ (l : List ℕ). get_or l (suc k) d) gates_are ∙ p.next d (omega (arith, more, gates_length))

  abbrev before : List ℕ
  before = (front_bytes ++ records p.front) ++ (1 ∷ to_be_bytes w32 (length body))

  length-before : length before ≡ length front_bytes + length (records p.front) + 5
  length-before = omega (arith, length-append (front_bytes ++ records p.front) (1 ∷ to_be_bytes w32 (length body)), length-append front_bytes (records p.front))

  whole : bytes ≡ before ++ (body ++ (records p.back ++ 0 ∷ []))
  whole =
      kept.bytes_are ∙ ap (λ (l : List ℕ). (front_bytes ++ l) ++ 0 ∷ []) p.split
      ∙ ap (λ (l : List ℕ). l ++ 0 ∷ []) (sym (append_assoc front_bytes (records p.front) ((1 ∷ behind_gate body) ++ records p.back)))
      ∙ append_assoc (front_bytes ++ records p.front) ((1 ∷ behind_gate body) ++ records p.back) (0 ∷ [])
      ∙ ap (λ (l : List ℕ). (front_bytes ++ records p.front) ++ l) (append_assoc (1 ∷ behind_gate body) (records p.back) (0 ∷ []) ∙ append_assoc (1 ∷ to_be_bytes w32 (length body)) body (records p.back ++ 0 ∷ []))
      ∙ sym (append_assoc (front_bytes ++ records p.front) (1 ∷ to_be_bytes w32 (length body)) (body ++ (records p.back ++ 0 ∷ [])))

  pub bytes_length : length front_bytes + length (records p.front) + 5 + length body < length bytes
  bytes_length = omega (arith, ap length whole, length-append before (body ++ (records p.back ++ 0 ∷ [])), length-append body (records p.back ++ 0 ∷ []), length-append (records p.back) (0 ∷ []), length-before)

  pub end_last : length gates ≤ suc k → length bytes ≡ length front_bytes + length (records p.front) + 5 + length body + 1
  end_last few =
      let none = p.last (omega (arith, few, gates_length)) in
      omega (arith, ap length whole, length-append before (body ++ (records p.back ++ 0 ∷ [])), length-append body (records p.back ++ 0 ∷ []), length-append (records p.back) (0 ∷ []), ap (λ (l : List (List ℕ)). length (records l)) none, length-before)

  pub body_there : (start n : ℕ) → start ≡ length front_bytes + length (records p.front) + 5 → n ≡ length body → take n (drop start bytes) ≡ body
  body_there start n at long =
      ap (λ (l : List ℕ). take n (drop start l)) whole ∙ ap (λ (l : List ℕ). take n l) (drop_at before (body ++ (records p.back ++ 0 ∷ [])) start (omega (arith, at, length-before)))
      ∙ take_at body (records p.back ++ 0 ∷ []) n (sym long)

-- A log that begins at a place, by the bytes from there on.
use Rattle.std.proofs.Common.{◌≡◌, ◌≢◌, ◌<◌, ◌^◌, ℕ, ◌+◌, List, [], ◌∷◌, ◌++◌, length, take, drop, get_or, refl, sym, ◌∙◌, ap, arith, append_assoc, length-append, length-drop, length-take, take-append-drop, Bool, true, false, inl, inr}
use Rattle.std.proofs.lemmas.List.{length-take-le}
use Rattle.mn_redo.specs.Grammar.{records, IsDamagedAt, IsFresh, IsFront, IsLead, IsLog, IsLogAt, Stands, current_number}
use Rattle.mn_redo.specs.Log.{IsFrontKept, IsNoLog, listed_in}
use Rattle.mn_redo.proofs.Fronts.{found_kept, found_gates, found_log}

module _ (start : ℕ) (content : List ℕ) (within : start < length content) where
  front_size : length (take start content) ≡ start
  front_size = length-take-le start content (omega (arith, within))

  -- behind the front, as seen from there
  from_front : (bodies : List (List ℕ)) (rest : List ℕ) → drop start content ≡ records bodies ++ rest → content ≡ (take start content ++ records bodies) ++ rest
  from_front bodies rest is = sym (take-append-drop start content) ∙ ap (λ (l : List ℕ). take start content ++ l) is ∙ sym (append_assoc (take start content) (records bodies) rest)

  pub damaged_from : (at : ℕ) → IsDamagedAt [] (drop start content) at → IsDamagedAt (take start content) content (start + at)
  damaged_from at d = record {
    bodies = d.bodies;
    rest = d.rest;
    sizes = d.sizes;
    bytes = from_front d.bodies (1 ∷ d.rest) d.bytes;
    at_is = omega (arith, d.at_is, front_size);
    short = d.short;
  }

  -- damage lies in the bytes
  pub damage_within : (at : ℕ) → IsDamagedAt [] (drop start content) at → start + at < length content
  damage_within at d = omega (arith, d.at_is, ap length d.bytes, length-append (records d.bodies) (1 ∷ d.rest), length-drop start content)

  pub log_from : (bodies : List (List ℕ)) → IsLog [] (drop start content) bodies → IsLog (take start content) content bodies
  log_from bodies l = record {
    gate = l.gate;
    tail = l.tail;
    closed = l.closed;
    sizes = l.sizes;
    bytes = from_front bodies (l.gate ∷ l.tail) l.bytes;
  }

  module _ (gates kept : List ℕ) (at : ℕ) (f : IsFront [] (drop start content) gates at) (kept_is : kept ≡ take at (drop start content) ++ 0 ∷ []) where
    pub front_within : start + at < length content
    front_within = omega (arith, f.at_is, f.some, ap length f.bytes, length-append (records f.bodies) f.rest, length-drop start content)

    pub read_kept : length gates < 2 ^ 32 → IsFrontKept kept gates
    read_kept few = record { kept = found_kept [] (drop start content) gates at f kept kept_is; gates_are = found_gates [] (drop start content) gates at f kept kept_is; count = few }

    pub read_size : length kept ≡ at + 1
    read_size = omega (arith, ap length kept_is, length-append (take at (drop start content)) (0 ∷ []), length-take at (drop start content), length-drop start content, front_within)

    pub read_at : (node nodes number : ℕ) → IsLead node nodes (take start content) → number ≡ current_number (take start content) → get_or (drop start content) at 0 ≢ 1 → IsLogAt node nodes content number start (listed_in 0 kept)
    read_at node nodes number lead number_is shut = record {
      before = take start content;
      lead = lead;
      log = log_from (listed_in 0 kept) (found_log [] (drop start content) gates at f kept kept_is shut);
      number_is = number_is;
      start_is = sym front_size;
    }

-- what was read, fresh or not
pub found_stands : (node nodes : ℕ) (content : List ℕ) (number start : ℕ) (bodies : List (List ℕ)) (fresh : Bool) → (fresh ≡ true → IsFresh content) → (fresh ≡ true → IsNoLog start number bodies) → (fresh ≡ false → IsLogAt node nodes content number start bodies) → Stands node nodes content bodies
found_stands node nodes content number start bodies true fresh none log = inl (fresh refl, (none refl).none)
found_stands node nodes content number start bodies false fresh none log = inr (number, (start, log refl))

-- How a scan goes over one record more.
use Rattle.std.proofs.Common.{◌≡◌, ◌≢◌, ◌<◌, ◌≤◌, ◌^◌, inl, inr, ℕ, suc, zero, ◌+◌, ◌-◌, List, [], ◌∷◌, ◌++◌, length, take, drop, get_or, sym, ◌∙◌, ap, subst, arith, append_assoc, length-append, length-drop, take-append-drop}
use Rattle.std.proofs.lemmas.List.{take_at, drop_at, drop_more, append-nil, length-take-le, take_rest}
use Rattle.std.proofs.lemmas.Nat.{be_bytes_4}
use Rattle.std.specs.Int.{w32, to_be_bytes, from_be_bytes}
use Rattle.mn_redo.specs.Grammar.{behind_gate, records, HaveSizes, places, IsFront, IsShort, IsDamagedAt, IsLog}
use Rattle.mn_redo.specs.Log.{BytesAreKept, listed_in}
use Rattle.mn_redo.proofs.Parse.{records_push, sizes_push, places_push, length-behind_gate, listed_is}

pub none_yet : (before bytes gates : List ℕ) (start : ℕ) → gates ≡ [] → start ≡ length before → take start bytes ≡ before → start < length bytes → IsFront before bytes gates start
none_yet before bytes gates start none start_is is long = record {
  bodies = [];
  rest = drop start bytes;
  sizes = tt;
  bytes = sym (take-append-drop start bytes) ∙ ap (λ (l : List ℕ). l ++ drop start bytes) (is ∙ sym (append-nil before));
  gates_are = none;
  at_is = omega arith;
  some = omega (arith, length-drop start bytes, long);
}

take_small : (l : List ℕ) (k : ℕ) → ((i : ℕ) → get_or l i 0 < 256) → (i : ℕ) → get_or (take k l) i 0 < 256
take_small [] zero h i = h i
take_small [] (suc k) h i = h i
take_small (x ∷ l) zero h i = omega arith
take_small (x ∷ l) (suc k) h zero = h 0
take_small (x ∷ l) (suc k) h (suc i) = take_small l k (λ j. h (suc j)) i

drop_small : (l : List ℕ) (k : ℕ) → ((i : ℕ) → get_or l i 0 < 256) → (i : ℕ) → get_or (drop k l) i 0 < 256
drop_small l zero h i = h i
drop_small [] (suc k) h i = h i
drop_small (x ∷ l) (suc k) h i = drop_small l k (λ j. h (suc j)) i

pub short_by_none : (l : List ℕ) (k : ℕ) → length (take (length l - k) (drop k l)) < 4 → IsShort (drop k l)
short_by_none l k h = inl (rw (take_rest l k) at h)

pub short_by_size : (l : List ℕ) (k n : ℕ) → n ≡ from_be_bytes w32 (take 4 (take (length l - k) (drop k l))) → length (take (length l - k) (drop k l)) - 4 ≤ n → IsShort (drop k l)
short_by_size l k n is h =
    let is_there = rw (take_rest l k) at is in
    let h_there = rw (take_rest l k) at h in
    inr (omega (arith, is_there, h_there))

pub enough_there : (l : List ℕ) (k n : ℕ) → 4 ≤ length (take (length l - k) (drop k l)) → n < length (take (length l - k) (drop k l)) - 4 → 4 + n < length (drop k l)
enough_there l k n four h =
    let four_there = rw (take_rest l k) at four in
    let h_there = rw (take_rest l k) at h in
    omega (arith, four_there, h_there)

pub size_there : (l : List ℕ) (k n : ℕ) → n ≡ from_be_bytes w32 (take 4 (take (length l - k) (drop k l))) → n ≡ from_be_bytes w32 (take 4 (drop k l))
size_there l k n is = rw (take_rest l k) at is

module _ (before bytes gates : List ℕ) (at : ℕ) (f : IsFront before bytes gates at) where
  front_length : length (before ++ records f.bodies) ≡ at
  front_length = omega (arith, f.at_is, length-append before (records f.bodies))

  pub rest_is : drop at bytes ≡ f.rest
  rest_is = ap (λ (l : List ℕ). drop at l) f.bytes ∙ drop_at (before ++ records f.bodies) f.rest at front_length

  -- the byte at the place is the first of the rest
  pub gate_first : get_or bytes at 0 ≡ 1 → f.rest ≡ 1 ∷ drop (at + 1) bytes
  gate_first one = sym rest_is ∙ drop_more bytes at 0 (omega (arith, ap length f.bytes, length-append (before ++ records f.bodies) f.rest, front_length, f.some)) ∙ ap (λ (x : ℕ). x ∷ drop (at + 1) bytes) one

  pub damaged : get_or bytes at 0 ≡ 1 → IsShort (drop (at + 1) bytes) → IsDamagedAt before bytes at
  damaged one short = record {
    bodies = f.bodies;
    rest = drop (at + 1) bytes;
    sizes = f.sizes;
    bytes = f.bytes ∙ ap (λ (l : List ℕ). (before ++ records f.bodies) ++ l) (gate_first one);
    at_is = f.at_is;
    short = short;
  }

  pub one_more : (n : ℕ) → get_or bytes at 0 ≡ 1 → ((i : ℕ) → get_or bytes i 0 < 256) → n ≡ from_be_bytes w32 (take 4 (drop (at + 1) bytes)) → n < 2 ^ 32 → 4 + n < length (drop (at + 1) bytes)
      → IsFront before bytes (gates ++ at ∷ []) (at + (5 + n))
  one_more n one small is size enough =
      let rest = drop (at + 1) bytes in
      let body = take n (drop 4 rest) in
      let body_length : length body ≡ n = length-take-le n (drop 4 rest) (omega (arith, enough, length-drop 4 rest)) in
      let four_length : length (take 4 rest) ≡ 4 = length-take-le 4 rest (omega (arith, enough)) in
      let four : to_be_bytes w32 (length body) ≡ take 4 rest = ap (to_be_bytes w32) body_length ∙ be_bytes_4 (take 4 rest) n four_length (take_small rest 4 (drop_small bytes (at + 1) small)) is in
      let split : rest ≡ behind_gate body ++ drop n (drop 4 rest) =
      sym (take-append-drop 4 rest) ∙ ap (λ (l : List ℕ). take 4 rest ++ l) (sym (take-append-drop n (drop 4 rest))) ∙ ap (λ (l : List ℕ). l ++ (body ++ drop n (drop 4 rest))) (sym four) ∙ sym (append_assoc (to_be_bytes w32 (length body)) body (drop n (drop 4 rest))) in
      record {
        bodies = f.bodies ++ body ∷ [];
        rest = drop n (drop 4 rest);
        sizes = sizes_push f.bodies body f.sizes (omega (arith, body_length, size));
        bytes =
            f.bytes ∙ ap (λ (l : List ℕ). (before ++ records f.bodies) ++ l) (gate_first one ∙ ap (λ (l : List ℕ). 1 ∷ l) split)
            ∙ sym (append_assoc (before ++ records f.bodies) (1 ∷ behind_gate body) (drop n (drop 4 rest)))
            ∙ ap (λ (l : List ℕ). l ++ drop n (drop 4 rest)) (append_assoc before (records f.bodies) (1 ∷ behind_gate body) ∙ ap (λ (l : List ℕ). before ++ l) (sym (records_push f.bodies body)));
        gates_are = ap (λ (l : List ℕ). l ++ at ∷ []) f.gates_are ∙ ap (λ (x : ℕ). places (length before) f.bodies ++ x ∷ []) f.at_is ∙ sym (places_push (length before) f.bodies body);
        at_is = omega (arith, f.at_is, ap length (records_push f.bodies body), length-append (records f.bodies) (1 ∷ behind_gate body), length-behind_gate body, body_length);
        some = omega (arith, enough, length-drop n (drop 4 rest), length-drop 4 rest);
      }

  -- what is kept of it: the records, and a closed gate behind them
  module _ (kept : List ℕ) (kept_is : kept ≡ take at bytes ++ 0 ∷ []) where
    pub kept_bytes : kept ≡ (before ++ records f.bodies) ++ 0 ∷ []
    kept_bytes = kept_is ∙ ap (λ (l : List ℕ). take at l ++ 0 ∷ []) f.bytes ∙ ap (λ (l : List ℕ). l ++ 0 ∷ []) (take_at (before ++ records f.bodies) f.rest at front_length)

    pub list_is : listed_in (length before) kept ≡ f.bodies
    list_is = listed_is before f.bodies kept f.sizes kept_bytes

    pub found_kept : BytesAreKept before kept
    found_kept = record { sizes = subst HaveSizes (sym list_is) f.sizes; bytes_are = kept_bytes ∙ ap (λ (l : List (List ℕ)). (before ++ records l) ++ 0 ∷ []) (sym list_is) }

    pub found_gates : gates ≡ places (length before) (listed_in (length before) kept)
    found_gates = f.gates_are ∙ ap (places (length before)) (sym list_is)

    pub found_log : get_or bytes at 0 ≢ 1 → IsLog before bytes (listed_in (length before) kept)
    found_log shut = record {
      gate = get_or bytes at 0;
      tail = drop (at + 1) bytes;
      closed = shut;
      sizes = subst HaveSizes (sym list_is) f.sizes;
      bytes =
          f.bytes ∙ ap (λ (l : List ℕ). (before ++ records f.bodies) ++ l) (sym rest_is ∙ drop_more bytes at 0 (omega (arith, ap length f.bytes, length-append (before ++ records f.bodies) f.rest, front_length, f.some)))
          ∙ ap (λ (l : List (List ℕ)). (before ++ records l) ++ get_or bytes at 0 ∷ drop (at + 1) bytes) (sym list_is);
    }

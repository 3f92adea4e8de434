-- What each moment of a shortening leaves.
use Rattle.std.proofs.Common.{◌≡◌, ◌<◌, ◌≤◌, ◌^◌, ◌%◌, ◌*◌, ◌⊎◌, inl, inr, ⊎_elim, ℕ, zero, suc, ◌+◌, ◌-◌, List, [], ◌∷◌, ◌++◌, length, take, drop, max, refl, sym, ◌∙◌, ap, subst, arith, append_assoc, length-append}
use Rattle.std.proofs.lemmas.Bool.{cases_eq, cases_lt}
use Rattle.std.proofs.lemmas.Bool.Decides.{nat_tests}
use Rattle.std.proofs.lemmas.List.{take_at, drop_at, length-take-le}
use Rattle.std.proofs.lemmas.Nat.{from_be_bytes-to_be_bytes_8}
use Rattle.std.specs.Int.{w64, from_be_bytes, to_be_bytes}
use Rattle.mn_io.specs.DiskModel.{Torn, Cut, written_at}
use Rattle.mn_ckpt.specs.Area.{IsClosed, IsWritten, IsClosedOldOrWritten, SameOutside}
use Rattle.mn_ckpt.proofs.Areas.{take_nearer, drop_further, gate_early, gate_late, image_early, image_late}
use Rattle.mn_redo.specs.Grammar.{records, HaveSizes, number_in, start_in, number_of, by_greater, beginning, IsRight, IsLog, IsLogAt, IsLogOneOrOther, IsOneOrOther, IsReplacing, behind_gate, place_for, total, whole_log}
use Rattle.mn_redo.proofs.Parse.{length-behind_gate}
use Rattle.mn_redo.proofs.Append.{stage_torn}
use Rattle.mn_redo.proofs.Leads.{SameArea, Seen, seen, unseen, stays, right_there, number_there, start_there, number_open, number_closed, number_parity, picks_first, picks_second}

-- The first write, of the list itself

-- in front of the log
in_front : (node nodes number start size : ℕ) (content c : List ℕ) (bodies : List (List ℕ)) → Seen node nodes content number start bodies → 80 + size ≤ start → Torn 80 size content c → Seen node nodes c number start bodies
in_front node nodes number start size content c bodies s le torn = stays node nodes content number start bodies c s torn.before (drop_further (80 + size) start c content le torn.after)

-- behind it
behind : (node nodes number start place size : ℕ) (content c : List ℕ) (bodies : List (List ℕ)) → IsLogAt node nodes content number start bodies → place ≡ start + length (records bodies) + 1 → Torn place size content c → IsLogAt node nodes c number start bodies
behind node nodes number start place size content c bodies l is torn = record {
  before = l.before;
  lead = l.lead;
  log = stage_torn l.before bodies [] place content c size l.log (omega (arith, is, l.start_is, length-append l.before (records bodies))) torn;
  number_is = l.number_is;
  start_is = l.start_is;
}

pub listing : (node nodes number : ℕ) (content c piece : List ℕ) (bodies others : List (List ℕ)) (place : ℕ) → (r : IsReplacing node nodes content number bodies others piece place) → Torn place (length piece) content c → IsLogAt node nodes c number r.start bodies
listing node nodes number content c piece bodies others place r torn =
    ⊎_elim
    (λ front.
    unseen node nodes c number r.start bodies
    (in_front node nodes number r.start (length piece) content c bodies (seen node nodes content number r.start bodies r.log) front.1 (subst (λ (n : ℕ). Torn n (length piece) content c) front.0 torn)))
    (λ back. behind node nodes number r.start place (length piece) content c bodies r.log back torn) r.apart

-- the new list stands there
pub listed : (content new piece : List ℕ) (others : List (List ℕ)) (place : ℕ) → place ≤ length content → piece ≡ whole_log others → HaveSizes others → new ≡ written_at content place piece → IsLog [] (drop place new) others
listed content new piece others place le is sizes done = record {
  gate = 0;
  tail = drop (place + length piece) content;
  closed = omega arith;
  sizes = sizes;
  bytes =
      ap (λ (l : List ℕ). drop place l) done ∙ drop_at (take place content) (piece ++ drop (place + length piece) content) place (length-take-le place content le)
      ∙ ap (λ (p : List ℕ). p ++ drop (place + length piece) content) is ∙ append_assoc (records others) (0 ∷ []) (drop (place + length piece) content);
}

pub written_reaches : (at : ℕ) (piece content : List ℕ) → at ≤ length content → at + length piece ≤ length (written_at content at piece)
written_reaches at piece content le = omega (arith, length-append (take at content) (piece ++ drop (at + length piece) content), length-append piece (drop (at + length piece) content), length-take-le at content le)

-- where it is written
front_place : (start gate size : ℕ) → 80 + size ≤ start → place_for start gate size ≡ 80
front_place start gate size le = grind (arith, nat_tests)

back_place : (start gate size : ℕ) → start < 80 + size → place_for start gate size ≡ gate + 1
back_place start gate size lt = grind (arith, nat_tests)

pub placed_apart : (start gate size place n : ℕ) → place ≡ place_for start gate size → gate ≡ start + n → ((place ≡ 80) × (80 + size ≤ start)) ⊎ (place ≡ start + n + 1)
placed_apart start gate size place n is gate_is = elim (cases_lt start (80 + size)) [ inl back ↦ inr (omega (arith, is, back_place start gate size back, gate_is)) | inr front ↦ inl (is ∙ front_place start gate size front, front) ]

pub place_near : (start gate size place : ℕ) → place ≡ place_for start gate size → (place ≡ 80) ⊎ (place ≡ gate + 1)
place_near start gate size place is = elim (cases_lt start (80 + size)) [ inl back ↦ inr (is ∙ back_place start gate size back) | inr front ↦ inl (is ∙ front_place start gate size front) ]

-- it ends near
pub place_end : (start gate size place : ℕ) → place ≡ place_for start gate size → start ≤ gate → place + size ≤ gate + 1 + size
place_end start gate size place is le = elim (cases_lt start (80 + size)) [ inl back ↦ omega (arith, is, back_place start gate size back) | inr front ↦ omega (arith, is, front_place start gate size front, front, le) ]

pub records_length : (bodies : List (List ℕ)) → length (records bodies) ≡ total bodies + 5 * length bodies
records_length [] = refl
records_length (b ∷ bodies) = omega (arith, records_length bodies, length-append (1 ∷ behind_gate b) (records bodies), length-behind_gate b)

pub whole_length : (bodies : List (List ℕ)) → length (whole_log bodies) ≡ total bodies + 5 * length bodies + 1
whole_length bodies = omega (arith, length-append (records bodies) (0 ∷ []), records_length bodies)

-- The image

parity : (n : ℕ) → (n % 2 ≡ 0) ⊎ (n % 2 ≡ 1)
parity n = elim (cases_eq (n % 2) 0) [ inl e ↦ inl e | inr other ↦ inr (omega (arith, other)) ]

-- the area of the next number isn't the current one
second_is_current : (number n m : ℕ) → number ≡ max n m → (number + 1) % 2 ≡ 0 → (0 < n → n % 2 ≡ 0) → n < m
second_is_current number zero m is next even = omega (arith, is, next)
second_is_current number (suc n) m is next even = let e : suc n % 2 ≡ 0 = even (omega arith) in omega (arith, is, next, e)

first_is_current : (number n m : ℕ) → number ≡ max n m → (number + 1) % 2 ≡ 1 → (0 < m → m % 2 ≡ 1) → (m < n) ⊎ ((n ≡ 0) × (m ≡ 0))
first_is_current number zero zero is next odd = inr (refl, refl)
first_is_current number (suc n) zero is next odd = inl (omega arith)
first_is_current number n (suc m) is next odd = let o : suc m % 2 ≡ 1 = odd (omega arith) in inl (omega (arith, is, next, o))

-- the other area
other_first : (old new : List ℕ) → SameOutside 0 old new → SameArea 1 old new
other_first old new s = record { gate = gate_late 1 33 new old (omega arith) s.back; image = image_late 1 33 new old (omega arith) s.back }

other_zeroth : (old new : List ℕ) → SameOutside 1 old new → SameArea 0 old new
other_zeroth old new s = record { gate = gate_early 0 48 new old (omega arith) s.front; image = image_early 0 48 new old (omega arith) s.front }

module _ (node nodes number start : ℕ) (content c : List ℕ) (bodies : List (List ℕ)) (s : Seen node nodes content number start bodies) where
  closed_zeroth : (number + 1) % 2 ≡ 0 → IsClosed 0 content c → Seen node nodes c number start bodies
  closed_zeroth next shut =
      let other = other_first content c shut.outside in
      let n0 = number_closed 0 c shut.gate in
      let n1 = number_there 1 content c other in
      let lt = second_is_current number (number_of 0 content) (number_of 1 content) s.number_is next (number_parity 0 content s.first) in
      let was : beginning content ≡ start_in 1 content = picks_second (number_of 0 content) (number_of 1 content) (start_in 0 content) (start_in 1 content) 80 lt in
      let now : beginning c ≡ start_in 1 c = picks_second (number_of 0 c) (number_of 1 c) (start_in 0 c) (start_in 1 c) 80 (omega (arith, n0, n1, lt)) in
      record {
        head = shut.outside.front ∙ s.head;
        first = λ one. absurd (shut.gate one);
        second = right_there 1 content c other s.second;
        number_is = omega (arith, s.number_is, n0, n1, lt);
        start_is = s.start_is ∙ was ∙ sym (start_there 1 content c other) ∙ sym now;
        long = s.long;
        log = subst (λ (l : List ℕ). IsLog [] l bodies) (sym (drop_further 33 start c content (omega (arith, s.long)) shut.outside.back)) s.log;
      }

  closed_first : (number + 1) % 2 ≡ 1 → IsClosed 1 content c → Seen node nodes c number start bodies
  closed_first next shut =
      let other = other_zeroth content c shut.outside in
      let n1 = number_closed 1 c shut.gate in
      let n0 = number_there 0 content c other in
      let which = first_is_current number (number_of 0 content) (number_of 1 content) s.number_is next (number_parity 1 content s.second) in
      let same : beginning c ≡ beginning content =
      ⊎_elim
      (λ lt.
      picks_first (number_of 0 c) (number_of 1 c) (start_in 0 c) (start_in 1 c) 80 (omega (arith, n0, n1, lt)) ∙ start_there 0 content c other
      ∙ sym (picks_first (number_of 0 content) (number_of 1 content) (start_in 0 content) (start_in 1 content) 80 lt))
      (λ none.
      ap (λ (k : ℕ). by_greater k (number_of 1 c) (start_in 0 c) (start_in 1 c) 80) (n0 ∙ none.0) ∙ ap (λ (k : ℕ). by_greater 0 k (start_in 0 c) (start_in 1 c) 80) n1
      ∙ sym (ap (λ (k : ℕ). by_greater k (number_of 1 content) (start_in 0 content) (start_in 1 content) 80) none.0 ∙ ap (λ (k : ℕ). by_greater 0 k (start_in 0 content) (start_in 1 content) 80) none.1))
      which in
      let most : number_of 1 content ≤ number_of 0 content = ⊎_elim (λ lt. omega (arith, lt)) (λ none. omega (arith, none.0, none.1)) which in
      record {
        head = take_nearer 16 48 c content (omega arith) shut.outside.front ∙ s.head;
        first = right_there 0 content c other s.first;
        second = λ one. absurd (shut.gate one);
        number_is = omega (arith, s.number_is, n0, n1, most);
        start_is = s.start_is ∙ sym same;
        long = s.long;
        log = subst (λ (l : List ℕ). IsLog [] l bodies) (sym (drop_further 65 start c content (omega (arith, s.long)) shut.outside.back)) s.log;
      }

  pub closed_keeps : (area : ℕ) → area ≡ (number + 1) % 2 → IsClosed area content c → Seen node nodes c number start bodies
  closed_keeps area is shut =
      ⊎_elim (λ even. closed_zeroth even (subst (λ (a : ℕ). IsClosed a content c) (is ∙ even) shut)) (λ odd. closed_first odd (subst (λ (a : ℕ). IsClosed a content c) (is ∙ odd) shut)) (parity (number + 1))

  module _ (place : ℕ) (others : List (List ℕ)) (image : List ℕ) (few : number < 2 ^ 63) (near : place < 2 ^ 64) (from : 80 ≤ place) (image_is : image ≡ to_be_bytes w64 (number + 1) ++ to_be_bytes w64 place) (there : IsLog [] (drop place content) others) where
    number_new : (area : ℕ) → IsWritten area image content c → number_in area c ≡ number + 1
    number_new area w =
        ap (λ (im : List ℕ). from_be_bytes w64 (take 8 im)) (w.image_is ∙ image_is) ∙ ap (from_be_bytes w64) (take_at (to_be_bytes w64 (number + 1)) (to_be_bytes w64 place) 8 refl) ∙ from_be_bytes-to_be_bytes_8 (number + 1) (omega (arith, few))

    start_new : (area : ℕ) → IsWritten area image content c → start_in area c ≡ place
    start_new area w =
        ap (λ (im : List ℕ). from_be_bytes w64 (drop 8 im)) (w.image_is ∙ image_is) ∙ ap (from_be_bytes w64) (drop_at (to_be_bytes w64 (number + 1)) (to_be_bytes w64 place) 8 refl) ∙ from_be_bytes-to_be_bytes_8 place near

    right_new : (area : ℕ) → area ≡ (number + 1) % 2 → IsWritten area image content c → IsRight area c
    right_new area is w _ =
        let n = number_new area w in
        (omega (arith, n), omega (arith, n, few), ap (λ (k : ℕ). k % 2) n ∙ sym is)

    written_zeroth : (number + 1) % 2 ≡ 0 → IsWritten 0 image content c → Seen node nodes c (number + 1) place others
    written_zeroth next w =
        let other = other_first content c w.outside in
        let n0 = number_open 0 c w.gate ∙ number_new 0 w in
        let n1 = number_there 1 content c other in
        let lt : number_of 1 c < number_of 0 c = omega (arith, n0, n1, s.number_is) in
        record {
          head = w.outside.front ∙ s.head;
          first = right_new 0 (sym next) w;
          second = right_there 1 content c other s.second;
          number_is = omega (arith, n0, lt);
          start_is = sym (picks_first (number_of 0 c) (number_of 1 c) (start_in 0 c) (start_in 1 c) 80 lt ∙ start_new 0 w);
          long = from;
          log = subst (λ (l : List ℕ). IsLog [] l others) (sym (drop_further 33 place c content (omega (arith, from)) w.outside.back)) there;
        }

    written_first : (number + 1) % 2 ≡ 1 → IsWritten 1 image content c → Seen node nodes c (number + 1) place others
    written_first next w =
        let other = other_zeroth content c w.outside in
        let n1 = number_open 1 c w.gate ∙ number_new 1 w in
        let n0 = number_there 0 content c other in
        let lt : number_of 0 c < number_of 1 c = omega (arith, n0, n1, s.number_is) in
        record {
          head = take_nearer 16 48 c content (omega arith) w.outside.front ∙ s.head;
          first = right_there 0 content c other s.first;
          second = right_new 1 (sym next) w;
          number_is = omega (arith, n1, lt);
          start_is = sym (picks_second (number_of 0 c) (number_of 1 c) (start_in 0 c) (start_in 1 c) 80 lt ∙ start_new 1 w);
          long = from;
          log = subst (λ (l : List ℕ). IsLog [] l others) (sym (drop_further 65 place c content (omega (arith, from)) w.outside.back)) there;
        }

    pub written_makes : (area : ℕ) → area ≡ (number + 1) % 2 → IsWritten area image content c → Seen node nodes c (number + 1) place others
    written_makes area is w =
        ⊎_elim (λ even. written_zeroth even (subst (λ (a : ℕ). IsWritten a image content c) (is ∙ even) w)) (λ odd. written_first odd (subst (λ (a : ℕ). IsWritten a image content c) (is ∙ odd) w)) (parity (number + 1))

    pub one_or_other : (area : ℕ) → area ≡ (number + 1) % 2 → IsClosedOldOrWritten area image content c → IsLogOneOrOther node nodes bodies others c
    one_or_other area is left =
        ⊎_elim
        (λ old.
        inl (
          number,
          (start, ⊎_elim (λ same. subst (λ (l : List ℕ). IsLogAt node nodes l number start bodies) (sym same) (unseen node nodes content number start bodies s)) (λ shut. unseen node nodes c number start bodies (closed_keeps area is shut)) old),
        ))
        (λ w. inr (number + 1, (place, unseen node nodes c (number + 1) place others (written_makes area is w)))) left

-- The cut

take_beyond : (xs ys : List ℕ) (n : ℕ) → length xs ≤ n → take n (xs ++ ys) ≡ xs ++ take (n - length xs) ys
take_beyond [] ys n le = let e : n ≡ n - 0 = omega arith in ap (λ (k : ℕ). take k ys) e
take_beyond (x ∷ xs) ys zero le = absurd (omega arith)
take_beyond (x ∷ xs) ys (suc n) le = let e : suc n - length (x ∷ xs) ≡ n - length xs = omega arith in ap (λ (l : List ℕ). x ∷ l) (take_beyond xs ys n (omega (arith, le))) ∙ ap (λ (k : ℕ). x ∷ (xs ++ take k ys)) (sym e)

pub cut_behind : (node nodes number start n : ℕ) (content c : List ℕ) (bodies : List (List ℕ)) → IsLogAt node nodes content number start bodies → start + length (records bodies) < n → n ≤ length c → take (length c) content ≡ c → IsLogAt node nodes c number start bodies
cut_behind node nodes number start n content c bodies l lt le is =
    let front = l.before ++ records bodies in
    let long : length front ≡ start + length (records bodies) = omega (arith, length-append l.before (records bodies), l.start_is) in
    let k = length c - length front - 1 in
    let size : length c - length front ≡ suc k = omega (arith, long, lt, le) in
    record {
      before = l.before;
      lead = l.lead;
      number_is = l.number_is;
      start_is = l.start_is;
      log = record {
        gate = l.log.gate;
        tail = take k l.log.tail;
        closed = l.log.closed;
        sizes = l.log.sizes;
        bytes =
            sym is ∙ ap (λ (b : List ℕ). take (length c) b) l.log.bytes ∙ take_beyond front (l.log.gate ∷ l.log.tail) (length c) (omega (arith, long, lt, le))
            ∙ ap (λ (m : ℕ). front ++ take m (l.log.gate ∷ l.log.tail)) size;
      };
    }

pub cut_leaves : (node nodes number size : ℕ) (content c : List ℕ) (bodies : List (List ℕ)) → IsLogAt node nodes content number 80 bodies → size ≡ length (whole_log bodies) → 80 + size ≤ length content → Cut (80 + size) content c → IsLogAt node nodes c number 80 bodies
cut_leaves node nodes number size content c bodies l is within cut =
    cut_behind node nodes number 80 (80 + size) content c bodies l (omega (arith, is, length-append (records bodies) (0 ∷ []))) (omega (arith, within, cut.no_shorter)) cut.front

pub cut_done : (node nodes number size : ℕ) (content new : List ℕ) (bodies : List (List ℕ)) → IsLogAt node nodes content number 80 bodies → size ≡ length (whole_log bodies) → 80 + size ≤ length content → new ≡ take (80 + size) content → IsLogAt node nodes new number 80 bodies
cut_done node nodes number size content new bodies l is within done =
    let long : length new ≡ 80 + size = ap length done ∙ length-take-le (80 + size) content within in
    cut_behind node nodes number 80 (80 + size) content new bodies l (omega (arith, is, length-append (records bodies) (0 ∷ []))) (omega (arith, long)) (ap (λ (n : ℕ). take n content) long ∙ sym done)

pub either_stands : (node nodes : ℕ) (bodies others : List (List ℕ)) (c : List ℕ) → IsLogOneOrOther node nodes bodies others c → IsOneOrOther node nodes bodies others c
either_stands node nodes bodies others c (inl old) = inl (inr old)
either_stands node nodes bodies others c (inr new) = inr (inr new)

pub replacing : (node nodes number start gate size place : ℕ) (content piece : List ℕ) (bodies others : List (List ℕ)) → IsLogAt node nodes content number start bodies → gate ≡ start + length (records bodies) → piece ≡ whole_log others → HaveSizes others → place ≡ place_for start gate size → size ≡ length piece
    → IsReplacing node nodes content number bodies others piece place
replacing node nodes number start gate size place content piece bodies others log gate_is is sizes place_is size_is = record {
  start = start;
  log = log;
  piece_is = is;
  sizes = sizes;
  apart = placed_apart start gate (length piece) place (length (records bodies)) (place_is ∙ ap (λ (n : ℕ). place_for start gate n) size_is) gate_is;
}

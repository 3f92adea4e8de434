-- What the first bytes of a disk say of its log, and what keeps that.
use Rattle.std.proofs.Common.{◌≡◌, ◌≢◌, ◌<◌, ◌≤◌, ◌^◌, ◌%◌, inl, inr, ℕ, ◌+◌, List, [], ◌∷◌, ◌++◌, length, take, drop, max, if◌then◌else◌, ◌==◌, sym, ◌∙◌, ap, subst, arith, append_assoc, length-append, length-drop, take-append-drop}
use Rattle.std.proofs.lemmas.Bool.{cases_eq, cases_order}
use Rattle.std.proofs.lemmas.Bool.Decides.{nat_tests}
use Rattle.std.proofs.lemmas.List.{take-take, take-append-le, drop_at, length-take-le}
use Rattle.std.specs.Int.{w64, from_be_bytes}
use Rattle.mn_ckpt.specs.Area.{gate_of, image_of}
use Rattle.mn_ckpt.proofs.Areas.{take_nearer, gate_early, image_early}
use Rattle.mn_redo.specs.Grammar.{header, records, number_in, start_in, number_of, current_number, by_greater, beginning, IsRight, IsLead, IsLog, IsLogAt, behind_gate}
use Rattle.mn_redo.proofs.Parse.{records_push, length-behind_gate}

abbrev RightBy : ℕ → ℕ → List ℕ → Type 0
RightBy area gate image = gate ≡ 1 → (0 < from_be_bytes w64 (take 8 image)) × (from_be_bytes w64 (take 8 image) ≤ 2 ^ 63) × (from_be_bytes w64 (take 8 image) % 2 ≡ area)

abbrev number_by : ℕ → List ℕ → ℕ
number_by gate image = (if gate == 1 then from_be_bytes w64 (take 8 image) else 0)

-- an area of the bytes y says what it says in x
pub record SameArea (area : ℕ) (x y : List ℕ) : Type 0 where
  pub gate : gate_of area y ≡ gate_of area x
  pub image : image_of area y ≡ image_of area x

module _ (area : ℕ) (x y : List ℕ) (same : SameArea area x y) where
  pub right_there : IsRight area x → IsRight area y
  right_there right = subst (λ (im : List ℕ). RightBy area (gate_of area y) im) (sym same.image) (subst (λ (g : ℕ). RightBy area g (image_of area x)) (sym same.gate) right)

  pub number_there : number_of area y ≡ number_of area x
  number_there = ap (λ (g : ℕ). number_by g (image_of area y)) same.gate ∙ ap (λ (im : List ℕ). number_by (gate_of area x) im) same.image

  pub start_there : start_in area y ≡ start_in area x
  start_there = ap (λ (im : List ℕ). from_be_bytes w64 (drop 8 im)) same.image

pub same_area : (area : ℕ) (x y : List ℕ) → area ≤ 1 → take 80 y ≡ take 80 x → SameArea area x y
same_area area x y le e = record { gate = gate_early area 80 y x (omega (arith, le)) e; image = image_early area 80 y x (omega (arith, le)) e }

pub number_open : (area : ℕ) (x : List ℕ) → gate_of area x ≡ 1 → number_of area x ≡ number_in area x
number_open area x one = ap (λ (g : ℕ). number_by g (image_of area x)) one

pub number_closed : (area : ℕ) (x : List ℕ) → gate_of area x ≢ 1 → number_of area x ≡ 0
number_closed area x shut = grind (arith, nat_tests)

-- the number of an area that is right
pub number_parity : (area : ℕ) (x : List ℕ) → IsRight area x → 0 < number_of area x → number_of area x % 2 ≡ area
number_parity area x right some = elim (cases_eq (gate_of area x) 1) [
  | inl one ↦ ap (λ (n : ℕ). n % 2) (number_open area x one) ∙ (right one).2
  | inr shut ↦ absurd (omega (arith, some, number_closed area x shut))
]

pub number_small : (area : ℕ) (x : List ℕ) → IsRight area x → number_of area x ≤ 2 ^ 63
number_small area x right = elim (cases_eq (gate_of area x) 1) [
  | inl one ↦ omega (arith, number_open area x one, (right one).1)
  | inr shut ↦ omega (arith, number_closed area x shut)
]

pub picks_first : (n m x y z : ℕ) → m < n → by_greater n m x y z ≡ x
picks_first n m x y z lt = grind (arith, nat_tests)

pub picks_second : (n m x y z : ℕ) → n < m → by_greater n m x y z ≡ y
picks_second n m x y z lt = grind (arith, nat_tests)

pub picks_none : (n m x y z : ℕ) → n ≡ m → by_greater n m x y z ≡ z
picks_none n m x y z same = grind (arith, nat_tests)

pub same_pick : (n m x y n2 m2 x2 y2 z : ℕ) → n ≡ n2 → m ≡ m2 → x ≡ x2 → y ≡ y2 → by_greater n m x y z ≡ by_greater n2 m2 x2 y2 z
same_pick n m x y n2 m2 x2 y2 z e f g h =
    ap (λ (k : ℕ). by_greater k m x y z) e ∙ ap (λ (k : ℕ). by_greater n2 k x y z) f ∙ ap (λ (k : ℕ). by_greater n2 m2 k y z) g ∙ ap (λ (k : ℕ). by_greater n2 m2 x2 k z) h

module _ (x y : List ℕ) (zeroth : SameArea 0 x y) (first : SameArea 1 x y) where
  pub current_there : current_number y ≡ current_number x
  current_there = ap (λ (n : ℕ). max n (number_of 1 y)) (number_there 0 x y zeroth) ∙ ap (λ (n : ℕ). max (number_of 0 x) n) (number_there 1 x y first)

  pub beginning_there : beginning y ≡ beginning x
  beginning_there =
      same_pick (number_of 0 y) (number_of 1 y) (start_in 0 y) (start_in 1 y) (number_of 0 x) (number_of 1 x) (start_in 0 x) (start_in 1 x) 80 (number_there 0 x y zeroth) (number_there 1 x y first) (start_there 0 x y zeroth) (start_there 1 x y first)

-- what is chosen of two, where it is the same for what is open
pub chosen : (n m x y x2 y2 z : ℕ) → (0 < n → x ≡ x2) → (0 < m → y ≡ y2) → by_greater n m x y z ≡ by_greater n m x2 y2 z
chosen n m x y x2 y2 z f g = elim (cases_order n m) [
  | inl same ↦ picks_none n m x y z same ∙ sym (picks_none n m x2 y2 z same)
  | inr (inl less) ↦ picks_second n m x y z less ∙ g (omega (arith, less)) ∙ sym (picks_second n m x2 y2 z less)
  | inr (inr more) ↦ picks_first n m x y z more ∙ f (omega (arith, more)) ∙ sym (picks_first n m x2 y2 z more)
]

-- a front as long as its areas say
module _ (node nodes : ℕ) (content : List ℕ) (start : ℕ) (within : start < length content) (long : 80 ≤ start) where
  shown : take 80 (take start content) ≡ take 80 content
  shown = take-take 80 start content long

  pub lead_of : take 16 content ≡ header node nodes → IsRight 0 content → IsRight 1 content → beginning content ≡ start → IsLead node nodes (take start content)
  lead_of head first second is =
      let size : length (take start content) ≡ start = length-take-le start content (omega (arith, within)) in
      let zeroth = same_area 0 content (take start content) (omega arith) shown in
      let one = same_area 1 content (take start content) (omega arith) shown in
      record {
        head = take-take 16 start content (omega (arith, long)) ∙ head;
        first = right_there 0 content (take start content) zeroth first;
        second = right_there 1 content (take start content) one second;
        long = omega (arith, size, long);
        begins = beginning_there content (take start content) zeroth one ∙ is ∙ sym size;
      }

  pub number_of_front : current_number (take start content) ≡ current_number content
  number_of_front = current_there content (take start content) (same_area 0 content (take start content) (omega arith) shown) (same_area 1 content (take start content) (omega arith) shown)

-- the same facts as in IsLogAt, of the content itself
pub record Seen (node nodes : ℕ) (content : List ℕ) (number start : ℕ) (bodies : List (List ℕ)) : Type 0 where
  pub head : take 16 content ≡ header node nodes
  pub first : IsRight 0 content
  pub second : IsRight 1 content
  pub number_is : number ≡ current_number content
  pub start_is : start ≡ beginning content
  pub long : 80 ≤ start
  pub log : IsLog [] (drop start content) bodies

module _ (node nodes : ℕ) (content : List ℕ) (number start : ℕ) (bodies : List (List ℕ)) where
  pub seen : IsLogAt node nodes content number start bodies → Seen node nodes content number start bodies
  seen l =
      let split = l.log.bytes ∙ append_assoc l.before (records bodies) (l.log.gate ∷ l.log.tail) in
      let early : take 80 content ≡ take 80 l.before = ap (λ (b : List ℕ). take 80 b) split ∙ take-append-le 80 l.before (records bodies ++ l.log.gate ∷ l.log.tail) l.lead.long in
      let zeroth = same_area 0 l.before content (omega arith) early in
      let one = same_area 1 l.before content (omega arith) early in
      record {
        head = take_nearer 16 80 content l.before (omega arith) early ∙ l.lead.head;
        first = right_there 0 l.before content zeroth l.lead.first;
        second = right_there 1 l.before content one l.lead.second;
        number_is = l.number_is ∙ sym (current_there l.before content zeroth one);
        start_is = l.start_is ∙ sym l.lead.begins ∙ sym (beginning_there l.before content zeroth one);
        long = omega (arith, l.start_is, l.lead.long);
        log = record {
          gate = l.log.gate;
          tail = l.log.tail;
          closed = l.log.closed;
          sizes = l.log.sizes;
          bytes = ap (λ (b : List ℕ). drop start b) split ∙ drop_at l.before (records bodies ++ l.log.gate ∷ l.log.tail) start (sym l.start_is);
        };
      }

  pub seen_within : Seen node nodes content number start bodies → start + length (records bodies) < length content
  seen_within s = omega (arith, ap length s.log.bytes, length-drop start content, length-append (records bodies) (s.log.gate ∷ s.log.tail))

  pub unseen : Seen node nodes content number start bodies → IsLogAt node nodes content number start bodies
  unseen s =
      let before = take start content in
      let size : length before ≡ start = length-take-le start content (omega (arith, seen_within s)) in
      let early : take 80 before ≡ take 80 content = take-take 80 start content s.long in
      let zeroth = same_area 0 content before (omega arith) early in
      let one = same_area 1 content before (omega arith) early in
      record {
        before = before;
        lead = record {
          head = take-take 16 start content (omega (arith, s.long)) ∙ s.head;
          first = right_there 0 content before zeroth s.first;
          second = right_there 1 content before one s.second;
          long = omega (arith, size, s.long);
          begins = beginning_there content before zeroth one ∙ sym s.start_is ∙ sym size;
        };
        log = record {
          gate = s.log.gate;
          tail = s.log.tail;
          closed = s.log.closed;
          sizes = s.log.sizes;
          bytes = sym (take-append-drop start content) ∙ ap (λ (l : List ℕ). before ++ l) s.log.bytes ∙ sym (append_assoc before (records bodies) (s.log.gate ∷ s.log.tail));
        };
        number_is = s.number_is ∙ sym (current_there content before zeroth one);
        start_is = sym size;
      }

  -- where the first 80 bytes and the log stay
  pub stays : (c : List ℕ) → Seen node nodes content number start bodies → take 80 c ≡ take 80 content → drop start c ≡ drop start content → Seen node nodes c number start bodies
  stays c s early late =
      let zeroth = same_area 0 content c (omega arith) early in
      let one = same_area 1 content c (omega arith) early in
      record {
        head = take_nearer 16 80 c content (omega arith) early ∙ s.head;
        first = right_there 0 content c zeroth s.first;
        second = right_there 1 content c one s.second;
        number_is = s.number_is ∙ sym (current_there content c zeroth one);
        start_is = s.start_is ∙ sym (beginning_there content c zeroth one);
        long = s.long;
        log = subst (λ (l : List ℕ). IsLog [] l bodies) (sym late) s.log;
      }

-- the place of a gate behind a log's records
pub place_of : (node nodes : ℕ) (content : List ℕ) (number start : ℕ) (bodies : List (List ℕ)) → (l : IsLogAt node nodes content number start bodies) → (gate : ℕ) → gate ≡ start + length (records bodies) → gate ≡ length l.before + length (records bodies)
place_of node nodes content number start bodies l gate is = is ∙ ap (λ (n : ℕ). n + length (records bodies)) l.start_is

-- one record more behind the same bytes
pub logged : {node nodes : ℕ} {content : List ℕ} {number start : ℕ} {bodies : List (List ℕ)} → (l : IsLogAt node nodes content number start bodies) → {c : List ℕ} → (others : List (List ℕ)) → IsLog l.before c others → IsLogAt node nodes c number start others
logged l others log = record { before = l.before; lead = l.lead; log = log; number_is = l.number_is; start_is = l.start_is }

pub gate_more : (start : ℕ) (bodies : List (List ℕ)) (body : List ℕ) (gate : ℕ) → gate ≡ start + length (records bodies) → gate + (5 + length body) ≡ start + length (records (bodies ++ body ∷ []))
gate_more start bodies body gate is = omega (arith, is, ap length (records_push bodies body), length-append (records bodies) (1 ∷ behind_gate body), length-behind_gate body)

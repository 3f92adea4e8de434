-- What begins a page is what goes on field by field.
use Rattle.std.proofs.Common.{◌≡◌, ℕ, ◌+◌, ◌-◌, ◌/◌, ◌<◌, ◌≤◌, Bool, true, false, List, [], ◌∷◌, ◌++◌, length, min, take, replicate, refl, sym, ap, ◌∙◌, subst, arith, append_assoc, length-append}
use Rattle.std.specs.Prelude.{nat_eq, ◌↔◌, IsTrue}
use Rattle.mn_page.specs.declared.page.Page.{Page}
use Rattle.mn_page.specs.declared.page_ref.Head.{Head}
use Rattle.mn_page.specs.Grammar.{IsPage, counted, high_bytes}
use Rattle.std.proofs.lemmas.List.{length-take-le}
use Rattle.mn_base.proofs.Booleans.{left_true, right_true}
use Rattle.mn_page.specs.Fronts.{BeginsPage, IsLongest}
use Rattle.mn_page.proofs.PageFronts.{some_page}
use Rattle.mn_page.specs.Reading.{AreFences, IsHead, body_text, eight, fences_text, head_of, head_text, height_text, page_seen, page_text, versions_text}
use Rattle.mn_page.specs.PageFronts.{AreZeros, Decides, FromSeq}
use Rattle.mn_page.proofs.KeyRoom.{at_most_le}
use Rattle.mn_page.proofs.PageText.{are_zeros, page_fences, page_head, page_is, page_padded, page_spelled, text_parts, whole_front}
use Rattle.mn_page.proofs.Spelled.{page_length}
use Rattle.mn_page.proofs.FrontBodies.{body_in, body_out, room_below, is_flat}

-- a page goes on field by field
page_out : (p : Page) (zs : List ℕ) → IsPage p → AreZeros zs → FromSeq (page_text p ++ zs)
page_out p zs is zeros =
    let h = head_of p in
    let head = page_head p is in
    let fences = page_fences p is in
    let body = body_out p.low p.high p.body zs is.body is.fences zeros in
    let r5 = body_text p.body ++ zs in
    let r4 = high_bytes p.high ++ r5 in
    let r3 = counted p.low ++ r4 in
    let v = versions_text (h.made.0, h.copied) in
    let r2 = v ++ r3 in
    record {
      value = p.seq;
      rest = height_text h.height ++ r2;
      may = head.seq;
      spelled = text_parts (head_text h) (fences_text (p.low, p.high)) (body_text p.body) zs
          ∙ (ap (λ (l : List ℕ). head_text h ++ l) (append_assoc (counted p.low) (high_bytes p.high) (body_text p.body ++ zs)) ∙ text_parts (eight p.seq) (height_text h.height) v (counted p.low ++ (high_bytes p.high ++ (body_text p.body ++ zs))));
      follows = record {
        value = h.height;
        rest = r2;
        may = head.height;
        spelled = refl;
        follows = record {
          value = (h.made.0, h.copied);
          rest = r3;
          may = head.versions;
          spelled = refl;
          follows = record {
            value = p.low;
            rest = r4;
            may = (fences.0, at_most_le [] p.low tt, body.open_room);
            spelled = refl;
            follows = record { value = p.high; rest = r5; may = (fences.1, body.room); spelled = refl; follows = body.follows };
          };
        };
      };
    }

record PageIn (text : List ℕ) : Type 0 where
  pub page : Page
  pub zeros : List ℕ
  pub is : IsPage page
  pub spelled : text ≡ page_text page ++ zeros
  pub are : AreZeros zeros

-- what goes on field by field is a page
page_in : (text : List ℕ) → FromSeq text → PageIn text
page_in text f =
    let height = f.follows in
    let v = height.follows in
    let low = v.follows in
    let high = low.follows in
    let body = body_in (nat_eq height.value 0) height.value low.value high.value high.rest refl height.may high.follows in
    let head : Head = record { seq = f.value; height = height.value; made = record { 0 = (v.value).0 }; copied = (v.value).1 } in
    let is_head : IsHead head = record { seq = f.may; height = height.may; versions = v.may } in
    let fences : AreFences (low.value, high.value) = ((low.may).0, (high.may).0, room_below _ low.value high.value (high.may).1) in
    let one : text ≡ head_text head ++ v.rest =
    f.spelled ∙ (ap (λ (l : List ℕ). eight f.value ++ l) (height.spelled ∙ ap (λ (l : List ℕ). height_text height.value ++ l) v.spelled)
    ∙ sym (text_parts (eight f.value) (height_text height.value) (versions_text v.value) v.rest)) in
    let two : v.rest ≡ fences_text (low.value, high.value) ++ high.rest =
    low.spelled ∙ (ap (λ (l : List ℕ). counted low.value ++ l) high.spelled ∙ sym (append_assoc (counted low.value) (high_bytes high.value) high.rest)) in
    record {
      page = page_seen head low.value high.value body.body;
      zeros = body.zeros;
      is = page_is head low.value high.value body.body is_head fences body.is;
      spelled = page_spelled head low.value high.value body.body text v.rest high.rest body.zeros (body.is).0 one two body.spelled;
      are = body.are;
    }

-- Zeros of another number

zeros_front : (front rest zs other : List ℕ) → front ++ rest ≡ zs → AreZeros zs → AreZeros other → length front ≤ length other → (r : List ℕ) × (front ++ r ≡ other)
zeros_front [] rest zs other e all same l = (other, refl)
zeros_front (b ∷ front) rest zs [] e all same l = absurd (omega arith)
zeros_front (b ∷ front) rest zs (c ∷ other) e all same l =
    let here : AreZeros (b ∷ (front ++ rest)) = subst (λ (x : List ℕ). AreZeros x) (sym e) all in
    let first : b ≡ c = is_flat b (left_true (nat_eq b 0) _ here) ∙ sym (is_flat c (left_true (nat_eq c 0) _ same)) in
    let more = zeros_front front rest (front ++ rest) other refl (right_true (nat_eq b 0) _ here) (right_true (nat_eq c 0) _ same) (omega arith) in
    (more.0, ap (λ (n : ℕ). n ∷ (front ++ more.0)) first ∙ ap (λ (x : List ℕ). c ∷ x) more.1)

other_zeros : (text front rest zs other : List ℕ) → front ++ rest ≡ text ++ zs → AreZeros zs → AreZeros other → length front ≤ length text + length other → (r : List ℕ) × (front ++ r ≡ text ++ other)
other_zeros [] front rest zs other e all same l = zeros_front front rest zs other e all same (omega (arith, l))
other_zeros (a ∷ text) [] rest zs other e all same l = (a ∷ (text ++ other), refl)
other_zeros (a ∷ text) (b ∷ front) rest zs other e all same l =
    let head : b ≡ a = cc in
    let tail : front ++ rest ≡ text ++ zs = cc in
    let more = other_zeros text front rest zs other tail all same (omega (arith, l)) in
    (more.0, ap (λ (n : ℕ). n ∷ (front ++ more.0)) head ∙ ap (λ (x : List ℕ). a ∷ x) more.1)

-- Fronts

-- what begins a page goes on field by field
pub page_goes : (front : List ℕ) → BeginsPage front → (tail : List ℕ) × FromSeq (front ++ tail)
page_goes front b =
    let p = b.1 in
    (b.0, subst (λ (l : List ℕ). FromSeq l) (sym (whole_front (front ++ b.0) p b.2)) (page_out p (replicate (1024 - length (page_text p)) 0) (b.2).0 (are_zeros (1024 - length (page_text p)))))

-- and what goes on so, and isn't too long, begins a page
pub goes_page : (front tail : List ℕ) → length front ≤ 1024 → FromSeq (front ++ tail) → BeginsPage front
goes_page front tail l f =
    let found = page_in (front ++ tail) f in
    let p = found.page in
    let zeros : List ℕ = replicate (1024 - length (page_text p)) 0 in
    let whole = page_padded p found.is in
    let long = ap (λ (x : List ℕ). length x) whole ∙ length-append (page_text p) zeros in
    let full = page_length p found.is in
    let more = other_zeros (page_text p) front tail found.zeros zeros found.spelled found.are (are_zeros (1024 - length (page_text p))) (omega (arith, long, full, l)) in
    (more.0, p, (found.is, more.1 ∙ sym whole))

pub page_short : (front : List ℕ) → BeginsPage front → length front ≤ 1024
page_short front b =
    let both = length-append front b.0 in
    let whole = ap (λ (x : List ℕ). length x) (b.2).1 in
    let full = page_length b.1 (b.2).0 in
    omega (arith, both, whole, full)

-- what is decided of the fields is decided of the page
pub decided : (front : List ℕ) (goes : Bool) → length front ≤ 1024 → Decides FromSeq front goes → IsTrue goes ↔ BeginsPage front
decided front true l d = (λ yes. goes_page front d.0 l d.1, λ b. refl)
decided front false l d = (λ e. absurd cc, λ b. let more = page_goes front b in absurd (d more.0 more.1))

pub none_begins : BeginsPage []
none_begins = goes_page [] some_page.0 (omega arith) some_page.1

pub past_slot : (n : ℕ) (bytes : List ℕ) → n ≤ length bytes → 1024 < n → BeginsPage (take n bytes) → ⊥
past_slot n bytes in' more b = let short = page_short (take n bytes) b in let long = length-take-le n bytes in' in omega (arith, short, long, more)

-- between a front and one longer front that is none
pub record Between (bytes : List ℕ) (here past : ℕ) : Type 0 where
  pub order : here < past
  pub top : past ≤ 1025
  pub inside : here ≤ length bytes
  pub begins : BeginsPage (take here bytes)
  pub lacks : past ≤ length bytes → BeginsPage (take past bytes) → ⊥

pub between_all : (bytes : List ℕ) (n : ℕ) → n ≡ min (length bytes) 1024 → Between bytes 0 (n + 1)
between_all bytes n e = record {
  order = omega arith;
  top = omega (arith, e);
  inside = omega arith;
  begins = none_begins;
  lacks = λ in' b. past_slot (n + 1) bytes in' (omega (arith, e, in')) b;
}

pub between_found : (bytes : List ℕ) (here past : ℕ) → Between bytes here past → past - here ≤ 1 → IsLongest BeginsPage bytes here
between_found bytes here past b close = record {
  within = b.inside;
  here = b.begins;
  further = λ less f. let order = b.order in let next : past ≡ here + 1 = omega (arith, order, close) in b.lacks (omega (arith, next, less)) (subst (λ (n : ℕ). BeginsPage (take n bytes)) (sym next) f);
}

-- a place in the middle, within the bytes
pub middle_of : (bytes : List ℕ) (here past : ℕ) → Between bytes here past → past ≤ length bytes + 1 → 1 < past - here → (here < here + (past - here) / 2) × (here + (past - here) / 2 < past) × (here + (past - here) / 2 ≤ length bytes)
middle_of bytes here past b end far = let order = b.order in (omega (arith, order, far), omega (arith, order, far), omega (arith, order, far, end))

pub between_up : (bytes : List ℕ) (here past middle : ℕ) → Between bytes here past → middle < past → middle ≤ length bytes → BeginsPage (take middle bytes) → Between bytes middle past
between_up bytes here past middle b less in' begins = record { order = less; top = b.top; inside = in'; begins = begins; lacks = b.lacks }

pub between_down : (bytes : List ℕ) (here past middle : ℕ) → Between bytes here past → here < middle → middle < past → (BeginsPage (take middle bytes) → ⊥) → Between bytes here middle
between_down bytes here past middle b more less lacks = record { order = more; top = let top = b.top in omega (arith, top, less); inside = b.inside; begins = b.begins; lacks = λ in'. lacks }

-- What the writes to an area leave, done or torn.
use Rattle.std.proofs.Common.{◌≡◌, ◌≤◌, ◌<◌, inl, inr, ℕ, ◌+◌, ◌-◌, List, [], ◌∷◌, ◌++◌, length, take, drop, get_or, sym, ◌∙◌, ap, subst, arith, append_assoc, length-append, length-drop, length-take, take-append-drop}
use Rattle.std.proofs.lemmas.Bool.{cases_eq}
use Rattle.std.proofs.lemmas.List.{take_at, drop_at, drop_more, drop-drop, take-take, take_all, drop-take, get_or-take, get_or-drop, get_or_at, length-take-le}
use Rattle.mn_io.specs.DiskModel.{Torn, written_at}
use Rattle.mn_ckpt.specs.Area.{gate_place, gate_of, image_of, SameOutside, IsClosed, IsWritten, IsClosedOrOld, IsClosedOldOrWritten}

pub take_nearer : (a b : ℕ) (l k : List ℕ) → a ≤ b → take b l ≡ take b k → take a l ≡ take a k
take_nearer a b l k le e = sym (take-take a b l le) ∙ ap (λ (x : List ℕ). take a x) e ∙ take-take a b k le

pub drop_further : (a b : ℕ) (l k : List ℕ) → a ≤ b → drop a l ≡ drop a k → drop b l ≡ drop b k
drop_further a b l k le e =
    let is : b ≡ a + (b - a) = omega (arith, le) in
    ap (λ (n : ℕ). drop n l) is ∙ sym (drop-drop (b - a) a l) ∙ ap (λ (x : List ℕ). drop (b - a) x) e ∙ drop-drop (b - a) a k ∙ ap (λ (n : ℕ). drop n k) (sym is)

-- areas of bytes that begin, or end, with the same
pub gate_early : (area k : ℕ) (x y : List ℕ) → gate_place area < k → take k x ≡ take k y → gate_of area x ≡ gate_of area y
gate_early area k x y lt e = sym (get_or-take k x (gate_place area) 0 lt) ∙ ap (λ (l : List ℕ). get_or l (gate_place area) 0) e ∙ get_or-take k y (gate_place area) 0 lt

pub image_early : (area k : ℕ) (x y : List ℕ) → gate_place area + 17 ≤ k → take k x ≡ take k y → image_of area x ≡ image_of area y
image_early area k x y le e =
    let m = gate_place area + 1 in
    sym (drop-take m 16 x) ∙ ap (λ (l : List ℕ). drop m l) (take_nearer (m + 16) k x y (omega (arith, le)) e) ∙ drop-take m 16 y

pub gate_late : (area k : ℕ) (x y : List ℕ) → k ≤ gate_place area → drop k x ≡ drop k y → gate_of area x ≡ gate_of area y
gate_late area k x y le e =
    let i = gate_place area - k in
    let is : k + i ≡ gate_place area = omega (arith, le) in
    ap (λ (n : ℕ). get_or x n 0) (sym is) ∙ sym (get_or-drop k x i 0) ∙ ap (λ (l : List ℕ). get_or l i 0) e ∙ get_or-drop k y i 0 ∙ ap (λ (n : ℕ). get_or y n 0) is

pub image_late : (area k : ℕ) (x y : List ℕ) → k ≤ gate_place area → drop k x ≡ drop k y → image_of area x ≡ image_of area y
image_late area k x y le e = ap (λ (l : List ℕ). take 16 l) (drop_further k (gate_place area + 1) x y (omega (arith, le)) e)

-- what a read of so many bytes gives, where there are as many
pub all_read : (n k : ℕ) (into content : List ℕ) → length into ≡ k → n ≤ k → k ≤ length content → take n into ≡ take (length into) (drop 0 content) → into ≡ take k content
all_read n k into content size le long is =
    let there : take n into ≡ take k content = is ∙ ap (λ (m : ℕ). take m content) size in
    let most : k ≤ n = omega (arith, ap length there, length-take n into, length-take k content, long, size) in
    sym (take_all n into (omega (arith, size, most))) ∙ there

-- a write that is done is one of those that a crash may leave
pub torn_written : (at : ℕ) (piece content : List ℕ) → at ≤ length content → Torn at (length piece) content (written_at content at piece)
torn_written at piece content le =
    let front = length-take-le at content le in
    let long : length (written_at content at piece) ≡ at + (length piece + (length content - (at + length piece))) =
    omega (arith, length-append (take at content) (piece ++ drop (at + length piece) content), length-append piece (drop (at + length piece) content), length-drop (at + length piece) content, front) in
    record {
      before = take_at (take at content) (piece ++ drop (at + length piece) content) at front;
      after =
          ap (λ (l : List ℕ). drop (at + length piece) l) (sym (append_assoc (take at content) piece (drop (at + length piece) content)))
          ∙ drop_at (take at content ++ piece) (drop (at + length piece) content) (at + length piece) (omega (arith, front, length-append (take at content) piece));
      no_shorter = omega (arith, long);
      no_longer = omega (arith, long);
    }

pub outside_trans : (area : ℕ) (a b c : List ℕ) → SameOutside area a b → SameOutside area b c → SameOutside area a c
outside_trans area a b c one two = record { front = two.front ∙ one.front; back = two.back ∙ one.back; size = two.size ∙ one.size }

-- a write that lies in the gate and the image
pub torn_outside : (area at n : ℕ) (content c : List ℕ) → gate_place area ≤ at → at + n ≤ gate_place area + 17 → at + n ≤ length content → Torn at n content c → SameOutside area content c
torn_outside area at n content c from to within torn = record {
  front = take_nearer (gate_place area) at c content from torn.before;
  back = drop_further (at + n) (gate_place area + 17) c content to torn.after;
  size = omega (arith, torn.no_shorter, torn.no_longer, within);
}

-- a write behind the gate leaves the gate
pub gate_stays : (area n : ℕ) (content c : List ℕ) → Torn (gate_place area + 1) n content c → gate_of area c ≡ gate_of area content
gate_stays area n content c torn =
    let g = gate_place area in
    let lt : g < g + 1 = omega arith in
    sym (get_or-take (g + 1) c g 0 lt) ∙ ap (λ (l : List ℕ). get_or l g 0) torn.before ∙ get_or-take (g + 1) content g 0 lt

-- a write over the gate leaves the image
pub image_stays : (area : ℕ) (content c : List ℕ) → Torn (gate_place area) 1 content c → image_of area c ≡ image_of area content
image_stays area content c torn = ap (λ (l : List ℕ). take 16 l) torn.after

-- a write over an open gate that leaves it open leaves all bytes
pub all_stays : (area : ℕ) (content c : List ℕ) → gate_place area < length content → Torn (gate_place area) 1 content c → gate_of area content ≡ 1 → gate_of area c ≡ 1 → c ≡ content
all_stays area content c within torn was is =
    let g = gate_place area in
    sym (take-append-drop g c) ∙ ap (λ (l : List ℕ). l ++ drop g c) torn.before
    ∙ ap (λ (l : List ℕ). take g content ++ l) (drop_more c g 0 (omega (arith, within, torn.no_shorter)) ∙ ap (λ (x : ℕ). x ∷ drop (g + 1) c) is ∙ ap (λ (l : List ℕ). 1 ∷ l) torn.after ∙ ap (λ (x : ℕ). x ∷ drop (g + 1) content) (sym was) ∙ sym (drop_more content g 0 within))
    ∙ take-append-drop g content

pub gate_written : (area x : ℕ) (content : List ℕ) → gate_place area ≤ length content → gate_of area (written_at content (gate_place area) (x ∷ [])) ≡ x
gate_written area x content within = get_or_at (take (gate_place area) content) x (drop (gate_place area + 1) content) 0 (gate_place area) (length-take-le (gate_place area) content within)

pub image_written : (area : ℕ) (image content : List ℕ) → length image ≡ 16 → gate_place area + 1 ≤ length content → image_of area (written_at content (gate_place area + 1) image) ≡ image
image_written area image content size within =
    let m = gate_place area + 1 in
    ap (λ (l : List ℕ). take 16 l) (drop_at (take m content) (image ++ drop (m + length image) content) m (length-take-le m content within)) ∙ take_at image (drop (m + length image) content) 16 size

-- what was read of a gate
pub gate_read : (n at : ℕ) (into content : List ℕ) → length into ≡ 1 → at < length content → take n into ≡ take (length into) (drop at content) → get_or into 0 0 ≡ get_or content at 0
gate_read n at into content one within is =
    let first : take (length into) (drop at content) ≡ get_or content at 0 ∷ [] = ap (λ (k : ℕ). take k (drop at content)) one ∙ ap (λ (l : List ℕ). take 1 l) (drop_more content at 0 within) in
    let some : 0 < n = omega (arith, ap length (is ∙ first), length-take n into) in
    sym (get_or-take n into 0 0 some) ∙ ap (λ (l : List ℕ). get_or l 0 0) (is ∙ first)

module _ (area : ℕ) (le : area ≤ 1) where
  -- closing an open gate
  pub closing : (content c : List ℕ) → 80 ≤ length content → gate_of area content ≡ 1 → Torn (gate_place area) 1 content c → IsClosedOrOld area content c
  closing content c long was torn = elim (cases_eq (gate_of area c) 1) [
    | inl one ↦ inl (all_stays area content c (omega (arith, le, long)) torn was one)
    | inr other ↦ inr (record { outside = torn_outside area (gate_place area) 1 content c (omega arith) (omega arith) (omega (arith, le, long)) torn; gate = other })
  ]

  pub closed : (content new : List ℕ) → 80 ≤ length content → new ≡ written_at content (gate_place area) (0 ∷ []) → IsClosed area content new
  closed content new long is =
      let within : gate_place area ≤ length content = omega (arith, le, long) in
      record {
        outside = subst (λ (l : List ℕ). SameOutside area content l) (sym is)
            (torn_outside area (gate_place area) 1 content _ (omega arith) (omega arith) (omega (arith, le, long)) (torn_written (gate_place area) (0 ∷ []) content within));
        gate = λ one. absurd (omega (arith, one, ap (λ (l : List ℕ). gate_of area l) is, gate_written area 0 content within));
      }

  -- writing the image of a closed area
  pub imaging : (old content c : List ℕ) → 80 ≤ length content → IsClosed area old content → Torn (gate_place area + 1) 16 content c → IsClosed area old c
  imaging old content c long was torn = record {
    outside = outside_trans area old content c was.outside (torn_outside area (gate_place area + 1) 16 content c (omega arith) (omega arith) (omega (arith, le, long)) torn);
    gate = λ one. was.gate (sym (gate_stays area 16 content c torn) ∙ one);
  }

  pub imaged : (old content new image : List ℕ) → 80 ≤ length content → length image ≡ 16 → IsClosed area old content → new ≡ written_at content (gate_place area + 1) image → IsClosed area old new × (image_of area new ≡ image)
  imaged old content new image long size was is =
      let within : gate_place area + 1 ≤ length content = omega (arith, le, long) in
      let torn = subst (λ (n : ℕ). Torn (gate_place area + 1) n content new) size (subst (λ (l : List ℕ). Torn (gate_place area + 1) (length image) content l) (sym is) (torn_written (gate_place area + 1) image content within)) in
      (imaging old content new long was torn, ap (λ (l : List ℕ). image_of area l) is ∙ image_written area image content size within)

  -- opening its gate
  pub opening : (old content c image : List ℕ) → 80 ≤ length content → IsClosed area old content → image_of area content ≡ image → Torn (gate_place area) 1 content c → IsClosedOldOrWritten area image old c
  opening old content c image long was there torn =
      let outside = outside_trans area old content c was.outside (torn_outside area (gate_place area) 1 content c (omega arith) (omega arith) (omega (arith, le, long)) torn) in
      elim (cases_eq (gate_of area c) 1) [
        | inl one ↦ inr (record { outside = outside; gate = one; image_is = image_stays area content c torn ∙ there })
        | inr other ↦ inl (inr (record { outside = outside; gate = other }))
      ]

  pub opened : (old content new image : List ℕ) → 80 ≤ length content → IsClosed area old content → image_of area content ≡ image → new ≡ written_at content (gate_place area) (1 ∷ []) → IsWritten area image old new
  opened old content new image long was there is =
      let within : gate_place area ≤ length content = omega (arith, le, long) in
      let torn = subst (λ (l : List ℕ). Torn (gate_place area) 1 content l) (sym is) (torn_written (gate_place area) (1 ∷ []) content within) in
      record {
        outside = outside_trans area old content new was.outside (torn_outside area (gate_place area) 1 content new (omega arith) (omega arith) (omega (arith, le, long)) torn);
        gate = ap (λ (l : List ℕ). gate_of area l) is ∙ gate_written area 1 content within;
        image_is = image_stays area content new torn ∙ there;
      }

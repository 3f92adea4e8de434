-- The least key above another, the least one of a size that begins so, and the room that they
-- leave.
use Rattle.std.proofs.Common.{◌≡◌, ℕ, zero, suc, ◌+◌, ◌-◌, ◌<◌, ◌≤◌, Bool, true, false, not, List, [], ◌∷◌, ◌++◌, inl, inr, length, take, replicate, refl, sym, ap, ◌∙◌, subst, arith, add-one, length-append, if◌then◌else◌}
use Rattle.std.specs.Prelude.{nat_lt, Option, Some, None, MatchOption, option_map}
use Rattle.std.specs.List.{list_all}
use Rattle.std.proofs.lemmas.Bool.Decides.{nat_tests}
use Rattle.mn_base.specs.Order.{key_le, key_lt}
use Rattle.mn_base.proofs.Booleans.{both_true, left_true, right_true}
use Rattle.mn_page.specs.KeyRoom.{HasNoneFrom, HasRoomForKeys, IsKeyFrom, IsLast, IsLeastFrom, IsNext, LeavesRoom, raised, raised_on}
use Rattle.mn_page.proofs.KeyOrder.{Below, AtMost, below_lt, lt_below, not_lt_at_most, at_most_not_lt, at_most_below, at_most_all, below_is_at_most, zero_above, zero_least, raised_is, raised_least, filled_least, front_at_most, between}
use Rattle.mn_page.proofs.Scanned.{all_take}
use Rattle.std.proofs.lemmas.List.{length-take-le, length-replicate}

-- the last byte alone decides, unless it is 255
pub raised_more : (bs : List ℕ) (b : ℕ) → raised (bs ++ b ∷ []) ≡ (if nat_lt b 255 then Some (bs ++ suc b ∷ []) else raised bs)
raised_more [] b = refl
raised_more (c ∷ bs) b = ap (raised_on c) (raised_more bs b) ∙ into (nat_lt b 255)
  where
    into : (t : Bool) → raised_on c (if t then Some (bs ++ suc b ∷ []) else raised bs) ≡ (if t then Some (c ∷ (bs ++ suc b ∷ [])) else raised_on c (raised bs))
    into true = refl
    into false = refl

pub raised_here : (bs : List ℕ) (b : ℕ) → b < 255 → raised (bs ++ b ∷ []) ≡ Some (bs ++ (b + 1) ∷ [])
raised_here bs b h = raised_more bs b ∙ ap (λ (t : Bool). if t then Some (bs ++ suc b ∷ []) else raised bs) (less b h) ∙ ap (λ (n : ℕ). Some (bs ++ n ∷ [])) (sym (add-one b))
  where
    less : (n : ℕ) → n < 255 → nat_lt n 255 ≡ true
    less n h = grind (arith, nat_tests)

pub raised_past : (bs : List ℕ) (b : ℕ) → 255 ≤ b → raised (bs ++ b ∷ []) ≡ raised bs
raised_past bs b h = raised_more bs b ∙ ap (λ (t : Bool). if t then Some (bs ++ suc b ∷ []) else raised bs) (more b h)
  where
    more : (n : ℕ) → 255 ≤ n → nat_lt n 255 ≡ false
    more n h = grind (arith, nat_tests)

small_more : (bs : List ℕ) (b : ℕ) → list_all (λ x. nat_lt x 256) bs ≡ true → nat_lt b 256 ≡ true → list_all (λ x. nat_lt x 256) (bs ++ b ∷ []) ≡ true
small_more [] b s t = both_true (nat_lt b 256) true t refl
small_more (c ∷ bs) b s t = both_true (nat_lt c 256) _ (left_true (nat_lt c 256) _ s) (small_more bs b (right_true (nat_lt c 256) _ s) t)

-- with one more zero, where there is room for it
pub next_short : (bs : List ℕ) → list_all (λ x. nat_lt x 256) bs ≡ true → length bs < 32 → IsNext bs (bs ++ 0 ∷ [])
next_short bs s h =
    let long = length-append bs (0 ∷ []) in
    record {
      key = (omega arith, omega arith, small_more bs 0 s refl);
      above = below_lt bs (bs ++ 0 ∷ []) (zero_above bs);
      least = λ k is up. at_most_not_lt (bs ++ 0 ∷ []) k (zero_least bs k (lt_below bs k up));
    }

raised_small : (bs r : List ℕ) → list_all (λ x. nat_lt x 256) bs ≡ true → raised bs ≡ Some r → list_all (λ x. nat_lt x 256) r ≡ true
raised_small [] r s e = absurd cc
raised_small (b ∷ bs) r s e = by_rest (λ t f. raised_small bs t (right_true (nat_lt b 256) _ s) f) (raised bs) refl e
  where
    one_higher : (t : Bool) → nat_lt b 255 ≡ t → (if t then Some (suc b ∷ []) else None) ≡ Some r → list_all (λ x. nat_lt x 256) r ≡ true
    one_higher true f g = let same : suc b ∷ [] ≡ r = cc in subst (λ (l : List ℕ). list_all (λ x. nat_lt x 256) l ≡ true) same (both_true (nat_lt (suc b) 256) true (more b f) refl)
      where
        more : (n : ℕ) → nat_lt n 255 ≡ true → nat_lt (suc n) 256 ≡ true
        more n e = grind (arith, nat_tests)
    one_higher false f g = absurd cc

    by_rest : ((t : List ℕ) → raised bs ≡ Some t → list_all (λ x. nat_lt x 256) t ≡ true) → (o : Option (List ℕ)) → raised bs ≡ o → raised_on b o ≡ Some r → list_all (λ x. nat_lt x 256) r ≡ true
    by_rest deep None f g = one_higher (nat_lt b 255) refl g
    by_rest deep (Some t) f g =
        let same : b ∷ t ≡ r = cc in
        subst (λ (l : List ℕ). list_all (λ x. nat_lt x 256) l ≡ true) same (both_true (nat_lt b 256) _ (left_true (nat_lt b 256) _ s) (deep t f))

-- one higher in a byte, where there is none
pub next_raised : (bs r : List ℕ) → list_all (λ x. nat_lt x 256) bs ≡ true → length bs ≡ 32 → raised bs ≡ Some r → IsNext bs r
next_raised bs r s h e =
    let is = raised_is bs r e in
    let some = is.some in
    let short = is.short in
    record {
      key = (some, omega arith, raised_small bs r s e);
      above = below_lt bs r is.above;
      least = λ k key up.
          let long = key.1 in
          let found = raised_least bs k (omega arith) key.2 (lt_below bs k up) in
          let same : found.next ≡ r = cc in
          at_most_not_lt r k (subst (λ (l : List ℕ). AtMost l k) same found.least);
    }

pub none_above : (bs : List ℕ) → length bs ≡ 32 → raised bs ≡ None → IsLast bs
none_above bs h e = λ k key up.
    let long = key.1 in
    let found = raised_least bs k (omega arith) key.2 (lt_below bs k up) in
    clash (raised bs) found.next e found.is
  where
    clash : (o : Option (List ℕ)) (r : List ℕ) → o ≡ None → o ≡ Some r → ⊥
    clash o r f g = cc

-- Room

pub room_lower : (n : ℕ) (high : Option (List ℕ)) (a b : List ℕ) → AtMost a b → HasRoomForKeys b n high → HasRoomForKeys a n high
room_lower zero None a b h room = refl
room_lower zero (Some bound) a b h room = below_lt a bound (at_most_below a b bound h (lt_below b bound room))
room_lower (suc n) high a b h room = (room.0, room.1, below_lt a room.0 (at_most_below a b room.0 h (lt_below b room.0 room.2)), room.3)

-- a key above these bytes leaves room for as many keys as the least one does
pub room_next : (n : ℕ) (high : Option (List ℕ)) (a next : List ℕ) → IsNext a next → HasRoomForKeys a (suc n) high → HasRoomForKeys next n high
room_next n high a next is room = room_lower n high next room.0 (not_lt_at_most room.0 next (is.least room.0 room.1 room.2)) room.3

pub next_room : (n : ℕ) (high : Option (List ℕ)) (a next : List ℕ) → IsNext a next → HasRoomForKeys next n high → HasRoomForKeys a (suc n) high
next_room n high a next is room = (next, is.key, is.above, room)

-- The least key of a length

pub filled_small : (bs : List ℕ) (n : ℕ) → list_all (λ x. nat_lt x 256) bs ≡ true → list_all (λ x. nat_lt x 256) (bs ++ replicate n 0) ≡ true
filled_small [] zero s = refl
filled_small [] (suc n) s = filled_small [] n s
filled_small (b ∷ bs) n s = both_true (nat_lt b 256) _ (left_true (nat_lt b 256) _ s) (filled_small bs n (right_true (nat_lt b 256) _ s))

-- bytes that are cut off stand before what is not below all of them
pub cut_below : (least k : List ℕ) (n : ℕ) → length k ≤ n → n < length least → AtMost least k → Below (take n least) k
cut_below [] k n l m h = absurd (omega arith)
cut_below (x ∷ least) [] n l m h = absurd h
cut_below (x ∷ least) (y ∷ k) zero l m h = absurd (omega arith)
cut_below (x ∷ least) (y ∷ k) (suc n) l m h = elim h [ inl less ↦ inl less | inr rest ↦ inr (rest.0, cut_below least k n (omega arith) (omega arith) rest.1) ]

-- and what stands behind them, no longer, is above all of them
pub cut_above : (least r : List ℕ) (n : ℕ) → length r ≤ n → Below (take n least) r → AtMost least r
cut_above [] r n l h = tt
cut_above (x ∷ least) [] n l h = absurd h
cut_above (x ∷ least) (y ∷ r) zero l h = absurd (omega arith)
cut_above (x ∷ least) (y ∷ r) (suc n) l h = elim h [ inl less ↦ inl less | inr rest ↦ inr (rest.0, cut_above least r n (omega arith) rest.1) ]

-- The least key of a size that begins so

pub le_at_most : (a b : List ℕ) → key_le a b ≡ true → AtMost a b
le_at_most a b e = not_lt_at_most b a (not_true (key_lt b a) e)
  where
    not_true : (t : Bool) → not t ≡ true → t ≡ false
    not_true true e = absurd cc
    not_true false e = refl

pub at_most_le : (a b : List ℕ) → AtMost a b → key_le a b ≡ true
at_most_le a b h = ap not (at_most_not_lt a b h)

pub least_long : (least : List ℕ) (size : ℕ) → length least ≤ size → list_all (λ x. nat_lt x 256) least ≡ true → IsLeastFrom least [] size (least ++ replicate (size - length least) 0)
least_long least size fits s =
    let k = least ++ replicate (size - length least) 0 in
    let both = length-append least (replicate (size - length least) 0) in
    let zeros : length {A = ℕ} (replicate (size - length least) 0) ≡ size - length least = length-replicate (size - length least) 0 in
    record {
      is = record { long = omega (arith, both, zeros); small = filled_small least (size - length least) s; begins = (k, refl); from = at_most_le least k (front_at_most least (replicate (size - length least) 0)) };
      lowest = λ m is. let long = is.long in at_most_not_lt k m (filled_least least m (size - length least) (omega arith) (le_at_most least m is.from));
    }

small_take : (n : ℕ) (bs : List ℕ) → list_all (λ x. nat_lt x 256) bs ≡ true → list_all (λ x. nat_lt x 256) (take n bs) ≡ true
small_take n bs s = all_take (λ x. nat_lt x 256) n bs s

pub least_cut : (least r : List ℕ) (size : ℕ) → size < length least → list_all (λ x. nat_lt x 256) least ≡ true → raised (take size least) ≡ Some r → IsLeastFrom least [] size (r ++ replicate (size - length r) 0)
least_cut least r size more s e =
    let cut = take size least in
    let is = raised_is cut r e in
    let short = is.short in
    let long = length-take-le size least (omega arith) in
    let k = r ++ replicate (size - length r) 0 in
    let both = length-append r (replicate (size - length r) 0) in
    let zeros : length {A = ℕ} (replicate (size - length r) 0) ≡ size - length r = length-replicate (size - length r) 0 in
    record {
      is = record {
        long = omega (arith, both, zeros);
        small = filled_small r (size - length r) (raised_small cut r (small_take size least s) e);
        begins = (k, refl);
        from = at_most_le least k (at_most_all least r k (cut_above least r size (omega arith) is.above) (front_at_most r (replicate (size - length r) 0)));
      };
      lowest = λ m at.
          let size_is = at.long in
          let found = raised_least cut m (omega arith) at.small (cut_below least m size (omega arith) more (le_at_most least m at.from)) in
          let same : found.next ≡ r = cc in
          at_most_not_lt k m (filled_least r m (size - length r) (omega arith) (subst (λ (l : List ℕ). AtMost l m) same found.least));
    }

pub least_none : (least : List ℕ) (size : ℕ) → size < length least → raised (take size least) ≡ None → HasNoneFrom least [] size
least_none least size more e = λ m at.
    let size_is = at.long in
    let long = length-take-le size least (omega arith) in
    let found = raised_least (take size least) m (omega arith) at.small (cut_below least m size (omega arith) more (le_at_most least m at.from)) in
    clash (raised (take size least)) found.next e found.is
  where
    clash : (o : Option (List ℕ)) (r : List ℕ) → o ≡ None → o ≡ Some r → ⊥
    clash o r f g = cc

-- with zeros behind the front, where that isn't too low
pub with_zeros : (least front : List ℕ) (size : ℕ) → length front ≤ size → list_all (λ x. nat_lt x 256) front ≡ true → key_lt (front ++ replicate (size - length front) 0) least ≡ false
    → IsLeastFrom least front size (front ++ replicate (size - length front) 0)
with_zeros least front size fits s e =
    let k = front ++ replicate (size - length front) 0 in
    let both = length-append front (replicate (size - length front) 0) in
    let zeros : length {A = ℕ} (replicate (size - length front) 0) ≡ size - length front = length-replicate (size - length front) 0 in
    record {
      is = record { long = omega (arith, both, zeros); small = filled_small front (size - length front) s; begins = (replicate (size - length front) 0, refl); from = ap not e };
      lowest = λ m is.
          let long = is.long in
          at_most_not_lt k m (filled_least front m (size - length front) (omega arith) (subst (λ (l : List ℕ). AtMost front l) (sym (is.begins).1) (front_at_most front (is.begins).0)));
    }

any_front : (least front : List ℕ) (size : ℕ) (m : List ℕ) → IsKeyFrom least front size m → IsKeyFrom least [] size m
any_front least front size m is = record { long = is.long; small = is.small; begins = (m, refl); from = is.from }

pub with_front : (least front : List ℕ) (size : ℕ) (k rest : List ℕ) → IsLeastFrom least [] size k → k ≡ front ++ rest → IsLeastFrom least front size k
with_front least front size k rest is e = record {
  is = record { long = (is.is).long; small = (is.is).small; begins = (rest, e); from = (is.is).from };
  lowest = λ m at. is.lowest m (any_front least front size m at);
}

pub without_front : (least front : List ℕ) (size : ℕ) (k : List ℕ) → length front ≤ size → key_lt (front ++ replicate (size - length front) 0) least ≡ true → IsLeastFrom least [] size k
    → ((rest : List ℕ) → k ≡ front ++ rest → ⊥) → HasNoneFrom least front size
without_front least front size k fits low is unlike = λ m at.
    let with = front ++ replicate (size - length front) 0 in
    let above = le_at_most least k (is.is).from in
    let under = not_lt_at_most m k (is.lowest m (any_front least front size m at)) in
    let found = between front (replicate (size - length front) 0) k (at.begins).0
    (at_most_all with least k (below_is_at_most with least (lt_below with least low)) above) (subst (λ (l : List ℕ). AtMost k l) (at.begins).1 under) in
    unlike found.0 found.1

pub none_with_front : (least front : List ℕ) (size : ℕ) → HasNoneFrom least [] size → HasNoneFrom least front size
none_with_front least front size none = λ m at. none m (any_front least front size m at)

-- the least one leaves the most room
pub least_leaves : (least front : List ℕ) (size more : ℕ) (high : Option (List ℕ)) (k : List ℕ) → IsLeastFrom least front size k → LeavesRoom least front size more high → HasRoomForKeys k more high
least_leaves least front size more high k is some = room_lower more high k some.0 (not_lt_at_most some.0 k (is.lowest some.0 some.1)) some.2

-- What the code finds

pub next_of : {A : Type 0} (items : A → List ℕ) (key : List ℕ) (r : Option A) → option_map items r ≡ raised key → length key ≡ 32 → list_all (λ x. nat_lt x 256) key ≡ true → MatchOption r (IsLast key) (λ a. IsNext key (items a))
next_of items key None e h s = none_above key h (sym e)
next_of items key (Some a) e h s = next_raised key (items a) s h (sym e)

pub no_room : (n : ℕ) (high : Option (List ℕ)) (a : List ℕ) → 1 ≤ n → IsLast a → HasRoomForKeys a n high → ⊥
no_room zero high a some last room = omega arith
no_room (suc n) high a some last room = last room.0 room.1 room.2

pub room_into : (n m : ℕ) (high : Option (List ℕ)) (a next : List ℕ) → n ≡ suc m → IsNext a next → HasRoomForKeys a n high → HasRoomForKeys next m high
room_into n m high a next e is room = room_next m high a next is (subst (λ (k : ℕ). HasRoomForKeys a k high) e room)

pub room_back : (n m : ℕ) (high : Option (List ℕ)) (a next : List ℕ) → n ≡ suc m → IsNext a next → HasRoomForKeys next m high → HasRoomForKeys a n high
room_back n m high a next e is room = subst (λ (k : ℕ). HasRoomForKeys a k high) (sym e) (next_room m high a next is room)

pub filled_of : {A : Type 0} (items : A → List ℕ) (P R : Type 0) (bytes : List ℕ) (Q : List ℕ → Type 0) (r : Option A) → (P → ⊥) → MatchOption r P (λ a. items a ≡ bytes) → Q bytes → MatchOption r R (λ a. Q (items a))
filled_of items P R bytes Q None refused h q = absurd (refused h)
filled_of items P R bytes Q (Some a) refused h q = subst Q (sym h) q

-- the end of a range that may be empty
pub ends : (at end start : ℕ) → (start ≤ end → at ≤ end) → (end ≤ start → at ≡ start) → end ≤ at → at - start ≡ end - start
ends at end start up none past = by_order (nat_lt end start) refl
  where
    less : (n m : ℕ) → nat_lt n m ≡ true → n < m
    less n m e = grind (arith, nat_tests)

    more : (n m : ℕ) → nat_lt n m ≡ false → m ≤ n
    more n m e = grind (arith, nat_tests)

    by_order : (t : Bool) → nat_lt end start ≡ t → at - start ≡ end - start
    by_order true e = let low = less end start e in let is = none (omega arith) in omega (arith, is, low)
    by_order false e = let high = more end start e in let top = up high in omega (arith, top, high, past)

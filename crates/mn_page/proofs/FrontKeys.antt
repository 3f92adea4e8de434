-- The fields that hold keys, and what stands behind them.
use Rattle.std.proofs.Common.{◌≡◌, ℕ, zero, suc, ◌+◌, ◌≤◌, Bool, true, false, not, ◌-◌, List, [], ◌∷◌, ◌++◌, length, Option, Some, None, refl, sym, ap, ◌∙◌, subst, arith, drop, get_or, replicate, append-nil}
use Rattle.std.specs.Prelude.{IsTrue, MatchOption, MatchResult, nat_lt, ◌↔◌}
use Rattle.std.specs.List.{list_all}
use Rattle.std.specs.Option.{UnwrapsOrElse}
use Rattle.std.specs.declared.result.Result.{Result}
use Rattle.std.specs.declared.result.Result.TheVariants.{Ok, Err}
use Rattle.mn_base.specs.Order.{key_le, key_lt}
use Rattle.mn_base.specs.declared.ids.Addr.{Addr}
use Rattle.mn_page.specs.Grammar.{IsAddr, IsKey, IsValue, addr_bytes, counted, high_bytes}
use Rattle.mn_page.specs.KeyRoom.{HasRoomForKeys, IsLast, IsNext}
use Rattle.mn_page.specs.Reading.{Begins, as_they_stand}
use Rattle.mn_page.specs.PageFronts.{HasKeys, IsCount, IsFloor, IsHeld, IsHighAt, IsKeyAt, IsKeyIn, IsLeastHigh, IsLeastOver, Judged, count_text}
use Rattle.mn_page.proofs.KeyOrder.{AtMost, at_most_itself, below_at_most, below_lt, lt_below}
use Rattle.mn_page.proofs.KeyRoom.{at_most_le, le_at_most, next_room, room_lower, room_next}

-- What a page holds behind a key

-- a value behind a key of a leaf
pub value_held : {A : Type 0} (now : A → List ℕ) (leaf : Bool) (bytes : List ℕ) (r : Result A Bool) → leaf ≡ true → MatchResult r (λ a. (v : List ℕ) × Begins IsValue counted bytes v (now a)) (λ goes. Judged IsValue counted bytes goes)
    → MatchResult r (λ a. (x : List ℕ) × Begins (IsHeld leaf) as_they_stand bytes x (now a)) (λ goes. Judged (IsHeld leaf) as_they_stand bytes goes)
value_held {A = A} now leaf bytes r e m = subst (λ (l : Bool). MatchResult r (λ a. (x : List ℕ) × Begins (IsHeld l) as_they_stand bytes x (now a)) (λ goes. Judged (IsHeld l) as_they_stand bytes goes)) (sym e) (told r m)
  where
    told : (r : Result A Bool) → MatchResult r (λ a. (v : List ℕ) × Begins IsValue counted bytes v (now a)) (λ goes. Judged IsValue counted bytes goes)
        → MatchResult r (λ a. (x : List ℕ) × Begins (IsHeld true) as_they_stand bytes x (now a)) (λ goes. Judged (IsHeld true) as_they_stand bytes goes)
    told (Ok a) m = let b = m.1 in (counted m.0, record { may = (m.0, b.may, refl); spelled = b.spelled })
    told (Err true) m = (counted m.0, m.1, (m.0, m.2, refl), m.3)
    told (Err false) m = λ x tail more is e. m is.0 tail more is.1 (e ∙ ap (λ (l : List ℕ). l ++ more) is.2)

-- an address behind a key of an inner page
pub addr_held : {A : Type 0} (now : A → List ℕ) (leaf : Bool) (bytes : List ℕ) (r : Result A Bool) → leaf ≡ false
    → MatchResult r (λ a. (v : Addr) × Begins IsAddr addr_bytes bytes v (now a)) (λ goes. Judged IsAddr addr_bytes bytes goes)
    → MatchResult r (λ a. (x : List ℕ) × Begins (IsHeld leaf) as_they_stand bytes x (now a)) (λ goes. Judged (IsHeld leaf) as_they_stand bytes goes)
addr_held {A = A} now leaf bytes r e m = subst (λ (l : Bool). MatchResult r (λ a. (x : List ℕ) × Begins (IsHeld l) as_they_stand bytes x (now a)) (λ goes. Judged (IsHeld l) as_they_stand bytes goes)) (sym e) (told r m)
  where
    told : (r : Result A Bool) → MatchResult r (λ a. (v : Addr) × Begins IsAddr addr_bytes bytes v (now a)) (λ goes. Judged IsAddr addr_bytes bytes goes)
        → MatchResult r (λ a. (x : List ℕ) × Begins (IsHeld false) as_they_stand bytes x (now a)) (λ goes. Judged (IsHeld false) as_they_stand bytes goes)
    told (Ok a) m = let b = m.1 in (addr_bytes m.0, record { may = (m.0, b.may, refl); spelled = b.spelled })
    told (Err true) m = (addr_bytes m.0, m.1, (m.0, m.2, refl), m.3)
    told (Err false) m = λ x tail more is e. m is.0 tail more is.1 (e ∙ ap (λ (l : List ℕ). l ++ more) is.2)

-- The least key

-- what is above a key is at or above the least one that is
pub next_le : (a next : List ℕ) → IsNext a next → (k : List ℕ) → IsKey k → IsTrue (key_lt a k) ↔ IsTrue (key_le next k)
next_le a next is k key = (λ up. ap not (is.least k key up), λ h. below_lt a k (below_at_most a next k (lt_below a next is.above) (le_at_most next k h)))

pub next_over : (a next : List ℕ) → IsNext a next → IsLeastOver false a next
next_over a next is = (is.key, next_le a next is)

pub low_over : (low : List ℕ) → length low ≤ 32 → 1 ≤ length low → list_all (λ b. nat_lt b 256) low ≡ true → IsLeastOver true low low
low_over low top some s = ((some, top, s), λ k key. (λ h. h, λ h. h))

-- of a leaf without a low fence
pub none_over : (low next : List ℕ) → low ≡ [] → IsNext low next → IsLeastOver true low next
none_over low next e is = (is.key, λ k key. (λ h. (next_le low next is k key).0 (above low k e key.0), λ h. at_most_le low k (subst (λ (l : List ℕ). AtMost l k) (sym e) tt)))
  where
    above : (low k : List ℕ) → low ≡ [] → 1 ≤ length k → key_lt low k ≡ true
    above low [] e some = absurd (omega arith)
    above low (b ∷ k) e some = subst (λ (l : List ℕ). key_lt l (b ∷ k) ≡ true) (sym e) refl

-- above such bytes there is no key
pub last_over : (low : List ℕ) → IsLast low → HasKeys false low 1 None → ⊥
last_over low last has = last has.0 has.1 has.2

-- a leaf can always have a key
pub leaf_has : (low : List ℕ) → length low ≤ 32 → list_all (λ b. nat_lt b 256) low ≡ true → HasKeys true low 1 None
leaf_has [] top s = (0 ∷ [], (omega arith, omega arith, refl), refl, refl)
leaf_has (b ∷ low) top s = (b ∷ low, (omega arith, top, s), at_most_le (b ∷ low) (b ∷ low) (at_most_itself (b ∷ low)), refl)

-- where keys have room, one does
pub has_first : (from : Bool) (base : List ℕ) (n : ℕ) (high : Option (List ℕ)) → HasKeys from base (suc n) high → HasKeys from base 1 None
has_first from base n high has = (has.0, has.1, has.2, refl)

-- so many keys have room just where the least of them leaves it
pub keys_room : (from : Bool) (base least : List ℕ) (n : ℕ) (high : Option (List ℕ)) → IsLeastOver from base least → HasKeys from base (suc n) high ↔ HasRoomForKeys least n high
keys_room from base least n high is = (
  λ has. room_lower n high least has.0 (le_at_most least has.0 ((is.1 has.0 has.1).0 has.2)) has.3,
  λ room. (least, is.0, (is.1 least is.0).1 (at_most_le least least (at_most_itself least)), room),
)

-- What the code finds

-- the value of an option that is not none
pub unwrapped : {A : Type 0} (items : A → List ℕ) (o : Option A) (P : A → Type 0) (v : A) (None_is : Type 0) (Q : List ℕ → Type 0) → UnwrapsOrElse o P v → MatchOption o None_is (λ a. Q (items a)) → (None_is → ⊥) → Q (items v)
unwrapped items None P v None_is Q u m no_none = absurd (no_none m)
unwrapped items (Some a) P v None_is Q u m no_none = subst (λ x. Q (items x)) (sym u) m

pub filled_low : (low key : List ℕ) → length low ≤ 32 → 1 ≤ length low → list_all (λ b. nat_lt b 256) low ≡ true → key ≡ low ++ replicate (length low - length low) 0 → IsLeastOver true low key
filled_low low key top some s e = subst (IsLeastOver true low) (sym (e ∙ (ap (λ (n : ℕ). low ++ replicate n 0) none ∙ append-nil low))) (low_over low top some s)
  where
    none : length low - length low ≡ 0
    none = omega arith

pub no_bytes : (low : List ℕ) → length low ≡ 0 → low ≡ []
no_bytes [] e = refl
no_bytes (b ∷ low) e = absurd (omega (arith, e))

pub no_last : (low : List ℕ) → low ≡ [] → IsLast low → ⊥
no_last low e last = last (0 ∷ []) (omega arith, omega arith, refl) (subst (λ (l : List ℕ). key_lt l (0 ∷ []) ≡ true) (sym e) refl)

pub next_over_of : {A : Type 0} (items : A → List ℕ) (low : List ℕ) (r : Option A) → MatchOption r (IsLast low) (λ a. IsNext low (items a)) → MatchOption r (IsLast low) (λ a. IsLeastOver false low (items a))
next_over_of items low None m = m
next_over_of items low (Some a) m = next_over low (items a) m

pub none_over_of : {A : Type 0} (items : A → List ℕ) (low : List ℕ) → low ≡ [] → (r : Option A) → MatchOption r (IsLast low) (λ a. IsNext low (items a)) → MatchOption r (IsLast low) (λ a. IsLeastOver true low (items a))
none_over_of items low e None m = m
none_over_of items low e (Some a) m = none_over low (items a) e m

pub filled_low_of : {A : Type 0} (items : A → List ℕ) (low : List ℕ) → length low ≤ 32 → 1 ≤ length low → list_all (λ b. nat_lt b 256) low ≡ true → (r : Option A) → MatchOption r (length low ≤ 32 → length low ≤ 32 → ⊥) (λ a. items a ≡ low ++ replicate (length low - length low) 0)
    → MatchOption r (length low ≤ 32 → length low ≤ 32 → ⊥) (λ a. IsLeastOver true low (items a))
filled_low_of items low top some s None m = m
filled_low_of items low top some s (Some a) m = filled_low low (items a) top some s m

-- The high fence

pub high_above : (low next : List ℕ) → IsNext low next → IsLeastHigh true low next
high_above low next is = (is.key, next_le low next is)

pub high_last_above : (low above : List ℕ) → IsNext low above → IsLast above → (key : List ℕ) → IsKey key → HasRoomForKeys low 1 (Some key) → ⊥
high_last_above low above is last key k room = last key k (room_next 0 (Some key) low above is room)

-- of an inner page there is a separator below it
pub high_two_above : (low above next : List ℕ) → IsNext low above → IsNext above next → IsLeastHigh false low next
high_two_above low above next is iq = (iq.key, λ k key. let le = next_le above next iq k key in (λ room. le.0 (room_next 0 (Some k) low above is room), λ h. next_room 0 (Some k) low above is (le.1 h)))

pub high_of : {A : Type 0} (items : A → List ℕ) (low above : List ℕ) (r : Option A) → IsNext low above → MatchOption r (IsLast above) (λ a. IsNext above (items a))
    → MatchOption r ((key : List ℕ) → IsKey key → HasRoomForKeys low 1 (Some key) → ⊥) (λ a. IsLeastHigh false low (items a))
high_of items low above None is m = high_last_above low above is m
high_of items low above (Some a) is m = high_two_above low above (items a) is m

-- a key as the high fence
pub high_whole : (leaf : Bool) (low least : List ℕ) (behind bytes key rest : List ℕ) → bytes ≡ 1 ∷ behind → IsLeastHigh leaf low least → Begins (IsKeyIn 1 least 0 None) counted behind key rest
    → Begins (IsHighAt leaf low) high_bytes bytes (Some key) rest
high_whole leaf low least behind bytes key rest e is b = record { may = ((b.may).0, (is.1 key (b.may).0).1 (b.may).1); spelled = e ∙ ap (λ (l : List ℕ). 1 ∷ l) b.spelled }

pub high_judged : (leaf : Bool) (low least : List ℕ) (behind bytes : List ℕ) (goes : Bool) → bytes ≡ 1 ∷ behind → IsLeastHigh leaf low least → Judged (IsKeyIn 1 least 0 None) counted behind goes → Judged (IsHighAt leaf low) high_bytes bytes goes
high_judged leaf low least behind bytes true e is j = (Some j.0, j.1, ((j.2).0, (is.1 j.0 (j.2).0).1 (j.2).1), ap (λ (l : List ℕ). 1 ∷ l) j.3 ∙ sym (ap (λ (l : List ℕ). l ++ j.1) e))
high_judged leaf low least behind bytes false e is j = λ x tail rest at f. by_high x tail rest at (ap (λ (l : List ℕ). l ++ tail) (sym e) ∙ f)
  where
    by_high : (x : Option (List ℕ)) (tail rest : List ℕ) → IsHighAt leaf low x → 1 ∷ (behind ++ tail) ≡ high_bytes x ++ rest → ⊥
    by_high None tail rest at f = let first : 1 ≡ 0 = ap (λ (l : List ℕ). get_or l 0 0) f in omega (arith, first)
    by_high (Some k) tail rest at f = j k tail rest (at.0, (is.1 k at.0).0 at.1, refl) (ap (drop 1) f)

pub high_some : (leaf : Bool) (low least : List ℕ) → IsLeastHigh leaf low least → (key : List ℕ) × IsKeyIn 1 least 0 None key
high_some leaf low least is = (least, (is.0, at_most_le least least (at_most_itself least), refl))

-- The number of keys

pub first_key : (leaf : Bool) (low : List ℕ) (high : Option (List ℕ)) → length low ≤ 32 → list_all (λ b. nat_lt b 256) low ≡ true → (n : ℕ) × IsCount leaf low high n → HasKeys leaf low 1 None
first_key true low high top s some = leaf_has low top s
first_key false low high top s some = by_count some.0 some.1
  where
    by_count : (n : ℕ) → IsCount false low high n → HasKeys false low 1 None
    by_count zero is = let one = is.0 in absurd (omega (arith, one))
    by_count (suc n) is = has_first false low n high is.2

-- the room of the least key is that of the counted ones
pub keys_have : (leaf : Bool) (low least : List ℕ) (high : Option (List ℕ)) (keys : ℕ) → IsLeastOver leaf low least → (1 ≤ keys → HasRoomForKeys least (keys - 1) high) → HasKeys leaf low keys high
keys_have leaf low least high zero is room = tt
keys_have leaf low least high (suc n) is room = (keys_room leaf low least n high is).1 (subst (λ (k : ℕ). HasRoomForKeys least k high) (one_less n) (room (omega arith)))
  where
    one_less : (n : ℕ) → suc n - 1 ≡ n
    one_less n = omega arith

-- what the count tells of the keys
abbrev pub KeysOf : Bool → ℕ → ℕ → Type 0
KeysOf true count keys = keys ≡ count
KeysOf false count keys = (keys + 1 ≡ count) × (2 ≤ count)

pub keys_of : (leaf : Bool) (count keys : ℕ) → (leaf ≡ true → keys ≡ count) → (leaf ≡ false → keys ≡ count - 1) → (leaf ≡ false → 2 ≤ count) → KeysOf leaf count keys
keys_of true count keys flat up two = flat refl
keys_of false count keys flat up two = let e = up refl in let t = two refl in (omega (arith, e, t), t)

pub count_whole : (leaf : Bool) (low : List ℕ) (high : Option (List ℕ)) (count keys : ℕ) (rest bytes : List ℕ) → bytes ≡ count ∷ rest → KeysOf leaf count keys → count ≤ 8 → HasKeys leaf low keys high
    → Begins (IsCount leaf low high) (count_text leaf) bytes keys rest
count_whole true low high count keys rest bytes e of top has = record { may = (omega (arith, of, top), has); spelled = e ∙ ap (λ (n : ℕ). n ∷ rest) (sym of) }
count_whole false low high count keys rest bytes e of top has = record { may = (omega (arith, of), omega (arith, of, top), has); spelled = e ∙ ap (λ (n : ℕ). n ∷ rest) (sym of.0) }

-- a count without room is no page's
pub count_no : (leaf : Bool) (low least : List ℕ) (high : Option (List ℕ)) (count keys : ℕ) (rest bytes : List ℕ) → bytes ≡ count ∷ rest → KeysOf leaf count keys → IsLeastOver leaf low least → 1 ≤ keys → (HasRoomForKeys least (keys - 1) high → ⊥)
    → Judged (IsCount leaf low high) (count_text leaf) bytes false
count_no leaf low least high count keys rest bytes e of is some lacks = λ x tail more at f. by_leaf leaf x tail more of is at (ap (λ (l : List ℕ). l ++ tail) (sym e) ∙ f)
  where
    by_keys : (l : Bool) (k : ℕ) → k ≡ keys → IsLeastOver l low least → HasKeys l low k high → ⊥
    by_keys l zero same is has = omega (arith, same, some)
    by_keys l (suc n) same is has = lacks (subst (λ (m : ℕ). HasRoomForKeys least m high) (less n keys same) ((keys_room l low least n high is).0 has))
      where
        less : (n keys : ℕ) → suc n ≡ keys → n ≡ keys - 1
        less n keys e = omega arith

    by_leaf : (l : Bool) (x : ℕ) (tail more : List ℕ) → KeysOf l count keys → IsLeastOver l low least → IsCount l low high x → count ∷ (rest ++ tail) ≡ count_text l x ++ more → ⊥
    by_leaf true x tail more of is at f = let first : count ≡ x = ap (λ (l : List ℕ). get_or l 0 0) f in by_keys true x (omega (arith, of, first)) is at.1
    by_leaf false x tail more of is at f = let first : count ≡ x + 1 = ap (λ (l : List ℕ). get_or l 0 0) f in let one = of.0 in by_keys false x (omega (arith, one, first)) is at.2

-- Items

pub key_at : (from : Bool) (base least : List ℕ) (more : ℕ) (high : Option (List ℕ)) → IsLeastOver from base least → (key : List ℕ) → IsKeyIn 1 least more high key → IsKeyAt from base more high key
key_at from base least more high is key at = (at.0, (is.1 key at.0).1 at.1, at.2)

pub key_in : (from : Bool) (base least : List ℕ) (more : ℕ) (high : Option (List ℕ)) → IsLeastOver from base least → (key : List ℕ) → IsKeyAt from base more high key → IsKeyIn 1 least more high key
key_in from base least more high is key at = (at.0, (is.1 key at.0).0 at.1, at.2)

pub key_some : (from : Bool) (base least : List ℕ) (more : ℕ) (high : Option (List ℕ)) → IsLeastOver from base least → HasKeys from base (suc more) high → (key : List ℕ) × IsKeyIn 1 least more high key
key_some from base least more high is has = (has.0, key_in from base least more high is has.0 (has.1, has.2, has.3))

-- the same values go on from the same bytes
pub judged_same : {X : Type 0} (One Other : X → Type 0) (spelling : X → List ℕ) (bytes : List ℕ) (goes : Bool) → ((x : X) → One x → Other x) → ((x : X) → Other x → One x) → Judged One spelling bytes goes → Judged Other spelling bytes goes
judged_same One Other spelling bytes true into back j = (j.0, j.1, into j.0 j.2, j.3)
judged_same One Other spelling bytes false into back j = λ x tail more is e. j x tail more (back x is) e

pub floor_of : (keys : ℕ) (from : Bool) (base least : List ℕ) (high : Option (List ℕ)) → HasKeys from base keys high → (HasKeys from base 1 None → IsLeastOver from base least) → IsFloor keys from base least
floor_of zero from base least high has told = tt
floor_of (suc n) from base least high has told = told (has_first from base n high has)

pub floor_now : (keys more : ℕ) (from : Bool) (base least : List ℕ) → keys ≡ suc more → IsFloor keys from base least → IsLeastOver from base least
floor_now keys more from base least e floor = subst (λ (k : ℕ). IsFloor k from base least) e floor

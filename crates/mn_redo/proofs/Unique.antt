-- Bytes stand for one list at most, damaged ones for none, and damage has one place at most.
use Rattle.std.proofs.Common.{◌≡◌, ◌≢◌, ◌<◌, ◌≤◌, ◌^◌, inl, inr, ℕ, ◌+◌, List, [], ◌∷◌, ◌++◌, length, take, drop, get_or, refl, sym, ◌∙◌, ap, subst, arith, append_assoc, length-append, length-take, ◌⊎◌}
use Rattle.std.proofs.lemmas.Bool.Decides.{nat_tests}
use Rattle.std.proofs.lemmas.List.{take_at, drop_at, take-take, take-append-le, get_or-take}
use Rattle.std.proofs.lemmas.Nat.{from_be_bytes-to_be_bytes_4}
use Rattle.std.specs.Int.{w32, to_be_bytes, from_be_bytes}
use Rattle.mn_redo.specs.Grammar.{behind_gate, records, HaveSizes, AreInFront, HasLog, IsFresh, IsLead, IsLog, IsLogAt, IsShort, IsDamagedAt, IsBrokenAt, IsDamaged, IsWrongAt, Stands, bodies_in, beginning, current_number, current_place}
use Rattle.mn_redo.proofs.Parse.{bodies_of_records, first_record, at_least, length-behind_gate}
use Rattle.mn_redo.proofs.Leads.{SameArea, same_area, right_there, beginning_there}

-- what stands behind the bytes before
behind : (before content rest : List ℕ) (bodies : List (List ℕ)) → content ≡ (before ++ records bodies) ++ rest → drop (length before) content ≡ records bodies ++ rest
behind before content rest bodies is = ap (λ (l : List ℕ). drop (length before) l) (is ∙ append_assoc before (records bodies) rest) ∙ drop_at before (records bodies ++ rest) (length before) refl

log_long : (before content : List ℕ) (bodies : List (List ℕ)) → IsLog before content bodies → length before + 1 + length bodies ≤ length content
log_long before content bodies log = omega (arith, ap length log.bytes, length-append (before ++ records bodies) (log.gate ∷ log.tail), length-append before (records bodies), at_least bodies)

log_list : (before content : List ℕ) (bodies : List (List ℕ)) → IsLog before content bodies → bodies_in (length content) (drop (length before) content) ≡ bodies
log_list before content bodies log =
    ap (bodies_in (length content)) (behind before content (log.gate ∷ log.tail) bodies log.bytes)
    ∙ bodies_of_records (length content) log.gate bodies log.tail log.sizes (omega (arith, log_long before content bodies log)) log.closed

-- what bytes say of the log in them, by a lead and what stands behind it
module _ (node nodes : ℕ) (before content rest : List ℕ) (lead : IsLead node nodes before) (is : content ≡ before ++ rest) where
  early : (k : ℕ) → k ≤ 80 → take k content ≡ take k before
  early k le = ap (λ (l : List ℕ). take k l) is ∙ take-append-le k before rest (omega (arith, le, lead.long))

  led_first : get_or content 0 0 ≡ 1
  led_first =
      let one : take 1 content ≡ 1 ∷ [] = early 1 (omega arith) ∙ sym (take-take 1 16 before (omega arith)) ∙ ap (λ (l : List ℕ). take 1 l) lead.head in
      sym (get_or-take 1 content 0 0 (omega arith)) ∙ ap (λ (l : List ℕ). get_or l 0 0) one

  fresh_not : 0 < length rest → IsFresh content → ⊥
  fresh_not some (inl short) = omega (arith, short, some, ap length is, length-append before rest, lead.long)
  fresh_not some (inr other) = other led_first

  zeroth_area : SameArea 0 before content
  zeroth_area = same_area 0 before content (omega arith) (early 80 (omega arith))

  first_area : SameArea 1 before content
  first_area = same_area 1 before content (omega arith) (early 80 (omega arith))

  lead_begins : beginning content ≡ length before
  lead_begins = beginning_there before content zeroth_area first_area ∙ lead.begins

  right_not : (at : ℕ) → 0 < length rest → IsWrongAt node nodes content at → ⊥
  right_not at some (inl wrong) = wrong.0 (early 16 (omega arith) ∙ lead.head)
  right_not at some (inr (head, inl wrong)) = wrong.0 (right_there 0 before content zeroth_area lead.first)
  right_not at some (inr (head, inr (right, inl wrong))) = wrong.0 (right_there 1 before content first_area lead.second)
  right_not at some (inr (head, inr (right, inr (right2, (inl low, place))))) = omega (arith, low, lead_begins, lead.long)
  right_not at some (inr (head, inr (right, inr (right2, (inr high, place))))) = omega (arith, high, lead_begins, some, ap length is, length-append before rest)

-- two leads of one content are one
same_lead : (node nodes node2 nodes2 : ℕ) (content before before2 rest rest2 : List ℕ) → IsLead node nodes before → IsLead node2 nodes2 before2 → content ≡ before ++ rest → content ≡ before2 ++ rest2 → before ≡ before2
same_lead node nodes node2 nodes2 content before before2 rest rest2 lead lead2 is is2 =
    let e : length before ≡ length before2 = sym (lead_begins node nodes before content rest lead is) ∙ lead_begins node2 nodes2 before2 content rest2 lead2 is2 in
    sym (take_at before rest (length before) refl) ∙ ap (λ (l : List ℕ). take (length before) l) (sym is ∙ is2) ∙ take_at before2 rest2 (length before) (sym e)

rest_of : (before content : List ℕ) (bodies : List (List ℕ)) → (log : IsLog before content bodies) → content ≡ before ++ (records bodies ++ log.gate ∷ log.tail)
rest_of before content bodies log = log.bytes ∙ append_assoc before (records bodies) (log.gate ∷ log.tail)

some_rest : (bodies : List (List ℕ)) (gate : ℕ) (tail : List ℕ) → 0 < length (records bodies ++ gate ∷ tail)
some_rest bodies gate tail = omega (arith, length-append (records bodies) (gate ∷ tail))

pub led_not_fresh : (node nodes : ℕ) (before content : List ℕ) (bodies : List (List ℕ)) → IsLead node nodes before → IsLog before content bodies → IsFresh content → ⊥
led_not_fresh node nodes before content bodies lead log fresh = fresh_not node nodes before content (records bodies ++ log.gate ∷ log.tail) lead (rest_of before content bodies log) (some_rest bodies log.gate log.tail) fresh

pub has_not_fresh : (node nodes : ℕ) (content : List ℕ) (bodies : List (List ℕ)) → HasLog node nodes content bodies → IsFresh content → ⊥
has_not_fresh node nodes content bodies has fresh = led_not_fresh node nodes has.1.1.before content bodies has.1.1.lead has.1.1.log fresh

same_log : (node nodes : ℕ) (content : List ℕ) (bodies others : List (List ℕ)) → HasLog node nodes content bodies → HasLog node nodes content others → bodies ≡ others
same_log node nodes content bodies others one two =
    let l = one.1.1 in
    let m = two.1.1 in
    let same = same_lead node nodes node nodes content l.before m.before _ _ l.lead m.lead (rest_of l.before content bodies l.log) (rest_of m.before content others m.log) in
    sym (log_list l.before content bodies l.log) ∙ log_list l.before content others (subst (λ (b : List ℕ). IsLog b content others) (sym same) m.log)

pub one_of : (node nodes : ℕ) (content : List ℕ) (bodies others : List (List ℕ)) → Stands node nodes content bodies → Stands node nodes content others → bodies ≡ others
one_of node nodes content bodies others (inl fresh) (inl fresh2) = fresh.1 ∙ sym fresh2.1
one_of node nodes content bodies others (inl fresh) (inr log) = absurd (has_not_fresh node nodes content others log fresh.0)
one_of node nodes content bodies others (inr log) (inl fresh) = absurd (has_not_fresh node nodes content bodies log fresh.0)
one_of node nodes content bodies others (inr log) (inr log2) = same_log node nodes content bodies others log log2

-- an open gate with no whole record behind it ends no list of records
short_record : (body rest tail : List ℕ) → length body < 2 ^ 32 → rest ≡ behind_gate body ++ tail → 0 < length tail → IsShort rest → ⊥
short_record body rest tail size is some (inl few) = omega (arith, few, ap length is, length-append (behind_gate body) tail, length-behind_gate body)
short_record body rest tail size is some (inr few) =
    let four = to_be_bytes w32 (length body) in
    let n : from_be_bytes w32 (take 4 rest) ≡ length body =
    ap (λ (l : List ℕ). from_be_bytes w32 (take 4 l)) (is ∙ append_assoc four body tail) ∙ ap (from_be_bytes w32) (take_at four (body ++ tail) 4 refl) ∙ from_be_bytes-to_be_bytes_4 (length body) size in
    omega (arith, few, n, some, ap length is, length-append (behind_gate body) tail, length-behind_gate body)

head_of : (x y : ℕ) (xs ys : List ℕ) → x ∷ xs ≡ y ∷ ys → x ≡ y
head_of x y xs ys e = ap (λ (l : List ℕ). get_or l 0 0) e

tail_of : (x y : ℕ) (xs ys : List ℕ) → x ∷ xs ≡ y ∷ ys → xs ≡ ys
tail_of x y xs ys e = ap (λ (l : List ℕ). drop 1 l) e

some_behind : (bodies : List (List ℕ)) (gate : ℕ) (tail : List ℕ) → 0 < length (records bodies ++ gate ∷ tail)
some_behind bodies gate tail = omega (arith, length-append (records bodies) (gate ∷ tail))

-- two spellings that begin with a record each begin with the same one
module _ (f b rest rest2 : List ℕ) (size : length f < 2 ^ 32) (size2 : length b < 2 ^ 32) (e : (1 ∷ behind_gate f) ++ rest ≡ (1 ∷ behind_gate b) ++ rest2) where
  same_first : f ≡ b
  same_first =
      let left = first_record 1 f rest size in
      let right = ap (bodies_in 2) e ∙ first_record 1 b rest2 size2 in
      ap (λ (l : List (List ℕ)). get_or l 0 []) (sym left ∙ right)

  same_rest : rest ≡ rest2
  same_rest =
      let more : (1 ∷ behind_gate b) ++ rest ≡ (1 ∷ behind_gate b) ++ rest2 = ap (λ (l : List ℕ). (1 ∷ behind_gate l) ++ rest) (sym same_first) ∙ e in
      sym (drop_at (1 ∷ behind_gate b) rest (length (1 ∷ behind_gate b)) refl) ∙ ap (λ (l : List ℕ). drop (length (1 ∷ behind_gate b)) l) more ∙ drop_at (1 ∷ behind_gate b) rest2 (length (1 ∷ behind_gate b)) refl

-- one record more in front of what follows
whole : (f : List ℕ) (front : List (List ℕ)) (rest : List ℕ) → records (f ∷ front) ++ rest ≡ (1 ∷ behind_gate f) ++ (records front ++ rest)
whole f front rest = append_assoc (1 ∷ behind_gate f) (records front) rest

clash : (front bodies : List (List ℕ)) (rest tail : List ℕ) (gate : ℕ) → HaveSizes front → HaveSizes bodies → gate ≢ 1 → IsShort rest → records front ++ 1 ∷ rest ≡ records bodies ++ gate ∷ tail → ⊥
clash [] [] rest tail gate sizes sizes2 shut short e = shut (sym (head_of 1 gate rest tail e))
clash [] (b ∷ bodies) rest tail gate sizes sizes2 shut short e =
    short_record b rest (records bodies ++ gate ∷ tail) sizes2.0 (tail_of 1 1 rest (behind_gate b ++ (records bodies ++ gate ∷ tail)) (e ∙ whole b bodies (gate ∷ tail))) (some_behind bodies gate tail) short
clash (f ∷ front) [] rest tail gate sizes sizes2 shut short e = shut (sym (head_of 1 gate ((behind_gate f ++ records front) ++ 1 ∷ rest) tail e))
clash (f ∷ front) (b ∷ bodies) rest tail gate sizes sizes2 shut short e =
    clash front bodies rest tail gate sizes.1 sizes2.1 shut short
    (same_rest f b (records front ++ 1 ∷ rest) (records bodies ++ gate ∷ tail) sizes.0 sizes2.0 (sym (whole f front (1 ∷ rest)) ∙ e ∙ whole b bodies (gate ∷ tail)))

-- two short ends end the same list
meet : (front bodies : List (List ℕ)) (rest tail : List ℕ) → HaveSizes front → HaveSizes bodies → IsShort rest → IsShort tail → records front ++ 1 ∷ rest ≡ records bodies ++ 1 ∷ tail → length (records front) ≡ length (records bodies)
meet [] [] rest tail sizes sizes2 short short2 e = refl
meet [] (b ∷ bodies) rest tail sizes sizes2 short short2 e =
    absurd (short_record b rest (records bodies ++ 1 ∷ tail) sizes2.0 (tail_of 1 1 rest (behind_gate b ++ (records bodies ++ 1 ∷ tail)) (e ∙ whole b bodies (1 ∷ tail))) (some_behind bodies 1 tail) short)
meet (f ∷ front) [] rest tail sizes sizes2 short short2 e =
    absurd (short_record f tail (records front ++ 1 ∷ rest) sizes.0 (tail_of 1 1 tail (behind_gate f ++ (records front ++ 1 ∷ rest)) (sym e ∙ whole f front (1 ∷ rest))) (some_behind front 1 rest) short2)
meet (f ∷ front) (b ∷ bodies) rest tail sizes sizes2 short short2 e =
    let firsts = sym (whole f front (1 ∷ rest)) ∙ e ∙ whole b bodies (1 ∷ tail) in
    let same = same_first f b (records front ++ 1 ∷ rest) (records bodies ++ 1 ∷ tail) sizes.0 sizes2.0 firsts in
    let more = meet front bodies rest tail sizes.1 sizes2.1 short short2 (same_rest f b (records front ++ 1 ∷ rest) (records bodies ++ 1 ∷ tail) sizes.0 sizes2.0 firsts) in
    omega (arith, more, ap length same, length-append (1 ∷ behind_gate f) (records front), length-append (1 ∷ behind_gate b) (records bodies), length-behind_gate f, length-behind_gate b)

damaged_log : (before content : List ℕ) (at : ℕ) (bodies : List (List ℕ)) → IsDamagedAt before content at → IsLog before content bodies → ⊥
damaged_log before content at bodies damaged log =
    clash damaged.bodies bodies damaged.rest log.tail log.gate damaged.sizes log.sizes log.closed damaged.short
    (sym (behind before content (1 ∷ damaged.rest) damaged.bodies damaged.bytes) ∙ behind before content (log.gate ∷ log.tail) bodies log.bytes)

damaged_once : (before content : List ℕ) (at other : ℕ) → IsDamagedAt before content at → IsDamagedAt before content other → at ≡ other
damaged_once before content at other one two =
    let same = meet one.bodies two.bodies one.rest two.rest one.sizes two.sizes one.short two.short (sym (behind before content (1 ∷ one.rest) one.bodies one.bytes) ∙ behind before content (1 ∷ two.rest) two.bodies two.bytes) in
    omega (arith, same, one.at_is, two.at_is)

broken_rest : (before content : List ℕ) (at : ℕ) → (d : IsDamagedAt before content at) → content ≡ before ++ (records d.bodies ++ 1 ∷ d.rest)
broken_rest before content at d = d.bytes ∙ append_assoc before (records d.bodies) (1 ∷ d.rest)

broken_not_fresh : (node nodes : ℕ) (content : List ℕ) (at : ℕ) → IsBrokenAt node nodes content at → IsFresh content → ⊥
broken_not_fresh node nodes content at b fresh =
    fresh_not node nodes b.before content (records b.broken.bodies ++ 1 ∷ b.broken.rest) b.lead (broken_rest b.before content at b.broken) (some_rest b.broken.bodies 1 b.broken.rest) fresh

broken_not_wrong : (node nodes : ℕ) (content : List ℕ) (at other : ℕ) → IsBrokenAt node nodes content at → IsWrongAt node nodes content other → ⊥
broken_not_wrong node nodes content at other b wrong =
    right_not node nodes b.before content (records b.broken.bodies ++ 1 ∷ b.broken.rest) b.lead (broken_rest b.before content at b.broken) other (some_rest b.broken.bodies 1 b.broken.rest) wrong

has_not_wrong : (node nodes : ℕ) (content : List ℕ) (at : ℕ) (bodies : List (List ℕ)) → HasLog node nodes content bodies → IsWrongAt node nodes content at → ⊥
has_not_wrong node nodes content at bodies has wrong =
    let l = has.1.1 in
    right_not node nodes l.before content (records bodies ++ l.log.gate ∷ l.log.tail) l.lead (rest_of l.before content bodies l.log) at (some_rest bodies l.log.gate l.log.tail) wrong

broken_log : (node nodes : ℕ) (content : List ℕ) (at : ℕ) (bodies : List (List ℕ)) → IsBrokenAt node nodes content at → HasLog node nodes content bodies → ⊥
broken_log node nodes content at bodies b has =
    let l = has.1.1 in
    let same = same_lead node nodes node nodes content l.before b.before _ _ l.lead b.lead (rest_of l.before content bodies l.log) (broken_rest b.before content at b.broken) in
    damaged_log b.before content at bodies b.broken (subst (λ (x : List ℕ). IsLog x content bodies) same l.log)

pub none_of : (node nodes : ℕ) (content : List ℕ) (at : ℕ) (bodies : List (List ℕ)) → IsDamaged node nodes content at → Stands node nodes content bodies → ⊥
none_of node nodes content at bodies (inl wrong) (inl fresh) = wrong.0 fresh.0
none_of node nodes content at bodies (inl wrong) (inr log) = has_not_wrong node nodes content at bodies log wrong.1
none_of node nodes content at bodies (inr damaged) (inl fresh) = broken_not_fresh node nodes content at damaged fresh.0
none_of node nodes content at bodies (inr damaged) (inr log) = broken_log node nodes content at bodies damaged log

wrong_once : (node nodes : ℕ) (content : List ℕ) (at other : ℕ) → IsWrongAt node nodes content at → IsWrongAt node nodes content other → at ≡ other
wrong_once node nodes content at other (inl one) (inl two) = one.1 ∙ sym two.1
wrong_once node nodes content at other (inl one) (inr two) = absurd (one.0 two.0)
wrong_once node nodes content at other (inr one) (inl two) = absurd (two.0 one.0)
wrong_once node nodes content at other (inr (head, inl one)) (inr (head2, inl two)) = one.1 ∙ sym two.1
wrong_once node nodes content at other (inr (head, inl one)) (inr (head2, inr two)) = absurd (one.0 two.0)
wrong_once node nodes content at other (inr (head, inr one)) (inr (head2, inl two)) = absurd (two.0 one.0)
wrong_once node nodes content at other (inr (head, inr (right, inl one))) (inr (head2, inr (right2, inl two))) = one.1 ∙ sym two.1
wrong_once node nodes content at other (inr (head, inr (right, inl one))) (inr (head2, inr (right2, inr two))) = absurd (one.0 two.0)
wrong_once node nodes content at other (inr (head, inr (right, inr one))) (inr (head2, inr (right2, inl two))) = absurd (two.0 one.0)
wrong_once node nodes content at other (inr (head, inr (right, inr one))) (inr (head2, inr (right2, inr two))) = one.1.1 ∙ sym two.1.1

pub once : (node nodes : ℕ) (content : List ℕ) (at other : ℕ) → IsDamaged node nodes content at → IsDamaged node nodes content other → at ≡ other
once node nodes content at other (inl one) (inl two) = wrong_once node nodes content at other one.1 two.1
once node nodes content at other (inl one) (inr two) = absurd (broken_not_wrong node nodes content other at two one.1)
once node nodes content at other (inr one) (inl two) = absurd (broken_not_wrong node nodes content at other one two.1)
once node nodes content at other (inr one) (inr two) =
    let same = same_lead node nodes node nodes content two.before one.before _ _ two.lead one.lead (broken_rest two.before content other two.broken) (broken_rest one.before content at one.broken) in
    damaged_once one.before content at other one.broken (subst (λ (b : List ℕ). IsDamagedAt b content other) same two.broken)

-- What stands in front of damage

front_is : (before content : List ℕ) (at : ℕ) (damaged : IsDamagedAt before content at) → take at content ≡ before ++ records damaged.bodies
front_is before content at damaged =
    ap (λ (l : List ℕ). take at l) damaged.bytes ∙ take_at (before ++ records damaged.bodies) (1 ∷ damaged.rest) at (omega (arith, damaged.at_is, length-append before (records damaged.bodies)))

-- the bytes up to the damage, with a closed gate behind them
up_to : (before content kept : List ℕ) (at : ℕ) (damaged : IsDamagedAt before content at) → kept ≡ take at content ++ 0 ∷ [] → IsLog before kept damaged.bodies
up_to before content kept at damaged is = record {
  gate = 0;
  tail = [];
  closed = omega arith;
  sizes = damaged.sizes;
  bytes = is ∙ ap (λ (l : List ℕ). l ++ 0 ∷ []) (front_is before content at damaged);
}

abbrev up_to_at : (node nodes : ℕ) (content kept : List ℕ) (at : ℕ) (b : IsBrokenAt node nodes content at) → kept ≡ take at content ++ 0 ∷ [] → IsLogAt node nodes kept (current_number b.before) (length b.before) b.broken.bodies
up_to_at node nodes content kept at b is = record { before = b.before; lead = b.lead; log = up_to b.before content kept at b.broken is; number_is = refl; start_is = refl }

wrong_place : (node nodes : ℕ) (content : List ℕ) (at : ℕ) → IsWrongAt node nodes content at → at < 80
wrong_place node nodes content at (inl one) = omega (arith, one.1)
wrong_place node nodes content at (inr (head, inl one)) = omega (arith, one.1)
wrong_place node nodes content at (inr (head, inr (right, inl one))) = omega (arith, one.1)
wrong_place node nodes content at (inr (head, inr (right, inr one))) =
    let low : current_place content ≤ 48 = grind (arith, nat_tests) in
    omega (arith, one.1.1, low)

short_kept : (node nodes : ℕ) (content kept : List ℕ) (at : ℕ) → IsWrongAt node nodes content at → kept ≡ take at content ++ 0 ∷ [] → IsFresh kept
short_kept node nodes content kept at wrong is = inl (omega (arith, wrong_place node nodes content at wrong, ap length is, length-append (take at content) (0 ∷ []), length-take at content))

pub in_front : (node nodes : ℕ) (content kept : List ℕ) (at number start : ℕ) (bodies : List (List ℕ)) → IsDamaged node nodes content at → kept ≡ take at content ++ 0 ∷ [] → (IsFresh kept × (bodies ≡ [])) ⊎ IsLogAt node nodes kept number start bodies
    → AreInFront node nodes content at start bodies
in_front node nodes content kept at number start bodies (inl wrong) is (inl fresh) = inl (wrong_place node nodes content at wrong.1, fresh.1)
in_front node nodes content kept at number start bodies (inl wrong) is (inr log) = absurd (has_not_fresh node nodes kept bodies (number, (start, log)) (short_kept node nodes content kept at wrong.1 is))
in_front node nodes content kept at number start bodies (inr b) is (inl fresh) = absurd (has_not_fresh node nodes kept b.broken.bodies (_, (_, up_to_at node nodes content kept at b is)) fresh.0)
in_front node nodes content kept at number start bodies (inr b) is (inr log) =
    let mine = up_to_at node nodes content kept at b is in
    let same = same_log node nodes kept b.broken.bodies bodies (_, (_, mine)) (number, (start, log)) in
    let led = same_lead node nodes node nodes kept log.before b.before _ _ log.lead b.lead (rest_of log.before kept bodies log.log) (rest_of b.before kept b.broken.bodies mine.log) in
    inr (record {
      before = b.before;
      lead = b.lead;
      start_is = log.start_is ∙ ap length led;
      records_end = record { sizes = subst HaveSizes same b.broken.sizes; bytes = front_is b.before content at b.broken ∙ ap (λ (l : List (List ℕ)). b.before ++ records l) same };
    })

pub whole_in_front : (node nodes : ℕ) (content kept : List ℕ) (at other : ℕ) → IsDamaged node nodes content at → kept ≡ take at content ++ 0 ∷ [] → IsDamaged node nodes kept other → ⊥
whole_in_front node nodes content kept at other (inl wrong) is again = none_of node nodes kept other [] again (inl (short_kept node nodes content kept at wrong.1 is, refl))
whole_in_front node nodes content kept at other (inr b) is again = none_of node nodes kept other b.broken.bodies again (inr (_, (_, up_to_at node nodes content kept at b is)))

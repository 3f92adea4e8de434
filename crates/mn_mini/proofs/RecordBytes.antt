-- Parts, participants and records: none is spelled as another.
use Rattle.std.proofs.Common.{◌≡◌, ℕ, Bool, true, false, List, [], ◌∷◌, ◌++◌, length, refl, ap, sym, ◌∙◌, arith, append_assoc, append-nil, subst}
use Rattle.std.specs.List.{flat_map}
use Rattle.byteorder.specs.Endian.{big_bytes}
use Rattle.mn_base.specs.declared.ids.NodeNo.{NodeNo}
use Rattle.mn_base.specs.declared.ids.Tid.{Tid}
use Rattle.mn_mini.specs.declared.part.PartItem.{PartItem}
use Rattle.mn_mini.specs.declared.record.Record.{Record}
use Rattle.mn_mini.specs.declared.record.Record.TheVariants.{Voted, Executed, Decided, Forced}
use Rattle.mn_mini.specs.Mini.{has_write}
use Rattle.mn_mini.specs.RecordGrammar.{item_bytes, part_bytes, participants_bytes, numbers_of, verdict_byte, tid_bytes, record_kind, head_bytes, behind_tid, record_bytes, IsPart, AreParticipants, MayBegin, MayFollow, HasTid, IsRecord, Begins, NoneBegins, BodyFollows, NoneGoesOn, Spells, SpellsNone, IsTid}
use Rattle.mn_mini.proofs.RecordGrammar.{cut, number_once, tid_once}
use Rattle.mn_mini.proofs.ItemLists.{items_once}

pub part_once : (p q : List PartItem) (a b : List ℕ) → IsPart p → IsPart q → part_bytes p ++ a ≡ part_bytes q ++ b → (p ≡ q) × (a ≡ b)
part_once p q a b is_p is_q e =
    let counts = number_once 2 (length p) (length q) (flat_map item_bytes p ++ a) (flat_map item_bytes q ++ b) (omega (arith, is_p.few)) (omega (arith, is_q.few))
    (sym (append_assoc (big_bytes 2 (length p)) (flat_map item_bytes p) a) ∙ e ∙ append_assoc (big_bytes 2 (length q)) (flat_map item_bytes q) b) in
    items_once p q a b counts.0 is_p.inside is_q.inside counts.1

numbers_once : (p q : List NodeNo) (a b : List ℕ) → length p ≡ length q → numbers_of p ++ a ≡ numbers_of q ++ b → (p ≡ q) × (a ≡ b)
numbers_once [] [] a b n e = (refl, e)
numbers_once [] (y ∷ q) a b n e = absurd (omega (arith, n))
numbers_once (x ∷ p) [] a b n e = absurd (omega (arith, n))
numbers_once (x ∷ p) (y ∷ q) a b n e =
    let both = cut (x.0 ∷ []) (y.0 ∷ []) (numbers_of p ++ a) (numbers_of q ++ b) refl e in
    let head : x.0 ≡ y.0 = (let told = both.0 in cc) in
    let same : x ≡ y = ap (λ (k : ℕ). let made : NodeNo = record { 0 = k } in made) head in
    let others = numbers_once p q a b (omega (arith, n)) both.1 in
    (ap (λ (i : NodeNo). i ∷ p) same ∙ ap (λ (l : List NodeNo). y ∷ l) others.0, others.1)

pub participants_once : (p q : List NodeNo) (a b : List ℕ) → participants_bytes p ++ a ≡ participants_bytes q ++ b → (p ≡ q) × (a ≡ b)
participants_once p q a b e =
    let both = cut (length p ∷ []) (length q ∷ []) (numbers_of p ++ a) (numbers_of q ++ b) refl e in
    let counts : length p ≡ length q = (let told = both.0 in cc) in
    numbers_once p q a b counts both.1

-- What may stand behind an id

-- no part, or more behind it, or no write: no execution
pub executed_no_part : (tid : Tid) (bytes : List ℕ) → NoneBegins IsPart part_bytes bytes → NoneGoesOn 2 tid bytes
executed_no_part tid bytes none (Voted t participants part) g = absurd (omega (arith, g.kind_is))
executed_no_part tid bytes none (Executed t part) g = none part [] (record { may = g.follows.0; spelled = g.spelled ∙ sym (append-nil (part_bytes part)) })
executed_no_part tid bytes none (Decided t verdict) g = absurd (omega (arith, g.kind_is))
executed_no_part tid bytes none (Forced t) g = absurd (omega (arith, g.kind_is))

-- the part of an execution that begins with this one is this one, with nothing behind
pub executed_part : (tid : Tid) (bytes rest : List ℕ) (part : List PartItem) → Begins IsPart part_bytes bytes part rest → (r : Record) → BodyFollows 2 tid bytes r → (rest ≡ []) × (has_write part ≡ true)
executed_part tid bytes rest part b (Voted t participants p) g = absurd (omega (arith, g.kind_is))
executed_part tid bytes rest part b (Executed t p) g =
    let once = part_once part p rest [] b.may g.follows.0 (sym b.spelled ∙ g.spelled ∙ sym (append-nil (part_bytes p))) in
    (once.1, ap has_write once.0 ∙ g.follows.1)
executed_part tid bytes rest part b (Decided t verdict) g = absurd (omega (arith, g.kind_is))
executed_part tid bytes rest part b (Forced t) g = absurd (omega (arith, g.kind_is))

pub voted_none : (tid : Tid) (bytes : List ℕ) → NoneBegins AreParticipants participants_bytes bytes → NoneGoesOn 1 tid bytes
voted_none tid bytes none (Voted t participants part) g = none participants (part_bytes part) (record { may = g.follows.0; spelled = g.spelled })
voted_none tid bytes none (Executed t part) g = absurd (omega (arith, g.kind_is))
voted_none tid bytes none (Decided t verdict) g = absurd (omega (arith, g.kind_is))
voted_none tid bytes none (Forced t) g = absurd (omega (arith, g.kind_is))

pub voted_no_part : (tid : Tid) (bytes behind : List ℕ) (participants : List NodeNo) → Begins AreParticipants participants_bytes bytes participants behind → NoneBegins IsPart part_bytes behind → NoneGoesOn 1 tid bytes
voted_no_part tid bytes behind participants b none (Voted t ps part) g =
    let once = participants_once participants ps behind (part_bytes part) (sym b.spelled ∙ g.spelled) in
    none part [] (record { may = g.follows.1; spelled = once.1 ∙ sym (append-nil (part_bytes part)) })
voted_no_part tid bytes behind participants b none (Executed t part) g = absurd (omega (arith, g.kind_is))
voted_no_part tid bytes behind participants b none (Decided t verdict) g = absurd (omega (arith, g.kind_is))
voted_no_part tid bytes behind participants b none (Forced t) g = absurd (omega (arith, g.kind_is))

-- nothing stands behind the part of a vote
pub voted_part : (tid : Tid) (bytes behind rest : List ℕ) (participants : List NodeNo) (part : List PartItem) → Begins AreParticipants participants_bytes bytes participants behind → Begins IsPart part_bytes behind part rest
    → (r : Record) → BodyFollows 1 tid bytes r → rest ≡ []
voted_part tid bytes behind rest participants part b c (Voted t ps p) g =
    let once = participants_once participants ps behind (part_bytes p) (sym b.spelled ∙ g.spelled) in
    (part_once part p rest [] c.may g.follows.1 (sym c.spelled ∙ once.1 ∙ sym (append-nil (part_bytes p)))).1
voted_part tid bytes behind rest participants part b c (Executed t p) g = absurd (omega (arith, g.kind_is))
voted_part tid bytes behind rest participants part b c (Decided t verdict) g = absurd (omega (arith, g.kind_is))
voted_part tid bytes behind rest participants part b c (Forced t) g = absurd (omega (arith, g.kind_is))

-- Records

verdict_once : (a b : Bool) → verdict_byte a ∷ [] ≡ verdict_byte b ∷ [] → a ≡ b
verdict_once true true e = refl
verdict_once true false e = cc
verdict_once false true e = cc
verdict_once false false e = refl

-- The id of a record

-- a record has an id, with which its bytes begin
record Named (r : Record) : Type 0 where
  tid : Tid
  of : HasTid tid r
  may : MayBegin r → IsTid tid
  head : head_bytes r ≡ tid_bytes tid

named : (r : Record) → Named r
named (Voted t participants part) = record { tid = t; of = refl; may = λ m. m; head = refl }
named (Executed t part) = record { tid = t; of = refl; may = λ m. m; head = refl }
named (Decided t verdict) = record { tid = t; of = refl; may = λ m. m; head = refl }
named (Forced t) = record { tid = t; of = refl; may = λ m. m; head = refl }

-- a record of this id begins with it
begins_with : (tid : Tid) (r : Record) → HasTid tid r → IsTid tid → MayBegin r × (head_bytes r ≡ tid_bytes tid)
begins_with tid (Voted t participants part) of is = (subst IsTid of is, ap tid_bytes (sym of))
begins_with tid (Executed t part) of is = (subst IsTid of is, ap tid_bytes (sym of))
begins_with tid (Decided t verdict) of is = (subst IsTid of is, ap tid_bytes (sym of))
begins_with tid (Forced t) of is = (subst IsTid of is, ap tid_bytes (sym of))

record_alike : (tid : Tid) (r s : Record) → record_kind r ≡ record_kind s → HasTid tid r → HasTid tid s
    → MayFollow r → MayFollow s → behind_tid r ≡ behind_tid s → r ≡ s
record_alike tid (Voted t ps p) (Voted u qs q) k h i f g e =
    let nodes = participants_once ps qs (part_bytes p) (part_bytes q) e in
    let parts = part_once p q [] [] f.1 g.1 (ap (λ (l : List ℕ). l ++ []) nodes.1) in
    ap (λ (n : Tid). Voted n ps p) (sym h ∙ i) ∙ ap (λ (l : List NodeNo). Voted u l p) nodes.0 ∙ ap (λ (l : List PartItem). Voted u qs l) parts.0
record_alike tid (Executed t p) (Executed u q) k h i f g e =
    let parts = part_once p q [] [] f.0 g.0 (ap (λ (l : List ℕ). l ++ []) e) in
    ap (λ (n : Tid). Executed n p) (sym h ∙ i) ∙ ap (λ (l : List PartItem). Executed u l) parts.0
record_alike tid (Decided t v) (Decided u w) k h i f g e = ap (λ (n : Tid). Decided n v) (sym h ∙ i) ∙ ap (λ (b : Bool). Decided u b) (verdict_once v w e)
record_alike tid (Forced t) (Forced u) k h i f g e = ap (λ (n : Tid). Forced n) (sym h ∙ i)
record_alike tid (Voted t ps p) (Executed u q) k h i f g e = absurd (omega (arith, k))
record_alike tid (Voted t ps p) (Decided u w) k h i f g e = absurd (omega (arith, k))
record_alike tid (Voted t ps p) (Forced u) k h i f g e = absurd (omega (arith, k))
record_alike tid (Executed t p) (Voted u qs q) k h i f g e = absurd (omega (arith, k))
record_alike tid (Executed t p) (Decided u w) k h i f g e = absurd (omega (arith, k))
record_alike tid (Executed t p) (Forced u) k h i f g e = absurd (omega (arith, k))
record_alike tid (Decided t v) (Voted u qs q) k h i f g e = absurd (omega (arith, k))
record_alike tid (Decided t v) (Executed u q) k h i f g e = absurd (omega (arith, k))
record_alike tid (Decided t v) (Forced u) k h i f g e = absurd (omega (arith, k))
record_alike tid (Forced t) (Voted u qs q) k h i f g e = absurd (omega (arith, k))
record_alike tid (Forced t) (Executed u q) k h i f g e = absurd (omega (arith, k))
record_alike tid (Forced t) (Decided u w) k h i f g e = absurd (omega (arith, k))

pub record_once : (r s : Record) → IsRecord r → IsRecord s → record_bytes r ≡ record_bytes s → r ≡ s
record_once r s is_r is_s e =
    let of_r = named r in
    let of_s = named s in
    let both = cut (record_kind r ∷ []) (record_kind s ∷ []) (head_bytes r ++ behind_tid r) (head_bytes s ++ behind_tid s) refl e in
    let kinds : record_kind r ≡ record_kind s = (let told = both.0 in cc) in
    let ids = tid_once of_r.tid of_s.tid (behind_tid r) (behind_tid s) (of_r.may is_r.id) (of_s.may is_s.id)
    (ap (λ (l : List ℕ). l ++ behind_tid r) (sym of_r.head) ∙ (both.1 ∙ ap (λ (l : List ℕ). l ++ behind_tid s) of_s.head)) in
    record_alike of_r.tid r s kinds of_r.of (subst (λ (t : Tid). HasTid t s) (sym ids.0) of_s.of) is_r.follows is_s.follows ids.1

-- what is behind the kind of a spelled record
record Parted (kind : ℕ) (behind : List ℕ) (r : Record) : Type 0 where
  kind_is : kind ≡ record_kind r
  tid : Tid
  of : HasTid tid r
  begins : Begins IsTid tid_bytes behind tid (behind_tid r)

record_parts : (kind : ℕ) (behind : List ℕ) (r : Record) → Spells (kind ∷ behind) r → Parted kind behind r
record_parts kind behind r spells =
    let of_r = named r in
    let both = cut (kind ∷ []) (record_kind r ∷ []) behind (head_bytes r ++ behind_tid r) refl spells.spelled in
    let kinds : kind ≡ record_kind r = (let told = both.0 in cc) in
    record {
      kind_is = kinds;
      tid = of_r.tid;
      of = of_r.of;
      begins = record { may = of_r.may spells.may.id; spelled = both.1 ∙ ap (λ (l : List ℕ). l ++ behind_tid r) of_r.head };
    }

-- where the bytes behind the id go on as no record of the kind, no record is spelled
pub record_goes_on : (kind : ℕ) (behind rest : List ℕ) (tid : Tid) → Begins IsTid tid_bytes behind tid rest → NoneGoesOn kind tid rest → SpellsNone (kind ∷ behind)
record_goes_on kind behind rest tid b none = λ r spells.
    let parts = record_parts kind behind r spells in
    let once = tid_once tid parts.tid rest (behind_tid r) b.may parts.begins.may (sym b.spelled ∙ parts.begins.spelled) in
    none r (record { kind_is = parts.kind_is; tid_is = subst (λ (t : Tid). HasTid t r) (sym once.0) parts.of; follows = spells.may.follows; spelled = once.1 })

pub record_spelled : (kind : ℕ) (behind rest : List ℕ) (tid : Tid) (r : Record) → Begins IsTid tid_bytes behind tid rest → BodyFollows kind tid rest r → Spells (kind ∷ behind) r
record_spelled kind behind rest tid r b g =
    let begun = begins_with tid r g.tid_is b.may in
    record {
      may = record { id = begun.0; follows = g.follows };
      spelled = ap (λ (k : ℕ). k ∷ behind) g.kind_is
          ∙ ap (λ (l : List ℕ). record_kind r ∷ l) (b.spelled ∙ (ap (λ (l : List ℕ). l ++ rest) (sym begun.1) ∙ ap (λ (l : List ℕ). head_bytes r ++ l) g.spelled));
    }

-- What the lock table refuses is what the held parts refuse.
use Rattle.std.proofs.Common.{◌≡◌, ℕ, Bool, true, false, not, ◌&&◌, ◌||◌, List, [], ◌∷◌, ◌++◌, map, reverse, Option, Some, None, refl, ap, sym, ◌∙◌, append-nil, if◌then◌else◌}
use Rattle.std.specs.List.{list_any, flat_map}
use Rattle.std.proofs.lemmas.Bool.{and_parts, false≢true}
use Rattle.std.proofs.lemmas.List.{reverse-append}
use Rattle.std.proofs.lemmas.Grind.{flat_map-append}
use Rattle.mn_base.specs.Ids.{tid_same, tid_lt}
use Rattle.mn_base.specs.declared.ids.Tid.{Tid}
use Rattle.mn_base.specs.declared.ids.Range.{Range}
use Rattle.mn_mini.specs.declared.part.PartItem.{PartItem}
use Rattle.mn_mini.specs.declared.part.PartItem.TheVariants.{Compare, Read, Write}
use Rattle.mn_mini.specs.Mini.{range_of, is_write, items_conflict, item_conflicts_with}
use Rattle.mn_base.specs.Ranges.{lesser_tid, least_tid}
use Rattle.mn_mini.specs.Node.{HeldPart, Clash, clash_or, clash_of, holders}
use Rattle.mn_mini.specs.RecordGrammar.{are_in_order}
use Rattle.mn_locks.specs.declared.hold.Hold.{Hold}
use Rattle.mn_locks.specs.declared.hold.Held.{Held}
use Rattle.mn_locks.specs.Locks as Table
use Rattle.mn_node.specs.Part.{shared_of, alone_of, part_holds, holds_by, as_clash}
use Rattle.mn_node.proofs.Tids.{tid_lt-asym, tid_lt-trans, tid_lt-total}

-- The least of ids

abbrev least_with : Option Tid → Option Tid → Option Tid
least_with None y = y
least_with (Some a) y = Some (lesser_tid a y)

lesser_turned : (a b : Tid) (x y : Bool) → tid_lt b a ≡ x → tid_lt a b ≡ y → lesser_tid a (Some b) ≡ lesser_tid b (Some a)
lesser_turned a b true true e f = cc (tid_lt-asym b a e)
lesser_turned a b true false e f = ap (λ (s : Bool). if s then b else a) e ∙ sym (ap (λ (s : Bool). if s then a else b) f)
lesser_turned a b false true e f = ap (λ (s : Bool). if s then b else a) e ∙ sym (ap (λ (s : Bool). if s then a else b) f)
lesser_turned a b false false e f = ap (λ (s : Bool). if s then b else a) e ∙ tid_lt-total a b f e ∙ sym (ap (λ (s : Bool). if s then a else b) f)

least_with-turned : (x y : Option Tid) → least_with x y ≡ least_with y x
least_with-turned None None = refl
least_with-turned None (Some b) = refl
least_with-turned (Some a) None = refl
least_with-turned (Some a) (Some b) = ap (λ (t : Tid). Some t) (lesser_turned a b (tid_lt b a) (tid_lt a b) refl refl)

-- lesser with the tests told
lesser_is : (a b : Tid) (x : Bool) → tid_lt b a ≡ x → lesser_tid a (Some b) ≡ (if x then b else a)
lesser_is a b x e = ap (λ (s : Bool). if s then b else a) e

-- below a, not below b: then b is below a
between : (a b c : Tid) (x : Bool) → tid_lt a b ≡ x → tid_lt b a ≡ false → tid_lt c b ≡ false → tid_lt c a ≡ true → ⊥
between a b c true e f g h = false≢true (sym g ∙ tid_lt-trans c a b h e)
between a b c false e f g h = false≢true (sym g ∙ ap (λ (t : Tid). tid_lt c t) (sym (tid_lt-total a b e f)) ∙ h)

lesser-assoc : (a b c : Tid) (x y z : Bool) → tid_lt b a ≡ x → tid_lt c b ≡ y → tid_lt c a ≡ z → lesser_tid a (Some (lesser_tid b (Some c))) ≡ lesser_tid (lesser_tid a (Some b)) (Some c)
lesser-assoc a b c true true z e f g =
    let ca = tid_lt-trans c b a f e in
    ap (λ (t : Tid). lesser_tid a (Some t)) (lesser_is b c true f) ∙ lesser_is a c true ca ∙ sym (ap (λ (t : Tid). lesser_tid t (Some c)) (lesser_is a b true e) ∙ lesser_is b c true f)
lesser-assoc a b c false true z e f g =
    ap (λ (t : Tid). lesser_tid a (Some t)) (lesser_is b c true f) ∙ sym (ap (λ (t : Tid). lesser_tid t (Some c)) (lesser_is a b false e))
lesser-assoc a b c true false z e f g =
    ap (λ (t : Tid). lesser_tid a (Some t)) (lesser_is b c false f) ∙ lesser_is a b true e ∙ sym (ap (λ (t : Tid). lesser_tid t (Some c)) (lesser_is a b true e) ∙ lesser_is b c false f)
lesser-assoc a b c false false false e f g =
    ap (λ (t : Tid). lesser_tid a (Some t)) (lesser_is b c false f) ∙ lesser_is a b false e ∙ sym (ap (λ (t : Tid). lesser_tid t (Some c)) (lesser_is a b false e) ∙ lesser_is a c false g)
lesser-assoc a b c false false true e f g = absurd (between a b c (tid_lt a b) refl e f g)

least_with-assoc : (x y z : Option Tid) → least_with x (least_with y z) ≡ least_with (least_with x y) z
least_with-assoc None y z = refl
least_with-assoc (Some a) None z = refl
least_with-assoc (Some a) (Some b) None = refl
least_with-assoc (Some a) (Some b) (Some c) = ap (λ (t : Tid). Some t) (lesser-assoc a b c (tid_lt b a) (tid_lt c b) (tid_lt c a) refl refl refl)

least-append : (xs ys : List Tid) → least_tid (xs ++ ys) ≡ least_with (least_tid xs) (least_tid ys)
least-append [] ys = refl
least-append (x ∷ xs) ys = ap (λ (l : Option Tid). least_with (Some x) l) (least-append xs ys) ∙ least_with-assoc (Some x) (least_tid xs) (least_tid ys)

-- The holders of what one id holds

if_same : (t : Tid) (x : Bool) → (if x then t else t) ≡ t
if_same t true = refl
if_same t false = refl

lesser_own : (t : Tid) (x : Bool) → lesser_tid t (if x then Some t else None) ≡ t
lesser_own t true = if_same t (tid_lt t t)
lesser_own t false = refl

-- a range and what an id holds in this way
abbrev hits : Tid → Bool → Range → Tid → Bool → List Range → Bool
hits tid alone range t kind ranges = list_any (λ r. Table.conflicts tid alone range (Table.hold_of t kind r)) ranges

one_more : (t : Tid) (ts : List Tid) (b x : Bool) → least_tid ts ≡ (if x then Some t else None) → least_tid (if b then t ∷ ts else ts) ≡ (if b || x then Some t else None)
one_more t ts true x e = ap (λ (u : Tid). Some u) (ap (λ (l : Option Tid). lesser_tid t l) e ∙ lesser_own t x)
one_more t ts false x e = e

one_way : (tid : Tid) (alone : Bool) (range : Range) (t : Tid) (kind : Bool) (ranges : List Range)
    → least_tid (Table.holders tid alone range (map (Table.hold_of t kind) ranges)) ≡ (if hits tid alone range t kind ranges then Some t else None)
one_way tid alone range t kind [] = refl
one_way tid alone range t kind (r ∷ ranges) =
    one_more t (Table.holders tid alone range (map (Table.hold_of t kind) ranges)) (Table.conflicts tid alone range (Table.hold_of t kind r)) (hits tid alone range t kind ranges) (one_way tid alone range t kind ranges)

cons_if : (b : Bool) (t : Tid) (ts us : List Tid) → (if b then t ∷ (ts ++ us) else ts ++ us) ≡ (if b then t ∷ ts else ts) ++ us
cons_if true t ts us = refl
cons_if false t ts us = refl

holders-append : (tid : Tid) (alone : Bool) (range : Range) (xs ys : List Hold) → Table.holders tid alone range (xs ++ ys) ≡ Table.holders tid alone range xs ++ Table.holders tid alone range ys
holders-append tid alone range [] ys = refl
holders-append tid alone range (x ∷ xs) ys =
    ap (λ (l : List Tid). if Table.conflicts tid alone range x then x.tid ∷ l else l) (holders-append tid alone range xs ys)
    ∙ cons_if (Table.conflicts tid alone range x) x.tid (Table.holders tid alone range xs) (Table.holders tid alone range ys)

both_ways : (t : Tid) (x y : Bool) → least_with (if x then Some t else None) (if y then Some t else None) ≡ (if x || y then Some t else None)
both_ways t true y = ap (λ (u : Tid). Some u) (lesser_own t y)
both_ways t false y = refl

least_of_part : (tid : Tid) (alone : Bool) (range : Range) (h : HeldPart)
    → least_tid (Table.holders tid alone range (part_holds h)) ≡ (if hits tid alone range h.tid false (shared_of h.part) || hits tid alone range h.tid true (alone_of h.part) then Some h.tid else None)
least_of_part tid alone range h =
    let shared = map (Table.hold_of h.tid false) (shared_of h.part) in
    let apart = map (Table.hold_of h.tid true) (alone_of h.part) in
    ap least_tid (holders-append tid alone range shared apart)
    ∙ least-append (Table.holders tid alone range shared) (Table.holders tid alone range apart)
    ∙ ap (λ (l : Option Tid). least_with l (least_tid (Table.holders tid alone range apart))) (one_way tid alone range h.tid false (shared_of h.part))
    ∙ ap (λ (l : Option Tid). least_with (if hits tid alone range h.tid false (shared_of h.part) then Some h.tid else None) l) (one_way tid alone range h.tid true (alone_of h.part))
    ∙ both_ways h.tid (hits tid alone range h.tid false (shared_of h.part)) (hits tid alone range h.tid true (alone_of h.part))

-- An item against a held part

or_first : (n g a b c : Bool) → (a || b) ≡ (n && c) → (((n && g) || a) || b) ≡ (n && (g || c))
or_first true true a b c e = refl
or_first true false a b c e = e
or_first false true a b c e = e
or_first false false a b c e = e

or_last : (n g a b c : Bool) → (a || b) ≡ (n && c) → (a || ((n && g) || b)) ≡ (n && (g || c))
or_last true true true b c e = refl
or_last true true false b c e = refl
or_last true false a b c e = e
or_last false true a b c e = e
or_last false false a b c e = e

and_nothing : (n : Bool) → false ≡ (n && false)
and_nothing true = refl
and_nothing false = refl

hits_part : (item : PartItem) (tid t : Tid) (part : List PartItem)
    → (hits tid (is_write item) (range_of item) t false (shared_of part) || hits tid (is_write item) (range_of item) t true (alone_of part)) ≡ (not (tid_same t tid) && item_conflicts_with item part)
hits_part item tid t [] = and_nothing (not (tid_same t tid))
hits_part item tid t (Compare start bytes ∷ part) =
    or_first (not (tid_same t tid)) (items_conflict item (Compare start bytes)) (hits tid (is_write item) (range_of item) t false (shared_of part)) (hits tid (is_write item) (range_of item) t true (alone_of part)) (item_conflicts_with item part) (hits_part item tid t part)
hits_part item tid t (Read start size ∷ part) =
    or_first (not (tid_same t tid)) (items_conflict item (Read start size)) (hits tid (is_write item) (range_of item) t false (shared_of part)) (hits tid (is_write item) (range_of item) t true (alone_of part)) (item_conflicts_with item part) (hits_part item tid t part)
hits_part item tid t (Write start bytes ∷ part) =
    or_last (not (tid_same t tid)) (items_conflict item (Write start bytes)) (hits tid (is_write item) (range_of item) t false (shared_of part)) (hits tid (is_write item) (range_of item) t true (alone_of part)) (item_conflicts_with item part) (hits_part item tid t part)

-- All held parts

least_cons : (c : Bool) (t : Tid) (ts : List Tid) → least_with (least_tid ts) (if c then Some t else None) ≡ least_tid (if c then t ∷ ts else ts)
least_cons true t ts = least_with-turned (least_tid ts) (Some t)
least_cons false t ts = least_with-turned (least_tid ts) None

pub holds_by-cons : (h : HeldPart) (hs : List HeldPart) → holds_by (h ∷ hs) ≡ holds_by hs ++ part_holds h
holds_by-cons h hs =
    ap (flat_map part_holds) (reverse-append (h ∷ []) hs) ∙ flat_map-append part_holds (reverse hs) (h ∷ []) ∙ ap (λ (l : List Hold). holds_by hs ++ l) (append-nil (part_holds h))

least_same : (item : PartItem) (tid : Tid) (hs : List HeldPart) → least_tid (Table.holders tid (is_write item) (range_of item) (holds_by hs)) ≡ least_tid (holders hs tid item)
least_same item tid [] = refl
least_same item tid (h ∷ hs) =
    let alone = is_write item in
    let range = range_of item in
    ap (λ (l : List Hold). least_tid (Table.holders tid alone range l)) (holds_by-cons h hs)
    ∙ ap least_tid (holders-append tid alone range (holds_by hs) (part_holds h))
    ∙ least-append (Table.holders tid alone range (holds_by hs)) (Table.holders tid alone range (part_holds h))
    ∙ ap (λ (l : Option Tid). least_with l (least_tid (Table.holders tid alone range (part_holds h)))) (least_same item tid hs)
    ∙ ap (λ (l : Option Tid). least_with (least_tid (holders hs tid item)) l) (least_of_part tid alone range h)
    ∙ ap (λ (c : Bool). least_with (least_tid (holders hs tid item)) (if c then Some h.tid else None)) (hits_part item tid h.tid h.part)
    ∙ least_cons (not (tid_same h.tid tid) && item_conflicts_with item h.part) h.tid (holders hs tid item)

-- All items of a part

told : (item : PartItem) (t : Option Tid) (rest : Option Held) (clash : Option Clash) → as_clash rest ≡ clash → as_clash (Table.held_or (range_of item) t rest) ≡ clash_or item t clash
told item None rest clash e = e
told item (Some t) rest clash e = refl

told_least : (item : PartItem) (tid : Tid) (hs : List HeldPart) (rest : Option Held) (clash : Option Clash) → as_clash rest ≡ clash
    → as_clash (Table.held_or (range_of item) (least_tid (Table.holders tid (is_write item) (range_of item) (holds_by hs))) rest) ≡ clash_or item (least_tid (holders hs tid item)) clash
told_least item tid hs rest clash e =
    ap (λ (t : Option Tid). as_clash (Table.held_or (range_of item) t rest)) (least_same item tid hs)
    ∙ told item (least_tid (holders hs tid item)) rest clash e

-- behind a write stand writes alone
no_shared : (items : List PartItem) → are_in_order 3 items ≡ true → shared_of items ≡ []
no_shared [] e = refl
no_shared (Compare start bytes ∷ items) e = absurd (false≢true e)
no_shared (Read start size ∷ items) e = absurd (false≢true e)
no_shared (Write start bytes ∷ items) e = no_shared items e

-- the table refuses a part as its held parts do
pub tie : (hs : List HeldPart) (tid : Tid) (kind : ℕ) (part : List PartItem) → are_in_order kind part ≡ true → as_clash (Table.held_of (holds_by hs) tid (shared_of part) (alone_of part)) ≡ clash_of hs tid part
tie hs tid kind [] e = refl
tie hs tid kind (Compare start bytes ∷ part) e =
    told_least (Compare start bytes) tid hs (Table.held_of (holds_by hs) tid (shared_of part) (alone_of part)) (clash_of hs tid part) (tie hs tid 1 part (and_parts _ _ e).1)
tie hs tid kind (Read start size ∷ part) e =
    told_least (Read start size) tid hs (Table.held_of (holds_by hs) tid (shared_of part) (alone_of part)) (clash_of hs tid part) (tie hs tid 2 part (and_parts _ _ e).1)
tie hs tid kind (Write start bytes ∷ part) e =
    let order = (and_parts _ _ e).1 in
    let none = no_shared part order in
    let rest : as_clash (Table.held_of (holds_by hs) tid [] (alone_of part)) ≡ clash_of hs tid part = ap (λ (l : List Range). as_clash (Table.held_of (holds_by hs) tid l (alone_of part))) (sym none) ∙ tie hs tid 3 part order in
    ap (λ (l : List Range). as_clash (Table.held_of (holds_by hs) tid l (range_of (Write start bytes) ∷ alone_of part))) none
    ∙ told_least (Write start bytes) tid hs (Table.held_of (holds_by hs) tid [] (alone_of part)) (clash_of hs tid part) rest

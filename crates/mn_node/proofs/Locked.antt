-- The parts of held votes, locked one after the other.
use Rattle.std.proofs.Common.{◌≡◌, ◌+◌, arith, length, ℕ, Bool, true, false, not, ◌&&◌, List, [], ◌∷◌, ◌++◌, reverse, take, drop, Option, Some, None, refl, ap, sym, ◌∙◌, subst, if◌then◌else◌}
use Rattle.std.specs.List.{AllByRecursion}
use Rattle.std.proofs.lemmas.List.{reverse-append, reverse-reverse, take-append-drop}
use Rattle.mn_base.specs.Ids.{tid_same}
use Rattle.mn_base.specs.declared.ids.Tid.{Tid}
use Rattle.mn_base.specs.Ranges.{least_tid}
use Rattle.mn_base.proofs.Booleans.{or_split}
use Rattle.mn_mini.specs.declared.part.PartItem.{PartItem}
use Rattle.mn_mini.specs.declared.part.PartItem.TheVariants.{Compare, Read, Write}
use Rattle.mn_mini.specs.declared.record.Record.{Record}
use Rattle.mn_mini.specs.Laws.{PartsAreApart}
use Rattle.mn_mini.specs.Mini.{item_conflicts_with, parts_conflict}
use Rattle.mn_mini.specs.Node.{HeldPart, held_parts, holders, clash_of, clash_or}
use Rattle.mn_mini.specs.RecordGrammar.{IsRecord, IsPart}
use Rattle.mn_locks.specs.declared.hold.Hold.{Hold}
use Rattle.mn_locks.specs.declared.hold.Held.{Held}
use Rattle.mn_locks.specs.Locks.{held_of}
use Rattle.mn_node.specs.declared.held.Vote.{Vote}
use Rattle.mn_node.specs.Held.{IsVoteFor}
use Rattle.mn_node.specs.Part.{shared_of, alone_of, part_holds, holds_by, as_clash}
use Rattle.mn_node.proofs.Ties.{holds_by-cons, tie}
use Rattle.mn_node.proofs.Votes.{first_held_parts, part_sound}

-- each item has one range
pub ranges_of_items : (items : List PartItem) → length (shared_of items) + length (alone_of items) ≡ length items
ranges_of_items [] = refl
ranges_of_items (Compare start bytes ∷ items) =
    let rest : length (shared_of items) + length (alone_of items) ≡ length items = ranges_of_items items in
    omega arith
ranges_of_items (Read start size ∷ items) =
    let rest : length (shared_of items) + length (alone_of items) ≡ length items = ranges_of_items items in
    omega arith
ranges_of_items (Write start bytes ∷ items) =
    let rest : length (shared_of items) + length (alone_of items) ≡ length items = ranges_of_items items in
    omega arith

-- A part that stands apart from others is free of them

abbrev IsApartFrom : Tid → List PartItem → HeldPart → Type 0
IsApartFrom tid part g = tid_same g.tid tid ≡ false → parts_conflict part g.part ≡ false

abbrev IsItemApart : Tid → PartItem → HeldPart → Type 0
IsItemApart tid item g = tid_same g.tid tid ≡ false → item_conflicts_with item g.part ≡ false

first_item : (tid : Tid) (item : PartItem) (part : List PartItem) (hs : List HeldPart) → AllByRecursion (IsApartFrom tid (item ∷ part)) hs → AllByRecursion (IsItemApart tid item) hs × AllByRecursion (IsApartFrom tid part) hs
first_item tid item part [] p = (tt, tt)
first_item tid item part (h ∷ hs) p =
    let rest = first_item tid item part hs p.1 in (
      (λ other. (or_split (item_conflicts_with item h.part) (parts_conflict part h.part) (p.0 other)).0, rest.0),
      (λ other. (or_split (item_conflicts_with item h.part) (parts_conflict part h.part) (p.0 other)).1, rest.1),
    )

no_holders : (tid : Tid) (item : PartItem) (hs : List HeldPart) → AllByRecursion (IsItemApart tid item) hs → holders hs tid item ≡ []
no_holders tid item [] p = refl
no_holders tid item (h ∷ hs) p = of (tid_same h.tid tid) refl (no_holders tid item hs p.1)
  where
    none : (b : Bool) → b ≡ false → (rest : List Tid) → rest ≡ [] → (if b then h.tid ∷ rest else rest) ≡ []
    none true e rest f = absurd cc
    none false e rest f = f

    of : (b : Bool) → tid_same h.tid tid ≡ b → holders hs tid item ≡ [] → (if not b && item_conflicts_with item h.part then h.tid ∷ holders hs tid item else holders hs tid item) ≡ []
    of true e ih = ih
    of false e ih = none (item_conflicts_with item h.part) (p.0 e) (holders hs tid item) ih

apart_clash : (hs : List HeldPart) (tid : Tid) (part : List PartItem) → AllByRecursion (IsApartFrom tid part) hs → clash_of hs tid part ≡ None
apart_clash hs tid [] p = refl
apart_clash hs tid (item ∷ part) p =
    let both = first_item tid item part hs p in
    ap (λ (l : List Tid). clash_or item (least_tid l) (clash_of hs tid part)) (no_holders tid item hs both.0) ∙ apart_clash hs tid part both.1

apart_rest : (xs ys : List HeldPart) → PartsAreApart (xs ++ ys) → PartsAreApart ys
apart_rest [] ys p = p
apart_rest (x ∷ xs) ys p = apart_rest xs ys p.1

not_told : (x : Option Held) → as_clash x ≡ None → x ≡ None
not_told None e = refl
not_told (Some held) e = absurd cc

-- the parts of the first votes stand apart too
apart_first : (records : List Record) (n : ℕ) → PartsAreApart (held_parts (reverse records)) → PartsAreApart (first_held_parts records n)
apart_first records n apart =
    let hs = reverse (held_parts (reverse records)) in
    let order : held_parts (reverse records) ≡ reverse (drop n hs) ++ reverse (take n hs) =
    sym (reverse-reverse (held_parts (reverse records))) ∙ ap (λ (l : List HeldPart). reverse l) (sym (take-append-drop n hs)) ∙ reverse-append (take n hs) (drop n hs) in
    apart_rest (reverse (drop n hs)) (reverse (take n hs)) (subst PartsAreApart order apart)

free_part : (hs : List HeldPart) (h : HeldPart) → PartsAreApart (h ∷ hs) → IsPart h.part → held_of (holds_by hs) h.tid (shared_of h.part) (alone_of h.part) ≡ None
free_part hs h apart is =
    let clash = apart_clash hs h.tid h.part apart.0 in
    not_told (held_of (holds_by hs) h.tid (shared_of h.part) (alone_of h.part)) (tie hs h.tid 1 h.part is.order ∙ clash)

-- the next vote's part is free to lock
pub next_free : (records : List Record) (n : ℕ) (v : Vote) (holds : List Hold) (next : (h : HeldPart) × IsVoteFor records v h × (first_held_parts records (n + 1) ≡ h ∷ first_held_parts records n))
    → AllByRecursion IsRecord records → PartsAreApart (held_parts (reverse records)) → holds ≡ holds_by (first_held_parts records n)
    → (h : HeldPart) × IsVoteFor records v h × (held_of holds h.tid (shared_of h.part) (alone_of h.part) ≡ None)
next_free records n v holds next sound apart e =
    let h = next.0 in
    let both = subst PartsAreApart next.2 (apart_first records (n + 1) apart) in
    (h, next.1, ap (λ (l : List Hold). held_of l h.tid (shared_of h.part) (alone_of h.part)) e ∙ free_part (first_held_parts records n) h both (part_sound records v h sound next.1))

pub next_locked : (records : List Record) (n : ℕ) (v : Vote) (old new : List Hold) (next : (h : HeldPart) × IsVoteFor records v h × (first_held_parts records (n + 1) ≡ h ∷ first_held_parts records n))
    → ((h : HeldPart) → IsVoteFor records v h → new ≡ old ++ part_holds h) → old ≡ holds_by (first_held_parts records n) → new ≡ holds_by (first_held_parts records (n + 1))
next_locked records n v old new next told before =
    let h = next.0 in
    told h next.1 ∙ ap (λ (l : List Hold). l ++ part_holds h) before ∙ sym (holds_by-cons h (first_held_parts records n)) ∙ sym (ap (λ (l : List HeldPart). holds_by l) next.2)

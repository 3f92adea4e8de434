-- Records of which a first part is shortened are opened with the same store.
use Rattle.std.proofs.Common.{◌≡◌, ◌<◌, inl, inr, ℕ, zero, suc, ◌+◌, Bool, true, false, not, ◌&&◌, ◌||◌, List, [], ◌∷◌, ◌++◌, map, reverse, Option, Some, None, refl, ap, ap₂, sym, ◌∙◌, subst, arith, if◌then◌else◌}
use Rattle.std.specs.Prelude.{Contains, is_some}
use Rattle.std.specs.List.{list_any, list_all, AllByRecursion, range_with_len}
use Rattle.std.specs.Option.{option_map_or}
use Rattle.std.proofs.lemmas.List.{reverse-append}
use Rattle.mn_base.specs.Ids.{tid_same, node_numbers}
use Rattle.mn_base.specs.Ranges.{ranges_meet}
use Rattle.mn_base.specs.Store.{Store}
use Rattle.mn_base.specs.declared.ids.NodeNo.{NodeNo}
use Rattle.mn_base.specs.declared.ids.Tid.{Tid}
use Rattle.mn_base.proofs.Booleans.{clash, falsely, or_left, or_right, or_cases, or_split, not_true}
use Rattle.mn_base.proofs.Lists.{weaker, any_agree}
use Rattle.mn_mini.specs.declared.part.PartItem.{PartItem}
use Rattle.mn_mini.specs.declared.part.PartItem.TheVariants.{Compare, Read, Write}
use Rattle.mn_mini.specs.declared.record.Record.{Record}
use Rattle.mn_mini.specs.declared.record.Record.TheVariants.{Voted, Executed, Decided, Forced}
use Rattle.mn_mini.specs.Mini.{range_of, is_write, items_conflict, item_conflicts_with, parts_conflict}
use Rattle.mn_mini.specs.Node.{HeldPart, held_parts, held_part_of, is_held, is_of, has_voted, has_executed, has_decided_yes, has_decided_no, space_of, with_held}
use Rattle.mn_mini.specs.Laws.{IsLikeWhole}
use Rattle.mn_mini.specs.Short.{writes_just, remaining, first_read, Fate, Open, Dropped, Applied, fate_before, with_fate, or_first_read, kept_part, held_items, executed_over, shortened_below, all_open, shortened, short}
use Rattle.mn_mini.proofs.Short.{kept_held, shortened_holds}
use Rattle.mn_mini.proofs.ShortAlike.{any_falls, any_falls_behind, like_whole, turned_short}
use Rattle.mn_page.specs.Holds.{Holds}
use Rattle.mn_runs.specs.Seen.{Place}
use Rattle.mn_law.specs.Places.{IsNumbered, number_in, content_in, WritesWhole}
use Rattle.mn_runs.specs.Sound.{voted_participants, have_voted, is_committed, has_record, is_free, IsInPlace, AreInPlace, AreSound, memory_in}
use Rattle.mn_law.specs.Opened.{HeldAreGreater, IsOpened}
use Rattle.mn_serial.specs.Meaning.{IsShortenedFrom, ShortenedStaysOpened}
use Rattle.mn_commits.proofs.Bytes.Layers.{same_layers}
use Rattle.mn_commits.proofs.Bytes.Step.{held_voted}
use Rattle.mn_runs.proofs.Records.{voted_executed}

-- Kept parts conflict with no more

none_remain : (t : PartItem → Bool) (part over : List PartItem) → list_any t part ≡ false → list_any t (remaining part over) ≡ false
none_remain t [] over e = refl
none_remain t (Compare start bytes ∷ part) over e = none_remain t part over (or_split (t (Compare start bytes)) (list_any t part) e).1
none_remain t (Read start n ∷ part) over e = none_remain t part over (or_split (t (Read start n)) (list_any t part) e).1
none_remain t (Write start bytes ∷ part) over e =
    let s = or_split (t (Write start bytes)) (list_any t part) e in
    elim (list_any (writes_just (range_of (Write start bytes))) (part ++ over)) as (λ b. list_any t (if b then remaining part over else Write start bytes ∷ remaining part over) ≡ false) [
      | true ↦ none_remain t part over s.1
      | false ↦ ap₂ (λ (a b : Bool). a || b) s.0 (none_remain t part over s.1)
    ]

-- a test that reading passes no more often than the item itself
abbrev IsOfRange : (PartItem → Bool) → Type 0
IsOfRange t = (item : PartItem) → t item ≡ false → t (Read (range_of item).start (range_of item).length) ≡ false

none_read : (t : PartItem → Bool) → IsOfRange t → (part : List PartItem) → list_any t part ≡ false → list_any t (first_read part) ≡ false
none_read t of_range [] e = refl
none_read t of_range (item ∷ part) e = ap (λ (b : Bool). b || false) (of_range item (or_split (t item) (list_any t part) e).0)

none_kept : (t : PartItem → Bool) → IsOfRange t → (fate : Fate) (part : List PartItem) → list_any t part ≡ false → list_any t (kept_part fate part) ≡ false
none_kept t of_range Open part e = e
none_kept t of_range Dropped part e = none_read t of_range part e
none_kept t of_range (Applied over) part e = of (remaining part over) (none_remain t part over e)
  where
    of : (items : List PartItem) → list_any t items ≡ false → list_any t (or_first_read part items) ≡ false
    of [] f = none_read t of_range part e
    of (item ∷ items) f = f

meets_no_more : (m w v : Bool) → (m && (w || v)) ≡ false → (m && (w || false)) ≡ false
meets_no_more true true v e = e
meets_no_more true false v e = refl
meets_no_more false w v e = refl

meets_no_more_left : (m w v : Bool) → (m && (v || w)) ≡ false → (m && w) ≡ false
meets_no_more_left true w true e = absurd cc
meets_no_more_left true w false e = e
meets_no_more_left false w v e = refl

read_beside : (a : PartItem) → IsOfRange (items_conflict a)
read_beside a (Compare start bytes) e = meets_no_more (ranges_meet (range_of a) (range_of (Compare start bytes))) (is_write a) false e
read_beside a (Read start n) e = e
read_beside a (Write start bytes) e = meets_no_more (ranges_meet (range_of a) (range_of (Write start bytes))) (is_write a) true e

read_against : (b item : PartItem) → items_conflict item b ≡ false → items_conflict (Read (range_of item).start (range_of item).length) b ≡ false
read_against b (Compare start bytes) e = e
read_against b (Read start n) e = e
read_against b (Write start bytes) e = meets_no_more_left (ranges_meet (range_of (Write start bytes)) (range_of b)) (is_write b) true e

read_against_all : (q : List PartItem) → IsOfRange (λ item. item_conflicts_with item q)
read_against_all [] item e = refl
read_against_all (b ∷ q) item e =
    let s = or_split (items_conflict item b) (item_conflicts_with item q) e in
    ap₂ (λ (x y : Bool). x || y) (read_against b item s.0) (read_against_all q item s.1)

-- what a part does not meet it does not meet once that is kept
apart_from_kept : (fate : Fate) (part held : List PartItem) → parts_conflict part held ≡ false → parts_conflict part (kept_part fate held) ≡ false
apart_from_kept fate [] held e = refl
apart_from_kept fate (a ∷ part) held e =
    let s = or_split (item_conflicts_with a held) (parts_conflict part held) e in
    ap₂ (λ (x y : Bool). x || y) (none_kept (items_conflict a) (read_beside a) fate held s.0) (apart_from_kept fate part held s.1)

kept_apart : (fate : Fate) (part held : List PartItem) → parts_conflict part held ≡ false → parts_conflict (kept_part fate part) held ≡ false
kept_apart fate part held e = none_kept (λ item. item_conflicts_with item held) (read_against_all held) fate part e

remaining_apart : (part over held : List PartItem) → parts_conflict part held ≡ false → parts_conflict (remaining part over) held ≡ false
remaining_apart part over held e = none_remain (λ item. item_conflicts_with item held) part over e

-- a part and what is left of it
abbrev MeetsNoMore : List PartItem → List PartItem → Type 0
MeetsNoMore left part = (held : List PartItem) → parts_conflict part held ≡ false → parts_conflict left held ≡ false

none_of_kept : (left part : List PartItem) → MeetsNoMore left part → (fates : Tid → Fate) (hs : List HeldPart) → list_any (λ h. parts_conflict part h.part) hs ≡ false → list_any (λ h. parts_conflict left h.part) (kept_held fates hs) ≡ false
none_of_kept left part fewer fates [] e = refl
none_of_kept left part fewer fates (h ∷ hs) e =
    let s = or_split (parts_conflict part h.part) (list_any (λ g. parts_conflict part g.part) hs) e in
    ap₂ (λ (x y : Bool). x || y) (apart_from_kept (fates h.tid) left h.part (fewer h.part s.0)) (none_of_kept left part fewer (with_fate h.tid (fate_before (fates h.tid) h.part) fates) hs s.1)

free_stays : (left part : List PartItem) → MeetsNoMore left part → (fates : Tid → Fate) (hs : List HeldPart) → is_free hs part ≡ true → is_free (kept_held fates hs) left ≡ true
free_stays left part fewer fates hs e = ap not (none_of_kept left part fewer fates hs (not_true (list_any (λ h. parts_conflict part h.part) hs) e))

-- Records stay in place

-- where no record is of the id none of the shortened list is
no_record : (t : Tid) (over : List PartItem) (fates : Tid → Fate) (records : List Record) → has_record records t ≡ false → has_record (shortened_below over fates records) t ≡ false
no_record t over fates records none = falsely (has_record (shortened_below over fates records) t) (λ e. clash (has_record records t) (any_falls (is_of t) (λ u ps x y. refl) (λ u x y. refl) over fates records e) none)

held_kept : (t : Tid) (fates : Tid → Fate) (hs : List HeldPart) → is_some (held_part_of t hs) ≡ true → is_some (held_part_of t (kept_held fates hs)) ≡ true
held_kept t fates [] e = e
held_kept t fates (h ∷ hs) e =
    elim (tid_same h.tid t) as (λ b. is_some (if b then Some h else held_part_of t hs) ≡ true → is_some (if b then Some (record { tid = h.tid; participants = h.participants; part = kept_part (fates h.tid) h.part }) else held_part_of t (kept_held (with_fate h.tid (fate_before (fates h.tid) h.part) fates) hs)) ≡ true) [
      | true ↦ λ _. refl
      | false ↦ λ f. held_kept t (with_fate h.tid (fate_before (fates h.tid) h.part) fates) hs f
    ] e

free_below : (left part : List PartItem) → MeetsNoMore left part → (over : List PartItem) (fates : Tid → Fate) (older : List Record) → is_free (held_parts older) part ≡ true → is_free (held_parts (shortened_below over fates older)) left ≡ true
free_below left part fewer over fates older e = subst (λ (hs : List HeldPart). is_free hs left ≡ true) (sym (shortened_holds over fates older)) (free_stays left part fewer fates (held_parts older) e)

place_over_execution : (nodes : ℕ) (n : NodeNo) (t : Tid) (items : List PartItem) (records : List Record) → (has_record records t ≡ false) → is_free (held_parts records) items ≡ true → AreInPlace nodes n records → AreInPlace nodes n (executed_over t items records)
place_over_execution nodes n t [] records none free all = all
place_over_execution nodes n t (item ∷ items) records none free all = ((none, free), all)

place_below : (nodes : ℕ) (n : NodeNo) (over : List PartItem) (fates : Tid → Fate) (records : List Record) → AreInPlace nodes n records → AreInPlace nodes n (shortened_below over fates records)
place_below nodes n over fates [] all = tt
place_below nodes n over fates (Voted t ps part ∷ older) ((none, within, own, free), all) = (
  (no_record t over (with_fate t (fate_before (fates t) part) fates) older none, within, own, free_below (kept_part (fates t) part) part (kept_apart (fates t) part) over (with_fate t (fate_before (fates t) part) fates) older free),
  place_below nodes n over (with_fate t (fate_before (fates t) part) fates) older all,
)
place_below nodes n over fates (Executed t part ∷ older) ((none, free), all) =
    place_over_execution nodes n t (remaining part over) (shortened_below (part ++ over) fates older)
    (no_record t (part ++ over) fates older none)
    (free_below (remaining part over) part (remaining_apart part over) (part ++ over) fates older free)
    (place_below nodes n (part ++ over) fates older all)
place_below nodes n over fates (Decided t true ∷ older) (held, all) = (
  subst (λ (hs : List HeldPart). is_some (held_part_of t hs) ≡ true) (sym (shortened_holds (held_items t (held_parts older) ++ over) (with_fate t (Applied over) fates) older)) (held_kept t (with_fate t (Applied over) fates) (held_parts older) held),
  place_below nodes n (held_items t (held_parts older) ++ over) (with_fate t (Applied over) fates) older all,
)
place_below nodes n over fates (Decided t false ∷ older) (held, all) = (
  subst (λ (hs : List HeldPart). is_some (held_part_of t hs) ≡ true) (sym (shortened_holds over (with_fate t Dropped fates) older)) (held_kept t (with_fate t Dropped fates) (held_parts older) held),
  place_below nodes n over (with_fate t Dropped fates) older all,
)
place_below nodes n over fates (Forced t ∷ older) (none, all) = (no_record t over fates older none, place_below nodes n over fates older all)

-- a record behind a list is in place behind one that holds the same and has no more ids
place_of : (nodes : ℕ) (n : NodeNo) (a b : List Record) → held_parts a ≡ held_parts b → ((t : Tid) → has_record b t ≡ false → has_record a t ≡ false) → (r : Record) → IsInPlace nodes n b r → IsInPlace nodes n a r
place_of nodes n a b held fewer (Voted t ps part) (none, within, own, free) = (fewer t none, within, own, subst (λ (hs : List HeldPart). is_free hs part ≡ true) (sym held) free)
place_of nodes n a b held fewer (Executed t part) (none, free) = (fewer t none, subst (λ (hs : List HeldPart). is_free hs part ≡ true) (sym held) free)
place_of nodes n a b held fewer (Decided t verdict) is = subst (λ (hs : List HeldPart). is_some (held_part_of t hs) ≡ true) (sym held) is
place_of nodes n a b held fewer (Forced t) none = fewer t none

record_falls : (q p : List Record) (t : Tid) → has_record (q ++ shortened p) t ≡ true → has_record (q ++ p) t ≡ true
record_falls q p t = any_falls_behind (is_of t) q (shortened p) p (any_falls (is_of t) (λ u ps x y. refl) (λ u x y. refl) [] all_open p)

place_behind : (nodes : ℕ) (n : NodeNo) (q p : List Record) → AreInPlace nodes n (q ++ p) → AreInPlace nodes n (q ++ shortened p)
place_behind nodes n [] p all = place_below nodes n [] all_open p all
place_behind nodes n (r ∷ q) p all = (
  place_of nodes n (q ++ shortened p) (q ++ p) (like_whole [] q p).held (λ t none. falsely (has_record (q ++ shortened p) t) (λ e. clash (has_record (q ++ p) t) (record_falls q p t e) none)) r all.0,
  place_behind nodes n q p all.1,
)

-- Participants

names_over_execution : (t u : Tid) (items : List PartItem) (records : List Record) → voted_participants t (executed_over u items records) ≡ voted_participants t records
names_over_execution t u [] records = refl
names_over_execution t u (item ∷ items) records = refl

names_below : (t : Tid) (over : List PartItem) (fates : Tid → Fate) (records : List Record) → voted_participants t (shortened_below over fates records) ≡ voted_participants t records
names_below t over fates [] = refl
names_below t over fates (Voted u ps part ∷ older) = ap (λ (o : Option (List NodeNo)). if tid_same u t then Some ps else o) (names_below t over (with_fate u (fate_before (fates u) part) fates) older)
names_below t over fates (Executed u part ∷ older) = names_over_execution t u (remaining part over) (shortened_below (part ++ over) fates older) ∙ names_below t (part ++ over) fates older
names_below t over fates (Decided u true ∷ older) = names_below t (held_items u (held_parts older) ++ over) (with_fate u (Applied over) fates) older
names_below t over fates (Decided u false ∷ older) = names_below t over (with_fate u Dropped fates) older
names_below t over fates (Forced u ∷ older) = names_below t over fates older

names_behind : (t : Tid) (q p : List Record) → voted_participants t (q ++ shortened p) ≡ voted_participants t (q ++ p)
names_behind t [] p = names_below t [] all_open p
names_behind t (Voted u ps part ∷ q) p = ap (λ (o : Option (List NodeNo)). if tid_same u t then Some ps else o) (names_behind t q p)
names_behind t (Executed u part ∷ q) p = names_behind t q p
names_behind t (Decided u verdict ∷ q) p = names_behind t q p
names_behind t (Forced u ∷ q) p = names_behind t q p

-- One node's list

record IsSound (base : List ℕ) (whole shorter : List Record) : Type 0 where
  like : IsLikeWhole base shorter whole
  names : (t : Tid) → voted_participants t shorter ≡ voted_participants t whole
  ids : (t : Tid) → has_record shorter t ≡ true → has_record whole t ≡ true
  place : (nodes : ℕ) (n : NodeNo) → AreInPlace nodes n whole → AreInPlace nodes n shorter

is_sound : (base : List ℕ) (whole shorter : List Record) → IsShortenedFrom whole shorter → IsSound base whole shorter
is_sound base whole shorter s =
    let w : reverse s.rest ++ reverse s.first ≡ whole = sym (reverse-append s.first s.rest) ∙ sym s.whole_is in
    let h : reverse s.rest ++ shortened (reverse s.first) ≡ shorter = sym (turned_short s.first s.rest) ∙ sym s.shorter_is in
    Rattle.std.proofs.Common.subst₂ (λ a b. IsSound base a b) w h (record {
      like = like_whole base (reverse s.rest) (reverse s.first);
      names = λ t. names_behind t (reverse s.rest) (reverse s.first);
      ids = record_falls (reverse s.rest) (reverse s.first);
      place = λ nodes n. place_behind nodes n (reverse s.rest) (reverse s.first);
    })

-- All nodes

any_falls_to : {X : Type 0} (t u : X → Bool) → ((x : X) → t x ≡ true → u x ≡ true) → (xs : List X) → list_any t xs ≡ true → list_any u xs ≡ true
any_falls_to t u falls [] e = e
any_falls_to t u falls (x ∷ xs) e =
    elim (or_cases (t x) (list_any t xs) e) as (λ _. (u x || list_any u xs) ≡ true) [
      | inl here ↦ or_left (u x) (list_any u xs) (falls x here)
      | inr there ↦ or_right (u x) (list_any u xs) (any_falls_to t u falls xs there)
    ]

all_same : {X : Type 0} (t u : X → Bool) → ((x : X) → t x ≡ u x) → (xs : List X) → list_all t xs ≡ list_all u xs
all_same t u same [] = refl
all_same t u same (x ∷ xs) = ap₂ (λ (a b : Bool). a && b) (same x) (all_same t u same xs)

below_numbers : (a n top : ℕ) → a + n ≡ top → AllByRecursion (λ (m : NodeNo). m.0 < top) (map (λ k. record { 0 = k }) (range_with_len a n))
below_numbers a zero top e = tt
below_numbers a (suc n) top e = (omega (arith, e), below_numbers (a + 1) n top (omega (arith, e)))

map_agree : {X Y : Type 0} (f g : X → Y) (xs : List X) → AllByRecursion (λ x. f x ≡ g x) xs → map f xs ≡ map g xs
map_agree f g [] all = refl
map_agree {Y = Y} f g (x ∷ xs) all = ap₂ (λ (y : Y) (ys : List Y). y ∷ ys) all.0 (map_agree f g xs all.1)

all_of : {X : Type 0} (P Q : X → Type 0) → ((x : X) → P x → Q x) → (xs : List X) → AllByRecursion P xs → AllByRecursion Q xs
all_of P Q each [] all = tt
all_of P Q each (x ∷ xs) all = (each x all.0, all_of P Q each xs all.1)

-- a vote is a record of its id
vote_is_record : (records : List Record) (t : Tid) → has_voted records t ≡ true → has_record records t ≡ true
vote_is_record [] t e = e
vote_is_record (Voted u ps part ∷ records) t e = or_next (tid_same u t) (has_voted records t) (has_record records t) (vote_is_record records t) e
  where
    or_next : (a b c : Bool) → (b ≡ true → c ≡ true) → (a || b) ≡ true → (a || c) ≡ true
    or_next true b c next f = refl
    or_next false b c next f = next f
vote_is_record (Executed u part ∷ records) t e = or_right (tid_same u t) (has_record records t) (vote_is_record records t e)
vote_is_record (Decided u verdict ∷ records) t e = or_right (tid_same u t) (has_record records t) (vote_is_record records t e)
vote_is_record (Forced u ∷ records) t e = or_right (tid_same u t) (has_record records t) (vote_is_record records t e)

abbrev AreSoundEach : (NodeNo → List ℕ) → (NodeNo → List Record) → (NodeNo → List Record) → Type 0
AreSoundEach bases whole shorter = (n : NodeNo) → IsSound (bases n) (whole n) (shorter n)

-- the votes of the participants stay
votes_same : (bases : NodeNo → List ℕ) (whole shorter : NodeNo → List Record) → AreSoundEach bases whole shorter → (t : Tid) (n : NodeNo)
    → option_map_or (have_voted shorter t) (voted_participants t (shorter n)) false ≡ option_map_or (have_voted whole t) (voted_participants t (whole n)) false
votes_same bases whole shorter each t n =
    ap (λ (o : Option (List NodeNo)). option_map_or (have_voted shorter t) o false) ((each n).names t) ∙ of (voted_participants t (whole n))
  where
    of : (o : Option (List NodeNo)) → option_map_or (have_voted shorter t) o false ≡ option_map_or (have_voted whole t) o false
    of None = refl
    of (Some ps) = all_same (λ m. has_voted (shorter m) t) (λ m. has_voted (whole m) t) (λ m. (each m).like.voted t) ps

or_falls : (a b c d : Bool) → (a ≡ true → c ≡ true) → b ≡ d → (a || b) ≡ true → (c || d) ≡ true
or_falls true b c d one other e = or_left c d (one refl)
or_falls false b c d one other e = or_right c d (sym other ∙ e)

-- no more ids are committed
committed_falls : (nodes : ℕ) (bases : NodeNo → List ℕ) (whole shorter : NodeNo → List Record) → AreSoundEach bases whole shorter → (t : Tid) → is_committed nodes shorter t ≡ true → is_committed nodes whole t ≡ true
committed_falls nodes bases whole shorter each t =
    any_falls_to (λ n. has_executed (shorter n) t || option_map_or (have_voted shorter t) (voted_participants t (shorter n)) false) (λ n. has_executed (whole n) t || option_map_or (have_voted whole t) (voted_participants t (whole n)) false)
    (λ n. or_falls (has_executed (shorter n) t) (option_map_or (have_voted shorter t) (voted_participants t (shorter n)) false) (has_executed (whole n) t) (option_map_or (have_voted whole t) (voted_participants t (whole n)) false) ((each n).like.executed t) (votes_same bases whole shorter each t n))
    (node_numbers nodes)

-- of an id with a vote no node has an execution
none_executed : (nodes : ℕ) (whole : NodeNo → List Record) → AreSound nodes whole → (n m : NodeNo) (t : Tid) → n.0 < nodes → m.0 < nodes → has_voted (whole n) t ≡ true → has_executed (whole m) t ≡ false
none_executed nodes whole sound n m t low low' voted =
    falsely (has_executed (whole m) t) (λ run.
    let one : m ≡ n = sound.alone m n t low' low run (vote_is_record (whole n) t voted) in
    voted_executed nodes n (whole n) t (sound.in_place n low) voted (subst (λ (k : NodeNo). has_executed (whole k) t ≡ true) one run))

-- so it is committed where it was
committed_same : (nodes : ℕ) (bases : NodeNo → List ℕ) (whole shorter : NodeNo → List Record) → AreSoundEach bases whole shorter → AreSound nodes whole → (n : NodeNo) (t : Tid) → n.0 < nodes → has_voted (whole n) t ≡ true → is_committed nodes shorter t ≡ is_committed nodes whole t
committed_same nodes bases whole shorter each sound n t low voted =
    any_agree (λ m. has_executed (shorter m) t || option_map_or (have_voted shorter t) (voted_participants t (shorter m)) false) (λ m. has_executed (whole m) t || option_map_or (have_voted whole t) (voted_participants t (whole m)) false) (node_numbers nodes)
    (all_of (λ m. m.0 < nodes) (λ m. (has_executed (shorter m) t || option_map_or (have_voted shorter t) (voted_participants t (shorter m)) false) ≡ (has_executed (whole m) t || option_map_or (have_voted whole t) (voted_participants t (whole m)) false))
    (λ m low'. ap₂ (λ (a b : Bool). a || b) (neither m low') (votes_same bases whole shorter each t m)) (node_numbers nodes) (below_numbers 0 nodes nodes (omega arith)))
  where
    neither : (m : NodeNo) → m.0 < nodes → has_executed (shorter m) t ≡ has_executed (whole m) t
    neither m low' =
        let none = none_executed nodes whole sound n m t low low' voted in
        falsely (has_executed (shorter m) t) (λ run. clash (has_executed (whole m) t) ((each m).like.executed t run) none) ∙ sym none

sound_stays : (nodes : ℕ) (bases : NodeNo → List ℕ) (whole shorter : NodeNo → List Record) → AreSoundEach bases whole shorter → AreSound nodes whole → AreSound nodes shorter
sound_stays nodes bases whole shorter each sound = record {
  in_place = λ n low. (each n).place nodes n (sound.in_place n low);
  same = λ n m t one other low low' a b. sound.same n m t one other low low' (sym ((each n).names t) ∙ a) (sym ((each m).names t) ∙ b);
  alone = λ n m t low low' run there. sound.alone n m t low low' ((each n).like.executed t run) ((each m).ids t there);
  yes = λ n t ps low agreed named.
      all_same (λ m. has_voted (shorter m) t) (λ m. has_voted (whole m) t) (λ m. (each m).like.voted t) ps
      ∙ sound.yes n t ps low (sym ((each n).like.decided_yes t) ∙ agreed) (sym ((each n).names t) ∙ named);
  no = λ n m t low low' against.
      let was = sound.no n m t low low' (sym ((each n).like.decided_no t) ∙ against) in (
        falsely (is_committed nodes shorter t) (λ e. clash (is_committed nodes whole t) (committed_falls nodes bases whole shorter each t e) was.0),
        (each m).like.decided_yes t ∙ was.1,
      );
}

greater_stays : (nodes : ℕ) (bases : NodeNo → List ℕ) (whole shorter : NodeNo → List Record) → AreSoundEach bases whole shorter → HeldAreGreater nodes bases whole → HeldAreGreater nodes bases shorter
greater_stays nodes bases whole shorter each greater place numbered low =
    let like = (each place.node).like in
    Rattle.std.proofs.Common.subst₂ (λ (space : List ℕ) (hs : List HeldPart). AllByRecursion (λ h. is_committed nodes shorter h.tid ≡ true → AllByRecursion (WritesWhole place (λ bytes. number_in (content_in space place) < number_in bytes)) h.part) hs) (sym like.space) (sym like.held)
    (all_of (λ h. is_committed nodes whole h.tid ≡ true → AllByRecursion (WritesWhole place (λ bytes. number_in (content_in (space_of (bases place.node) (whole place.node)) place) < number_in bytes)) h.part)
    (λ h. is_committed nodes shorter h.tid ≡ true → AllByRecursion (WritesWhole place (λ bytes. number_in (content_in (space_of (bases place.node) (whole place.node)) place) < number_in bytes)) h.part)
    (λ h is committed. is (committed_falls nodes bases whole shorter each h.tid committed)) (held_parts (whole place.node)) (greater place numbered low))

memory_same : (nodes : ℕ) (bases : NodeNo → List ℕ) (whole shorter : NodeNo → List Record) → AreSoundEach bases whole shorter → AreSound nodes whole → memory_in nodes bases shorter ≡ memory_in nodes bases whole
memory_same nodes bases whole shorter each sound =
    map_agree (λ n. with_held (is_committed nodes shorter) (space_of (bases n) (shorter n)) (held_parts (shorter n))) (λ n. with_held (is_committed nodes whole) (space_of (bases n) (whole n)) (held_parts (whole n))) (node_numbers nodes)
    (all_of (λ m. m.0 < nodes) (λ n. with_held (is_committed nodes shorter) (space_of (bases n) (shorter n)) (held_parts (shorter n)) ≡ with_held (is_committed nodes whole) (space_of (bases n) (whole n)) (held_parts (whole n)))
    space_here (node_numbers nodes) (below_numbers 0 nodes nodes (omega arith)))
  where
    space_here : (n : NodeNo) → n.0 < nodes → with_held (is_committed nodes shorter) (space_of (bases n) (shorter n)) (held_parts (shorter n)) ≡ with_held (is_committed nodes whole) (space_of (bases n) (whole n)) (held_parts (whole n))
    space_here n low =
        ap₂ (λ (s : List ℕ) (hs : List HeldPart). with_held (is_committed nodes shorter) s hs) (each n).like.space (each n).like.held
        ∙ same_layers (is_committed nodes shorter) (is_committed nodes whole) (space_of (bases n) (whole n)) (held_parts (whole n))
        (all_of (λ h. has_voted (whole n) h.tid ≡ true) (λ h. is_committed nodes shorter h.tid ≡ is_committed nodes whole h.tid) (λ h voted. committed_same nodes bases whole shorter each sound n h.tid low voted) (held_parts (whole n)) (held_voted (whole n)))

pub shortened_do_stay_opened : ShortenedStaysOpened
shortened_do_stay_opened nodes bases whole shorter store from opened =
    let each : AreSoundEach bases whole shorter = λ n. is_sound (bases n) (whole n) (shorter n) (from n) in
    record {
      sound = sound_stays nodes bases whole shorter each opened.sound;
      greater = greater_stays nodes bases whole shorter each opened.greater;
      holds = subst (λ (memory : List (List ℕ)). Holds memory store) (sym (memory_same nodes bases whole shorter each opened.sound)) opened.holds;
    }

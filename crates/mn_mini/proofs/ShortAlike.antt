-- Behind a shortened list a node is as behind the whole one.
use Rattle.std.proofs.Common.{◌≡◌, ◌≤◌, ℕ, suc, Bool, true, false, not, ◌&&◌, ◌||◌, List, [], ◌∷◌, ◌++◌, length, reverse, Some, None, refl, ap, ap₂, sym, ◌∙◌, subst, arith, if◌then◌else◌}
use Rattle.std.specs.Prelude.{is_some, nat_le, IsTrue}
use Rattle.std.specs.List.{list_any, AllByRecursion}
use Rattle.std.proofs.lemmas.List.{reverse-append, reverse-reverse, length-reverse}
use Rattle.mn_base.specs.Ids.{tid_same}
use Rattle.mn_base.specs.declared.ids.Tid.{Tid}
use Rattle.mn_base.specs.declared.ids.NodeNo.{NodeNo}
use Rattle.mn_base.proofs.Booleans.{or_left, or_right}
use Rattle.mn_base.proofs.Lists.{all_append}
use Rattle.mn_mini.specs.declared.part.PartItem.{PartItem}
use Rattle.mn_mini.specs.declared.part.PartItem.TheVariants.{Compare, Read, Write}
use Rattle.mn_mini.specs.declared.record.Record.{Record}
use Rattle.mn_mini.specs.declared.record.Record.TheVariants.{Voted, Executed, Decided, Forced}
use Rattle.mn_mini.specs.declared.request.Request.{Request}
use Rattle.mn_mini.specs.declared.request.Request.TheVariants as Ask
use Rattle.mn_mini.specs.declared.reply.NodeReply.TheVariants as Say
use Rattle.mn_mini.specs.Mini.{range_of, has_write}
use Rattle.mn_mini.specs.Flat.{bytes_in}
use Rattle.mn_mini.specs.Node.{HeldPart, held_parts, held_part_of, without_tid, with_held, space_of, has_voted, has_forced, is_vote_of, is_force_of, is_execution_of, is_yes_of, is_no_of, answer, only_reply, after_locks, clash_of, tested, doubts_of}
use Rattle.mn_mini.specs.Flat.{space_after_part}
use Rattle.mn_mini.specs.Laws.{IsLikeWhole}
use Rattle.mn_mini.specs.RecordGrammar.{IsRecord, IsPart, IsPartItem, are_in_order}
use Rattle.mn_mini.specs.Short.{writes_just, remaining, first_read, Fate, Open, Dropped, Applied, fate_before, with_fate, or_first_read, kept_part, held_items, executed_over, shortened_below, all_open, shortened, short}
use Rattle.mn_mini.proofs.Short.{held_stay, space_stays}

-- Tests of records that do not look at parts

any_over_execution : (t : Record → Bool) → ((tid : Tid) (p : List PartItem) → t (Executed tid p) ≡ false) → (tid : Tid) (items : List PartItem) (records : List Record) → list_any t (executed_over tid items records) ≡ list_any t records
any_over_execution t none tid [] records = refl
any_over_execution t none tid (item ∷ items) records = ap (λ (b : Bool). b || list_any t records) (none tid (item ∷ items))

-- a test that no execution passes
pub any_stays : (t : Record → Bool) → ((tid : Tid) (ps : List NodeNo) (p r : List PartItem) → t (Voted tid ps p) ≡ t (Voted tid ps r)) → ((tid : Tid) (p : List PartItem) → t (Executed tid p) ≡ false)
    → (over : List PartItem) (fates : Tid → Fate) (records : List Record) → list_any t (shortened_below over fates records) ≡ list_any t records
any_stays t votes none over fates [] = refl
any_stays t votes none over fates (Voted tid ps part ∷ older) = ap₂ (λ (a b : Bool). a || b) (votes tid ps (kept_part (fates tid) part) part) (any_stays t votes none over (with_fate tid (fate_before (fates tid) part) fates) older)
any_stays t votes none over fates (Executed tid part ∷ older) =
    any_over_execution t none tid (remaining part over) (shortened_below (part ++ over) fates older)
    ∙ any_stays t votes none (part ++ over) fates older
    ∙ sym (ap (λ (b : Bool). b || list_any t older) (none tid part))
any_stays t votes none over fates (Decided tid true ∷ older) = ap (λ (b : Bool). t (Decided tid true) || b) (any_stays t votes none (held_items tid (held_parts older) ++ over) (with_fate tid (Applied over) fates) older)
any_stays t votes none over fates (Decided tid false ∷ older) = ap (λ (b : Bool). t (Decided tid false) || b) (any_stays t votes none over (with_fate tid Dropped fates) older)
any_stays t votes none over fates (Forced tid ∷ older) = ap (λ (b : Bool). t (Forced tid) || b) (any_stays t votes none over fates older)

or_falls : (a b c d : Bool) → (a ≡ true → c ≡ true) → (b ≡ true → d ≡ true) → (a || b) ≡ true → (c || d) ≡ true
or_falls true b c d one other e = or_left c d (one refl)
or_falls false b c d one other e = or_right c d (other e)

any_over_fewer : (t : Record → Bool) → ((tid : Tid) (p r : List PartItem) → t (Executed tid p) ≡ t (Executed tid r)) → (tid : Tid) (items part : List PartItem) (records older : List Record)
    → (list_any t records ≡ true → list_any t older ≡ true) → list_any t (executed_over tid items records) ≡ true → list_any t (Executed tid part ∷ older) ≡ true
any_over_fewer t same tid [] part records older falls e = or_right (t (Executed tid part)) (list_any t older) (falls e)
any_over_fewer t same tid (item ∷ items) part records older falls e = or_falls (t (Executed tid (item ∷ items))) (list_any t records) (t (Executed tid part)) (list_any t older) (λ f. same tid part (item ∷ items) ∙ f) falls e

-- any test: no more records pass it
pub any_falls : (t : Record → Bool) → ((tid : Tid) (ps : List NodeNo) (p r : List PartItem) → t (Voted tid ps p) ≡ t (Voted tid ps r)) → ((tid : Tid) (p r : List PartItem) → t (Executed tid p) ≡ t (Executed tid r))
    → (over : List PartItem) (fates : Tid → Fate) (records : List Record) → list_any t (shortened_below over fates records) ≡ true → list_any t records ≡ true
any_falls t votes same over fates [] e = e
any_falls t votes same over fates (Voted tid ps part ∷ older) e = or_falls (t (Voted tid ps (kept_part (fates tid) part))) _ (t (Voted tid ps part)) (list_any t older) (λ f. votes tid ps part (kept_part (fates tid) part) ∙ f) (any_falls t votes same over (with_fate tid (fate_before (fates tid) part) fates) older) e
any_falls t votes same over fates (Executed tid part ∷ older) e = any_over_fewer t same tid (remaining part over) part (shortened_below (part ++ over) fates older) older (any_falls t votes same (part ++ over) fates older) e
any_falls t votes same over fates (Decided tid true ∷ older) e = or_falls (t (Decided tid true)) _ (t (Decided tid true)) (list_any t older) (λ f. f) (any_falls t votes same (held_items tid (held_parts older) ++ over) (with_fate tid (Applied over) fates) older) e
any_falls t votes same over fates (Decided tid false ∷ older) e = or_falls (t (Decided tid false)) _ (t (Decided tid false)) (list_any t older) (λ f. f) (any_falls t votes same over (with_fate tid Dropped fates) older) e
any_falls t votes same over fates (Forced tid ∷ older) e = or_falls (t (Forced tid)) _ (t (Forced tid)) (list_any t older) (λ f. f) (any_falls t votes same over fates older) e

-- Behind other records

held_behind : (q a b : List Record) → held_parts a ≡ held_parts b → held_parts (q ++ a) ≡ held_parts (q ++ b)
held_behind [] a b e = e
held_behind (Voted t ps part ∷ q) a b e = ap (λ (hs : List HeldPart). record { tid = t; participants = ps; part = part } ∷ hs) (held_behind q a b e)
held_behind (Executed t part ∷ q) a b e = held_behind q a b e
held_behind (Decided t verdict ∷ q) a b e = ap (without_tid t) (held_behind q a b e)
held_behind (Forced t ∷ q) a b e = held_behind q a b e

space_behind : (base : List ℕ) (q a b : List Record) → held_parts a ≡ held_parts b → space_of base a ≡ space_of base b → space_of base (q ++ a) ≡ space_of base (q ++ b)
space_behind base [] a b held e = e
space_behind base (Voted t ps part ∷ q) a b held e = space_behind base q a b held e
space_behind base (Executed t part ∷ q) a b held e = ap (λ (s : List ℕ). space_after_part s part) (space_behind base q a b held e)
space_behind base (Decided t true ∷ q) a b held e = ap₂ (λ (s : List ℕ) (hs : List HeldPart). with_held (λ u. tid_same u t) s hs) (space_behind base q a b held e) (held_behind q a b held)
space_behind base (Decided t false ∷ q) a b held e = space_behind base q a b held e
space_behind base (Forced t ∷ q) a b held e = space_behind base q a b held e

any_behind : (t : Record → Bool) (q a b : List Record) → list_any t a ≡ list_any t b → list_any t (q ++ a) ≡ list_any t (q ++ b)
any_behind t [] a b e = e
any_behind t (r ∷ q) a b e = ap (λ (c : Bool). t r || c) (any_behind t q a b e)

pub any_falls_behind : (t : Record → Bool) (q a b : List Record) → (list_any t a ≡ true → list_any t b ≡ true) → list_any t (q ++ a) ≡ true → list_any t (q ++ b) ≡ true
any_falls_behind t [] a b falls e = falls e
any_falls_behind t (r ∷ q) a b falls e = or_falls (t r) (list_any t (q ++ a)) (t r) (list_any t (q ++ b)) (λ f. f) (any_falls_behind t q a b falls) e

-- Answers

answers_alike : (base : List ℕ) (a b : List Record) → space_of base a ≡ space_of base b → held_parts a ≡ held_parts b
    → ((t : Tid) → has_voted a t ≡ has_voted b t) → ((t : Tid) → has_forced a t ≡ has_forced b t) → (request : Request) → answer base a request ≡ answer base b request
answers_alike base a b space held voted forced (Ask.Prepare t ps part) =
    ap (λ (x : Bool). if x then only_reply Say.BadForced else tested base a t part (Some (Voted t ps part))) (forced t)
    ∙ ap₂ (λ (s : List ℕ) (hs : List HeldPart). if has_forced b t then only_reply Say.BadForced else after_locks s part (Some (Voted t ps part)) (clash_of hs t part)) space held
answers_alike base a b space held voted forced (Ask.Exec t part) =
    ap₂ (λ (s : List ℕ) (hs : List HeldPart). after_locks s part (if has_write part then Some (Executed t part) else None) (clash_of hs t part)) space held
answers_alike base a b space held voted forced (Ask.Decide t verdict) =
    ap (λ (hs : List HeldPart). record { reply = Say.Decided; added = if is_some (held_part_of t hs) then Some (Decided t verdict) else None }) held
answers_alike base a b space held voted forced (Ask.Force t) =
    ap₂ (λ (x y : Bool). if x then only_reply (Say.Vote true) else record { reply = Say.Vote false; added = if y then None else Some (Forced t) }) (voted t) (forced t)
answers_alike base a b space held voted forced Ask.List = ap (λ (hs : List HeldPart). only_reply (Say.Listed (doubts_of hs))) held
answers_alike base a b space held voted forced (Ask.Peek start n) = ap (λ (s : List ℕ). only_reply (Say.Peeked (bytes_in s start n))) space

-- All of it, newest first

stays_behind : (t : Record → Bool) → ((tid : Tid) (ps : List NodeNo) (p r : List PartItem) → t (Voted tid ps p) ≡ t (Voted tid ps r)) → ((tid : Tid) (p : List PartItem) → t (Executed tid p) ≡ false)
    → (q p : List Record) → list_any t (q ++ shortened p) ≡ list_any t (q ++ p)
stays_behind t votes none q p = any_behind t q (shortened p) p (any_stays t votes none [] all_open p)

pub like_whole : (base : List ℕ) (q p : List Record) → IsLikeWhole base (q ++ shortened p) (q ++ p)
like_whole base q p =
    let held = held_behind q (shortened p) p (held_stay p) in
    let space = space_behind base q (shortened p) p (held_stay p) (space_stays base p) in
    record {
      space = space;
      held = held;
      voted = λ t. stays_behind (is_vote_of t) (λ u ps x y. refl) (λ u x. refl) q p;
      forced = λ t. stays_behind (is_force_of t) (λ u ps x y. refl) (λ u x. refl) q p;
      decided_yes = λ t. stays_behind (is_yes_of t) (λ u ps x y. refl) (λ u x. refl) q p;
      decided_no = λ t. stays_behind (is_no_of t) (λ u ps x y. refl) (λ u x. refl) q p;
      executed = λ t. any_falls_behind (is_execution_of t) q (shortened p) p (any_falls (is_execution_of t) (λ u ps x y. refl) (λ u x y. refl) [] all_open p);
      answers = answers_alike base (q ++ shortened p) (q ++ p) space held
          (λ t. stays_behind (is_vote_of t) (λ u ps x y. refl) (λ u x. refl) q p)
          (λ t. stays_behind (is_force_of t) (λ u ps x y. refl) (λ u x. refl) q p);
    }

-- and as lists are logged

pub turned_short : (p q : List Record) → reverse (short p ++ q) ≡ reverse q ++ shortened (reverse p)
turned_short p q = reverse-append (short p) q ∙ ap (λ (l : List Record). reverse q ++ l) (reverse-reverse (shortened (reverse p)))

pub short_is_alike : (base : List ℕ) (p q : List Record) → IsLikeWhole base (reverse (short p ++ q)) (reverse (p ++ q))
short_is_alike base p q =
    Rattle.std.proofs.Common.subst₂ (λ a b. IsLikeWhole base a b) (sym (turned_short p q)) (sym (reverse-append p q)) (like_whole base (reverse q) (reverse p))

-- The grammar

fewer_remain : (part over : List PartItem) → length (remaining part over) ≤ length part
fewer_remain [] over = omega arith
fewer_remain (Compare start bytes ∷ part) over = let e = fewer_remain part over in omega (arith, e)
fewer_remain (Read start n ∷ part) over = let e = fewer_remain part over in omega (arith, e)
fewer_remain (Write start bytes ∷ part) over =
    let e = fewer_remain part over in
    elim (list_any (writes_just (range_of (Write start bytes))) (part ++ over)) as (λ b. length (if b then remaining part over else Write start bytes ∷ remaining part over) ≤ suc (length part)) [
      | true ↦ omega (arith, e)
      | false ↦ omega (arith, e)
    ]

inside_remain : (part over : List PartItem) → AllByRecursion IsPartItem part → AllByRecursion IsPartItem (remaining part over)
inside_remain [] over all = tt
inside_remain (Compare start bytes ∷ part) over all = inside_remain part over all.1
inside_remain (Read start n ∷ part) over all = inside_remain part over all.1
inside_remain (Write start bytes ∷ part) over all =
    elim (list_any (writes_just (range_of (Write start bytes))) (part ++ over)) as (λ b. AllByRecursion IsPartItem (if b then remaining part over else Write start bytes ∷ remaining part over)) [
      | true ↦ inside_remain part over all.1
      | false ↦ (all.0, inside_remain part over all.1)
    ]

in_order_remain : (k : ℕ) (part over : List PartItem) → nat_le k 3 ≡ true → are_in_order k (remaining part over) ≡ true
in_order_remain k [] over le = refl
in_order_remain k (Compare start bytes ∷ part) over le = in_order_remain k part over le
in_order_remain k (Read start n ∷ part) over le = in_order_remain k part over le
in_order_remain k (Write start bytes ∷ part) over le =
    elim (list_any (writes_just (range_of (Write start bytes))) (part ++ over)) as (λ b. are_in_order k (if b then remaining part over else Write start bytes ∷ remaining part over) ≡ true) [
      | true ↦ in_order_remain k part over le
      | false ↦ ap₂ (λ (x y : Bool). x && y) le (in_order_remain 3 part over refl)
    ]

-- where anything remains it writes
writes_remain : (part over items : List PartItem) (item : PartItem) → remaining part over ≡ item ∷ items → has_write (item ∷ items) ≡ true
writes_remain [] over items item e = absurd cc
writes_remain (Compare start bytes ∷ part) over items item e = writes_remain part over items item e
writes_remain (Read start n ∷ part) over items item e = writes_remain part over items item e
writes_remain (Write start bytes ∷ part) over items item e =
    elim (list_any (writes_just (range_of (Write start bytes))) (part ++ over)) as (λ b. (if b then remaining part over else Write start bytes ∷ remaining part over) ≡ item ∷ items → has_write (item ∷ items) ≡ true) [
      | true ↦ λ f. writes_remain part over items item f
      | false ↦ λ f. ap has_write (sym f)
    ] e

remain_is_part : (part over items : List PartItem) (item : PartItem) → remaining part over ≡ item ∷ items → IsPart part → IsPart (item ∷ items)
remain_is_part part over items item e is =
    let n : length (remaining part over) ≡ suc (length items) = ap length e in
    let few = fewer_remain part over in
    let fewer = is.few in
    record {
      some = omega arith;
      few = omega (arith, n, few, fewer);
      order = subst (λ (l : List PartItem). IsTrue (are_in_order 1 l)) e (in_order_remain 1 part over refl);
      inside = subst (λ (l : List PartItem). AllByRecursion IsPartItem l) e (inside_remain part over is.inside);
    }

read_is_part : (part : List PartItem) → IsPart part → IsPart (first_read part)
read_is_part [] is = is
read_is_part (Compare start bytes ∷ part) is = record { some = omega arith; few = omega arith; order = refl; inside = (is.inside.0, tt) }
read_is_part (Read start n ∷ part) is = record { some = omega arith; few = omega arith; order = refl; inside = (is.inside.0, tt) }
read_is_part (Write start bytes ∷ part) is = record { some = omega arith; few = omega arith; order = refl; inside = (is.inside.0, tt) }

kept_is_part : (fate : Fate) (part : List PartItem) → IsPart part → IsPart (kept_part fate part)
kept_is_part Open part is = is
kept_is_part Dropped part is = read_is_part part is
kept_is_part (Applied over) part is = of (remaining part over) refl
  where
    of : (items : List PartItem) → remaining part over ≡ items → IsPart (or_first_read part items)
    of [] e = read_is_part part is
    of (item ∷ items) e = remain_is_part part over items item e is

records_over_execution : (tid : Tid) (part over : List PartItem) (records : List Record) → IsRecord (Executed tid part) → AllByRecursion IsRecord records → AllByRecursion IsRecord (executed_over tid (remaining part over) records)
records_over_execution tid part over records is all = of (remaining part over) refl
  where
    of : (items : List PartItem) → remaining part over ≡ items → AllByRecursion IsRecord (executed_over tid items records)
    of [] e = all
    of (item ∷ items) e = (record { id = is.id; follows = (remain_is_part part over items item e is.follows.0, writes_remain part over items item e) }, all)

records_below : (over : List PartItem) (fates : Tid → Fate) (records : List Record) → AllByRecursion IsRecord records → AllByRecursion IsRecord (shortened_below over fates records)
records_below over fates [] all = tt
records_below over fates (Voted tid ps part ∷ older) all =
    (record { id = all.0.id; follows = (all.0.follows.0, kept_is_part (fates tid) part all.0.follows.1) }, records_below over (with_fate tid (fate_before (fates tid) part) fates) older all.1)
records_below over fates (Executed tid part ∷ older) all = records_over_execution tid part over (shortened_below (part ++ over) fates older) all.0 (records_below (part ++ over) fates older all.1)
records_below over fates (Decided tid true ∷ older) all = (all.0, records_below (held_items tid (held_parts older) ++ over) (with_fate tid (Applied over) fates) older all.1)
records_below over fates (Decided tid false ∷ older) all = (all.0, records_below over (with_fate tid Dropped fates) older all.1)
records_below over fates (Forced tid ∷ older) all = (all.0, records_below over fates older all.1)

all-reverse : {X : Type 0} (P : X → Type 0) (xs : List X) → AllByRecursion P xs → AllByRecursion P (reverse xs)
all-reverse P [] p = tt
all-reverse {X = X} P (x ∷ xs) p = subst (λ (l : List X). AllByRecursion P l) (sym (reverse-append (x ∷ []) xs)) (all_append P (reverse xs) (x ∷ []) (all-reverse P xs p.1) (p.0, tt))

pub short_are_records : (p : List Record) → AllByRecursion IsRecord p → AllByRecursion IsRecord (short p)
short_are_records p all = all-reverse IsRecord (shortened (reverse p)) (records_below [] all_open (reverse p) (all-reverse IsRecord p all))

-- How many

fewer_over_execution : (tid : Tid) (items : List PartItem) (records : List Record) → length (executed_over tid items records) ≤ suc (length records)
fewer_over_execution tid [] records = omega arith
fewer_over_execution tid (item ∷ items) records = omega arith

fewer_below : (over : List PartItem) (fates : Tid → Fate) (records : List Record) → length (shortened_below over fates records) ≤ length records
fewer_below over fates [] = omega arith
fewer_below over fates (Voted tid ps part ∷ older) = let e = fewer_below over (with_fate tid (fate_before (fates tid) part) fates) older in omega (arith, e)
fewer_below over fates (Executed tid part ∷ older) =
    let e = fewer_below (part ++ over) fates older in
    let f = fewer_over_execution tid (remaining part over) (shortened_below (part ++ over) fates older) in
    omega (arith, e, f)
fewer_below over fates (Decided tid true ∷ older) = let e = fewer_below (held_items tid (held_parts older) ++ over) (with_fate tid (Applied over) fates) older in omega (arith, e)
fewer_below over fates (Decided tid false ∷ older) = let e = fewer_below over (with_fate tid Dropped fates) older in omega (arith, e)
fewer_below over fates (Forced tid ∷ older) = let e = fewer_below over fates older in omega (arith, e)

pub short_is_no_longer : (p : List Record) → length (short p) ≤ length p
short_is_no_longer p =
    let e = fewer_below [] all_open (reverse p) in
    let f = length-reverse (shortened (reverse p)) in
    let g = length-reverse p in
    omega (arith, e, f, g)

-- What the records of a sound start say.
use Rattle.std.proofs.Common.{◌≡◌, ℕ, zero, suc, ◌+◌, ◌<◌, ◌≤◌, ◌⊎◌, inl, inr, Bool, true, false, ◌&&◌, ◌||◌, List, [], ◌∷◌, ◌++◌, Option, Some, None, refl, subst, sym, ap, ◌∙◌, arith, if◌then◌else◌, Contains, reverse, get_or}
use Rattle.std.specs.Prelude.{max}
use Rattle.std.specs.Option.{option_map_or}
use Rattle.std.specs.List.{AllByRecursion, list_any, list_all, flat_map}
use Rattle.std.proofs.lemmas.Bool.Decides.{nat_tests}
use Rattle.std.proofs.lemmas.List.{get_or_past}
use Rattle.std.proofs.lemmas.List.Elements.{All-contains, All-from_recursion}
use Rattle.std.proofs.lemmas.List.Sorted.{list_any-IsPermutation, IsPermutation-reverse}
use Rattle.mn_base.specs.Ids.{tid_same, node_numbers}
use Rattle.mn_base.specs.declared.ids.NodeNo.{NodeNo}
use Rattle.mn_base.specs.declared.ids.Tid.{Tid}
use Rattle.mn_base.proofs.Naturals.{below_or}
use Rattle.mn_base.proofs.Lists.{weaker}
use Rattle.mn_base.proofs.Booleans.{clash, or_cases, or_right}
use Rattle.mn_mini.specs.declared.record.Record.{Record}
use Rattle.mn_mini.specs.declared.record.Record.TheVariants.{Voted, Executed, Decided, Forced}
use Rattle.mn_mini.specs.Node.{record_run, greatest_run, is_of, has_voted, has_executed, has_decided_yes, has_decided_no}
use Rattle.mn_mini.proofs.Parts.{same_true}
use Rattle.mn_runs.specs.Protocol.{Start, start_nodes, start_records, run_number}
use Rattle.mn_runs.specs.Sound.{voted_participants, have_voted, is_committed, has_record, AreInPlace}
use Rattle.mn_votes.specs.Laws.{StartsSound, StartsFresh}
use Rattle.mn_runs.proofs.Same.{tid_same-true, tid_same-refl}
use Rattle.mn_votes.proofs.Backing.{IsOld, StartNames, StartVoted, StartLost, RecordSound}
use Rattle.mn_runs.proofs.Records.{held_has_vote, named_record, named_voted, vote_names, voted_executed}

-- Runs of ids

run_of : (tid : Tid) (r : Record) → is_of tid r ≡ true → record_run r ≡ tid.run
run_of tid (Voted t ps part) e = ap (λ (u : Tid). u.run) (tid_same-true t tid e)
run_of tid (Executed t part) e = ap (λ (u : Tid). u.run) (tid_same-true t tid e)
run_of tid (Decided t verdict) e = ap (λ (u : Tid). u.run) (tid_same-true t tid e)
run_of tid (Forced t) e = ap (λ (u : Tid). u.run) (tid_same-true t tid e)

run_in : (records : List Record) (tid : Tid) → has_record records tid ≡ true → tid.run ≤ greatest_run records
run_in [] tid e = absurd cc
run_in (r ∷ rs) tid e =
    elim (or_cases (is_of tid r) (has_record rs tid) e) as (λ _. tid.run ≤ max (record_run r) (greatest_run rs)) [
      | inl same ↦ subst (λ (k : ℕ). k ≤ max (record_run r) (greatest_run rs)) (run_of tid r same) (left (record_run r) (greatest_run rs))
      | inr there ↦ let low = run_in rs tid there in right (record_run r) (greatest_run rs) tid.run low
    ]
  where
    left : (a b : ℕ) → a ≤ max a b
    left a b = grind (arith, nat_tests)

    right : (a b c : ℕ) → c ≤ b → c ≤ max a b
    right a b c low = grind (arith, nat_tests)

greatest_left : (xs ys : List Record) → greatest_run xs ≤ greatest_run (xs ++ ys)
greatest_left [] ys = omega arith
greatest_left (x ∷ xs) ys = let low = greatest_left xs ys in more (record_run x) (greatest_run xs) (greatest_run (xs ++ ys)) low
  where
    more : (a b c : ℕ) → b ≤ c → max a b ≤ max a c
    more a b c low = grind (arith, nat_tests)

greatest_right : (xs ys : List Record) → greatest_run ys ≤ greatest_run (xs ++ ys)
greatest_right [] ys = omega arith
greatest_right (x ∷ xs) ys = let low = greatest_right xs ys in more (record_run x) (greatest_run ys) (greatest_run (xs ++ ys)) low
  where
    more : (a b c : ℕ) → b ≤ c → b ≤ max a c
    more a b c low = grind (arith, nat_tests)

greatest_at : (lists : List (List Record)) (i : ℕ) → greatest_run (get_or lists i []) ≤ greatest_run (flat_map (λ records. records) lists)
greatest_at [] i = omega arith
greatest_at (x ∷ xs) zero = greatest_left x (flat_map (λ records. records) xs)
greatest_at (x ∷ xs) (suc i) =
    let low = greatest_at xs i in
    let high = greatest_right x (flat_map (λ records. records) xs) in
    omega (arith, low, high)

-- an id with a record at the start is of an older run
pub old_below : (start : Start) (tid : Tid) → IsOld start tid → tid.run < run_number start
old_below start tid (m, low, has) =
    let list = get_or start.records m.0 [] in
    let there : has_record list tid ≡ true = list_any-IsPermutation (is_of tid) list (reverse list) (IsPermutation-reverse list) ∙ has in
    let one = run_in list tid there in
    let two = greatest_at start.records m.0 in
    omega (arith, one, two)

-- Votes and their participants

pub names_old : (start : Start) (tid : Tid) (ps : List NodeNo) → StartNames start tid ps → IsOld start tid
names_old start tid ps (m, (low, is)) = (m, low, named_record tid ps (start_records start m) is)

-- What the records of a node of the start say

-- a record of the list that stands in it
abbrev StandsFor : List Record → Record → Type 0
StandsFor all (Voted tid ps part) = voted_participants tid all ≡ Some ps
StandsFor all (Executed tid part) = has_record all tid ≡ true
StandsFor all (Decided tid true) = (has_decided_yes all tid ≡ true) × (has_voted all tid ≡ true)
StandsFor all (Decided tid false) = (has_decided_no all tid ≡ true) × (has_voted all tid ≡ true)
StandsFor all (Forced tid) = has_record all tid ≡ true

newer_vote : (nodes : ℕ) (n : NodeNo) (r : Record) (older : List Record) (tid : Tid) (ps : List NodeNo) → AreInPlace nodes n (r ∷ older) → voted_participants tid older ≡ Some ps → voted_participants tid (r ∷ older) ≡ Some ps
newer_vote nodes n (Voted t qs part) older tid ps place is =
    elim (tid_same t tid) as (λ b. tid_same t tid ≡ b → (if b then Some qs else voted_participants tid older) ≡ Some ps) [
      | true ↦ λ same. absurd (clash _ (named_record tid ps older is) (subst (λ (u : Tid). has_record older u ≡ false) (tid_same-true t tid same) place.0.0))
      | false ↦ λ _. is
    ] refl
newer_vote nodes n (Executed t part) older tid ps place is = is
newer_vote nodes n (Decided t verdict) older tid ps place is = is
newer_vote nodes n (Forced t) older tid ps place is = is

newer : (nodes : ℕ) (n : NodeNo) (r : Record) (older : List Record) (x : Record) → AreInPlace nodes n (r ∷ older) → StandsFor older x → StandsFor (r ∷ older) x
newer nodes n r older (Voted tid ps part) place is = newer_vote nodes n r older tid ps place is
newer nodes n r older (Executed tid part) place is = or_right _ _ is
newer nodes n r older (Decided tid true) place is = (or_right _ _ is.0, or_right _ _ is.1)
newer nodes n r older (Decided tid false) place is = (or_right _ _ is.0, or_right _ _ is.1)
newer nodes n r older (Forced tid) place is = or_right _ _ is

newest : (nodes : ℕ) (n : NodeNo) (r : Record) (older : List Record) → AreInPlace nodes n (r ∷ older) → StandsFor (r ∷ older) r
newest nodes n (Voted tid ps part) older place = ap (λ (b : Bool). if b then Some ps else voted_participants tid older) (tid_same-refl tid)
newest nodes n (Executed tid part) older place = ap (λ (b : Bool). b || has_record older tid) (tid_same-refl tid)
newest nodes n (Decided tid true) older place = (ap (λ (b : Bool). b || has_decided_yes older tid) (tid_same-refl tid), held_has_vote tid older place.0)
newest nodes n (Decided tid false) older place = (ap (λ (b : Bool). b || has_decided_no older tid) (tid_same-refl tid), held_has_vote tid older place.0)
newest nodes n (Forced tid) older place = ap (λ (b : Bool). b || has_record older tid) (tid_same-refl tid)

all_stand : (nodes : ℕ) (n : NodeNo) (records : List Record) → AreInPlace nodes n records → AllByRecursion (StandsFor records) records
all_stand nodes n [] place = tt
all_stand nodes n (r ∷ older) place = (newest nodes n r older place, weaker (StandsFor older) (StandsFor (r ∷ older)) (λ x h. newer nodes n r older x place h) older (all_stand nodes n older place.1))

-- Sound records

pub all_true : (f : NodeNo → Bool) (xs : List NodeNo) → list_all f xs ≡ true → AllByRecursion (λ x. f x ≡ true) xs
all_true f [] e = tt
all_true f (x ∷ xs) e = (left (f x) _ e, all_true f xs (right (f x) _ e))
  where
    left : (a b : Bool) → (a && b) ≡ true → a ≡ true
    left true b h = refl
    left false b h = absurd cc

    right : (a b : Bool) → (a && b) ≡ true → b ≡ true
    right true b h = h
    right false b h = absurd cc

-- where not all pass, one fails
one_fails : (f : NodeNo → Bool) (xs : List NodeNo) → list_all f xs ≡ false → (k : NodeNo) × Contains xs k × (f k ≡ false)
one_fails f [] e = absurd cc
one_fails f (x ∷ xs) e =
    elim (f x) as (λ b. f x ≡ b → (b && list_all f xs) ≡ false → (k : NodeNo) × Contains (x ∷ xs) k × (f k ≡ false)) [
      | true ↦ λ _ h. let r = one_fails f xs h in (r.0, (r.1.0 + 1, omega (arith, r.1.1), later r.0 r.1), r.2)
      | false ↦ λ h _. (x, (0, omega arith, refl), h)
    ] refl e
  where
    later : (k : NodeNo) (h : Contains xs k) → get_or (x ∷ xs) (h.0 + 1) k ≡ k
    later k h = rw Rattle.std.proofs.Common.add-one (h.2)

any_false_at : (f : NodeNo → Bool) (xs : List NodeNo) (n : NodeNo) → list_any f xs ≡ false → list_any (λ m. Rattle.mn_base.specs.Ids.node_same m n) xs ≡ true → f n ≡ false
any_false_at f [] n none e = absurd cc
any_false_at f (x ∷ xs) n none e =
    let s = split (f x) (list_any f xs) none in
    elim (or_cases (Rattle.mn_base.specs.Ids.node_same x n) (list_any (λ m. Rattle.mn_base.specs.Ids.node_same m n) xs) e) as (λ _. f n ≡ false) [
      | inl here ↦ subst (λ (m : NodeNo). f m ≡ false) (same_true x n here) s.0
      | inr there ↦ any_false_at f xs n s.1 there
    ]
  where
    split : (a b : Bool) → (a || b) ≡ false → (a ≡ false) × (b ≡ false)
    split true b h = absurd cc
    split false b h = (refl, h)

pub in_numbers : (nodes : ℕ) (n : NodeNo) → n.0 < nodes → list_any (λ m. Rattle.mn_base.specs.Ids.node_same m n) (node_numbers nodes) ≡ true
in_numbers nodes n low = Rattle.mn_mini.proofs.Parts.in_range 0 nodes n (omega arith) (omega (arith, low))

start_lost : (start : Start) → StartsSound start → (k : NodeNo) → k.0 < start_nodes start → (tid : Tid) → has_decided_no (start_records start k) tid ≡ true → has_voted (start_records start k) tid ≡ true → StartLost start tid
start_lost start sound k low tid against voted =
    let v = vote_names tid (start_records start k) voted in
    let uncommitted = (sound.no k k tid low low against).0 in
    let at = any_false_at (λ n. has_executed (start_records start n) tid || option_map_or (have_voted (start_records start) tid) (voted_participants tid (start_records start n)) false) (node_numbers (start_nodes start)) k uncommitted (in_numbers (start_nodes start) k low) in
    let none : have_voted (start_records start) tid v.0 ≡ false = right (has_executed (start_records start k) tid) _ (ap (λ (o : Option (List NodeNo)). has_executed (start_records start k) tid || option_map_or (have_voted (start_records start) tid) o false) (sym v.1) ∙ at) in
    let f = one_fails (λ n. has_voted (start_records start n) tid) v.0 none in
    (v.0, f.0, (k, (low, v.1)), f.1, f.2)
  where
    right : (a b : Bool) → (a || b) ≡ false → b ≡ false
    right true b h = absurd cc
    right false b h = h

start_voted : (start : Start) → StartsSound start → (k : NodeNo) → k.0 < start_nodes start → (tid : Tid) → has_decided_yes (start_records start k) tid ≡ true → has_voted (start_records start k) tid ≡ true → StartVoted start tid
start_voted start sound k low tid agreed voted =
    let v = vote_names tid (start_records start k) voted in
    (v.0, (k, (low, v.1)), all_true (λ n. has_voted (start_records start n) tid) v.0 (sound.yes k tid v.0 low agreed v.1))

-- a node that is none of the start's has no records
pub no_records : (start : Start) (k : NodeNo) → start_nodes start ≤ k.0 → start_records start k ≡ []
no_records start k high = ap (λ (r : List Record). reverse r) (get_or_past start.records k.0 [] high)

pub start_sound : (start : Start) → StartsSound start → (k : NodeNo) → AllByRecursion (RecordSound start [] k) (start_records start k)
start_sound start sound k = by (below_or k.0 (start_nodes start))
  where
    each : k.0 < start_nodes start → (r : Record) → StandsFor (start_records start k) r → RecordSound start [] k r
    each low (Voted tid ps part) is = inr (low, is)
    each low (Executed tid part) is = inr (k, low, is)
    each low (Decided tid true) is = inr (start_voted start sound k low tid is.0 is.1)
    each low (Decided tid false) is = inr (start_lost start sound k low tid is.0 is.1)
    each low (Forced tid) is = inr (low, is)

    by : (k.0 < start_nodes start) ⊎ (start_nodes start ≤ k.0) → AllByRecursion (RecordSound start [] k) (start_records start k)
    by (inl low) = weaker (StandsFor (start_records start k)) (RecordSound start [] k) (each low) (start_records start k) (all_stand (start_nodes start) k (start_records start k) (sound.in_place k low))
    by (inr high) = subst (λ (r : List Record). AllByRecursion (RecordSound start [] k) r) (sym (no_records start k high)) tt

-- fresh nodes are sound
pub fresh_sound : (start : Start) → StartsFresh start → StartsSound start
fresh_sound start fresh = record {
  in_place = λ n below. subst (λ (r : List Record). AreInPlace (start_nodes start) n r) (sym (fresh n)) tt;
  same = λ n m tid one other bn bm p q. let none : voted_participants tid (start_records start n) ≡ None = ap (voted_participants tid) (fresh n) in absurd (cc (none, p));
  alone = λ n m tid bn bm p q. let none : has_executed (start_records start n) tid ≡ false = ap (λ (r : List Record). has_executed r tid) (fresh n) in absurd (cc (none, p));
  yes = λ n tid ps bn p q. let none : has_decided_yes (start_records start n) tid ≡ false = ap (λ (r : List Record). has_decided_yes r tid) (fresh n) in absurd (cc (none, p));
  no = λ n m tid bn bm p. let none : has_decided_no (start_records start n) tid ≡ false = ap (λ (r : List Record). has_decided_no r tid) (fresh n) in absurd (cc (none, p));
}

-- Which ids of the start are committed

pub all_false : (f : NodeNo → Bool) (xs : List NodeNo) → ((x : NodeNo) → f x ≡ false) → list_any f xs ≡ false
all_false f [] all = refl
all_false f (x ∷ xs) all = let h = all x in let r = all_false f xs all in cc

pub is_true_at : (f : NodeNo → Bool) (xs : List NodeNo) (n : NodeNo) → f n ≡ true → list_any (λ m. Rattle.mn_base.specs.Ids.node_same m n) xs ≡ true → list_any f xs ≡ true
is_true_at f [] n t e = absurd cc
is_true_at f (x ∷ xs) n t e =
    elim (or_cases (Rattle.mn_base.specs.Ids.node_same x n) (list_any (λ m. Rattle.mn_base.specs.Ids.node_same m n) xs) e) as (λ _. (f x || list_any f xs) ≡ true) [
      | inl here ↦ let h : f x ≡ true = ap f (same_true x n here) ∙ t in ap (λ (b : Bool). b || list_any f xs) h
      | inr there ↦ or_right (f x) _ (is_true_at f xs n t there)
    ]

pub all_pass : (f : NodeNo → Bool) (xs : List NodeNo) → AllByRecursion (λ x. f x ≡ true) xs → list_all f xs ≡ true
all_pass f [] a = refl
all_pass f (x ∷ xs) a = let h = a.0 in let r = all_pass f xs a.1 in cc

pub start_committed : (start : Start) (tid : Tid) → StartVoted start tid → is_committed (start_nodes start) (start_records start) tid ≡ true
start_committed start tid (ps, (m, (low, is)), voted) =
    is_true_at (λ n. has_executed (start_records start n) tid || option_map_or (have_voted (start_records start) tid) (voted_participants tid (start_records start n)) false) (node_numbers (start_nodes start)) m
    (or_right _ _ (ap (λ (o : Option (List NodeNo)). option_map_or (have_voted (start_records start) tid) o false) is ∙ all_pass (λ n. has_voted (start_records start n) tid) ps voted)) (in_numbers (start_nodes start) m low)

pub start_uncommitted : (start : Start) (tid : Tid) → StartsSound start → StartLost start tid → is_committed (start_nodes start) (start_records start) tid ≡ false
start_uncommitted start tid sound (ps, k, (m, (low, is)), has, unvoted) =
    all_false (λ n. has_executed (start_records start n) tid || option_map_or (have_voted (start_records start) tid) (voted_participants tid (start_records start n)) false) (node_numbers (start_nodes start)) (λ n. at n (below_or n.0 (start_nodes start)))
  where
    both : (a b : Bool) → a ≡ false → b ≡ false → (a || b) ≡ false
    both a b p q = cc

    falsely : (b : Bool) → (b ≡ true → ⊥) → b ≡ false
    falsely true f = absurd (f refl)
    falsely false f = refl

    lacks : (qs : List NodeNo) → qs ≡ ps → have_voted (start_records start) tid qs ≡ false
    lacks qs eq = falsely _ (λ all. clash _ (All-contains (λ n. has_voted (start_records start n) tid ≡ true) qs k (All-from_recursion (λ n. has_voted (start_records start n) tid ≡ true) qs (all_true (λ n. has_voted (start_records start n) tid) qs all)) (subst (λ (x : List NodeNo). Contains x k) (sym eq) has)) unvoted)

    named : (n : NodeNo) → n.0 < start_nodes start → (o : Option (List NodeNo)) → voted_participants tid (start_records start n) ≡ o → option_map_or (have_voted (start_records start) tid) o false ≡ false
    named n below None e = refl
    named n below (Some qs) e = lacks qs (sound.same n m tid qs ps below low e is)

    at : (n : NodeNo) → (n.0 < start_nodes start) ⊎ (start_nodes start ≤ n.0) → (has_executed (start_records start n) tid || option_map_or (have_voted (start_records start) tid) (voted_participants tid (start_records start n)) false) ≡ false
    at n (inl below) = both _ _ (falsely _ (λ x.
        let one : n ≡ m = sound.alone n m tid below low x (named_record tid ps (start_records start m) is) in
        voted_executed (start_nodes start) m (start_records start m) tid (sound.in_place m low) (named_voted tid ps (start_records start m) is) (subst (λ (y : NodeNo). has_executed (start_records start y) tid ≡ true) one x)))
        (named n below (voted_participants tid (start_records start n)) refl)
    at n (inr high) = ap (λ (r : List Record). has_executed r tid || option_map_or (have_voted (start_records start) tid) (voted_participants tid r) false) (no_records start n high)

-- a vote of the start is of an old id
pub voted_old : (start : Start) (n : NodeNo) (tid : Tid) → has_voted (start_records start n) tid ≡ true → IsOld start tid
voted_old start n tid voted = by (below_or n.0 (start_nodes start))
  where
    by : (n.0 < start_nodes start) ⊎ (start_nodes start ≤ n.0) → IsOld start tid
    by (inl low) = let v = vote_names tid (start_records start n) voted in (n, low, named_record tid v.0 (start_records start n) v.1)
    by (inr high) = absurd (clash _ voted (ap (λ (r : List Record). has_voted r tid) (no_records start n high)))

pub executed_old : (start : Start) (n : NodeNo) (tid : Tid) → has_executed (start_records start n) tid ≡ true → IsOld start tid
executed_old start n tid x = by (below_or n.0 (start_nodes start))
  where
    executed_record : (records : List Record) (tid : Tid) → has_executed records tid ≡ true → has_record records tid ≡ true
    executed_record [] tid e = absurd cc
    executed_record (Executed t part ∷ rs) tid e = elim (or_cases (tid_same t tid) (has_executed rs tid) e) as (λ _. (tid_same t tid || has_record rs tid) ≡ true) [ inl h ↦ ap (λ (b : Bool). b || has_record rs tid) h | inr h ↦ or_right _ _ (executed_record rs tid h) ]
    executed_record (Voted t ps part ∷ rs) tid e = or_right _ _ (executed_record rs tid e)
    executed_record (Decided t verdict ∷ rs) tid e = or_right _ _ (executed_record rs tid e)
    executed_record (Forced t ∷ rs) tid e = or_right _ _ (executed_record rs tid e)

    by : (n.0 < start_nodes start) ⊎ (start_nodes start ≤ n.0) → IsOld start tid
    by (inl low) = (n, low, executed_record (start_records start n) tid x)
    by (inr high) = absurd (clash _ x (ap (λ (r : List Record). has_executed r tid) (no_records start n high)))

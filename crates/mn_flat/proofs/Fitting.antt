-- Records are right, each one, just where they fit together.
use Rattle.std.proofs.Common.{◌≡◌, ◌<◌, ◌≤◌, ◌+◌, ◌⊎◌, inl, inr, ℕ, zero, suc, Bool, true, false, not, ◌&&◌, ◌||◌, List, [], ◌∷◌, ◌++◌, length, take, reverse, get_or, Option, Some, refl, ap, sym, subst, ◌∙◌, arith, slice_get, Contains, if◌then◌else◌}
use Rattle.std.specs.Prelude.{nat_lt, nat_eq}
use Rattle.std.specs.Option.{option_map_or}
use Rattle.std.specs.List.{list_any, list_all, flat_map}
use Rattle.std.proofs.lemmas.Bool.Decides.{nat_tests}
use Rattle.std.proofs.lemmas.List.{get_or_past, reverse-append, reverse-reverse}
use Rattle.std.specs.Prelude.{IsPermutation}
use Rattle.std.proofs.lemmas.List.Elements.{Contains-append_cases}
use Rattle.std.proofs.lemmas.List.Folds.{list_any-append}
use Rattle.std.proofs.lemmas.List.Sorted.{list_any-IsPermutation, IsPermutation-reverse, Contains-permutation}
use Rattle.mn_base.specs.Ids.{node_same, tid_same}
use Rattle.mn_base.specs.declared.ids.NodeNo.{NodeNo}
use Rattle.mn_base.specs.declared.ids.Tid.{Tid}
use Rattle.mn_base.proofs.Booleans.{clash, falsely, or_cases, or_left, or_right, or_split}
use Rattle.mn_base.proofs.Naturals.{below_or}
use Rattle.mn_mini.specs.declared.part.PartItem.{PartItem}
use Rattle.mn_mini.specs.declared.record.Record.{Record}
use Rattle.mn_mini.specs.declared.record.Record.TheVariants.{Voted, Executed, Decided, Forced}
use Rattle.mn_mini.specs.Node.{is_of, has_voted, has_executed, has_decided_yes, has_decided_no, is_held, is_vote_of, is_execution_of, is_yes_of, is_no_of}
use Rattle.mn_mini.proofs.Parts.{same_self, same_true}
use Rattle.mn_runs.specs.Sound.{AreSound, AreInPlace, IsInPlace, voted_participants, have_voted, is_committed, has_record}
use Rattle.mn_law.specs.Opened.{HeldAreGreater}
use Rattle.mn_runs.proofs.Same.{tid_same-refl, tid_same-true}
use Rattle.mn_runs.proofs.Records.{vote_names, named_record, held_has_vote, voted_executed}
use Rattle.mn_flat.specs.Votes.{IsRight, AreRight, lists_of, all_of, list_at, elders, has_several, has_all_votes, is_both, names_none_but}
use Rattle.mn_runs.specs.Protocol.{start_of, base_at}
use Rattle.mn_flat.proofs.Voting.{held_rises}
use Rattle.mn_flat.proofs.Lists.{place_in, read_at}
use Rattle.mn_flat.proofs.Telling.{newest_named, same_nodes-refl}

-- The records of one node, and of all

any_reversed : (p : Record → Bool) (l : List Record) → list_any p (reverse l) ≡ list_any p l
any_reversed p l = sym (list_any-IsPermutation p l (reverse l) (IsPermutation-reverse l))

any_joined : (p : Record → Bool) (lists : List (List Record)) (n : ℕ) → list_any p (get_or lists n []) ≡ true → list_any p (flat_map (λ l. l) lists) ≡ true
any_joined p [] n e = absurd cc
any_joined p (x ∷ lists) zero e = list_any-append p x (flat_map (λ l. l) lists) ∙ or_left _ _ e
any_joined p (x ∷ lists) (suc n) e = list_any-append p x (flat_map (λ l. l) lists) ∙ or_right _ _ (any_joined p lists n e)

-- what a node has, all have
in_all : (records : List (List Record)) (p : Record → Bool) (n : NodeNo) → list_any p (lists_of records n) ≡ true → list_any p (all_of records) ≡ true
in_all records p n e = any_reversed p (flat_map (λ l. l) records) ∙ any_joined p records n.0 (sym (any_reversed p (get_or records n.0 [])) ∙ e)

not_in_all : (records : List (List Record)) (p : Record → Bool) (n : NodeNo) → list_any p (all_of records) ≡ false → list_any p (lists_of records n) ≡ false
not_in_all records p n e = falsely _ (λ t. clash _ (in_all records p n t) e)

joined_any : (p : Record → Bool) (lists : List (List Record)) → list_any p (flat_map (λ l. l) lists) ≡ true → (n : ℕ) × (n < length lists) × (list_any p (get_or lists n []) ≡ true)
joined_any p [] e = absurd cc
joined_any p (x ∷ lists) e =
    elim (or_cases (list_any p x) (list_any p (flat_map (λ l. l) lists)) (sym (list_any-append p x (flat_map (λ l. l) lists)) ∙ e)) as (λ _. (n : ℕ) × (n < suc (length lists)) × (list_any p (get_or (x ∷ lists) n []) ≡ true)) [
      | inl here ↦ (0, omega arith, here)
      | inr there ↦ let r = joined_any p lists there in (suc r.0, (let low = r.1 in omega arith), r.2)
    ]

-- what all have, a node has
some_node : (records : List (List Record)) (p : Record → Bool) → list_any p (all_of records) ≡ true → (n : NodeNo) × (n.0 < length records) × (list_any p (lists_of records n) ≡ true)
some_node records p e =
    let r = joined_any p records (sym (any_reversed p (flat_map (λ l. l) records)) ∙ e) in
    (record { 0 = r.0 }, r.1, any_reversed p (get_or records r.0 []) ∙ r.2)

-- How many records an id has

abbrev count_of : Tid → List Record → ℕ
count_of tid [] = 0
count_of tid (r ∷ rs) = (if is_of tid r then 1 else 0) + count_of tid rs

has_counted : (tid : Tid) (rs : List Record) → has_record rs tid ≡ nat_lt 0 (count_of tid rs)
has_counted tid [] = refl
has_counted tid (r ∷ rs) = by (is_of tid r) (has_counted tid rs)
  where
    by : (b : Bool) → has_record rs tid ≡ nat_lt 0 (count_of tid rs) → (b || has_record rs tid) ≡ nat_lt 0 ((if b then 1 else 0) + count_of tid rs)
    by true ih = grind (arith, nat_tests)
    by false ih = ih ∙ ap (λ (k : ℕ). nat_lt 0 k) (sym (Rattle.std.proofs.Common.zero-add (count_of tid rs)))

several_counted : (tid : Tid) (rs : List Record) → has_several rs tid ≡ nat_lt 1 (count_of tid rs)
several_counted tid [] = refl
several_counted tid (r ∷ rs) = by (is_of tid r) (several_counted tid rs)
  where
    more : (k : ℕ) → (nat_lt 0 k || nat_lt 1 k) ≡ nat_lt 1 (1 + k)
    more zero = refl
    more (suc k) = grind (arith, nat_tests)

    by : (b : Bool) → has_several rs tid ≡ nat_lt 1 (count_of tid rs) → ((b && has_record rs tid) || has_several rs tid) ≡ nat_lt 1 ((if b then 1 else 0) + count_of tid rs)
    by true ih = ap (λ (x : Bool). x || has_several rs tid) (has_counted tid rs) ∙ ap (λ (x : Bool). nat_lt 0 (count_of tid rs) || x) ih ∙ more (count_of tid rs)
    by false ih = ih ∙ ap (λ (k : ℕ). nat_lt 1 k) (sym (Rattle.std.proofs.Common.zero-add (count_of tid rs)))

count-append : (tid : Tid) (xs ys : List Record) → count_of tid (xs ++ ys) ≡ count_of tid xs + count_of tid ys
count-append tid [] ys = sym (Rattle.std.proofs.Common.zero-add (count_of tid ys))
count-append tid (x ∷ xs) ys = let ih = count-append tid xs ys in omega (arith, ih)

count-reverse : (tid : Tid) (xs : List Record) → count_of tid (reverse xs) ≡ count_of tid xs
count-reverse tid [] = refl
count-reverse tid (x ∷ xs) =
    let e = reverse-append (x ∷ []) xs in
    let a = count-append tid (reverse xs) (x ∷ []) in
    let ih = count-reverse tid xs in
    ap (λ (l : List Record). count_of tid l) e ∙ a ∙ (let goal : count_of tid (reverse xs) + ((if is_of tid x then 1 else 0) + 0) ≡ (if is_of tid x then 1 else 0) + count_of tid xs = omega (arith, ih) in goal)

-- each list has at most what all have
count_at : (tid : Tid) (lists : List (List Record)) (n : ℕ) → count_of tid (get_or lists n []) ≤ count_of tid (flat_map (λ l. l) lists)
count_at tid [] n = omega arith
count_at tid (x ∷ lists) zero = let a = count-append tid x (flat_map (λ l. l) lists) in omega (arith, a)
count_at tid (x ∷ lists) (suc n) = let a = count-append tid x (flat_map (λ l. l) lists) in let ih = count_at tid lists n in omega (arith, a, ih)

-- two lists have together at most what all have
count_two : (tid : Tid) (lists : List (List Record)) (n m : ℕ) → (n ≡ m → ⊥) → count_of tid (get_or lists n []) + count_of tid (get_or lists m []) ≤ count_of tid (flat_map (λ l. l) lists)
count_two tid [] n m ne = omega arith
count_two tid (x ∷ lists) zero zero ne = absurd (ne refl)
count_two tid (x ∷ lists) zero (suc m) ne = let a = count-append tid x (flat_map (λ l. l) lists) in let c = count_at tid lists m in omega (arith, a, c)
count_two tid (x ∷ lists) (suc n) zero ne = let a = count-append tid x (flat_map (λ l. l) lists) in let c = count_at tid lists n in omega (arith, a, c)
count_two tid (x ∷ lists) (suc n) (suc m) ne =
    let a = count-append tid x (flat_map (λ l. l) lists) in let ih = count_two tid lists n m (λ e. ne (ap suc e)) in omega (arith, a, ih)

-- one list has what all have, where the others have none
count_one : (tid : Tid) (lists : List (List Record)) (n : ℕ) → ((m : ℕ) → (m ≡ n → ⊥) → count_of tid (get_or lists m []) ≡ 0) → count_of tid (flat_map (λ l. l) lists) ≡ count_of tid (get_or lists n [])
count_one tid [] n none = refl
count_one tid (x ∷ lists) zero none =
    let a = count-append tid x (flat_map (λ l. l) lists) in
    let z = nothing lists (λ m. none (suc m) (λ (e : suc m ≡ 0). absurd (omega arith))) in
    omega (arith, a, z)
  where
    nothing : (ls : List (List Record)) → ((m : ℕ) → count_of tid (get_or ls m []) ≡ 0) → count_of tid (flat_map (λ l. l) ls) ≡ 0
    nothing [] f = refl
    nothing (y ∷ ls) f = let a = count-append tid y (flat_map (λ l. l) ls) in let h = f 0 in let ih = nothing ls (λ m. f (suc m)) in omega (arith, a, h, ih)
count_one tid (x ∷ lists) (suc n) none =
    let a = count-append tid x (flat_map (λ l. l) lists) in
    let h = none 0 (λ (e : 0 ≡ suc n). absurd (omega arith)) in
    let ih = count_one tid lists n (λ m ne. none (suc m) (λ e. ne (let f : m ≡ n = omega arith in f))) in
    omega (arith, a, h, ih)

-- From each record to all

in_place : (records : List (List Record)) (n : NodeNo) (l : List Record) → AreRight records n l → AreInPlace (length records) n l
in_place records n [] a = tt
in_place records n (Voted tid ps part ∷ older) a = (a.0.0.0, in_place records n older a.1)
in_place records n (Executed tid part ∷ older) a = (a.0.0.0, in_place records n older a.1)
in_place records n (Decided tid true ∷ older) a = (a.0.0.0, in_place records n older a.1)
in_place records n (Decided tid false ∷ older) a = (a.0.0, in_place records n older a.1)
in_place records n (Forced tid ∷ older) a = (a.0.0, in_place records n older a.1)

named_by_all : (records : List (List Record)) (n : NodeNo) (l : List Record) (tid : Tid) (one : List NodeNo) → AreRight records n l → voted_participants tid l ≡ Some one → list_all (names_none_but tid one) (all_of records) ≡ true
named_by_all records n [] tid one a e = absurd cc
named_by_all records n (Voted t ps part ∷ older) tid one a e = by (named_by_all records n older tid one a.1) (tid_same t tid) refl e
  where
    by : (voted_participants tid older ≡ Some one → list_all (names_none_but tid one) (all_of records) ≡ true) → (b : Bool) → tid_same t tid ≡ b → (if b then Some ps else voted_participants tid older) ≡ Some one
        → list_all (names_none_but tid one) (all_of records) ≡ true
    by ih true same e =
        let of : ps ≡ one = cc in
        let id : t ≡ tid = tid_same-true t tid same in
        subst (λ (x : List NodeNo). list_all (names_none_but tid x) (all_of records) ≡ true) of (subst (λ (u : Tid). list_all (names_none_but u ps) (all_of records) ≡ true) id a.0.0.1)
    by ih false same e = ih e
named_by_all records n (Executed t part ∷ older) tid one a e = named_by_all records n older tid one a.1 e
named_by_all records n (Decided t verdict ∷ older) tid one a e = named_by_all records n older tid one a.1 e
named_by_all records n (Forced t ∷ older) tid one a e = named_by_all records n older tid one a.1 e

alone_in_all : (records : List (List Record)) (n : NodeNo) (l : List Record) (tid : Tid) → AreRight records n l → has_executed l tid ≡ true → has_several (all_of records) tid ≡ false
alone_in_all records n [] tid a e = absurd cc
alone_in_all records n (Voted t ps part ∷ older) tid a e = alone_in_all records n older tid a.1 e
alone_in_all records n (Executed t part ∷ older) tid a e =
    elim (or_cases (tid_same t tid) (has_executed older tid) e) as (λ _. has_several (all_of records) tid ≡ false) [
      | inl same ↦ subst (λ (u : Tid). has_several (all_of records) u ≡ false) (tid_same-true t tid same) a.0.0.1
      | inr there ↦ alone_in_all records n older tid a.1 there
    ]
alone_in_all records n (Decided t verdict ∷ older) tid a e = alone_in_all records n older tid a.1 e
alone_in_all records n (Forced t ∷ older) tid a e = alone_in_all records n older tid a.1 e

yes_voted : (records : List (List Record)) (n : NodeNo) (l : List Record) (tid : Tid) → AreRight records n l → has_decided_yes l tid ≡ true → has_all_votes (lists_of records) n tid ≡ true
yes_voted records n [] tid a e = absurd cc
yes_voted records n (Voted t ps part ∷ older) tid a e = yes_voted records n older tid a.1 e
yes_voted records n (Executed t part ∷ older) tid a e = yes_voted records n older tid a.1 e
yes_voted records n (Decided t true ∷ older) tid a e =
    elim (or_cases (tid_same t tid) (has_decided_yes older tid) e) as (λ _. has_all_votes (lists_of records) n tid ≡ true) [
      | inl same ↦ subst (λ (u : Tid). has_all_votes (lists_of records) n u ≡ true) (tid_same-true t tid same) a.0.0.1
      | inr there ↦ yes_voted records n older tid a.1 there
    ]
yes_voted records n (Decided t false ∷ older) tid a e = yes_voted records n older tid a.1 e
yes_voted records n (Forced t ∷ older) tid a e = yes_voted records n older tid a.1 e

no_one_way : (records : List (List Record)) (n : NodeNo) (l : List Record) (tid : Tid) → AreRight records n l → has_decided_no l tid ≡ true → is_both records tid ≡ false
no_one_way records n [] tid a e = absurd cc
no_one_way records n (Voted t ps part ∷ older) tid a e = no_one_way records n older tid a.1 e
no_one_way records n (Executed t part ∷ older) tid a e = no_one_way records n older tid a.1 e
no_one_way records n (Decided t true ∷ older) tid a e = no_one_way records n older tid a.1 e
no_one_way records n (Decided t false ∷ older) tid a e =
    elim (or_cases (tid_same t tid) (has_decided_no older tid) e) as (λ _. is_both records tid ≡ false) [
      | inl same ↦ subst (λ (u : Tid). is_both records u ≡ false) (tid_same-true t tid same) a.0.1
      | inr there ↦ no_one_way records n older tid a.1 there
    ]
no_one_way records n (Forced t ∷ older) tid a e = no_one_way records n older tid a.1 e

executed_has_record : (l : List Record) (tid : Tid) → has_executed l tid ≡ true → has_record l tid ≡ true
executed_has_record [] tid e = absurd cc
executed_has_record (Executed t part ∷ rs) tid e =
    elim (or_cases (tid_same t tid) (has_executed rs tid) e) as (λ _. (tid_same t tid || has_record rs tid) ≡ true) [ inl h ↦ or_left _ _ h | inr h ↦ or_right _ _ (executed_has_record rs tid h) ]
executed_has_record (Voted t ps part ∷ rs) tid e = or_right _ _ (executed_has_record rs tid e)
executed_has_record (Decided t verdict ∷ rs) tid e = or_right _ _ (executed_has_record rs tid e)
executed_has_record (Forced t ∷ rs) tid e = or_right _ _ (executed_has_record rs tid e)

counted : (tid : Tid) (rs : List Record) → has_record rs tid ≡ true → 0 < count_of tid rs
counted tid rs e = let h : nat_lt 0 (count_of tid rs) ≡ true = sym (has_counted tid rs) ∙ e in grind (arith, nat_tests)

-- records on two nodes are several
apart_several : (records : List (List Record)) (n m : NodeNo) (tid : Tid) → (n.0 ≡ m.0 → ⊥) → has_record (lists_of records n) tid ≡ true → has_record (lists_of records m) tid ≡ true → has_several (all_of records) tid ≡ true
apart_several records n m tid ne here there =
    let a = counted tid (lists_of records n) here in
    let b = counted tid (lists_of records m) there in
    let ra = count-reverse tid (get_or records n.0 []) in
    let rb = count-reverse tid (get_or records m.0 []) in
    let two = count_two tid records n.0 m.0 ne in
    let r = count-reverse tid (flat_map (λ l. l) records) in
    let many : 1 < count_of tid (all_of records) = omega (arith, a, b, ra, rb, two, r) in
    several_counted tid (all_of records) ∙ test (count_of tid (all_of records)) many
  where
    test : (k : ℕ) → 1 < k → nat_lt 1 k ≡ true
    test k low = grind (arith, nat_tests)

pub right_fit : (records : List (List Record)) → ((n : NodeNo) → n.0 < length records → AreRight records n (lists_of records n)) → AreSound (length records) (lists_of records)
right_fit records right = record {
  in_place = λ n low. in_place records n (lists_of records n) (right n low);
  same = λ n m tid one other ln lm p q. same n m tid one other ln lm p q;
  alone = λ n m tid ln lm p q. alone n m tid (alone_in_all records n (lists_of records n) tid (right n ln) p) (executed_has_record (lists_of records n) tid p) q (node_same n m) refl;
  yes = λ n tid ps low p q. sym (ap (λ (o : Option (List NodeNo)). option_map_or (have_voted (lists_of records) tid) o false) q) ∙ yes_voted records n (lists_of records n) tid (right n low) p;
  no = λ n m tid ln lm p. one_way n m tid (no_one_way records n (lists_of records n) tid (right n ln) p) (in_all records (is_no_of tid) n p);
}
  where
    same : (n m : NodeNo) (tid : Tid) (one other : List NodeNo) → n.0 < length records → m.0 < length records → voted_participants tid (lists_of records n) ≡ Some one → voted_participants tid (lists_of records m) ≡ Some other → one ≡ other
    same n m tid one other ln lm p q =
        let a = named_by_all records n (lists_of records n) tid one (right n ln) p in
        let b = named_by_all records m (lists_of records m) tid other (right m lm) q in
        let voted = in_all records (is_vote_of tid) n (Rattle.mn_runs.proofs.Records.named_voted tid one (lists_of records n) p) in
        let v = vote_names tid (all_of records) voted in
        sym (newest_named tid one v.0 (all_of records) a v.1) ∙ newest_named tid other v.0 (all_of records) b v.1

    alone : (n m : NodeNo) (tid : Tid) → has_several (all_of records) tid ≡ false → has_record (lists_of records n) tid ≡ true → has_record (lists_of records m) tid ≡ true → (b : Bool) → node_same n m ≡ b → n ≡ m
    alone n m tid none here there true e = same_true n m e
    alone n m tid none here there false e = absurd (clash _ (apart_several records n m tid (λ (k : n.0 ≡ m.0). clash (node_same n m) (ap (λ (x : ℕ). nat_eq n.0 x) (sym k) ∙ same_self n) e) here there) none)

    one_way : (n m : NodeNo) (tid : Tid) → is_both records tid ≡ false → has_decided_no (all_of records) tid ≡ true → (is_committed (length records) (lists_of records) tid ≡ false) × (has_decided_yes (lists_of records m) tid ≡ false)
    one_way n m tid both against =
        let rest : (is_committed (length records) (lists_of records) tid || has_decided_yes (all_of records) tid) ≡ false =
        sym (ap (λ (b : Bool). b && (is_committed (length records) (lists_of records) tid || has_decided_yes (all_of records) tid)) against) ∙ both in
        let s = or_split _ _ rest in
        (s.0, not_in_all records (is_yes_of tid) m s.1)

-- From all to each record

pub split_at : (l : List Record) (i : ℕ) (r : Record) → slice_get l i ≡ Some r → (newer : List Record) × (reverse l ≡ newer ++ r ∷ reverse (take i l))
split_at [] i r e = absurd cc
split_at (x ∷ l) zero r e = let same : x ≡ r = cc in (reverse l, reverse-append (x ∷ []) l ∙ ap (λ (y : Record). reverse l ++ y ∷ []) same)
split_at (x ∷ l) (suc i) r e =
    let s = split_at l i r e in
    (s.0, reverse-append (x ∷ []) l ∙ ap (λ (k : List Record). k ++ x ∷ []) s.1 ∙ Rattle.std.proofs.Common.append_assoc s.0 (r ∷ reverse (take i l)) (x ∷ []) ∙ ap (λ (k : List Record). s.0 ++ r ∷ k) (sym (reverse-append (x ∷ []) (take i l))))

placed : (nodes : ℕ) (n : NodeNo) (newer : List Record) (r : Record) (older : List Record) → AreInPlace nodes n (newer ++ r ∷ older) → IsInPlace nodes n older r
placed nodes n [] r older a = a.0
placed nodes n (x ∷ newer) r older a = placed nodes n newer r older a.1

any_behind : (p : Record → Bool) (newer : List Record) (r : Record) (older : List Record) → p r ≡ true → list_any p (newer ++ r ∷ older) ≡ true
any_behind p [] r older e = or_left _ _ e
any_behind p (x ∷ newer) r older e = or_right _ _ (any_behind p newer r older e)

any_older : (p : Record → Bool) (newer : List Record) (r : Record) (older : List Record) → list_any p older ≡ true → list_any p (newer ++ r ∷ older) ≡ true
any_older p [] r older e = or_right _ _ e
any_older p (x ∷ newer) r older e = or_right _ _ (any_older p newer r older e)

-- a vote in place is the one that names the participants
vote_stands : (nodes : ℕ) (n : NodeNo) (l : List Record) (tid : Tid) (ps : List NodeNo) (part : List PartItem) → AreInPlace nodes n l → Contains l (Voted tid ps part) → voted_participants tid l ≡ Some ps
vote_stands nodes n [] tid ps part a (k, low, is) = absurd (omega arith)
vote_stands nodes n (r ∷ older) tid ps part a (zero, low, is) =
    subst (λ (x : Record). voted_participants tid (x ∷ older) ≡ Some ps) (sym (let e : r ≡ Voted tid ps part = is in e)) (ap (λ (b : Bool). if b then Some ps else voted_participants tid older) (tid_same-refl tid))
vote_stands nodes n (Voted t qs part' ∷ older) tid ps part a (suc k, low, is) =
    let ih = vote_stands nodes n older tid ps part a.1 (k, omega arith, is) in by ih (tid_same t tid) refl
  where
    by : voted_participants tid older ≡ Some ps → (b : Bool) → tid_same t tid ≡ b → (if b then Some qs else voted_participants tid older) ≡ Some ps
    by ih true e = absurd (clash _ (named_record tid ps older ih) (subst (λ (u : Tid). has_record older u ≡ false) (tid_same-true t tid e) a.0.0))
    by ih false e = ih
vote_stands nodes n (Executed t part' ∷ older) tid ps part a (suc k, low, is) = vote_stands nodes n older tid ps part a.1 (k, omega arith, is)
vote_stands nodes n (Decided t verdict ∷ older) tid ps part a (suc k, low, is) = vote_stands nodes n older tid ps part a.1 (k, omega arith, is)
vote_stands nodes n (Forced t ∷ older) tid ps part a (suc k, low, is) = vote_stands nodes n older tid ps part a.1 (k, omega arith, is)

-- an execution in place is the only record of its id on its node
executed_once : (nodes : ℕ) (n : NodeNo) (l : List Record) (tid : Tid) → AreInPlace nodes n l → has_executed l tid ≡ true → count_of tid l ≤ 1
executed_once nodes n [] tid a e = absurd cc
executed_once nodes n (Voted t ps part ∷ older) tid a e =
    let ih = executed_once nodes n older tid a.1 e in
    by ih (tid_same t tid) refl
  where
    by : count_of tid older ≤ 1 → (b : Bool) → tid_same t tid ≡ b → (if b then 1 else 0) + count_of tid older ≤ 1
    by ih true same = absurd (clash _ (executed_has_record older tid e) (subst (λ (u : Tid). has_record older u ≡ false) (tid_same-true t tid same) a.0.0))
    by ih false same = omega (arith, ih)
executed_once nodes n (Executed t part ∷ older) tid a e =
    by (executed_once nodes n older tid a.1) (tid_same t tid) refl e
  where
    none : has_record older tid ≡ false → count_of tid older ≡ 0
    none h = let c : nat_lt 0 (count_of tid older) ≡ false = sym (has_counted tid older) ∙ h in grind (arith, nat_tests)

    by : (has_executed older tid ≡ true → count_of tid older ≤ 1) → (b : Bool) → tid_same t tid ≡ b → (b || has_executed older tid) ≡ true → (if b then 1 else 0) + count_of tid older ≤ 1
    by ih true same h = let z = none (subst (λ (u : Tid). has_record older u ≡ false) (tid_same-true t tid same) a.0.0) in omega (arith, z)
    by ih false same h = let low = ih h in omega (arith, low)
executed_once nodes n (Decided t verdict ∷ older) tid a e =
    let ih = executed_once nodes n older tid a.1 e in
    by ih (tid_same t tid) refl
  where
    by : count_of tid older ≤ 1 → (b : Bool) → tid_same t tid ≡ b → (if b then 1 else 0) + count_of tid older ≤ 1
    by ih true same =
        let held = subst (λ (u : Tid). is_held older u ≡ true) (tid_same-true t tid same) a.0 in
        absurd (voted_executed nodes n older tid a.1 (held_has_vote tid older held) e)
    by ih false same = omega (arith, ih)
executed_once nodes n (Forced t ∷ older) tid a e =
    let ih = executed_once nodes n older tid a.1 e in
    by ih (tid_same t tid) refl
  where
    by : count_of tid older ≤ 1 → (b : Bool) → tid_same t tid ≡ b → (if b then 1 else 0) + count_of tid older ≤ 1
    by ih true same = absurd (clash _ (executed_has_record older tid e) (subst (λ (u : Tid). has_record older u ≡ false) (tid_same-true t tid same) a.0))
    by ih false same = omega (arith, ih)

-- where a test passes at each element, all pass
all_from : (p : Record → Bool) (l : List Record) → ((r : Record) → Contains l r → p r ≡ true) → list_all p l ≡ true
all_from p [] f = refl
all_from p (r ∷ l) f = let h = f r (0, omega arith, refl) in let ih = all_from p l (λ x there. f x (let k = there.1 in (suc there.0, omega arith, there.2))) in cc

-- each record of all is a node's
record_of : (records : List (List Record)) (r : Record) → Contains (all_of records) r → (n : NodeNo) × (n.0 < length records) × Contains (lists_of records n) r
record_of records r there =
    let joined = Contains-permutation (all_of records) (flat_map (λ l. l) records) r (IsPermutation-back (flat_map (λ l. l) records)) there in
    let at = in_list records joined in
    (record { 0 = at.0 }, at.1, Contains-permutation (get_or records at.0 []) (reverse (get_or records at.0 [])) r (IsPermutation-reverse (get_or records at.0 [])) at.2)
  where
    IsPermutation-back : (xs : List Record) → IsPermutation (reverse xs) xs
    IsPermutation-back xs = subst (λ (l : List Record). IsPermutation (reverse xs) l) (reverse-reverse xs) (IsPermutation-reverse (reverse xs))

    in_list : (lists : List (List Record)) → Contains (flat_map (λ l. l) lists) r → (n : ℕ) × (n < length lists) × Contains (get_or lists n []) r
    in_list [] (k, low, is) = absurd (omega arith)
    in_list (x ∷ lists) c =
        elim (Contains-append_cases x (flat_map (λ l. l) lists) r c) as (λ _. (n : ℕ) × (n < suc (length lists)) × Contains (get_or (x ∷ lists) n []) r) [
          | inl here ↦ (0, omega arith, here)
          | inr there ↦ let s = in_list lists there in (suc s.0, (let low = s.1 in omega arith), s.2)
        ]

pub fit_right : (records : List (List Record)) → AreSound (length records) (lists_of records) → HeldAreGreater (length records) (base_at (start_of records)) (lists_of records) → (n : NodeNo) (number : ℕ) (r : Record) → slice_get (list_at records n) number ≡ Some r → IsRight records n (elders records n number) r
fit_right records s g n number r at = right r at
  where
    below : n.0 < length records
    below = by (below_or n.0 (length records))
      where
        by : (n.0 < length records) ⊎ (length records ≤ n.0) → n.0 < length records
        by (inl low) = low
        by (inr high) = let none : get_or records n.0 [] ≡ [] = get_or_past records n.0 [] high in let e : slice_get (let l : List Record = [] in l) number ≡ Some r = sym (ap (λ (l : List Record). slice_get l number) none) ∙ at in absurd cc

    older : List Record
    older = elders records n number

    cut : (q : Record) → slice_get (list_at records n) number ≡ Some q → (newer : List Record) × (lists_of records n ≡ newer ++ q ∷ older)
    cut q e = split_at (list_at records n) number q e

    here : (q : Record) → slice_get (list_at records n) number ≡ Some q → IsInPlace (length records) n older q
    here q e = let c = cut q e in placed (length records) n c.0 q older (subst (λ (l : List Record). AreInPlace (length records) n l) c.1 (s.in_place n below))

    among : (p : Record → Bool) (q : Record) → slice_get (list_at records n) number ≡ Some q → p q ≡ true → list_any p (lists_of records n) ≡ true
    among p q e t = let c = cut q e in subst (λ (l : List Record). list_any p l ≡ true) (sym c.1) (any_behind p c.0 q older t)

    inside : (q : Record) → slice_get (list_at records n) number ≡ Some q → Contains (lists_of records n) q
    inside q e = Contains-permutation (list_at records n) (reverse (list_at records n)) q (IsPermutation-reverse (list_at records n)) (number, place_in (list_at records n) number q e, read_at (list_at records n) number q q e)

    alike : (tid : Tid) (ps : List NodeNo) (part : List PartItem) → slice_get (list_at records n) number ≡ Some (Voted tid ps part) → list_all (names_none_but tid ps) (all_of records) ≡ true
    alike tid ps part e = all_from (names_none_but tid ps) (all_of records) (λ q there. each q (record_of records q there))
      where
        each : (q : Record) → (m : NodeNo) × (m.0 < length records) × Contains (lists_of records m) q → names_none_but tid ps q ≡ true
        each (Voted t os part') (m, low, there) = by (tid_same t tid) refl
          where
            by : (b : Bool) → tid_same t tid ≡ b → (not b || Rattle.mn_flat.specs.Votes.same_nodes os ps) ≡ true
            by false same = refl
            by true same =
                let mine = vote_stands (length records) n (lists_of records n) tid ps part (s.in_place n below) (inside (Voted tid ps part) e) in
                let id : t ≡ tid = tid_same-true t tid same in
                let other = subst (λ (u : Tid). voted_participants u (lists_of records m) ≡ Some os) id (vote_stands (length records) m (lists_of records m) t os part' (s.in_place m low) there) in
                let eq : os ≡ ps = s.same m n tid os ps low below other mine in
                ap (λ (x : List NodeNo). Rattle.mn_flat.specs.Votes.same_nodes x ps) eq ∙ same_nodes-refl ps
        each (Executed t part') w = refl
        each (Decided t verdict) w = refl
        each (Forced t) w = refl

    alone : (tid : Tid) → has_executed (lists_of records n) tid ≡ true → has_several (all_of records) tid ≡ false
    alone tid e =
        let once = executed_once (length records) n (lists_of records n) tid (s.in_place n below) e in
        let r1 = count-reverse tid (get_or records n.0 []) in
        let r2 = count-reverse tid (flat_map (λ l. l) records) in
        let one = count_one tid records n.0 (λ m ne. none m ne (below_or m (length records))) in
        let few : count_of tid (all_of records) ≤ 1 = omega (arith, once, r1, r2, one) in
        several_counted tid (all_of records) ∙ test (count_of tid (all_of records)) few
      where
        test : (k : ℕ) → k ≤ 1 → nat_lt 1 k ≡ false
        test k low = grind (arith, nat_tests)

        zero_of : (k : ℕ) → (0 < k → ⊥) → k ≡ 0
        zero_of zero f = refl
        zero_of (suc k) f = absurd (f (omega arith))

        none : (m : ℕ) → (m ≡ n.0 → ⊥) → (m < length records) ⊎ (length records ≤ m) → count_of tid (get_or records m []) ≡ 0
        none m ne (inr high) = ap (λ (l : List Record). count_of tid l) (get_or_past records m [] high)
        none m ne (inl low) =
            zero_of (count_of tid (get_or records m [])) (λ some.
            let m' : NodeNo = record { 0 = m } in
            let there : has_record (lists_of records m') tid ≡ true = has_counted tid (lists_of records m') ∙ positive (count_of tid (lists_of records m')) (let r = count-reverse tid (get_or records m []) in omega (arith, some, r)) in
            ne (sym (ap (λ (k : NodeNo). k.0) (s.alone n m' tid below low e there))))
          where
            positive : (k : ℕ) → 0 < k → nat_lt 0 k ≡ true
            positive k low = grind (arith, nat_tests)

    voted : (tid : Tid) → slice_get (list_at records n) number ≡ Some (Decided tid true) → is_held older tid ≡ true → has_all_votes (lists_of records) n tid ≡ true
    voted tid e held =
        let c = cut (Decided tid true) e in
        let has : has_voted (lists_of records n) tid ≡ true = subst (λ (l : List Record). has_voted l tid ≡ true) (sym c.1) (any_older (is_vote_of tid) c.0 (Decided tid true) older (held_has_vote tid older held)) in
        let v = vote_names tid (lists_of records n) has in
        let agreed = among (is_yes_of tid) (Decided tid true) e (tid_same-refl tid) in
        ap (λ (o : Option (List NodeNo)). option_map_or (have_voted (lists_of records) tid) o false) v.1 ∙ s.yes n tid v.0 below agreed v.1

    one_way : (tid : Tid) → is_both records tid ≡ false
    one_way tid = by (has_decided_no (all_of records) tid) refl
      where
        by : (b : Bool) → has_decided_no (all_of records) tid ≡ b → is_both records tid ≡ false
        by false e = ap (λ (b : Bool). b && (is_committed (length records) (lists_of records) tid || has_decided_yes (all_of records) tid)) e
        by true e =
            let m = some_node records (is_no_of tid) e in
            let none : has_decided_yes (all_of records) tid ≡ false = falsely _ (λ t. let k = some_node records (is_yes_of tid) t in clash _ k.2 (s.no m.0 k.0 tid m.1 k.1 m.2).1) in
            let uncommitted : is_committed (length records) (lists_of records) tid ≡ false = (s.no m.0 m.0 tid m.1 m.1 m.2).0 in
            cc

    right : (q : Record) → slice_get (list_at records n) number ≡ Some q → IsRight records n older q
    right (Voted tid ps part) e = ((here (Voted tid ps part) e, alike tid ps part e, held_rises records g n below tid), tt)
    right (Executed tid part) e = ((here (Executed tid part) e, alone tid (among (is_execution_of tid) (Executed tid part) e (tid_same-refl tid))), tt)
    right (Decided tid true) e = let h = here (Decided tid true) e in ((h, voted tid e h), one_way tid)
    right (Decided tid false) e = (here (Decided tid false) e, one_way tid)
    right (Forced tid) e = (here (Forced tid) e, tt)

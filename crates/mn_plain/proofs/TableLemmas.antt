-- The places of a table against the pairs that they show.
use Rattle.std.proofs.Common.{◌≡◌, ℕ, zero, suc, Bool, true, false, cond, not, ◌&&◌, List, [], ◌∷◌, ◌++◌, Option, Some, None, refl, ap, sym, subst, ◌∙◌, if◌then◌else◌, bytes_eq}
use Rattle.std.specs.Prelude.{option_and_then, unwrap_or, is_some, take, IsSome, OnOk, OnErr}
use Rattle.std.specs.Prelude.{Result, Ok, Err}
use Rattle.std.specs.declared.cmp.Ordering.{Ordering}
use Rattle.std.specs.declared.cmp.Ordering.TheVariants.{Less, Equal, Greater}
use Rattle.std.specs.Ordering.{is_lt, is_le, is_eq, is_gt, ordering_reverse, match_ordering}
use Rattle.std.specs.List.{AllByRecursion}
use Rattle.std.specs.List.Sorted.{IsStrictlySortedBy}
use Rattle.std.specs.Map.{keys_of, lookup, remove_entry}
use Rattle.std.specs.BTreeMap.{is_at, insert_entry, get, Updates}
use Rattle.std.specs.BTreeMap.Range.{entries_between, range_contains, IsLeBy, IsLtBy}
use Rattle.std.specs.Bound.{IsForward}
use Rattle.std.proofs.lemmas.Cmp.{nat_list_cmp_total}
use Rattle.std.proofs.lemmas.Map.Keys.{sorted_head, sorted_tail}
use Rattle.std.proofs.lemmas.Map.Text.{is_eq-slice_cmp}
use Rattle.mn_base.specs.declared.reply.Pair.{Pair}
use Rattle.mn_base.specs.declared.op.Step.{Step}
use Rattle.mn_base.specs.declared.op.Step.TheVariants.{Get, Put, Del, Check}
use Rattle.mn_base.specs.Order.{key_cmp, key_lt, key_le, covers_key}
use Rattle.mn_base.specs.Store.{pairs_with, pairs_without, pairs_within, value_at, is_ascending}
use Rattle.mn_base.proofs.Booleans.{clash, falsely}
use Rattle.mn_base.proofs.Keys.{bytes_eq-true, bytes_eq-refl, key_lt-trans, lt_not_same, not_below, turned}
use Rattle.mn_base.proofs.PairsWith.{AllAbove, first_above, ascending_cons, ascending_parts, pair_of, two_parts}
use Rattle.mn_plain.specs.Table.{Table, shown, shown_before, pairs_set, KeepsPlaces, HasPlace, from_low, to_high, are_turned}

-- Pairs above a key

value_above : (key : List ℕ) (ps : List Pair) → AllAbove key ps → value_at ps key ≡ None
value_above key [] all = refl
value_above key (p ∷ ps) all = ap (λ b. if b then Some p.value else value_at ps key) (lt_not_same key p.key all.0) ∙ value_above key ps all.1

without_above : (key : List ℕ) (ps : List Pair) → AllAbove key ps → pairs_without ps key ≡ ps
without_above key [] all = refl
without_above key (p ∷ ps) all =
    ap (λ b. cond (not b) (p ∷ pairs_without ps key) (pairs_without ps key)) (lt_not_same key p.key all.0) ∙ ap (λ (qs : List Pair). p ∷ qs) (without_above key ps all.1)

with_above : (key value : List ℕ) (ps : List Pair) → AllAbove key ps → pairs_with ps key value ≡ pair_of key value ∷ ps
with_above key value [] all = refl
with_above key value (p ∷ ps) all =
    ap (λ b. if b then pair_of key value ∷ p ∷ ps else (if bytes_eq p.key key then pair_of key value ∷ ps else p ∷ pairs_with ps key value)) all.0

first_of : (key : List ℕ) (ps : List Pair) → AllAbove key ps → first_above key ps ≡ true
first_of key [] all = refl
first_of key (p ∷ ps) all = all.0

set_above : (key : List ℕ) (value : Option (List ℕ)) (ps : List Pair) → AllAbove key ps → shown_before key value ps ≡ pairs_set ps key value
set_above key None ps all = sym (without_above key ps all)
set_above key (Some value) ps all = sym (with_above key value ps all)

-- A pair below a key

below_not_same : (a b : List ℕ) → key_lt a b ≡ true → bytes_eq a b ≡ false
below_not_same a b low = falsely (bytes_eq a b) (λ same. let equal = bytes_eq-true a b same in clash (key_lt a a) (ap (λ (k : List ℕ). key_lt a k) equal ∙ low) (not_below a))

with_past : (p : Pair) (ps : List Pair) (key value : List ℕ) → key_lt p.key key ≡ true → p ∷ pairs_with ps key value ≡ pairs_with (p ∷ ps) key value
with_past p ps key value low =
    sym (ap (λ b. if b then pair_of key value ∷ p ∷ ps else (if bytes_eq p.key key then pair_of key value ∷ ps else p ∷ pairs_with ps key value)) (turned p.key key low)
    ∙ ap (λ b. if b then pair_of key value ∷ ps else p ∷ pairs_with ps key value) (below_not_same p.key key low))

set_past : (key : List ℕ) (o : Option (List ℕ)) (ps : List Pair) (other : List ℕ) (value : Option (List ℕ)) → key_lt key other ≡ true → shown_before key o (pairs_set ps other value) ≡ pairs_set (shown_before key o ps) other value
set_past key None ps other value low = refl
set_past key (Some w) ps other (Some value) low = with_past (pair_of key w) ps other value low
set_past key (Some w) ps other None low = sym (ap (λ b. cond (not b) (pair_of key w ∷ pairs_without ps other) (pairs_without ps other)) (below_not_same key other low))

-- a pair above all is the last
pub with_last : (ps : List Pair) (p : Pair) (rest : List Pair) → is_ascending (ps ++ p ∷ rest) ≡ true → pairs_with ps p.key p.value ≡ ps ++ p ∷ []
with_last ps p rest up = go ps (two_parts ps p rest up).below
  where
    go : (qs : List Pair) → AllByRecursion (λ q. key_lt q.key p.key ≡ true) qs → pairs_with qs p.key p.value ≡ qs ++ p ∷ []
    go [] all = refl
    go (q ∷ qs) all = sym (with_past q qs p.key p.value all.0) ∙ ap (λ (l : List Pair). q ∷ l) (go qs all.1)

pub front_ascends : (ps rest : List Pair) → is_ascending (ps ++ rest) ≡ true → is_ascending ps ≡ true
front_ascends [] rest up = refl
front_ascends (p ∷ []) rest up = refl
front_ascends (p ∷ (q ∷ ps)) rest up =
    let parts = ascending_parts p (q ∷ (ps ++ rest)) up in
    ascending_cons p (q ∷ ps) parts.0 (front_ascends (q ∷ ps) rest parts.1)

-- The key of a place

set_same : (key : List ℕ) (o value : Option (List ℕ)) (ps : List Pair) → AllAbove key ps → shown_before key value ps ≡ pairs_set (shown_before key o ps) key value
set_same key None value ps all = set_above key value ps all
set_same key (Some w) None ps all =
    sym (ap (λ b. cond (not b) (pair_of key w ∷ pairs_without ps key) (pairs_without ps key)) (bytes_eq-refl key) ∙ without_above key ps all)
set_same key (Some w) (Some value) ps all =
    sym (ap (λ b. if b then pair_of key value ∷ pair_of key w ∷ ps else (if bytes_eq key key then pair_of key value ∷ ps else pair_of key w ∷ pairs_with ps key value)) (not_below key)
    ∙ ap (λ b. if b then pair_of key value ∷ ps else pair_of key w ∷ pairs_with ps key value) (bytes_eq-refl key))

equal_is : (a b : List ℕ) → key_cmp a b ≡ Equal → a ≡ b
equal_is a b e = bytes_eq-true a b (sym (is_eq-slice_cmp a b) ∙ ap is_eq e)

greater_is : (a b : List ℕ) → key_cmp a b ≡ Greater → key_lt b a ≡ true
greater_is a b e = ap is_lt (nat_list_cmp_total.antisymm b a ∙ ap ordering_reverse e)

-- Places in order

above_shown : (key : List ℕ) (es : List (List ℕ × Option (List ℕ))) → AllByRecursion (λ k. key_cmp key k ≡ Less) (keys_of es) → AllAbove key (shown es)
above_shown key [] all = tt
above_shown key (e ∷ es) all = step (above_shown key es all.1) e.1
  where
    step : AllAbove key (shown es) → (o : Option (List ℕ)) → AllAbove key (shown_before e.0 o (shown es))
    step rest None = rest
    step rest (Some v) = (ap is_lt all.0, rest)

-- the pairs ascend
pub ascends : (es : List (List ℕ × Option (List ℕ))) → IsStrictlySortedBy key_cmp (keys_of es) → is_ascending (shown es) ≡ true
ascends [] sorted = refl
ascends (e ∷ es) sorted = step (ascends es (sorted_tail key_cmp e.0 (keys_of es) sorted)) e.1
  where
    step : is_ascending (shown es) ≡ true → (o : Option (List ℕ)) → is_ascending (shown_before e.0 o (shown es)) ≡ true
    step rest None = rest
    step rest (Some v) = ascending_cons (pair_of e.0 v) (shown es) (first_of e.0 (shown es) (above_shown e.0 es (sorted_head key_cmp e.0 (keys_of es) sorted))) rest

-- what is set at a key
pub set_shown : (es : List (List ℕ × Option (List ℕ))) (key : List ℕ) (value : Option (List ℕ)) → IsStrictlySortedBy key_cmp (keys_of es)
    → shown (insert_entry key_cmp es key value) ≡ pairs_set (shown es) key value
set_shown [] key None sorted = refl
set_shown [] key (Some value) sorted = refl
set_shown (e ∷ es) key value sorted = step (set_shown es key value (sorted_tail key_cmp e.0 (keys_of es) sorted)) (key_cmp key e.0) refl
  where
    above : AllAbove e.0 (shown es)
    above = above_shown e.0 es (sorted_head key_cmp e.0 (keys_of es) sorted)

    lower : key_cmp key e.0 ≡ Less → (ks : List (List ℕ)) → AllByRecursion (λ k. key_cmp e.0 k ≡ Less) ks → AllByRecursion (λ k. key_cmp key k ≡ Less) ks
    lower low [] all = tt
    lower low (k ∷ ks) all = (nat_list_cmp_total.trans key e.0 k low all.0, lower low ks all.1)

    step : shown (insert_entry key_cmp es key value) ≡ pairs_set (shown es) key value → (r : Ordering) → key_cmp key e.0 ≡ r
        → shown (match_ordering r ((key, value) ∷ e ∷ es) ((e.0, value) ∷ es) (e ∷ insert_entry key_cmp es key value)) ≡ pairs_set (shown (e ∷ es)) key value
    step rest Less low = set_above key value (shown (e ∷ es)) (above_shown key (e ∷ es) (low, lower low (keys_of es) (sorted_head key_cmp e.0 (keys_of es) sorted)))
    step rest Equal same = subst (λ (k : List ℕ). shown_before e.0 value (shown es) ≡ pairs_set (shown (e ∷ es)) k value) (sym (equal_is key e.0 same)) (set_same e.0 e.1 value (shown es) above)
    step rest Greater high = ap (λ (ps : List Pair). shown_before e.0 e.1 ps) rest ∙ set_past e.0 e.1 (shown es) key value (greater_is key e.0 high)

-- what is left without a key
pub remove_shown : (es : List (List ℕ × Option (List ℕ))) (key : List ℕ) → IsStrictlySortedBy key_cmp (keys_of es)
    → shown (remove_entry (is_at (key_cmp key)) es) ≡ pairs_without (shown es) key
remove_shown [] key sorted = refl
remove_shown (e ∷ es) key sorted = step (remove_shown es key (sorted_tail key_cmp e.0 (keys_of es) sorted)) (key_cmp key e.0) refl
  where
    other : (o : Option (List ℕ)) → bytes_eq e.0 key ≡ false → shown_before e.0 o (pairs_without (shown es) key) ≡ pairs_without (shown_before e.0 o (shown es)) key
    other None apart = refl
    other (Some v) apart = sym (ap (λ b. cond (not b) (pair_of e.0 v ∷ pairs_without (shown es) key) (pairs_without (shown es) key)) apart)

    step : shown (remove_entry (is_at (key_cmp key)) es) ≡ pairs_without (shown es) key → (r : Ordering) → key_cmp key e.0 ≡ r
        → shown (cond (is_eq r) es (e ∷ remove_entry (is_at (key_cmp key)) es)) ≡ pairs_without (shown (e ∷ es)) key
    step rest Equal same = subst (λ (k : List ℕ). shown es ≡ pairs_without (shown (e ∷ es)) k) (sym (equal_is key e.0 same)) (set_same e.0 e.1 None (shown es) (above_shown e.0 es (sorted_head key_cmp e.0 (keys_of es) sorted)))
    step rest Less low = ap (λ (ps : List Pair). shown_before e.0 e.1 ps) rest ∙ other e.1 (lt_not_same key e.0 (ap is_lt low))
    step rest Greater high = ap (λ (ps : List Pair). shown_before e.0 e.1 ps) rest ∙ other e.1 (below_not_same e.0 key (greater_is key e.0 high))

-- what is found at a key
pub find_shown : (es : List (List ℕ × Option (List ℕ))) (key : List ℕ) → IsStrictlySortedBy key_cmp (keys_of es)
    → value_at (shown es) key ≡ option_and_then (λ x. x) (lookup (is_at (key_cmp key)) es)
find_shown [] key sorted = refl
find_shown (e ∷ es) key sorted = step (find_shown es key (sorted_tail key_cmp e.0 (keys_of es) sorted)) (key_cmp key e.0) refl
  where
    here : (o : Option (List ℕ)) → value_at (shown_before e.0 o (shown es)) e.0 ≡ o
    here None = value_above e.0 (shown es) (above_shown e.0 es (sorted_head key_cmp e.0 (keys_of es) sorted))
    here (Some v) = ap (λ b. if b then Some v else value_at (shown es) e.0) (bytes_eq-refl e.0)

    other : (o : Option (List ℕ)) → bytes_eq e.0 key ≡ false → value_at (shown_before e.0 o (shown es)) key ≡ value_at (shown es) key
    other None apart = refl
    other (Some v) apart = ap (λ b. if b then Some v else value_at (shown es) key) apart

    step : value_at (shown es) key ≡ option_and_then (λ x. x) (lookup (is_at (key_cmp key)) es) → (r : Ordering) → key_cmp key e.0 ≡ r
        → value_at (shown (e ∷ es)) key ≡ option_and_then (λ x. x) (cond (is_eq r) (Some e.1) (lookup (is_at (key_cmp key)) es))
    step rest Equal same = subst (λ (k : List ℕ). value_at (shown (e ∷ es)) k ≡ e.1) (sym (equal_is key e.0 same)) (here e.1)
    step rest Less low = other e.1 (lt_not_same key e.0 (ap is_lt low)) ∙ rest
    step rest Greater high = other e.1 (below_not_same e.0 key (greater_is key e.0 high)) ∙ rest

-- a key without a place has no pair
pub absent_shown : (es : List (List ℕ × Option (List ℕ))) (key : List ℕ) → lookup (is_at (key_cmp key)) es ≡ None → pairs_without (shown es) key ≡ shown es
absent_shown [] key none = refl
absent_shown (e ∷ es) key none = step (λ gone. absent_shown es key gone) (key_cmp key e.0) refl none
  where
    other : (o : Option (List ℕ)) → bytes_eq e.0 key ≡ false → pairs_without (shown es) key ≡ shown es → pairs_without (shown_before e.0 o (shown es)) key ≡ shown_before e.0 o (shown es)
    other None apart rest = rest
    other (Some v) apart rest = ap (λ b. cond (not b) (pair_of e.0 v ∷ pairs_without (shown es) key) (pairs_without (shown es) key)) apart ∙ ap (λ (ps : List Pair). pair_of e.0 v ∷ ps) rest

    step : (lookup (is_at (key_cmp key)) es ≡ None → pairs_without (shown es) key ≡ shown es) → (r : Ordering) → key_cmp key e.0 ≡ r → cond (is_eq r) (Some e.1) (lookup (is_at (key_cmp key)) es) ≡ None → pairs_without (shown (e ∷ es)) key ≡ shown (e ∷ es)
    step rest Equal same gone = absurd cc
    step rest Less low gone = other e.1 (lt_not_same key e.0 (ap is_lt low)) (rest gone)
    step rest Greater high gone = other e.1 (below_not_same e.0 key (greater_is key e.0 high)) (rest gone)

-- a place without a value has gone pair
pub clear_shown : (test : List ℕ → Bool) (es : List (List ℕ × Option (List ℕ))) → lookup test es ≡ Some None → shown (remove_entry test es) ≡ shown es
clear_shown test [] none = refl
clear_shown test (e ∷ es) none = step (λ is. clear_shown test es is) (test e.0) none
  where
    step : (lookup test es ≡ Some None → shown (remove_entry test es) ≡ shown es) → (b : Bool) → cond b (Some e.1) (lookup test es) ≡ Some None → shown (cond b es (e ∷ remove_entry test es)) ≡ shown (e ∷ es)
    step rest true is = let empty : e.1 ≡ None = cc in sym (ap (λ (o : Option (List ℕ)). shown_before e.0 o (shown es)) empty)
    step rest false is = ap (λ (ps : List Pair). shown_before e.0 e.1 ps) (rest is)

-- Places of a range

above_least : (key : List ℕ) → key_le [] key ≡ true
above_least [] = refl
above_least (b ∷ bs) = refl

from_start : (a key : List ℕ) → is_le (key_cmp a key) ≡ key_le a key
from_start a key = ap is_le (nat_list_cmp_total.antisymm a key) ∙ by (key_cmp key a)
  where
    by : (r : Ordering) → is_le (ordering_reverse r) ≡ not (is_lt r)
    by Less = refl
    by Equal = refl
    by Greater = refl

to_end : (b key : List ℕ) → not (is_le (key_cmp b key)) ≡ key_lt key b
to_end b key = ap (λ r. not (is_le r)) (nat_list_cmp_total.antisymm b key) ∙ by (key_cmp key b)
  where
    by : (r : Ordering) → not (is_le (ordering_reverse r)) ≡ is_lt r
    by Less = refl
    by Equal = refl
    by Greater = refl

same_test : (low high : Option (List ℕ)) (key : List ℕ) → range_contains key_cmp (from_low low) (to_high high) key ≡ covers_key (unwrap_or low []) high key
same_test None None key = ap (λ b. b && true) (sym (above_least key))
same_test None (Some b) key = ap (λ c. true && c) (to_end b key) ∙ ap (λ c. c && key_lt key b) (sym (above_least key))
same_test (Some a) None key = ap (λ c. c && true) (from_start a key)
same_test (Some a) (Some b) key = ap (λ c. c && not (is_le (key_cmp b key))) (from_start a key) ∙ ap (λ c. key_le a key && c) (to_end b key)

pub between_shown : (es : List (List ℕ × Option (List ℕ))) (low high : Option (List ℕ))
    → shown (entries_between key_cmp (from_low low) (to_high high) es) ≡ pairs_within (shown es) low high
between_shown [] low high = refl
between_shown (e ∷ es) low high =
    step (between_shown es low high) (range_contains key_cmp (from_low low) (to_high high) e.0) e.1 (sym (same_test low high e.0))
  where
    step : shown (entries_between key_cmp (from_low low) (to_high high) es) ≡ pairs_within (shown es) low high → (b : Bool) (o : Option (List ℕ)) → covers_key (unwrap_or low []) high e.0 ≡ b
        → shown (cond b ((e.0, o) ∷ entries_between key_cmp (from_low low) (to_high high) es) (entries_between key_cmp (from_low low) (to_high high) es)) ≡ pairs_within (shown_before e.0 o (shown es)) low high
    step rest true None is = rest
    step rest false None is = rest
    step rest true (Some v) is = ap (λ (ps : List Pair). pair_of e.0 v ∷ ps) rest ∙ sym (ap (λ b. cond b (pair_of e.0 v ∷ pairs_within (shown es) low high) (pairs_within (shown es) low high)) is)
    step rest false (Some v) is = rest ∙ sym (ap (λ b. cond b (pair_of e.0 v ∷ pairs_within (shown es) low high) (pairs_within (shown es) low high)) is)

-- bounds that are turned around hold nothing
pub turned_within : (ps : List Pair) (low high : Option (List ℕ)) → are_turned low high ≡ true → pairs_within ps low high ≡ []
turned_within ps None high is = absurd cc
turned_within ps (Some a) None is = absurd cc
turned_within ps (Some a) (Some b) is = go ps
  where
    out : (key : List ℕ) → covers_key a (Some b) key ≡ false
    out key = by (key_lt key b) refl
      where
        by : (t : Bool) → key_lt key b ≡ t → (key_le a key && t) ≡ false
        by true low = ap (λ c. not c && true) (key_lt-trans key b a low is)
        by false low = none (key_le a key)
          where
            none : (c : Bool) → (c && false) ≡ false
            none true = refl
            none false = refl

    go : (qs : List Pair) → pairs_within qs (Some a) (Some b) ≡ []
    go [] = refl
    go (q ∷ qs) = ap (λ c. cond c (q ∷ pairs_within qs (Some a) (Some b)) (pairs_within qs (Some a) (Some b))) (out q.key) ∙ go qs

pub forward : (low high : Option (List ℕ)) → are_turned low high ≡ false → IsForward (IsLeBy key_cmp) (IsLtBy key_cmp) (from_low low) (to_high high)
forward None high is = tt
forward (Some a) None is = tt
forward (Some a) (Some b) is = ap is_gt (nat_list_cmp_total.antisymm a b) ∙ by (key_cmp b a) is
  where
    by : (r : Ordering) → is_lt r ≡ false → is_gt (ordering_reverse r) ≡ false
    by Less e = absurd cc
    by Equal e = refl
    by Greater e = refl

pub take_none : (n : ℕ) (ps : List Pair) → ps ≡ [] → take n ps ≡ ps
take_none n [] e = by n
  where
    by : (m : ℕ) → let none : List Pair = [] in take m none ≡ none
    by zero = refl
    by (suc m) = refl
take_none n (p ∷ ps) e = absurd cc

-- One more place

pub shown_more : (key : List ℕ) (o : Option (List ℕ)) (ps : List Pair) → shown_before key o [] ++ ps ≡ shown_before key o ps
shown_more key None ps = refl
shown_more key (Some v) ps = refl

-- Keys with places

pub none_there : {X : Type 0} (o : Option X) → is_some o ≡ false → o ≡ None
none_there None e = refl
none_there (Some x) e = absurd cc

pub either_way : {A E : Type 0} (P : Type 0) (r : Result A E) → OnOk r P → OnErr r P → P
either_way P (Ok x) p q = p
either_way P (Err x) p q = q

pub set_keeps : (old new : Table) (key : List ℕ) (value : Option (List ℕ)) → Updates key_cmp old new key (Some value) → KeepsPlaces old new
set_keeps old new key value updates other has = subst IsSome (sym (updates.0 other)) (stays (is_at (key_cmp key) other) (get key_cmp old other) has)
  where
    stays : (b : Bool) (was : Option (Option (List ℕ))) → IsSome was → IsSome (cond b (Some value) was)
    stays false was is = is
    stays true was is = refl

-- Places of steps

kept_place : (old new : Table) → KeepsPlaces old new → (step : Step) → HasPlace old step → HasPlace new step
kept_place old new keeps (Put key value) has = keeps key has
kept_place old new keeps (Del key) has = keeps key has
kept_place old new keeps (Get key) has = tt
kept_place old new keeps (Check key want) has = tt

pub kept_places : (old new : Table) → KeepsPlaces old new → (steps : List Step) → AllByRecursion (HasPlace old) steps → AllByRecursion (HasPlace new) steps
kept_places old new keeps [] all = tt
kept_places old new keeps (step ∷ steps) all = (kept_place old new keeps step all.0, kept_places old new keeps steps all.1)

pub more_places : (table : Table) (steps : List Step) (step : Step) → AllByRecursion (HasPlace table) steps → HasPlace table step → AllByRecursion (HasPlace table) (steps ++ step ∷ [])
more_places table [] step all has = (has, tt)
more_places table (s ∷ steps) step all has = (all.0, more_places table steps step all.1 has)

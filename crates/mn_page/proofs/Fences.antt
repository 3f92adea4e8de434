-- Of keys that ascend, the first and the last tell whether all lie within the fences.
use Rattle.std.proofs.Common.{◌≡◌, ℕ, ◌≤◌, Bool, true, false, not, List, [], ◌∷◌, length, map, Option, Some, None, refl, ap, arith}
use Rattle.std.specs.List.{AllByRecursion}
use Rattle.mn_base.proofs.Booleans.{clash, left_true, right_true, both_true, not_true}
use Rattle.mn_base.proofs.Keys.{key_lt-trans}
use Rattle.mn_base.specs.Order.{key_lt, key_le, below_bound}
use Rattle.mn_base.specs.Store.{is_ascending}
use Rattle.mn_base.specs.declared.ids.Addr.{Addr}
use Rattle.mn_base.specs.declared.reply.Pair.{Pair}
use Rattle.mn_page.specs.declared.page.Child.{Child}
use Rattle.mn_page.specs.Grammar.{IsAddr, are_ascending}
use Rattle.mn_page.specs.Reading.{IsPair, IsChild, IsPairWithin, IsChildWithin, AreMany, ArePairsOf, AreChildrenOf, ascends_to, pairs_fit}

-- a key before one that is below the bound is below it
below_before : (a b : List ℕ) (high : Option (List ℕ)) → key_lt a b ≡ true → below_bound b high ≡ true → below_bound a high ≡ true
below_before a b None e f = refl
below_before a b (Some h) e f = key_lt-trans a b h e f

-- a key that others follow, up to the bound, is below it
first_below : (key : List ℕ) (keys : List (List ℕ)) (high : Option (List ℕ)) → ascends_to key keys high ≡ true → below_bound key high ≡ true
first_below key [] high e = e
first_below key (next ∷ keys) high e = below_before key next high (left_true (key_lt key next) (ascends_to next keys high) e) (first_below next keys high (right_true (key_lt key next) (ascends_to next keys high) e))

-- a key behind one that isn't below the fence isn't below it
from_behind : (low a b : List ℕ) → key_le low a ≡ true → key_lt a b ≡ true → key_le low b ≡ true
from_behind low a b e f = cases (key_lt b low) refl
  where
    cases : (t : Bool) → key_lt b low ≡ t → not (key_lt b low) ≡ true
    cases true g = absurd (clash (key_lt a low) (key_lt-trans a b low f g) (not_true (key_lt a low) e))
    cases false g = ap not g

-- Pairs

pairs_ascend : (p : Pair) (ps : List Pair) (high : Option (List ℕ)) → ascends_to p.key (map (λ q. q.key) ps) high ≡ true → is_ascending (p ∷ ps) ≡ true
pairs_ascend p [] high e = refl
pairs_ascend p (q ∷ ps) high e =
    let first = left_true (key_lt p.key q.key) (ascends_to q.key (map (λ r. r.key) ps) high) e in
    let rest = right_true (key_lt p.key q.key) (ascends_to q.key (map (λ r. r.key) ps) high) e in
    both_true (key_lt p.key q.key) (is_ascending (q ∷ ps)) first (pairs_ascend q ps high rest)

pairs_within : (low : List ℕ) (high : Option (List ℕ)) (p : Pair) (ps : List Pair) → key_le low p.key ≡ true → ascends_to p.key (map (λ q. q.key) ps) high ≡ true → AllByRecursion IsPair (p ∷ ps) → AllByRecursion (IsPairWithin low high) (p ∷ ps)
pairs_within low high p [] l e all = (((all.0).0, (all.0).1, both_true (key_le low p.key) (below_bound p.key high) l e), tt)
pairs_within low high p (q ∷ ps) l e all =
    let first = left_true (key_lt p.key q.key) (ascends_to q.key (map (λ r. r.key) ps) high) e in
    let rest = right_true (key_lt p.key q.key) (ascends_to q.key (map (λ r. r.key) ps) high) e in
    let below = first_below p.key (q.key ∷ map (λ r. r.key) ps) high e in
    (((all.0).0, (all.0).1, both_true (key_le low p.key) (below_bound p.key high) l below), pairs_within low high q ps (from_behind low p.key q.key l first) rest all.1)

-- pairs that fit are those of a page
pub pairs_of : (low : List ℕ) (high : Option (List ℕ)) (count : ℕ) (ps : List Pair) → count ≤ 8 → AreMany IsPair count ps → pairs_fit low high ps ≡ true → ArePairsOf low high count ps
pairs_of low high count [] few are e = (are.0, few, refl, tt)
pairs_of low high count (p ∷ ps) few are e =
    let first = left_true (key_le low p.key) (ascends_to p.key (map (λ q. q.key) ps) high) e in
    let rest = right_true (key_le low p.key) (ascends_to p.key (map (λ q. q.key) ps) high) e in
    (are.0, few, pairs_ascend p ps high rest, pairs_within low high p ps first rest are.1)

any_pairs : (low : List ℕ) (high : Option (List ℕ)) (ps : List Pair) → AllByRecursion (IsPairWithin low high) ps → AllByRecursion IsPair ps
any_pairs low high [] all = tt
any_pairs low high (p ∷ ps) all = (((all.0).0, (all.0).1), any_pairs low high ps all.1)

pub pairs_are : (low : List ℕ) (high : Option (List ℕ)) (count : ℕ) (ps : List Pair) → ArePairsOf low high count ps → AreMany IsPair count ps
pairs_are low high count ps are = (are.0, any_pairs low high ps are.3)

pairs_up : (low : List ℕ) (high : Option (List ℕ)) (p : Pair) (ps : List Pair) → is_ascending (p ∷ ps) ≡ true → AllByRecursion (IsPairWithin low high) (p ∷ ps) → ascends_to p.key (map (λ q. q.key) ps) high ≡ true
pairs_up low high p [] a all = right_true (key_le low p.key) (below_bound p.key high) (all.0).2
pairs_up low high p (q ∷ ps) a all =
    both_true (key_lt p.key q.key) (ascends_to q.key (map (λ r. r.key) ps) high) (left_true (key_lt p.key q.key) (is_ascending (q ∷ ps)) a)
    (pairs_up low high q ps (right_true (key_lt p.key q.key) (is_ascending (q ∷ ps)) a) all.1)

-- those of a page fit
pub pairs_do : (low : List ℕ) (high : Option (List ℕ)) (count : ℕ) (ps : List Pair) → ArePairsOf low high count ps → pairs_fit low high ps ≡ true
pairs_do low high count [] are = refl
pairs_do low high count (p ∷ ps) are =
    let all = are.3 in
    both_true (key_le low p.key) (ascends_to p.key (map (λ q. q.key) ps) high) (left_true (key_le low p.key) (below_bound p.key high) (all.0).2) (pairs_up low high p ps are.2 all)

-- Children

children_ascend : (c : Child) (cs : List Child) (high : Option (List ℕ)) → ascends_to c.separator (map (λ d. d.separator) cs) high ≡ true → are_ascending (c ∷ cs) ≡ true
children_ascend c [] high e = refl
children_ascend c (d ∷ cs) high e =
    let first = left_true (key_lt c.separator d.separator) (ascends_to d.separator (map (λ r. r.separator) cs) high) e in
    let rest = right_true (key_lt c.separator d.separator) (ascends_to d.separator (map (λ r. r.separator) cs) high) e in
    both_true (key_lt c.separator d.separator) (are_ascending (d ∷ cs)) first (children_ascend d cs high rest)

children_within : (low : List ℕ) (high : Option (List ℕ)) (c : Child) (cs : List Child) → key_lt low c.separator ≡ true → ascends_to c.separator (map (λ d. d.separator) cs) high ≡ true → AllByRecursion IsChild (c ∷ cs) → AllByRecursion (IsChildWithin low high) (c ∷ cs)
children_within low high c [] l e all = (((all.0).0, (all.0).1, l, e), tt)
children_within low high c (d ∷ cs) l e all =
    let first = left_true (key_lt c.separator d.separator) (ascends_to d.separator (map (λ r. r.separator) cs) high) e in
    let rest = right_true (key_lt c.separator d.separator) (ascends_to d.separator (map (λ r. r.separator) cs) high) e in
    let below = first_below c.separator (d.separator ∷ map (λ r. r.separator) cs) high e in
    (((all.0).0, (all.0).1, l, below), children_within low high d cs (key_lt-trans low c.separator d.separator l first) rest all.1)

-- children that fit are those of a page
pub children_of : (low : List ℕ) (high : Option (List ℕ)) (count : ℕ) (children : Addr × List Child) → 1 ≤ count → count ≤ 7 → IsAddr children.0 → AreMany IsChild count children.1 → ascends_to low (map (λ c. c.separator) children.1) high ≡ true
    → AreChildrenOf low high count children
children_of low high count children some few is are e = cells children.1 are e
  where
    cells : (cs : List Child) → AreMany IsChild count cs → ascends_to low (map (λ c. c.separator) cs) high ≡ true → AreChildrenOf low high count (children.0, cs)
    cells [] are e = let n = are.0 in absurd (omega (arith, some, n))
    cells (c ∷ cs) are e =
        let first = left_true (key_lt low c.separator) (ascends_to c.separator (map (λ d. d.separator) cs) high) e in
        let rest = right_true (key_lt low c.separator) (ascends_to c.separator (map (λ d. d.separator) cs) high) e in
        (are.0, some, few, is, children_ascend c cs high rest, children_within low high c cs first rest are.1)

any_children : (low : List ℕ) (high : Option (List ℕ)) (cs : List Child) → AllByRecursion (IsChildWithin low high) cs → AllByRecursion IsChild cs
any_children low high [] all = tt
any_children low high (c ∷ cs) all = (((all.0).0, (all.0).1), any_children low high cs all.1)

pub children_are : (low : List ℕ) (high : Option (List ℕ)) (count : ℕ) (children : Addr × List Child) → AreChildrenOf low high count children → AreMany IsChild count children.1
children_are low high count children are = (are.0, any_children low high children.1 are.5)

children_up : (low : List ℕ) (high : Option (List ℕ)) (c : Child) (cs : List Child) → are_ascending (c ∷ cs) ≡ true → AllByRecursion (IsChildWithin low high) (c ∷ cs) → ascends_to c.separator (map (λ d. d.separator) cs) high ≡ true
children_up low high c [] a all = (all.0).3
children_up low high c (d ∷ cs) a all =
    both_true (key_lt c.separator d.separator) (ascends_to d.separator (map (λ r. r.separator) cs) high) (left_true (key_lt c.separator d.separator) (are_ascending (d ∷ cs)) a)
    (children_up low high d cs (right_true (key_lt c.separator d.separator) (are_ascending (d ∷ cs)) a) all.1)

-- those of a page fit
pub children_do : (low : List ℕ) (high : Option (List ℕ)) (count : ℕ) (children : Addr × List Child) → AreChildrenOf low high count children → ascends_to low (map (λ c. c.separator) children.1) high ≡ true
children_do low high count children are = cells children.1 are.0 are.4 are.5
  where
    cells : (cs : List Child) → length cs ≡ count → are_ascending cs ≡ true → AllByRecursion (IsChildWithin low high) cs → ascends_to low (map (λ c. c.separator) cs) high ≡ true
    cells [] n a all = let some = are.1 in absurd (omega (arith, some, n))
    cells (c ∷ cs) n a all = both_true (key_lt low c.separator) (ascends_to c.separator (map (λ d. d.separator) cs) high) (all.0).2 (children_up low high c cs a all)

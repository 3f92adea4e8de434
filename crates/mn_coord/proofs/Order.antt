-- The participants of a minitransaction ascend, so that each is told by its number.
use Rattle.std.proofs.Common.{◌≡◌, ℕ, zero, suc, ◌+◌, ◌<◌, ◌≤◌, Bool, true, false, cond, ◌||◌, List, [], ◌∷◌, length, map, refl, sym, ap, ◌∙◌, arith, slice_index_or}
use Rattle.std.specs.Prelude.{filter, nat_lt, nat_eq, Contains, ⊤}
use Rattle.std.specs.List.{AllByRecursion, list_any, range_with_len}
use Rattle.std.proofs.lemmas.Bool.{eq-eqb, ne_eqb, eqb-true, eqb-false, ltb-true, ltb-false, lt-ltb, le-ltb}
use Rattle.mn_base.specs.Ids.{node_same, node_numbers}
use Rattle.mn_base.specs.declared.ids.NodeNo.{NodeNo}
use Rattle.mn_mini.specs.Mini.{Mini, is_named, participants_of}
use Rattle.mn_runs.specs.Calls.{is_last}
use Rattle.mn_runs.proofs.NewCalls.{filter_all}

abbrev pub at : List NodeNo → ℕ → NodeNo
at ps i = slice_index_or ps i (record { 0 = 0 })

abbrev pub Ascending : List NodeNo → Type 0
Ascending [] = ⊤
Ascending (p ∷ ps) = AllByRecursion (λ (q : NodeNo). p.0 < q.0) ps × Ascending ps

range_above : (a b k : ℕ) → a ≤ b → AllByRecursion (λ (q : NodeNo). a ≤ q.0) (map (λ n. record { 0 = n }) (range_with_len b k))
range_above a b zero low = tt
range_above a b (suc k) low = (low, range_above a (b + 1) k (omega arith))

range_ascends : (b k : ℕ) → Ascending (map (λ n. record { 0 = n }) (range_with_len b k))
range_ascends b zero = tt
range_ascends b (suc k) = (weaker (map (λ n. record { 0 = n }) (range_with_len (b + 1) k)) (range_above (b + 1) (b + 1) k (omega arith)), range_ascends (b + 1) k)
  where
    weaker : (qs : List NodeNo) → AllByRecursion (λ (q : NodeNo). b + 1 ≤ q.0) qs → AllByRecursion (λ (q : NodeNo). b < q.0) qs
    weaker [] all = tt
    weaker (q ∷ qs) all = let first = all.0 in (omega arith, weaker qs all.1)

filter_ascends : (t : NodeNo → Bool) (ps : List NodeNo) → Ascending ps → Ascending (filter t ps)
filter_ascends t [] asc = tt
filter_ascends t (p ∷ ps) asc = elim (t p) as (λ b. Ascending (cond b (p ∷ filter t ps) (filter t ps))) [
  | true ↦ (filter_all (λ (q : NodeNo). p.0 < q.0) t ps asc.0, filter_ascends t ps asc.1)
  | false ↦ filter_ascends t ps asc.1
]

pub participants_ascend : (mini : Mini) → Ascending (participants_of mini)
participants_ascend mini = filter_ascends (is_named mini.items) (node_numbers mini.nodes) (range_ascends 0 mini.nodes)

pub all_at : (P : NodeNo → Type 0) (ps : List NodeNo) (i : ℕ) → i < length ps → AllByRecursion P ps → P (at ps i)
all_at P [] i low all = absurd (omega arith)
all_at P (p ∷ ps) zero low all = all.0
all_at P (p ∷ ps) (suc i) low all = all_at P ps i (omega arith) all.1

pub all_of : (P : NodeNo → Type 0) (ps : List NodeNo) → ((i : ℕ) → i < length ps → P (at ps i)) → AllByRecursion P ps
all_of P [] each = tt
all_of P (p ∷ ps) each = (each zero (omega arith), all_of P ps (λ i low. each (suc i) (omega arith)))

-- a lower number is a lower node
pub order_up : (ps : List NodeNo) (i j : ℕ) → Ascending ps → i < j → j < length ps → (at ps i).0 < (at ps j).0
order_up [] i j asc up low = absurd (omega arith)
order_up (p ∷ ps) zero zero asc up low = absurd (omega arith)
order_up (p ∷ ps) zero (suc j) asc up low = all_at (λ (q : NodeNo). p.0 < q.0) ps j (omega arith) asc.0
order_up (p ∷ ps) (suc i) zero asc up low = absurd (omega arith)
order_up (p ∷ ps) (suc i) (suc j) asc up low = order_up ps i j asc.1 (omega arith) (omega arith)

pub order_down : (ps : List NodeNo) (i j : ℕ) → Ascending ps → i < length ps → j < length ps → (at ps j).0 < (at ps i).0 → j < i
order_down ps i j asc low low' h = cases (nat_lt j i) refl
  where
    same : (k : ℕ) → j ≡ k → (at ps k).0 < (at ps i).0 → k ≡ i → ⊥
    same k e g f = let both : (at ps k).0 ≡ (at ps i).0 = ap (λ m. (at ps m).0) f in absurd (omega arith)

    high : (b : Bool) → nat_lt i j ≡ b → i ≤ j → j < i
    high true e g = let up = order_up ps i j asc (ltb-true i j e) low' in absurd (omega arith)
    high false e g = let down = ltb-false i j e in absurd (same j refl h (omega arith))

    cases : (b : Bool) → nat_lt j i ≡ b → j < i
    cases true e = ltb-true j i e
    cases false e = high (nat_lt i j) refl (ltb-false j i e)

-- numbers tell the participants apart
pub told_apart : (ps : List NodeNo) (i j : ℕ) → Ascending ps → i < length ps → j < length ps → node_same (at ps i) (at ps j) ≡ nat_eq i j
told_apart ps i j asc low low' = cases (nat_eq i j) refl
  where
    differ : (nat_eq i j ≡ false) → (at ps i).0 ≡ (at ps j).0 → ⊥
    differ e same = by (nat_lt i j) refl
      where
        by : (b : Bool) → nat_lt i j ≡ b → ⊥
        by true f = let up = order_up ps i j asc (ltb-true i j f) low' in absurd (omega arith)
        by false f =
            let apart = eqb-false i j e in
            let down = ltb-false i j f in
            let up = order_up ps j i asc (omega (arith, apart)) low in absurd (omega arith)

    cases : (b : Bool) → nat_eq i j ≡ b → node_same (at ps i) (at ps j) ≡ nat_eq i j
    cases true e = eq-eqb (at ps i).0 (at ps j).0 (ap (λ k. (at ps k).0) (eqb-true i j e)) ∙ sym e
    cases false e = ne_eqb (at ps i).0 (at ps j).0 (λ same. differ e same) ∙ sym e

pub element : (ps : List NodeNo) (i : ℕ) → i < length ps → Contains ps (at ps i)
element [] i low = absurd (omega arith)
element (p ∷ ps) zero low = (zero, omega arith, refl)
element (p ∷ ps) (suc i) low = let rest = element ps i (omega arith) in (suc rest.0, (let l = rest.1 in omega arith), rest.2)

pub any_at : (t : NodeNo → Bool) (ps : List NodeNo) (i : ℕ) → i < length ps → t (at ps i) ≡ true → list_any t ps ≡ true
any_at t [] i low e = absurd (omega arith)
any_at t (p ∷ ps) zero low e = ap (λ b. b || list_any t ps) e
any_at t (p ∷ ps) (suc i) low e = or_true (t p) _ (any_at t ps i (omega arith) e)
  where
    or_true : (a b : Bool) → b ≡ true → (a || b) ≡ true
    or_true true b f = refl
    or_true false b f = f

-- the last one has the last number
pub last_at : (ps : List NodeNo) (i : ℕ) → Ascending ps → i < length ps → is_last (at ps i) ps ≡ nat_eq (i + 1) (length ps)
last_at [] i asc low = absurd (omega arith)
last_at (p ∷ []) zero asc low = eq-eqb p.0 p.0 refl
last_at (p ∷ []) (suc i) asc low = absurd (omega arith)
last_at (p ∷ (q ∷ ps)) zero asc low = not_here (q ∷ ps) asc.0 ∙ sym (ne_eqb 1 (suc (suc (length ps))) (λ e. absurd (omega arith)))
  where
    not_here : (qs : List NodeNo) → AllByRecursion (λ (x : NodeNo). p.0 < x.0) qs → is_last p qs ≡ false
    not_here [] all = refl
    not_here (x ∷ []) all = let up = all.0 in ne_eqb x.0 p.0 (λ e. absurd (omega arith))
    not_here (x ∷ (y ∷ qs)) all = not_here (y ∷ qs) all.1
last_at (p ∷ (q ∷ ps)) (suc i) asc low = last_at (q ∷ ps) i asc.1 (omega arith) ∙ same (i + 1) (suc (length ps)) (suc i + 1) (omega arith)
  where
    same : (a b c : ℕ) → c ≡ suc a → nat_eq a b ≡ nat_eq c (suc b)
    same a b c e = cases (nat_eq a b) refl
      where
        cases : (t : Bool) → nat_eq a b ≡ t → nat_eq a b ≡ nat_eq c (suc b)
        cases true f = let is = eqb-true a b f in f ∙ sym (eq-eqb c (suc b) (omega arith))
        cases false f = let apart = eqb-false a b f in f ∙ sym (ne_eqb c (suc b) (λ g. apart (omega arith)))

-- one more at the end
pub below_next : (i done : ℕ) → (nat_eq done i || nat_lt i done) ≡ nat_lt i (done + 1)
below_next i done = cases (nat_lt i done) refl (nat_eq done i) refl
  where
    cases : (a : Bool) → nat_lt i done ≡ a → (b : Bool) → nat_eq done i ≡ b → (nat_eq done i || nat_lt i done) ≡ nat_lt i (done + 1)
    cases a e true f = let is = eqb-true done i f in ap (λ t. t || nat_lt i done) f ∙ sym (lt-ltb i (done + 1) (omega arith))
    cases true e false f = let low = ltb-true i done e in ap (λ t. t || nat_lt i done) f ∙ (e ∙ sym (lt-ltb i (done + 1) (omega arith)))
    cases false e false f = let high = ltb-false i done e in let apart = eqb-false done i f in ap (λ t. t || nat_lt i done) f ∙ (e ∙ sym (le-ltb i (done + 1) (omega (arith, apart))))

pub single : (ps : List NodeNo) → length ps ≡ 1 → ps ≡ at ps 0 ∷ []
single [] e = absurd (omega arith)
single (p ∷ []) e = refl
single (p ∷ (q ∷ ps)) e = absurd (omega arith)

-- What a key has after steps.
use Rattle.std.proofs.Common.{◌≡◌, ◌+◌, ℕ, suc, Bool, true, false, not, List, [], ◌∷◌, ◌++◌, Option, Some, None, refl, ap, sym, ◌∙◌, bytes_eq, if◌then◌else◌, take, drop, add-one}
use Rattle.mn_base.specs.declared.reply.Pair.{Pair}
use Rattle.mn_base.specs.declared.op.Step.{Step}
use Rattle.mn_base.specs.declared.op.Step.TheVariants.{Get, Put, Del, Check}
use Rattle.mn_base.specs.Order.{key_lt}
use Rattle.mn_base.specs.Store.{value_at, is_ascending, pairs_with, pairs_without, pairs_after_step, ran_from, noted_by, step_key}
use Rattle.mn_base.specs.declared.reply.Reply.TheVariants.{Unmet}
use Rattle.mn_base.proofs.Keys.{bytes_eq-refl, bytes_eq-true}
use Rattle.mn_base.proofs.Stores.{after_step}
use Rattle.mn_plain.specs.Run.{left_by, left_by_all, pairs_after, StepTells}

-- the value of a key, where two keys are compared with a third
abbrev KeepsOthers : List Pair → List Pair → List ℕ → Option (List ℕ) → List ℕ → Type 0
KeepsOthers new old key value other = value_at new other ≡ (if bytes_eq key other then value else value_at old other)

-- a pair of another key at the front
behind_other : (p : Pair) (new old : List Pair) (key other : List ℕ) (value : Option (List ℕ)) → bytes_eq p.key key ≡ false → KeepsOthers new old key value other → KeepsOthers (p ∷ new) (p ∷ old) key value other
behind_other p new old key other value e rest = cases (bytes_eq p.key other) (bytes_eq key other) refl refl
  where
    cases : (x y : Bool) → bytes_eq p.key other ≡ x → bytes_eq key other ≡ y
        → (if x then Some p.value else value_at new other) ≡ (if y then value else (if x then Some p.value else value_at old other))
    cases true true f g =
        let one : p.key ≡ other = bytes_eq-true p.key other f in
        let two : key ≡ other = bytes_eq-true key other g in
        let both : bytes_eq p.key key ≡ true = rw (one, two) (bytes_eq-refl other) in
        absurd (cc)
    cases true false f g = refl
    cases false y f g = rest ∙ ap (λ (b : Bool). if b then value else value_at old other) g

-- a pair of the same key at the front
behind_same : (p : Pair) (old : List Pair) (key other : List ℕ) (value : Option (List ℕ)) → bytes_eq p.key key ≡ true
    → (if bytes_eq key other then value else value_at old other) ≡ (if bytes_eq key other then value else value_at (p ∷ old) other)
behind_same p old key other value e =
    let same : p.key ≡ key = bytes_eq-true p.key key e in
    rw same (elim (bytes_eq key other) as (λ b. (if b then value else value_at old other) ≡ (if b then value else (if b then Some p.value else value_at old other))) [ true ↦ refl | false ↦ refl ])

value_at-with : (ps : List Pair) (key value other : List ℕ) → KeepsOthers (pairs_with ps key value) ps key (Some value) other
value_at-with [] key value other = refl
value_at-with (p ∷ ps) key value other = cases (key_lt key p.key) (bytes_eq p.key key) refl (value_at-with ps key value other)
  where
    cases : (s t : Bool) → bytes_eq p.key key ≡ t → KeepsOthers (pairs_with ps key value) ps key (Some value) other
        → KeepsOthers (if s then record { key = key; value = value } ∷ p ∷ ps else (if t then record { key = key; value = value } ∷ ps else p ∷ pairs_with ps key value)) (p ∷ ps) key (Some value) other
    cases true t e rest = refl
    cases false true e rest = behind_same p ps key other (Some value) e
    cases false false e rest = behind_other p (pairs_with ps key value) ps key other (Some value) e rest

value_at-without : (ps : List Pair) (key other : List ℕ) → KeepsOthers (pairs_without ps key) ps key None other
value_at-without [] key other = elim (bytes_eq key other) as (λ b. let none : Option (List ℕ) = None in none ≡ (if b then none else none)) [ true ↦ refl | false ↦ refl ]
value_at-without (p ∷ ps) key other = cases (bytes_eq p.key key) refl (value_at-without ps key other)
  where
    cases : (t : Bool) → bytes_eq p.key key ≡ t → KeepsOthers (pairs_without ps key) ps key None other → KeepsOthers (if not t then p ∷ pairs_without ps key else pairs_without ps key) (p ∷ ps) key None other
    cases true e rest = rest ∙ behind_same p ps key other None e
    cases false e rest = behind_other p (pairs_without ps key) ps key other None e rest

-- what a step leaves at a key
value_at-step : (ps : List Pair) (step : Step) (key : List ℕ) → value_at (pairs_after_step ps step) key ≡ left_by (value_at ps key) step key
value_at-step ps (Get other) key = refl
value_at-step ps (Put other value) key = value_at-with ps other value key
value_at-step ps (Del other) key = value_at-without ps other key
value_at-step ps (Check other want) key = refl

pub value_at-steps : (ps : List Pair) (steps : List Step) (key : List ℕ) → value_at (pairs_after ps steps) key ≡ left_by_all (value_at ps key) steps key
value_at-steps ps [] key = refl
value_at-steps ps (step ∷ steps) key = value_at-steps (pairs_after_step ps step) steps key ∙ ap (λ (found : Option (List ℕ)). left_by_all found steps key) (value_at-step ps step key)

-- one more step
pub pairs_after-more : (ps : List Pair) (steps : List Step) (step : Step) → pairs_after ps (steps ++ step ∷ []) ≡ pairs_after_step (pairs_after ps steps) step
pairs_after-more ps [] step = refl
pairs_after-more ps (first ∷ steps) step = pairs_after-more (pairs_after_step ps first) steps step

-- a step that is met goes on with the rest
pub ran_on : (old : List Pair) (steps : List Step) (at : ℕ) (values new : List (Option (List ℕ))) (step : Step)
    → drop at steps ≡ step ∷ drop (suc at) steps → take (at + 1) steps ≡ take at steps ++ step ∷ [] → StepTells (pairs_after old (take at steps)) step values new None
    → ran_from old (at + 1 + 1) (pairs_after old (take (at + 1) steps)) new (drop (at + 1) steps) ≡ ran_from old (at + 1) (pairs_after old (take at steps)) values (drop at steps)
ran_on old steps at values new step split more tells =
    let before = pairs_after old (take at steps) in
    let met = tells.0 in
    ap (λ (n : ℕ). ran_from old (at + 1 + 1) (pairs_after old (take (at + 1) steps)) new (drop n steps)) (add-one at)
    ∙ ap (λ (l : List Step). ran_from old (at + 1 + 1) (pairs_after old l) new (drop (suc at) steps)) more
    ∙ ap (λ (q : List Pair). ran_from old (at + 1 + 1) q new (drop (suc at) steps)) (pairs_after-more old (take at steps) step)
    ∙ ap (λ (v : List (Option (List ℕ))). ran_from old (at + 1 + 1) (pairs_after_step before step) v (drop (suc at) steps)) tells.1
    ∙ sym (ap (λ (l : List Step). ran_from old (at + 1) before values l) split
    ∙ ap (λ (b : Bool). if b then record { pairs = old; reply = Unmet (at + 1) (value_at before (step_key step)) } else ran_from old (at + 1 + 1) (pairs_after_step before step) (values ++ noted_by before step) (drop (suc at) steps)) met)

-- pairs in order stay so
pub still_ascends : (old new : List Pair) (step : Step) → new ≡ pairs_after_step old step → is_ascending old ≡ true → is_ascending new ≡ true
still_ascends old new step is up = ap is_ascending is ∙ after_step old step up

-- What the steps of a transaction leave and find, step after step.
use Rattle.std.specs.Prelude.{◌≡◌, ℕ, Bool, true, false, List, [], ◌∷◌, ◌++◌, Result, Ok, Err}
use Rattle.std.specs.Prelude.{Option, None, Some, if◌then◌else◌, bytes_eq}
use Rattle.mn_base.specs.declared.error.NoMemory.{NoMemory}
use Rattle.mn_base.specs.declared.op.Op.{Op}
use Rattle.mn_base.specs.declared.op.Step.{Step}
use Rattle.mn_base.specs.declared.op.Step.TheVariants.{Put, Del}
use Rattle.mn_base.specs.declared.reply.Pair.{Pair}
use Rattle.mn_base.specs.declared.reply.Reply.{Reply}
use Rattle.mn_base.specs.declared.reply.Reply.TheVariants as says
use Rattle.mn_base.specs.Store.{Store, applied, pairs_after_step, is_unmet, noted_by, step_key}
use Rattle.mn_base.specs.Store.{value_at}

-- the pairs after these steps
abbrev pub pairs_after : List Pair → List Step → List Pair
pairs_after ps [] = ps
pairs_after ps (step ∷ steps) = pairs_after (pairs_after_step ps step) steps

-- what a key has after a step, when it had this before
abbrev pub left_by : Option (List ℕ) → Step → List ℕ → Option (List ℕ)
left_by found (Put other value) key = if bytes_eq other key then Some value else found
left_by found (Del other) key = if bytes_eq other key then None else found
left_by found step key = found

-- what a key has after these steps
abbrev pub left_by_all : Option (List ℕ) → List Step → List ℕ → Option (List ℕ)
left_by_all found [] key = found
left_by_all found (step ∷ steps) key = left_by_all (left_by found step key) steps key

-- what a step tells of the pairs: a Get adds what it finds to the values, and a Check that is not
-- met answers what it finds
abbrev pub StepTells : List Pair → Step → List (Option (List ℕ)) → List (Option (List ℕ))
    → Option (Option (List ℕ)) → Type 0
StepTells ps step old new None = (is_unmet ps step ≡ false) × (new ≡ old ++ noted_by ps step)
StepTells ps step old new (Some found) =
    (is_unmet ps step ≡ true) × (value_at ps (step_key step) ≡ found) × (new ≡ old)

-- the pairs that steps with this reply leave: after an unmet Check the old ones
abbrev pub pairs_left : List Pair → List Step → Reply → List Pair
pairs_left ps steps (says.Unmet step found) = ps
pairs_left ps steps _ = pairs_after ps steps

-- what a call on a store left and replied is what the operation does; without memory it did nothing
abbrev pub Does : Op → Store → Store → Result Reply NoMemory → Type 0
Does op old new (Ok reply) = (new ≡ (applied old op).store) × (reply ≡ (applied old op).reply)
Does op old new (Err e) = new ≡ old

abbrev pub is_unmet_reply : Reply → Bool
is_unmet_reply (says.Unmet step found) = true
is_unmet_reply _ = false

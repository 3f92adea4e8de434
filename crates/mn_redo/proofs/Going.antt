-- What is so of a log that isn't closing.
use Rattle.std.proofs.Common.{◌≡◌, ◌≢◌, refl, subst}
use Rattle.mn_redo.specs.declared.redo.Phase.{Phase}
use Rattle.mn_redo.specs.declared.redo.Phase.TheVariants.{Fresh, Started, Closing}

pub started_going : (phase : Phase) → phase ≡ Started → phase ≢ Closing
started_going phase started closing = let clash : Started ≡ Closing = subst (λ (p : Phase). p ≡ Closing) started closing in absurd cc

pub still_started : (phase : Phase) → phase ≢ Closing → phase ≢ Fresh → phase ≡ Started
still_started Fresh going used = absurd (used refl)
still_started Started going used = refl
still_started Closing going used = absurd (going refl)

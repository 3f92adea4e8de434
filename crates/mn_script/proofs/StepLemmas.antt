-- The steps of a line, one by one.
use Rattle.std.proofs.Common.{◌≡◌, ℕ, suc, ◌+◌, ◌-◌, ◌<◌, true, false, List, [], ◌∷◌, ◌++◌, Result, Ok, Err, refl, ap, sym, ◌∙◌, append_assoc, arith}
use Rattle.mn_base.specs.declared.op.Step.{Step}
use Rattle.mn_script.specs.declared.error.LineError.{LineError}
use Rattle.mn_script.specs.declared.error.LineError.TheVariants.{Wrong, NoMemory}
use Rattle.mn_script.specs.Words.{◌>>=◌, GivesPart}
use Rattle.mn_script.specs.Lines.{entry_at, steps_at, joined, GivesSteps}

pub last_step : (steps : List Step) (n count : ℕ) (line : List ℕ) (at next : ℕ) (s : Step) → count < n → entry_at line at ≡ Ok ((s, false), next) → joined steps (steps_at (n - count) line at) ≡ Ok (steps ++ s ∷ [])
last_step steps n count line at next s within e = let left : n - count ≡ suc (n - count - 1) = omega arith in rw (left, e) refl

pub more_steps : (steps : List Step) (n count : ℕ) (line : List ℕ) (at next : ℕ) (s : Step) → count < n → entry_at line at ≡ Ok ((s, true), next)
    → joined (steps ++ s ∷ []) (steps_at (n - (count + 1)) line next) ≡ joined steps (steps_at (n - count) line at)
more_steps steps n count line at next s within e =
    let left : n - count ≡ suc (n - (count + 1)) = omega arith in
    rw (left, e) (behind (steps_at (n - (count + 1)) line next))
  where
    behind : (r : Result (List Step) ℕ) → joined (steps ++ s ∷ []) r ≡ joined steps (r >>= λ rest. Ok (s ∷ rest))
    behind (Ok rest) = ap (λ (l : List Step). Ok l) (append_assoc steps (s ∷ []) rest)
    behind (Err column) = refl

pub wrong_step : (Z : Type 0) (steps : List Step) (n count : ℕ) (line : List ℕ) (at next : ℕ) (error : LineError) (said : Result (List Step) ℕ) → count < n
    → GivesPart {X = Step × Rattle.std.specs.Prelude.Bool} (Err error) next (entry_at line at) → joined steps (steps_at (n - count) line at) ≡ said → GivesSteps {Z = Z} (Err error) said
wrong_step Z steps n count line at next (Wrong column) said within e is = let left : n - count ≡ suc (n - count - 1) = omega arith in sym is ∙ rw (left, e) refl
wrong_step Z steps n count line at next NoMemory said within e is = tt

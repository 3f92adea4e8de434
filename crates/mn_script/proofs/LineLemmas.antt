-- The first line of a text.
use Rattle.std.proofs.Common.{◌≡◌, ◌<◌, ◌+◌, ℕ, List, [], ◌∷◌, ◌==◌, true, false, length, take, drop, refl, ap, ◌∙◌, arith, add-one, if◌then◌else◌}
use Rattle.mn_script.specs.Words.{len_to}
use Rattle.mn_script.specs.Reading.{lines_of, lengthened}

-- a line with one more byte at its front is as long as the rest of it and one
step : (b : ℕ) (bs : List ℕ) (m : ℕ) → (b ∷ take m bs) ∷ lines_of (drop (m + 1) bs) ≡ take (m + 1) (b ∷ bs) ∷ lines_of (drop (m + 1 + 1) (b ∷ bs))
step b bs m = simp add-one refl

-- the lines of a text are its first, and those of what is behind that one's LF
pub lines_of-first : (text : List ℕ) → 0 < length text → lines_of text ≡ take (len_to 10 text) text ∷ lines_of (drop (len_to 10 text + 1) text)
lines_of-first [] h = absurd (omega arith)
lines_of-first (b ∷ []) h =
    elim (b == 10) as (λ t. (if t then [] ∷ [] else (b ∷ []) ∷ []) ≡ take (if t then 0 else 0 + 1) (b ∷ []) ∷ lines_of (drop ((if t then 0 else 0 + 1) + 1) (b ∷ []))) [
      | true ↦ refl
      | false ↦ refl
    ]
lines_of-first (b ∷ c ∷ cs) h =
    let bs : List ℕ = c ∷ cs in
    let more : 0 < length bs = omega arith in
    elim (b == 10) as (λ t. (if t then [] ∷ lines_of bs else lengthened b (lines_of bs)) ≡ take (if t then 0 else len_to 10 bs + 1) (b ∷ bs) ∷ lines_of (drop ((if t then 0 else len_to 10 bs + 1) + 1) (b ∷ bs))) [
      | true ↦ refl
      | false ↦ ap (lengthened b) (lines_of-first (c ∷ cs) more) ∙ step b bs (len_to 10 bs)
    ]

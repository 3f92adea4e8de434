-- The first byte that a word spells.
use Rattle.std.specs.Prelude.{◌≡◌, ◌≤◌, ℕ, ◌∷◌, Option, Some, None, option_map, drop, length}
use Rattle.mn_script.specs.Words.{Text, unspelled}

-- a word is this byte and what the bytes behind its spelling stand for; without such a byte it
-- stands for nothing
abbrev pub FirstOf : Text → Option (ℕ × ℕ) → Type 0
FirstOf word None = (1 ≤ length word) → unspelled word ≡ None
FirstOf word (Some first) =
    (1 ≤ first.1) × (first.1 ≤ length word)
    × (unspelled word ≡ option_map (λ bs. first.0 ∷ bs) (unspelled (drop first.1 word)))

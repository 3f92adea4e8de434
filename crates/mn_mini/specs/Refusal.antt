-- When items make no minitransaction, and by which error.
use Rattle.std.specs.Prelude.{◌≡◌, ◌<◌, ◌≤◌, ℕ, zero, suc, List, [], ◌∷◌, length}
use Rattle.mn_mini.specs.declared.item.Item.{Item}
use Rattle.mn_mini.specs.declared.error.MiniError.{MiniError}
use Rattle.mn_mini.specs.declared.error.MiniError.TheVariants.{NoItems, TooMany, OutOfSpace}
use Rattle.mn_mini.specs.declared.error.MiniError.TheVariants.{NoMemory}
use Rattle.mn_mini.specs.Mini.{IsSoundItem}

-- the items before this place may stand in a minitransaction over so many nodes, and the one there
-- may not
abbrev pub IsFirstOutside : ℕ → List Item → ℕ → Type 0
IsFirstOutside nodes [] at = ⊥
IsFirstOutside nodes (item ∷ items) zero = IsSoundItem nodes item → ⊥
IsFirstOutside nodes (item ∷ items) (suc at) =
    IsSoundItem nodes item × IsFirstOutside nodes items at

-- there are none, or else too many, or else one lies outside
abbrev pub RefusesItems : ℕ → List Item → MiniError → Type 0
RefusesItems nodes items NoItems = items ≡ []
RefusesItems nodes items (TooMany n) = (n ≡ length items) × (1024 < n)
RefusesItems nodes items (OutOfSpace item) = (length items ≤ 1024) × IsFirstOutside nodes items item
RefusesItems nodes items NoMemory = Unit {0}

-- the number of a refusal; want of memory has none and gives 0
abbrev pub code_of : MiniError → ℕ
code_of NoItems = 6
code_of (TooMany n) = 5
code_of (OutOfSpace item) = 4
code_of NoMemory = 0

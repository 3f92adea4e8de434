-- When bytes or steps are refused, and by which error.
use Rattle.std.specs.Prelude.{◌≡◌, ◌<◌, ◌⊎◌, ℕ, List, [], length, Some}
use Rattle.mn_base.specs.Name.{IsName, name_fault}
use Rattle.mn_base.specs.declared.error.BaseError.{BaseError}
use Rattle.mn_base.specs.declared.error.BaseError.TheVariants.{Empty, TooLong, BadName, BadSteps}
use Rattle.mn_base.specs.declared.error.BaseError.TheVariants.{NoMemory}

-- a key has at least one byte and at most 32
abbrev pub RefusesKey : List ℕ → BaseError → Type 0
RefusesKey bytes Empty = bytes ≡ []
RefusesKey bytes (TooLong n) = (n ≡ length bytes) × (32 < n)
RefusesKey bytes (BadName at) = ⊥
RefusesKey bytes (BadSteps n) = ⊥
RefusesKey bytes NoMemory = Unit {0}

-- a value has at most 64 bytes
abbrev pub RefusesValue : List ℕ → BaseError → Type 0
RefusesValue bytes Empty = ⊥
RefusesValue bytes (TooLong n) = (n ≡ length bytes) × (64 < n)
RefusesValue bytes (BadName at) = ⊥
RefusesValue bytes (BadSteps n) = ⊥
RefusesValue bytes NoMemory = Unit {0}

-- bytes that are no name are refused at the first byte at fault
abbrev pub RefusesName : List ℕ → BaseError → Type 0
RefusesName bytes Empty = ⊥
RefusesName bytes (TooLong n) = ⊥
RefusesName bytes (BadName at) = (IsName bytes → ⊥) × (name_fault bytes ≡ Some at)
RefusesName bytes (BadSteps n) = ⊥
RefusesName bytes NoMemory = Unit {0}

-- a transaction has 1 to 16 steps, of which there are so many
abbrev pub RefusesSteps : ℕ → BaseError → Type 0
RefusesSteps count Empty = ⊥
RefusesSteps count (TooLong n) = ⊥
RefusesSteps count (BadName at) = ⊥
RefusesSteps count (BadSteps n) = (n ≡ count) × ((n ≡ 0) ⊎ (16 < n))
RefusesSteps count NoMemory = ⊥

-- the number of a refusal; want of memory has none and gives 0
abbrev pub code_of : BaseError → ℕ
code_of Empty = 1
code_of (TooLong n) = 2
code_of (BadName at) = 3
code_of (BadSteps n) = 7
code_of NoMemory = 0

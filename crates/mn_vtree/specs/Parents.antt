-- Lists of parents, and why one is refused.
use Rattle.std.specs.Prelude.{◌≡◌, ℕ, ◌<◌, ◌≤◌, List, map, Option, Some, option_map, slice_get}
use Rattle.mn_base.specs.declared.ids.VersionNo.{VersionNo}
use Rattle.mn_vtree.specs.declared.error.TreeError.{TreeError}
use Rattle.mn_vtree.specs.declared.error.TreeError.TheVariants.{BadParent, NoMemory}

-- the number of each version's parent, or none
abbrev pub numbers_of : List (Option VersionNo) → List (Option ℕ)
numbers_of parents = map (λ parent. option_map (λ v. v.0) parent) parents

-- the parent of the version, if it has one, is less
abbrev pub IsLess : List (Option ℕ) → ℕ → Type 0
IsLess parents v = (p : ℕ) → slice_get parents v ≡ Some (Some p) → p < v

-- each version's parent is less
abbrev pub AreLess : List (Option ℕ) → Type 0
AreLess parents = (v : ℕ) → IsLess parents v

-- the version is the first whose parent isn't less
pub record IsFirstBad (parents : List (Option ℕ)) (v : ℕ) : Type 0 where
  pub bad : (p : ℕ) × (slice_get parents v ≡ Some (Some p)) × (v ≤ p)
  pub first : (w : ℕ) → w < v → IsLess parents w

-- why a list of parents is refused
abbrev pub RefusesParents : List (Option ℕ) → TreeError → Type 0
RefusesParents parents (BadParent version) = IsFirstBad parents version.0
RefusesParents parents NoMemory = Unit {0}

-- the number of the refusal
abbrev pub code_of : TreeError → ℕ
code_of (BadParent version) = 8
code_of NoMemory = 0

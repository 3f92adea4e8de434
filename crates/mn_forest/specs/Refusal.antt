-- Why a memory holds no store.
use Rattle.std.specs.Prelude.{◌≡◌, ℕ, List, Option, ⊤}
use Rattle.mn_page.specs.declared.entry.CatEntry.{CatEntry}
use Rattle.mn_forest.specs.declared.error.ForestError.{ForestError}
use Rattle.mn_forest.specs.declared.error.ForestError.TheVariants as forest
use Rattle.mn_forest.specs.declared.error.Rule.{Rule}
use Rattle.mn_forest.specs.Rules.{Says, Test, IsFirstFailed, start_at, rule_of}

-- the first test that fails: its node, where what it tests begins, and its rule
pub record NamesBroken (memory : List (List ℕ)) (n start : ℕ) (rule : Rule) : Type 0 where
  pub es : List (Option CatEntry)
  pub says : Says memory es
  pub t : Test
  pub first : IsFirstFailed memory es n t
  pub start_is : start ≡ start_at t
  pub rule_is : rule ≡ rule_of t

abbrev pub RefusesMemory : List (List ℕ) → ForestError → Type 0
RefusesMemory memory (forest.Broken node start rule) = NamesBroken memory node.0 start rule
RefusesMemory memory forest.NoMemory = ⊤

abbrev pub IsLackOfMemory : ForestError → Type 0
IsLackOfMemory e = e ≡ forest.NoMemory

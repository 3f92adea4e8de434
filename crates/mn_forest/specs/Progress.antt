-- How far the tests of a node have come, and what is said where one fails.
use Rattle.std.specs.Prelude.{◌≡◌, ℕ, ◌<◌, List, Option, ⊤}
use Rattle.mn_page.specs.declared.entry.CatEntry.{CatEntry}
use Rattle.mn_forest.specs.declared.error.ForestError.{ForestError}
use Rattle.mn_forest.specs.declared.error.ForestError.TheVariants.{Broken, NoMemory}
use Rattle.mn_forest.specs.declared.error.Rule.{Rule}
use Rattle.mn_forest.specs.Rules.{HasHeader, HasCount, HasEntryAt, HasRootAt, Test, IsTest, Passes}
use Rattle.mn_forest.specs.Rules.{Precedes, start_at, rule_of, OfPage, OfChildren, OfReach}

-- the header and the count pass
abbrev pub HasFront : List (List ℕ) → ℕ → Type 0
HasFront memory n = HasHeader memory n × HasCount memory n

-- so many entries pass, with their roots
abbrev pub HasEntriesTo : List (List ℕ) → List (Option CatEntry) → ℕ → ℕ → Type 0
HasEntriesTo memory es n k = (w : ℕ) → w < k → HasEntryAt memory es n w × HasRootAt memory es n w

-- a slot passes, and so many do
abbrev pub HasSlot : List (List ℕ) → List (Option CatEntry) → ℕ → ℕ → Type 0
HasSlot memory es n slot =
    Passes memory es n (OfPage slot) × Passes memory es n (OfChildren slot)
    × Passes memory es n (OfReach slot)

abbrev pub HasSlotsTo : List (List ℕ) → List (Option CatEntry) → ℕ → ℕ → Type 0
HasSlotsTo memory es n k = (slot : ℕ) → slot < k → HasSlot memory es n slot

abbrev pub PassesAll : List (List ℕ) → List (Option CatEntry) → ℕ → Type 0
PassesAll memory es n = (t : Test) → IsTest t → Passes memory es n t

-- a test of the node fails where those before it pass
pub record FailsAt (memory : List (List ℕ)) (es : List (Option CatEntry)) (n start : ℕ)
    (rule : Rule) : Type 0 where
  pub t : Test
  pub test : IsTest t
  pub start_is : start ≡ start_at t
  pub rule_is : rule ≡ rule_of t
  pub failed : Passes memory es n t → ⊥
  pub before : (u : Test) → IsTest u → Precedes u t → Passes memory es n u

abbrev pub SaysFailed : List (List ℕ) → List (Option CatEntry) → ℕ → ForestError → Type 0
SaysFailed memory es n (Broken node start rule) = (node.0 ≡ n) × FailsAt memory es n start rule
SaysFailed memory es n NoMemory = ⊤

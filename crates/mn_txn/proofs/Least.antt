-- The least node of images and slots, looked for from the end.
use Rattle.std.proofs.Common.{◌≡◌, ℕ, List, ◌++◌, map, Option}
use Rattle.mn_law.specs.Planned.{least_of}

-- from the end on, these are left, and the others and more have this least one
pub record Walked {X : Type 0} (node : X → ℕ) (more : List ℕ) (all left : List X) (least : Option ℕ) : Type 0 where
  pub done : List X
  pub whole : all ≡ left ++ done
  pub least_is : least ≡ least_of (map node done ++ more)

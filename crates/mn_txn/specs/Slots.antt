-- The slots that are planned.
use Rattle.std.specs.Prelude.{ℕ, ◌≤◌, List}
use Rattle.mn_alloc.specs.Plan.{new_slots, free_slots}
use Rattle.mn_plans.specs.Growth.{AreNextSlots}

-- new slots are the next of their nodes, where so many are free
abbrev pub NewSlotsAreNext : Type 0
NewSlotsAreNext =
    (need : ℕ) (counts : List ℕ) → need ≤ free_slots counts
    → AreNextSlots counts (new_slots need counts)

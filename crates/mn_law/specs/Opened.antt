-- Which records a run may start from, and which it leaves at each place. Each node's records stand
-- newest first.
use Rattle.std.specs.Prelude.{ℕ, ◌≡◌, ◌<◌, true, List}
use Rattle.std.specs.List.{AllByRecursion}
use Rattle.mn_base.specs.Store.{Store}
use Rattle.mn_base.specs.declared.ids.NodeNo.{NodeNo}
use Rattle.mn_mini.specs.declared.record.Record.{Record}
use Rattle.mn_mini.specs.Node.{held_parts, space_of}
use Rattle.mn_page.specs.Holds.{Holds}
use Rattle.mn_runs.specs.Seen.{Place}
use Rattle.mn_law.specs.Places.{IsNumbered, number_in, content_in, WritesWhole}
use Rattle.mn_runs.specs.Sound.{AreSound, is_committed, memory_in}

-- Numbers

-- at the place of a page or an entry, what is held of committed ids writes the whole place, if it
-- meets it, with a greater number than the place has in the space
abbrev pub HeldAreGreater : ℕ → (NodeNo → List ℕ) → (NodeNo → List Record) → Type 0
HeldAreGreater nodes bases lists =
    (place : Place) → IsNumbered place → place.node.0 < nodes
    → AllByRecursion (λ h. is_committed nodes lists h.tid ≡ true
    → AllByRecursion (WritesWhole place (λ bytes.
    number_in (content_in (space_of (bases place.node) (lists place.node)) place)
    < number_in bytes)) h.part) (held_parts (lists place.node))

-- The memory

-- the records are sound, what they hold of committed ids has greater numbers, and their memory
-- holds the store
pub record IsOpened (nodes : ℕ) (bases : NodeNo → List ℕ) (lists : NodeNo → List Record)
    (store : Store) : Type 0 where
  pub sound : AreSound nodes lists
  pub greater : HeldAreGreater nodes bases lists
  pub holds : Holds (memory_in nodes bases lists) store

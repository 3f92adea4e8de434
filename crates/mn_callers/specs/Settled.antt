-- What opening and closing leave: each node is up, and holds nothing.
use Rattle.std.specs.Prelude.{ℕ, ◌≡◌, ◌<◌, false, List, [], reverse, slice_get, Some}
use Rattle.std.specs.Option.{option_map_or}
use Rattle.mn_base.specs.declared.ids.NodeNo.{NodeNo}
use Rattle.mn_cell.specs.Station.{StationState}
use Rattle.mn_mini.specs.declared.record.Record.{Record}
use Rattle.mn_mini.specs.Node.{held_parts}
use Rattle.mn_runs.specs.Sound.{AreSound}

-- the records of each node, newest first
abbrev pub records_at : {D : Type 0} → List (StationState D) → NodeNo → List Record
records_at stations n =
    option_map_or (λ s. reverse s.node.records) (slice_get stations n.0) []

-- each node is up
abbrev pub AllUp : {D : Type 0} → List (StationState D) → Type 0
AllUp stations =
    (k : ℕ) (s : _) → slice_get stations k ≡ Some s → s.node.down ≡ false

-- no node holds anything, if their records fit together
abbrev pub AllFree : {D : Type 0} → ℕ → List (StationState D) → Type 0
AllFree nodes stations = AreSound nodes (records_at stations) → (n : NodeNo) → n.0 < nodes
    → held_parts (records_at stations n) ≡ []

abbrev pub AreUpAndFree : {D : Type 0} → ℕ → List (StationState D) → Type 0
AreUpAndFree nodes stations = AllUp stations × AllFree nodes stations

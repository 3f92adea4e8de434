-- Which cells of a run are filled, and the stations that they are made of.
use Rattle.std.specs.Prelude.{ℕ, ◌+◌, ◌≡◌, Bool, nat_lt, List, [], ◌∷◌, map, Some, slice_get}
use Rattle.std.specs.Prelude.{if◌then◌else◌, is_some}
use Rattle.mn_cell.specs.declared.cells.Cells.{Cells}
use Rattle.std.specs.List.{range_with_len}
use Rattle.mn_cell.specs.Calls.{numbered}
use Rattle.mn_cell.specs.Station.{StationState}

-- whether each of the eight is
abbrev pub filled_of : Bool → Bool → Bool → Bool → Bool → Bool → Bool → Bool → List Bool
filled_of c0 c1 c2 c3 c4 c5 c6 c7 = c0 ∷ c1 ∷ c2 ∷ c3 ∷ c4 ∷ c5 ∷ c6 ∷ c7 ∷ []

-- of the cells of a run
abbrev pub filled_in : {N D : _} → Cells N D → List Bool
filled_in cells =
    filled_of (is_some cells.c0) (is_some cells.c1) (is_some cells.c2) (is_some cells.c3)
    (is_some cells.c4) (is_some cells.c5) (is_some cells.c6) (is_some cells.c7)

-- just the first so many are
abbrev pub filled_to : ℕ → List Bool
filled_to count = map (λ k. nat_lt k count) (range_with_len 0 8)

-- each station has the number at which it stands
abbrev pub AreNumbered : {D : Type 0} → List (StationState D) → Type 0
AreNumbered {D} stations =
    (k : ℕ) (s : StationState D) → slice_get stations k ≡ Some s → s.number ≡ numbered k

-- the numbers of the stations fall by one each, to this one and the ones above it
abbrev pub AreNumberedBelow : {D : Type 0} → ℕ → List (StationState D) → Type 0
AreNumberedBelow {D} count stations =
    (k : ℕ) (s : StationState D) → slice_get stations k ≡ Some s → s.number.0 + k + 1 ≡ count

-- how many a cell is, filled or not
abbrev pub count_if : Bool → ℕ
count_if b = if b then 1 else 0

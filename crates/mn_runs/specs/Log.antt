-- The log of a whole run, whose entries stay in the lists of its actors.
use Rattle.std.specs.Prelude.{ℕ, ◌<◌, ◌≤◌, ◌-◌, ◌≡◌, nat_eq, if◌then◌else◌, false, List, [], length}
use Rattle.std.specs.Prelude.{map}
use Rattle.std.specs.Prelude.{get_or, None}
use Rattle.mn_runs.specs.declared.entry.Entry.{Entry}
use Rattle.mn_runs.specs.declared.entry.What.TheVariants.{Restarted}
use Rattle.mn_runs.specs.declared.log.Spot.{Spot}

-- what stands where no entry does: no node has it, and no client
abbrev pub nobody : ℕ × Entry
nobody = (0, record { node = None; client = None; what = Restarted false })

-- the entry at a spot of these lists, with its place in the log
abbrev pub entry_at : List (List (ℕ × Entry)) → Spot → ℕ × Entry
entry_at lists s =
    if nat_eq s.place 0 then nobody else get_or (get_or lists s.list []) (s.place - 1) nobody

-- the list has an entry there
abbrev pub IsSpot : List (List (ℕ × Entry)) → Spot → Type 0
IsSpot lists s = (1 ≤ s.place) × (s.place ≤ length (get_or lists s.list []))

abbrev pub AreSpots : List (List (ℕ × Entry)) → List Spot → Type 0
AreSpots lists order =
    (n : ℕ) (s : Spot) → n < length order → s ≡ get_or order n s → IsSpot lists s

-- the entries of these lists in this order
abbrev pub log_of : List (List (ℕ × Entry)) → List Spot → List (ℕ × Entry)
log_of lists order = map (entry_at lists) order

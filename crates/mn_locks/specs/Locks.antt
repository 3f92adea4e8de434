-- What is held, and when a range conflicts with it.
use Rattle.std.specs.Prelude.{ℕ, Bool, true, false, not, ◌&&◌, ◌||◌, List, [], ◌∷◌, ◌++◌, map}
use Rattle.std.specs.Prelude.{filter, Option, Some, None, if◌then◌else◌}
use Rattle.mn_base.specs.Ids.{tid_same}
use Rattle.mn_base.specs.Ranges.{ranges_meet, least_tid}
use Rattle.mn_base.specs.declared.ids.Tid.{Tid}
use Rattle.mn_base.specs.declared.ids.Range.{Range}
use Rattle.mn_locks.specs.declared.hold.Hold.{Hold}
use Rattle.mn_locks.specs.declared.hold.Held.{Held}

-- the held ranges in the order in which they were taken, and for how many more there is room
pub record TableState : Type 0 where
  pub holds : List Hold
  pub spare : ℕ

-- a range, asked for alone or shared, meets one that another id holds, and one of the two is to be
-- alone
abbrev pub conflicts : Tid → Bool → Range → Hold → Bool
conflicts tid alone range hold =
    not (tid_same hold.tid tid) && (ranges_meet range hold.range && (alone || hold.alone))

-- the ids with whose ranges it conflicts
abbrev pub holders : Tid → Bool → Range → List Hold → List Tid
holders tid alone range [] = []
holders tid alone range (hold ∷ holds) =
    if conflicts tid alone range hold then hold.tid ∷ holders tid alone range holds
    else holders tid alone range holds

abbrev pub held_or : Range → Option Tid → Option Held → Option Held
held_or range None rest = rest
held_or range (Some t) rest = Some (record { range = range; holder = t })

-- the first of these ranges that conflicts, with the least id that holds it; else what the rest
-- gives
abbrev pub first_held : List Hold → Tid → Bool → List Range → Option Held → Option Held
first_held holds tid alone [] rest = rest
first_held holds tid alone (range ∷ ranges) rest =
    held_or range (least_tid (holders tid alone range holds))
    (first_held holds tid alone ranges rest)

-- the first range that conflicts, of those to be shared and then of those to be alone
abbrev pub held_of : List Hold → Tid → List Range → List Range → Option Held
held_of holds tid reads writes =
    first_held holds tid false reads (first_held holds tid true writes None)

abbrev pub hold_of : Tid → Bool → Range → Hold
hold_of tid alone range = record { tid = tid; range = range; alone = alone }

-- what an id holds by these ranges
abbrev pub holds_of : Tid → List Range → List Range → List Hold
holds_of tid reads writes = map (hold_of tid false) reads ++ map (hold_of tid true) writes

-- what other ids hold
abbrev pub without : Tid → List Hold → List Hold
without tid holds = filter (λ hold. not (tid_same hold.tid tid)) holds

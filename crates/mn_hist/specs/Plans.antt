-- What is kept of the plans so far.
use Rattle.std.specs.Prelude.{ℕ, nat_eq, if◌then◌else◌, Option, Some, None}
use Rattle.std.specs.HashMap.{get}
use Rattle.std.specs.Option.{option_map}
use Rattle.mn_base.specs.declared.ids.ClientNo.{ClientNo}
use Rattle.mn_base.specs.declared.ids.Tid.{Tid}
use Rattle.mn_runs.specs.Calls.{Begun}
use Rattle.mn_commits.specs.Standing.{id_key, keys_same}
use Rattle.mn_hist.specs.declared.plans.Begun.{Begun as Held}
use Rattle.mn_hist.specs.declared.plans.Plan.{Plan}
use Rattle.mn_hist.specs.declared.plans.Plans.{Plans}
use Rattle.mn_hist.specs.Table.{kept_at}

abbrev pub begun_of : Held → Begun
begun_of b = record { number = b.number; op = b.op.now }

-- who issued a plan, and for which operation
pub record Planner : Type 0 where
  pub client : Option ClientNo
  pub begun : Option Begun

abbrev pub planner_in : Plan → Planner
planner_in p = record { client = p.client; begun = option_map begun_of p.begun }

-- that of an id of this run: where the first plan is of another run, the other one is
abbrev pub planner_among : ℕ → Option Plan → Option Plan → Option Planner
planner_among run (Some first) other =
    if nat_eq first.run run then Some (planner_in first) else option_map planner_in other
planner_among run None other = option_map planner_in other

-- what is kept of the last plan of this id
abbrev pub planner_kept : Plans → Tid → Option Planner
planner_kept plans tid =
    planner_among tid.run (kept_at None plans.first tid.client tid.serial)
    (get keys_same plans.others (id_key tid))

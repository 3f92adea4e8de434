-- The log of a play. Lists of entries stand newest first.
use Rattle.std.specs.Prelude.{◌≡◌, List, [], Option, None, map, replicate}
use Rattle.mn_recov.specs.Recovery.{Recovery}
use Rattle.mn_runs.specs.declared.entry.Entry.{Entry}
use Rattle.mn_callers.specs.declared.callers.Callers.{Callers}
use Rattle.mn_callers.specs.Plays.{HasTrail, PlayState}
use Rattle.mn_callers.specs.Turn.{past_in}

-- the work of each recovery coordinator
abbrev pub works_of : Callers → List (Option Recovery)
works_of callers = map (λ d. d.work) callers.desks.items

-- the play has this log
pub record HasLog {D : Type 0} (p : PlayState D) (past : List Entry) : Type 0 where
  pub trail : HasTrail p.stations p.view.known p.callers
  pub past_is : past ≡ past_in trail.trail

-- nothing was done: its log is empty, and no recovery coordinator, of which there are four, has
-- work
pub record IsFresh {D : Type 0} (p : PlayState D) : Type 0 where
  pub log : HasLog p []
  pub idle : works_of p.callers ≡ replicate 4 None

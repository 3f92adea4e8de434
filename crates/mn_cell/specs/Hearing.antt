-- What a look at the clock tells of a pass and of stations whose passes were joined into it. The
-- newest line of a log comes first.
use Rattle.std.specs.Prelude.{ℕ, ◌≡◌, List, length, Some, slice_get}
use Rattle.mn_actors.specs.declared.actor.Actor.{Actor}
use Rattle.mn_actors.specs.declared.actor.Actor.TheVariants.{Node}
use Rattle.mn_actors.specs.declared.clock.View.{View}
use Rattle.mn_actors.specs.Lines.{Line}
use Rattle.mn_actors.specs.Lists.{held}
use Rattle.mn_actors.specs.Rule.{IsLegalLog, list_of}
use Rattle.mn_runs.specs.declared.entry.Entry.{Entry}
use Rattle.mn_cell.specs.Calls.{IsLegalLine}
use Rattle.mn_cell.specs.Station.{StationState}

-- a station is the same, but for the place that its pass knows
pub record StaysStation {D : Type 0} (old new : StationState D) : Type 0 where
  pub number : new.number ≡ old.number
  pub node : new.node ≡ old.node
  pub list : new.list ≡ old.list

-- as many stations, each of which is the same, but for that place
pub record StationsStay {D : Type 0} (old new : List (StationState D)) : Type 0 where
  pub count : length new ≡ length old
  pub each : (k : ℕ) (s t : StationState D) → slice_get old k ≡ Some s → slice_get new k ≡ Some t
      → StaysStation s t

-- the lists that the pass owns and those of the stations are of one log, each of whose lines was
-- legal when it was added; the pass knows how many lines it has
pub record HasOneLog {D : Type 0} (v : View Entry) (stations : List (StationState D)) : Type 0 where
  pub log : List (Line Entry)
  pub legal : IsLegalLog IsLegalLine log
  pub count : length log ≡ v.known
  pub callers : (a : Actor) (l : List (ℕ × Entry)) → held v a ≡ Some l → l ≡ list_of a log
  pub nodes : (k : ℕ) (s : StationState D) → slice_get stations k ≡ Some s
      → s.list ≡ list_of (Node s.number) log

-- What is kept of the entries so far to tell which crash points they met. Lists of entries stand
-- newest first.
use Rattle.std.specs.Prelude.{ℕ, ◌≡◌, ◌<◌, Bool, true, false, ◌&&◌, nat_eq, List, length}
use Rattle.std.specs.Prelude.{Option, Some, None, slice_get, slice_set, unwrap_or}
use Rattle.std.specs.Option.{option_map, option_map_or}
use Rattle.std.specs.HashMap.{HashMap, get}
use Rattle.mn_base.specs.Ids.{node_same, client_same}
use Rattle.mn_base.specs.declared.ids.ClientNo.{ClientNo}
use Rattle.mn_base.specs.declared.ids.Tid.{Tid}
use Rattle.mn_script.specs.declared.elements.Point.{Point}
use Rattle.mn_script.specs.declared.elements.Point.TheVariants.{Kill, Stop}
use Rattle.mn_runs.specs.declared.entry.Entry.{Entry}
use Rattle.mn_runs.specs.declared.entry.What.{What}
use Rattle.mn_runs.specs.declared.entry.What.TheVariants.{Begin, Answered}
use Rattle.mn_runs.specs.Calls.{client_entries, under_way}
use Rattle.mn_commits.specs.Standing.{id_key, keys_same}
use Rattle.mn_hist.specs.declared.points.Step.{Step}
use Rattle.mn_hist.specs.declared.points.TryKey.{TryKey}
use Rattle.mn_hist.specs.declared.points.Watch.{Watch}
use Rattle.mn_hist.specs.Points.{stops_same, votes_for, with_met, points_met}

-- Points

-- the point fits the step
abbrev pub step_fits : Step → Point → Bool
step_fits s (Kill client number votes) =
    client_same client s.client
    && (option_map_or (λ n. nat_eq n number) s.number false
    && option_map_or (nat_eq votes) s.votes false)
step_fits s (Stop node client number at) =
    client_same client s.client
    && (option_map_or (λ n. nat_eq n number) s.number false
    && (option_map_or (node_same node) s.node false
    && option_map_or (stops_same at) s.asked false))

-- what the step makes of the flags: it meets the point at this place, or none
abbrev pub StepMeetsPoint : (Point → Bool) → List Point → List Bool → Option ℕ → Type 0
StepMeetsPoint fit points flags None = with_met fit points flags ≡ flags
StepMeetsPoint fit points flags (Some at) =
    (at < length flags) × (with_met fit points flags ≡ slice_set flags at true)

-- the number of the operation under way
abbrev pub number_of : List Entry → Option ℕ
number_of es = option_map (λ b. b.number) (under_way es)

abbrev pub number_after : What → Option ℕ → Option ℕ
number_after (Begin number op) before = Some number
number_after (Answered number answer) before = None
number_after what before = before

abbrev pub try_key : ClientNo → Tid → TryKey
try_key c tid = record { caller = c.0; id = id_key tid }

abbrev pub tries_same : TryKey → TryKey → Bool
tries_same a b = nat_eq a.caller b.caller && keys_same a.id b.id

-- how many yes votes are kept of a client for an id
abbrev pub votes_kept : {S : Type 0} → HashMap TryKey ℕ S → ClientNo → Tid → ℕ
votes_kept votes c tid = unwrap_or (get tries_same votes (try_key c tid)) 0

-- of each client the number of its operation under way
abbrev pub AreNumbersUnderWay : List (Option ℕ) → List Entry → Type 0
AreNumbersUnderWay numbers past = (c : ClientNo) → c.0 < 256
    → slice_get numbers c.0 ≡ Some (number_of (client_entries c past))

-- its yes votes for each id
abbrev pub CountsVotes : {S : Type 0} → HashMap TryKey ℕ S → List Entry → Type 0
CountsVotes votes past = (c : ClientNo) (tid : Tid)
    → votes_kept votes c tid ≡ votes_for tid (client_entries c past)

-- it watches these points
pub record IsWatchOf (watch : Watch) (points : List Point) : Type 0 where
  pub long : length watch.numbers.items ≡ 256
  pub flags : length watch.met.items ≡ length points

-- and tells which of them these entries met
pub record TellsPointsMet (watch : Watch) (points : List Point) (past : List Entry) : Type 0 where
  pub met : watch.met.items ≡ points_met points past
  pub numbers : AreNumbersUnderWay watch.numbers.items past
  pub votes : CountsVotes watch.votes past

-- The crash points of a script, and which of them a log meets. Lists of entries stand newest first.
use Rattle.std.specs.Prelude.{ℕ, ◌+◌, Bool, true, false, ◌&&◌, nat_eq, List, [], ◌∷◌, map, filter}
use Rattle.std.specs.Prelude.{length, Option, Some, None, if◌then◌else◌}
use Rattle.std.specs.Option.{option_map, option_map_or}
use Rattle.mn_base.specs.Ids.{tid_same}
use Rattle.mn_base.specs.declared.gate.StopAt.{StopAt}
use Rattle.mn_base.specs.declared.gate.StopAt.TheVariants.{Before, Half, After}
use Rattle.mn_base.specs.declared.ids.ClientNo.{ClientNo}
use Rattle.mn_base.specs.declared.ids.Tid.{Tid}
use Rattle.mn_mini.specs.declared.request.Request.{Request}
use Rattle.mn_mini.specs.declared.request.Request.TheVariants as Ask
use Rattle.mn_mini.specs.declared.reply.NodeReply.TheVariants as Say
use Rattle.mn_script.specs.declared.elements.Point.{Point}
use Rattle.mn_script.specs.declared.elements.Point.TheVariants.{Kill, Stop}
use Rattle.mn_runs.specs.declared.entry.Entry.{Entry}
use Rattle.mn_runs.specs.declared.entry.What.{What}
use Rattle.mn_runs.specs.declared.entry.What.TheVariants.{Called, Stopped}
use Rattle.mn_runs.specs.Calls.{is_at, is_by, client_entries, under_way}

-- What a step is to crash points

-- the client's operation of this number is under way; `es` is the client's own list
abbrev pub is_in : ℕ → List Entry → Bool
is_in number es = option_map_or (λ b. nat_eq b.number number) (under_way es) false

-- the id for which a step brings a yes vote: a Prepare that is answered Done
abbrev pub voted_id : What → Option Tid
voted_id (Called (Ask.Prepare tid participants part) (Say.Done reads)) = Some tid
voted_id what = None

abbrev pub is_vote_for : Tid → Entry → Bool
is_vote_for tid e = option_map_or (tid_same tid) (voted_id e.what) false

-- how many yes votes the client has for the id
abbrev pub votes_for : Tid → List Entry → ℕ
votes_for tid es = length (filter (is_vote_for tid) es)

-- how many it has with this step for the id of that, if the step brings one
abbrev pub votes_with : List Entry → What → Option ℕ
votes_with es what = option_map (λ tid. votes_for tid es + 1) (voted_id what)

-- a request inside which a point may stop a node
abbrev pub may_stop : Request → Bool
may_stop (Ask.Prepare tid participants part) = true
may_stop (Ask.Exec tid part) = true
may_stop request = false

-- where a node stopped inside such a request as it was asked to
abbrev pub asked_in : What → Option StopAt
asked_in (Stopped (Some request) asked) = if may_stop request then asked else None
asked_in what = None

abbrev pub stops_same : StopAt → StopAt → Bool
stops_same Before Before = true
stops_same Half Half = true
stops_same After After = true
stops_same a b = false

-- Which points fit it

abbrev pub client_of : Point → ClientNo
client_of (Kill client number votes) = client
client_of (Stop node client number at) = client

-- the point fits a step of its client, which had this list before: in its operation the client has
-- so many yes votes for one id, or the node stopped as the point says
abbrev pub point_fits_after : List Entry → Entry → Point → Bool
point_fits_after es e (Kill client number votes) =
    is_in number es && option_map_or (nat_eq votes) (votes_with es e.what) false
point_fits_after es e (Stop node client number at) =
    is_in number es && (is_at node e && option_map_or (stops_same at) (asked_in e.what) false)

abbrev pub point_fits : List Entry → Entry → Point → Bool
point_fits past e p =
    is_by (client_of p) e && point_fits_after (client_entries (client_of p) past) e p

-- Which points were met

-- the first point that fits and that was not met before is met
abbrev pub with_met : (Point → Bool) → List Point → List Bool → List Bool
with_met fit [] flags = flags
with_met fit (p ∷ ps) [] = []
with_met fit (p ∷ ps) (true ∷ flags) = true ∷ with_met fit ps flags
with_met fit (p ∷ ps) (false ∷ flags) =
    if fit p then true ∷ flags else false ∷ with_met fit ps flags

-- whether each point was met, in order of number
abbrev pub points_met : List Point → List Entry → List Bool
points_met points [] = map (λ p. false) points
points_met points (e ∷ past) = with_met (point_fits past e) points (points_met points past)

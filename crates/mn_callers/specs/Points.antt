-- What a client's own list says of its crash points: where its next call is to stop, and whether it
-- has died. Lists of entries stand newest first.
use Rattle.std.specs.Prelude.{ℕ, ◌≡◌, Bool, true, false, ◌&&◌, ◌||◌, nat_eq, List, [], ◌∷◌}
use Rattle.std.specs.Prelude.{Option, Some, None, option_and_then, if◌then◌else◌, ⊤}
use Rattle.mn_base.specs.Ids.{node_same, client_same}
use Rattle.mn_base.specs.declared.gate.StopAt.{StopAt}
use Rattle.mn_base.specs.declared.ids.ClientNo.{ClientNo}
use Rattle.mn_base.specs.declared.ids.NodeNo.{NodeNo}
use Rattle.mn_mini.specs.declared.request.Request.{Request}
use Rattle.mn_script.specs.declared.elements.Point.{Point}
use Rattle.mn_script.specs.declared.elements.Point.TheVariants.{Kill, Stop}
use Rattle.mn_runs.specs.declared.entry.Entry.{Entry}
use Rattle.mn_runs.specs.declared.entry.What.{What}
use Rattle.mn_runs.specs.declared.entry.What.TheVariants.{Called, Stopped}
use Rattle.mn_runs.specs.Calls.{under_way}
use Rattle.mn_cell.specs.Calls.{ObeysStop}
use Rattle.mn_hist.specs.Points.{may_stop, points_met}

-- Death

-- some point that passes the test was met
abbrev pub is_some_met : (Point → Bool) → List Point → List Bool → Bool
is_some_met test [] flags = false
is_some_met test (p ∷ ps) [] = false
is_some_met test (p ∷ ps) (flag ∷ flags) = (flag && test p) || is_some_met test ps flags

abbrev pub is_kill_of : ClientNo → Point → Bool
is_kill_of c (Kill client number votes) = client_same client c
is_kill_of c (Stop node client number at) = false

-- the client has died: a kill point of it was met
abbrev pub has_died : List Point → ClientNo → List Entry → Bool
has_died points c es = is_some_met (is_kill_of c) points (points_met points es)

-- Stops

abbrev pub is_stop_at : NodeNo → ClientNo → ℕ → Point → Bool
is_stop_at n c number (Kill client m votes) = false
is_stop_at n c number (Stop node client m at) =
    node_same node n && (client_same client c && nat_eq m number)

abbrev pub place_of_stop : Point → Option StopAt
place_of_stop (Kill client number votes) = None
place_of_stop (Stop node client number at) = Some at

-- the first point that passes the test and was not met says where to stop
abbrev pub stop_among : (Point → Bool) → List Point → List Bool → Option StopAt
stop_among test [] flags = None
stop_among test (p ∷ ps) [] = None
stop_among test (p ∷ ps) (true ∷ flags) = stop_among test ps flags
stop_among test (p ∷ ps) (false ∷ flags) =
    if test p then place_of_stop p else stop_among test ps flags

-- where the node is to stop inside the client's request, by the points that were not met
abbrev pub stop_due : List Point → ClientNo → NodeNo → Request → List Entry → Option StopAt
stop_due points c n request es =
    if may_stop request
    then option_and_then (λ b. stop_among (is_stop_at n c b.number) points (points_met points es))
    (under_way es)
    else None

-- the call was asked to stop where that is due, and nowhere else: a node that stopped inside it had
-- been asked just this, and where a stop was due, nothing that adds a record was done
abbrev pub AsksAs : Option StopAt → What → Type 0
AsksAs due (Called request reply) = ObeysStop due request reply
AsksAs due (Stopped request asked) = asked ≡ due
AsksAs due what = ⊤

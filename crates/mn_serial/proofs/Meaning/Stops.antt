-- Stops and restarts behind a run: it is a run with them, so its records are opened then too.
use Rattle.std.proofs.Common.{List, [], ◌∷◌, ◌++◌, Option, Some, None}
use Rattle.std.specs.List.{AllByRecursion}
use Rattle.mn_base.specs.declared.ids.ClientNo.{ClientNo}
use Rattle.mn_runs.specs.declared.entry.Entry.{Entry}
use Rattle.mn_runs.specs.declared.entry.What.{What}
use Rattle.mn_runs.specs.declared.entry.What.TheVariants.{Begin, Issue, Called, Stopped, Restarted, Abandoned, Answered}
use Rattle.mn_runs.specs.Protocol.{Start, FollowsProtocol}
use Rattle.mn_law.specs.Run.{Means, IsRun}
use Rattle.mn_serial.specs.Meaning.{OpenedRun, HistoryRun, IsStop, StopsLeaveOpened}
use Rattle.mn_serial.proofs.Meaning.Exists.{history_exists}
use Rattle.mn_serial.proofs.Meaning.Throughout.{ends_opened}

-- a stop means nothing by its client's list
stop_means : (past : List Entry) (c : Option ClientNo) (what : What) → IsStop what
    → Means past c what
stop_means past None what is = tt
stop_means past (Some c) (Stopped request asked) is = tt
stop_means past (Some c) (Restarted kept) is = tt
stop_means past (Some c) (Begin number op) is = absurd is
stop_means past (Some c) (Issue tid mini) is = absurd is
stop_means past (Some c) (Called request reply) is = absurd is
stop_means past (Some c) (Abandoned tid) is = absurd is
stop_means past (Some c) (Answered number answer) is = absurd is

run_with_stops : (start : Start) (past stops : List Entry) → IsRun start past
    → AllByRecursion (λ e. IsStop e.what) stops → FollowsProtocol start (stops ++ past)
    → IsRun start (stops ++ past)
run_with_stops start past [] run all follows = run
run_with_stops start past (e ∷ stops) run all follows =
    let rest = run_with_stops start past stops run all.1 follows.0 in
    (rest, record { keeps = follows.1; means = stop_means (stops ++ past) e.client e.what all.0 })

pub stops_leave_opened : StopsLeaveOpened
stops_leave_opened start store past stops h all follows =
    let run = run_with_stops start past stops h.run all follows in
    let opened : OpenedRun start store (stops ++ past) = record { opened = h.opened; run = run } in
    let history = history_exists start store (stops ++ past) opened in
    let both : HistoryRun start store (stops ++ past) history.0 = record { opened = opened; history = history.1 } in
    (history.0, both, ends_opened start store (stops ++ past) history.0 both)

use Rattle.mn_callers.proofs.Turns.{ok_then}
use Rattle.mn_callers.specs.Stages.{GoesAs, state_of}
use Rattle.mn_cluster.specs.Follows.{GoAtOnce}
use Rattle.mn_cluster.specs.Runs.{GoFirst, on_past}
use Rattle.mn_cluster.proofs.Phases.{first_both}
use Rattle.mn_cluster.proofs.running.go_first.Goals as goal

pub returns-clause-does : goal.returns-clause-does
returns-clause-does g c =
    let script = c.args.script.now in
    let p = state_of c.args.stage.now in
    let q = state_of c.in_turn.new.stage in
    let r = state_of c.at_once.new.stage in
    ok_then c.at_once.result (GoesAs (on_past (GoAtOnce script)) q r) (GoesAs (on_past (GoFirst script)) p r)
    (λ goes. first_both script p q r c.in_ok-in_turn.ensures.does goes) c.at_once.ensures.does

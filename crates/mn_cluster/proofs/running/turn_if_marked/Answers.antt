use Rattle.std.proofs.Common.{sym, ◌∙◌}
use Rattle.mn_callers.proofs.Turns.{ok_then}
use Rattle.mn_callers.specs.Acts.{DoesAll, role_of}
use Rattle.mn_callers.specs.Plays.{caller_at}
use Rattle.mn_callers.specs.Stages.{GoesAs, IsOfClient, state_of}
use Rattle.mn_cluster.specs.Follows.{DoesIfMarked}
use Rattle.mn_cluster.specs.Runs.{on_past}
use Rattle.mn_cluster.proofs.Phases.{no_turn, one_turn}
use Rattle.mn_cluster.proofs.running.turn_if_marked.Goals as goal

pub returns-then-not-is_marked-clause-does : goal.returns-then-not-is_marked-clause-does
returns-then-not-is_marked-clause-does g c =
    no_turn c.args.script.now c.args.mark c.args.at (state_of c.args.stage.now) (sym c.is_marked.ensures ∙ c.if-not-is_marked.true)

pub returns-clause-does : goal.returns-clause-does
returns-clause-does g c =
    let script = c.args.script.now in
    let p = state_of c.args.stage.now in
    let q = state_of c.client_turn.new.self in
    ok_then c.client_turn.result (GoesAs (IsOfClient (caller_at c.args.at) (DoesAll (role_of script (caller_at c.args.at)))) p q) (GoesAs (on_past (DoesIfMarked script c.args.mark (caller_at c.args.at))) p q)
    (λ goes. one_turn script c.args.mark c.args.at p q (sym c.is_marked.ensures ∙ c.if-not-is_marked.false) goes) c.client_turn.ensures.does

use Rattle.std.proofs.Common.{◌≡◌, Err, List, ap, inl, inr, sym, ◌∙◌}
use Rattle.std.proofs.lemmas.Result.{err_from_is_err_and}
use Rattle.mn_cell.specs.declared.trace.RunCause.{RunCause}
use Rattle.mn_script.specs.declared.elements.Mark.TheVariants.{Last}
use Rattle.mn_runs.specs.declared.entry.Entry.{Entry}
use Rattle.mn_runs.specs.Protocol.{start_of}
use Rattle.mn_callers.proofs.Closing.{if_error}
use Rattle.mn_callers.proofs.Opened.{fresh_bare}
use Rattle.mn_callers.proofs.Turns.{ok_then}
use Rattle.mn_callers.specs.Logs.{HasLog}
use Rattle.mn_callers.specs.Stages.{GoesAs, Settles, state_of}
use Rattle.mn_cluster.specs.Follows.{GoInTurn}
use Rattle.mn_cluster.specs.Runs.{GoFirst, RunsThrough, on_past}
use Rattle.mn_cluster.proofs.Phases.{not_err, run_to_closing, run_whole}
use Rattle.mn_cluster.proofs.running.run_through.Goals as goal

pub returns-clause-follows : goal.returns-clause-follows
returns-clause-follows g c fresh =
    let start = start_of g.N.Named.records in
    let script = c.args.script.now in
    let p = state_of c.args.stage.now in
    let opened = state_of c.settle.new.self in
    let met = state_of c.go_first.new.stage in
    let closed = state_of c.settle-2.new.self in
    let followed = state_of c.in_turn.new.stage in
    let ended = state_of c.settle-3.new.self in
    let goes = not_err c.go_first.result (GoesAs (on_past (GoFirst script)) opened met) (sym c.is_err.ensures.value ∙ c.if-is_err.false) c.go_first.ensures.does in
    let lasts = not_err c.in_turn.result (GoesAs (on_past (GoInTurn script Last)) closed followed) (sym c.is_err-2.ensures.value ∙ c.if-is_err-2.false) c.in_turn.ensures.does in
    ok_then c.settle-3.result (GoesAs Settles followed ended) ((past : List Entry) × HasLog ended past × RunsThrough start script past)
    (λ ends. run_whole start script p opened met closed followed ended fresh c.in_ok-settle.ensures.does c.in_ok-settle.ensures.free goes
    c.in_ok-settle-2.ensures.does c.in_ok-settle-2.ensures.free c.in_ok-settle-2.ensures.up_all lasts ends)
    c.settle-3.ensures.does

pub returns-in_err-settle-clause-damaged : goal.returns-in_err-settle-clause-damaged
returns-in_err-settle-clause-damaged g c fresh =
    let r = err_from_is_err_and c.from_residual.result c.from_residual.ensures.1 in
    let now : c.from_residual.result ≡ Err c.in_err-settle.field-0.0 = r.1 ∙ ap (λ (e : RunCause). Err e) r.2 in
    rw now (λ damage. absurd ((c.in_err-settle.ensures.damaged damage).1 (fresh_bare (state_of c.args.stage.now) fresh.log)))

pub returns-in_err-settle-2-clause-damaged : goal.returns-in_err-settle-2-clause-damaged
returns-in_err-settle-2-clause-damaged g c fresh =
    let start = start_of g.N.Named.records in
    let script = c.args.script.now in
    let p = state_of c.args.stage.now in
    let opened = state_of c.settle.new.self in
    let met = state_of c.go_first.new.stage in
    let closed = state_of c.settle-2.new.self in
    let goes = not_err c.go_first.result (GoesAs (on_past (GoFirst script)) opened met) (sym c.is_err.ensures.value ∙ c.if-is_err.false) c.go_first.ensures.does in
    let r = err_from_is_err_and c.from_residual-in_err-settle-2.result c.from_residual-in_err-settle-2.ensures.1 in
    let now : c.from_residual-in_err-settle-2.result ≡ Err c.in_err-settle-2.field-0.0 = r.1 ∙ ap (λ (e : RunCause). Err e) r.2 in
    rw now (λ damage.
    let first = run_to_closing start script p opened met closed fresh c.in_ok-settle.ensures.does c.in_ok-settle.ensures.free goes (c.in_err-settle-2.ensures.damaged damage).0 in
    (first.0, first.1, inl first.2))

pub returns-clause-damaged : goal.returns-clause-damaged
returns-clause-damaged g c fresh =
    let start = start_of g.N.Named.records in
    let script = c.args.script.now in
    let p = state_of c.args.stage.now in
    let opened = state_of c.settle.new.self in
    let met = state_of c.go_first.new.stage in
    let closed = state_of c.settle-2.new.self in
    let followed = state_of c.in_turn.new.stage in
    let ended = state_of c.settle-3.new.self in
    let goes = not_err c.go_first.result (GoesAs (on_past (GoFirst script)) opened met) (sym c.is_err.ensures.value ∙ c.if-is_err.false) c.go_first.ensures.does in
    let lasts = not_err c.in_turn.result (GoesAs (on_past (GoInTurn script Last)) closed followed) (sym c.is_err-2.ensures.value ∙ c.if-is_err-2.false) c.in_turn.ensures.does in
    if_error c.settle-3.result _ _
    (λ cause so damage.
    let whole = run_whole start script p opened met closed followed ended fresh c.in_ok-settle.ensures.does c.in_ok-settle.ensures.free goes
    c.in_ok-settle-2.ensures.does c.in_ok-settle-2.ensures.free c.in_ok-settle-2.ensures.up_all lasts (so damage).0 in (whole.0, whole.1, inr whole.2))
    c.settle-3.ensures.damaged

use Rattle.std.proofs.Common.{◌≡◌, Err, List, ap, ◌∙◌, sym}
use Rattle.std.proofs.lemmas.Result.{err_from_is_err_and}
use Rattle.mn_cell.specs.declared.trace.RunCause.{RunCause}
use Rattle.mn_runs.specs.declared.entry.Entry.{Entry}
use Rattle.mn_runs.specs.Protocol.{start_of}
use Rattle.mn_replay.specs.Follows.{IsPlayed}
use Rattle.mn_callers.specs.Stages.{AreFreeIfSound, GoesAs, Settles, state_of}
use Rattle.mn_callers.specs.Logs.{HasLog}
use Rattle.mn_replay.specs.Schedule.{DoesActs, acts_of}
use Rattle.mn_callers.proofs.Closing.{if_error}
use Rattle.mn_callers.proofs.Opened.{fresh_bare}
use Rattle.mn_callers.proofs.Turns.{ok_then}
use Rattle.mn_replay.proofs.Acting.{not_err}
use Rattle.mn_replay.proofs.Scheduled.{played_whole}
use Rattle.mn_replay.proofs.play.play.Goals as goal

pub returns-clause-follows : goal.returns-clause-follows
returns-clause-follows g c fresh =
    let start = start_of g.N.Named.records in
    let script = c.args.script.now in
    let p = (state_of c.args.stage.now) in
    let opened = (state_of c.settle.new.self) in
    let played = (state_of c.do_acts.new.stage) in
    let closed = (state_of c.settle-2.new.self) in
    let acts = not_err c.do_acts.result (GoesAs (DoesActs script (acts_of script)) opened played) (sym c.is_err.ensures.value ∙ c.if-is_err.false) c.do_acts.ensures.does in
    ok_then c.settle-2.result (GoesAs Settles played closed) ((past : List Entry) × HasLog closed past × IsPlayed (AreFreeIfSound start) script past)
    (λ closes. played_whole start script p opened played closed fresh c.in_ok-settle.ensures.does c.in_ok-settle.ensures.free acts closes)
    c.settle-2.ensures.does

pub returns-in_err-settle-clause-damaged : goal.returns-in_err-settle-clause-damaged
returns-in_err-settle-clause-damaged g c fresh =
    let r = err_from_is_err_and c.from_residual.result c.from_residual.ensures.1 in
    let now : c.from_residual.result ≡ Err c.in_err-settle.field-0.0 = r.1 ∙ ap (λ (e : RunCause). Err e) r.2 in
    rw now (λ damage. absurd ((c.in_err-settle.ensures.damaged damage).1 (fresh_bare (state_of c.args.stage.now) fresh.log)))

pub returns-clause-damaged : goal.returns-clause-damaged
returns-clause-damaged g c fresh =
    let start = start_of g.N.Named.records in
    let script = c.args.script.now in
    let p = (state_of c.args.stage.now) in
    let opened = (state_of c.settle.new.self) in
    let played = (state_of c.do_acts.new.stage) in
    let closed = (state_of c.settle-2.new.self) in
    let acts = not_err c.do_acts.result (GoesAs (DoesActs script (acts_of script)) opened played) (sym c.is_err.ensures.value ∙ c.if-is_err.false) c.do_acts.ensures.does in
    if_error c.settle-2.result _ _
    (λ cause so damage. played_whole start script p opened played closed fresh c.in_ok-settle.ensures.does c.in_ok-settle.ensures.free acts (so damage).0)
    c.settle-2.ensures.damaged

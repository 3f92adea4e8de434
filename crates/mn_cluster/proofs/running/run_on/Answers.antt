use Rattle.std.proofs.Common.{◌≡◌, Err, [], List, IfErr, OnOk, ap, refl, subst, ◌∙◌}
use Rattle.std.proofs.lemmas.Result.{err_from_is_err_and}
use Rattle.mn_mini.specs.declared.record.Record.{Record}
use Rattle.mn_runs.specs.declared.entry.Entry.{Entry}
use Rattle.mn_runs.specs.Protocol.{start_of, entries_of}
use Rattle.mn_callers.proofs.Opening.{not_begun}
use Rattle.mn_callers.proofs.Played.{told_as, told_by}
use Rattle.mn_callers.specs.Failed.{IsDamage}
use Rattle.mn_callers.specs.Logs.{HasLog}
use Rattle.mn_callers.specs.Stages.{state_of}
use Rattle.mn_callers.specs.Trace.{IsTrace, start_on}
use Rattle.mn_cluster.specs.Follows.{FollowsOnThreads, FollowsToClosing}
use Rattle.mn_cluster.specs.Runs.{RunsThrough, RunsToClosing}
use Rattle.mn_cluster.proofs.Phases.{follows_script, follows_to}
use Rattle.mn_cluster.proofs.running.run_on.Goals as goal

pub returns-in_default-clause-failed : goal.returns-in_default-clause-failed
returns-in_default-clause-failed g c =
    c.without_log.ensures.fails c.args.script.now c.args.nodes.items refl [] (not_begun g.D.Disk.state g.D.Disk.faults c.args.script.now c.args.script.now.nodes c.args.nodes.items c.requires.nodes)

pub returns-clause-follows : goal.returns-clause-follows
returns-clause-follows g c =
    let given = c.args.nodes.items in
    let start = start_on given in
    let script = c.args.script.now in
    let last = state_of c.run_through-played.new.stage in
    told_as (RunsThrough start script) (FollowsOnThreads start script) (λ t. t.log) c.end.result c.run_through-played.result (λ past. HasLog last past)
    (λ t. IsTrace g.D.Disk.state g.D.Disk.faults script given t.nodes.items t.log) (c.end.ensures.trace given c.requires.named)
    (λ t is played. follows_script start script (entries_of t.log) c.runs_follow_protocol.ensures c.records_stay_sound.ensures is.run.run played)
    c.end.ensures.done c.end.ensures.log
    (subst (λ (rs : List (List Record)). OnOk c.run_through-played.result ((past : List Entry) × HasLog last past × RunsThrough (start_of rs) script past)) c.requires.named.records_are
    (c.run_through-played.ensures.follows c.in_ok-begun.ensures.fresh))

pub returns-in_default-clause-damaged : goal.returns-in_default-clause-damaged
returns-in_default-clause-damaged g c = λ damage. absurd (subst IsDamage c.without_log.ensures.cause damage)

pub returns-in_err-begun-clause-damaged : goal.returns-in_err-begun-clause-damaged
returns-in_err-begun-clause-damaged g c =
    let r = err_from_is_err_and c.from_residual.result c.from_residual.ensures.1 in
    let now : c.from_residual.result ≡ Err c.in_err-begun.field-0.0 = r.1 ∙ ap (λ e. Err e) r.2 in
    rw now (λ damage. absurd (subst IsDamage c.in_err-begun.ensures.cause damage))

pub returns-clause-damaged : goal.returns-clause-damaged
returns-clause-damaged g c =
    let given = c.args.nodes.items in
    let start = start_on given in
    let script = c.args.script.now in
    let last = state_of c.run_through-played.new.stage in
    told_by g.D.Disk.state g.D.Disk.faults script given (RunsToClosing start script) (FollowsToClosing start script) (λ past. HasLog last past)
    (λ log run said. follows_to start script (entries_of log) c.runs_follow_protocol.ensures c.records_stay_sound.ensures run said)
    (λ f. f.nodes.items) (λ f. f.log) (λ f. f.cause) c.end.result c.run_through-played.result (c.end.ensures.failed given c.requires.named) c.end.ensures.told
    (subst (λ (rs : List (List Record)). IfErr c.run_through-played.result (λ cause. IsDamage cause → (past : List Entry) × HasLog last past × RunsToClosing (start_of rs) script past)) c.requires.named.records_are
    (c.run_through-played.ensures.damaged c.in_ok-begun.ensures.fresh))

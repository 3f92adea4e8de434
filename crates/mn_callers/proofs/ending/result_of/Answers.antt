use Rattle.std.proofs.Common.{◌≡◌, Err, IfOk, Ok, ap, subst, sym, ◌∙◌}
use Rattle.mn_callers.specs.Failed.{IsDamage}
use Rattle.mn_callers.specs.Trace.{IsTrace}
use Rattle.mn_callers.proofs.Handing.{as_many, is_trace, run_on}
use Rattle.mn_callers.proofs.ending.result_of.Goals as goal

pub returns-in_default-clause-failed : goal.returns-in_default-clause-failed
returns-in_default-clause-failed g c given named =
    c.no_memory.ensures.fails c.args.script.now given (as_many g.D.Disk.state g.D.Disk.faults g.N.Named.records g.N.Named.faults g.N.Named.honest c.args.script.now given c.args.nodes.items c.args.played c.requires.0 named c.requires.1)
    c.requires.0 (λ sound. run_on g.D.Disk.state g.D.Disk.faults g.N.Named.records g.N.Named.faults g.N.Named.honest c.args.script.now given c.args.nodes.items c.args.played c.requires.0 named c.requires.1)

pub returns-in-Ok-played-clause-trace : goal.returns-in-Ok-played-clause-trace
returns-in-Ok-played-clause-trace g c given named =
    let past = c.requires.0 in
    let told : c.in-Ok.log ≡ past = subst (λ r. IfOk r (λ log. log ≡ past)) c.in-Ok.is c.requires.2 in
    subst (IsTrace g.D.Disk.state g.D.Disk.faults c.args.script.now given c.args.nodes.items) (sym told)
    (is_trace g.D.Disk.state g.D.Disk.faults g.N.Named.records g.N.Named.faults g.N.Named.honest c.args.script.now given c.args.nodes.items c.args.played past named c.requires.1
    c.runs_follow_protocol.ensures c.records_stay_sound.ensures c.in-Ok-played.field-0 c.in-Ok-played.is)

pub returns-in_default-clause-told : goal.returns-in_default-clause-told
returns-in_default-clause-told g c = λ damage. absurd (subst IsDamage c.no_memory.ensures.cause damage)

pub returns-in-Err-clause-told : goal.returns-in-Err-clause-told
returns-in-Err-clause-told g c = λ damage.
    let told = c.failed_so.ensures.told damage in (c.in-Err.is ∙ ap (λ cause. Err cause) told.0, c.in-Ok.is ∙ ap (λ log. Ok log) (sym told.1))

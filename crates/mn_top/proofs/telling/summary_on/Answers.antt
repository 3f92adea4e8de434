use Rattle.mn_callers.proofs.Handing.{if_ok}
use Rattle.mn_runs.specs.Protocol.{entries_of}
use Rattle.mn_top.proofs.Summaries.{summarizes}
use Rattle.mn_top.proofs.telling.summary_on.Goals as goal

pub returns : goal.returns
returns c = λ from opened free.
    let past = entries_of c.args.log.now in
    let made = c.in_ok-history.ensures.history from opened in
    let one = c.runs_are_one_history.ensures from c.args.start.now past made.0 (record { opened = opened; history = made.1 }) in
    if_ok c.summary_of.result c.summary_of.ensures (λ text told. summarizes from c.args.start.now c.args.script.now past c.in_ok-history.history made.0 text made.1 one made.2 free told)

use Rattle.mn_runs.specs.Protocol.{entries_of}
use Rattle.mn_hist.proofs.Joining.{on_found, told_whole}
use Rattle.mn_hist.proofs.history.reader_of.Goals as goal

pub returns : goal.returns
returns c = λ from store run.
    on_found c.read_log.result c.read_log.ensures (λ reader tells.
    let told = tells from store run in
    let one = c.runs_are_one_history.ensures from store (entries_of c.args.log.now) told.0 (record { opened = run; history = told.1.history }) in (
      told.0,
      record { is = told.1.history; one = one; history = told_whole store reader.acts.items told.0 told.1.acts one.legal; stands = told.1.stands },
      told.1.reading.said,
    ))

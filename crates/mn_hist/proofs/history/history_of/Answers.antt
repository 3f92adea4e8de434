use Rattle.std.proofs.Common.{ap, ◌∙◌}
use Rattle.mn_base.specs.Store.{Store}
use Rattle.mn_hist.specs.Acts.{done_from}
use Rattle.mn_hist.specs.History.{acts_in}
use Rattle.mn_hist.proofs.history.history_of.Goals as goal

pub returns-clause-history : goal.returns-clause-history
returns-clause-history c = λ from run.
    let told = c.in_ok-reader.ensures from c.args.start.now run in
    (told.0, told.1.is, c.in_ok-history.ensures.history ∙ (ap (λ (s : Store). done_from s (acts_in c.deref.result.now)) c.in_ok-store.ensures ∙ ap (λ l. done_from c.args.start.now (acts_in l)) c.deref.ensures.value ∙ told.1.history))

pub returns-clause-one : goal.returns-clause-one
unfolding returns-clause-history
returns-clause-one c = λ from run.
    let told = c.in_ok-reader.ensures from c.args.start.now run in
    (told.0, told.1.one, (returns-clause-history c from run).2)

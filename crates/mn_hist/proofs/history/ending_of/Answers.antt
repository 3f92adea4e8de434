use Rattle.std.proofs.Common.{◌≡◌, ap, ◌∙◌}
use Rattle.mn_base.specs.History.{store_after}
use Rattle.mn_base.specs.Store.{Store}
use Rattle.mn_serial.specs.History.{pasts_of}
use Rattle.mn_hist.specs.Acts.{done_from}
use Rattle.mn_hist.specs.History.{acts_in}
use Rattle.mn_hist.proofs.history.ending_of.Goals as goal

pub returns : goal.returns
returns c = λ from run.
    let start = c.args.start.now in
    let acts = c.deref.result.now in
    let told = c.in_ok-reader.ensures from start run in
    let done : done_from start (acts_in acts) ≡ pasts_of told.0 = ap (λ l. done_from start (acts_in l)) c.deref.ensures.value ∙ told.1.history in (
      told.0,
      record { told = told.1; after = c.in_ok-follow_all.ensures ∙ (ap (λ (s : Store). store_after s (done_from s (acts_in acts))) c.in_ok-store.ensures ∙ ap (store_after start) done); said = told.2 },
    )

use Rattle.std.proofs.Common.{◌∙◌, ap, rules}
use Rattle.std.proofs.lemmas.Fn.{filter_same}
use Rattle.mn_base.specs.Store.{pairs_within}
use Rattle.mn_scan.proofs.scan_run.within.Goals as goal

pub returns : goal.returns
returns c =
    filter_same _ _ _ (λ x b f' k. search rules) _ _ c.retain.ensures.filtered
    ∙ ap (λ ps. pairs_within ps c.args.low.now c.args.high.now) c.into_vec-found.ensures

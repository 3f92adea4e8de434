use Rattle.std.proofs.Common.{ap, ap₂, sym, ◌∙◌}
use Rattle.std.specs.Prelude.{max}
use Rattle.mn_mini.specs.Node.{greatest_run}
use Rattle.mn_top.proofs.Numbers.{greatest_more}
use Rattle.mn_top.proofs.open.last_run_of_all.Goals as goal

pub loop-list-preserved : goal.loop-list-preserved
loop-list-preserved c =
    c.max-greatest.ensures ∙ ap₂ max (c.last_run.ensures ∙ ap greatest_run c.as_slice.ensures) c.loop-list.invariant
    ∙ sym (greatest_more c.args.records.now c.list-item.result c.loop-list.list-index c.loop-list-test.true c.list-item.is)

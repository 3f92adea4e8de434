use Rattle.std.proofs.Common.{true, refl, ap, ◌∙◌}
use Rattle.std.proofs.Math.ListN.{length-set}
use Rattle.mn_mini.proofs.Named.{no_table, table_more}
use Rattle.mn_mini.proofs.minitransaction.named_by.Goals as goal

pub loop-item-init : goal.loop-item-init
loop-item-init c = (refl, no_table)

pub loop-item-preserved : goal.loop-item-preserved
loop-item-preserved c = (length-set c.loop-item.named c.from.result true ∙ c.loop-item.invariant.0, table_more c.args.items.now c.loop-item.item-index c.loop-item.named c.item-item.result c.from.result c.loop-item-test.true c.item-item.is (c.from.ensures ∙ ap (λ n. n.0) c.node.ensures) c.loop-item.invariant.1)

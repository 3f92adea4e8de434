use Rattle.std.proofs.Common.{arith, ◌∙◌}
use Rattle.mn_forest.proofs.Children.{so_many_children}
use Rattle.mn_forest.proofs.pages.child_count.Goals as goal

pub returns-else-height-eq0-clause-children : goal.returns-else-height-eq0-clause-children
returns-else-height-eq0-clause-children c = c.count.ensures ∙ (so_many_children c.args.page.now (omega (arith, c.if-height-eq0.false, c.height.ensures))).0

pub returns-else-height-eq0-clause-addrs : goal.returns-else-height-eq0-clause-addrs
returns-else-height-eq0-clause-addrs c = c.count.ensures ∙ (so_many_children c.args.page.now (omega (arith, c.if-height-eq0.false, c.height.ensures))).1

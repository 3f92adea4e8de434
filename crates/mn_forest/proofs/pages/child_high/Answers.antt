use Rattle.std.proofs.Common.{arith, ◌∙◌}
use Rattle.mn_forest.proofs.Children.{high_of_inner, high_of_last}
use Rattle.mn_forest.proofs.pages.child_high.Goals as goal

pub returns-then-i-count : goal.returns-then-i-count
returns-then-i-count c = λ child is. high_of_inner c.args.page.now c.args.i child c.key.result.now is c.key.ensures

pub returns-else-i-count : goal.returns-else-i-count
returns-else-i-count c = λ child is. c.high.ensures ∙ high_of_last c.args.page.now c.args.i child (omega (arith, c.if-i-count.false, c.count.ensures)) is

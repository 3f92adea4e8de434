use Rattle.std.proofs.Common.{◌≡◌, ◌-◌, ℕ, Some, subst, arith, slice_get, ◌∙◌}
use Rattle.mn_page.specs.Forest.{children_of}
use Rattle.mn_forest.proofs.Children.{low_of_first, low_of_next}
use Rattle.mn_forest.proofs.pages.child_low.Goals as goal

pub returns-then-i-eq0 : goal.returns-then-i-eq0
returns-then-i-eq0 c = λ child is. c.low.ensures ∙ low_of_first c.args.page.now child (subst (λ (k : ℕ). slice_get (children_of c.args.page.now) k ≡ Some child) c.if-i-eq0.true is)

pub returns-else-i-eq0 : goal.returns-else-i-eq0
returns-else-i-eq0 c = λ child is. low_of_next c.args.page.now c.args.i (c.args.i - 1) child c.key.result.now (omega arith) is c.key.ensures

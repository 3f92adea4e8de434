use Rattle.std.proofs.Common.{rules, subst, sym}
use Rattle.mn_fence.specs.Child.{IsChild}
use Rattle.mn_fence.proofs.Children.{child_is}
use Rattle.mn_fence.proofs.child_of.Goals as goal

pub returns-clause-count : goal.returns-clause-count
returns-clause-count c = search rules

pub returns-clause-child : goal.returns-clause-child
returns-clause-child c up = subst (IsChild c.args.separators.now c.args.key.now) (sym (returns-clause-count c)) (child_is c.args.separators.now c.args.key.now up)

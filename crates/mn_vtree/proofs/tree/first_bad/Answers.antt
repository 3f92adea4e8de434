use Rattle.std.proofs.Common.{None, sym, below_more}
use Rattle.mn_vtree.proofs.Parents.{less_here, first_bad_is, all_less}
use Rattle.mn_vtree.proofs.tree.first_bad.Goals as goal

pub loop-version-preserved : goal.loop-version-preserved
loop-version-preserved c = below_more _ _ c.loop-version.invariant (less_here c.args.parents.now c.loop-version.version None c.loop-version-test.true (sym c.if-not-is_less.ensures.test))

pub returns : goal.returns
returns c = all_less c.args.parents.now c.loop-version.version c.loop-version-test.false c.loop-version.invariant

pub returns-then-not-is_less : goal.returns-then-not-is_less
returns-then-not-is_less c = first_bad_is c.args.parents.now c.loop-version.version None c.loop-version-test.true (sym c.if-not-is_less.ensures.test) c.loop-version.invariant

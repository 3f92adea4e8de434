use Rattle.std.proofs.Common.{arith, sym, ◌∙◌, length}
use Rattle.std.proofs.lemmas.Bool.{ltb-false}
use Rattle.mn_vtree.proofs.Walks.{ancestor_past, walk_last, walk_next, walk_ends}
use Rattle.mn_vtree.proofs.tree.VersionTree.ancestor.Goals as goal

pub returns-then-not-has : goal.returns-then-not-has
returns-then-not-has c = sym (ancestor_past c.args.self.now c.args.a.0 c.args.v.0 (ltb-false c.args.v.0 (length c.args.self.now) (sym c.if-not-has.ensures.there)))

pub returns-in_default : goal.returns-in_default
returns-in_default c = sym (sym c.walk.invariant.same ∙ walk_last c.args.self.now c.args.a.0 c.walk.at c.in_default.ensures.less c.in_default.ensures.is c.walk-test.true)

pub walk-preserved : goal.walk-preserved
walk-preserved c =
    let lower = c.in-Some.ensures.less c.in-Some.parent.0 c.in-Some.ensures.is in
    record {
      there = omega (arith, lower, c.walk.invariant.there);
      same = sym (walk_next c.args.self.now c.args.a.0 c.walk.at c.in-Some.parent.0 c.in-Some.ensures.less c.in-Some.ensures.is c.walk-test.true) ∙ c.walk.invariant.same;
    }

pub returns : goal.returns
returns c = walk_ends c.args.self.now c.args.a.0 c.walk.at c.if-not-has.ensures.less c.walk.invariant.there c.walk-test.false ∙ c.walk.invariant.same

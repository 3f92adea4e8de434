use Rattle.std.proofs.Common.{arith, sym, ◌∙◌, ◌<◌, ◌^◌, length, get_or, None}
use Rattle.std.proofs.lemmas.Bool.{ltb-false}
use Rattle.std.proofs.lemmas.Option.{slice_get-get_or}
use Rattle.mn_vtree.proofs.Served.{served_first, served_copied, served_last, served_next, served_past}
use Rattle.mn_vtree.proofs.tree.VersionTree.serves.Goals as goal

pub returns-then-not-has : goal.returns-then-not-has
returns-then-not-has c = sym (served_past c.args.self.now c.args.made.0 c.args.copied c.args.v.0 (ltb-false c.args.v.0 (length c.args.self.now) (sym c.if-not-has.ensures.there)))

pub returns-in_default : goal.returns-in_default
returns-in_default c =
    let small : c.args.copied < 2 ^ 64 = omega arith in
    sym (served_last c.args.self.now c.args.made.0 c.args.copied c.walk.at small c.in_default.ensures.less c.in_default.ensures.is c.walk.meets_made (sym c.walk-test.ensures))
    ∙ (c.walk.invariant.same ∙ served_first c.args.self.now c.args.made.0 c.args.copied c.args.v.0)

pub walk-preserved : goal.walk-preserved
walk-preserved c =
    let small : c.args.copied < 2 ^ 64 = omega arith in
    let lower = c.in-Some.ensures.less c.in-Some.parent.0 c.in-Some.ensures.is in
    record {
      there = omega (arith, lower, c.walk.invariant.there);
      same = sym (served_next c.args.self.now c.args.made.0 c.args.copied c.walk.at c.in-Some.parent.0 small c.in-Some.ensures.less c.in-Some.ensures.is c.walk.meets_made (sym c.walk-test.ensures)) ∙ c.walk.invariant.same;
    }

pub returns : goal.returns
returns c =
    let small : c.args.copied < 2 ^ 64 = omega arith in
    let here = slice_get-get_or c.args.self.now c.walk.at None c.walk.invariant.there in
    sym (served_copied c.args.self.now c.args.made.0 c.args.copied c.walk.at (get_or c.args.self.now c.walk.at None) small (c.if-not-has.ensures.less c.walk.at) here c.walk.meets_made (sym c.walk-test.ensures))
    ∙ (c.walk.invariant.same ∙ served_first c.args.self.now c.args.made.0 c.args.copied c.args.v.0)

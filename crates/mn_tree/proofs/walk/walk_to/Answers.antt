use Rattle.std.proofs.Common.{◌∙◌}
use Rattle.mn_tree.specs.Walk.{helds}
use Rattle.mn_tree.proofs.Ways.{reaches, way_below}
use Rattle.mn_tree.proofs.walk.walk_to.Goals as goal

pub returns-in-Leaf-clause-walk : goal.returns-in-Leaf-clause-walk
returns-in-Leaf-clause-walk c =
    reaches c.args.tree.now c.args.version.0 c.args.root (helds c.args.pages.now.items) c.args.key.now c.loop-held.way c.loop-held.invariant.comes c.in-Leaf.held.now c.in-Leaf.ensures.0 c.in-Leaf.ensures.1

pub loop-held-preserved : goal.loop-held-preserved
loop-held-preserved c =
    let come = c.loop-held.invariant in
    let below = c.in_ok-pass-in-Inner.ensures in
    record {
      comes = way_below c.args.tree.now c.args.version.0 c.args.root (helds c.args.pages.now.items) c.args.key.now c.loop-held.way come.comes c.in-Inner.held.now c.in-Inner.ensures.0 c.pass.new.self below.passed (below.next c.args.key.now come.of_key);
      of_key = c.pass.ensures.key ∙ come.of_key;
    }

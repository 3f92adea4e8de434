use Rattle.mn_forest.proofs.Noting.{children_more}
use Rattle.mn_forest.proofs.pages.Names.note_children.Goals as goal

pub loop-i-preserved : goal.loop-i-preserved
loop-i-preserved c = λ entries are.
    children_more c.args.self.now c.loop-i.self c.note_child.new.self entries c.args.page.now c.loop-i.i c.child.result are.few (c.loop-i.invariant entries are) c.child.ensures (c.in_ok-note_child.ensures entries are)

use Rattle.mn_page.specs.Overlay.{held_at}
use Rattle.mn_tree.specs.Found.{path_at}
use Rattle.mn_tree.specs.Kept.{state_of}
use Rattle.mn_tree.specs.Walk.{helds}
use Rattle.mn_tree.proofs.Runs.{asks_nothing}
use Rattle.mn_tree.proofs.kept.Kept.step_on.Goals as goal

pub returns-in-Reached-clause-wanted : goal.returns-in-Reached-clause-wanted
returns-in-Reached-clause-wanted c =
    let pages = helds c.args.self.now.draft.pages.items in
    let way = c.walk_to.new.way in
    let ended = rw c.in-Reached.is at c.in_ok-walk_to.ensures.walk in
    asks_nothing (state_of c.args.tree.now c.args.version c.args.root c.run.new.self) c.args.step.now (path_at pages way) (held_at pages way.next) ended.0 ended.1 c.run.result c.run.ensures.answer

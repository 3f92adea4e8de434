use Rattle.std.proofs.Common.{◌++◌, ◌∷◌, [], List, sym, subst}
use Rattle.mn_io.specs.DiskModel.{LeavesOnly}
use Rattle.mn_redo.specs.Appender.{IsLogOf}
use Rattle.mn_redo.specs.Grammar.{Stands}
use Rattle.mn_redo.specs.Redo.{StandsFor}
use Rattle.mn_mini.specs.declared.record.Record.{Record}
use Rattle.mn_node.specs.Node.{bodies_of, on_disk}
use Rattle.mn_node.proofs.Fronts.{front_pushed}
use Rattle.mn_node.proofs.Moments.{only_same}
use Rattle.mn_node.proofs.Restarts.{pushed_list}
use Rattle.mn_node.proofs.restart.wake_with.Goals as goal

pub returns-in_err-copy-clause-moments : goal.returns-in_err-copy-clause-moments
returns-in_err-copy-clause-moments g c honest =
    let old = c.args.redo.now in
    only_same (g.D.Disk.state old.disk) (λ l. Stands old.node old.nodes l (bodies_of (on_disk c.args.memory.now ++ c.args.left.now ∷ []))) (g.D.Disk.is_disk old.disk honest) (c.requires.stands honest)

pub returns-in_err-push-clause-moments : goal.returns-in_err-push-clause-moments
returns-in_err-push-clause-moments g c honest =
    let old = c.args.redo.now in
    only_same (g.D.Disk.state old.disk) (λ l. Stands old.node old.nodes l (bodies_of (on_disk c.args.memory.now ++ c.args.left.now ∷ []))) (g.D.Disk.is_disk old.disk honest) (c.requires.stands honest)

pub wake-requires-clause-front : goal.wake-requires-clause-front
wake-requires-clause-front g c =
    let m = c.args.memory.now in
    front_pushed m.records.items c.push.new.self.items c.in_ok-copy.copy m.cut m.front c.requires.front c.in_ok-push.ensures.items

pub wake-requires-clause-log : goal.wake-requires-clause-log
wake-requires-clause-log g c =
    let same = pushed_list c.args.memory.now.cut c.args.memory.now.records.items c.push.new.self.items c.args.left.now c.in_ok-copy.copy c.requires.front.within c.in_ok-push.ensures.items c.in_ok-copy.ensures in
    subst (λ (l : List Record). IsLogOf g.D.Disk.state c.args.redo.now (bodies_of l)) (sym same) c.requires.log

pub wake-requires-clause-stands : goal.wake-requires-clause-stands
wake-requires-clause-stands g c =
    let old = c.args.redo.now in
    let same = pushed_list c.args.memory.now.cut c.args.memory.now.records.items c.push.new.self.items c.args.left.now c.in_ok-copy.copy c.requires.front.within c.in_ok-push.ensures.items c.in_ok-copy.ensures in
    subst (λ (l : List Record). (g.D.Disk.state old.disk).honest → StandsFor (g.D.Disk.state old.disk) old.node old.nodes (bodies_of l)) (sym same) c.requires.stands

pub returns-in-Ok-clause-stands : goal.returns-in-Ok-clause-stands
returns-in-Ok-clause-stands g c =
    let old = c.args.redo.now in
    let disk = g.D.Disk.state c.wake.new.redo.disk in
    let same = pushed_list c.args.memory.now.cut c.args.memory.now.records.items c.push.new.self.items c.args.left.now c.in_ok-copy.copy c.requires.front.within c.in_ok-push.ensures.items c.in_ok-copy.ensures in
    subst (λ (l : List Record). disk.honest → StandsFor disk old.node old.nodes (bodies_of l)) same c.wake.ensures.stands

pub returns-in-Err-clause-stands : goal.returns-in-Err-clause-stands
returns-in-Err-clause-stands g c =
    let old = c.args.redo.now in
    let disk = g.D.Disk.state c.wake.new.redo.disk in
    let same = pushed_list c.args.memory.now.cut c.args.memory.now.records.items c.push.new.self.items c.args.left.now c.in_ok-copy.copy c.requires.front.within c.in_ok-push.ensures.items c.in_ok-copy.ensures in
    subst (λ (l : List Record). disk.honest → StandsFor disk old.node old.nodes (bodies_of l)) same c.wake.ensures.stands

pub returns-in-Ok-clause-moments : goal.returns-in-Ok-clause-moments
returns-in-Ok-clause-moments g c honest =
    let old = c.args.redo.now in
    let same = pushed_list c.args.memory.now.cut c.args.memory.now.records.items c.push.new.self.items c.args.left.now c.in_ok-copy.copy c.requires.front.within c.in_ok-push.ensures.items c.in_ok-copy.ensures in
    subst (λ (l : List Record). LeavesOnly (g.D.Disk.state old.disk) (g.D.Disk.state c.wake.new.redo.disk) (λ content. Stands old.node old.nodes content (bodies_of l))) same (c.wake.ensures.moments honest)

pub returns-in-Err-clause-moments : goal.returns-in-Err-clause-moments
returns-in-Err-clause-moments g c honest =
    let old = c.args.redo.now in
    let same = pushed_list c.args.memory.now.cut c.args.memory.now.records.items c.push.new.self.items c.args.left.now c.in_ok-copy.copy c.requires.front.within c.in_ok-push.ensures.items c.in_ok-copy.ensures in
    subst (λ (l : List Record). LeavesOnly (g.D.Disk.state old.disk) (g.D.Disk.state c.wake.new.redo.disk) (λ content. Stands old.node old.nodes content (bodies_of l))) same (c.wake.ensures.moments honest)

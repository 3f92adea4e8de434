use Rattle.std.proofs.Common.{refl}
use Rattle.mn_tree.proofs.Ways.{follows_way}
use Rattle.mn_tree.proofs.way.Way.follow.Goals as goal

pub returns-clause-came : goal.returns-clause-came
returns-clause-came c = λ parents v root pages come met.
    let below = c.in_ok-pass.ensures in
    follows_way parents v root pages c.args.self.now c.pass.new.self c.args.held.now c.args.self.now.key refl c.pass.ensures.key below.passed below.next come met

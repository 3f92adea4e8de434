use Rattle.mn_callers.proofs.Sweeping.{desk_leaves}
use Rattle.mn_callers.proofs.desk.Desk.recover_id.Goals as goal

pub returns-clause-desk : goal.returns-clause-desk
returns-clause-desk g c = desk_leaves g.X.Transport.start c.recover.new.self c.leave.new.self c.leave.ensures c.recover.ensures.desk

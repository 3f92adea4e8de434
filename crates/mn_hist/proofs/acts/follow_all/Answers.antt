use Rattle.std.proofs.Common.{◌∙◌}
use Rattle.mn_hist.proofs.Joining.{left_more}
use Rattle.mn_hist.proofs.acts.follow_all.Goals as goal

pub loop-placed-preserved : goal.loop-placed-preserved
loop-placed-preserved c =
    left_more c.loop-placed.store c.follow.new.store c.args.acts.now c.loop-placed.placed-index c.placed-item.result c.loop-placed-test.true c.placed-item.is c.in_ok-follow.ensures ∙ c.loop-placed.invariant

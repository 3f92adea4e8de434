use Rattle.mn_gen.specs.Generated.{opening}
use Rattle.mn_gen.proofs.Loops.{next-map}
use Rattle.mn_gen.proofs.clients.push_openings.Goals as goal

pub loop-account-preserved : goal.loop-account-preserved
loop-account-preserved c =
    next-map (opening c.args.client) _ _ _ c.loop-account.account _ c.loop-account.invariant c.in_ok-push.ensures.items c.in_ok-opening.ensures

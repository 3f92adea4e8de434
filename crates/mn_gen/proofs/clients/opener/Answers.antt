use Rattle.mn_gen.specs.Generated.{openings}
use Rattle.mn_gen.proofs.Loops.{next-flat}
use Rattle.mn_gen.proofs.clients.opener.Goals as goal

pub loop-client-preserved : goal.loop-client-preserved
loop-client-preserved c = next-flat openings _ _ c.loop-client.client c.loop-client.invariant c.in_ok-push_openings.ensures

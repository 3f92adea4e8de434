use Rattle.std.proofs.Common.{sym}
use Rattle.mn_callers.proofs.Hands.{as_went, with_ready}
use Rattle.mn_cluster.proofs.wires.WiresTransport.put.Goals as goal

pub put_alone-requires-clause-turn : goal.put_alone-requires-clause-turn
put_alone-requires-clause-turn g c = with_ready _ c.requires.turn.ready.board_is c.requires.turn tt

pub returns-clause-turn : goal.returns-clause-turn
returns-clause-turn g c = with_ready _ (sym c.requires.turn.ready.board_is) c.put_alone.ensures.turn c.requires.turn.ready

pub returns-clause-goes_on : goal.returns-clause-goes_on
returns-clause-goes_on g c = as_went _ _ _ _ (λ own alone. tt) c.put_alone.ensures.goes_on

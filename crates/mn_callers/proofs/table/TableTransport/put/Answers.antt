use Rattle.mn_callers.proofs.Hands.{as_went}
use Rattle.mn_callers.proofs.Turns.{alone_stays}
use Rattle.mn_callers.proofs.table.TableTransport.put.Goals as goal

pub returns-clause-goes_on : goal.returns-clause-goes_on
returns-clause-goes_on g c = as_went _ _ _ _ (λ own alone. alone_stays c.args.list.now.client c.args.self.now.stations.items own alone) c.put_alone.ensures.goes_on

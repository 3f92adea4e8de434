use Rattle.mn_txn.proofs.Causes.{tries_show_causes}
use Rattle.mn_txn.proofs.tries.tries_show_causes.Goals as goal

pub returns : goal.returns
returns c = tries_show_causes c.tries_show_needs.ensures

use Rattle.mn_txn.proofs.Causes.{worn_pages_show}
use Rattle.mn_txn.proofs.tries.worn_pages_show.Goals as goal

pub returns : goal.returns
returns c = worn_pages_show c.tries_show_needs.ensures

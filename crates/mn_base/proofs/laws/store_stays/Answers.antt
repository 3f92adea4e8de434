use Rattle.mn_base.proofs.Stores.{store_stays}
use Rattle.mn_base.proofs.laws.store_stays.Goals as goal

pub returns : goal.returns
returns c = store_stays

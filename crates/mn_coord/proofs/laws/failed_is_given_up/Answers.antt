use Rattle.mn_coord.proofs.Endings as endings
use Rattle.mn_coord.proofs.laws.failed_is_given_up.Goals as goal

pub returns : goal.returns
returns c = endings.failed_is_given_up

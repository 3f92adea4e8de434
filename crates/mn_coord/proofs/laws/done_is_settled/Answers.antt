use Rattle.mn_coord.proofs.Endings as endings
use Rattle.mn_coord.proofs.laws.done_is_settled.Goals as goal

pub returns : goal.returns
returns c = endings.done_is_settled

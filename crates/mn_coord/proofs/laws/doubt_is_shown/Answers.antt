use Rattle.mn_coord.proofs.Endings as endings
use Rattle.mn_coord.proofs.laws.doubt_is_shown.Goals as goal

pub returns : goal.returns
returns c = endings.doubt_is_shown

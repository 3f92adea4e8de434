use Rattle.mn_page.proofs.Heights.{none_too_high}
use Rattle.mn_page.proofs.laws.none_too_high.Goals as goal

pub returns : goal.returns
returns c = none_too_high

use Rattle.mn_script.proofs.Refusals.{refusal_is_first as first}
use Rattle.mn_script.proofs.laws.refusal_is_first.Goals as goal

pub returns : goal.returns
returns c = first

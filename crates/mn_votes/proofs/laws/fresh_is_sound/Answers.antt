use Rattle.mn_votes.proofs.Start.{fresh_sound}
use Rattle.mn_votes.proofs.laws.fresh_is_sound.Goals as goal

pub returns : goal.returns
returns c = fresh_sound

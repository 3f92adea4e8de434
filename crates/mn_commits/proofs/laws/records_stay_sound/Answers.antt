use Rattle.mn_commits.proofs.Commits.Records.{records_stay_sound}
use Rattle.mn_commits.proofs.laws.records_stay_sound.Goals as goal

pub returns : goal.returns
returns c = records_stay_sound

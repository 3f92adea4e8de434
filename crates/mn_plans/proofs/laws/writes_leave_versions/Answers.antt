use Rattle.mn_plans.proofs.WrittenVersions.{writes_leave_versions}
use Rattle.mn_plans.proofs.laws.writes_leave_versions.Goals as goal

pub returns : goal.returns
returns c = writes_leave_versions

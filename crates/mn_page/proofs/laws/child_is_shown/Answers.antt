use Rattle.mn_page.proofs.AddedStore.{snapshot_is_shown, branch_is_shown}
use Rattle.mn_page.proofs.laws.child_is_shown.Goals as goal

pub returns-clause-snapshot : goal.returns-clause-snapshot
returns-clause-snapshot c = snapshot_is_shown

pub returns-clause-branch : goal.returns-clause-branch
returns-clause-branch c = branch_is_shown

use Rattle.std.proofs.Common.{rules}
use Rattle.mn_cluster.proofs.marks.count_plain.Goals as goal

pub returns : goal.returns
returns c = search rules

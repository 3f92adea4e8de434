use Rattle.mn_base.proofs.Zeros.{zeros_at_once}
use Rattle.mn_base.proofs.bytes.are_zeros.Goals as goal

pub returns : goal.returns
returns c = zeros_at_once c.args.bytes.now 4096 c.if-bytes-gt-BLOCK.false c.eq.result c.eq.ensures

use Rattle.mn_work.proofs.Values.{refuses_want}
use Rattle.mn_work.proofs.get.value_of.Goals as goal

pub want-requires : goal.want-requires
want-requires c = refuses_want c.args.bytes.now c.in-Err.error c.requires c.in-Err.ensures.refused

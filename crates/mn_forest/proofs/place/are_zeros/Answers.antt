use Rattle.mn_forest.proofs.Zeros.{decides}
use Rattle.mn_forest.proofs.place.are_zeros.Goals as goal

pub returns : goal.returns
returns c = decides c.args.bytes.now c.are_zeros.result c.are_zeros.ensures

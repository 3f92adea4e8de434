use Rattle.mn_flat.proofs.HeldParts.{free_seen}
use Rattle.mn_flat.proofs.held.is_free.Goals as goal

pub returns : goal.returns
returns c = free_seen c.args.held.now c.args.part.now c.clashes.result c.clashes.ensures

use Rattle.mn_work.proofs.Works.{bytes_fit}
use Rattle.mn_work.proofs.grammar.are_bytes.Goals as goal

pub returns : goal.returns
returns c = bytes_fit c.args.bytes.now c.type_inv.bytes

use Rattle.std.proofs.Common.{◌∙◌, ap}
use Rattle.mn_plain.specs.Table.{shown}
use Rattle.mn_plain.proofs.TableLemmas.{remove_shown}
use Rattle.mn_plain.proofs.table.remove.Goals as goal

pub returns : goal.returns
returns c = ap shown c.remove.ensures.entries ∙ remove_shown c.args.table.now.entries c.args.key.now c.len-len.ensures.ordered

use Rattle.std.proofs.Common.{◌∙◌, ap}
use Rattle.mn_plain.specs.Table.{shown}
use Rattle.mn_plain.proofs.TableLemmas.{set_shown, set_keeps}
use Rattle.mn_plain.proofs.table.set.Goals as goal

pub returns-in-Ok-clause-pairs : goal.returns-in-Ok-clause-pairs
returns-in-Ok-clause-pairs c = ap shown c.in-Ok.ensures.entries ∙ set_shown c.args.table.now.entries c.args.key c.args.value c.insert.ensures.was_ordered

pub returns-in-Ok-clause-places : goal.returns-in-Ok-clause-places
returns-in-Ok-clause-places c = set_keeps c.args.table.now c.insert.new.self c.args.key c.args.value c.in-Ok.ensures.updates

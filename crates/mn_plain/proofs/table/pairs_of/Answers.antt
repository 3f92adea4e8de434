use Rattle.std.proofs.Common.{◌∙◌, ap}
use Rattle.mn_base.specs.Store.{is_ascending}
use Rattle.mn_plain.specs.Table.{shown}
use Rattle.mn_plain.proofs.TableLemmas.{ascends, front_ascends}
use Rattle.mn_plain.proofs.table.pairs_of.Goals as goal

pub returns-clause-ascend : goal.returns-clause-ascend
returns-clause-ascend c =
    front_ascends c.loop-key.pairs.items (shown c.loop-key.key-iterator) (ap is_ascending c.loop-key.invariant ∙ ascends c.args.table.now.entries c.into_iter-key-iterator.ensures.into_iter_gives.5)

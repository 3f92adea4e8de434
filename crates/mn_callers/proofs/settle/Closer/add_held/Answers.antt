use Rattle.mn_callers.specs.Settled.{records_at}
use Rattle.mn_callers.proofs.Closing.{ids_held, ids_sound}
use Rattle.mn_callers.proofs.settle.Closer.add_held.Goals as goal

pub returns-in-Ok-clause-held : goal.returns-in-Ok-clause-held
returns-in-Ok-clause-held g c = ids_held c.args.tids.now.items c.add_ids.new.tids.items (records_at c.list_of.new.table.stations.items c.args.node) c.in_ok-doubts.doubts c.in_ok-doubts.ensures.listed c.in-Ok.ensures

pub returns-in-Ok-clause-ids : goal.returns-in-Ok-clause-ids
returns-in-Ok-clause-ids g c = ids_sound c.args.tids.now.items c.add_ids.new.tids.items c.in_ok-doubts.doubts c.requires.ids c.in_ok-doubts.ensures.ids c.in-Ok.ensures

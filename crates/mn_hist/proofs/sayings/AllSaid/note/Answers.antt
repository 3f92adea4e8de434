use Rattle.mn_hist.proofs.Said.{still_right}
use Rattle.mn_hist.proofs.sayings.AllSaid.note.Goals as goal

pub invariant_of-self : goal.invariant_of-self
invariant_of-self c = still_right c.self.inside.table c.keep.new.self c.args.client c.args.number c.args.one c.keep.result c.self.invariant c.requires c.keep.ensures.keeps c.keep.ensures.failed

use Rattle.mn_top.proofs.Promise.Holding.{meaning}
use Rattle.mn_top.proofs.laws.disks_hold_one_store.Goals as goal

pub returns : goal.returns
returns c = meaning c.short_is_like_whole.ensures.grammar c.shortened_stays_opened.ensures c.one_list.ensures c.holds_one.ensures

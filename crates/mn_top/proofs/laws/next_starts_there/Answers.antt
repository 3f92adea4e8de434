use Rattle.mn_top.proofs.Again.{starts_there}
use Rattle.mn_top.proofs.laws.next_starts_there.Goals as goal

pub returns : goal.returns
returns c = starts_there c.short_is_like_whole.ensures.grammar c.shortened_stays_opened.ensures c.one_list.ensures c.holds_one.ensures

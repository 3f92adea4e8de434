use Rattle.mn_law.proofs.Shows as shows
use Rattle.mn_law.proofs.laws.lists_show_places.Goals as goal

pub returns-clause-seen : goal.returns-clause-seen
returns-clause-seen c = shows.seen_is_shown

pub returns-clause-stays : goal.returns-clause-stays
returns-clause-stays c = shows.shown_stays

pub returns-clause-entries : goal.returns-clause-entries
returns-clause-entries c = shows.entries_are_shown

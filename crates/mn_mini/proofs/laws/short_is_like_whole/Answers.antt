use Rattle.mn_mini.proofs.ShortAlike.{short_is_alike, short_are_records, short_is_no_longer}
use Rattle.mn_mini.proofs.laws.short_is_like_whole.Goals as goal

pub returns-clause-alike : goal.returns-clause-alike
returns-clause-alike c = short_is_alike

pub returns-clause-grammar : goal.returns-clause-grammar
returns-clause-grammar c = short_are_records

pub returns-clause-count : goal.returns-clause-count
returns-clause-count c = short_is_no_longer

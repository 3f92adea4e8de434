use Rattle.mn_work.proofs.Cached.{none_used}
use Rattle.mn_work.proofs.Paths.{low_leaf}
use Rattle.mn_work.proofs.get.Descent.pass_kept.Goals as goal

pub returns-then-is_below_lowest-clause-cache : goal.returns-then-is_below_lowest-clause-cache
returns-then-is_below_lowest-clause-cache c = none_used c.args.known.now.cache

pub returns-then-is_below_lowest-clause-path : goal.returns-then-is_below_lowest-clause-path
returns-then-is_below_lowest-clause-path c = λ leaf leads.
    let at = low_leaf c.args.known.now c.args.key.now c.args.self.now leaf c.requires.pages (c.is_below_lowest.ensures.lowest c.if-is_below_lowest.true) leads in
    (at, at)

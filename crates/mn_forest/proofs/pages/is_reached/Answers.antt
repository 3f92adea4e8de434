use Rattle.mn_forest.proofs.Noting.{reach_tested}
use Rattle.mn_forest.proofs.pages.is_reached.Goals as goal

pub returns-in-Some : goal.returns-in-Some
returns-in-Some c = λ entries are noted.
    reach_tested c.args.spaces.now c.args.versions.now c.args.names.now entries c.args.addr c.in-Some.page c.is_reached_for_all.result are noted c.in-Some.ensures c.is_reached_for_all.ensures

pub returns-in-None : goal.returns-in-None
returns-in-None c = λ entries are noted p stands. absurd (c.in-None.ensures p stands)

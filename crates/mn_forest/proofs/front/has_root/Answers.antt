use Rattle.mn_forest.proofs.Fronts.{root_in, no_root}
use Rattle.mn_forest.proofs.front.has_root.Goals as goal

pub returns-in-Some : goal.returns-in-Some
returns-in-Some c = root_in c.args.spaces.now c.args.version c.args.entry.now c.in-Some.page c.root_fits.result c.in-Some.ensures c.root_fits.ensures

pub returns-in-None : goal.returns-in-None
returns-in-None c = no_root c.args.spaces.now c.args.version c.args.entry.now c.in-None.ensures

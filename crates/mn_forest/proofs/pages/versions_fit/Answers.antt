use Rattle.mn_forest.proofs.VersionSets.{versions_decided}
use Rattle.mn_forest.proofs.pages.versions_fit.Goals as goal

pub returns : goal.returns
returns c = λ entries are. versions_decided c.args.versions.now entries c.args.page.now c.made_fits.result are c.made_fits.ensures

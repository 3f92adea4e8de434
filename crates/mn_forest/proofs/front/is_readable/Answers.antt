use Rattle.std.proofs.Common.{◌≡◌, ◌<◌, length, arith, Option, Some, None, slice_get, ap, ◌∙◌}
use Rattle.mn_page.specs.declared.entry.CatEntry.{CatEntry}
use Rattle.mn_forest.specs.Rules.{entry_place}
use Rattle.mn_flat.proofs.Lists.{at_place}
use Rattle.mn_forest.proofs.Fronts.{unused_readable}
use Rattle.mn_forest.proofs.front.is_readable.Goals as goal

pub returns-in-None : goal.returns-in-None
returns-in-None c =
    let es = c.args.entries.now in
    let places = c.requires.says.places in
    let low : c.args.version < length es = omega arith in
    let at : slice_get es c.args.version ≡ Some None = at_place es c.args.version c.index-entries-version.result low c.index-entries-version.is ∙ ap (λ (o : Option CatEntry). Some o) c.in-None.is in
    unused_readable (entry_place c.args.spaces.now 0 c.args.version) c.is_unused.result (c.requires.says.each c.args.version None at) c.is_unused.ensures

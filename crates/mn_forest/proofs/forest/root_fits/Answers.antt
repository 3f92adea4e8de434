use Rattle.std.proofs.Common.{◌≡◌, Some, None, sym, ◌∙◌}
use Rattle.mn_forest.specs.Rules.{entry_of}
use Rattle.mn_flat.proofs.Lists.{read_or}
use Rattle.mn_forest.proofs.Fronts.{root_of_entry, root_of_none}
use Rattle.mn_forest.proofs.forest.root_fits.Goals as goal

pub returns-in-Some : goal.returns-in-Some
returns-in-Some c =
    let is : entry_of c.args.entries.now c.args.version ≡ Some c.in-Some.entry = sym (read_or c.args.entries.now c.args.version c.index-entries-version.result None c.requires.place c.index-entries-version.is) ∙ c.in-Some.is in
    root_of_entry c.args.spaces.now c.args.entries.now c.args.version c.in-Some.entry c.has_root.result is c.has_root.ensures

pub returns-in-None : goal.returns-in-None
returns-in-None c =
    let is : entry_of c.args.entries.now c.args.version ≡ None = sym (read_or c.args.entries.now c.args.version c.index-entries-version.result None c.requires.place c.index-entries-version.is) ∙ c.in-None.is in
    root_of_none c.args.spaces.now c.args.entries.now c.args.version is

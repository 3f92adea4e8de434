use Rattle.std.proofs.Common.{arith, ◌<◌, ◌^◌, sym, ◌∙◌}
use Rattle.std.proofs.lemmas.Bool.{le-ltb}
use Rattle.mn_vtree.proofs.Sets.{has_none_above}
use Rattle.mn_forest.proofs.pages.is_in.Goals as goal

pub returns-else-version-lt64 : goal.returns-else-version-lt64
returns-else-version-lt64 c =
    let small : c.args.copied < 2 ^ 64 = omega arith in
    le-ltb c.args.version 64 c.if-version-lt64.false ∙ sym (has_none_above c.args.copied c.args.version small c.if-version-lt64.false)

-- The values of a leaf are no longer than they may be.
use Rattle.std.proofs.Common.{◌∙◌, ap, sym}
use Rattle.std.specs.Option.{option_map}
use Rattle.mn_work.proofs.Values.{value_fits}
use Rattle.mn_work.proofs.get.reply_of.Goals as goal

pub value_of-requires : goal.value_of-requires
value_of-requires c =
    value_fits c.args.leaf.now c.args.key.now c.in-Some.bytes.now c.requires.page
    (sym c.value_in.ensures ∙ ap (option_map (λ v. v.now)) c.in-Some.is)

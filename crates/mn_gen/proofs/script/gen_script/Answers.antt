use Rattle.std.proofs.Common.{◌∙◌}
use Rattle.mn_gen.proofs.Grammar.{parts-are, parts-right}
use Rattle.mn_gen.proofs.script.gen_script.Goals as goal

pub of-requires : goal.of-requires
of-requires c =
    parts-right c.args.nodes c.args.number c.in_ok-clients.clients c.in_ok-points.points c.from_vec-schedule.result c.in_ok-clients.ensures c.in_ok-points.ensures
    (c.from_vec-schedule.ensures ∙ c.new.ensures.items) c.requires.0 c.requires.1

pub returns : goal.returns
returns c =
    c.of.ensures ∙ parts-are c.args.nodes c.args.number c.in_ok-clients.clients c.in_ok-points.points c.from_vec-schedule.result c.in_ok-clients.ensures c.in_ok-points.ensures
    (c.from_vec-schedule.ensures ∙ c.new.ensures.items)

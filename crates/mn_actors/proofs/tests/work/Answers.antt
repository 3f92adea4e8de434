use Rattle.std.proofs.Common.{rules, ◌∙◌, [], refl}
use Rattle.mn_actors.proofs.Turns.{may, long_node, long_client, keeps}
use Rattle.mn_actors.proofs.tests.work.Goals as goal

pub loop-i-init : goal.loop-i-init
loop-i-init c = (refl, ([], c.requires.node, refl), ([], c.requires.client, refl), λ a o. o)

pub append-requires-clause-may : goal.append-requires-clause-may
append-requires-clause-may c = may _ _ _ _ c.loop-i.invariant.1 c.loop-i.invariant.2 (search rules)

pub loop-i-preserved : goal.loop-i-preserved
loop-i-preserved c =
    let i = c.loop-i.invariant in
    let s = c.append.ensures in
    (s.board ∙ i.0, long_node _ _ _ _ _ _ s.view i.1, long_client _ _ _ _ _ _ s.view i.2, keeps c.args.pass.seat.me.0 _ _ _ _ _ _ s.view i.3)

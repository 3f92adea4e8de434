use Rattle.std.proofs.Common.{refl}
use Rattle.mn_mini.proofs.Outside.{outside_here, inside_here}
use Rattle.mn_mini.proofs.minitransaction.first_outside.Goals as goal

pub returns-then-not-is_sound-clause-found : goal.returns-then-not-is_sound-clause-found
returns-then-not-is_sound-clause-found c =
    outside_here c.args.nodes c.args.items.now c.loop-at.at c.index-items-at.result c.loop-at-test.true c.index-items-at.is (λ sound. (let yes = c.if-not-is_sound.ensures.1 sound in absurd cc)) c.loop-at.invariant.found

pub loop-at-preserved : goal.loop-at-preserved
loop-at-preserved c =
    inside_here c.args.nodes c.args.items.now c.loop-at.at c.index-items-at.result c.loop-at-test.true c.index-items-at.is (c.if-not-is_sound.ensures.0 refl) c.loop-at.invariant

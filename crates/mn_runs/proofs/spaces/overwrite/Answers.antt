use Rattle.std.proofs.Common.{◌∙◌}
use Rattle.mn_runs.proofs.Overwriting.{no_byte, one_more}
use Rattle.mn_runs.proofs.spaces.overwrite.Goals as goal

pub loop-i-init : goal.loop-i-init
loop-i-init c = no_byte c.args.space.now c.args.start

pub loop-i-preserved : goal.loop-i-preserved
loop-i-preserved c = c.put.ensures ∙ one_more c.args.space.now c.loop-i.space c.args.start c.args.bytes.now c.loop-i.i c.loop-i-test.true c.loop-i.invariant

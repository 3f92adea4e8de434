use Rattle.std.proofs.Common.{rules}
use Rattle.mn_script.proofs.Drafts.{line_kept}
use Rattle.mn_script.proofs.read.read_script.Goals as goal

pub loop-rest-preserved : goal.loop-rest-preserved
loop-rest-preserved c = record {
  said = search rules;
  right = line_kept c.loop-rest.draft c.line.new.self c.split_line.result.0.now c.loop-rest.invariant.right c.in-Ok.ensures;
  short = search rules;
}

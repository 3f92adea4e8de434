use Rattle.mn_hist.specs.Audit.{answer_line_at}
use Rattle.mn_hist.specs.Saying.{said_kept}
use Rattle.mn_hist.proofs.Lines.{line_more}
use Rattle.mn_hist.proofs.answers.push_answers.Goals as goal

pub loop-before-preserved : goal.loop-before-preserved
loop-before-preserved c =
    line_more (answer_line_at (said_kept c.args.said.now) c.args.number_of_client c.args.client.now) c.args.lines.now.items c.loop-before.lines.items c.push.new.self.items c.loop-before.before
    c.in_ok-answer_line_at.field-0 c.in_ok-answer_line_at.ensures c.in_ok-push.ensures.items c.loop-before.invariant

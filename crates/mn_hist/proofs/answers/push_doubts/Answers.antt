use Rattle.mn_hist.specs.Audit.{doubt_at}
use Rattle.mn_hist.specs.History.{stands}
use Rattle.mn_hist.specs.Saying.{said_kept}
use Rattle.mn_hist.proofs.Lines.{lines_more}
use Rattle.mn_hist.proofs.answers.push_doubts.Goals as goal

pub loop-before-preserved : goal.loop-before-preserved
loop-before-preserved c =
    lines_more (doubt_at (said_kept c.args.said.now) (stands c.args.committed.now) c.args.number_of_client c.args.client.now) c.args.lines.now.items c.loop-before.lines.items c.push_doubt.new.lines.items c.loop-before.before
    c.in_ok-push_doubt.ensures c.loop-before.invariant

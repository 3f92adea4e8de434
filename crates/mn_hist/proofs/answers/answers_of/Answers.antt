use Rattle.std.proofs.Common.{◌++◌, map, ap, ◌∙◌}
use Rattle.mn_base.specs.declared.ids.ClientNo.{ClientNo}
use Rattle.mn_hist.specs.Audit.{answer_line_at, op_numbers}
use Rattle.mn_hist.specs.Saying.{said_kept}
use Rattle.mn_hist.proofs.Lines.{answers_more, all_answers}
use Rattle.mn_hist.proofs.answers.answers_of.Goals as goal

pub loop-at-preserved : goal.loop-at-preserved
loop-at-preserved c =
    let said = said_kept c.args.said.now in
    let client = c.index-clients-at.result in
    let old = c.loop-at.lines.items in
    answers_more said c.args.clients.now c.loop-at.at client old c.push_answers.new.lines.items c.loop-at-test.true c.index-clients-at.is
    (c.in_ok-push_answers.ensures ∙ ap (λ (k : ClientNo). old ++ map (answer_line_at said k client) (op_numbers client)) c.in_ok-client_at.ensures) c.loop-at.invariant

pub returns : goal.returns
returns c =
    c.from_vec.ensures ∙ all_answers (said_kept c.args.said.now) c.args.clients.now c.loop-at.at c.loop-at.lines.items c.loop-at-test.false c.loop-at.invariant

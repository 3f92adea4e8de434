use Rattle.std.proofs.Common.{◌++◌, ap, ◌∙◌}
use Rattle.std.specs.Prelude.{flat_map}
use Rattle.mn_base.specs.declared.ids.ClientNo.{ClientNo}
use Rattle.mn_hist.specs.Audit.{doubt_at, op_numbers}
use Rattle.mn_hist.specs.History.{stands}
use Rattle.mn_hist.specs.Saying.{said_kept}
use Rattle.mn_hist.proofs.Lines.{doubts_more, all_doubts}
use Rattle.mn_hist.proofs.answers.doubts_of.Goals as goal

pub loop-at-preserved : goal.loop-at-preserved
loop-at-preserved c =
    let said = said_kept c.args.said.now in
    let committed = stands c.args.committed.now in
    let client = c.index-clients-at.result in
    let old = c.loop-at.lines.items in
    doubts_more said committed c.args.clients.now c.loop-at.at client old c.push_doubts.new.lines.items c.loop-at-test.true c.index-clients-at.is
    (c.in_ok-push_doubts.ensures ∙ ap (λ (k : ClientNo). old ++ flat_map (doubt_at said committed k client) (op_numbers client)) c.in_ok-client_at.ensures) c.loop-at.invariant

pub returns : goal.returns
returns c =
    c.from_vec.ensures
    ∙ all_doubts (said_kept c.args.said.now) (stands c.args.committed.now) c.args.clients.now c.loop-at.at c.loop-at.lines.items c.loop-at-test.false c.loop-at.invariant

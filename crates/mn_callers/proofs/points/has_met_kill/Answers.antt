use Rattle.std.proofs.Common.{Bool, ◌&&◌, false, ap, sym, ◌∙◌, slice_index_or}
use Rattle.mn_base.proofs.Booleans.{and_false}
use Rattle.mn_callers.specs.Points.{is_kill_of}
use Rattle.mn_callers.proofs.MetPoints.{none_more, unmet_more}
use Rattle.mn_callers.proofs.points.has_met_kill.Goals.{else-met-at-via-then-met-at+else-is_kill_of, else-met-at-via-else-met-at}
use Rattle.mn_callers.proofs.points.has_met_kill.Goals as goal

pub loop-at-preserved : goal.loop-at-preserved
loop-at-preserved c =
    let flag = slice_index_or c.args.met.now c.loop-at.at false in
    elim c.else-met-at.branch [
      | else-met-at-via-then-met-at+else-is_kill_of w ↦
          none_more (is_kill_of c.args.client) c.args.points.now c.args.met.now c.loop-at.at _ c.requires c.loop-at-test.true (ap (λ (b : Bool). flag && b) (sym w.is_kill_of.ensures ∙ w.if-is_kill_of.false) ∙ and_false flag) c.loop-at.invariant
      | else-met-at-via-else-met-at w ↦ unmet_more (is_kill_of c.args.client) c.args.points.now c.args.met.now c.loop-at.at c.requires c.loop-at-test.true w.if-met-at.false c.loop-at.invariant
    ]

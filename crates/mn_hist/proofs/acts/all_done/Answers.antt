use Rattle.std.proofs.Common.{◌∙◌}
use Rattle.mn_hist.proofs.Joining.{done_more, left_more}
use Rattle.mn_hist.proofs.acts.all_done.Goals as goal

pub loop-placed-preserved : goal.loop-placed-preserved
loop-placed-preserved c = record {
  history = done_more c.loop-placed.history.items c.push.new.self.items c.loop-placed.store c.done.new.store c.args.acts.now c.loop-placed.placed-index c.placed-item.result c.in_ok-done.field-0 c.loop-placed-test.true c.placed-item.is
      c.in_ok-done.ensures.past c.in_ok-done.ensures.store c.in_ok-push.ensures.items
      ∙ c.loop-placed.invariant.history;
  store = left_more c.loop-placed.store c.done.new.store c.args.acts.now c.loop-placed.placed-index c.placed-item.result c.loop-placed-test.true c.placed-item.is c.in_ok-done.ensures.store ∙ c.loop-placed.invariant.store;
}

use Rattle.mn_base.specs.Store.{StoreVersion}
use Rattle.mn_gen.specs.Summary.{sum_of}
use Rattle.mn_gen.proofs.Adding.{next-sum}
use Rattle.mn_gen.proofs.sums.sums_of.Goals as goal

pub loop-at-preserved : goal.loop-at-preserved
loop-at-preserved c =
    next-sum (λ (v : StoreVersion). sum_of v.pairs) c.args.store.now c.loop-at.at c.in_ok-version_sum.field-0 _ _ c.in_ok-version_sum.ensures c.loop-at.invariant c.in_ok-push.ensures.items

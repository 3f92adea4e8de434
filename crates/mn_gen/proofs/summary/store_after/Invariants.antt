use Rattle.std.proofs.Common.{◌≡◌, drop}
use Rattle.mn_base.specs.History.{store_after}
use Rattle.mn_gen.proofs.summary.store_after.Given as goal

abbrev pub invariant-loop-past : goal.invariant-loop-past
invariant-loop-past l = store_after l.store (drop l.past-index l.history) ≡ store_after l.start l.history

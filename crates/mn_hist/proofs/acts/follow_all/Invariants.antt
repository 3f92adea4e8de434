use Rattle.std.proofs.Common.{◌≡◌, drop}
use Rattle.mn_base.specs.History.{store_after}
use Rattle.mn_hist.specs.Acts.{done_from}
use Rattle.mn_hist.specs.History.{acts_in}
use Rattle.mn_hist.proofs.acts.follow_all.Given as goal

-- what is left to do leaves what all of it does
abbrev pub invariant-loop-placed : goal.invariant-loop-placed
invariant-loop-placed l = store_after l.store (done_from l.store (acts_in (drop l.placed-index l.acts))) ≡ store_after l.fn.store (done_from l.fn.store (acts_in l.acts))

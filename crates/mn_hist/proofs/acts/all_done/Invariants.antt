use Rattle.std.proofs.Common.{◌≡◌, ◌++◌, drop}
use Rattle.mn_base.specs.History.{store_after}
use Rattle.mn_hist.specs.Acts.{done_from}
use Rattle.mn_hist.specs.History.{acts_in}
use Rattle.mn_hist.proofs.acts.all_done.Given as goal

-- what was done so far, and the rest
abbrev pub invariant-loop-placed : goal.invariant-loop-placed
invariant-loop-placed l = record {
  history : l.history.items ++ done_from l.store (acts_in (drop l.placed-index l.acts)) ≡ done_from l.fn.store (acts_in l.acts);
  store : store_after l.store (done_from l.store (acts_in (drop l.placed-index l.acts))) ≡ store_after l.fn.store (done_from l.fn.store (acts_in l.acts));
}

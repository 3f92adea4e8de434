use Rattle.std.proofs.Common.{◌≡◌, ◌++◌, drop, map}
use Rattle.mn_hist.specs.Audit.{ranked_act}
use Rattle.mn_hist.specs.History.{acts_in}
use Rattle.mn_hist.proofs.auditing.ranks_of.Given as goal

-- the operations so far are told, and the rest
abbrev pub invariant-loop-placed : goal.invariant-loop-placed
invariant-loop-placed l = l.ranks.items ++ map (ranked_act l.clients) (acts_in (drop l.placed-index l.acts)) ≡ map (ranked_act l.clients) (acts_in l.acts)

use Rattle.std.proofs.Common.{◌≡◌, map, take}
use Rattle.mn_base.specs.Store.{listed}
use Rattle.mn_page.specs.Forest.{entry_head, heads_in}
use Rattle.mn_hist.proofs.shown.are_listed.Given as goal

-- so many are listed so
abbrev pub invariant-loop-at : goal.invariant-loop-at
invariant-loop-at l = take l.at l.versions ≡ map (λ e. listed (heads_in l.entries) (entry_head e)) (take l.at l.entries)

use Rattle.std.proofs.Common.{◌≡◌, ◌-◌, List, Option, map, vec_len}
use Rattle.mn_runs.specs.declared.entry.Entry.{Entry}
use Rattle.mn_runs.specs.Log.{log_of}
use Rattle.mn_hist.specs.Merging.{Hold, put_at}
use Rattle.mn_hist.proofs.merging.put.Given as goal

-- with empty slots at its end
abbrev pub invariant-loop-order : goal.invariant-loop-order
invariant-loop-order l = (filled : List (Option Entry)) → Hold 0 (log_of (map (λ list. list.items) l.lists) l.initial.order.items) filled
    → (padded : List (Option Entry)) × Hold 0 (log_of (map (λ list. list.items) l.lists) l.order.items) padded × ((e : Entry) → put_at l.at e padded ≡ put_at l.at e filled)

abbrev pub decreases-loop-order : goal.decreases-loop-order
decreases-loop-order l = l.at - vec_len l.order

use Rattle.std.proofs.Common.{◌≡◌, List, [], Option, map, drop}
use Rattle.mn_runs.specs.declared.entry.Entry.{Entry}
use Rattle.mn_runs.specs.Log.{log_of}
use Rattle.mn_hist.specs.Merging.{Hold, put_lists}
use Rattle.mn_hist.proofs.merging.put_all.Given as goal

-- the entries of the first lists stand in their slots
abbrev pub invariant-loop-list : goal.invariant-loop-list
invariant-loop-list l =
    (now : List (Option Entry)) × Hold 0 (log_of (map (λ list. list.items) l.lists) l.order.items) now
    × (put_lists (drop l.list (map (λ list. list.items) l.lists)) now ≡ put_lists (map (λ list. list.items) l.lists) [])

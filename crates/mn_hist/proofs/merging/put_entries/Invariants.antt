use Rattle.std.proofs.Common.{◌≡◌, List, [], Option, map, drop, get_or}
use Rattle.mn_runs.specs.declared.entry.Entry.{Entry}
use Rattle.mn_runs.specs.Log.{log_of}
use Rattle.mn_hist.specs.Merging.{Hold, put_list}
use Rattle.mn_hist.proofs.merging.put_entries.Given as goal

-- the first ones stand in their slots
abbrev pub invariant-loop-index : goal.invariant-loop-index
invariant-loop-index l = (filled : List (Option Entry)) → Hold 0 (log_of (map (λ list. list.items) l.lists) l.initial.order.items) filled
    → (now : List (Option Entry)) × Hold 0 (log_of (map (λ list. list.items) l.lists) l.order.items) now
    × (put_list (drop l.index (get_or (map (λ list. list.items) l.lists) l.list [])) now ≡ put_list (get_or (map (λ list. list.items) l.lists) l.list []) filled)

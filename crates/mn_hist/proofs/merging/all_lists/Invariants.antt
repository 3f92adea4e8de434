use Rattle.std.proofs.Common.{◌≡◌, ◌++◌, map}
use Rattle.std.specs.Vec.Iter.{into_iter_items}
use Rattle.mn_hist.proofs.merging.all_lists.Given as goal

-- the lists so far, and the rest
abbrev pub invariant-loop-list : goal.invariant-loop-list
invariant-loop-list l = record {
  can : (goal.iterator-loop-list).can_next l.list-iterator;
  finite : (goal.iterator-loop-list).is_finite l.list-iterator;
  lists : map (λ list. list.items) l.all.items ++ map (λ list. list.entries) (into_iter_items l.list-iterator) ≡ map (λ list. list.entries) l.fn.lists;
}

use Rattle.std.proofs.Common.{◌≡◌, ◌≤◌, ◌+◌, ◌++◌, length, map, vec_capacity, vec_len}
use Rattle.std.specs.Vec.Iter.{into_iter_items}
use Rattle.mn_callers.proofs.ending.take_desks.Given as goal

abbrev pub invariant-loop-desk : goal.invariant-loop-desk
invariant-loop-desk l = record {
  can : (goal.iterator-loop-desk).can_next l.desk-iterator;
  finite : (goal.iterator-loop-desk).is_finite l.desk-iterator;
  done : l.lists.items ++ map (λ k. k.list) (into_iter_items l.desk-iterator) ≡ l.fn.lists.items ++ map (λ k. k.list) l.fn.desks.items;
  room : vec_len l.lists + length (into_iter_items l.desk-iterator) ≤ vec_capacity l.lists;
  same : vec_capacity l.lists ≡ vec_capacity l.fn.lists;
}

use Rattle.std.proofs.Common.{◌≡◌, ◌≤◌, ◌+◌, ◌++◌, length, map, vec_capacity, vec_len}
use Rattle.std.specs.Vec.Iter.{into_iter_items}
use Rattle.mn_callers.proofs.ending.take_clients.Given as goal

abbrev pub invariant-loop-client : goal.invariant-loop-client
invariant-loop-client l = record {
  can : (goal.iterator-loop-client).can_next l.client-iterator;
  finite : (goal.iterator-loop-client).is_finite l.client-iterator;
  done : l.lists.items ++ map (λ k. k.list) (into_iter_items l.client-iterator) ≡ l.fn.lists.items ++ map (λ k. k.list) l.fn.clients.items;
  room : vec_len l.lists + length (into_iter_items l.client-iterator) ≤ vec_capacity l.lists;
  same : vec_capacity l.lists ≡ vec_capacity l.fn.lists;
}

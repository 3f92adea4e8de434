use Rattle.std.proofs.Common.{◌≡◌, ◌≤◌, ◌-◌, ◌++◌, [], map, replicate, vec_capacity, vec_len}
use Rattle.mn_callers.proofs.ending.fill.Given as goal

abbrev pub invariant-loop-number : goal.invariant-loop-number
invariant-loop-number l = record {
  count : vec_len l.lists ≡ l.number;
  above : vec_len l.fn.lists ≤ l.number;
  done : map (λ k. k.entries) l.lists.items ≡ map (λ k. k.entries) l.fn.lists.items ++ replicate (l.number - vec_len l.fn.lists) [];
  same : vec_capacity l.lists ≡ vec_capacity l.fn.lists;
}

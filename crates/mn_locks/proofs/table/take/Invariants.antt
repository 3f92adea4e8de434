use Rattle.std.proofs.Common.{◌≡◌, ◌≤◌, ◌+◌, ◌++◌, drop, length, map, vec_len, vec_capacity}
use Rattle.mn_locks.specs.Locks.{hold_of}
use Rattle.mn_locks.proofs.table.take.Given as goal

abbrev pub invariant-loop-range : goal.invariant-loop-range
invariant-loop-range l = record {
  taken : l.holds.items ++ map (hold_of l.tid l.alone) (drop l.range-index l.ranges) ≡ l.initial.holds.items ++ map (hold_of l.tid l.alone) l.ranges;
  room : vec_len l.holds + length (drop l.range-index l.ranges) ≤ vec_capacity l.holds;
  capacity : vec_capacity l.initial.holds ≤ vec_capacity l.holds;
}

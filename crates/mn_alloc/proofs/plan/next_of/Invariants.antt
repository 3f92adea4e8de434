use Rattle.std.proofs.Common.{ℕ, ◌<◌, ◌≤◌, length, get_or}
use Rattle.mn_alloc.proofs.plan.next_of.Given as goal

abbrev pub invariant-loop-other : goal.invariant-loop-other
invariant-loop-other l = record {
  there : l.node < length l.counts;
  least : (k : ℕ) → k < l.other → get_or l.counts l.node 0 ≤ get_or l.counts k 0;
  first : (k : ℕ) → k < l.node → get_or l.counts l.node 0 < get_or l.counts k 0;
}

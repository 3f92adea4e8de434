use Rattle.std.proofs.Common.{◌≡◌}
use Rattle.mn_gen.specs.Work.{worked}
use Rattle.mn_gen.proofs.work.work.Given as goal

abbrev pub invariant-loop-done : goal.invariant-loop-done
invariant-loop-done l = record {
  ops : l.ops.items ≡ (worked l.client l.fn.state l.done).ops;
  books : l.books ≡ (worked l.client l.fn.state l.done).books;
}

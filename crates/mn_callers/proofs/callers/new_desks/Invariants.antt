use Rattle.std.proofs.Common.{◌≡◌, vec_len}
use Rattle.mn_callers.specs.Begins.{AreNewDesks}
use Rattle.mn_callers.proofs.callers.new_desks.Given as goal

abbrev pub invariant-loop-at : goal.invariant-loop-at
invariant-loop-at l = record {
  count : vec_len l.desks ≡ l.at;
  new : AreNewDesks l.desks.items;
}

use Rattle.std.proofs.Common.{◌≤◌, length, drop}
use Rattle.std.specs.List.{AllByRecursion}
use Rattle.mn_hist.specs.History.{Noting}
use Rattle.mn_hist.specs.Shown.{IsUnshownBy}
use Rattle.mn_hist.proofs.callers.last_shown.Given as goal

-- none of the later reads shows the reply
abbrev pub invariant-loop-left : goal.invariant-loop-left
invariant-loop-left l = record {
  within : l.left ≤ length l.notes;
  none : AllByRecursion (λ (n : Noting). AllByRecursion (λ s. IsUnshownBy n.catalog s l.op l.reply) n.seens) (drop l.left l.notes);
}

abbrev pub decreases-loop-left : goal.decreases-loop-left
decreases-loop-left l = l.left

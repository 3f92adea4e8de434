use Rattle.std.proofs.Common.{◌≡◌, ◌++◌}
use Rattle.std.specs.Prelude.{flat_map}
use Rattle.std.specs.List.{range_with_len}
use Rattle.mn_hist.specs.Audit.{doubt_at}
use Rattle.mn_hist.specs.History.{stands}
use Rattle.mn_hist.specs.Saying.{said_kept}
use Rattle.mn_hist.proofs.answers.push_doubts.Given as goal

-- the lines of the operations so far are added
abbrev pub invariant-loop-before : goal.invariant-loop-before
invariant-loop-before l = l.lines.items ≡ l.fn.lines.items ++ flat_map (doubt_at (said_kept l.said) (stands l.committed) l.number_of_client l.client) (range_with_len 1 l.before)

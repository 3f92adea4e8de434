use Rattle.std.proofs.Common.{List, None}
use Rattle.mn_base.specs.declared.op.Op.{Op}
use Rattle.mn_runs.specs.Seen.{Seen}
use Rattle.mn_work.specs.Among.{AreBrought, WalksAmong}
use Rattle.mn_work.specs.Walks.{IsAbove}
use Rattle.mn_work.proofs.causes.fault_among.Given as goal

-- the key leads from the root to where the walk has come
abbrev pub invariant-loop-level : goal.invariant-loop-level
invariant-loop-level l =
    IsAbove l.above
    × ((seens : List Seen) (op : Op) → WalksAmong seens op l.fn.kept l.fn.version l.fn.key l.fn.root None
    → AreBrought seens l.fn.pages → WalksAmong seens op l.fn.kept l.fn.version l.fn.key l.addr l.above)

use Rattle.std.proofs.Common.{◌≡◌, ◌+◌, drop, take, []}
use Rattle.mn_base.specs.Store.{ran_from}
use Rattle.mn_plain.specs.Run.{pairs_after}
use Rattle.mn_plain.specs.Table.{shown}
use Rattle.mn_plain.proofs.steps.reply_to.Given as goal

-- the steps so far, and the rest
abbrev pub invariant-loop-at : goal.invariant-loop-at
invariant-loop-at l = ran_from (shown l.table.entries) (l.at + 1) (pairs_after (shown l.table.entries) (take l.at l.steps)) l.values.items (drop l.at l.steps) ≡ ran_from (shown l.table.entries) 1 (shown l.table.entries) [] l.steps

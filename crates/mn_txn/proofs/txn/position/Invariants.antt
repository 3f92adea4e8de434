use Rattle.std.proofs.Common.{◌≡◌, ◌+◌, drop}
use Rattle.std.specs.List.{position_or_len}
use Rattle.mn_txn.specs.State.{is_at}
use Rattle.mn_txn.proofs.txn.position.Given as goal

-- none of those before stands there
abbrev pub invariant-loop-at : goal.invariant-loop-at
invariant-loop-at l = l.at + position_or_len (is_at l.node l.start) (drop l.at l.images) ≡ position_or_len (is_at l.node l.start) l.images

use Rattle.std.proofs.Common.{◌≡◌, take}
use Rattle.std.specs.List.{list_any}
use Rattle.mn_mini.specs.Node.{with_held}
use Rattle.mn_flat.specs.Known.{parts_seen, says_committed}
use Rattle.mn_flat.proofs.flat.write_committed.Given as goal

-- the held parts so far are in place
abbrev pub invariant-loop-h : goal.invariant-loop-h
invariant-loop-h l = l.space ≡ with_held (λ tid. list_any (says_committed l.told.nodes.items tid) l.told.nodes.items) l.initial.space (parts_seen (take l.h-index l.held))

use Rattle.std.proofs.Common.{◌≡◌, take}
use Rattle.mn_base.specs.Ids.{tid_same}
use Rattle.mn_mini.specs.Node.{with_held}
use Rattle.mn_flat.specs.Known.{parts_seen}
use Rattle.mn_flat.proofs.flat.write_all_of.Given as goal

-- the held parts so far are in place
abbrev pub invariant-loop-h : goal.invariant-loop-h
invariant-loop-h l = l.space ≡ with_held (λ t. tid_same t l.tid) l.initial.space (parts_seen (take l.h-index l.held))

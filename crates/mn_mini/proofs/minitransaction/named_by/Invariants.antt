use Rattle.std.proofs.Common.{◌≡◌, length, take}
use Rattle.mn_mini.proofs.Named.{IsTable}
use Rattle.mn_mini.proofs.minitransaction.named_by.Given as goal

-- the table of the items so far
abbrev pub invariant-loop-item : goal.invariant-loop-item
invariant-loop-item l = (length l.named ≡ 256) × IsTable (take l.item-index l.items) l.named

use Rattle.std.proofs.Common.{◌≡◌, drop}
use Rattle.std.specs.List.{list_any}
use Rattle.mn_base.specs.Ids.{addr_same}
use Rattle.mn_tree.proofs.addrs.Addrs.contains.Given as goal

-- it is none of those so far
abbrev pub invariant-loop-other : goal.invariant-loop-other
invariant-loop-other l = list_any (λ a. addr_same a l.addr) (drop l.other-index l.self.items) ≡ list_any (λ a. addr_same a l.addr) l.self.items

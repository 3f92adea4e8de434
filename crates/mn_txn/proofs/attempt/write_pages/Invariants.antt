use Rattle.std.proofs.Common.{◌≡◌, drop, map}
use Rattle.mn_txn.specs.Attempt.{page_image}
use Rattle.mn_txn.specs.ChildPlan.{with_writes}
use Rattle.mn_txn.proofs.attempt.write_pages.Given as goal

-- what is left is still to come
abbrev pub invariant-loop-addr : goal.invariant-loop-addr
invariant-loop-addr l =
    with_writes l.initial.txn (map (λ h. page_image h.0 h.1) l.pages)
    ≡ with_writes l.txn (map (λ h. page_image h.0 h.1) (drop l.addr-index l.pages))

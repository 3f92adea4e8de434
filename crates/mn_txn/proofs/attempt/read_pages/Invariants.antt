use Rattle.std.proofs.Common.{◌≡◌, drop}
use Rattle.mn_txn.specs.AttemptPlan.{pages_read, with_reads}
use Rattle.mn_txn.proofs.attempt.read_pages.Given as goal

-- what is left is still to come
abbrev pub invariant-loop-addr : goal.invariant-loop-addr
invariant-loop-addr l =
    with_reads l.initial.txn (pages_read l.leaves l.pages l.addrs)
    ≡ with_reads l.txn (pages_read l.leaves l.pages (drop l.addr-index l.addrs))

use Rattle.std.proofs.Common.{◌≡◌, drop}
use Rattle.mn_txn.specs.Seen.{seen_at}
use Rattle.mn_txn.proofs.seen.page_at.Given as goal

-- it stands nowhere so far
abbrev pub invariant-loop-page : goal.invariant-loop-page
invariant-loop-page l = seen_at (drop l.page-index l.pages) l.addr ≡ seen_at l.pages l.addr

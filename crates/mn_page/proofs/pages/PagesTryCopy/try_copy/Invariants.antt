use Rattle.std.proofs.Common.{◌≡◌, take}
use Rattle.mn_page.proofs.pages.PagesTryCopy.try_copy.Given as goal

-- the copies so far
abbrev pub invariant-loop-addr : goal.invariant-loop-addr
invariant-loop-addr l = l.pages.items ≡ take l.addr-index l.addr-items

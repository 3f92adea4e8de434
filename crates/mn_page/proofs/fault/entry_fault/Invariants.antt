use Rattle.std.proofs.Common.{◌≡◌, ◌+◌, ◌≤◌, ◌<◌, false, drop, length}
use Rattle.mn_page.proofs.EntryFronts.{place}
use Rattle.mn_page.proofs.fault.entry_fault.Given as goal

-- the bytes so far go on, and the rest is judged by what was seen of them
abbrev pub invariant-loop-at : goal.invariant-loop-at
invariant-loop-at l = record {
  rest : place 0 false 0 l.bytes ≡ l.at + place l.at l.some l.count (drop l.at l.bytes);
  within : l.at ≤ length l.bytes;
  small : l.count < 256;
}

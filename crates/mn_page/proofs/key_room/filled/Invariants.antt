use Rattle.std.proofs.Common.{◌≡◌, ◌≤◌, ◌-◌, ◌++◌, length, replicate}
use Rattle.mn_page.proofs.key_room.filled.Given as goal

abbrev pub invariant-loop : goal.invariant-loop
invariant-loop l = record {
  items : l.key.items ≡ l.bytes ++ replicate (l.counter - length l.bytes) 0;
  none : l.size ≤ length l.bytes → l.counter ≡ length l.bytes;
}

use Rattle.std.proofs.Common.{◌≡◌, ◌≤◌, ◌+◌, length}
use Rattle.mn_page.specs.KeyRoom.{raised}
use Rattle.mn_page.proofs.key_room.raised.Given as goal

-- the bytes that were taken off are 255
abbrev pub invariant-loop : goal.invariant-loop
invariant-loop l = record { same : raised l.raised.items ≡ raised l.fn.key.items; left : length l.raised.items + l.counter ≤ 32 }

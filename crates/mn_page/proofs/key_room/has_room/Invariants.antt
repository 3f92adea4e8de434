use Rattle.std.proofs.Common.{◌-◌}
use Rattle.std.specs.Prelude.{option_map}
use Rattle.mn_page.specs.KeyRoom.{HasRoomForKeys}
use Rattle.mn_page.proofs.key_room.has_room.Given as goal

-- the last key has room for those that are left just where the first one has room for all
abbrev pub invariant-loop : goal.invariant-loop
invariant-loop l = record {
  into : HasRoomForKeys l.key l.more (option_map (λ h. h.now) l.high) → HasRoomForKeys l.last.items (l.more - l.counter) (option_map (λ h. h.now) l.high);
  back : HasRoomForKeys l.last.items (l.more - l.counter) (option_map (λ h. h.now) l.high) → HasRoomForKeys l.key l.more (option_map (λ h. h.now) l.high);
}

use Rattle.std.proofs.Common.{◌≡◌, ℕ, List, sym, subst}
use Rattle.std.specs.Prelude.{option_map}
use Rattle.mn_page.specs.KeyRoom.{HasRoomForKeys}
use Rattle.mn_page.proofs.KeyRoom.{least_leaves}
use Rattle.mn_page.proofs.key_room.leaves_room.Goals as goal

pub returns-in-Some : goal.returns-in-Some
returns-in-Some c = λ low size front.
    let room = c.args.room.now in
    let high = option_map (λ h. h.now) room.high in
    let least = c.in-Some.ensures low size front in
    let same : c.as_slice.result.now ≡ c.in-Some.key.items = c.as_slice.ensures.value in
    let has = c.has_room.ensures c.as_slice.ensures.fits in (
      λ yes. (c.in-Some.key.items, least.is, subst (λ (l : List ℕ). HasRoomForKeys l room.more high) same (has.0 yes)),
      λ some. has.1 (subst (λ (l : List ℕ). HasRoomForKeys l room.more high) (sym same) (least_leaves room.least.now c.args.front.now c.args.size room.more high c.in-Some.key.items least some)),
    )

use Rattle.std.proofs.Common.{◌≡◌, ◌+◌, ◌-◌, suc, ℕ, List, subst, arith}
use Rattle.std.specs.Prelude.{option_map}
use Rattle.mn_page.specs.KeyRoom.{IsNext, IsLast}
use Rattle.mn_page.proofs.KeyRoom.{no_room, room_into, room_back}
use Rattle.mn_page.proofs.key_room.has_room.Goals as goal

pub returns-in-None : goal.returns-in-None
returns-in-None c = λ fits.
    let last = c.loop.last.items in
    let same : c.as_slice.result.now ≡ last = c.as_slice.ensures.value in
    let none : IsLast last = subst IsLast same (c.in-None.ensures c.as_slice.ensures.fits) in
    (λ e. absurd cc, λ room. absurd (no_room (c.args.more - c.loop.counter) (option_map (λ h. h.now) c.args.high) last (omega arith) none (c.loop.invariant.into room)))

pub loop-preserved : goal.loop-preserved
loop-preserved c =
    let last = c.loop.last.items in
    let high = option_map (λ h. h.now) c.args.high in
    let same : c.as_slice.result.now ≡ last = c.as_slice.ensures.value in
    let is : IsNext last c.in-Some.next.items = subst (λ (l : List ℕ). IsNext l c.in-Some.next.items) same (c.in-Some.ensures c.as_slice.ensures.fits) in
    let one : c.args.more - c.loop.counter ≡ suc (c.args.more - (c.loop.counter + 1)) = omega arith in
    record {
      into = λ room. room_into (c.args.more - c.loop.counter) (c.args.more - (c.loop.counter + 1)) high last c.in-Some.next.items one is (c.loop.invariant.into room);
      back = λ room. c.loop.invariant.back (room_back (c.args.more - c.loop.counter) (c.args.more - (c.loop.counter + 1)) high last c.in-Some.next.items one is room);
    }

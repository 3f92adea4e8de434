use Rattle.std.proofs.Common.{◌≢◌, length, arith, ap, subst}
use Rattle.mn_redo.specs.declared.redo.Phase.TheVariants.{Closing}
use Rattle.mn_redo.proofs.Copied.{copied_still}
use Rattle.mn_redo.proofs.redo.Redo.reserve.Goals as goal

pub overflow_add-bytes : goal.overflow_add-bytes
overflow_add-bytes g c = omega (arith, c.in_ok-reserve.ensures.few)

pub invariant_of-self-in_err-make_room-2 : goal.invariant_of-self-in_err-make_room-2
invariant_of-self-in_err-make_room-2 g c going =
    let r = c.self.inside in
    let copied = c.self.invariant (subst (λ p. p ≢ Closing) c.reserve.ensures.phase going) in
    copied_still g.D.Disk.state r.appender c.reserve.new.self r.bytes.items r.gates.items _ _ _ _ _ _ _ _ _ _ copied c.reserve.ensures.log c.make_room-2.ensures.items c.make_room.ensures.items
    (omega (arith, copied.spare, c.reserve.ensures.no_fewer)) (omega (arith, copied.spare_too, c.reserve.ensures.no_less)) (omega (arith, copied.gates_fit, c.make_room.ensures.no_less)) (omega (arith, copied.bytes_fit, c.make_room-2.ensures.no_less))

pub invariant_of-self-2 : goal.invariant_of-self-2
invariant_of-self-2 g c going =
    let r = c.self.inside in
    let copied = c.self.invariant (subst (λ p. p ≢ Closing) c.reserve.ensures.phase going) in
    copied_still g.D.Disk.state r.appender c.reserve.new.self r.bytes.items r.gates.items _ _ _ _ _ _ _ _ _ _ copied c.reserve.ensures.log c.make_room-2.ensures.items c.make_room.ensures.items
    c.in_ok-reserve.ensures.spare_bodies c.in_ok-reserve.ensures.spare_bytes (omega (arith, c.in_ok-make_room.ensures.room, c.make_room.new.list.ok.0, ap length c.make_room.ensures.items)) (omega (arith, c.in_ok-make_room-2.ensures.room, c.make_room-2.new.list.ok.0, ap length c.make_room-2.ensures.items))

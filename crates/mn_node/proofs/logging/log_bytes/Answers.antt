use Rattle.std.proofs.Common.{◌++◌, ◌∷◌, [], ℕ, List, Some, inl, refl, ap, arith, length, subst, sym, ◌∙◌}
use Rattle.mn_mini.specs.declared.record.Record.{Record}
use Rattle.mn_node.specs.Node.{HasRoomForRecord, IsLogFor, bodies_of, listed, on_disk}
use Rattle.mn_node.proofs.Moments.{logging_moments}
use Rattle.mn_node.proofs.Puts.{rest_moments}
use Rattle.mn_node.proofs.Steps.{keeps_then, on_ok, one_body_more, stops_here, stops_earlier}
use Rattle.mn_node.proofs.logging.log_bytes.Goals as goal

pub returns-then-not-append_or_stop-clause-leaves : goal.returns-then-not-append_or_stop-clause-leaves
returns-then-not-append_or_stop-clause-leaves g c = λ r spelled.
    let old = c.args.redo.now in
    let mid = c.make_room.new.redo in
    let m = c.args.memory.now in
    let memory = c.make_room.new.memory in
    let new = c.append_or_stop.new.redo in
    let here = stops_here g.D.Disk.state g.D.Disk.faults mid new (on_disk memory) r c.args.body.now c.args.stop spelled (c.append_or_stop.ensures.images _ c.make_room.ensures.up.log) (c.append_or_stop.ensures.stopped c.if-not-append_or_stop.true _ c.make_room.ensures.up.log) in
    let since = stops_earlier g.D.Disk.state g.D.Disk.faults old mid new.disk (on_disk memory) (listed memory.cut m.records.items) r c.args.stop c.make_room.ensures.continues (g.D.Disk.is_disk old.disk) c.make_room.ensures.rests
    (ap (λ (l : List Record). listed memory.cut l) c.make_room.ensures.records) here in (
      c.make_room.ensures.records,
      record { between = old.disk; shortened = inl (refl, c.make_room.ensures.cut); stopped = since },
      c.make_room.ensures.up.front,
    )

pub returns-then-is_err-clause-moments : goal.returns-then-is_err-clause-moments
returns-then-is_err-clause-moments g c = λ r spelled.
    rest_moments g.D.Disk.state c.args.redo.now c.make_room.new.redo.disk c.args.memory.now (Some r) (g.D.Disk.is_disk c.args.redo.now.disk) c.requires.up c.make_room.ensures.rests

pub returns-then-not-append_or_stop-clause-moments : goal.returns-then-not-append_or_stop-clause-moments
returns-then-not-append_or_stop-clause-moments g c = λ r spelled.
    let old = c.args.redo.now in
    logging_moments g.D.Disk.state g.D.Disk.faults old c.make_room.new.redo c.append_or_stop.new.redo.disk c.args.memory.now c.make_room.new.memory r c.args.body.now (g.D.Disk.is_disk old.disk) c.requires.up c.make_room.ensures.continues c.make_room.ensures.up.front.within c.make_room.ensures.records spelled c.make_room.ensures.rests
    (c.append_or_stop.ensures.moments _ c.make_room.ensures.up.log)

pub returns-clause-moments : goal.returns-clause-moments
returns-clause-moments g c = λ r spelled.
    let old = c.args.redo.now in
    logging_moments g.D.Disk.state g.D.Disk.faults old c.make_room.new.redo c.append_or_stop.new.redo.disk c.args.memory.now c.make_room.new.memory r c.args.body.now (g.D.Disk.is_disk old.disk) c.requires.up c.make_room.ensures.continues c.make_room.ensures.up.front.within c.make_room.ensures.records spelled c.make_room.ensures.rests
    (c.append_or_stop.ensures.moments _ c.make_room.ensures.up.log)

pub returns-clause-leaves : goal.returns-clause-leaves
returns-clause-leaves g c = λ r spelled.
    let mid = c.make_room.new.redo in
    let m = c.make_room.new.memory in
    let up = c.make_room.ensures.up in
    let appended = c.append_or_stop.ensures.appended c.if-not-append_or_stop.false _ up.log in
    let more = on_ok c.make_room.result (HasRoomForRecord mid m (length c.args.body.now) c.args.ranges) (sym c.is_err.ensures.value ∙ c.if-is_err.false) c.make_room.ensures.more in (
      record {
        memory = up.memory;
        room = up.room;
        held = more.held;
        records = more.records;
        forced = more.forced;
        votes = more.votes;
        ranges = more.ranges;
        started = appended.started;
        log = subst (IsLogFor g.D.Disk.state c.append_or_stop.new.redo) (ap (λ (b : List ℕ). bodies_of (on_disk m) ++ b ∷ []) spelled ∙ one_body_more (on_disk m) r) appended.log;
        front = up.front;
        spare_bodies = omega (arith, more.bodies, appended.spare_bodies);
        spare_bytes = omega (arith, more.bytes, appended.spare_bytes);
      },
      c.make_room.ensures.records,
      c.make_room.ensures.held,
      c.append_or_stop.ensures.unasked c.if-not-append_or_stop.false,
    )

pub returns-then-not-append_or_stop-clause-continues : goal.returns-then-not-append_or_stop-clause-continues
returns-then-not-append_or_stop-clause-continues g c = keeps_then g.D.Disk.state g.D.Disk.faults c.args.redo.now c.make_room.new.redo c.append_or_stop.new.redo c.make_room.ensures.continues c.append_or_stop.ensures.continues

pub returns-clause-continues : goal.returns-clause-continues
returns-clause-continues g c = keeps_then g.D.Disk.state g.D.Disk.faults c.args.redo.now c.make_room.new.redo c.append_or_stop.new.redo c.make_room.ensures.continues c.append_or_stop.ensures.continues

use Rattle.std.proofs.Common.{◌≢◌, ◌<◌, ◌≤◌, ◌+◌, ◌^◌, ℕ, List, length, inr, refl, arith, ◌∙◌, ap, subst, sym}
use Rattle.mn_io.proofs.Moments.{LeavesOnly-weaker}
use Rattle.mn_redo.specs.Grammar.{IsLogAt, total}
use Rattle.mn_redo.proofs.Going.{started_going}
use Rattle.mn_redo.proofs.Headed.{headed_either}
use Rattle.mn_redo.proofs.Moments.{left_now}
use Rattle.mn_redo.proofs.Shortened.{either_stands, place_end, replacing, records_length, whole_length}
use Rattle.mn_redo.proofs.appender.Appender.shorten.Goals as goal

pub stage_all-requires-clause-room : goal.stage_all-requires-clause-room
stage_all-requires-clause-room g c =
    let a = c.self.inside in
    let room = c.self.invariant.room (started_going a.phase (ap (λ s. s.phase) c.self.view_is ∙ c.requires.started)) in
    omega (arith, room.piece, whole_length c.args.bodies.now, c.requires.spare_bodies, c.requires.spare_bytes, ap (λ s. s.spare_bodies) c.self.view_is, ap (λ s. s.spare_bytes) c.self.view_is)

pub replace-requires-clause-near : goal.replace-requires-clause-near
replace-requires-clause-near g c =
    let a = c.self.inside in
    let others = c.args.bodies.now in
    let started = ap (λ s. s.phase) c.self.view_is ∙ c.requires.started in
    let piece_is = c.deref.ensures.value ∙ c.stage_all.ensures.bytes in
    let size_is = c.len-size.ensures ∙ sym c.deref.ensures.len in
    let room = c.self.invariant.room (started_going a.phase started) in
    let size_whole = size_is ∙ ap length piece_is ∙ whole_length others in
    let spare : length others < a.spare_bodies = omega (arith, c.requires.spare_bodies, ap (λ s. s.spare_bodies) c.self.view_is) in
    let bytes : total others ≤ a.spare_bytes = omega (arith, c.requires.spare_bytes, ap (λ s. s.spare_bytes) c.self.view_is) in
    let ends = place_end a.start a.gate c.len-size.result c.choose_place-place.result c.choose_place-place.ensures c.self.invariant.order in
    omega (arith, ends, room.near, size_is, size_whole, spare, bytes)

pub replace-requires-clause-room : goal.replace-requires-clause-room
replace-requires-clause-room g c =
    let a = c.self.inside in
    let others = c.args.bodies.now in
    let started = ap (λ s. s.phase) c.self.view_is ∙ c.requires.started in
    let piece_is = c.deref.ensures.value ∙ c.stage_all.ensures.bytes in
    let size_is = c.len-size.ensures ∙ sym c.deref.ensures.len in
    let room = c.self.invariant.room (started_going a.phase started) in
    let size_whole = size_is ∙ ap length piece_is ∙ whole_length others in
    let spare : length others < a.spare_bodies = omega (arith, c.requires.spare_bodies, ap (λ s. s.spare_bodies) c.self.view_is) in
    let bytes : total others ≤ a.spare_bytes = omega (arith, c.requires.spare_bytes, ap (λ s. s.spare_bytes) c.self.view_is) in
    omega (arith, room.disk_bytes, size_is, size_whole, spare, bytes)

pub overflow_sub-self-4 : goal.overflow_sub-self-4
overflow_sub-self-4 g c =
    let a = c.self.inside in
    let others = c.args.bodies.now in
    let started = ap (λ s. s.phase) c.self.view_is ∙ c.requires.started in
    let piece_is = c.deref.ensures.value ∙ c.stage_all.ensures.bytes in
    let size_is = c.len-size.ensures ∙ sym c.deref.ensures.len in
    let room = c.self.invariant.room (started_going a.phase started) in
    let size_whole = size_is ∙ ap length piece_is ∙ whole_length others in
    let spare : length others < a.spare_bodies = omega (arith, c.requires.spare_bodies, ap (λ s. s.spare_bodies) c.self.view_is) in
    let bytes : total others ≤ a.spare_bytes = omega (arith, c.requires.spare_bytes, ap (λ s. s.spare_bytes) c.self.view_is) in
    omega (arith, size_whole)

pub overflow_sub-self-5 : goal.overflow_sub-self-5
overflow_sub-self-5 g c =
    let a = c.self.inside in
    let others = c.args.bodies.now in
    let started = ap (λ s. s.phase) c.self.view_is ∙ c.requires.started in
    let piece_is = c.deref.ensures.value ∙ c.stage_all.ensures.bytes in
    let size_is = c.len-size.ensures ∙ sym c.deref.ensures.len in
    let room = c.self.invariant.room (started_going a.phase started) in
    let size_whole = size_is ∙ ap length piece_is ∙ whole_length others in
    let spare : length others < a.spare_bodies = omega (arith, c.requires.spare_bodies, ap (λ s. s.spare_bodies) c.self.view_is) in
    let bytes : total others ≤ a.spare_bytes = omega (arith, c.requires.spare_bytes, ap (λ s. s.spare_bytes) c.self.view_is) in
    omega (arith, size_whole, bytes)

pub returns-clause-bytes : goal.returns-clause-bytes
returns-clause-bytes g c =
    let a = c.self.inside in
    let others = c.args.bodies.now in
    let started = ap (λ s. s.phase) c.self.view_is ∙ c.requires.started in
    let piece_is = c.deref.ensures.value ∙ c.stage_all.ensures.bytes in
    let size_is = c.len-size.ensures ∙ sym c.deref.ensures.len in
    let room = c.self.invariant.room (started_going a.phase started) in
    let size_whole = size_is ∙ ap length piece_is ∙ whole_length others in
    let spare : length others < a.spare_bodies = omega (arith, c.requires.spare_bodies, ap (λ s. s.spare_bodies) c.self.view_is) in
    let bytes : total others ≤ a.spare_bytes = omega (arith, c.requires.spare_bytes, ap (λ s. s.spare_bytes) c.self.view_is) in
    omega (arith, size_whole, bytes, ap (λ s. s.spare_bytes) c.self.view_is)

pub returns-in_err-replace-clause-any_moment : goal.returns-in_err-replace-clause-any_moment
returns-in_err-replace-clause-any_moment g c = rw (← c.self.view_is) (λ list log h.
    let a = c.self.inside in
    let others = c.args.bodies.now in
    let started = ap (λ s. s.phase) c.self.view_is ∙ c.requires.started in
    let piece_is = c.deref.ensures.value ∙ c.stage_all.ensures.bytes in
    let size_is = c.len-size.ensures ∙ sym c.deref.ensures.len in
    LeavesOnly-weaker _ _ _ _ (λ x left. either_stands a.node a.nodes list others x left) (c.replace.ensures.any_moment h a.node a.nodes list others (replacing a.node a.nodes a.number a.start a.gate c.len-size.result c.choose_place-place.result _ c.deref.result.now list others (log.log started h) log.gate piece_is c.requires.sizes c.choose_place-place.ensures size_is)))

pub returns-in_err-replace-clause-images : goal.returns-in_err-replace-clause-images
returns-in_err-replace-clause-images g c = rw (← c.self.view_is) (λ list log h x image.
    let a = c.self.inside in
    let others = c.args.bodies.now in
    let started = ap (λ s. s.phase) c.self.view_is ∙ c.requires.started in
    let piece_is = c.deref.ensures.value ∙ c.stage_all.ensures.bytes in
    let size_is = c.len-size.ensures ∙ sym c.deref.ensures.len in
    either_stands a.node a.nodes list others x
    (left_now _ _ _ (g.D.Disk.is_disk _ (c.replace.ensures.honest h)) (c.replace.ensures.any_moment h a.node a.nodes list others (replacing a.node a.nodes a.number a.start a.gate c.len-size.result c.choose_place-place.result _ c.deref.result.now list others (log.log started h) log.gate piece_is c.requires.sizes c.choose_place-place.ensures size_is)) x image))

pub returns-in_err-replace-clause-header : goal.returns-in_err-replace-clause-header
returns-in_err-replace-clause-header g c = rw (← c.self.view_is) (λ h.
    let a = c.self.inside in
    let others = c.args.bodies.now in
    let started = ap (λ s. s.phase) c.self.view_is ∙ c.requires.started in
    let piece_is = c.deref.ensures.value ∙ c.stage_all.ensures.bytes in
    let size_is = c.len-size.ensures ∙ sym c.deref.ensures.len in
    let some = c.self.invariant.log started h in
    headed_either a.node a.nodes some.bodies others _ _ (g.D.Disk.is_disk _ (c.replace.ensures.honest h)) (c.replace.ensures.any_moment h a.node a.nodes some.bodies others (replacing a.node a.nodes a.number a.start a.gate c.len-size.result c.choose_place-place.result _ c.deref.result.now some.bodies others some.log some.gate_is piece_is c.requires.sizes c.choose_place-place.ensures size_is)))

pub returns-clause-any_moment : goal.returns-clause-any_moment
returns-clause-any_moment g c = rw (← c.self.view_is) (λ list log h.
    let a = c.self.inside in
    let others = c.args.bodies.now in
    let started = ap (λ s. s.phase) c.self.view_is ∙ c.requires.started in
    let piece_is = c.deref.ensures.value ∙ c.stage_all.ensures.bytes in
    let size_is = c.len-size.ensures ∙ sym c.deref.ensures.len in
    LeavesOnly-weaker _ _ _ _ (λ x left. either_stands a.node a.nodes list others x left) (c.replace.ensures.any_moment h a.node a.nodes list others (replacing a.node a.nodes a.number a.start a.gate c.len-size.result c.choose_place-place.result _ c.deref.result.now list others (log.log started h) log.gate piece_is c.requires.sizes c.choose_place-place.ensures size_is)))

pub returns-clause-images : goal.returns-clause-images
returns-clause-images g c = rw (← c.self.view_is) (λ list log h x image.
    let a = c.self.inside in
    let others = c.args.bodies.now in
    let started = ap (λ s. s.phase) c.self.view_is ∙ c.requires.started in
    let piece_is = c.deref.ensures.value ∙ c.stage_all.ensures.bytes in
    let size_is = c.len-size.ensures ∙ sym c.deref.ensures.len in
    either_stands a.node a.nodes list others x
    (left_now _ _ _ (g.D.Disk.is_disk _ (c.replace.ensures.honest h)) (c.replace.ensures.any_moment h a.node a.nodes list others (replacing a.node a.nodes a.number a.start a.gate c.len-size.result c.choose_place-place.result _ c.deref.result.now list others (log.log started h) log.gate piece_is c.requires.sizes c.choose_place-place.ensures size_is)) x image))

pub returns-clause-header : goal.returns-clause-header
returns-clause-header g c = rw (← c.self.view_is) (λ h.
    let a = c.self.inside in
    let others = c.args.bodies.now in
    let started = ap (λ s. s.phase) c.self.view_is ∙ c.requires.started in
    let piece_is = c.deref.ensures.value ∙ c.stage_all.ensures.bytes in
    let size_is = c.len-size.ensures ∙ sym c.deref.ensures.len in
    let some = c.self.invariant.log started h in
    headed_either a.node a.nodes some.bodies others _ _ (g.D.Disk.is_disk _ (c.replace.ensures.honest h)) (c.replace.ensures.any_moment h a.node a.nodes some.bodies others (replacing a.node a.nodes a.number a.start a.gate c.len-size.result c.choose_place-place.result _ c.deref.result.now some.bodies others some.log some.gate_is piece_is c.requires.sizes c.choose_place-place.ensures size_is)))

pub returns-clause-stable : goal.returns-clause-stable
returns-clause-stable g c = rw (← c.self.view_is) (λ list log h x image.
    let a = c.self.inside in
    let others = c.args.bodies.now in
    let started = ap (λ s. s.phase) c.self.view_is ∙ c.requires.started in
    let piece_is = c.deref.ensures.value ∙ c.stage_all.ensures.bytes in
    let size_is = c.len-size.ensures ∙ sym c.deref.ensures.len in
    let new = c.in_ok-replace.ensures.log h a.node a.nodes list others (replacing a.node a.nodes a.number a.start a.gate c.len-size.result c.choose_place-place.result _ c.deref.result.now list others (log.log started h) log.gate piece_is c.requires.sizes c.choose_place-place.ensures size_is) in
    inr (a.number + 1, (c.choose_place-place.result, subst (λ (l : List ℕ). IsLogAt a.node a.nodes l (a.number + 1) c.choose_place-place.result others) (sym (c.in_ok-replace.ensures.stable h x image)) new)))

pub returns-clause-list : goal.returns-clause-list
returns-clause-list g c = rw (← c.self.view_is) (λ list log.
    let a = c.self.inside in
    let others = c.args.bodies.now in
    let started = ap (λ s. s.phase) c.self.view_is ∙ c.requires.started in
    let piece_is = c.deref.ensures.value ∙ c.stage_all.ensures.bytes in
    let size_is = c.len-size.ensures ∙ sym c.deref.ensures.len in
    let room = c.self.invariant.room (started_going a.phase started) in
    let size_whole = size_is ∙ ap length piece_is ∙ whole_length others in
    let spare : length others < a.spare_bodies = omega (arith, c.requires.spare_bodies, ap (λ s. s.spare_bodies) c.self.view_is) in
    let bytes : total others ≤ a.spare_bytes = omega (arith, c.requires.spare_bytes, ap (λ s. s.spare_bytes) c.self.view_is) in
    let ends = place_end a.start a.gate c.len-size.result c.choose_place-place.result c.choose_place-place.ensures c.self.invariant.order in
    record {
      none = λ e. absurd cc;
      count = refl;
      few = omega (arith, room.few, spare);
      gate = omega (arith, size_whole, records_length others);
      near = omega (arith, ends, room.near, size_whole, spare, bytes);
      sizes = c.requires.sizes;
      log = λ _ h.
          let old = c.replace.ensures.no_better h in
          c.in_ok-replace.ensures.log old a.node a.nodes list others (replacing a.node a.nodes a.number a.start a.gate c.len-size.result c.choose_place-place.result _ c.deref.result.now list others (log.log started old) log.gate piece_is c.requires.sizes c.choose_place-place.ensures size_is);
    })

pub invariant_of-self-2 : goal.invariant_of-self-2
invariant_of-self-2 g c =
    let a = c.self.inside in
    let others = c.args.bodies.now in
    let started = ap (λ s. s.phase) c.self.view_is ∙ c.requires.started in
    let piece_is = c.deref.ensures.value ∙ c.stage_all.ensures.bytes in
    let size_is = c.len-size.ensures ∙ sym c.deref.ensures.len in
    let room = c.self.invariant.room (started_going a.phase started) in
    let size_whole = size_is ∙ ap length piece_is ∙ whole_length others in
    let spare : length others < a.spare_bodies = omega (arith, c.requires.spare_bodies, ap (λ s. s.spare_bodies) c.self.view_is) in
    let bytes : total others ≤ a.spare_bytes = omega (arith, c.requires.spare_bytes, ap (λ s. s.spare_bytes) c.self.view_is) in
    let ends = place_end a.start a.gate c.len-size.result c.choose_place-place.result c.choose_place-place.ensures c.self.invariant.order in
    let can : a.number ≢ 2 ^ 63 = λ e. c.requires.can (sym (ap (λ s. s.number) c.self.view_is) ∙ e) in
    record {
      room = λ _. record {
        piece = omega (arith, room.piece, c.stage_all.ensures.room, spare, bytes, size_whole);
        few = omega (arith, room.few, spare);
        near = omega (arith, ends, room.near, size_whole, spare, bytes);
        disk_changes = omega (arith, room.disk_changes, c.replace.ensures.changes, spare);
        disk_bytes = omega (arith, room.disk_bytes, c.replace.ensures.bytes, size_is, size_whole, spare, bytes);
      };
      stable = λ _ h. c.in_ok-replace.ensures.stable (c.replace.ensures.no_better h);
      blank = λ e. absurd cc;
      few = omega (arith, c.self.invariant.few, can);
      order = omega (arith, size_whole);
      rest = omega arith;
      log = λ _ h.
          let old = c.replace.ensures.no_better h in
          let some = c.self.invariant.log started old in
          record {
            bodies = others;
            log = c.in_ok-replace.ensures.log old a.node a.nodes some.bodies others (replacing a.node a.nodes a.number a.start a.gate c.len-size.result c.choose_place-place.result _ c.deref.result.now some.bodies others some.log some.gate_is piece_is c.requires.sizes c.choose_place-place.ensures size_is);
            gate_is = omega (arith, size_whole, records_length others);
          };
    }

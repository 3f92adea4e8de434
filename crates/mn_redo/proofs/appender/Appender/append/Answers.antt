use Rattle.std.proofs.Common.{◌<◌, ◌≤◌, ◌++◌, ◌∷◌, [], ℕ, List, length, inl, arith, ◌∙◌, ap, subst, sym, length-append}
use Rattle.mn_io.proofs.Moments.{LeavesOnly-weaker}
use Rattle.mn_redo.specs.Grammar.{IsLog}
use Rattle.mn_redo.proofs.Append.{before_or_after, stands_by, within_staged, both_moments, both_done}
use Rattle.mn_redo.proofs.Going.{started_going}
use Rattle.mn_redo.proofs.Headed.{headed, headed_after}
use Rattle.mn_redo.proofs.Leads.{gate_more, logged, place_of}
use Rattle.mn_redo.proofs.Moments.{left_now}
use Rattle.mn_redo.proofs.Parse.{sizes_push}
use Rattle.mn_redo.proofs.appender.Appender.append.Goals as goal

pub returns-in_err-half-clause-any_moment : goal.returns-in_err-half-clause-any_moment
returns-in_err-half-clause-any_moment g c = rw (← c.self.view_is) (λ bodies list h.
    let a = c.self.inside in
    let l = list.log (ap (λ s. s.phase) c.self.view_is ∙ c.requires.started) h in
    LeavesOnly-weaker _ _ _ _ (λ x log. inl (stands_by a.node a.nodes l.before x bodies l.lead log)) (c.half.ensures.any_moment h l.before bodies l.log (place_of _ _ _ _ _ _ l a.gate list.gate)))

pub returns-in_err-half-clause-images : goal.returns-in_err-half-clause-images
returns-in_err-half-clause-images g c = rw (← c.self.view_is) (λ bodies list h x image.
    let a = c.self.inside in
    let l = list.log (ap (λ s. s.phase) c.self.view_is ∙ c.requires.started) h in
    inl (stands_by a.node a.nodes l.before x bodies l.lead (left_now _ _ _ (g.D.Disk.is_disk _ (c.half.ensures.honest h)) (c.half.ensures.any_moment h l.before bodies l.log (place_of _ _ _ _ _ _ l a.gate list.gate)) x image)))

pub returns-in_err-half-clause-header : goal.returns-in_err-half-clause-header
returns-in_err-half-clause-header g c = rw (← c.self.view_is) (λ h.
    let a = c.self.inside in
    let some = c.self.invariant.log (ap (λ s. s.phase) c.self.view_is ∙ c.requires.started) h in
    let l = some.log in
    headed a.node a.nodes l.before some.bodies _ _ l.lead (g.D.Disk.is_disk _ (c.half.ensures.honest h)) (c.half.ensures.any_moment h l.before some.bodies l.log (place_of _ _ _ _ _ _ l a.gate some.gate_is)))

pub change-requires-clause-within : goal.change-requires-clause-within
change-requires-clause-within g c h =
    let a = c.self.inside in
    let old = c.half.ensures.no_better h in
    let some = c.self.invariant.log (ap (λ s. s.phase) c.self.view_is ∙ c.requires.started) old in
    let l = some.log in
    let at = place_of _ _ _ _ _ _ l a.gate some.gate_is in
    within_staged l.before some.bodies c.args.body.now a.gate at c.requires.size _ (c.in_ok-half.ensures.staged old l.before some.bodies l.log at)

pub returns-in_err-change-clause-any_moment : goal.returns-in_err-change-clause-any_moment
returns-in_err-change-clause-any_moment g c = rw (← c.self.view_is) (λ bodies list h.
    let a = c.self.inside in
    let l = list.log (ap (λ s. s.phase) c.self.view_is ∙ c.requires.started) h in
    let at = place_of _ _ _ _ _ _ l a.gate list.gate in
    LeavesOnly-weaker _ _ _ _ (λ x left. before_or_after a.node a.nodes l.before bodies c.args.body.now x l.lead left)
    (both_moments l.before bodies c.args.body.now a.gate at c.requires.size _ _ _ (c.half.ensures.any_moment h l.before bodies l.log at) (c.in_ok-half.ensures.staged h l.before bodies l.log at)
    (c.change.ensures.any_moment (c.half.ensures.honest h) (c.in_ok-half.ensures.stable h))))

pub returns-in_err-change-clause-images : goal.returns-in_err-change-clause-images
returns-in_err-change-clause-images g c = rw (← c.self.view_is) (λ bodies list h x image.
    let a = c.self.inside in
    let l = list.log (ap (λ s. s.phase) c.self.view_is ∙ c.requires.started) h in
    let at = place_of _ _ _ _ _ _ l a.gate list.gate in
    before_or_after a.node a.nodes l.before bodies c.args.body.now x l.lead
    (left_now _ _ _ (g.D.Disk.is_disk _ (c.change.ensures.honest (c.half.ensures.honest h)))
    (both_moments l.before bodies c.args.body.now a.gate at c.requires.size _ _ _ (c.half.ensures.any_moment h l.before bodies l.log at) (c.in_ok-half.ensures.staged h l.before bodies l.log at)
    (c.change.ensures.any_moment (c.half.ensures.honest h) (c.in_ok-half.ensures.stable h))) x image))

pub returns-in_err-change-clause-header : goal.returns-in_err-change-clause-header
returns-in_err-change-clause-header g c = rw (← c.self.view_is) (λ h.
    let a = c.self.inside in
    let some = c.self.invariant.log (ap (λ s. s.phase) c.self.view_is ∙ c.requires.started) h in
    let l = some.log in
    let at = place_of _ _ _ _ _ _ l a.gate some.gate_is in
    headed_after a.node a.nodes l.before some.bodies c.args.body.now _ _ l.lead (g.D.Disk.is_disk _ (c.change.ensures.honest (c.half.ensures.honest h)))
    (both_moments l.before some.bodies c.args.body.now a.gate at c.requires.size _ _ _ (c.half.ensures.any_moment h l.before some.bodies l.log at) (c.in_ok-half.ensures.staged h l.before some.bodies l.log at)
    (c.change.ensures.any_moment (c.half.ensures.honest h) (c.in_ok-half.ensures.stable h))))

pub returns-clause-any_moment : goal.returns-clause-any_moment
returns-clause-any_moment g c = rw (← c.self.view_is) (λ bodies list h.
    let a = c.self.inside in
    let l = list.log (ap (λ s. s.phase) c.self.view_is ∙ c.requires.started) h in
    let at = place_of _ _ _ _ _ _ l a.gate list.gate in
    LeavesOnly-weaker _ _ _ _ (λ x left. before_or_after a.node a.nodes l.before bodies c.args.body.now x l.lead left)
    (both_moments l.before bodies c.args.body.now a.gate at c.requires.size _ _ _ (c.half.ensures.any_moment h l.before bodies l.log at) (c.in_ok-half.ensures.staged h l.before bodies l.log at)
    (c.change.ensures.any_moment (c.half.ensures.honest h) (c.in_ok-half.ensures.stable h))))

pub returns-clause-images : goal.returns-clause-images
returns-clause-images g c = rw (← c.self.view_is) (λ bodies list h x image.
    let a = c.self.inside in
    let l = list.log (ap (λ s. s.phase) c.self.view_is ∙ c.requires.started) h in
    let at = place_of _ _ _ _ _ _ l a.gate list.gate in
    before_or_after a.node a.nodes l.before bodies c.args.body.now x l.lead
    (left_now _ _ _ (g.D.Disk.is_disk _ (c.change.ensures.honest (c.half.ensures.honest h)))
    (both_moments l.before bodies c.args.body.now a.gate at c.requires.size _ _ _ (c.half.ensures.any_moment h l.before bodies l.log at) (c.in_ok-half.ensures.staged h l.before bodies l.log at)
    (c.change.ensures.any_moment (c.half.ensures.honest h) (c.in_ok-half.ensures.stable h))) x image))

pub returns-clause-header : goal.returns-clause-header
returns-clause-header g c = rw (← c.self.view_is) (λ h.
    let a = c.self.inside in
    let some = c.self.invariant.log (ap (λ s. s.phase) c.self.view_is ∙ c.requires.started) h in
    let l = some.log in
    let at = place_of _ _ _ _ _ _ l a.gate some.gate_is in
    headed_after a.node a.nodes l.before some.bodies c.args.body.now _ _ l.lead (g.D.Disk.is_disk _ (c.change.ensures.honest (c.half.ensures.honest h)))
    (both_moments l.before some.bodies c.args.body.now a.gate at c.requires.size _ _ _ (c.half.ensures.any_moment h l.before some.bodies l.log at) (c.in_ok-half.ensures.staged h l.before some.bodies l.log at)
    (c.change.ensures.any_moment (c.half.ensures.honest h) (c.in_ok-half.ensures.stable h))))

pub returns-clause-stable : goal.returns-clause-stable
returns-clause-stable g c = rw (← c.self.view_is) (λ bodies list h x image.
    let a = c.self.inside in
    let body = c.args.body.now in
    let l = list.log (ap (λ s. s.phase) c.self.view_is ∙ c.requires.started) h in
    let at = place_of _ _ _ _ _ _ l a.gate list.gate in
    let mid = c.half.ensures.honest h in
    stands_by a.node a.nodes l.before x (bodies ++ body ∷ []) l.lead (subst (λ (f : List ℕ). IsLog l.before f (bodies ++ body ∷ [])) (sym (c.in_ok-change.ensures.stable mid x image))
    (both_done l.before bodies body a.gate at c.requires.size _ _ (c.in_ok-half.ensures.staged h l.before bodies l.log at) (c.in_ok-change.ensures.written mid))))

pub returns-clause-list : goal.returns-clause-list
returns-clause-list g c = rw (← c.self.view_is) (λ bodies list.
    let a = c.self.inside in
    let body = c.args.body.now in
    let started = ap (λ s. s.phase) c.self.view_is ∙ c.requires.started in
    let room = c.self.invariant.room (started_going a.phase started) in
    let more = length-append bodies (body ∷ []) in
    let spare : 0 < a.spare_bodies = omega (arith, c.requires.spare_body, ap (λ s. s.spare_bodies) c.self.view_is) in
    let bytes : length body ≤ a.spare_bytes = omega (arith, c.requires.spare_bytes, ap (λ s. s.spare_bytes) c.self.view_is) in
    record {
      none = λ e. absurd cc;
      count = omega (arith, list.count, more);
      few = omega (arith, list.count, more, room.few, spare);
      gate = gate_more a.start bodies body a.gate list.gate;
      near = omega (arith, room.near, spare, bytes);
      sizes = sizes_push bodies body list.sizes c.requires.size;
      log = λ _ h.
          let mid = c.change.ensures.no_better h in
          let old = c.half.ensures.no_better mid in
          let l = list.log started old in
          let at = place_of _ _ _ _ _ _ l a.gate list.gate in
          logged l (bodies ++ body ∷ []) (both_done l.before bodies body a.gate at c.requires.size _ _ (c.in_ok-half.ensures.staged old l.before bodies l.log at) (c.in_ok-change.ensures.written mid));
    })

pub overflow_add-self-4 : goal.overflow_add-self-4
overflow_add-self-4 g c =
    let a = c.self.inside in
    let room = c.self.invariant.room (started_going a.phase (ap (λ s. s.phase) c.self.view_is ∙ c.requires.started)) in
    omega (arith, c.self.invariant.rest, room.near, c.requires.spare_body, c.requires.spare_bytes, ap (λ s. s.spare_bodies) c.self.view_is, ap (λ s. s.spare_bytes) c.self.view_is)

pub invariant_of-self-2 : goal.invariant_of-self-2
invariant_of-self-2 g c =
    let a = c.self.inside in
    let body = c.args.body.now in
    let started = ap (λ s. s.phase) c.self.view_is ∙ c.requires.started in
    let room = c.self.invariant.room (started_going a.phase started) in
    let spare : 0 < a.spare_bodies = omega (arith, c.requires.spare_body, ap (λ s. s.spare_bodies) c.self.view_is) in
    let bytes : length body ≤ a.spare_bytes = omega (arith, c.requires.spare_bytes, ap (λ s. s.spare_bytes) c.self.view_is) in
    record {
      room = λ _. record {
        piece = omega (arith, room.piece, c.half.ensures.room, spare, bytes);
        few = omega (arith, room.few, spare);
        near = omega (arith, room.near, spare, bytes);
        disk_changes = omega (arith, room.disk_changes, c.half.ensures.changes, c.change.ensures.changes, spare);
        disk_bytes = omega (arith, room.disk_bytes, c.half.ensures.disk_room, c.change.ensures.bytes, spare, bytes);
      };
      stable = λ _ h. c.in_ok-change.ensures.stable (c.change.ensures.no_better h);
      blank = λ e. absurd cc;
      few = c.self.invariant.few;
      order = omega (arith, c.self.invariant.order);
      rest = omega (arith, c.self.invariant.rest);
      log = λ _ h.
          let mid = c.change.ensures.no_better h in
          let old = c.half.ensures.no_better mid in
          let some = c.self.invariant.log started old in
          let l = some.log in
          let at = place_of _ _ _ _ _ _ l a.gate some.gate_is in
          record {
            bodies = some.bodies ++ body ∷ [];
            log = logged l (some.bodies ++ body ∷ []) (both_done l.before some.bodies body a.gate at c.requires.size _ _ (c.in_ok-half.ensures.staged old l.before some.bodies l.log at) (c.in_ok-change.ensures.written mid));
            gate_is = gate_more a.start some.bodies body a.gate some.gate_is;
          };
    }

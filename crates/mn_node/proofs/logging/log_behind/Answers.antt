use Rattle.std.proofs.Common.{vec_len, ◌≡◌, ◌≤◌, ◌+◌, ◌*◌, ◌++◌, ◌∷◌, [], ◌∙◌, inr, ℕ, List, Some, length, ap, sym, subst, arith}
use Rattle.mn_io.specs.Faults.{Rose}
use Rattle.mn_redo.specs.Appender.{IsLogOf}
use Rattle.mn_redo.specs.Grammar.{total}
use Rattle.mn_redo.specs.Redo.{StandsFor}
use Rattle.mn_mini.specs.declared.record.Record.{Record}
use Rattle.mn_mini.specs.Short.{short}
use Rattle.mn_node.specs.Node.{CrashLeavesOnly, HasRoomForRecord, IsLogFor, IsUpToWithOrWithout, bodies_of, listed, on_disk}
use Rattle.mn_node.proofs.Fronts.{front_here}
use Rattle.mn_node.proofs.Listed.{listed_all}
use Rattle.mn_node.proofs.Moments.{at_then}
use Rattle.mn_node.proofs.Puts.{either_list, log_for, log_keeps, put_moments, rest_moments, short_moments, stops_same, when_failed}
use Rattle.mn_node.proofs.Steps.{keeps_then, on_ok, one_body_more, rose_later, same_on_disk, stops_here}
use Rattle.mn_node.proofs.logging.log_behind.Goals as goal

pub returns-then-is_err-clause-moments : goal.returns-then-is_err-clause-moments
returns-then-is_err-clause-moments g c = λ r spelled.
    rest_moments g.D.Disk.state c.args.redo.now c.make_room.new.redo.disk c.args.memory.now (Some r) (g.D.Disk.is_disk c.args.redo.now.disk) c.requires.up c.make_room.ensures.rests

pub returns-then-is_err-2-clause-leaves : goal.returns-then-is_err-2-clause-leaves
returns-then-is_err-2-clause-leaves g c = λ r spelled.
    let state = g.D.Disk.state in
    let faults = g.D.Disk.faults in
    let old = c.args.redo.now in
    let m = c.args.memory.now in
    let room = c.make_room.ensures in
    let mid = c.make_room.new.redo in
    let memory = c.make_room.new.memory in
    let done = c.shorten.ensures in
    let replaced = c.shorten.new.self in
    let list = c.deref.result.now in
    let is : list ≡ bodies_of (short m.records.items) = c.deref.ensures.value ∙ c.requires.bodies in
    let log = subst (λ (l : List Record). IsLogOf state mid (bodies_of l)) (same_on_disk m memory room.records room.cut) room.up.log.log in
    let failed = sym c.is_err-2.ensures.value ∙ c.if-is_err-2.true in (
      room.records,
      (
        room.cut,
        record {
          rose = rose_later (faults old.disk) (faults mid.disk) (faults replaced.disk) room.continues.later (when_failed c.shorten.result (Rose (faults mid.disk) (faults replaced.disk)) failed done.cause.failed);
          stands = λ h. either_list state old mid replaced.disk (on_disk m) (short m.records.items) list room.continues.node room.continues.nodes is (done.images (bodies_of (on_disk m)) log (room.continues.honest h));
        },
      ),
      room.up.front,
    )

pub returns-then-is_err-2-clause-continues : goal.returns-then-is_err-2-clause-continues
returns-then-is_err-2-clause-continues g c =
    let state = g.D.Disk.state in
    let faults = g.D.Disk.faults in
    let old = c.args.redo.now in
    let room = c.make_room.ensures in
    let mid = c.make_room.new.redo in
    let done = c.shorten.ensures in
    let replaced = c.shorten.new.self in
    keeps_then state faults old mid replaced room.continues (log_keeps state faults mid replaced done.node done.nodes done.honest done.no_better done.cause.later done.header)

pub returns-then-is_err-2-clause-moments : goal.returns-then-is_err-2-clause-moments
returns-then-is_err-2-clause-moments g c = λ r spelled.
    let state = g.D.Disk.state in
    let faults = g.D.Disk.faults in
    let old = c.args.redo.now in
    let m = c.args.memory.now in
    let room = c.make_room.ensures in
    let mid = c.make_room.new.redo in
    let memory = c.make_room.new.memory in
    let done = c.shorten.ensures in
    let replaced = c.shorten.new.self in
    let list = c.deref.result.now in
    let is : list ≡ bodies_of (short m.records.items) = c.deref.ensures.value ∙ c.requires.bodies in
    let log = subst (λ (l : List Record). IsLogOf state mid (bodies_of l)) (same_on_disk m memory room.records room.cut) room.up.log.log in
    let P = IsUpToWithOrWithout old.node old.nodes m.records.items (Some r) in
    let first = rest_moments state old mid.disk m (Some r) (g.D.Disk.is_disk old.disk) c.requires.up room.rests in
    let second = short_moments state old mid replaced.disk m.records.items m.cut (Some r) list c.requires.up.front.within room.continues.node room.continues.nodes is (done.any_moment (bodies_of (on_disk m)) log) in
    let shortened = at_then state old.disk mid.disk replaced.disk P room.continues.honest first second in
    shortened

pub returns-then-not-append_or_stop-clause-leaves : goal.returns-then-not-append_or_stop-clause-leaves
returns-then-not-append_or_stop-clause-leaves g c = λ r spelled.
    let state = g.D.Disk.state in
    let faults = g.D.Disk.faults in
    let old = c.args.redo.now in
    let m = c.args.memory.now in
    let room = c.make_room.ensures in
    let mid = c.make_room.new.redo in
    let memory = c.make_room.new.memory in
    let done = c.shorten.ensures in
    let replaced = c.shorten.new.self in
    let list = c.deref.result.now in
    let is : list ≡ bodies_of (short m.records.items) = c.deref.ensures.value ∙ c.requires.bodies in
    let log = subst (λ (l : List Record). IsLogOf state mid (bodies_of l)) (same_on_disk m memory room.records room.cut) room.up.log.log in
    let kept = keeps_then state faults old mid replaced room.continues (log_keeps state faults mid replaced done.node done.nodes done.honest done.no_better done.cause.later done.header) in
    let ok = sym c.is_err-2.ensures.value ∙ c.if-is_err-2.false in
    let cut = c.len-memory.result in
    let all : cut ≡ length memory.records.items = c.len-memory.ensures ∙ omega (arith, memory.records.ok.0) in
    let whole : list ≡ bodies_of (listed cut memory.records.items) =
    is ∙ ap (λ (l : List Record). bodies_of (short l)) (sym room.records) ∙ ap bodies_of (sym (listed_all memory.records.items) ∙ ap (λ (n : ℕ). listed n memory.records.items) (sym all)) in
    let behind = log_for state mid replaced list (bodies_of (listed cut memory.records.items)) done.node done.nodes done.no_better whole (on_ok c.shorten.result (IsLogOf state replaced list) ok (done.list (bodies_of (on_disk m)) log))
    (λ h. on_ok c.shorten.result (StandsFor (state replaced.disk) mid.node mid.nodes list) ok (done.stable (bodies_of (on_disk m)) log h)) in
    let new = c.append_or_stop.new.redo in
    let here = stops_here state faults replaced new (listed cut memory.records.items) r c.args.body.now c.args.stop spelled (c.append_or_stop.ensures.images _ behind) (c.append_or_stop.ensures.stopped c.if-not-append_or_stop.true _ behind) in (
      room.records,
      record {
        between = replaced.disk;
        shortened = inr (all ∙ ap length room.records, kept.later, kept.honest);
        stopped = stops_same state faults replaced.disk new.disk replaced.node old.node replaced.nodes old.nodes (listed cut memory.records.items) (listed cut m.records.items) r c.args.stop kept.node kept.nodes (ap (λ (l : List Record). listed cut l) room.records) here;
      },
      front_here m.records.items memory.records.items cut c.args.due.front c.requires.front room.records all,
    )

pub returns-then-not-append_or_stop-clause-continues : goal.returns-then-not-append_or_stop-clause-continues
returns-then-not-append_or_stop-clause-continues g c =
    let state = g.D.Disk.state in
    let faults = g.D.Disk.faults in
    let old = c.args.redo.now in
    let room = c.make_room.ensures in
    let mid = c.make_room.new.redo in
    let done = c.shorten.ensures in
    let replaced = c.shorten.new.self in
    let kept = keeps_then state faults old mid replaced room.continues (log_keeps state faults mid replaced done.node done.nodes done.honest done.no_better done.cause.later done.header) in
    keeps_then state faults old replaced c.append_or_stop.new.redo kept c.append_or_stop.ensures.continues

pub returns-clause-continues : goal.returns-clause-continues
returns-clause-continues g c =
    let state = g.D.Disk.state in
    let faults = g.D.Disk.faults in
    let old = c.args.redo.now in
    let room = c.make_room.ensures in
    let mid = c.make_room.new.redo in
    let done = c.shorten.ensures in
    let replaced = c.shorten.new.self in
    let kept = keeps_then state faults old mid replaced room.continues (log_keeps state faults mid replaced done.node done.nodes done.honest done.no_better done.cause.later done.header) in
    keeps_then state faults old replaced c.append_or_stop.new.redo kept c.append_or_stop.ensures.continues

pub returns-then-not-append_or_stop-clause-moments : goal.returns-then-not-append_or_stop-clause-moments
returns-then-not-append_or_stop-clause-moments g c = λ r spelled.
    let state = g.D.Disk.state in
    let faults = g.D.Disk.faults in
    let old = c.args.redo.now in
    let m = c.args.memory.now in
    let room = c.make_room.ensures in
    let mid = c.make_room.new.redo in
    let memory = c.make_room.new.memory in
    let done = c.shorten.ensures in
    let replaced = c.shorten.new.self in
    let list = c.deref.result.now in
    let is : list ≡ bodies_of (short m.records.items) = c.deref.ensures.value ∙ c.requires.bodies in
    let log = subst (λ (l : List Record). IsLogOf state mid (bodies_of l)) (same_on_disk m memory room.records room.cut) room.up.log.log in
    let kept = keeps_then state faults old mid replaced room.continues (log_keeps state faults mid replaced done.node done.nodes done.honest done.no_better done.cause.later done.header) in
    let P = IsUpToWithOrWithout old.node old.nodes m.records.items (Some r) in
    let first = rest_moments state old mid.disk m (Some r) (g.D.Disk.is_disk old.disk) c.requires.up room.rests in
    let second = short_moments state old mid replaced.disk m.records.items m.cut (Some r) list c.requires.up.front.within room.continues.node room.continues.nodes is (done.any_moment (bodies_of (on_disk m)) log) in
    let shortened = at_then state old.disk mid.disk replaced.disk P room.continues.honest first second in
    let ok = sym c.is_err-2.ensures.value ∙ c.if-is_err-2.false in
    let cut = c.len-memory.result in
    let all : cut ≡ length memory.records.items = c.len-memory.ensures ∙ omega (arith, memory.records.ok.0) in
    let whole : list ≡ bodies_of (listed cut memory.records.items) =
    is ∙ ap (λ (l : List Record). bodies_of (short l)) (sym room.records) ∙ ap bodies_of (sym (listed_all memory.records.items) ∙ ap (λ (n : ℕ). listed n memory.records.items) (sym all)) in
    let behind = log_for state mid replaced list (bodies_of (listed cut memory.records.items)) done.node done.nodes done.no_better whole (on_ok c.shorten.result (IsLogOf state replaced list) ok (done.list (bodies_of (on_disk m)) log))
    (λ h. on_ok c.shorten.result (StandsFor (state replaced.disk) mid.node mid.nodes list) ok (done.stable (bodies_of (on_disk m)) log h)) in
    let put = put_moments state old replaced c.append_or_stop.new.redo.disk memory.records.items cut r c.args.body.now (omega (arith, all)) kept.node kept.nodes spelled (c.append_or_stop.ensures.moments (bodies_of (listed cut memory.records.items)) behind) in
    let third = subst (λ (l : List Record). CrashLeavesOnly state replaced.disk c.append_or_stop.new.redo.disk (IsUpToWithOrWithout old.node old.nodes l (Some r))) room.records put in
    at_then state old.disk replaced.disk c.append_or_stop.new.redo.disk P kept.honest shortened third

pub returns-clause-moments : goal.returns-clause-moments
returns-clause-moments g c = λ r spelled.
    let state = g.D.Disk.state in
    let faults = g.D.Disk.faults in
    let old = c.args.redo.now in
    let m = c.args.memory.now in
    let room = c.make_room.ensures in
    let mid = c.make_room.new.redo in
    let memory = c.make_room.new.memory in
    let done = c.shorten.ensures in
    let replaced = c.shorten.new.self in
    let list = c.deref.result.now in
    let is : list ≡ bodies_of (short m.records.items) = c.deref.ensures.value ∙ c.requires.bodies in
    let log = subst (λ (l : List Record). IsLogOf state mid (bodies_of l)) (same_on_disk m memory room.records room.cut) room.up.log.log in
    let kept = keeps_then state faults old mid replaced room.continues (log_keeps state faults mid replaced done.node done.nodes done.honest done.no_better done.cause.later done.header) in
    let P = IsUpToWithOrWithout old.node old.nodes m.records.items (Some r) in
    let first = rest_moments state old mid.disk m (Some r) (g.D.Disk.is_disk old.disk) c.requires.up room.rests in
    let second = short_moments state old mid replaced.disk m.records.items m.cut (Some r) list c.requires.up.front.within room.continues.node room.continues.nodes is (done.any_moment (bodies_of (on_disk m)) log) in
    let shortened = at_then state old.disk mid.disk replaced.disk P room.continues.honest first second in
    let ok = sym c.is_err-2.ensures.value ∙ c.if-is_err-2.false in
    let cut = c.len-memory.result in
    let all : cut ≡ length memory.records.items = c.len-memory.ensures ∙ omega (arith, memory.records.ok.0) in
    let whole : list ≡ bodies_of (listed cut memory.records.items) =
    is ∙ ap (λ (l : List Record). bodies_of (short l)) (sym room.records) ∙ ap bodies_of (sym (listed_all memory.records.items) ∙ ap (λ (n : ℕ). listed n memory.records.items) (sym all)) in
    let behind = log_for state mid replaced list (bodies_of (listed cut memory.records.items)) done.node done.nodes done.no_better whole (on_ok c.shorten.result (IsLogOf state replaced list) ok (done.list (bodies_of (on_disk m)) log))
    (λ h. on_ok c.shorten.result (StandsFor (state replaced.disk) mid.node mid.nodes list) ok (done.stable (bodies_of (on_disk m)) log h)) in
    let put = put_moments state old replaced c.append_or_stop.new.redo.disk memory.records.items cut r c.args.body.now (omega (arith, all)) kept.node kept.nodes spelled (c.append_or_stop.ensures.moments (bodies_of (listed cut memory.records.items)) behind) in
    let third = subst (λ (l : List Record). CrashLeavesOnly state replaced.disk c.append_or_stop.new.redo.disk (IsUpToWithOrWithout old.node old.nodes l (Some r))) room.records put in
    at_then state old.disk replaced.disk c.append_or_stop.new.redo.disk P kept.honest shortened third

pub returns-clause-leaves : goal.returns-clause-leaves
returns-clause-leaves g c = λ r spelled.
    let state = g.D.Disk.state in
    let faults = g.D.Disk.faults in
    let old = c.args.redo.now in
    let m = c.args.memory.now in
    let room = c.make_room.ensures in
    let mid = c.make_room.new.redo in
    let memory = c.make_room.new.memory in
    let done = c.shorten.ensures in
    let replaced = c.shorten.new.self in
    let list = c.deref.result.now in
    let is : list ≡ bodies_of (short m.records.items) = c.deref.ensures.value ∙ c.requires.bodies in
    let log = subst (λ (l : List Record). IsLogOf state mid (bodies_of l)) (same_on_disk m memory room.records room.cut) room.up.log.log in
    let ok = sym c.is_err-2.ensures.value ∙ c.if-is_err-2.false in
    let cut = c.len-memory.result in
    let all : cut ≡ length memory.records.items = c.len-memory.ensures ∙ omega (arith, memory.records.ok.0) in
    let whole : list ≡ bodies_of (listed cut memory.records.items) =
    is ∙ ap (λ (l : List Record). bodies_of (short l)) (sym room.records) ∙ ap bodies_of (sym (listed_all memory.records.items) ∙ ap (λ (n : ℕ). listed n memory.records.items) (sym all)) in
    let behind = log_for state mid replaced list (bodies_of (listed cut memory.records.items)) done.node done.nodes done.no_better whole (on_ok c.shorten.result (IsLogOf state replaced list) ok (done.list (bodies_of (on_disk m)) log))
    (λ h. on_ok c.shorten.result (StandsFor (state replaced.disk) mid.node mid.nodes list) ok (done.stable (bodies_of (on_disk m)) log h)) in
    let new = c.append_or_stop.new.redo in
    let appended = c.append_or_stop.ensures.appended c.if-not-append_or_stop.false _ behind in
    let made = sym c.is_err.ensures.value ∙ c.if-is_err.false in
    let more = on_ok c.make_room.result (HasRoomForRecord mid memory (length c.args.body.now) c.args.ranges) made room.more in
    let bodies = on_ok c.make_room.result (vec_len memory.held + 2 + (c.len-count.result + 1) ≤ mid.spare_bodies) made room.bodies in
    let bytes = on_ok c.make_room.result (11 * (vec_len memory.held + 1) + length c.args.body.now + c.args.due.spelled.total ≤ mid.spare_bytes) made room.bytes in
    let fewer = on_ok c.shorten.result (mid.spare_bodies ≤ replaced.spare_bodies + length list + 1) ok done.bodies in
    let less = on_ok c.shorten.result (mid.spare_bytes ≤ replaced.spare_bytes + total list) ok done.bytes in
    let count : length list ≤ c.len-count.result = omega (arith, c.len-count.ensures, c.args.due.spelled.bodies.ok.0, ap length c.deref.ensures.value) in
    let size : total list ≤ c.args.due.spelled.total = omega (arith, ap total c.deref.ensures.value, c.requires.total) in (
      record {
        memory = room.up.memory;
        room = room.up.room;
        held = more.held;
        records = more.records;
        forced = more.forced;
        votes = more.votes;
        ranges = more.ranges;
        started = appended.started;
        log = subst (IsLogFor state new) (ap (λ (b : List ℕ). bodies_of (listed cut memory.records.items) ++ b ∷ []) spelled ∙ one_body_more (listed cut memory.records.items) r) appended.log;
        front = front_here m.records.items memory.records.items cut c.args.due.front c.requires.front room.records all;
        spare_bodies = omega (arith, bodies, fewer, count, appended.spare_bodies);
        spare_bytes = omega (arith, bytes, less, size, appended.spare_bytes);
      },
      room.records,
      room.held,
      c.append_or_stop.ensures.unasked c.if-not-append_or_stop.false,
    )

use Rattle.std.proofs.Common.{◌≡◌, ◌++◌, ◌∷◌, [], ℕ, Bool, true, List, Option, length, reverse, Some, None, inl, refl, ap, sym, ◌∙◌, subst, arith, rules, if◌then◌else◌}
use Rattle.mn_mini.specs.declared.record.Record.{Record}
use Rattle.mn_mini.specs.declared.record.Record.TheVariants.{Decided}
use Rattle.mn_mini.specs.Node.{is_held}
use Rattle.mn_node.specs.Node.{IsLogFor, IsUpToWithOrWithout, CrashLeavesOnly, added_to, bodies_of, on_disk}
use Rattle.mn_node.proofs.Puts.{put_moments}
use Rattle.mn_node.proofs.Steps.{up_added, stops_here, unasked}
use Rattle.mn_node.proofs.requests.decide.Goals as goal

pub append_or_stop-requires-clause-spare_body : goal.append_or_stop-requires-clause-spare_body
append_or_stop-requires-clause-spare_body g c = let some = c.holds.ensures.some c.if-not-holds.false in omega (arith, some, c.requires.up.spare_bodies)

pub append_or_stop-requires-clause-spare_bytes : goal.append_or_stop-requires-clause-spare_bytes
append_or_stop-requires-clause-spare_bytes g c =
    let some = c.holds.ensures.some c.if-not-holds.false in
    let size : length c.decided_body.result ≡ 11 = ap (λ (l : List ℕ). length l) c.decided_body.ensures in
    omega (arith, some, size, c.requires.up.spare_bytes)

pub returns-then-not-append_or_stop-clause-handled : goal.returns-then-not-append_or_stop-clause-handled
returns-then-not-append_or_stop-clause-handled g c =
    let records = c.args.memory.now.records.items in
    let r : Record = Decided c.args.tid c.args.yes in
    let held : is_held (reverse records) c.args.tid ≡ true = search rules in (
      refl,
      ap (λ (b : Bool). if b then Some r else None) held,
      record {
        between = c.args.redo.now.disk;
        shortened = inl (refl, refl);
        stopped = stops_here g.D.Disk.state g.D.Disk.faults c.args.redo.now c.append_or_stop.new.redo (on_disk c.args.memory.now) r c.decided_body.result c.args.stop c.decided_body.ensures (c.append_or_stop.ensures.images _ c.requires.up.log) (c.append_or_stop.ensures.stopped c.if-not-append_or_stop.true _ c.requires.up.log);
      },
      c.requires.up.front,
    )

pub returns-clause-handled : goal.returns-clause-handled
returns-clause-handled g c =
    let records = c.args.memory.now.records.items in
    let new = c.append_or_stop.new.redo in
    let r : Record = Decided c.args.tid c.args.yes in
    let held : is_held (reverse records) c.args.tid ≡ true = search rules in
    let appended = c.append_or_stop.ensures.appended c.if-not-append_or_stop.false _ c.requires.up.log in
    let size : length c.decided_body.result ≡ 11 = ap (λ (l : List ℕ). length l) c.decided_body.ensures in (
      up_added g.D.Disk.state new c.args.memory.now c.add_decision.new.self r c.requires.up.front
          appended.started
          (subst (λ (b : List ℕ). IsLogFor g.D.Disk.state new (bodies_of (on_disk c.args.memory.now) ++ b ∷ [])) c.decided_body.ensures appended.log)
          c.add_decision.ensures.memory c.add_decision.ensures.room c.add_decision.ensures.records c.add_decision.ensures.cut c.add_decision.ensures.front
          (omega (arith, appended.spare_bodies, c.add_decision.ensures.held, c.requires.up.spare_bodies))
          (omega (arith, appended.spare_bytes, size, c.add_decision.ensures.held, c.requires.up.spare_bytes)),
      refl,
      c.add_decision.ensures.records ∙ sym (ap (λ (b : Bool). added_to records (if b then Some r else None)) held),
      unasked c.args.stop _ (c.append_or_stop.ensures.unasked c.if-not-append_or_stop.false),
    )

pub returns-then-not-append_or_stop-clause-moments : goal.returns-then-not-append_or_stop-clause-moments
returns-then-not-append_or_stop-clause-moments g c =
    let m = c.args.memory.now in
    let old = c.args.redo.now in
    let new = c.append_or_stop.new.redo.disk in
    let r : Record = Decided c.args.tid c.args.yes in
    let held : is_held (reverse m.records.items) c.args.tid ≡ true = search rules in
    let one : (if is_held (reverse m.records.items) c.args.tid then Some r else None) ≡ Some r = ap (λ (b : Bool). if b then Some r else None) held in
    subst (λ (o : Option Record). CrashLeavesOnly g.D.Disk.state old.disk new (IsUpToWithOrWithout old.node old.nodes m.records.items o)) (sym one)
    (put_moments g.D.Disk.state old old new m.records.items m.cut r c.decided_body.result c.requires.up.front.within refl refl c.decided_body.ensures (c.append_or_stop.ensures.moments (bodies_of (on_disk m)) c.requires.up.log))

pub returns-clause-moments : goal.returns-clause-moments
returns-clause-moments g c =
    let m = c.args.memory.now in
    let old = c.args.redo.now in
    let new = c.append_or_stop.new.redo.disk in
    let r : Record = Decided c.args.tid c.args.yes in
    let held : is_held (reverse m.records.items) c.args.tid ≡ true = search rules in
    let one : (if is_held (reverse m.records.items) c.args.tid then Some r else None) ≡ Some r = ap (λ (b : Bool). if b then Some r else None) held in
    subst (λ (o : Option Record). CrashLeavesOnly g.D.Disk.state old.disk new (IsUpToWithOrWithout old.node old.nodes m.records.items o)) (sym one)
    (put_moments g.D.Disk.state old old new m.records.items m.cut r c.decided_body.result c.requires.up.front.within refl refl c.decided_body.ensures (c.append_or_stop.ensures.moments (bodies_of (on_disk m)) c.requires.up.log))

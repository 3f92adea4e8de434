use Rattle.std.proofs.Common.{rules, ◌≡◌, ◌≢◌, [], ℕ, List, inr, arith, ap, subst, sym}
use Rattle.mn_io.specs.DiskModel.{LeavesOnly}
use Rattle.mn_redo.specs.Grammar.{IsLogAt, Stands}
use Rattle.mn_redo.specs.declared.redo.Phase.TheVariants.{Fresh, Closing}
use Rattle.mn_redo.proofs.Going.{still_started}
use Rattle.mn_redo.proofs.Moments.{left_now, none_leaves}
use Rattle.mn_redo.proofs.Unique.{has_not_fresh}
use Rattle.mn_redo.proofs.appender.Appender.start.Goals as goal

pub returns-then-ne-clause-any_moment : goal.returns-then-ne-clause-any_moment
returns-then-ne-clause-any_moment g c =
    let a = c.self.inside in
    let going = subst (λ p. p ≢ Closing) (sym (ap (λ s. s.phase) c.self.view_is)) c.requires.going in
    let isnt : a.phase ≢ Fresh = search rules in
    rw (← c.self.view_is) (λ bodies log h.
    none_leaves _ _ (g.D.Disk.is_disk _ h)
    (λ x image. inr (a.number, (a.start, subst (λ (l : List ℕ). IsLogAt a.node a.nodes l a.number a.start bodies) (sym (c.self.invariant.stable going h x image)) (log.log (still_started a.phase going isnt) h)))))

pub returns-in_err-write_header-clause-any_moment : goal.returns-in_err-write_header-clause-any_moment
returns-in_err-write_header-clause-any_moment g c =
    let a = c.self.inside in
    let fresh : a.phase ≡ Fresh = search rules in
    rw (← c.self.view_is) (λ bodies log h.
    subst (λ (l : List (List ℕ)). LeavesOnly (g.D.Disk.state a.disk) (g.D.Disk.state c.write_header.new.disk) (λ x. Stands a.node a.nodes x l)) (sym (log.none fresh)) (c.write_header.ensures.any_moment h))

pub returns-clause-any_moment : goal.returns-clause-any_moment
returns-clause-any_moment g c =
    let a = c.self.inside in
    let fresh : a.phase ≡ Fresh = search rules in
    rw (← c.self.view_is) (λ bodies log h.
    subst (λ (l : List (List ℕ)). LeavesOnly (g.D.Disk.state a.disk) (g.D.Disk.state c.write_header.new.disk) (λ x. Stands a.node a.nodes x l)) (sym (log.none fresh)) (c.write_header.ensures.any_moment h))

pub returns-clause-stands : goal.returns-clause-stands
returns-clause-stands g c =
    let a = c.self.inside in
    let fresh : a.phase ≡ Fresh = search rules in
    rw (← c.self.view_is) (λ bodies log h x image.
    subst (λ (l : List (List ℕ)). Stands a.node a.nodes x l) (sym (log.none fresh)) (left_now _ _ (λ y. Stands a.node a.nodes y []) (g.D.Disk.is_disk _ (c.write_header.ensures.honest h)) (c.write_header.ensures.any_moment h) x image))

pub returns-clause-header : goal.returns-clause-header
returns-clause-header g c = rw (← c.self.view_is) (λ h x image fresh.
    let a = c.self.inside in
    has_not_fresh a.node a.nodes x [] (0, (80, subst (λ (l : List ℕ). IsLogAt a.node a.nodes l 0 80 []) (sym (c.in_ok-write_header.ensures.stable h x image)) (c.in_ok-write_header.ensures.log h))) fresh)

pub returns-clause-header_stays : goal.returns-clause-header_stays
returns-clause-header_stays g c = rw (← c.self.view_is) (λ headed new x image fresh.
    let a = c.self.inside in
    let h = c.write_header.ensures.no_better new in
    has_not_fresh a.node a.nodes x [] (0, (80, subst (λ (l : List ℕ). IsLogAt a.node a.nodes l 0 80 []) (sym (c.in_ok-write_header.ensures.stable h x image)) (c.in_ok-write_header.ensures.log h))) fresh)

pub invariant_of-self-2 : goal.invariant_of-self-2
invariant_of-self-2 g c =
    let a = c.self.inside in
    let going = subst (λ p. p ≢ Closing) (sym (ap (λ s. s.phase) c.self.view_is)) c.requires.going in
    let fresh : a.phase ≡ Fresh = search rules in
    let room = c.self.invariant.room going in
    let blank = c.self.invariant.blank fresh in
    record {
      room = λ _. record {
        piece = room.piece;
        few = room.few;
        near = room.near;
        disk_changes = omega (arith, blank.start_changes, c.write_header.ensures.changes);
        disk_bytes = omega (arith, blank.start_bytes, c.write_header.ensures.room);
      };
      stable = λ _ h. c.in_ok-write_header.ensures.stable (c.write_header.ensures.no_better h);
      blank = λ e. absurd cc;
      few = c.self.invariant.few;
      order = c.self.invariant.order;
      rest = c.self.invariant.rest;
      log = λ _ h.
          let new = (g.D.Disk.state c.write_header.new.disk).content in
          let made = c.in_ok-write_header.ensures.log (c.write_header.ensures.no_better h) in
          record {
            bodies = [];
            log = subst (λ (n : ℕ). IsLogAt a.node a.nodes new n a.start []) (sym blank.no_number) (subst (λ (n : ℕ). IsLogAt a.node a.nodes new 0 n []) (sym blank.begins) made);
            gate_is = omega (arith, blank.first, blank.begins);
          };
    }

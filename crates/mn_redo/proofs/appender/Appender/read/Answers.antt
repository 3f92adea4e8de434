use Rattle.std.proofs.Common.{◌≡◌, ℕ, List, Err, true, false, length, sym, ◌∙◌, ap, subst, arith}
use Rattle.std.proofs.lemmas.Result.{err_from_is_err_and}
use Rattle.mn_redo.specs.Grammar.{Stands, records}
use Rattle.mn_redo.specs.Log.{listed_in}
use Rattle.mn_redo.specs.declared.open.OpenCause.TheVariants.{Damaged}
use Rattle.mn_redo.specs.declared.redo.Phase.TheVariants.{Fresh, Started}
use Rattle.mn_redo.proofs.Causes.{cause_in}
use Rattle.mn_redo.proofs.Listing.{found_stands}
use Rattle.mn_redo.proofs.Parse.{length-places}
use Rattle.mn_redo.proofs.Placed.{kept_length}
use Rattle.mn_redo.proofs.appender.Appender.read.Goals as goal
use Rattle.mn_redo.proofs.appender.Appender.read.Goals.{then-found, else-found}

pub returns-in_err-found-clause-told : goal.returns-in_err-found-clause-told
returns-in_err-found-clause-told g c at is =
    let r = err_from_is_err_and c.from_residual.result c.from_residual.ensures.1 in
    let same : r.0 ≡ Damaged at = ap cause_in (sym r.1 ∙ is) in
    let told = c.prepare.ensures.told at (c.in_err-found.was ∙ ap Err (sym r.2 ∙ same)) in
    rw (← c.self.view_is) told

pub returns-in_err-found-clause-damaged : goal.returns-in_err-found-clause-damaged
returns-in_err-found-clause-damaged g c =
    rw (← c.self.view_is) (λ h at is.
    let r = err_from_is_err_and c.from_residual.result c.from_residual.ensures.1 in
    let same : r.0 ≡ Damaged at = ap cause_in (sym r.1 ∙ is) in
    c.prepare.ensures.damaged h at (c.in_err-found.was ∙ ap Err (sym r.2 ∙ same)))

pub returns-clause-read : goal.returns-clause-read
returns-clause-read g c = rw (← c.self.view_is) (λ h.
    let a = c.self.inside in
    let found = c.in_ok-found.found in
    let told = c.in_ok-found.ensures in
    let bodies = listed_in 0 found.bytes.items in
    subst (λ (l : List ℕ). Stands a.node a.nodes l bodies) (told.content h) (found_stands a.node a.nodes _ found.number found.start bodies found.is_fresh (told.fresh h) told.none (told.log h)))

pub returns-clause-stands : goal.returns-clause-stands
returns-clause-stands g c = rw (← c.self.view_is) (λ h x image.
    let a = c.self.inside in
    let found = c.in_ok-found.found in
    let told = c.in_ok-found.ensures in
    let bodies = listed_in 0 found.bytes.items in
    subst (λ (l : List ℕ). Stands a.node a.nodes l bodies) (sym (told.stable h x image)) (found_stands a.node a.nodes _ found.number found.start bodies found.is_fresh (told.fresh h) told.none (told.log h)))

pub invariant_of-self-2 : goal.invariant_of-self-2
invariant_of-self-2 g c =
    let found = c.in_ok-found.found in
    let told = c.in_ok-found.ensures in
    let bodies = listed_in 0 found.bytes.items in
    let size = kept_length found.bytes.items told.kept.kept in
    let count : c.len.result ≡ length bodies = c.len.ensures ∙ found.gates.ok.0 ∙ ap length told.kept.gates_are ∙ length-places 0 bodies in
    let fresh : c.if-found.self ≡ Fresh → found.is_fresh ≡ true = elim c.if-found.branch [ then-found w ↦ λ _. w.if-found.true | else-found w ↦ λ e. let clash : Started ≡ Fresh = sym w.self-is ∙ e in absurd {A = found.is_fresh ≡ true} cc ] in
    let used : c.if-found.self ≡ Started → found.is_fresh ≡ false = elim c.if-found.branch [ then-found w ↦ λ e. let clash : Fresh ≡ Started = sym w.self-is ∙ e in absurd {A = found.is_fresh ≡ false} cc | else-found w ↦ λ _. w.if-found.false ] in
    record {
      room = λ _. record {
        piece = omega arith;
        few = omega (arith, count, told.kept.count, ap length told.kept.gates_are, length-places 0 bodies);
        near = omega (arith, c.len-2.ensures, found.bytes.ok.0, size, told.near);
        disk_changes = omega arith;
        disk_bytes = omega arith;
      };
      stable = λ _ h. told.stable (c.prepare.ensures.no_better h);
      blank = λ e.
          let none = told.none (fresh e) in
          record {
            none = omega (arith, count, ap length none.none);
            begins = none.start_is;
            first = omega (arith, c.len-2.ensures, found.bytes.ok.0, size, none.start_is, ap (λ (l : List (List ℕ)). length (records l)) none.none);
            no_number = none.number_is;
            start_changes = omega (arith, told.changes);
            start_bytes = omega (arith, told.room);
            fresh = λ h. told.fresh (c.prepare.ensures.no_better h) (fresh e);
          };
      few = omega (arith, told.few);
      order = omega arith;
      rest = omega arith;
      log = λ e h. record {
        bodies = bodies;
        log = told.log (c.prepare.ensures.no_better h) (used e);
        gate_is = omega (arith, c.len-2.ensures, found.bytes.ok.0, size);
      };
    }

pub returns-clause-log : goal.returns-clause-log
returns-clause-log g c =
    let found = c.in_ok-found.found in
    let told = c.in_ok-found.ensures in
    let bodies = listed_in 0 found.bytes.items in
    let size = kept_length found.bytes.items told.kept.kept in
    let count : c.len.result ≡ length bodies = c.len.ensures ∙ found.gates.ok.0 ∙ ap length told.kept.gates_are ∙ length-places 0 bodies in
    let fresh : c.if-found.self ≡ Fresh → found.is_fresh ≡ true = elim c.if-found.branch [ then-found w ↦ λ _. w.if-found.true | else-found w ↦ λ e. let clash : Started ≡ Fresh = sym w.self-is ∙ e in absurd {A = found.is_fresh ≡ true} cc ] in
    let used : c.if-found.self ≡ Started → found.is_fresh ≡ false = elim c.if-found.branch [ then-found w ↦ λ e. let clash : Fresh ≡ Started = sym w.self-is ∙ e in absurd {A = found.is_fresh ≡ false} cc | else-found w ↦ λ _. w.if-found.false ] in
    record {
      none = λ e. (told.none (fresh e)).none;
      count = count;
      few = omega (arith, count, told.kept.count, ap length told.kept.gates_are, length-places 0 bodies);
      gate = omega (arith, c.len-2.ensures, found.bytes.ok.0, size);
      near = omega (arith, c.len-2.ensures, found.bytes.ok.0, size, told.near);
      sizes = told.kept.kept.sizes;
      log = λ e h. told.log (c.prepare.ensures.no_better h) (used e);
    }

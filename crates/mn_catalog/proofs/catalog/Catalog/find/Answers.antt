use Rattle.std.proofs.Common.{◌≡◌, sym, ap, subst, ◌∙◌, arith, Some, slice_get, length, All}
use Rattle.mn_catalog.specs.Grammar.{IsFirstNamed}
use Rattle.mn_catalog.proofs.Versions.{first_is_named, none_is_named, no_such}
use Rattle.std.proofs.lemmas.Option.{slice_get-get_or}
use Rattle.mn_catalog.proofs.Names.{decides, none_next}
use Rattle.mn_catalog.proofs.catalog.Catalog.find.Goals as goal

pub loop-version-init : goal.loop-version-init
loop-version-init c = λ w e lt. absurd (omega (arith, lt))

pub returns-then-eq : goal.returns-then-eq
returns-then-eq c =
    let all = c.deref-entry-items.ensures.value ∙ c.self.view_is in
    let there = slice_get-get_or c.deref-entry-items.result.now c.loop-version.version c.entry-item.result c.loop-version-test.true in
    let same = (decides c.as_slice.result.now c.as_slice-in-loop-version.result.now).0 (sym c.if-eq.ensures) in
    let named : IsFirstNamed c.args.self.now c.args.name.now c.loop-version.version = record {
      entry = c.entry-item.result;
      there = subst (λ es. slice_get es c.loop-version.version ≡ Some c.entry-item.result) all (there ∙ ap Some (sym c.entry-item.is));
      named = sym c.as_slice.ensures.bytes ∙ same ∙ c.as_slice-in-loop-version.ensures.bytes;
      first = λ w e lt at. c.loop-version.invariant w e lt (ap (λ es. slice_get es w) all ∙ at);
    } in
    record { first = named; number = sym (first_is_named c.args.self.now c.args.name.now c.loop-version.version named).0 }

pub loop-version-preserved : goal.loop-version-preserved
loop-version-preserved c =
    none_next c.loop-version.version c.deref-entry-items.result.now c.args.name.now c.entry-item.result c.loop-version.invariant c.entry-item.is c.loop-version-test.true
    (λ named. let same = (decides c.as_slice.result.now c.as_slice-in-loop-version.result.now).1 (c.as_slice.ensures.bytes ∙ named ∙ sym c.as_slice-in-loop-version.ensures.bytes) in let e = c.if-eq.ensures in absurd cc)

pub returns : goal.returns
returns c =
    let all = c.deref-entry-items.ensures.value ∙ c.self.view_is in
    let few = c.loop-version-test.false in
    let none : All (λ e. e.name ≡ c.args.name.now → ⊥) c.args.self.now = λ k d lt named.
    let there = slice_get-get_or c.args.self.now k d lt in
    c.loop-version.invariant k _ (omega (arith, lt, few, ap length all)) (ap (λ es. slice_get es k) all ∙ there) named in
    record { first = none; number = sym (none_is_named c.args.self.now c.args.name.now (no_such c.args.self.now c.args.name.now none)).0 }

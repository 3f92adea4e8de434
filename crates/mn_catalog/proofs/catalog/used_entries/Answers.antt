use Rattle.std.proofs.Common.{rules, ◌≡◌, sym, subst, ◌∙◌, inl, ◌<◌, ◌≤◌, length, vec_len, arith}
use Rattle.std.proofs.lemmas.Result.{err_from_is_err_and}
use Rattle.mn_catalog.specs.Places.{IsEntryRead, AreRead}
use Rattle.mn_catalog.specs.Grammar.{place_bytes, RefusesCatalog, SpellsNoCatalog, IsWantOfMemory}
use Rattle.mn_catalog.proofs.Faults.{none_read, rest_read, unused_read, used_read, used_behind, none_behind, refused, outside}
use Rattle.mn_catalog.proofs.catalog.used_entries.Goals as goal

pub loop-version-init : goal.loop-version-init
loop-version-init c = rw c.new-entries.ensures.items (none_read c.args.bytes.now)

pub returns-in_err-entry-clause-bad : goal.returns-in_err-entry-clause-bad
returns-in_err-entry-clause-bad c =
    let r = err_from_is_err_and c.from_residual.result c.from_residual.ensures.1 in
    let told = refused c.args.bytes.now c.loop-version.version c.loop-version.entries.items c.requires.whole c.loop-version.invariant c.loop-version-test.true c.in_err-entry.field-0.0 c.in_err-entry.ensures.bad in
    rw r.1 (subst (RefusesCatalog c.args.bytes.now) (sym r.2) told)

pub returns-in_err-entry-clause-outside : goal.returns-in_err-entry-clause-outside
returns-in_err-entry-clause-outside c =
    let r = err_from_is_err_and c.from_residual.result c.from_residual.ensures.1 in
    let told = outside c.args.bytes.now c.loop-version.version c.loop-version-test.true c.in_err-entry.field-0.0 c.in_err-entry.ensures.bad in
    rw r.1 (subst (λ e. (IsWantOfMemory e → ⊥) → SpellsNoCatalog c.args.bytes.now) (sym r.2) told)

pub loop-version-preserved-in_default : goal.loop-version-preserved-in_default
loop-version-preserved-in_default c =
    let place = place_bytes c.loop-version.version c.args.bytes.now in
    unused_read c.args.bytes.now c.loop-version.version c.loop-version.entries.items c.loop-version.invariant (subst (IsEntryRead place) c.in_default.is c.in_ok-entry.ensures.read)

fewer : (c : goal.After-drop-entries-then-len-from) → length c.loop-version.entries.items < c.loop-version.version
fewer c =
    let items : vec_len c.loop-version.entries ≡ length c.loop-version.entries.items = search rules in
    omega (arith, c.if-len-from.true, c.len.ensures, c.from.ensures, items)

pub returns-then-len-from-clause-bad : goal.returns-then-len-from-clause-bad
returns-then-len-from-clause-bad c =
    let place = place_bytes c.loop-version.version c.args.bytes.now in
    inl (
      c.requires.whole,
      used_behind c.args.bytes.now c.loop-version.version c.loop-version.entries.items c.in-Some.entry c.loop-version.invariant c.loop-version-test.true (fewer c)
          (subst (IsEntryRead place) c.in-Some.is c.in_ok-entry.ensures.read),
    )

pub returns-then-len-from-clause-outside : goal.returns-then-len-from-clause-outside
returns-then-len-from-clause-outside c = λ other.
    let place = place_bytes c.loop-version.version c.args.bytes.now in
    none_behind c.args.bytes.now c.loop-version.version c.loop-version.entries.items c.in-Some.entry c.loop-version.invariant c.loop-version-test.true (fewer c)
    (subst (IsEntryRead place) c.in-Some.is c.in_ok-entry.ensures.read)

pub loop-version-preserved : goal.loop-version-preserved
loop-version-preserved c =
    let place = place_bytes c.loop-version.version c.args.bytes.now in
    let items : vec_len c.loop-version.entries ≡ length c.loop-version.entries.items = search rules in
    let full : c.loop-version.version ≤ length c.loop-version.entries.items = omega (arith, c.if-len-from.false, c.len.ensures, c.from.ensures, items) in
    rw c.in_ok-push.ensures.items (
    used_read c.args.bytes.now c.loop-version.version c.loop-version.entries.items c.in-Some.entry c.loop-version.invariant full
    (subst (IsEntryRead place) c.in-Some.is c.in_ok-entry.ensures.read)
    )

pub returns-clause-read : goal.returns-clause-read
returns-clause-read c =
    let all : c.loop-version.version ≡ 64 = omega (arith, c.loop-version-test.false, c.loop-version.auto.version-end) in
    subst (λ m. AreRead m c.args.bytes.now c.loop-version.entries.items) all c.loop-version.invariant

pub returns-then-are_unused_from-clause-read : goal.returns-then-are_unused_from-clause-read
returns-then-are_unused_from-clause-read c =
    let place = place_bytes c.loop-version.version c.args.bytes.now in
    rest_read c.args.bytes.now c.loop-version.version c.loop-version.entries.items c.requires.whole c.loop-version-test.true c.loop-version.invariant
    (subst (IsEntryRead place) c.in_default.is c.in_ok-entry.ensures.read)
    (sym c.are_unused_from.ensures ∙ c.if-are_unused_from.true)

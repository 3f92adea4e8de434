use Rattle.std.proofs.Common.{sym, ap, ◌∙◌, ◌≡◌, length, bytes_eq, true, false, subst, ℕ, add-one, arith}
use Rattle.mn_base.specs.Store.{Head}
use Rattle.mn_plain.specs.Kept.{held_head}
use Rattle.mn_plain.proofs.KeptLemmas.{Passes, passes_more, named, no_version, version_at}
use Rattle.mn_plain.proofs.store.place_of.Goals as goal

pub returns-then-eq : goal.returns-then-eq
returns-then-eq c =
    let held = c.at-version.result.now in
    let found = version_at c.args.versions.now c.loop-at.at (λ v. v.head ≡ held_head held) c.at-version.ensures in
    let same : bytes_eq held.name c.args.name.now ≡ true = rw (c.as_slice.ensures.bytes, c.as_slice-in-loop-at.ensures.bytes) at (sym c.eq.ensures ∙ c.if-eq.true) in
    (found.0, named c.args.versions.now c.args.name.now c.loop-at.at found.0 c.loop-at.invariant found.1 (ap (λ (h : Head). bytes_eq h.name c.args.name.now) found.2 ∙ same), sym (ap (λ (h : Head). h.frozen) found.2))

pub loop-at-preserved : goal.loop-at-preserved
loop-at-preserved c =
    let held = c.at-version.result.now in
    let found = version_at c.args.versions.now c.loop-at.at (λ v. v.head ≡ held_head held) c.at-version.ensures in
    let other : bytes_eq held.name c.args.name.now ≡ false = rw (c.as_slice.ensures.bytes, c.as_slice-in-loop-at.ensures.bytes) at (sym c.eq.ensures ∙ c.if-eq.false) in
    subst (λ (n : ℕ). Passes c.args.versions.now c.args.name.now n) (sym (add-one c.loop-at.at)) (passes_more c.args.versions.now c.args.name.now c.loop-at.at found.0 c.loop-at.invariant found.1 (ap (λ (h : Head). bytes_eq h.name c.args.name.now) found.2 ∙ other))

pub returns : goal.returns
returns c =
    let end : c.loop-at.at ≡ length c.args.versions.now = omega arith in
    no_version c.args.versions.now c.args.name.now (subst (λ (n : ℕ). Passes c.args.versions.now c.args.name.now n) end c.loop-at.invariant)

use Rattle.std.proofs.Common.{◌≡◌, ◌∙◌, slice_get, subst}
use Rattle.std.specs.Prelude.{IsSomeAnd}
use Rattle.mn_base.specs.declared.ids.VersionNo.{VersionNo}
use Rattle.mn_hist.specs.Audit.{told_with}
use Rattle.mn_hist.proofs.Lines.{told_more, told_whole}
use Rattle.mn_hist.proofs.versions.versions_of.Goals as goal

pub loop-at-preserved : goal.loop-at-preserved
loop-at-preserved c =
    told_more c.args.store.now c.as_slice-version-items.result.now c.loop-at.at c.version-item.result c.in_ok-line.line c.loop-at.lines.items c.push.new.self.items (c.as_slice-version-items.ensures ∙ c.in_ok-listing.ensures) c.loop-at-test.true c.version-item.is
    (subst (λ (n : VersionNo). IsSomeAnd (slice_get c.args.store.now n.0) (λ v. c.in_ok-line.line ≡ told_with c.version-item.result v)) c.in_ok-version_at.ensures c.in_ok-line.ensures)
    c.in_ok-push.ensures.items c.loop-at.invariant

pub returns : goal.returns
returns c = c.from_vec.ensures ∙ told_whole c.args.store.now c.as_slice-version-items.result.now c.loop-at.at c.loop-at.lines.items (c.as_slice-version-items.ensures ∙ c.in_ok-listing.ensures) c.loop-at-test.false c.loop-at.invariant

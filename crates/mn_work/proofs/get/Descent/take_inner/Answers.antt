use Rattle.std.proofs.Common.{◌∙◌, ap, refl, subst, sym}
use Rattle.mn_page.specs.Grammar.{IsPage}
use Rattle.mn_work.specs.declared.get.Descent.{Descent}
use Rattle.mn_work.specs.Knows.{ArePages}
use Rattle.mn_work.proofs.Cached.{put}
use Rattle.mn_work.specs.Walks.{IsAbove}
use Rattle.mn_work.proofs.Descents.{gone_above, gone_version}
use Rattle.mn_work.proofs.get.Descent.take_inner.Goals as goal

pub returns-then-not-goes-clause-kept : goal.returns-then-not-goes-clause-kept
returns-then-not-goes-clause-kept c =
    (refl, refl, λ are. subst ArePages (sym c.in_ok-put.ensures.pages) (put c.args.self.now.addr c.args.inner.page c.args.known.now.cache c.requires.page c.requires.high are))

pub returns-clause-kept : goal.returns-clause-kept
returns-clause-kept c =
    (refl, refl, λ are. subst ArePages (sym c.in_ok-put.ensures.pages) (put c.args.self.now.addr c.args.inner.page c.args.known.now.cache c.requires.page c.requires.high are))

pub returns-clause-version : goal.returns-clause-version
returns-clause-version c =
    ap (λ (d : Descent). d.version) c.below-below.ensures ∙ gone_version c.args.self.now c.get-page.result.now c.args.key.now

pub returns-clause-above : goal.returns-clause-above
returns-clause-above c =
    subst (λ (d : Descent). IsAbove d.above) (sym c.below-below.ensures)
    (gone_above c.args.self.now c.get-page.result.now c.args.key.now (subst IsPage (sym c.get-page.ensures) c.requires.page) c.requires.above)

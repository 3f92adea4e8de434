use Rattle.std.proofs.Common.{refl, ◌∙◌, true, Some, ap, subst, sym}
use Rattle.mn_work.specs.Knows.{ArePages}
use Rattle.mn_work.specs.declared.next.Next.{Next}
use Rattle.mn_work.specs.Cached.{without_next}
use Rattle.mn_work.proofs.Cached.{drops, stays, without}
use Rattle.mn_work.proofs.get.Descent.reach_anew.Goals as goal

pub returns-clause-kept : goal.returns-clause-kept
returns-clause-kept c =
    (refl, refl, λ are. subst ArePages (sym c.drop_page.ensures.pages) (without c.args.self.now.addr c.args.known.now.cache are))

pub returns-then-not-has_node-clause-cache : goal.returns-then-not-has_node-clause-cache
returns-then-not-has_node-clause-cache c = stays true _ c.args.known.now.cache c.args.known.now.cache refl

pub returns-clause-cache : goal.returns-clause-cache
returns-clause-cache c =
    drops (Some c.want.result) c.args.known.now.cache c.drop_page.new.self
    (c.drop_page.ensures.pages ∙ ap (λ (n : Next). without_next (Some n) c.args.known.now.cache) (sym c.want.ensures))

use Rattle.std.proofs.Common.{refl, subst, sym}
use Rattle.mn_work.specs.Knows.{ArePages}
use Rattle.mn_work.proofs.Cached.{stays, without}
use Rattle.mn_work.proofs.child.Child.reach.Goals as goal

pub returns-clause-kept : goal.returns-clause-kept
returns-clause-kept c =
    (refl, refl, λ are. subst ArePages (sym c.drop_page.ensures.pages) (without c.args.self.now.root c.args.known.now.cache are))

pub returns-then-not-has_node-clause-cache : goal.returns-then-not-has_node-clause-cache
returns-then-not-has_node-clause-cache c = stays c.args.later _ c.args.known.now.cache c.args.known.now.cache refl

use Rattle.std.proofs.Common.{true, refl, subst, sym}
use Rattle.mn_work.specs.Knows.{ArePages}
use Rattle.mn_work.proofs.Cached.{drops, stays, without}
use Rattle.mn_work.proofs.scan.reach_anew.Goals as goal

pub returns-clause-kept : goal.returns-clause-kept
returns-clause-kept c =
    (refl, refl, λ are. subst ArePages (sym c.drop_page.ensures.pages) (without c.in-Need.addr c.args.known.now.cache are))

pub returns-clause-cache : goal.returns-clause-cache
returns-clause-cache c = drops _ c.args.known.now.cache c.drop_page.new.self c.drop_page.ensures.pages

pub returns-in_default-clause-cache : goal.returns-in_default-clause-cache
returns-in_default-clause-cache c = stays true _ c.args.known.now.cache c.args.known.now.cache refl

pub returns-then-not-has_node-clause-cache : goal.returns-then-not-has_node-clause-cache
returns-then-not-has_node-clause-cache c = stays true _ c.args.known.now.cache c.args.known.now.cache refl

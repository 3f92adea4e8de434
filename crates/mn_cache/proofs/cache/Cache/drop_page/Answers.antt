use Rattle.std.proofs.Common.{◌≡◌, sym, ap, subst, ◌∙◌}
use Rattle.mn_cache.specs.Pages.{pages_of, addr_of, pages_without, page_at, AreKept, AreSpelled}
use Rattle.mn_cache.proofs.Kept.{all_but, here, without, gone, kept_without}
use Rattle.mn_cache.proofs.cache.Cache.drop_page.Goals as goal

-- the pages inside, when one is out
dropped : (c : goal.Joined-pop) → pages_of c.pop.new.self.entries ≡ pages_without c.args.addr (pages_of c.self.inside.pages.entries)
dropped c =
    let at = here c.new.result c.args.addr c.new.ensures.node c.new.ensures.slot in let es = c.self.inside.pages.entries in
    ap (λ p. pages_of p.entries) c.pop.ensures.entries ∙ sym (without (addr_of c.new.result) es) ∙ ap (λ a. pages_without a (pages_of es)) at

pub invariant_of-self : goal.invariant_of-self
invariant_of-self c = (
  ap (λ p. p.cap) c.pop.ensures.entries ∙ c.self.invariant.0,
  subst AreKept (sym (dropped c)) (kept_without c.args.addr _ c.self.invariant.1),
  subst (λ p. AreSpelled p.entries) (sym c.pop.ensures.entries) (all_but _ _ c.self.inside.pages.entries c.self.invariant.2),
)

pub returns-clause-pages : goal.returns-clause-pages
returns-clause-pages c = dropped c ∙ ap (pages_without c.args.addr) c.self.view_is

pub returns-clause-gone : goal.returns-clause-gone
returns-clause-gone c = ap (page_at c.args.addr) (dropped c) ∙ gone c.args.addr _ c.self.invariant.1

pub returns-clause-kept : goal.returns-clause-kept
returns-clause-kept c = subst AreKept (sym (dropped c)) (kept_without c.args.addr _ c.self.invariant.1)

use Rattle.std.proofs.Common.{◌≡◌, refl, sym, ap, subst, ◌∙◌}
use Rattle.mn_cache.specs.Pages.{pages_of, addr_of, pages_put, page_at, AreKept, AreSpelled}
use Rattle.mn_cache.proofs.Kept.{here, put, put_found, kept_put, spelled_put}
use Rattle.mn_cache.proofs.cache.Cache.put.Goals as goal

-- the pages inside, when the new one is in
moved : (c : goal.Joined-branch-2) → pages_of c.put.new.self.entries ≡ pages_put c.args.addr c.args.spelled.page (pages_of c.self.inside.pages.entries)
moved c =
    let at = here c.new.result c.args.addr c.new.ensures.node c.new.ensures.slot in let es = c.self.inside.pages.entries in
    ap (λ p. pages_of p.entries) c.in_ok-put.ensures.entries
    ∙ sym (put (addr_of c.new.result) es c.self.inside.pages.cap c.new.result c.args.spelled refl c.self.invariant.0 c.self.invariant.1.0)
    ∙ ap (λ a. pages_put a c.args.spelled.page (pages_of es)) at

pub invariant_of-self-2 : goal.invariant_of-self-2
invariant_of-self-2 c = (
  ap (λ p. p.cap) c.in_ok-put.ensures.entries ∙ c.self.invariant.0,
  subst AreKept (sym (moved c)) (kept_put c.args.addr _ c.self.invariant.1 c.args.spelled.page),
  subst (λ p. AreSpelled p.entries) (sym c.in_ok-put.ensures.entries) (spelled_put _ c.self.inside.pages.entries c.self.invariant.2 c.self.inside.pages.cap c.new.result c.args.spelled c.requires.spelled),
)

pub returns-clause-pages : goal.returns-clause-pages
returns-clause-pages c = moved c ∙ ap (pages_put c.args.addr c.args.spelled.page) c.self.view_is

pub returns-clause-found : goal.returns-clause-found
returns-clause-found c = ap (page_at c.args.addr) (moved c) ∙ put_found c.args.addr c.args.spelled.page _

pub returns-clause-kept : goal.returns-clause-kept
returns-clause-kept c = subst AreKept (sym (moved c)) (kept_put c.args.addr _ c.self.invariant.1 c.args.spelled.page)

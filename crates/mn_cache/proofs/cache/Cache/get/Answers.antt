use Rattle.std.proofs.Common.{refl, sym, ap, subst, ◌∙◌}
use Rattle.std.specs.Option.{option_map}
use Rattle.mn_cache.specs.Pages.{pages_of, addr_of, pages_used, page_at, AreKept, AreSpelled}
use Rattle.mn_cache.proofs.Kept.{here, found, page_lent, spelled_found, spelled_lent, spelled_used, used, kept_used}
use Rattle.mn_cache.proofs.cache.Cache.get.Goals as goal

pub invariant_of-self : goal.invariant_of-self
invariant_of-self c =
    let at = c.new.result in let es = c.self.inside.pages.entries in let ends = c.get.follows.holds-at-none in (
      ap (λ p. p.cap) ends ∙ c.self.invariant.0,
      subst AreKept (used (addr_of at) es ∙ sym (ap (λ p. pages_of p.entries) ends)) (kept_used (addr_of at) (pages_of es) c.self.invariant.1),
      subst (λ p. AreSpelled p.entries) (sym ends) (spelled_used _ es c.self.invariant.2),
    )

pub returns : goal.returns
returns c =
    let at = here c.new.result c.args.addr c.new.ensures.node c.new.ensures.slot in let es = c.self.inside.pages.entries in
    let ends = c.get.follows.holds-at-none in
    rw (← c.self.view_is) (
      (
        refl,
        λ _. tt,
        ap (λ p. pages_of p.entries) ends ∙ sym (used (addr_of c.new.result) es) ∙ ap (λ a. pages_used a (pages_of es)) at,
      ),
      record {
        used = tt;
        found = page_lent c.get.result ∙ ap (option_map (λ s. s.page)) c.get.ensures.value ∙ sym (found (addr_of c.new.result) es) ∙ ap (λ a. page_at a (pages_of es)) at;
        spelled = spelled_lent c.get.result _ c.get.ensures.value (spelled_found _ es c.self.invariant.2);
        kept = c.self.invariant.1;
      },
    )

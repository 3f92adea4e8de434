use Rattle.std.proofs.Common.{◌≡◌, ◌∙◌, Some, ap, refl, subst, sym}
use Rattle.std.specs.Option.{option_map}
use Rattle.mn_cache.specs.Pages.{page_at}
use Rattle.mn_cache.specs.declared.cache.Spelled.{Spelled}
use Rattle.mn_page.specs.Grammar.{IsPage, page_bytes}
use Rattle.mn_work.specs.Knows.{ArePages}
use Rattle.mn_work.proofs.Cached.{found, one_used, used}
use Rattle.mn_work.proofs.known.Known.kept_page.Goals as goal

pub returns-in_err-try_copy-in-Some-clause-kept : goal.returns-in_err-try_copy-in-Some-clause-kept
returns-in_err-try_copy-in-Some-clause-kept c =
    (refl, refl, λ are. subst ArePages (sym c.get.follows.holds-at-none) (used c.args.addr c.args.self.now.cache are))

pub returns-in_ok-try_copy-in-Some-clause-kept : goal.returns-in_ok-try_copy-in-Some-clause-kept
returns-in_ok-try_copy-in-Some-clause-kept c =
    (refl, refl, λ are. subst ArePages (sym c.get.follows.holds-at-none) (used c.args.addr c.args.self.now.cache are))

pub returns-in_ok-try_copy-in-Some-clause-page : goal.returns-in_ok-try_copy-in-Some-clause-page
returns-in_ok-try_copy-in-Some-clause-page c =
    subst (λ (s : Spelled). IsPage s.page) (sym c.in_ok-try_copy-in-Some.ensures)
    (found c.args.addr c.args.self.now.cache c.in-Some.spelled.now.page c.requires.pages (sym c.get.ensures.found ∙ ap (option_map (λ s. s.now.page)) c.in-Some.is)).0

pub returns-in_err-try_copy-in-Some-clause-used : goal.returns-in_err-try_copy-in-Some-clause-used
returns-in_err-try_copy-in-Some-clause-used c = one_used c.args.addr c.args.self.now.cache _ c.get.follows.holds-at-none

pub returns-in_ok-try_copy-in-Some-clause-used : goal.returns-in_ok-try_copy-in-Some-clause-used
returns-in_ok-try_copy-in-Some-clause-used c = one_used c.args.addr c.args.self.now.cache _ c.get.follows.holds-at-none

pub returns-in_ok-try_copy-in-Some-clause-spelled : goal.returns-in_ok-try_copy-in-Some-clause-spelled
returns-in_ok-try_copy-in-Some-clause-spelled c =
    subst (λ (s : Spelled). s.bytes ≡ page_bytes s.page) (sym c.in_ok-try_copy-in-Some.ensures) (rw c.in-Some.is at c.get.ensures.spelled)

pub returns-in_ok-try_copy-in-Some-clause-found : goal.returns-in_ok-try_copy-in-Some-clause-found
returns-in_ok-try_copy-in-Some-clause-found c =
    subst (λ (s : Spelled). page_at c.args.addr c.args.self.now.cache ≡ Some s.page) (sym c.in_ok-try_copy-in-Some.ensures)
    (sym c.get.ensures.found ∙ ap (option_map (λ s. s.now.page)) c.in-Some.is)

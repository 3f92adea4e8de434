use Rattle.std.proofs.Common.{◌≡◌, ◌∙◌, false, Option, Some, ap, refl, subst, sym}
use Rattle.std.specs.Option.{option_map}
use Rattle.mn_page.specs.Grammar.{IsPage}
use Rattle.mn_work.specs.declared.next.Next.{Next}
use Rattle.mn_work.specs.Children.{WantsRoot}
use Rattle.mn_work.specs.Knows.{ArePages}
use Rattle.mn_work.proofs.Cached.{found, one_used, used}
use Rattle.mn_cache.specs.Pages.{page_at}
use Rattle.mn_page.specs.declared.page.Page.{Page}
use Rattle.mn_work.specs.Firsts.{ReachesRoot}
use Rattle.mn_work.proofs.Children.{root_last, takes_kept}
use Rattle.mn_work.proofs.Firsts.{reaches_root}
use Rattle.mn_work.proofs.Paths.{used_keep}
use Rattle.mn_work.proofs.child.Child.reach_kept.Goals as goal

pub returns-in_err-page-in-Some-clause-kept : goal.returns-in_err-page-in-Some-clause-kept
returns-in_err-page-in-Some-clause-kept c =
    (refl, refl, λ are. subst ArePages (sym c.get.follows.holds-at-none) (used c.args.self.now.root c.args.known.now.cache are))

pub keep-taken-requires : goal.keep-taken-requires
keep-taken-requires c = record {
  page = subst IsPage (sym c.in_ok-page-in-Some.ensures)
      (found c.args.self.now.root c.args.known.now.cache c.in-Some.spelled.now.page c.requires.pages (sym c.get.ensures.found ∙ ap (option_map (λ s. s.now.page)) c.in-Some.is)).0;
}

pub returns-clause-kept : goal.returns-clause-kept
returns-clause-kept c =
    (refl, refl, λ are. subst ArePages (sym c.get.follows.holds-at-none) (used c.args.self.now.root c.args.known.now.cache are))

pub returns-clause-wants : goal.returns-clause-wants
returns-clause-wants c =
    let is : IsPage c.in_ok-page-in-Some.page =
    subst IsPage (sym c.in_ok-page-in-Some.ensures)
    (found c.args.self.now.root c.args.known.now.cache c.in-Some.spelled.now.page c.requires.pages (sym c.get.ensures.found ∙ ap (option_map (λ s. s.now.page)) c.in-Some.is)).0 in
    subst (λ (next : Option Next). WantsRoot c.args.known.now false c.args.self.now c.keep-taken.new.self next) (sym c.failing.ensures)
    (takes_kept c.args.known.now c.args.self.now c.keep-taken.new.self c.in_ok-page-in-Some.page c.keep-taken.result is c.requires.node c.keep-taken.ensures.taken)

pub returns-in_err-page-in-Some-clause-cache : goal.returns-in_err-page-in-Some-clause-cache
returns-in_err-page-in-Some-clause-cache c = one_used c.args.self.now.root c.args.known.now.cache _ c.get.follows.holds-at-none

pub returns-clause-cache : goal.returns-clause-cache
returns-clause-cache c = one_used c.args.self.now.root c.args.known.now.cache _ c.get.follows.holds-at-none

pub returns-clause-last : goal.returns-clause-last
returns-clause-last c =
    root_last c.args.known.now.cache c.args.known.now.catalog c.args.self.now c.keep-taken.new.self c.in_ok-page-in-Some.page c.keep-taken.result
    (subst (λ (p : Page). page_at c.args.self.now.root c.args.known.now.cache ≡ Some p) (sym c.in_ok-page-in-Some.ensures) (sym c.get.ensures.found ∙ ap (option_map (λ s. s.now.page)) c.in-Some.is))
    c.keep-taken.ensures.stays c.keep-taken.ensures.taken

pub returns-clause-first : goal.returns-clause-first
returns-clause-first c =
    let new = record c.args.known.now { cache = c.get.follows.lender-at-none } in
    subst (ReachesRoot new c.args.self.now c.keep-taken.new.self) (sym c.failing.ensures)
    (reaches_root new c.args.self.now c.keep-taken.new.self c.in_ok-page-in-Some.page c.keep-taken.result
    (used_keep c.args.self.now.root c.args.known.now.cache c.get.follows.lender-at-none (one_used c.args.self.now.root c.args.known.now.cache _ c.get.follows.holds-at-none)
    ∙ subst (λ (p : Page). page_at c.args.self.now.root c.args.known.now.cache ≡ Some p) (sym c.in_ok-page-in-Some.ensures) (sym c.get.ensures.found ∙ ap (option_map (λ s. s.now.page)) c.in-Some.is))
    c.keep-taken.ensures.taken)

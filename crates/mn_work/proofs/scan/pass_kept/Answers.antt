use Rattle.std.proofs.Common.{◌≡◌, ◌∙◌, ◌≤◌, Some, ap, refl, subst, sym}
use Rattle.std.specs.Option.{option_map}
use Rattle.mn_cache.specs.Pages.{page_at}
use Rattle.mn_page.specs.Grammar.{IsPage, height_of}
use Rattle.mn_page.specs.declared.page.Page.{Page}
use Rattle.mn_work.specs.Knows.{ArePages}
use Rattle.mn_work.proofs.Cached.{found, one_used, used}
use Rattle.mn_work.specs.Firsts.{ScanPasses}
use Rattle.mn_work.proofs.Firsts.{scan_passes, scan_passes_lower}
use Rattle.mn_work.proofs.Paths.{used_keep}
use Rattle.mn_work.proofs.Scans.{not_missing, stays_alike}
use Rattle.mn_work.proofs.scan.pass_kept.Goals as goal

pub returns-in_err-page-in-Some-clause-kept : goal.returns-in_err-page-in-Some-clause-kept
returns-in_err-page-in-Some-clause-kept c =
    (refl, refl, λ are. subst ArePages (sym c.get.follows.holds-at-none) (used c.args.addr c.args.known.now.cache are))

pub keep-requires-clause-page : goal.keep-requires-clause-page
keep-requires-clause-page c =
    subst IsPage (sym c.in_ok-page-in-Some.ensures)
    (found c.args.addr c.args.known.now.cache c.in-Some.spelled.now.page c.requires.pages (sym c.get.ensures.found ∙ ap (option_map (λ s. s.now.page)) c.in-Some.is)).0

pub returns-in_err-taken-clause-kept : goal.returns-in_err-taken-clause-kept
returns-in_err-taken-clause-kept c =
    (refl, refl, λ are. subst ArePages (sym c.get.follows.holds-at-none) (used c.args.addr c.args.known.now.cache are))

pub returns-clause-kept : goal.returns-clause-kept
returns-clause-kept c =
    (refl, refl, λ are. subst ArePages (sym c.get.follows.holds-at-none) (used c.args.addr c.args.known.now.cache are))

pub returns-clause-alike : goal.returns-clause-alike
returns-clause-alike c =
    let high : 1 ≤ height_of c.in_ok-page-in-Some.page.body =
    subst (λ (p : Page). 1 ≤ height_of p.body) (sym c.in_ok-page-in-Some.ensures)
    (found c.args.addr c.args.known.now.cache c.in-Some.spelled.now.page c.requires.pages (sym c.get.ensures.found ∙ ap (option_map (λ s. s.now.page)) c.in-Some.is)).1 in
    stays_alike c.args.known.now.catalog c.args.name.now c.args.scan.now c.keep.new.scan c.args.addr c.in_ok-page-in-Some.page c.in_ok-taken.taken high c.in_ok-taken.ensures.taken c.in_ok-taken.ensures.stays

pub returns-clause-missing : goal.returns-clause-missing
returns-clause-missing c e = absurd (not_missing c.in_ok-taken.taken (sym c.passage_of.ensures ∙ e))

pub returns-in_err-page-in-Some-clause-cache : goal.returns-in_err-page-in-Some-clause-cache
returns-in_err-page-in-Some-clause-cache c = one_used c.args.addr c.args.known.now.cache _ c.get.follows.holds-at-none

pub returns-in_err-taken-clause-cache : goal.returns-in_err-taken-clause-cache
returns-in_err-taken-clause-cache c = one_used c.args.addr c.args.known.now.cache _ c.get.follows.holds-at-none

pub returns-clause-cache : goal.returns-clause-cache
returns-clause-cache c = one_used c.args.addr c.args.known.now.cache _ c.get.follows.holds-at-none

pub returns-clause-lower : goal.returns-clause-lower
returns-clause-lower c on =
    let high : 1 ≤ height_of c.in_ok-page-in-Some.page.body =
    subst (λ (p : Page). 1 ≤ height_of p.body) (sym c.in_ok-page-in-Some.ensures)
    (found c.args.addr c.args.known.now.cache c.in-Some.spelled.now.page c.requires.pages (sym c.get.ensures.found ∙ ap (option_map (λ s. s.now.page)) c.in-Some.is)).1 in
    scan_passes_lower c.args.known.now.catalog c.args.name.now c.args.scan.now c.args.addr c.in_ok-page-in-Some.page c.keep.new.scan c.in_ok-taken.taken high c.in_ok-taken.ensures.taken (sym c.passage_of.ensures ∙ on)

pub returns-clause-passes : goal.returns-clause-passes
returns-clause-passes c =
    let at = sym c.get.ensures.found ∙ ap (option_map (λ s. s.now.page)) c.in-Some.is in
    let high : 1 ≤ height_of c.in_ok-page-in-Some.page.body =
    subst (λ (p : Page). 1 ≤ height_of p.body) (sym c.in_ok-page-in-Some.ensures)
    (found c.args.addr c.args.known.now.cache c.in-Some.spelled.now.page c.requires.pages at).1 in
    let new = record c.args.known.now { cache = c.get.follows.lender-at-none } in
    let kept : page_at c.args.addr c.get.follows.lender-at-none ≡ Some c.in_ok-page-in-Some.page =
    used_keep c.args.addr c.args.known.now.cache c.get.follows.lender-at-none (one_used c.args.addr c.args.known.now.cache _ c.get.follows.holds-at-none)
    ∙ (at ∙ ap Some (sym c.in_ok-page-in-Some.ensures)) in
    subst (ScanPasses new c.args.name.now c.args.scan.now c.args.addr c.keep.new.scan) (sym c.passage_of.ensures)
    (scan_passes new c.args.name.now c.args.scan.now c.args.addr c.in_ok-page-in-Some.page c.keep.new.scan c.in_ok-taken.taken high kept c.in_ok-taken.ensures.taken)

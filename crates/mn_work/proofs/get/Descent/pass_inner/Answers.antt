use Rattle.std.proofs.Common.{◌≡◌, ◌≤◌, ◌∙◌, List, Some, false, true, ap, arith, eqb-true, refl, subst, sym}
use Rattle.std.specs.Option.{option_map}
use Rattle.mn_page.specs.Grammar.{IsPage, height_of}
use Rattle.mn_work.specs.declared.get.Descent.{Descent}
use Rattle.mn_work.specs.Descents.{gone_below}
use Rattle.mn_work.specs.Knows.{ArePages}
use Rattle.mn_work.specs.Paths.{IsLower, LeadsTo}
use Rattle.mn_work.specs.Walks.{IsAbove}
use Rattle.mn_work.proofs.Cached.{found, one_used, used}
use Rattle.mn_work.proofs.Descents.{gone_above, gone_version}
use Rattle.mn_page.specs.declared.entry.CatEntry.{CatEntry}
use Rattle.mn_path.specs.Walk.{front_of}
use Rattle.mn_work.specs.Descents.{is_on_way}
use Rattle.mn_work.proofs.Paths.{goes_lower, leads_still, none_leaf, on_way_as, some_leads, used_keep}
use Rattle.mn_work.proofs.get.Descent.pass_inner.Goals as goal

pub returns-in_default-get-clause-kept : goal.returns-in_default-get-clause-kept
returns-in_default-get-clause-kept c =
    (refl, refl, λ are. subst ArePages (sym c.get.follows.holds-at-none) (used c.args.self.now.addr c.args.known.now.cache are))

pub returns-in_default-get-clause-cache : goal.returns-in_default-get-clause-cache
returns-in_default-get-clause-cache c = one_used c.args.self.now.addr c.args.known.now.cache _ c.get.follows.holds-at-none

pub returns-in_default-get-clause-path : goal.returns-in_default-get-clause-path
returns-in_default-get-clause-path c = λ leaf leads.
    let at = none_leaf c.args.known.now c.args.key.now c.args.self.now leaf (sym c.get.ensures.found ∙ ap (option_map (λ s. s.now.page)) c.in_default-get.is) leads in
    (at, at)

-- a page is cached

pub returns-then-not-is_on_path-clause-kept : goal.returns-then-not-is_on_path-clause-kept
returns-then-not-is_on_path-clause-kept c =
    (refl, refl, λ are. subst ArePages (sym c.get.follows.holds-at-none) (used c.args.self.now.addr c.args.known.now.cache are))

pub returns-then-not-is_on_path-clause-cache : goal.returns-then-not-is_on_path-clause-cache
returns-then-not-is_on_path-clause-cache c = one_used c.args.self.now.addr c.args.known.now.cache _ c.get.follows.holds-at-none

pub returns-then-not-is_on_path-clause-path : goal.returns-then-not-is_on_path-clause-path
returns-then-not-is_on_path-clause-path c = λ leaf leads.
    let d = c.args.self.now in
    let page = c.get-page.result.now in
    let some = some_leads c.args.known.now c.args.key.now d leaf page c.in-Some.kept c.requires.pages c.requires.higher
    (sym c.get.ensures.found ∙ ap (option_map (λ s. s.now.page)) c.in-Some-get.is ∙ ap Some (sym c.get-page.ensures)) c.in-Some.is leads in
    let on = on_way_as d c.in-Some.kept c.args.key.now page c.tree.result.now c.of_page-front.result c.is_on_path.result
    c.tree.ensures c.of_page-front.ensures c.is_on_path.ensures in
    let both : false ≡ true = sym c.if-not-is_on_path.true ∙ (on ∙ some.on) in
    absurd cc

pub returns-then-not-is_on_path-clause-passes : goal.returns-then-not-is_on_path-clause-passes
returns-then-not-is_on_path-clause-passes c = λ entries catalog.
    let d = c.args.self.now in
    let page = c.get-page.result.now in
    let same : c.in-Some.kept ≡ entries = (let both : Some c.in-Some.kept ≡ Some entries = sym c.in-Some.is ∙ catalog in cc) in
    let on = on_way_as d c.in-Some.kept c.args.key.now page c.tree.result.now c.of_page-front.result c.is_on_path.result
    c.tree.ensures c.of_page-front.ensures c.is_on_path.ensures in (
      page,
      used_keep d.addr c.args.known.now.cache c.get.follows.lender-at-none (one_used d.addr c.args.known.now.cache c.get.follows.lender-at-none c.get.follows.holds-at-none)
          ∙ (sym c.get.ensures.found ∙ ap (option_map (λ s. s.now.page)) c.in-Some-get.is ∙ ap Some (sym c.get-page.ensures)),
      (subst (λ (es : List CatEntry). is_on_way es d c.args.key.now (front_of page) ≡ false) same (sym on ∙ c.if-not-is_on_path.true), refl),
    )

pub returns-then-is_leaf-clause-kept : goal.returns-then-is_leaf-clause-kept
returns-then-is_leaf-clause-kept c =
    (refl, refl, λ are. subst ArePages (sym c.get.follows.holds-at-none) (used c.args.self.now.addr c.args.known.now.cache are))

pub returns-then-is_leaf-clause-cache : goal.returns-then-is_leaf-clause-cache
returns-then-is_leaf-clause-cache c = one_used c.args.self.now.addr c.args.known.now.cache _ c.get.follows.holds-at-none

pub returns-then-is_leaf-clause-path : goal.returns-then-is_leaf-clause-path
returns-then-is_leaf-clause-path c = λ leaf leads.
    let page = c.get-page.result.now in
    let inner = found c.args.self.now.addr c.args.known.now.cache page c.requires.pages (sym c.get.ensures.found ∙ ap (option_map (λ s. s.now.page)) c.in-Some-get.is ∙ ap Some (sym c.get-page.ensures)) in
    let high : 1 ≤ height_of page.body = inner.1 in
    let low : height_of page.body ≡ 0 = eqb-true (height_of page.body) 0 (sym (c.is_leaf.ensures inner.0) ∙ c.if-is_leaf.true) in
    absurd (omega arith)

-- it goes on below it

pub returns-clause-kept : goal.returns-clause-kept
returns-clause-kept c =
    (refl, refl, λ are. subst ArePages (sym c.get.follows.holds-at-none) (used c.args.self.now.addr c.args.known.now.cache are))

pub returns-clause-cache : goal.returns-clause-cache
returns-clause-cache c = one_used c.args.self.now.addr c.args.known.now.cache _ c.get.follows.holds-at-none

pub returns-clause-above : goal.returns-clause-above
returns-clause-above c above =
    let page = c.get-page.result.now in
    let is : IsPage page =
    (found c.args.self.now.addr c.args.known.now.cache page c.requires.pages (sym c.get.ensures.found ∙ ap (option_map (λ s. s.now.page)) c.in-Some-get.is ∙ ap Some (sym c.get-page.ensures))).0 in
    subst (λ (d : Descent). IsAbove d.above) (sym c.below.ensures) (gone_above c.args.self.now page c.args.key.now is above)

pub returns-clause-version : goal.returns-clause-version
returns-clause-version c =
    ap (λ (d : Descent). d.version) c.below.ensures ∙ gone_version c.args.self.now c.get-page.result.now c.args.key.now

pub returns-clause-path : goal.returns-clause-path
returns-clause-path c = λ leaf leads.
    let d = c.args.self.now in
    let page = c.get-page.result.now in
    let after = record c.args.known.now { cache = c.get.follows.lender-at-none } in
    let some = some_leads c.args.known.now c.args.key.now d leaf page c.in-Some.kept c.requires.pages c.requires.higher
    (sym c.get.ensures.found ∙ ap (option_map (λ s. s.now.page)) c.in-Some-get.is ∙ ap Some (sym c.get-page.ensures)) c.in-Some.is leads in
    subst (λ (x : Descent). LeadsTo after c.args.key.now x leaf × IsLower d.above x.above) (sym c.below.ensures) (
      leads_still c.args.known.now after c.args.key.now (gone_below d page.body c.args.key.now) leaf refl refl
          (one_used d.addr c.args.known.now.cache c.get.follows.lender-at-none c.get.follows.holds-at-none) some.leads,
      some.lower,
    )

pub returns-clause-lower : goal.returns-clause-lower
returns-clause-lower c = λ goes.
    let d = c.args.self.now in
    let page = c.get-page.result.now in
    let on = on_way_as d c.in-Some.kept c.args.key.now page c.tree.result.now c.of_page-front.result c.is_on_path.result
    c.tree.ensures c.of_page-front.ensures c.is_on_path.ensures in
    let inner = found d.addr c.args.known.now.cache page c.requires.pages (sym c.get.ensures.found ∙ ap (option_map (λ s. s.now.page)) c.in-Some-get.is ∙ ap Some (sym c.get-page.ensures)) in
    subst (λ (x : Descent). IsLower d.above x.above) (sym c.below.ensures)
    (goes_lower c.in-Some.kept d c.args.key.now page inner.1 (sym on ∙ c.if-not-is_on_path.false))

pub returns-clause-passes : goal.returns-clause-passes
returns-clause-passes c = λ entries catalog.
    let d = c.args.self.now in
    let page = c.get-page.result.now in
    let same : c.in-Some.kept ≡ entries = (let both : Some c.in-Some.kept ≡ Some entries = sym c.in-Some.is ∙ catalog in cc) in
    let on = on_way_as d c.in-Some.kept c.args.key.now page c.tree.result.now c.of_page-front.result c.is_on_path.result
    c.tree.ensures c.of_page-front.ensures c.is_on_path.ensures in (
      page,
      used_keep d.addr c.args.known.now.cache c.get.follows.lender-at-none (one_used d.addr c.args.known.now.cache c.get.follows.lender-at-none c.get.follows.holds-at-none)
          ∙ (sym c.get.ensures.found ∙ ap (option_map (λ s. s.now.page)) c.in-Some-get.is ∙ ap Some (sym c.get-page.ensures)),
      subst (λ (es : List CatEntry). is_on_way es d c.args.key.now (front_of page) ≡ true) same (sym on ∙ c.if-not-is_on_path.false),
      c.below.ensures,
    )

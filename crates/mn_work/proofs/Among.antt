-- Walks among the pages that a try has read.
use Rattle.std.proofs.Common.{◌≡◌, ℕ, ◌≤◌, Bool, true, false, List, [], ◌∷◌, Option, Some, refl, subst, sym, ap, ◌∙◌}
use Rattle.std.specs.Prelude.{if◌then◌else◌}
use Rattle.mn_base.specs.Ids.{addr_same}
use Rattle.mn_base.specs.Tree.{parents_of}
use Rattle.mn_base.specs.declared.ids.Addr.{Addr}
use Rattle.mn_base.specs.declared.ids.VersionNo.{VersionNo}
use Rattle.mn_base.specs.declared.op.Op.{Op}
use Rattle.mn_base.specs.declared.answer.Busy.TheVariants.{Path}
use Rattle.mn_page.specs.declared.entry.CatEntry.{CatEntry}
use Rattle.mn_page.specs.declared.page.Page.{Page}
use Rattle.mn_page.specs.declared.page.Body.TheVariants.{Inner}
use Rattle.mn_page.specs.Forest.{heads_in}
use Rattle.mn_page.specs.Grammar.{SpellsPage, height_of}
use Rattle.mn_path.specs.Walk.{child_from, front_of, is_on_path}
use Rattle.mn_runs.specs.Seen.{Seen}
use Rattle.mn_law.specs.Answers.{ReachesAddr}
use Rattle.mn_txn.specs.declared.seen.SeenPage.{SeenPage}
use Rattle.mn_work.specs.Among.{AreBrought, WalksAmong}
use Rattle.mn_work.specs.Bodies.{body_child}
use Rattle.mn_txn.specs.Seen.{seen_at}
use Rattle.mn_work.specs.Walks.{IsAbove, MeetsFor, height_below}
use Rattle.mn_plans.proofs.Grown.{addr_is}
use Rattle.mn_work.proofs.Bodies.{is_inner}
use Rattle.mn_work.proofs.Walks.{at_fault, bad_page, goes_below, serves_named}

module _ (nodes : ℕ) (seens : List Seen) (op : Op) (entries : List CatEntry) (version : VersionNo)
    (key : List ℕ) (seen : SeenPage) (above : Option ℕ) (page : Page) (is : IsAbove above)
    (spells : SpellsPage seen.bytes page) where
  -- the walk doesn't go on at the page
  pub page_is_bad : is_on_path (parents_of (heads_in entries)) version.0 key above (front_of page) ≡ false
      → WalksAmong seens op entries version key seen.addr above → AreBrought seens (seen ∷ [])
      → MeetsFor nodes seens op key (Path seen.addr page.seq)
  page_is_bad off (named, reaches) brought =
      bad_page nodes seens op entries key seen.addr (height_below above) reaches seen.bytes page brought.0 spells
      (at_fault entries op version.0 key above page named is off)

  -- it goes on at the page's child
  pub page_leads : (child : Addr) → 1 ≤ height_of page.body → Some child ≡ body_child page.body key
      → is_on_path (parents_of (heads_in entries)) version.0 key above (front_of page) ≡ true
      → WalksAmong seens op entries version key seen.addr above → AreBrought seens (seen ∷ [])
      → ReachesAddr seens op entries key child (height_below (Some (height_of page.body)))
  page_leads child high is_child on (named, reaches) brought =
      let inner = is_inner page spells.0 high in
      let covers = (serves_named entries op version.0 key above page named on).1 in
      let there : Some child ≡ body_child (Inner inner.0 inner.1 inner.2) key =
      is_child ∙ ap (λ b. body_child b key) inner.3 in
      let same : child ≡ child_from inner.1 inner.2 key = cc in
      let level : inner.0 ≡ height_of page.body = ap height_of (sym inner.3) in
      subst (λ (a : Addr). ReachesAddr seens op entries key a (height_below (Some (height_of page.body)))) (sym same)
      (subst (λ (h : ℕ). ReachesAddr seens op entries key (child_from inner.1 inner.2 key) (height_below (Some h))) level
      (goes_below nodes seens op entries key seen.addr (height_below above) reaches seen.bytes page inner.0 inner.1 inner.2 brought.0 spells inner.3 covers))

-- the page that is found stands at the address, and was brought as all were
pub found_at : (pages : List SeenPage) (addr : Addr) (p : SeenPage) → seen_at pages addr ≡ Some p
    → (p.addr ≡ addr) × ((seens : List Seen) → AreBrought seens pages → AreBrought seens (p ∷ []))
found_at [] addr p e = absurd cc
found_at (q ∷ pages) addr p e = by (addr_same q.addr addr) refl e (found_at pages addr p)
  where
    by : (t : Bool) → addr_same q.addr addr ≡ t → (if t then Some q else seen_at pages addr) ≡ Some p
        → (seen_at pages addr ≡ Some p → (p.addr ≡ addr) × ((seens : List Seen) → AreBrought seens pages → AreBrought seens (p ∷ [])))
        → (p.addr ≡ addr) × ((seens : List Seen) → AreBrought seens (q ∷ pages) → AreBrought seens (p ∷ []))
    by true same e rest =
        let is : q ≡ p = cc in (
          ap (λ (x : SeenPage). x.addr) (sym is) ∙ addr_is q.addr addr same,
          λ seens all. subst (λ (x : SeenPage). AreBrought seens (x ∷ [])) is (all.0, tt),
        )
    by false other e rest = let r = rest e in (r.0, λ seens all. r.1 seens all.1)

use Rattle.std.proofs.Common.{Bool, ap, ◌∙◌, ◌≡◌, ◌≤◌, ℕ, false, refl, arith, subst, sym}
use Rattle.std.specs.Prelude.{if◌then◌else◌, nat_eq}
use Rattle.mn_cache.specs.Pages.{pages_put}
use Rattle.std.proofs.lemmas.Bool.Decides.{nat_tests}
use Rattle.mn_page.specs.Grammar.{IsPage, height_of}
use Rattle.mn_page.specs.declared.page.Page.{Page}
use Rattle.mn_work.specs.Knows.{ArePages}
use Rattle.mn_work.proofs.Cached.{put}
use Rattle.mn_work.proofs.known.Known.keep_inner.Goals as goal

some_height : (n : ℕ) → false ≡ nat_eq n 0 → 1 ≤ n
some_height n e = grind (arith, nat_tests)

pub returns-then-is_leaf-clause-put : goal.returns-then-is_leaf-clause-put
returns-then-is_leaf-clause-put c =
    let cache = c.args.self.now.cache in
    subst (λ (b : Bool). cache ≡ (if b then cache else pages_put c.args.addr c.args.page.now cache))
    ((rw c.get.ensures at c.if-is_leaf.ensures) c.requires.page) refl

pub returns-clause-kept : goal.returns-clause-kept
returns-clause-kept c =
    let high : 1 ≤ height_of c.args.page.now.body =
    some_height (height_of c.args.page.now.body) ((rw c.get.ensures at c.if-is_leaf.ensures) c.requires.page) in
    let same = c.in_ok-page.ensures in (
      refl,
      refl,
      λ are. subst ArePages (sym c.in_ok-put.ensures.pages)
          (put c.args.addr c.in_ok-page.page c.args.self.now.cache (subst IsPage (sym same) c.requires.page) (subst (λ (p : Page). 1 ≤ height_of p.body) (sym same) high) are),
    )

pub returns-clause-put : goal.returns-clause-put
returns-clause-put c =
    let cache = c.args.self.now.cache in
    subst (λ (b : Bool). c.put.new.self ≡ (if b then cache else pages_put c.args.addr c.args.page.now cache)) ((rw c.get.ensures at c.if-is_leaf.ensures) c.requires.page)
    (c.in_ok-put.ensures.pages ∙ ap (λ (p : Page). pages_put c.args.addr p cache) c.in_ok-page.ensures)

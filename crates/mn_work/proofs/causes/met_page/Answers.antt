use Rattle.std.proofs.Common.{◌≡◌, ◌∙◌, ℕ, ◌≤◌, Bool, true, false, List, Option, Some, ap, arith, subst, sym}
use Rattle.std.specs.Prelude.{MatchOption}
use Rattle.mn_base.specs.declared.answer.Busy.{Busy}
use Rattle.mn_base.specs.declared.answer.Busy.TheVariants.{Path}
use Rattle.mn_page.specs.declared.page.Page.{Page}
use Rattle.mn_page.specs.Grammar.{IsFree, SpellsPage, height_of}
use Rattle.mn_path.specs.Walk.{FrontState, is_on_path}
use Rattle.mn_law.specs.Answers.{ReachesAddr}
use Rattle.mn_work.specs.Walks.{MeetsFor, height_below}
use Rattle.mn_work.proofs.Among.{page_is_bad, page_leads}
use Rattle.mn_work.proofs.causes.met_page.Goals as goal

-- the bytes spell the page that they lend
spelled : (bytes own : List ℕ) (found : Option Page) (page : Page) → own ≡ bytes → found ≡ Some page
    → MatchOption found (IsFree own) (SpellsPage own) → SpellsPage bytes page
spelled bytes own found page same is read =
    subst (λ (b : List ℕ). SpellsPage b page) same
    (subst (λ (o : Option Page). MatchOption o (IsFree own) (SpellsPage own)) is read)

-- whether the walk goes on, by the page itself
on_path : (parents tree : List (Option ℕ)) (version : ℕ) (key : List ℕ) (above : Option ℕ)
    (front its : FrontState) (on result : Bool) → tree ≡ parents → front ≡ its
    → on ≡ is_on_path tree version key above front → on ≡ result
    → is_on_path parents version key above its ≡ result
on_path parents tree version key above front its on result same is told e =
    sym (ap (λ p. is_on_path p version key above its) same)
    ∙ sym (ap (λ f. is_on_path tree version key above f) is) ∙ sym told ∙ e

pub returns-then-not-is_on_path-clause-met : goal.returns-then-not-is_on_path-clause-met
returns-then-not-is_on_path-clause-met c nodes seens op walks brought =
    let page = c.in-Ok-Some.page in
    let spells = spelled c.args.seen.now.bytes c.padded.result c.in-Ok-Some.field-0 page c.padded.ensures c.in-Ok-Some.field-0-is c.in-Ok-Some.ensures.read in
    let off = on_path _ c.tree.result.now c.args.version.0 c.args.key.now c.args.above c.of_ref.result _ c.is_on_path.result false c.tree.ensures c.of_ref.ensures c.is_on_path.ensures c.if-not-is_on_path.true in
    subst (λ (b : Busy). MeetsFor nodes seens op c.args.key.now b)
    (sym (c.path_fault-then-not-is_on_path.ensures ∙ ap (Path c.args.seen.now.addr) c.seq.ensures))
    (page_is_bad nodes seens op c.args.kept.now c.args.version c.args.key.now c.args.seen.now c.args.above page c.requires.above spells off walks brought)

pub returns-clause-met : goal.returns-clause-met
returns-clause-met c nodes seens op walks brought =
    let page = c.in-Ok-Some.page in
    let spells = spelled c.args.seen.now.bytes c.padded.result c.in-Ok-Some.field-0 page c.padded.ensures c.in-Ok-Some.field-0-is c.in-Ok-Some.ensures.read in
    let on = on_path _ c.tree.result.now c.args.version.0 c.args.key.now c.args.above c.of_ref.result _ c.is_on_path.result true c.tree.ensures c.of_ref.ensures c.is_on_path.ensures c.if-not-is_on_path.false in
    let high : 1 ≤ height_of page.body = let none = c.if-height-eq0.false in let is = c.height.ensures in omega arith in
    subst (λ (h : ℕ). ReachesAddr seens op c.args.kept.now c.args.key.now c.child_in.result (height_below (Some h))) (sym c.height-2.ensures)
    (page_leads nodes seens op c.args.kept.now c.args.version c.args.key.now c.args.seen.now c.args.above page c.requires.above spells c.child_in.result high c.child_in.ensures on walks brought)

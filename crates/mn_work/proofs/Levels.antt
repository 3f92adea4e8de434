-- In a first try a step takes fewer kept pages than a path has: each is an inner one, and lower than
-- the one before it.
use Rattle.std.proofs.Common.{◌≡◌, ◌∙◌, ◌+◌, ◌≤◌, ◌&&◌, ℕ, zero, suc, true, List, Option, Some, refl, sym, ap, subst, arith}
use Rattle.std.specs.Prelude.{nat_le, slice_get}
use Rattle.std.proofs.lemmas.Bool.{eqb-true, leb-true}
use Rattle.mn_base.specs.Store.{step_key}
use Rattle.mn_base.specs.Tree.{serves}
use Rattle.mn_base.specs.declared.ids.Addr.{Addr}
use Rattle.mn_base.specs.declared.op.Step.{Step}
use Rattle.mn_base.proofs.Booleans.{both_parts}
use Rattle.mn_page.specs.declared.page.Page.{Page}
use Rattle.mn_page.specs.Grammar.{height_of}
use Rattle.mn_page.specs.Holds.{page_covers}
use Rattle.mn_page.specs.Overlay.{held_with, path_pairs}
use Rattle.mn_path.specs.Walk.{is_below, max_height}
use Rattle.mn_tree.specs.State.{TreeState, Wanted, fits, stepped, stepping, with_draft, with_page}
use Rattle.mn_tree.specs.Walk.{Walk, Missing, Wrong, Reached, walk}
use Rattle.mn_tree.specs.declared.stepped.Stepped.TheVariants as steps
use Rattle.mn_work.specs.declared.attempt.Attempt.{Attempt}
use Rattle.mn_work.specs.Attempts.{IsNextStep}
use Rattle.mn_work.proofs.Attempts.{no_need}
use Rattle.mn_work.proofs.Lower.{IsLow, walk_low}

-- the page that the step needs is named by one of this height at most
abbrev pub NeedsBelow : TreeState → Step → ℕ → Type 0
NeedsBelow s step height =
    (addr : Addr) (above : Option ℕ)
    → walk s.parents s.version.0 s.draft.overlay.pages s.root (step_key step) ≡ Missing addr above
    → IsLow above height

-- once so many pages came in for the next step, the last one is so low
abbrev pub IsDown : ℕ → List Step → Attempt → Type 0
IsDown level all a =
    1 ≤ level → (height : ℕ) × (1 ≤ height) × (height + level ≤ 15)
    × ((step : Step) → IsNextStep all a step → NeedsBelow a.overlay step height)

-- so they aren't as many as a path has
pub down_all : (all : List Step) (a : Attempt) (level : ℕ) → IsDown level all a → level ≡ 15 → ⊥
down_all all a level down far =
    let (height, inner, few, rest) = down (omega arith) in absurd (omega arith)

-- where an inner page that fits came in
pub down_on : (all : List Step) (level : ℕ) (before after : Attempt) (at : TreeState) (step : Step) (addr : Addr)
    (page : Page) → IsDown level all before → IsNextStep all before step
    → (stepped before.overlay step).answer ≡ steps.Need addr → at ≡ (stepped before.overlay step).state
    → after.done ≡ before.done → 1 ≤ height_of page.body → fits at page ≡ true
    → after.overlay ≡ with_page at addr page → IsDown (level + 1) all after
down_on all level before after at step addr page down next need state done inner fit added some =
    by (walk before.overlay.parents before.overlay.version.0 before.overlay.draft.overlay.pages before.overlay.root (step_key step)) refl need state
  where
    -- lower than the page that names it
    lower : (above : Option ℕ) (n : ℕ) → is_below above (height_of page.body) ≡ true → height_of page.body ≤ 14
        → (1 ≤ n → (height : ℕ) × (height + n ≤ 15) × IsLow above height) → height_of page.body + (n + 1) ≤ 15
    lower above zero below low named = omega arith
    lower above (suc n) below low named =
        let (height, few, (x, is, under)) = named (omega arith) in
        let next_lower = eqb-true (height_of page.body + 1) x (subst (λ (o : Option ℕ). is_below o (height_of page.body) ≡ true) is below) in
        omega arith

    by : (w : Walk)
        → walk before.overlay.parents before.overlay.version.0 before.overlay.draft.overlay.pages before.overlay.root (step_key step) ≡ w
        → (stepping before.overlay step w).answer ≡ steps.Need addr → at ≡ (stepping before.overlay step w).state
        → (height : ℕ) × (1 ≤ height) × (height + (level + 1) ≤ 15)
        × ((s : Step) → IsNextStep all after s → NeedsBelow after.overlay s height)
    by (Missing to above) is need_it state_is =
        let same : to ≡ addr = cc in
        let s = before.overlay in
        let wanted : Wanted = record { addr = to; key = step_key step; above = above } in
        let fit_now : fits (with_draft s s.draft (Some wanted)) page ≡ true = subst (λ (x : TreeState). fits x page ≡ true) state_is fit in
        let live = both_parts (serves s.parents page.made.0 page.copied s.version.0) (page_covers (step_key step) page && (is_below above (height_of page.body) && nat_le (height_of page.body) max_height)) fit_now in
        let within = both_parts (page_covers (step_key step) page) (is_below above (height_of page.body) && nat_le (height_of page.body) max_height) live.1 in
        let stands = both_parts (is_below above (height_of page.body)) (nat_le (height_of page.body) max_height) within.1 in
        let was : walk s.parents s.version.0 s.draft.overlay.pages s.root (step_key step) ≡ Missing addr above = is ∙ ap (λ t. Missing t above) same in
        let whole : after.overlay ≡ with_page (with_draft s s.draft (Some wanted)) addr page = added ∙ ap (λ (x : TreeState). with_page x addr page) state_is in (
          height_of page.body,
          inner,
          lower above level stands.0 (leb-true (height_of page.body) 14 stands.1)
              (λ more. (let (height, low, few, rest) = down more in (height, few, rest step next addr above was))),
          λ again next_is to_next later walked.
              let both : Some again ≡ Some step = sym next_is ∙ (ap (slice_get all) done ∙ next) in
              let same_step : again ≡ step = cc in
              walk_low s.parents s.version.0 (step_key step) s.draft.overlay.pages addr page s.root above to_next later was
              (subst (λ (k : Step). walk s.parents s.version.0 (held_with s.draft.overlay.pages addr page) s.root (step_key k) ≡ Missing to_next later) same_step
              (subst (λ (x : TreeState). walk x.parents x.version.0 x.draft.overlay.pages x.root (step_key again) ≡ Missing to_next later) whole walked)),
        )
    by (Wrong to) is need_it state_is = absurd cc
    by (Reached path) is need_it state_is = absurd (no_need addr step (path_pairs path) need_it)

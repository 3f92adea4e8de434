use Rattle.std.proofs.Common.{◌<◌, ◌≤◌, ℕ, List, subst, arith}
use Rattle.std.specs.Prelude.{MatchBool}
use Rattle.mn_page.specs.Grammar.{IsFree}
use Rattle.mn_forest.specs.Rules.{count_at}
use Rattle.mn_forest.proofs.Zeros.{sized}
use Rattle.mn_forest.proofs.Fronts.{page_behind, page_below, page_missing}
use Rattle.mn_forest.proofs.pages.has_page.Goals as goal

pub returns-then-from-count_at : goal.returns-then-from-count_at
returns-then-from-count_at c = λ entries versions.
    let memory = c.args.spaces.now in
    let addr = c.args.addr in
    let high : count_at memory addr.node.0 ≤ addr.slot = omega (arith, c.if-from-count_at.true, c.from.ensures, c.count_at.ensures) in
    page_behind memory entries addr c.are_zeros.result high
    (subst (λ (l : List ℕ). MatchBool c.are_zeros.result (IsFree l) (IsFree l → ⊥)) c.slot_place.ensures.place (sized c.slot_place.result.now 1024 c.are_zeros.result c.slot_place.ensures.size c.are_zeros.ensures))

pub returns-in-Some : goal.returns-in-Some
returns-in-Some c = λ entries versions.
    page_below c.args.spaces.now entries c.args.addr c.in-Some.page c.versions_fit.result c.in-Some.ensures.0 c.in-Some.ensures (c.versions_fit.ensures entries versions)

pub returns-in-None : goal.returns-in-None
returns-in-None c = λ entries versions.
    let low : c.args.addr.slot < count_at c.args.spaces.now c.args.addr.node.0 = omega (arith, c.if-from-count_at.false, c.from.ensures, c.count_at.ensures) in
    page_missing c.args.spaces.now entries c.args.addr low c.in-None.ensures

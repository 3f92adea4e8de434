use Rattle.std.proofs.Common.{Bool, sym, subst}
use Rattle.std.specs.Prelude.{MatchBool, option_map}
use Rattle.mn_forest.specs.Rules.{IsChildAt}
use Rattle.mn_forest.proofs.ChildTests.{child_tested}
use Rattle.mn_forest.proofs.pages.is_child.Goals as goal

pub returns : goal.returns
returns c = λ memory entries child are is stands.
    subst (λ (b : Bool). MatchBool b (IsChildAt memory entries c.args.page.now child) (IsChildAt memory entries c.args.page.now child → ⊥)) (sym c.are_all.ensures)
    (child_tested memory c.args.versions.now entries c.args.page.now c.args.child.now child c.child_low.result.now (option_map (λ h. h.now) c.child_high.result) c.same_range-range.result c.is_below-below.result c.serves_as-serves.result are stands
    (c.child_low.ensures child is) (c.child_high.ensures child is) c.same_range-range.ensures c.is_below-below.ensures c.serves_as-serves.ensures)

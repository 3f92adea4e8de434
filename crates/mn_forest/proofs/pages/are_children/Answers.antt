use Rattle.std.proofs.Common.{◌≡◌, Some, arith, slice_get, below_more}
use Rattle.mn_page.specs.Forest.{ChildRange, children_of}
use Rattle.mn_page.proofs.Grid.{all_by_place}
use Rattle.mn_forest.specs.Rules.{IsChildAt}
use Rattle.mn_flat.proofs.Lists.{place_in}
use Rattle.mn_forest.proofs.Testing.{fails_so, passes_so}
use Rattle.mn_forest.proofs.ChildTests.{no_child}
use Rattle.mn_forest.proofs.pages.are_children.Goals as goal

pub returns-then-not-has_child : goal.returns-then-not-has_child
returns-then-not-has_child c = λ entries are.
    no_child (IsChildAt c.args.spaces.now entries c.args.page.now) (children_of c.args.page.now) c.loop-i.i (omega (arith, c.child_count-i-end.ensures.children))
    (λ child is. fails_so (IsChildAt c.args.spaces.now entries c.args.page.now child) c.has_child.result (c.has_child.ensures entries child are is) cc)

pub loop-i-preserved : goal.loop-i-preserved
loop-i-preserved c = λ entries are.
    below_more (λ j. (child : ChildRange) → slice_get (children_of c.args.page.now) j ≡ Some child → IsChildAt c.args.spaces.now entries c.args.page.now child) c.loop-i.i (c.loop-i.invariant entries are)
    (λ child is. passes_so (IsChildAt c.args.spaces.now entries c.args.page.now child) c.has_child.result (c.has_child.ensures entries child are is) cc)

pub returns : goal.returns
returns c = λ entries are.
    all_by_place (IsChildAt c.args.spaces.now entries c.args.page.now) (children_of c.args.page.now) (λ j child is. c.loop-i.invariant entries are j (let low = place_in (children_of c.args.page.now) j child is in omega (arith, c.child_count-i-end.ensures.children)) child is)

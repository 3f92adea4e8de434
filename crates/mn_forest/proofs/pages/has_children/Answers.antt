use Rattle.std.proofs.Common.{subst}
use Rattle.std.specs.List.{AllByRecursion}
use Rattle.mn_page.specs.declared.page.Page.{Page}
use Rattle.mn_page.specs.Forest.{children_of}
use Rattle.mn_forest.specs.Rules.{IsChildAt, HasChildren}
use Rattle.mn_forest.proofs.Fronts.{means, one_page}
use Rattle.mn_forest.proofs.pages.has_children.Goals as goal

pub returns-in-Some : goal.returns-in-Some
returns-in-Some c = λ entries are.
    means (AllByRecursion (IsChildAt c.args.spaces.now entries c.in-Some.page) (children_of c.in-Some.page)) (HasChildren c.args.spaces.now entries c.args.addr) c.are_children.result
    (λ all p stands. subst (λ (q : Page). AllByRecursion (IsChildAt c.args.spaces.now entries q) (children_of q)) (one_page c.args.spaces.now c.args.addr c.in-Some.page p c.in-Some.ensures stands) all) (λ has. has c.in-Some.page c.in-Some.ensures)
    (c.are_children.ensures entries are)

pub returns-in-None : goal.returns-in-None
returns-in-None c = λ entries are p stands. absurd (c.in-None.ensures p stands)

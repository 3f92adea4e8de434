use Rattle.std.proofs.Common.{◌≡◌, Option, Some, subst}
use Rattle.mn_base.specs.declared.ids.Addr.{Addr}
use Rattle.mn_forest.specs.Rules.{StandsAt}
use Rattle.mn_forest.proofs.Children.{addr_at}
use Rattle.mn_forest.proofs.pages.has_child.Goals as goal

same : (o : Option Addr) (x y : Addr) → o ≡ Some x → o ≡ Some y → x ≡ y
same o x y e f = cc

pub returns-in-Some : goal.returns-in-Some
returns-in-Some c = λ entries child are is.
    c.is_child.ensures c.args.spaces.now entries child are is
    (subst (λ (a : Addr). StandsAt c.args.spaces.now a c.in-Some.child) (same _ c.child.result child.addr c.child.ensures (addr_at c.args.page.now c.args.i child is)) c.in-Some.ensures)

pub returns-in-None : goal.returns-in-None
returns-in-None c = λ entries child are is r.
    c.in-None.ensures r.page (subst (λ (a : Addr). StandsAt c.args.spaces.now a r.page) (same _ child.addr c.child.result (addr_at c.args.page.now c.args.i child is) c.child.ensures) r.there)

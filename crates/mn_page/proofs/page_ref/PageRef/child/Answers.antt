use Rattle.std.proofs.Common.{◌≡◌, ◌<◌, ◌-◌, length, slice_get, subst, sym, ap, ◌∙◌, arith}
use Rattle.mn_page.specs.declared.page.Body.{Body}
use Rattle.mn_page.specs.Reading.{body_seen, addrs_in}
use Rattle.mn_page.proofs.Lent.{next_child}
use Rattle.mn_page.proofs.page_ref.PageRef.child.Goals as goal

pub returns-else-i-eq0 : goal.returns-else-i-eq0
returns-else-i-eq0 c =
    let body : c.args.self.now.body ≡ body_seen c.self.inside.body = sym (ap (λ p. p.body) c.self.view_is) in
    let here = subst (λ (b : Body). c.args.i < length (addrs_in b)) body c.requires in
    ap (λ (b : Body). slice_get (addrs_in b) c.args.i) body ∙ next_child c.self.inside.body c.args.i (c.args.i - 1) _ (omega (arith, c.if-i-eq0.false)) here

use Rattle.std.proofs.Common.{◌≡◌, ◌<◌, length, slice_get, subst, sym, ap, ◌∙◌}
use Rattle.mn_page.specs.declared.page.Body.{Body}
use Rattle.mn_page.specs.Reading.{body_seen, values_in}
use Rattle.mn_page.proofs.Lent.{value_at}
use Rattle.mn_page.proofs.page_ref.PageRef.value.Goals as goal

pub returns : goal.returns
returns c =
    let body : c.args.self.now.body ≡ body_seen c.self.inside.body = sym (ap (λ p. p.body) c.self.view_is) in
    let here = subst (λ (b : Body). c.args.i < length (values_in b)) body c.requires in
    ap (λ (b : Body). slice_get (values_in b) c.args.i) body ∙ value_at c.self.inside.body c.args.i _ here

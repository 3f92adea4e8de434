use Rattle.std.proofs.Common.{◌≡◌, ◌<◌, length, slice_get, subst, sym, ap, ◌∙◌, arith}
use Rattle.mn_page.specs.declared.page.Body.{Body}
use Rattle.mn_page.specs.Reading.{body_seen, keys_in}
use Rattle.mn_page.proofs.Lent.{leaf_key, inner_key}
use Rattle.mn_page.proofs.page_ref.PageRef.key.Goals as goal

pub returns-then-self-eq0 : goal.returns-then-self-eq0
returns-then-self-eq0 c =
    let body : c.args.self.now.body ≡ body_seen c.self.inside.body = sym (ap (λ p. p.body) c.self.view_is) in
    let here = subst (λ (b : Body). c.args.i < length (keys_in b)) body c.requires in
    ap (λ (b : Body). slice_get (keys_in b) c.args.i) body ∙ leaf_key c.self.inside.body c.args.i _ c.if-self-eq0.true here

pub returns-else-self-eq0 : goal.returns-else-self-eq0
returns-else-self-eq0 c =
    let body : c.args.self.now.body ≡ body_seen c.self.inside.body = sym (ap (λ p. p.body) c.self.view_is) in
    let here = subst (λ (b : Body). c.args.i < length (keys_in b)) body c.requires in
    ap (λ (b : Body). slice_get (keys_in b) c.args.i) body ∙ inner_key c.self.inside.body c.args.i _ (omega (arith, c.if-self-eq0.false)) here

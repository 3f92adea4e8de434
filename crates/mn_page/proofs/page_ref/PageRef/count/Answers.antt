use Rattle.std.proofs.Common.{ap, ◌∙◌, arith}
use Rattle.mn_page.specs.Grammar.{count_in}
use Rattle.mn_page.proofs.Lent.{leaf_count, inner_count}
use Rattle.mn_page.proofs.page_ref.PageRef.count.Goals as goal

pub returns-then-self-eq0 : goal.returns-then-self-eq0
returns-then-self-eq0 c = leaf_count c.self.inside.body c.self.invariant c.if-self-eq0.true ∙ ap (λ p. count_in p.body) c.self.view_is

pub returns-else-self-eq0 : goal.returns-else-self-eq0
returns-else-self-eq0 c = inner_count c.self.inside.body c.self.invariant (omega (arith, c.if-self-eq0.false)) ∙ ap (λ p. count_in p.body) c.self.view_is

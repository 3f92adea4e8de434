use Rattle.std.proofs.Common.{List, ℕ, refl, ap, ◌∙◌, ◌++◌}
use Rattle.mn_page.proofs.BaseSpace.{base_is}
use Rattle.mn_page.proofs.fresh.base_bytes.Goals as goal

pub returns-clause-space : goal.returns-clause-space
returns-clause-space c =
    let whole = c.in_ok-extend_from_slice.ensures.items ∙ ap (λ (l : List ℕ). c.in_ok-bytes.bytes.items ++ l) c.deref.ensures.value in
    base_is c.args.nodes c.args.node _ _ _ _ c.in_ok-bytes.ensures.bytes c.in_ok-slots.ensures.bytes whole refl

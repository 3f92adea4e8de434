use Rattle.std.proofs.Common.{List, ℕ, ap, ◌∙◌, ◌++◌}
use Rattle.mn_page.specs.Grammar.{padded}
use Rattle.mn_page.proofs.BaseSpace.{header, front_is}
use Rattle.mn_page.proofs.fresh.front_bytes.Goals as goal

pub returns-clause-bytes : goal.returns-clause-bytes
returns-clause-bytes c =
    let named = c.in_ok-pad-2.ensures.padded ∙ ap (λ (l : List ℕ). padded 16 l) (c.in_ok-extend_from_slice.ensures.items ∙ ap (λ (l : List ℕ). l ++ header c.args.nodes c.args.node) c.new-front.ensures.items) in
    let whole = c.in_ok-extend_from_slice-2.ensures.items ∙ ap (λ (l : List ℕ). c.pad-3.new.bytes.items ++ l) c.deref.ensures.value in
    front_is c.args.nodes c.args.node _ _ _ _ _ _ _ _ c.in_ok-catalog.ensures.bytes c.in_ok-pad.ensures.padded named c.count_of.ensures c.in_ok-push_number.ensures c.in_ok-pad-3.ensures.padded whole c.in_ok-pad-4.ensures.padded

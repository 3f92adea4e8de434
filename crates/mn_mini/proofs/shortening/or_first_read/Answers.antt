use Rattle.std.proofs.Common.{◌≡◌, List, nat_eq, ap, sym, ◌∙◌, subst}
use Rattle.std.specs.Prelude.{IfOk}
use Rattle.mn_mini.specs.declared.part.PartItem.{PartItem}
use Rattle.mn_mini.specs.Short.{or_first_read}
use Rattle.mn_mini.proofs.ShortSteps.{left_none, left_some}
use Rattle.mn_mini.proofs.shortening.or_first_read.Goals as goal

pub returns-then-is_empty : goal.returns-then-is_empty
returns-then-is_empty c =
    let none = left_none c.args.items.items (ap (λ n. nat_eq n 0) (sym c.args.items.ok.0) ∙ sym c.is_empty.ensures ∙ c.if-is_empty.true) in
    subst (λ (l : List PartItem). IfOk c.first_read.result (λ kept. kept ≡ or_first_read c.args.part.now l)) (sym none) c.first_read.ensures

pub returns-else-is_empty : goal.returns-else-is_empty
returns-else-is_empty c =
    let some = left_some c.args.part.now c.args.items.items (ap (λ n. nat_eq n 0) (sym c.args.items.ok.0) ∙ sym c.is_empty.ensures ∙ c.if-is_empty.false) in
    subst (λ (l : List PartItem). IfOk c.from_vec.result (λ kept. kept ≡ l)) some c.from_vec.ensures

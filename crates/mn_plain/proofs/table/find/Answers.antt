use Rattle.std.proofs.Common.{◌∙◌, ap, sym, ℕ, List}
use Rattle.std.specs.Prelude.{option_and_then}
use Rattle.mn_base.specs.Store.{value_at}
use Rattle.mn_plain.specs.Table.{shown}
use Rattle.mn_plain.proofs.TableLemmas.{find_shown}
use Rattle.mn_plain.proofs.table.find.Goals as goal

pub returns : goal.returns
returns c =
    let es = c.args.table.now.entries in
    c.value_in.ensures ∙ ap (option_and_then (λ v. v)) c.get.ensures.value ∙ sym (find_shown es c.in_ok-key.key c.len-len.ensures.ordered)
    ∙ ap (λ (k : List ℕ). value_at (shown es) k) c.in_ok-key.ensures

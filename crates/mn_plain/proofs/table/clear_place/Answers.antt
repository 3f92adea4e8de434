use Rattle.std.proofs.Common.{◌≡◌, ◌∙◌, ap, sym, ℕ, List, Option, Some, None}
use Rattle.std.specs.BTreeMap.{is_at}
use Rattle.std.specs.Map.{lookup}
use Rattle.mn_base.specs.Order.{key_cmp}
use Rattle.mn_plain.specs.Table.{shown}
use Rattle.mn_plain.proofs.TableLemmas.{clear_shown}
use Rattle.mn_plain.proofs.table.clear_place.Goals as goal

pub returns-in-Some-None : goal.returns-in-Some-None
returns-in-Some-None c =
    let es = c.args.table.now.entries in
    let none : lookup (is_at (key_cmp c.in-Ok.key)) es ≡ Some None = sym c.in-Some-None.ensures.value ∙ ap (λ (o : Option (List ℕ)). Some o) c.in-Some-None.field-0-is in
    ap shown c.remove.ensures.entries ∙ clear_shown (is_at (key_cmp c.in-Ok.key)) es none

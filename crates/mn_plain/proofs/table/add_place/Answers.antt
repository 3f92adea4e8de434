use Rattle.std.proofs.Common.{◌≡◌, ◌∙◌, ap, sym, None}
use Rattle.std.proofs.lemmas.Result.{on_ok_weaker, on_err_weaker}
use Rattle.std.specs.BTreeMap.{is_at}
use Rattle.std.specs.Map.{lookup}
use Rattle.mn_base.specs.Order.{key_cmp}
use Rattle.mn_plain.specs.Table.{shown}
use Rattle.mn_plain.proofs.TableLemmas.{absent_shown, none_there, either_way}
use Rattle.mn_plain.proofs.table.add_place.Goals as goal

pub returns-clause-same : goal.returns-clause-same
returns-clause-same c =
    let es = c.args.table.now.entries in
    let none : lookup (is_at (key_cmp c.args.key)) es ≡ None = none_there (lookup (is_at (key_cmp c.args.key)) es) (sym c.contains_key.ensures ∙ c.if-contains_key.false) in
    either_way (shown c.set.new.table.entries ≡ shown es) c.set.result
    (on_ok_weaker c.set.result (λ e. e ∙ absent_shown es c.args.key none) c.set.ensures.pairs) (on_err_weaker c.set.result (ap shown) c.set.ensures.kept)

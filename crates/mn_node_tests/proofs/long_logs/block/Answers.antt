use Rattle.std.proofs.Common.{List, ap, sym, subst, arith, ◌∙◌}
use Rattle.mn_mini.specs.declared.part.PartItem.{PartItem}
use Rattle.mn_mini.specs.RecordGrammar.{IsPart}
use Rattle.mn_node_tests.proofs.Parts.{writes_are_part}
use Rattle.mn_node_tests.proofs.long_logs.block.Goals as goal

pub returns : goal.returns
returns c =
    let items = c.loop-item.items.items in
    let made = c.loop-item.invariant in
    subst IsPart (sym c.in_ok-from_vec.ensures) (writes_are_part items made.0 (omega (arith, made.1, c.loop-item-test.false)) (omega (arith, made.1, c.loop-item.auto.item-end)))

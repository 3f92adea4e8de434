use Rattle.mn_node.proofs.TestedParts.{free_tested, none_clash}
use Rattle.mn_node.proofs.memory.test_alone.Goals as goal

pub returns-then-is_empty : goal.returns-then-is_empty
returns-then-is_empty c =
    free_tested c.args.space.now c.args.locks.now.holds c.args.tid c.args.part.now c.test_compares.result
    (λ hs h. none_clash hs c.args.locks.now.holds c.args.tid c.args.part.now c.requires.part (c.is_empty.ensures.0 c.if-is_empty.true) h)
    c.test_compares.ensures

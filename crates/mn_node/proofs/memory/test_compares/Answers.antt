use Rattle.mn_mini.specs.Flat.{part_mismatch_from}
use Rattle.mn_node.proofs.TestedParts.{differs_is, done_is}
use Rattle.mn_node.proofs.memory.test_compares.Goals as goal

pub returns-in-Some : goal.returns-in-Some
returns-in-Some c = λ added.
    differs_is c.args.space.now c.args.part.now added (part_mismatch_from c.args.space.now 0 c.args.part.now) c.in_ok-differs.field-0 c.in-Some.differs c.in_ok-differs.ensures c.in-Some.is

pub returns : goal.returns
returns c = λ added.
    done_is c.args.space.now c.args.part.now added (part_mismatch_from c.args.space.now 0 c.args.part.now) c.in_ok-differs.field-0 c.in_ok-reads.reads c.in_ok-differs.ensures c.in_default.is c.in_ok-reads.ensures

use Rattle.std.proofs.Common.{◌++◌}
use Rattle.mn_node.proofs.Found.{first_sound, differs_front}
use Rattle.mn_node.proofs.restart.compare.Goals as goal

pub first_difference-requires : goal.first_difference-requires
first_difference-requires c = record { sound = first_sound (c.args.first.now ++ c.args.rest.now) c.args.pending.now c.requires.sound }

pub returns-in-Some-clause-differs : goal.returns-in-Some-clause-differs
returns-in-Some-clause-differs c =
    let told = rw c.in-Some.is at c.in_ok-at.ensures in
    let differs = rw c.in_ok-kept.ensures at c.differs.ensures in
    differs_front c.args.log (c.args.first.now ++ c.args.rest.now) c.args.pending.now c.in-Some.at c.record_in.result.now c.differs.result told.0 told.1 c.record_in.ensures differs

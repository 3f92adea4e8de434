use Rattle.mn_node.proofs.Found.{first_sound}
use Rattle.mn_node.proofs.Restarts.{found_longer, found_own}
use Rattle.mn_node.proofs.restart.find_list.Goals as goal

pub compare_shortened-requires-clause-sound : goal.compare_shortened-requires-clause-sound
compare_shortened-requires-clause-sound c = first_sound c.args.memory.now.records.items c.args.pending.now c.requires.sound

pub returns-then-branch-clause-found : goal.returns-then-branch-clause-found
returns-then-branch-clause-found c = (found_longer c.args.log.bodies c.args.memory.now c.args.pending.now _ c.if-branch.true c.in_ok-compare_listed.ensures.listed).0

pub returns-then-branch-clause-fits : goal.returns-then-branch-clause-fits
returns-then-branch-clause-fits c = (found_longer c.args.log.bodies c.args.memory.now c.args.pending.now _ c.if-branch.true c.in_ok-compare_listed.ensures.listed).1

pub returns-clause-found : goal.returns-clause-found
returns-clause-found c = found_own c.args.log.bodies c.args.memory.now c.args.pending.now _ c.if-branch.false c.in_ok-compare_listed.ensures.listed

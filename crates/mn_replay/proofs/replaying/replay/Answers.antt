use Rattle.std.proofs.Common.{[], refl, subst}
use Rattle.mn_callers.specs.Failed.{IsDamage}
use Rattle.mn_callers.proofs.Opening.{not_begun}
use Rattle.mn_replay.proofs.replaying.replay.Goals as goal

pub returns-in-Err-clause-failed : goal.returns-in-Err-clause-failed
returns-in-Err-clause-failed g c = c.no_memory.ensures.fails c.args.script.now c.args.nodes.items refl [] (not_begun g.D.Disk.state g.D.Disk.faults c.args.script.now c.args.script.now.nodes c.args.nodes.items c.requires.nodes)

pub returns-in-Err-clause-damaged : goal.returns-in-Err-clause-damaged
returns-in-Err-clause-damaged g c = λ damage. absurd (subst IsDamage c.no_memory.ensures.cause damage)

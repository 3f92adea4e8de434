use Rattle.std.proofs.Common.{◌≤◌, List, length, subst, sym, ◌∙◌}
use Rattle.mn_base.specs.declared.ids.NodeNo.{NodeNo}
use Rattle.mn_coord.proofs.Stages.{some_participant}
use Rattle.mn_coord.proofs.machine.participants_in.Goals as goal

pub returns-clause-some : goal.returns-clause-some
returns-clause-some c = subst (λ (ps : List NodeNo). 1 ≤ length ps) (sym (c.as_slice.ensures ∙ c.participants.ensures)) (some_participant c.args.mini.now c.items-items.ensures.sound)

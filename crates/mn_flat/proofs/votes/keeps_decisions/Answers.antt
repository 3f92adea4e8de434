use Rattle.std.proofs.Common.{◌∙◌}
use Rattle.mn_flat.proofs.Telling.{both_told, decisions_in}
use Rattle.mn_flat.proofs.votes.keeps_decisions.Goals as goal

pub returns-in-Decided : goal.returns-in-Decided
returns-in-Decided c = λ records told.
    decisions_in records c.args.record.now c.in-Decided.tid c.in-Decided.yes c.is_both.result c.in-Decided.is (c.is_both.ensures ∙ both_told c.args.told.now records told c.in-Decided.tid)

use Rattle.std.proofs.Common.{◌||◌, List, ap, sym, ◌∙◌}
use Rattle.std.specs.List.{list_all}
use Rattle.mn_base.specs.Ids.{node_same}
use Rattle.mn_base.specs.declared.ids.NodeNo.{NodeNo}
use Rattle.mn_commits.specs.Standing.{keeps_vote}
use Rattle.mn_commits.proofs.Computed.Standing.{commits_by_vote, lacks_vote}
use Rattle.mn_commits.proofs.flat.committed_at.Goals as goal

pub returns-then-all_voted : goal.returns-then-all_voted
returns-then-all_voted c = λ past t.
    c.issued_as.ensures ∙ commits_by_vote c.args.standing.now past c.args.node c.in-Prepare.tid c.in-Prepare.participants c.in-Prepare.part c.args.request.now t c.in-Prepare.is
    (ap (λ (ns : List NodeNo). list_all (λ m. node_same m c.args.node || keeps_vote c.args.standing.now c.in-Prepare.tid m) ns) (sym c.as_slice.ensures) ∙ (sym c.all_voted.ensures ∙ c.if-all_voted.true))

pub returns-else-all_voted : goal.returns-else-all_voted
returns-else-all_voted c = λ past t.
    lacks_vote c.args.standing.now past c.args.node c.in-Prepare.tid c.in-Prepare.participants c.in-Prepare.part c.args.request.now t c.in-Prepare.is
    (ap (λ (ns : List NodeNo). list_all (λ m. node_same m c.args.node || keeps_vote c.args.standing.now c.in-Prepare.tid m) ns) (sym c.as_slice.ensures) ∙ (sym c.all_voted.ensures ∙ c.if-all_voted.false))

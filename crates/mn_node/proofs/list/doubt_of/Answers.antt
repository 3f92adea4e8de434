use Rattle.std.proofs.Common.{◌∙◌}
use Rattle.mn_node.proofs.Votes.{made_doubt}
use Rattle.mn_node.proofs.list.doubt_of.Goals as goal

pub returns : goal.returns
returns c = λ h is. made_doubt c.args.records.now c.args.vote.now h c.in_ok-participants.participants is (c.in_ok-participants.ensures ∙ c.participants_of.ensures h is)

use Rattle.mn_flat.proofs.Telling.{decision_in}
use Rattle.mn_flat.proofs.Voting.{voted_in}
use Rattle.mn_flat.proofs.votes.keeps_votes.Goals as goal

pub returns-in-Voted : goal.returns-in-Voted
returns-in-Voted c = λ records older told past end there.
    voted_in c.args.told.now c.args.past.now records older c.args.node c.args.record.now c.in-Voted.tid c.in-Voted.participants c.in-Voted.part c.args.held.now c.args.space.now told past end there c.in-Voted.is c.vote_stands.result c.vote_stands.ensures

pub returns-in-Decided : goal.returns-in-Decided
returns-in-Decided c = λ records older told past end there.
    decision_in c.args.told.now c.args.past.now records older c.args.node c.args.record.now c.in-Decided.tid c.in-Decided.yes c.decision_fits.result told past c.in-Decided.is c.decision_fits.ensures

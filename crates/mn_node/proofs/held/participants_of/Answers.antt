use Rattle.mn_node.proofs.Votes.{vote_read}
use Rattle.mn_node.proofs.held.participants_of.Goals as goal

pub unreachable-requires : goal.unreachable-requires
unreachable-requires c = let h = c.requires.vote in c.in_default.not-Voted h.0.tid h.0.participants h.0.part (vote_read c.args.records.now c.args.vote h.0 c.index-records-vote.result h.1 c.index-records-vote.is)

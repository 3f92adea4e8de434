use Rattle.std.proofs.Common.{true, cond, ◌&&◌, ap, ◌∙◌}
use Rattle.mn_base.specs.Ids.{tid_same, node_same}
use Rattle.mn_commits.specs.declared.flat.VoteKey.{VoteKey}
use Rattle.mn_commits.specs.Standing.{vote_key, votes_same, keeps_vote}
use Rattle.mn_commits.proofs.Computed.Order.{vote_order, cond_or}
use Rattle.mn_commits.proofs.flat.note_vote.Goals as goal

pub returns-clause-voted : goal.returns-clause-voted
returns-clause-voted c = λ q n.
    let h = c.in_ok-insert.ensures.updates in
    let before = keeps_vote c.args.standing.now q n in
    h.0 (vote_key q n) ∙ (ap (λ (k : VoteKey). cond (votes_same k (vote_key q n)) true before) c.vote_key.ensures
    ∙ (ap (λ b. cond b true before) (vote_order c.args.tid q c.args.node n)
    ∙ cond_or (tid_same c.args.tid q && node_same n c.args.node) before))

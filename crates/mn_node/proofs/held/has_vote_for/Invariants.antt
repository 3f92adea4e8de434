use Rattle.std.proofs.Common.{◌≡◌, drop}
use Rattle.std.specs.List.{list_any}
use Rattle.mn_base.specs.Ids.{tid_same}
use Rattle.mn_node.proofs.held.has_vote_for.Given as goal

abbrev pub invariant-loop-vote : goal.invariant-loop-vote
invariant-loop-vote l = list_any (λ v. tid_same v.tid l.tid) (drop l.vote-index l.held) ≡ list_any (λ v. tid_same v.tid l.tid) l.held

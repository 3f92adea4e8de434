-- Votes whose parts are held.
use Rattle.std.specs.Prelude.{◌≡◌, not, List, filter, reverse, slice_get, Some}
use Rattle.std.specs.List.{AllZip}
use Rattle.mn_base.specs.Ids.{tid_same}
use Rattle.mn_base.specs.declared.ids.Tid.{Tid}
use Rattle.mn_mini.specs.declared.record.Record.{Record}
use Rattle.mn_mini.specs.declared.record.Record.TheVariants.{Voted}
use Rattle.mn_mini.specs.Node.{HeldPart, held_parts}
use Rattle.mn_node.specs.declared.held.Vote.{Vote}

-- the record at the vote's place is the vote for this held part
pub record IsVoteFor (records : List Record) (vote : Vote) (h : HeldPart) : Type 0 where
  pub tid : vote.tid ≡ h.tid
  pub record_is : slice_get records vote.place ≡ Some (Voted h.tid h.participants h.part)

-- the record at the vote's place is a vote
abbrev pub IsVote : List Record → Vote → Type 0
IsVote records vote = (h : HeldPart) × IsVoteFor records vote h

-- these are the votes for the parts that the records hold, the oldest first
abbrev pub AreHeldVotes : List Record → List Vote → Type 0
AreHeldVotes records votes =
    AllZip (IsVoteFor records) votes (reverse (held_parts (reverse records)))

-- the votes of other ids
abbrev pub votes_of_others : Tid → List Vote → List Vote
votes_of_others tid votes = filter (λ vote. not (tid_same vote.tid tid)) votes

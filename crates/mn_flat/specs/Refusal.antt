-- Why records make no memory.
use Rattle.std.specs.Prelude.{◌≡◌, ℕ, List, ⊤}
use Rattle.mn_base.specs.declared.ids.NodeNo.{NodeNo}
use Rattle.mn_mini.specs.declared.record.Record.{Record}
use Rattle.mn_flat.specs.declared.error.VoteError.{VoteError}
use Rattle.mn_flat.specs.declared.error.VoteError.TheVariants.{Unvoted, Both, NoMemory}
use Rattle.mn_flat.specs.Votes.{IsFirstWrong, KeepsVotes, KeepsDecisions, elders}

-- the first record that does not keep its place by votes, before which each record is right
pub record NamesUnvoted (records : List (List Record)) (n : NodeNo) (number : ℕ) : Type 0 where
  pub r : Record
  pub place : IsFirstWrong records n number r
  pub wrong : KeepsVotes records n (elders records n number) r → ⊥

-- the first record whose id is decided both ways, which keeps its place by votes
pub record NamesBoth (records : List (List Record)) (n : NodeNo) (number : ℕ) : Type 0 where
  pub r : Record
  pub place : IsFirstWrong records n number r
  pub voted : KeepsVotes records n (elders records n number) r
  pub wrong : KeepsDecisions records r → ⊥

abbrev pub RefusesRecords : List (List Record) → VoteError → Type 0
RefusesRecords records (Unvoted node number) = NamesUnvoted records node number
RefusesRecords records (Both node number) = NamesBoth records node number
RefusesRecords records NoMemory = ⊤

abbrev pub IsWantOfMemory : VoteError → Type 0
IsWantOfMemory e = e ≡ NoMemory

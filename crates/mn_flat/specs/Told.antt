-- What the test of the records knows at a record, and what it says of one that is wrong.
use Rattle.std.specs.Prelude.{◌≡◌, ℕ, List, length, Some, slice_get, ⊤}
use Rattle.mn_base.specs.declared.ids.NodeNo.{NodeNo}
use Rattle.mn_mini.specs.declared.record.Record.{Record}
use Rattle.mn_mini.specs.Node.{held_parts, space_of}
use Rattle.mn_page.specs.Base.{base_of}
use Rattle.mn_page.specs.Space.{space_length}
use Rattle.mn_flat.specs.declared.held.Held.{Held}
use Rattle.mn_flat.specs.declared.error.VoteError.{VoteError}
use Rattle.mn_flat.specs.declared.error.VoteError.TheVariants.{Unvoted, Both, NoMemory}
use Rattle.mn_flat.specs.declared.votes.Told.{Told}
use Rattle.mn_flat.specs.declared.votes.Past.{Past}
use Rattle.mn_flat.specs.Known.{TableTells, AllTell, parts_seen}
use Rattle.mn_flat.specs.Votes.{KeepsVotes, KeepsDecisions, AreRight, lists_of, all_of, list_at}
use Rattle.mn_flat.specs.Votes.{elders}

-- what is told is what the records of all nodes tell
pub record IsTold (told : Told) (records : List (List Record)) : Type 0 where
  pub all : TableTells told.all (all_of records)
  pub nodes : AllTell told.nodes.items (lists_of records)
  pub count : length told.nodes.items ≡ length records

-- what is kept is what the older records of a node tell
pub record IsPast (past : Past) (older : List Record) : Type 0 where
  pub known : TableTells past.known older
  pub held : parts_seen past.held.items ≡ held_parts older

-- what is kept in the end is what all records of the node make
pub record IsEnd (parts : List Held) (bytes : List ℕ) (records : List (List Record)) (n : NodeNo)
    : Type 0 where
  pub held : parts_seen parts ≡ held_parts (lists_of records n)
  pub space : bytes ≡ space_of (base_of (length records) n.0) (lists_of records n)
  pub whole : length bytes ≡ space_length

-- the record with this number, after these older ones, is wrong as the answer says
abbrev pub SaysWrong : List (List Record) → NodeNo → ℕ → List Record → Record → VoteError → Type 0
SaysWrong records n number older r (Unvoted node k) =
    (node ≡ n) × (k ≡ number) × (KeepsVotes records n older r → ⊥)
SaysWrong records n number older r (Both node k) =
    (node ≡ n) × (k ≡ number) × KeepsVotes records n older r × (KeepsDecisions records r → ⊥)
SaysWrong records n number older r NoMemory = ⊤

-- the first wrong record of a node's list is wrong as the answer says
pub record IsWrongAt (records : List (List Record)) (n : NodeNo) (number : ℕ) (e : VoteError)
    : Type 0 where
  pub r : Record
  pub there : slice_get (list_at records n) number ≡ Some r
  pub before : AreRight records n (elders records n number)
  pub says : SaysWrong records n number (elders records n number) r e

abbrev pub RefusesIn : List (List Record) → NodeNo → VoteError → Type 0
RefusesIn records n (Unvoted node k) = IsWrongAt records n k (Unvoted node k)
RefusesIn records n (Both node k) = IsWrongAt records n k (Both node k)
RefusesIn records n NoMemory = ⊤

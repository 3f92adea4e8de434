-- Which records fit together, what is committed by them, and the memory that they make. Each
-- node's records stand newest first.
use Rattle.std.specs.Prelude.{ℕ, ◌≡◌, ◌<◌, Bool, true, false, not, ◌||◌, List, [], ◌∷◌, map, Option}
use Rattle.std.specs.Prelude.{Some, None, ⊤, if◌then◌else◌, Contains}
use Rattle.std.specs.List.{list_any, list_all, AllByRecursion}
use Rattle.std.specs.Option.{option_map_or}
use Rattle.mn_base.specs.Ids.{tid_same, node_numbers}
use Rattle.mn_base.specs.declared.ids.NodeNo.{NodeNo}
use Rattle.mn_base.specs.declared.ids.Tid.{Tid}
use Rattle.mn_mini.specs.declared.part.PartItem.{PartItem}
use Rattle.mn_mini.specs.declared.record.Record.{Record}
use Rattle.mn_mini.specs.declared.record.Record.TheVariants.{Voted, Executed, Decided, Forced}
use Rattle.mn_mini.specs.Mini.{parts_conflict}
use Rattle.mn_mini.specs.Node.{is_of, HeldPart, held_parts, is_held, has_voted, has_executed}
use Rattle.mn_mini.specs.Node.{has_decided_yes, has_decided_no, space_of, with_held}
use Rattle.mn_runs.specs.Protocol.{Start, start_nodes, base_at, start_records}

-- Committed

-- the participants that the vote for the id names
abbrev pub voted_participants : Tid → List Record → Option (List NodeNo)
voted_participants tid [] = None
voted_participants tid (Voted t participants part ∷ records) =
    if tid_same t tid then Some participants else voted_participants tid records
voted_participants tid (r ∷ records) = voted_participants tid records

-- each of these nodes has its vote
abbrev pub have_voted : (NodeNo → List Record) → Tid → List NodeNo → Bool
have_voted lists tid participants = list_all (λ n. has_voted (lists n) tid) participants

-- each participant has voted, or the one participant has executed it
abbrev pub is_committed : ℕ → (NodeNo → List Record) → Tid → Bool
is_committed nodes lists tid =
    list_any (λ n. has_executed (lists n) tid
    || option_map_or (have_voted lists tid) (voted_participants tid (lists n)) false)
    (node_numbers nodes)

-- Records in place

-- some record is of the id
abbrev pub has_record : List Record → Tid → Bool
has_record records tid = list_any (is_of tid) records

-- the part conflicts with no part that is held
abbrev pub is_free : List HeldPart → List PartItem → Bool
is_free hs part = not (list_any (λ h. parts_conflict part h.part) hs)

-- a record after the older ones of its node: a vote, an execution and a Forced are the first of
-- their id, and a decision has its id held
abbrev pub IsInPlace : ℕ → NodeNo → List Record → Record → Type 0
IsInPlace nodes n older (Voted tid participants part) =
    (has_record older tid ≡ false) × AllByRecursion (λ m. m.0 < nodes) participants
    × Contains participants n × (is_free (held_parts older) part ≡ true)
IsInPlace nodes n older (Executed tid part) =
    (has_record older tid ≡ false) × (is_free (held_parts older) part ≡ true)
IsInPlace nodes n older (Decided tid verdict) = is_held older tid ≡ true
IsInPlace nodes n older (Forced tid) = has_record older tid ≡ false

abbrev pub AreInPlace : ℕ → NodeNo → List Record → Type 0
AreInPlace nodes n [] = ⊤
AreInPlace nodes n (r ∷ older) = IsInPlace nodes n older r × AreInPlace nodes n older

-- the records of all nodes fit together
pub record AreSound (nodes : ℕ) (lists : NodeNo → List Record) : Type 0 where
  pub in_place : (n : NodeNo) → n.0 < nodes → AreInPlace nodes n (lists n)
  -- the votes for an id name the same participants
  pub same : (n m : NodeNo) (tid : Tid) (one other : List NodeNo) → n.0 < nodes → m.0 < nodes
      → voted_participants tid (lists n) ≡ Some one → voted_participants tid (lists m) ≡ Some other
      → one ≡ other
  -- an execution is the only record of its id
  pub alone : (n m : NodeNo) (tid : Tid) → n.0 < nodes → m.0 < nodes
      → has_executed (lists n) tid ≡ true → has_record (lists m) tid ≡ true → n ≡ m
  -- a decided yes has the vote of each participant
  pub yes : (n : NodeNo) (tid : Tid) (participants : List NodeNo) → n.0 < nodes
      → has_decided_yes (lists n) tid ≡ true
      → voted_participants tid (lists n) ≡ Some participants
      → have_voted lists tid participants ≡ true
  -- an id with a decided no is not committed, and has no decided yes
  pub no : (n m : NodeNo) (tid : Tid) → n.0 < nodes → m.0 < nodes
      → has_decided_no (lists n) tid ≡ true
      → (is_committed nodes lists tid ≡ false) × (has_decided_yes (lists m) tid ≡ false)

-- The memory

-- each node's space, in which every committed minitransaction is applied whether decided or not
abbrev pub memory_in : ℕ → (NodeNo → List ℕ) → (NodeNo → List Record) → List (List ℕ)
memory_in nodes bases lists =
    map (λ n. with_held (is_committed nodes lists) (space_of (bases n) (lists n))
    (held_parts (lists n))) (node_numbers nodes)

-- the memory that a run begins with
abbrev pub opened_memory : Start → List (List ℕ)
opened_memory start = memory_in (start_nodes start) (base_at start) (start_records start)

-- Which records of all nodes stand where they may, and which one is named where some do not. The
-- records of a node stand oldest first here; what a record may be is said of its elders, which
-- stand newest first.
use Rattle.std.specs.Prelude.{◌≡◌, ℕ, ◌<◌, ◌⊎◌, Bool, true, false, not, ◌&&◌, ◌||◌, List, [], ◌∷◌}
use Rattle.std.specs.Prelude.{length, take, reverse, Some, ⊤, slice_get, slice_index_or, Contains}
use Rattle.std.specs.List.{list_all, flat_map}
use Rattle.std.specs.Option.{option_map_or}
use Rattle.mn_base.specs.Ids.{node_same, tid_same}
use Rattle.mn_base.specs.declared.ids.NodeNo.{NodeNo}
use Rattle.mn_base.specs.declared.ids.Tid.{Tid}
use Rattle.mn_mini.specs.declared.record.Record.{Record}
use Rattle.mn_mini.specs.declared.record.Record.TheVariants.{Voted, Executed, Decided, Forced}
use Rattle.mn_mini.specs.Node.{is_of, has_decided_yes, has_decided_no, HeldPart, held_parts}
use Rattle.mn_mini.specs.Node.{space_of}
use Rattle.mn_page.specs.Base.{base_of}
use Rattle.mn_runs.specs.Protocol.{start_of, start_records}
use Rattle.mn_runs.specs.Sound.{voted_participants, have_voted, is_committed, has_record, IsInPlace}
use Rattle.mn_flat.specs.Numbers.{PartRises}

-- the records of each node, and those of all nodes one node after the other, newest first
abbrev pub lists_of : List (List Record) → NodeNo → List Record
lists_of records = start_records (start_of records)

abbrev pub all_of : List (List Record) → List Record
all_of records = reverse (flat_map (λ list. list) records)

abbrev pub numbered : ℕ → NodeNo
numbered n = record { 0 = n }

-- One record

abbrev pub same_nodes : List NodeNo → List NodeNo → Bool
same_nodes [] [] = true
same_nodes [] (n ∷ ns) = false
same_nodes (m ∷ ms) [] = false
same_nodes (m ∷ ms) (n ∷ ns) = node_same m n && same_nodes ms ns

-- if it is a vote for the id, it names these participants
abbrev pub names_none_but : Tid → List NodeNo → Record → Bool
names_none_but tid participants (Voted t others part) =
    not (tid_same t tid) || same_nodes others participants
names_none_but tid participants r = true

-- the id has more than one record
abbrev pub has_several : List Record → Tid → Bool
has_several [] tid = false
has_several (r ∷ older) tid = (is_of tid r && has_record older tid) || has_several older tid

-- the participants that the vote names have voted
abbrev pub has_all_votes : (NodeNo → List Record) → NodeNo → Tid → Bool
has_all_votes lists n tid =
    option_map_or (have_voted lists tid) (voted_participants tid (lists n)) false

-- what the node holds of the id in the end writes greater numbers, if the id is committed
abbrev pub HeldRises : List (List Record) → NodeNo → Tid → Type 0
HeldRises records n tid =
    is_committed (length records) (lists_of records) tid ≡ true
    → (h : HeldPart) → Contains (held_parts (lists_of records n)) h → h.tid ≡ tid
    → PartRises n (space_of (base_of (length records) n.0) (lists_of records n)) h.part

-- A record is in place after its elders. Every vote for the id of a vote names the same
-- participants, what is held of a committed id writes greater numbers, an execution is the only
-- record of its id, and a decided yes has the vote of each participant.
abbrev pub KeepsVotes : List (List Record) → NodeNo → List Record → Record → Type 0
KeepsVotes records n older (Voted tid participants part) =
    IsInPlace (length records) n older (Voted tid participants part)
    × (list_all (names_none_but tid participants) (all_of records) ≡ true)
    × HeldRises records n tid
KeepsVotes records n older (Executed tid part) =
    IsInPlace (length records) n older (Executed tid part)
    × (has_several (all_of records) tid ≡ false)
KeepsVotes records n older (Decided tid true) =
    IsInPlace (length records) n older (Decided tid true)
    × (has_all_votes (lists_of records) n tid ≡ true)
KeepsVotes records n older (Decided tid false) =
    IsInPlace (length records) n older (Decided tid false)
KeepsVotes records n older (Forced tid) = IsInPlace (length records) n older (Forced tid)

-- the id has a decided no, and is committed or has a decided yes
abbrev pub is_both : List (List Record) → Tid → Bool
is_both records tid =
    has_decided_no (all_of records) tid
    && (is_committed (length records) (lists_of records) tid
    || has_decided_yes (all_of records) tid)

-- the id of a decision is not decided both ways
abbrev pub KeepsDecisions : List (List Record) → Record → Type 0
KeepsDecisions records (Decided tid verdict) = is_both records tid ≡ false
KeepsDecisions records r = ⊤

abbrev pub IsRight : List (List Record) → NodeNo → List Record → Record → Type 0
IsRight records n older r = KeepsVotes records n older r × KeepsDecisions records r

-- each of these records of a node is right; newest first
abbrev pub AreRight : List (List Record) → NodeNo → List Record → Type 0
AreRight records n [] = ⊤
AreRight records n (r ∷ older) = IsRight records n older r × AreRight records n older

-- Places: a node, and the number of a record in its list

abbrev pub list_at : List (List Record) → NodeNo → List Record
list_at records n = slice_index_or records n.0 []

abbrev pub elders : List (List Record) → NodeNo → ℕ → List Record
elders records n number = reverse (take number (list_at records n))

-- the places go by node, then by number
abbrev pub ComesBefore : NodeNo → ℕ → NodeNo → ℕ → Type 0
ComesBefore m i n number = (m.0 < n.0) ⊎ ((m ≡ n) × (i < number))

-- the record at this place, and all before it are right
pub record IsFirstWrong (records : List (List Record)) (n : NodeNo) (number : ℕ) (r : Record)
    : Type 0 where
  pub there : slice_get (list_at records n) number ≡ Some r
  pub first : (m : NodeNo) (i : ℕ) (q : Record) → ComesBefore m i n number
      → slice_get (list_at records m) i ≡ Some q → IsRight records m (elders records m i) q

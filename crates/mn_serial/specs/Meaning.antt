-- The laws of meaning: however a run goes, its history is one legal history of the store.
use Rattle.std.specs.Prelude.{ℕ, ◌≡◌, ◌<◌, ◌⊎◌, true, false, nat_lt, filter, List, [], ◌∷◌, ◌++◌}
use Rattle.std.specs.Prelude.{length, reverse, Some, ⊤, slice_get, Contains}
use Rattle.std.specs.List.{AllByRecursion}
use Rattle.mn_base.specs.Store.{Store, StoreVersion}
use Rattle.mn_base.specs.History.{store_after}
use Rattle.mn_base.specs.declared.ids.ClientNo.{ClientNo}
use Rattle.mn_base.specs.declared.ids.NodeNo.{NodeNo}
use Rattle.mn_base.specs.declared.answer.Answer.{Answer}
use Rattle.mn_base.specs.declared.answer.Answer.TheVariants.{Replied, InDoubt}
use Rattle.mn_base.specs.declared.op.Op.{Op}
use Rattle.mn_base.specs.declared.history.Past.{Past}
use Rattle.mn_mini.specs.declared.record.Record.{Record}
use Rattle.mn_mini.specs.Mini.{is_read}
use Rattle.mn_mini.specs.Short.{short}
use Rattle.mn_page.specs.Holds.{Holds}
use Rattle.mn_runs.specs.declared.entry.Entry.{Entry}
use Rattle.mn_runs.specs.declared.entry.What.{What}
use Rattle.mn_runs.specs.declared.entry.What.TheVariants.{Begin, Answered, Stopped, Restarted}
use Rattle.mn_runs.specs.Calls.{Issued}
use Rattle.mn_runs.specs.Protocol.{Start, start_nodes, base_at, start_records, records_of}
use Rattle.mn_runs.specs.Protocol.{FollowsProtocol}
use Rattle.mn_runs.specs.Commits.{committed_by, flat_after}
use Rattle.mn_law.specs.Opened.{IsOpened}
use Rattle.mn_runs.specs.Sound.{opened_memory}
use Rattle.mn_law.specs.Run.{IsRun}
use Rattle.mn_serial.specs.History.{Placed, pasts_of, PlanOf, IsHistory}

-- a run from records whose memory holds the store
pub record OpenedRun (start : Start) (store : Store) (past : List Entry) : Type 0 where
  pub opened : IsOpened (start_nodes start) (base_at start) (start_records start) store
  pub run : IsRun start past

-- with its history
pub record HistoryRun (start : Start) (store : Store) (past : List Entry)
    (placed : List Placed) : Type 0 where
  pub opened : OpenedRun start store past
  pub history : IsHistory past placed

-- The history

abbrev pub HistoryIsOne : Type 0
HistoryIsOne = (start : Start) (store : Store) (past : List Entry) (one other : List Placed)
    → HistoryRun start store past one → HistoryRun start store past other → one ≡ other

-- The store at each place

-- the operations that have their places before this one
abbrev pub placed_before : ℕ → List Placed → List Placed
placed_before n placed = filter (λ p. nat_lt p.place n) placed

-- the store that they leave
abbrev pub store_at : Store → List Placed → ℕ → Store
store_at store placed n = store_after store (pasts_of (placed_before n placed))

-- at every place the flat memory holds the store of the operations placed before it
abbrev pub HoldsThroughout : Type 0
HoldsThroughout =
    (start : Start) (store : Store) (past later before : List Entry) (placed : List Placed)
    → HistoryRun start store past placed → past ≡ later ++ before
    → Holds (flat_after (opened_memory start) before) (store_at store placed (length before))

-- the records at every place are opened with the store there
abbrev pub StaysOpened : Type 0
StaysOpened =
    (start : Start) (store : Store) (past later before : List Entry) (placed : List Placed)
    → HistoryRun start store past placed → past ≡ later ++ before
    → IsOpened (start_nodes start) (base_at start) (records_of start before)
    (store_at store placed (length before))

-- after the last place it is the store of the whole history
abbrev pub EndsOpened : Type 0
EndsOpened =
    (start : Start) (store : Store) (past : List Entry) (placed : List Placed)
    → HistoryRun start store past placed
    → IsOpened (start_nodes start) (base_at start) (records_of start past)
    (store_after store (pasts_of placed))

-- a step by which a node stops, or comes back
abbrev pub IsStop : What → Type 0
IsStop (Stopped request asked) = ⊤
IsStop (Restarted kept) = ⊤
IsStop what = ⊥

-- whatever stops and restarts come behind a run, they leave opened records: they are a run with it
abbrev pub StopsLeaveOpened : Type 0
StopsLeaveOpened =
    (start : Start) (store : Store) (past stops : List Entry) → OpenedRun start store past
    → AllByRecursion (λ e. IsStop e.what) stops → FollowsProtocol start (stops ++ past)
    → (placed : List Placed) × HistoryRun start store (stops ++ past) placed
    × IsOpened (start_nodes start) (base_at start) (records_of start (stops ++ past))
    (store_after store (pasts_of placed))

-- a version that is frozen in the store at one place stands there unchanged at every later place
abbrev pub FrozenNeverChanges : Type 0
FrozenNeverChanges =
    (start : Start) (store : Store) (past later between before : List Entry) (placed : List Placed)
    (v : ℕ) (version : StoreVersion) → HistoryRun start store past placed
    → past ≡ later ++ (between ++ before)
    → slice_get (store_at store placed (length before)) v ≡ Some version
    → version.head.frozen ≡ true
    → slice_get (store_at store placed (length (between ++ before))) v ≡ Some version

-- The operations of the history

-- no operation stands twice
abbrev pub AreOnce : List Placed → Type 0
AreOnce [] = ⊤
AreOnce (p ∷ ps) =
    AllByRecursion (λ q. q.past.client ≡ p.past.client → q.past.number ≡ p.past.number → ⊥) ps
    × AreOnce ps

-- the entry stands at this place
abbrev pub StandsAt : List Entry → ℕ → Entry → Type 0
StandsAt past place e =
    (later : List Entry) × (before : List Entry) × (past ≡ later ++ e ∷ before)
    × (place ≡ length before)

-- the entry is the Begin of this operation of this client, or its answer
abbrev pub BeginsOp : Entry → ClientNo → ℕ → Op → Type 0
BeginsOp e c number op = (e.client ≡ Some c) × (e.what ≡ Begin number op)

abbrev pub AnswersOp : Entry → ClientNo → ℕ → Answer → Type 0
AnswersOp e c number answer = (e.client ≡ Some c) × (e.what ≡ Answered number answer)

-- a plan of this operation is committed at this place
abbrev pub CommitsPlanAt : List Entry → ℕ → ClientNo → ℕ → Type 0
CommitsPlanAt past place c number =
    (later : List Entry) × (e : Entry) × (before : List Entry) × (i : Issued)
    × (past ≡ later ++ e ∷ before) × (place ≡ length before)
    × (committed_by before e ≡ Some i) × (is_read i.mini.items ≡ false)
    × ((p : Past) × PlanOf before i p × (p.client ≡ c) × (p.number ≡ number))

-- each one whose plan is committed stands there, at the plan's place
abbrev pub CommittedStands : Type 0
CommittedStands =
    (start : Start) (store : Store) (past : List Entry) (placed : List Placed) (place : ℕ)
    (c : ClientNo) (number : ℕ)
    → HistoryRun start store past placed → CommitsPlanAt past place c number
    → (p : Placed) × Contains placed p × (p.past.client ≡ c) × (p.past.number ≡ number)
    × (p.place ≡ place)

-- nothing else stands there: an operation of the history was begun, and has a committed plan at its
-- place, or was replied to so
abbrev pub OnlyThoseStand : Type 0
OnlyThoseStand =
    (start : Start) (store : Store) (past : List Entry) (placed : List Placed) (p : Placed)
    → HistoryRun start store past placed → Contains placed p
    → ((place : ℕ) × (e : Entry) × StandsAt past place e
    × BeginsOp e p.past.client p.past.number p.past.op × (place < p.place))
    × (CommitsPlanAt past p.place p.past.client p.past.number
    ⊎ ((place : ℕ) × (e : Entry) × StandsAt past place e
    × AnswersOp e p.past.client p.past.number (Replied p.past.reply) × (p.place < place)))

-- neither a reply nor a doubt
abbrev pub MeansNoEffect : Answer → Type 0
MeansNoEffect (Replied reply) = ⊥
MeansNoEffect (InDoubt tid n) = ⊥
MeansNoEffect answer = ⊤

-- a plan is committed after its operation's Begin
abbrev pub PlansLieBehind : Type 0
PlansLieBehind =
    (start : Start) (store : Store) (past : List Entry) (place begun : ℕ) (e : Entry) (c : ClientNo)
    (number : ℕ) (op : Op)
    → OpenedRun start store past → CommitsPlanAt past place c number → StandsAt past begun e
    → BeginsOp e c number op → begun < place

-- of each operation, also one in doubt or one whose client died, at most one plan is committed
abbrev pub OnePlanEach : Type 0
OnePlanEach =
    (start : Start) (store : Store) (past : List Entry) (one other : ℕ) (c : ClientNo) (number : ℕ)
    → OpenedRun start store past
    → CommitsPlanAt past one c number → CommitsPlanAt past other c number → one ≡ other

-- Shortened records

-- a list, and the same with a first part of it shortened, both newest first
pub record IsShortenedFrom (whole shorter : List Record) : Type 0 where
  pub first : List Record
  pub rest : List Record
  pub whole_is : whole ≡ reverse (first ++ rest)
  pub shorter_is : shorter ≡ reverse (short first ++ rest)

-- where such parts of some lists, or of all, are shortened, the records stay opened with the same
-- store; of a list that stays the first part is empty
abbrev pub ShortenedStaysOpened : Type 0
ShortenedStaysOpened =
    (nodes : ℕ) (bases : NodeNo → List ℕ) (whole shorter : NodeNo → List Record) (store : Store)
    → ((n : NodeNo) → IsShortenedFrom (whole n) (shorter n)) → IsOpened nodes bases whole store
    → IsOpened nodes bases shorter store

-- What the operations of a log come to, all in one. Lists of entries stand newest first, and the
-- place of an entry is how many are older.
use Rattle.std.specs.Prelude.{ℕ, ◌≡◌, ◌<◌, ◌⊎◌, Bool, true, false, IsTrue, List, [], ◌∷◌, ◌++◌}
use Rattle.std.specs.Prelude.{length, Some, slice_get, Contains, ⊤}
use Rattle.std.specs.List.{AllByRecursion}
use Rattle.mn_base.specs.declared.ids.NodeNo.{NodeNo}
use Rattle.mn_base.specs.declared.ids.ClientNo.{ClientNo}
use Rattle.mn_base.specs.declared.ids.Tid.{Tid}
use Rattle.mn_base.specs.declared.op.Op.{Op}
use Rattle.mn_base.specs.declared.reply.Reply.{Reply}
use Rattle.mn_base.specs.declared.answer.Answer.{Answer}
use Rattle.mn_base.specs.declared.answer.Answer.TheVariants.{Replied, InDoubt}
use Rattle.mn_base.specs.declared.history.Past.{Past}
use Rattle.mn_base.specs.Store.{Store, StoreVersion}
use Rattle.mn_base.specs.History.{IsLegal, store_after}
use Rattle.mn_mini.specs.declared.request.Request.TheVariants as Ask
use Rattle.mn_mini.specs.declared.reply.NodeReply.TheVariants as Say
use Rattle.mn_mini.specs.Mini.{is_read}
use Rattle.mn_page.specs.Holds.{Holds}
use Rattle.mn_runs.specs.declared.entry.Entry.{Entry}
use Rattle.mn_runs.specs.declared.entry.What.{What}
use Rattle.mn_runs.specs.declared.entry.What.TheVariants.{Called}
use Rattle.mn_runs.specs.Calls.{Issued, client_entries, under_way}
use Rattle.mn_runs.specs.Protocol.{Start, FollowsProtocol, AreFree, AreUp}
use Rattle.mn_runs.specs.Commits.{committed_by, flat_after}
use Rattle.mn_runs.specs.Sound.{opened_memory}
use Rattle.mn_serial.specs.History.{Placed, PlanOf, pasts_of, IsHistory}
use Rattle.mn_serial.specs.Meaning.{OpenedRun, HistoryRun, AreOnce, StandsAt, BeginsOp, AnswersOp}
use Rattle.mn_serial.specs.Meaning.{CommitsPlanAt, MeansNoEffect}

-- Operations

-- some entry of the log answers the operation so
abbrev pub WasAnswered : List Entry → ClientNo → ℕ → Answer → Type 0
WasAnswered past c number answer =
    (place : ℕ) × (e : Entry) × StandsAt past place e × AnswersOp e c number answer

abbrev pub IsOp : Placed → ClientNo → ℕ → Type 0
IsOp p c number = (p.past.client ≡ c) × (p.past.number ≡ number)

-- the operation stands nowhere in the history
abbrev pub StandsNowhere : List Placed → ClientNo → ℕ → Type 0
StandsNowhere placed c number =
    AllByRecursion (λ p. p.past.client ≡ c → p.past.number ≡ number → ⊥) placed

-- Took effect or were replied to

-- what was replied to stands in the history, with its reply
abbrev pub RepliedStand : List Entry → List Placed → Type 0
RepliedStand past placed = (c : ClientNo) (number : ℕ) (reply : Reply)
    → WasAnswered past c number (Replied reply)
    → (p : Placed) × Contains placed p × IsOp p c number × (p.past.reply ≡ reply)

-- no plan of the operation is committed, in the log or in any that goes on from it
abbrev pub IsNever : Start → List Entry → ClientNo → ℕ → Type 0
IsNever start past c number = (later : List Entry) (place : ℕ)
    → FollowsProtocol start (later ++ past) → CommitsPlanAt (later ++ past) place c number → ⊥

-- nor in any that goes on with no further step of its client
abbrev pub IsNeverAlone : Start → List Entry → ClientNo → ℕ → Type 0
IsNeverAlone start past c number = (later : List Entry) (place : ℕ) → client_entries c later ≡ []
    → FollowsProtocol start (later ++ past) → CommitsPlanAt (later ++ past) place c number → ⊥

-- what was answered otherwise, and not in doubt, has no effect, and never will
abbrev pub OthersHaveNone : Start → List Entry → List Placed → Type 0
OthersHaveNone start past placed =
    (c : ClientNo) (number : ℕ) (answer : Answer) → WasAnswered past c number answer
    → MeansNoEffect answer → StandsNowhere placed c number × IsNever start past c number

-- Order

-- each place is below all those behind it
abbrev pub Ascend : List Placed → Type 0
Ascend [] = ⊤
Ascend (p ∷ ps) = AllByRecursion (λ q. p.place < q.place) ps × Ascend ps

-- an operation has its place behind its Begin, and before its answer where it was replied to
pub record LiesBetween (past : List Entry) (p : Placed) : Type 0 where
  pub begin : ℕ
  pub entry : Entry
  pub stands : StandsAt past begin entry
  pub begins : BeginsOp entry p.past.client p.past.number p.past.op
  pub after : begin < p.place
  pub before : (place : ℕ) (e : Entry) (reply : Reply) → StandsAt past place e
      → AnswersOp e p.past.client p.past.number (Replied reply) → p.place < place

-- what was replied to before another operation began has the lower place
abbrev pub AreAfterSeen : List Entry → List Placed → Type 0
AreAfterSeen past placed =
    (p q : Placed) (answered begun : ℕ) (d e : Entry) (reply : Reply) (op : Op) → Contains placed p
    → Contains placed q → StandsAt past answered d
    → AnswersOp d p.past.client p.past.number (Replied reply)
    → StandsAt past begun e → BeginsOp e q.past.client q.past.number op → answered < begun
    → p.place < q.place

-- Doubt

-- a step brought a yes vote
abbrev pub is_yes_vote : What → Bool
is_yes_vote (Called (Ask.Prepare tid participants part) (Say.Done reads)) = true
is_yes_vote what = false

-- the last step of these did
abbrev pub EndsWithVote : List Entry → Type 0
EndsWithVote [] = ⊥
EndsWithVote (e ∷ es) = IsTrue (is_yes_vote e.what)

-- the client was told that the operation is in doubt
abbrev pub WasToldDoubt : List Entry → ClientNo → ℕ → Type 0
WasToldDoubt past c number = (tid : Tid) × (n : NodeNo) × WasAnswered past c number (InDoubt tid n)

-- the client was left in it by a yes vote, as a client is that died
abbrev pub WasLeft : List Entry → ClientNo → ℕ → Type 0
WasLeft past c number =
    (op : Op) × (under_way (client_entries c past) ≡ Some (record { number = number; op = op }))
    × EndsWithVote (client_entries c past)

-- a plan of the operation is committed at its place
pub record TookEffect (past : List Entry) (placed : List Placed) (c : ClientNo)
    (number : ℕ) : Type 0 where
  pub p : Placed
  pub there : Contains placed p
  pub of : IsOp p c number
  pub i : Issued
  pub later : List Entry
  pub entry : Entry
  pub before : List Entry
  pub split : past ≡ later ++ entry ∷ before
  pub place : p.place ≡ length before
  pub committed : committed_by before entry ≡ Some i
  pub no_read : is_read i.mini.items ≡ false
  pub plan : PlanOf before i p.past

-- what is in doubt took effect wholly, or has none and never will
abbrev pub AreSettled : Start → List Entry → List Placed → Type 0
AreSettled start past placed = (c : ClientNo) (number : ℕ) → WasToldDoubt past c number
    → TookEffect past placed c number
    ⊎ (StandsNowhere placed c number × IsNever start past c number)

-- what was left did, or has none and never will, if its client takes no further step
abbrev pub LeftAreSettled : Start → List Entry → List Placed → Type 0
LeftAreSettled start past placed = (c : ClientNo) (number : ℕ) → WasLeft past c number
    → TookEffect past placed c number
    ⊎ (StandsNowhere placed c number × IsNeverAlone start past c number)

-- Frozen versions

-- a version that is frozen at one place of the history is the same at each later one
abbrev pub FrozenStay : Store → List Past → Type 0
FrozenStay store history =
    (earlier later rest : List Past) (v : ℕ) (version : StoreVersion)
    → history ≡ earlier ++ (later ++ rest) → slice_get (store_after store earlier) v ≡ Some version
    → version.head.frozen ≡ true
    → slice_get (store_after store (earlier ++ later)) v ≡ Some version

-- All of it

-- What the operations of a log come to: the ones that took effect or were replied to are, in commit
-- order, one legal history from this store.
-- Each of these facts follows for every run from records that hold the store. What is in doubt is
-- decided where it ends quiet: what its client was told, once each node is up; what a client was
-- left in, once no node holds anything.
pub record IsOneHistory (start : Start) (store : Store) (past : List Entry)
    (placed : List Placed) : Type 0 where
  -- the operations that took effect or were replied to
  pub replied : RepliedStand past placed
  pub others : OthersHaveNone start past placed
  -- are, in commit order
  pub ascending : Ascend placed
  -- one legal history of an ordered map per version
  pub legal : IsLegal store (pasts_of placed)
  -- each once
  pub once : AreOnce placed
  -- acknowledged ones between begin and answer
  pub between : AllByRecursion (LiesBetween past) placed
  -- after all their caller had seen
  pub after_seen : AreAfterSeen past placed
  -- doubtful ones wholly after their begin or not at all
  pub settled : AreUp start past → AreSettled start past placed
  pub left : AreFree start past → LeftAreSettled start past placed
  -- frozen versions never change
  pub frozen : FrozenStay store (pasts_of placed)
  -- the memory is that history's
  pub holds : Holds (flat_after (opened_memory start) past) (store_after store (pasts_of placed))

-- Laws

-- every run from opened records has a history
abbrev pub RunsHaveHistory : Type 0
RunsHaveHistory = (start : Start) (store : Store) (past : List Entry) → OpenedRun start store past
    → (placed : List Placed) × IsHistory past placed

-- and it is one history
abbrev pub RunsAreOneHistory : Type 0
RunsAreOneHistory = (start : Start) (store : Store) (past : List Entry) (placed : List Placed)
    → HistoryRun start store past placed → IsOneHistory start store past placed

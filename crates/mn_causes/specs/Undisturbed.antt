-- What an operation is answered while each node is up, and where no other actor disturbs it.
use Rattle.std.specs.Prelude.{ℕ, ◌≡◌, ◌<◌, IsTrue, List, ◌∷◌, ◌++◌, length, Some, ⊤}
use Rattle.std.specs.List.{AllByRecursion}
use Rattle.mn_base.specs.Store.{Store}
use Rattle.mn_base.specs.declared.ids.ClientNo.{ClientNo}
use Rattle.mn_base.specs.declared.op.Op.{Op}
use Rattle.mn_base.specs.declared.answer.Answer.{Answer}
use Rattle.mn_base.specs.declared.answer.Answer.TheVariants.{Replied, Busy as GaveUp, Down, InDoubt}
use Rattle.mn_base.specs.declared.answer.Answer.TheVariants.{Full, Worn, NoMemory}
use Rattle.mn_base.specs.declared.answer.Busy.TheVariants.{Moved, Path}
use Rattle.mn_runs.specs.declared.entry.Entry.{Entry}
use Rattle.mn_runs.specs.Calls.{client_entries}
use Rattle.mn_runs.specs.Protocol.{Start, AreUp, AreFree}
use Rattle.mn_runs.specs.Clients.{recovers_nothing}
use Rattle.mn_serial.specs.Meaning.{OpenedRun, BeginsOp, AnswersOp, CommitsPlanAt}

-- each node is up at each place of these entries, which stand on the others
abbrev pub UpThroughout : Start → List Entry → List Entry → Type 0
UpThroughout start between base =
    (newer older : List Entry) → between ≡ newer ++ older → AreUp start (older ++ base)

-- an answer that tells of no node that was down
abbrev pub IsOfUpNodes : Answer → Type 0
IsOfUpNodes (Down n) = ⊥
IsOfUpNodes (InDoubt tid n) = ⊥
IsOfUpNodes answer = ⊤

-- an operation with each node up from its Begin to its answer is answered neither Down nor InDoubt
abbrev pub UpIsSure : Type 0
UpIsSure =
    (start : Start) (store : Store) (past later between before : List Entry)
    (begins answers : Entry) (c : ClientNo) (number : ℕ) (op : Op) (answer : Answer)
    → OpenedRun start store past
    → past ≡ later ++ answers ∷ (between ++ begins ∷ before) → BeginsOp begins c number op
    → AnswersOp answers c number answer → UpThroughout start between (begins ∷ before)
    → IsOfUpNodes answer

-- what is committed between them, where no other actor has an entry there, is a plan of the
-- operation itself
abbrev pub OnlyOwnCommits : Type 0
OnlyOwnCommits =
    (start : Start) (store : Store) (past later between before : List Entry)
    (begins answers : Entry) (c : ClientNo) (number : ℕ) (op : Op) (answer : Answer)
    → OpenedRun start store past
    → past ≡ later ++ answers ∷ (between ++ begins ∷ before) → BeginsOp begins c number op
    → AnswersOp answers c number answer → UpThroughout start between (begins ∷ before)
    → AllByRecursion (λ e. e.client ≡ Some c) between
    → (place : ℕ) (other : ClientNo) (its : ℕ) → CommitsPlanAt past place other its
    → length before < place → place < length (between ++ begins ∷ before)
    → (other ≡ c) × (its ≡ number)

-- an operation from its Begin to its answer, with no entry of another actor between, and each node
-- up throughout
pub record IsUndisturbed (start : Start) (past : List Entry) (c : ClientNo) (number : ℕ)
    (answer : Answer) : Type 0 where
  pub later : List Entry
  pub answers : Entry
  pub between : List Entry
  pub begins : Entry
  pub before : List Entry
  pub op : Op
  pub split : past ≡ later ++ answers ∷ (between ++ begins ∷ before)
  pub begun : BeginsOp begins c number op
  pub answered : AnswersOp answers c number answer
  pub up : UpThroughout start between (begins ∷ before)
  pub own : AllByRecursion (λ e. e.client ≡ Some c) between

-- what it may be answered: not that bytes had moved, nor a fault of path
abbrev pub IsUndisturbedAnswer : Answer → Type 0
IsUndisturbedAnswer (Down n) = ⊥
IsUndisturbedAnswer (InDoubt tid n) = ⊥
IsUndisturbedAnswer (GaveUp (Moved n begins expected found)) = ⊥
IsUndisturbedAnswer (GaveUp (Path addr seq)) = ⊥
IsUndisturbedAnswer answer = ⊤

-- of an operation that is undisturbed so, only a lock or a Forced may stand in the way
abbrev pub UndisturbedIsSure : Type 0
UndisturbedIsSure =
    (start : Start) (store : Store) (past : List Entry) (c : ClientNo) (number : ℕ)
    (answer : Answer) → OpenedRun start store past → IsUndisturbed start past c number answer
    → IsUndisturbedAnswer answer

-- an operation that is undisturbed so, with nothing held at its Begin, of a client that makes no
-- request of a recovery
pub record IsUnhindered (start : Start) (past : List Entry) (c : ClientNo) (number : ℕ)
    (answer : Answer) : Type 0 where
  pub undisturbed : IsUndisturbed start past c number answer
  pub free : AreFree start (undisturbed.begins ∷ undisturbed.before)
  pub recovers : IsTrue (recovers_nothing (client_entries c past))

-- a reply, or want of slots, of sequence numbers or of memory
abbrev pub IsReplyOrWant : Answer → Type 0
IsReplyOrWant (Replied reply) = ⊤
IsReplyOrWant (Full need free) = ⊤
IsReplyOrWant (Worn n start) = ⊤
IsReplyOrWant NoMemory = ⊤
IsReplyOrWant answer = ⊥

-- nothing stands in its way
abbrev pub UndisturbedIsAnswered : Type 0
UndisturbedIsAnswered =
    (start : Start) (store : Store) (past : List Entry) (c : ClientNo) (number : ℕ)
    (answer : Answer) → OpenedRun start store past → IsUnhindered start past c number answer
    → IsReplyOrWant answer

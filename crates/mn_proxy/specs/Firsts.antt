-- Why a first try failed: a node refused it, by a lock, a compare or a force; or, with what is kept
-- and what was read, it can't go on. A later try shows its cause in its client's own list.
use Rattle.std.specs.Prelude.{ℕ, ◌≡◌, true, List, Option, ⊤, MatchOption}
use Rattle.mn_base.specs.declared.answer.Busy.{Busy}
use Rattle.mn_law.specs.Answers.{is_refusal}
use Rattle.mn_mini.specs.declared.reply.NodeReply.{NodeReply}
use Rattle.mn_work.specs.declared.known.Known.{Known}
use Rattle.mn_work.specs.declared.next.Next.{Next}
use Rattle.mn_work.specs.declared.next.Taken.{Taken}
use Rattle.mn_work.specs.declared.work.Work.{Work}
use Rattle.mn_work.specs.Cached.{AreUsed}
use Rattle.mn_work.specs.Knows.{KeepsKnown}
use Rattle.mn_work.specs.Works.{WantsNext}
use Rattle.mn_proxy.specs.declared.errand.Errand.{Errand}
use Rattle.mn_proxy.specs.declared.errand.Errand.TheVariants as out
use Rattle.mn_proxy.specs.declared.errand.Purpose.{Purpose}
use Rattle.mn_proxy.specs.Kept.{read_by}
use Rattle.mn_proxy.specs.State.{ProxyState}
use Rattle.mn_proxy.specs.Turn.{Turn}
use Rattle.mn_proxy.specs.Turn as turns
use Rattle.mn_proxy.specs.Turns.{CameOf}

-- the try that goes on is the second
abbrev pub IsSecond : Turn → Type 0
IsSecond (turns.Goes step work errand) = work.failed ≡ 1
IsSecond turn = ⊥

-- by what is kept it fails, of which some pages may be used
abbrev pub FailsAsKept : Known → Work → Type 0
FailsAsKept known w =
    (new : Known) × (after : Work) × (cause : Option Busy) × KeepsKnown known new
    × AreUsed known.cache new.cache × WantsNext new w after (Next.Fails cause)

-- what was read fails it, or leaves it so that it fails by what is kept
abbrev pub FailsAfter : Known → Work → Taken → Type 0
FailsAfter known after Taken.GoesOn = FailsAsKept known after
FailsAfter known after Taken.Leaf = FailsAsKept known (record after { failed = 0 })
FailsAfter known after (Taken.Replies reply) = ⊥
FailsAfter known after (Taken.Fails cause) = ⊤

-- so it is once these bytes were read for this purpose
abbrev pub FailsAsRead : Known → Work → Purpose × List ℕ → Type 0
FailsAsRead known w read =
    (new : Known) × (after : Work) × (taken : Taken) × CameOf known new w after read.0 read.1 taken
    × FailsAfter new after taken

-- a node refused it
abbrev pub IsRefusal : Option NodeReply → Type 0
IsRefusal reply = MatchOption reply ⊥ (λ r. is_refusal r ≡ true)

abbrev pub WasRefused : Errand → Type 0
WasRefused (out.Mini tid c purpose) = IsRefusal c.refused
WasRefused errand = ⊥

-- it failed by what was on its way
abbrev pub FailsBy : Known → Work → Errand → Type 0
FailsBy known w out.Nothing = FailsAsKept known w
FailsBy known w errand = MatchOption (read_by errand) (WasRefused errand) (FailsAsRead known w)

-- The whole

abbrev pub TriesAt : ℕ → ProxyState → Type 0
TriesAt failed p = MatchOption p.work ⊥ (λ under. under.0.failed ≡ failed)

-- where its first try goes on before the step, and its second after it
abbrev pub FailsFirst : ProxyState → ProxyState → Type 0
FailsFirst p q =
    TriesAt 0 p → TriesAt 1 q → MatchOption p.work ⊥ (λ under. FailsBy p.known under.0 under.1)

-- How many steps an operation may still take: each step of its proxy lowers the number, and no
-- reply raises it. Serials bound the minitransactions, and a count the Peeks between two of them.
use Rattle.std.specs.Prelude.{ℕ, ◌+◌, ◌-◌, ◌*◌, ◌<◌, Bool, if◌then◌else◌, length, Option, Some}
use Rattle.std.specs.Prelude.{None}
use Rattle.std.specs.Prelude.{⊤}
use Rattle.mn_coord.specs.Coordination.{Coordination, stage_in}
use Rattle.mn_coord.specs.declared.stage.Stage.{Stage}
use Rattle.mn_coord.specs.declared.stage.Stage.TheVariants as At
use Rattle.mn_mini.specs.Mini.{participants_of}
use Rattle.mn_proxy.specs.declared.errand.Errand.{Errand}
use Rattle.mn_proxy.specs.declared.errand.Errand.TheVariants as out
use Rattle.mn_proxy.specs.Turn.{Turn}
use Rattle.mn_proxy.specs.Turn as turns
use Rattle.mn_proxy.specs.declared.step.ProxyStep.{ProxyStep}
use Rattle.mn_proxy.specs.declared.step.ProxyStep.TheVariants as steps
use Rattle.mn_work.specs.declared.work.Work.{Work}
use Rattle.mn_proxy.specs.State.{ProxyState}
use Rattle.mn_proxy.specs.Turns.{with_work}

-- What is on its way

-- a request that is out is no step any more
abbrev pub unsent : Bool → ℕ → ℕ
unsent asked steps = if asked then steps - 1 else steps

-- each participant that isn't done is asked, then all of them are told; or it is given up, and
-- those that are done are told
abbrev pub left_at : ℕ → ℕ → ℕ → Bool → Stage → ℕ
left_at participants done decided asked At.Ask =
    unsent asked (participants - done + (participants + 1))
left_at participants done decided asked At.Abandon = done + 1
left_at participants done decided asked At.Commit = unsent asked (participants - decided)
left_at participants done decided asked At.Cancel = unsent asked (done - decided)
left_at participants done decided asked stage = 0

-- the steps of a minitransaction that are left
abbrev pub left_of : Coordination → ℕ
left_of c = left_at (length (participants_of c.mini)) c.done c.decided c.asked (stage_in c)

-- of a Peek none is
abbrev pub left_for : Errand → ℕ
left_for (out.Mini tid c purpose) = left_of c
left_for errand = 0

abbrev pub left_in : Option (Work × Errand) → ℕ
left_in None = 0
left_in (Some (work, errand)) = left_for errand

-- What may come after it

-- where so many serials were given out, and so many Peeks may come before the next one: each of the
-- 2 ^ 32 - 1 serials stands for more steps than a minitransaction and the Peeks after it
unfoldable pub left_by : ℕ → ℕ → ℕ
left_by issued peeks = (4294967295 - issued) * 4114 + peeks

abbrev pub left_after : ProxyState → ℕ
left_after p = left_by p.issued p.peeks

-- The whole

-- the steps of the operation under way that are left
abbrev pub steps_left : ProxyState → ℕ
steps_left p = left_after p + left_in p.work

-- a step lowers them; after Done no operation is under way
abbrev pub Falls : ProxyState → ProxyState → ProxyStep → Type 0
Falls before after (steps.Done answer) = ⊤
Falls before after step = steps_left after < steps_left before

-- an operation goes on with fewer than so many
abbrev pub GoesBelow : ℕ → ProxyState → Turn → Type 0
GoesBelow steps p (turns.Goes step work errand) = steps_left (with_work p work errand) < steps
GoesBelow steps p (turns.Ends answer) = ⊤
GoesBelow steps p turns.Stops = ⊥

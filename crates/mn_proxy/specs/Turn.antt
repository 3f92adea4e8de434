-- How an operation went on, in terms of the step that comes next and what is under way then.
use Rattle.std.specs.Prelude.{Option, Some, None, Result, Ok, Err}
use Rattle.mn_base.specs.declared.answer.Answer.{Answer}
use Rattle.mn_base.specs.declared.error.NoMemory.{NoMemory}
use Rattle.mn_proxy.specs.declared.errand.Errand.{Errand}
use Rattle.mn_proxy.specs.declared.step.ProxyStep.{ProxyStep}
use Rattle.mn_proxy.specs.declared.step.ProxyStep.TheVariants as steps
use Rattle.mn_work.specs.declared.work.Work.{Work}

pub data Turn : Type 0 where
  -- by this step, with this under way
  Goes : ProxyStep → Work → Errand → Turn
  -- it is answered, and nothing is under way
  Ends : Answer → Turn
  -- neither: no turn is so
  Stops : Turn

abbrev pub turn_of : Option (Work × Errand) → ProxyStep → Turn
turn_of (Some (work, errand)) step = Goes step work errand
turn_of None (steps.Done answer) = Ends answer
turn_of None step = Stops

-- the turn that this step was, where this is under way now
abbrev pub turned : Option (Work × Errand) → Result ProxyStep NoMemory → Result Turn NoMemory
turned work (Ok step) = Ok (turn_of work step)
turned work (Err none) = Err none

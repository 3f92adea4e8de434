-- None of the cached pages has left before the next one is wanted.
use Rattle.std.proofs.Common.{Option, refl, rules, subst}
use Rattle.mn_work.specs.declared.next.Next.{Next}
use Rattle.mn_work.specs.Cached.{Walks}
use Rattle.std.proofs.lemmas.Result.{IfOk-weaker}
use Rattle.mn_work.specs.Firsts.{FailsOnWay, RunFailsAsKept}
use Rattle.mn_work.proofs.Attempts.{ends_last, then_last}
use Rattle.mn_work.proofs.Cached.{then_used, uses, walks_first, walks_none, walks_on}
use Rattle.mn_work.proofs.Firsts.{came_none, came_same, came_then, steps_fail, steps_fail_on}
use Rattle.mn_work.proofs.attempt.Attempt.advance.Goals as goal

pub returns-in_err-next-clause-cache : goal.returns-in_err-next-clause-cache
returns-in_err-next-clause-cache c =
    uses c.args.later _ c.args.known.now.cache c.run_step.new.known.cache
    (then_used c.args.known.now.cache c.loop-self.known.cache c.run_step.new.known.cache c.loop-self.invariant.1
    (walks_none c.args.later c.loop-self.known.cache c.run_step.new.known.cache c.in_err-next.ensures.cache))

pub returns-in-Some-clause-cache : goal.returns-in-Some-clause-cache
returns-in-Some-clause-cache c =
    walks_on c.args.later _ c.args.known.now.cache c.loop-self.known.cache c.run_step.new.known.cache c.loop-self.invariant.1
    (subst (λ (o : Option Next). Walks c.args.later o c.loop-self.known.cache c.run_step.new.known.cache) c.in-Some.is c.in_ok-next.ensures.cache)

pub loop-self-init : goal.loop-self-init
loop-self-init c = (
  search rules,
  search rules,
  search rules,
  search rules,
  λ first. came_none c.args.known.now.cache c.args.self.now c.args.self.now refl,
)

pub loop-self-preserved : goal.loop-self-preserved
loop-self-preserved c = (
  search rules,
  then_used c.args.known.now.cache c.loop-self.known.cache c.run_step.new.known.cache c.loop-self.invariant.1
      (walks_none c.args.later c.loop-self.known.cache c.run_step.new.known.cache
      (subst (λ (o : Option Next). Walks c.args.later o c.loop-self.known.cache c.run_step.new.known.cache) c.in_default.is c.in_ok-next.ensures.cache)),
  search rules,
  then_last c.args.known.now.cache c.loop-self.known.cache c.args.self.now c.loop-self.self c.run_step.new.self c.loop-self.invariant.1 c.loop-self.invariant.3 c.in_ok-next.ensures.last,
  λ first.
      came_then c.loop-self.known.cache c.run_step.new.known.cache c.args.self.now c.loop-self.self c.run_step.new.self
      (walks_first c.args.later _ c.loop-self.known.cache c.run_step.new.known.cache first c.in_ok-next.ensures.cache)
      (c.loop-self.invariant.4 first) (c.in_ok-next.ensures.came first),
)

pub returns-in-Some-clause-first : goal.returns-in-Some-clause-first
returns-in-Some-clause-first c = λ first.
    steps_fail c.run_step.new.known c.args.steps.now c.args.self.now c.run_step.new.self c.in-Some.next
    (came_then c.loop-self.known.cache c.run_step.new.known.cache c.args.self.now c.loop-self.self c.run_step.new.self
    (walks_first c.args.later _ c.loop-self.known.cache c.run_step.new.known.cache first c.in_ok-next.ensures.cache)
    (c.loop-self.invariant.4 first) (c.in_ok-next.ensures.came first))
    (subst (RunFailsAsKept c.run_step.new.known c.args.steps.now c.run_step.new.self) c.in-Some.is (c.in_ok-next.ensures.first first))

pub returns-clause-first : goal.returns-clause-first
returns-clause-first c = λ first.
    IfOk-weaker c.finish.result (FailsOnWay c.loop-self.known c.args.steps.now c.finish.new.self) _
    (λ next way. steps_fail_on c.loop-self.known c.args.steps.now c.args.self.now c.finish.new.self next
    (came_same c.loop-self.known.cache c.args.self.now c.loop-self.self c.finish.new.self (c.loop-self.invariant.4 first) c.finish.ensures.pages) way)
    c.finish.ensures.fails

pub returns-in-Some-clause-last : goal.returns-in-Some-clause-last
returns-in-Some-clause-last c =
    then_last c.args.known.now.cache c.loop-self.known.cache c.args.self.now c.loop-self.self c.run_step.new.self c.loop-self.invariant.1 c.loop-self.invariant.3 c.in_ok-next.ensures.last

pub returns-clause-last : goal.returns-clause-last
returns-clause-last c =
    ends_last c.finish.result c.args.known.now.cache c.args.self.now c.loop-self.self c.finish.new.self c.loop-self.invariant.3 c.finish.ensures.pages

use Rattle.std.proofs.Common.{subst, refl, ◌∙◌, arith, inl, inr}
use Rattle.mn_callers.specs.declared.client.Went.{Went}
use Rattle.mn_callers.specs.Going.{HasFewer, HasGone, work_left}
use Rattle.mn_callers.proofs.Hands.{moves_further, moves_nowhere}
use Rattle.mn_callers.proofs.ClientActs.{by_more, by_none, still_longer}
use Rattle.mn_proxy.specs.Measure.{steps_left}
use Rattle.mn_callers.proofs.ClientEnds.{no_more, still_fewer}
use Rattle.mn_callers.proofs.ClientSteps.{steps_list, steps_rest, still_steps}
use Rattle.mn_callers.proofs.client.Client.go_on.Goals as goal

pub loop-init : goal.loop-init
loop-init g c = record { turn = c.requires.turn; goes_on = moves_nowhere g.X.Transport.went g.met.X.Transport.stays _ _; steps = c.requires.steps; own = by_none _ _; begun = refl; fewer = omega arith; longer = λ lacks. inl refl }

pub own_step-requires-clause-list : goal.own_step-requires-clause-list
own_step-requires-clause-list g c = steps_list g.X.Transport.start c.args.points.now c.loop.self c.loop.invariant.steps

pub returns-in_err-own_step-clause-goes_on : goal.returns-in_err-own_step-clause-goes_on
returns-in_err-own_step-clause-goes_on g c = moves_further g.X.Transport.went g.met.X.Transport.goes_on _ _ _ _ _ _ c.loop.invariant.goes_on c.own_step.ensures.goes_on

pub returns-in-Rests-clause-goes_on : goal.returns-in-Rests-clause-goes_on
returns-in-Rests-clause-goes_on g c = moves_further g.X.Transport.went g.met.X.Transport.goes_on _ _ _ _ _ _ c.loop.invariant.goes_on c.own_step.ensures.goes_on

pub returns-in-Rests-clause-client : goal.returns-in-Rests-clause-client
returns-in-Rests-clause-client g c =
    let start = g.X.Transport.start in
    let new = c.own_step.new.self in
    steps_rest start c.args.points.now c.loop.self new c.loop.invariant.steps c.own_step.ensures.list c.own_step.ensures.points (subst (λ (w : Went). HasGone start new w) c.in-Rests.is c.in_ok-own_step.ensures.went)

pub loop-preserved : goal.loop-preserved
loop-preserved g c =
    let start = g.X.Transport.start in
    let new = c.own_step.new.self in
    record {
      turn = c.own_step.ensures.turn;
      goes_on = moves_further g.X.Transport.went g.met.X.Transport.goes_on _ _ _ _ _ _ c.loop.invariant.goes_on c.own_step.ensures.goes_on;
      steps = still_steps start c.args.points.now c.loop.self new c.loop.invariant.steps c.own_step.ensures.list c.own_step.ensures.points (subst (λ (w : Went). HasGone start new w) c.in-On.is c.in_ok-own_step.ensures.went);
      own = by_more _ _ _ _ _ c.loop.invariant.goes_on.client c.loop.invariant.own c.in_ok-own_step.ensures.own;
      begun = c.own_step.ensures.begun ∙ c.loop.invariant.begun;
      fewer = still_fewer (steps_left new.proxy) (steps_left c.loop.self.proxy) (steps_left c.args.self.now.proxy) c.loop.invariant.fewer
          (subst (λ (w : Went). HasFewer (steps_left c.loop.self.proxy) new w) c.in-On.is c.in_ok-own_step.ensures.falls);
      longer = λ lacks.
          inr (still_longer c.args.self.now c.loop.self new c.loop.invariant.longer c.in_ok-own_step.ensures.longer c.in_ok-own_step.ensures.own lacks);
    }

pub returns-in-Rests-clause-longer : goal.returns-in-Rests-clause-longer
returns-in-Rests-clause-longer g c =
    still_longer c.args.self.now c.loop.self c.own_step.new.self c.loop.invariant.longer c.in_ok-own_step.ensures.longer c.in_ok-own_step.ensures.own

pub returns-in-Rests-clause-own : goal.returns-in-Rests-clause-own
returns-in-Rests-clause-own g c = by_more _ _ _ _ _ c.loop.invariant.goes_on.client c.loop.invariant.own c.in_ok-own_step.ensures.own

pub loop-smaller : goal.loop-smaller
loop-smaller g c = subst (λ (w : Went). HasFewer (steps_left c.loop.self.proxy) c.own_step.new.self w) c.in-On.is c.in_ok-own_step.ensures.falls

pub returns-in-Rests-clause-begun : goal.returns-in-Rests-clause-begun
returns-in-Rests-clause-begun g c = c.own_step.ensures.begun ∙ c.loop.invariant.begun

pub returns-in_err-own_step-clause-begun : goal.returns-in_err-own_step-clause-begun
returns-in_err-own_step-clause-begun g c = c.own_step.ensures.begun ∙ c.loop.invariant.begun

pub returns-in-Rests-clause-falls : goal.returns-in-Rests-clause-falls
returns-in-Rests-clause-falls g c =
    let new = c.own_step.new.self in
    no_more (work_left new) (steps_left c.loop.self.proxy) (steps_left c.args.self.now.proxy) (subst (λ (w : Went). HasFewer (steps_left c.loop.self.proxy) new w) c.in-Rests.is c.in_ok-own_step.ensures.falls) c.loop.invariant.fewer

use Rattle.std.proofs.Common.{refl, subst, ap, ◌∙◌}
use Rattle.mn_proxy.specs.Measure.{Falls, steps_left}
use Rattle.mn_proxy.specs.Turns.{GivesUp}
use Rattle.mn_proxy.specs.declared.step.ProxyStep.{ProxyStep}
use Rattle.mn_callers.specs.declared.client.Client.{Client}
use Rattle.mn_callers.specs.Going.{MayTake}
use Rattle.mn_callers.proofs.ClientEnds.{fewer_due, fewer_on, none_rests}
use Rattle.mn_callers.proofs.ClientSteps.{abandon_makes, answered_rests, call_due, done_makes, made_goes, made_on}
use Rattle.mn_callers.proofs.ClientActs.{by_none}
use Rattle.mn_callers.proofs.Hands.{moves_nowhere}
use Rattle.mn_callers.proofs.client.Client.take_step.Goals as goal

pub issue-requires-clause-step : goal.issue-requires-clause-step
issue-requires-clause-step g c = subst (λ (s : ProxyStep). MayTake g.X.Transport.start c.args.self.now s) c.in-Issue.is c.requires.step

pub returns-in_ok-issue-in-Issue-clause-went : goal.returns-in_ok-issue-in-Issue-clause-went
returns-in_ok-issue-in-Issue-clause-went g c =
    let start = g.X.Transport.start in
    let step = subst (λ (s : ProxyStep). MayTake start c.args.self.now s) c.in-Issue.is c.requires.step in
    made_goes start c.args.self.now c.issue.new.self c.issue.ensures.stays.0 c.issue.ensures.stays.1 step.wants c.requires.none_due c.in_ok-issue-in-Issue.ensures.proxy

pub make-requires-clause-step : goal.make-requires-clause-step
make-requires-clause-step g c =
    let start = g.X.Transport.start in
    let old = c.args.self.now in
    (abandon_makes start old.list old.proxy c.in-Abandon.tid (subst (λ (s : ProxyStep). MayTake start old s) c.in-Abandon.is c.requires.step), refl)

pub returns-in_ok-make-in-Abandon-clause-went : goal.returns-in_ok-make-in-Abandon-clause-went
returns-in_ok-make-in-Abandon-clause-went g c =
    let start = g.X.Transport.start in
    let step = subst (λ (s : ProxyStep). MayTake start c.args.self.now s) c.in-Abandon.is c.requires.step in
    made_on start c.args.self.now c.make.new.self c.make.ensures.same step.wants c.requires.none_due c.in_ok-make-in-Abandon.ensures.proxy

pub returns-in-Call-clause-went : goal.returns-in-Call-clause-went
returns-in-Call-clause-went g c =
    let start = g.X.Transport.start in
    let old = c.args.self.now in
    let due = call_due start old.list old.proxy c.in-Call.node c.in-Call.request (subst (λ (s : ProxyStep). MayTake start old s) c.in-Call.is c.requires.step) in
    record { proxy = due.0; due = due.1 }

pub make-requires-in-Done-clause-step : goal.make-requires-in-Done-clause-step
make-requires-in-Done-clause-step g c =
    let start = g.X.Transport.start in
    let old = c.args.self.now in
    (done_makes start old.list old.proxy c.in-Done.answer old.begun c.requires.list.begun (subst (λ (s : ProxyStep). MayTake start old s) c.in-Done.is c.requires.step), refl)

pub returns-in_ok-make-in-Done-clause-went : goal.returns-in_ok-make-in-Done-clause-went
returns-in_ok-make-in-Done-clause-went g c =
    let start = g.X.Transport.start in
    let step = subst (λ (s : ProxyStep). MayTake start c.args.self.now s) c.in-Done.is c.requires.step in
    answered_rests start c.args.self.now c.make-in-Done.new.self c.make-in-Done.ensures.same step.wants c.requires.none_due c.in_ok-make-in-Done.ensures.proxy

pub returns-in-Call-clause-goes_on : goal.returns-in-Call-clause-goes_on
returns-in-Call-clause-goes_on g c = moves_nowhere g.X.Transport.went g.met.X.Transport.stays _ _

pub returns-in-Call-clause-own : goal.returns-in-Call-clause-own
returns-in-Call-clause-own g c = by_none _ _

pub returns-in_ok-issue-in-Issue-clause-falls : goal.returns-in_ok-issue-in-Issue-clause-falls
returns-in_ok-issue-in-Issue-clause-falls g c = λ before falls.
    let old = c.args.self.now in
    fewer_on old c.issue.new.self (steps_left before) c.issue.ensures.stays.0 (subst (λ (s : ProxyStep). Falls before old.proxy s) c.in-Issue.is falls)

pub returns-in_ok-make-in-Abandon-clause-falls : goal.returns-in_ok-make-in-Abandon-clause-falls
returns-in_ok-make-in-Abandon-clause-falls g c = λ before falls.
    let old = c.args.self.now in
    fewer_on old c.make.new.self (steps_left before) (ap (λ (k : Client). k.proxy) c.make.ensures.same) (subst (λ (s : ProxyStep). Falls before old.proxy s) c.in-Abandon.is falls)

pub returns-in-Call-clause-falls : goal.returns-in-Call-clause-falls
returns-in-Call-clause-falls g c = λ before falls.
    let old = c.args.self.now in
    fewer_due (steps_left old.proxy) (steps_left before) (subst (λ (s : ProxyStep). Falls before old.proxy s) c.in-Call.is falls)

pub returns-in_ok-make-in-Done-clause-falls : goal.returns-in_ok-make-in-Done-clause-falls
returns-in_ok-make-in-Done-clause-falls g c = λ before falls.
    none_rests c.make-in-Done.new.self (steps_left before) (ap (λ (k : Client). k.due) c.make-in-Done.ensures.same ∙ c.requires.none_due)

-- Only what is given up makes its list longer, whatever comes then

pub returns-in_ok-issue-in-Issue-clause-longer : goal.returns-in_ok-issue-in-Issue-clause-longer
returns-in_ok-issue-in-Issue-clause-longer g c = λ gives. absurd (subst GivesUp c.in-Issue.is gives)

pub returns-in_ok-make-in-Abandon-clause-longer : goal.returns-in_ok-make-in-Abandon-clause-longer
returns-in_ok-make-in-Abandon-clause-longer g c = λ gives. c.in_ok-make-in-Abandon.ensures.longer

pub returns-in-Call-clause-longer : goal.returns-in-Call-clause-longer
returns-in-Call-clause-longer g c = λ gives. absurd (subst GivesUp c.in-Call.is gives)

pub returns-in_ok-make-in-Done-clause-longer : goal.returns-in_ok-make-in-Done-clause-longer
returns-in_ok-make-in-Done-clause-longer g c = λ gives. absurd (subst GivesUp c.in-Done.is gives)

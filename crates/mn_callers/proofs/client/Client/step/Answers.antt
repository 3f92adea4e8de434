use Rattle.std.proofs.Common.{refl}
use Rattle.mn_callers.specs.Acts.{CallsOnce, as_role}
use Rattle.mn_callers.specs.Clients.{past_of}
use Rattle.mn_callers.proofs.ClientActs.{has_work_as, of_same, works_not, works_so}
use Rattle.mn_callers.proofs.Hands.{moves_further, moves_nowhere}
use Rattle.mn_callers.proofs.ClientSteps.{in_both, on_ok}
use Rattle.mn_callers.proofs.Orders.{still_first}
use Rattle.mn_callers.proofs.client.Client.step.Goals as goal

pub returns-then-not-has_work-clause-goes_on : goal.returns-then-not-has_work-clause-goes_on
returns-then-not-has_work-clause-goes_on g c = moves_nowhere g.X.Transport.went g.met.X.Transport.stays _ _

pub returns-then-not-has_work-clause-of_run : goal.returns-then-not-has_work-clause-of_run
returns-then-not-has_work-clause-of_run g c = c.requires.client.run

pub has_work-requires : goal.has_work-requires
has_work-requires g c = c.requires.client.run.met

pub begin_if_idle-requires-clause-left : goal.begin_if_idle-requires-clause-left
begin_if_idle-requires-clause-left g c = c.has_work.ensures.left c.if-not-has_work.false

pub begin_if_idle-requires-clause-lives : goal.begin_if_idle-requires-clause-lives
begin_if_idle-requires-clause-lives g c = c.has_work.ensures.lives c.if-not-has_work.false

pub returns-in_err-begin_if_idle-clause-of_run : goal.returns-in_err-begin_if_idle-clause-of_run
returns-in_err-begin_if_idle-clause-of_run g c = c.in_err-begin_if_idle.ensures.of_run

pub returns-clause-goes_on : goal.returns-clause-goes_on
returns-clause-goes_on g c = moves_further g.X.Transport.went g.met.X.Transport.goes_on _ _ _ _ _ _ c.begin_if_idle.ensures.goes_on c.call.ensures.goes_on

pub returns-clause-of_run : goal.returns-clause-of_run
returns-clause-of_run g c = in_both c.call.result c.call.ensures.client c.call.ensures.of_run (λ is. is.run) (λ run. run)

pub returns-then-not-has_work-clause-does : goal.returns-then-not-has_work-clause-does
returns-then-not-has_work-clause-does g c =
    let old = c.args.self.now in
    let role = as_role c.args.points.now old.list.client c.args.ops.now in
    works_not role (CallsOnce role) (past_of old) (has_work_as g.X.Transport.start c.args.points.now c.args.self.now c.requires.client c.args.ops.now c.has_work.result _ c.has_work.ensures.is c.if-not-has_work.true)

pub returns-clause-does : goal.returns-clause-does
returns-clause-does g c =
    let old = c.args.self.now in
    let mid = c.begin_if_idle.new.self in
    let new = c.call.new.self in
    let points = c.args.points.now in
    let ops = c.args.ops.now in
    let role = as_role points old.list.client ops in
    on_ok c.call.result _ _
    (λ calls. works_so role (CallsOnce role) (past_of old) (past_of mid) (past_of new) (has_work_as g.X.Transport.start c.args.points.now c.args.self.now c.requires.client c.args.ops.now c.has_work.result _ c.has_work.ensures.is c.if-not-has_work.false) c.in_ok-begin_if_idle.ensures.under_way
    (of_same (λ r. CallsOnce r (past_of mid) (past_of new)) points mid.list.client old.list.client ops c.begin_if_idle.ensures.goes_on.client (calls ops))) c.call.ensures.calls

pub returns-then-not-has_work-clause-order : goal.returns-then-not-has_work-clause-order
returns-then-not-has_work-clause-order g c = λ is. is

pub returns-in_err-begin_if_idle-clause-order : goal.returns-in_err-begin_if_idle-clause-order
returns-in_err-begin_if_idle-clause-order g c = c.begin_if_idle.ensures.order

pub returns-clause-order : goal.returns-clause-order
returns-clause-order g c = λ is.
    still_first c.args.ops.now g.X.Transport.start c.args.points.now c.begin_if_idle.new.self c.call.new.self _ _ refl refl c.call.ensures.goes_on c.in_ok-begin_if_idle.ensures.client.run
    (in_both c.call.result c.call.ensures.client c.call.ensures.of_run (λ is. is.run) (λ run. run)) c.call.ensures.begun (c.begin_if_idle.ensures.order is)

use Rattle.std.proofs.Common.{length, refl, sym, ◌∙◌}
use Rattle.std.proofs.lemmas.Option.{slice_get_read}
use Rattle.mn_callers.specs.Clients.{past_of}
use Rattle.mn_callers.proofs.ClientActs.{begins_next, none_due, stays_under_way}
use Rattle.mn_callers.proofs.ClientEnds.{begins_none, begins_one}
use Rattle.mn_callers.proofs.ClientSteps.{on_ok}
use Rattle.mn_callers.proofs.Hands.{moves_nowhere}
use Rattle.mn_callers.proofs.Orders.{first_at_most}
use Rattle.mn_callers.proofs.client.Client.begin_if_idle.Goals as goal

pub returns-then-is_at_work-clause-goes_on : goal.returns-then-is_at_work-clause-goes_on
returns-then-is_at_work-clause-goes_on g c = moves_nowhere g.X.Transport.went g.met.X.Transport.stays _ _

pub returns-then-is_at_work-clause-under_way : goal.returns-then-is_at_work-clause-under_way
returns-then-is_at_work-clause-under_way g c =
    stays_under_way g.X.Transport.start c.args.points.now c.args.self.now c.requires.client c.args.ops.now (sym c.is_at_work.ensures ∙ c.if-is_at_work.true)

pub returns-clause-under_way : goal.returns-clause-under_way
returns-clause-under_way g c =
    let old = c.args.self.now in
    let ops = c.args.ops.now in
    let none = none_due old.due (sym c.is_at_work.ensures ∙ c.if-is_at_work.false) in
    on_ok c.begin.result _ _
    (begins_next g.X.Transport.start c.args.points.now old c.requires.client ops c.index-ops-self.result (past_of c.begin.new.self) none (c.requires.lives none)
    (slice_get_read ops (length ops) old.begun c.index-ops-self.result refl (c.requires.left none) c.index-ops-self.is)) c.begin.ensures.begins

pub returns-then-is_at_work-clause-begun : goal.returns-then-is_at_work-clause-begun
returns-then-is_at_work-clause-begun g c = begins_none c.args.self.now (sym c.is_at_work.ensures ∙ c.if-is_at_work.true)

pub returns-clause-begun : goal.returns-clause-begun
returns-clause-begun g c =
    let old = c.args.self.now in
    on_ok c.begin.result _ _ (begins_one old c.begin.new.self (none_due old.due (sym c.is_at_work.ensures ∙ c.if-is_at_work.false))) c.begin.ensures.begun

pub returns-then-is_at_work-clause-order : goal.returns-then-is_at_work-clause-order
returns-then-is_at_work-clause-order g c = λ is. is

pub returns-clause-order : goal.returns-clause-order
returns-clause-order g c =
    let old = c.args.self.now in
    let none = none_due old.due (sym c.is_at_work.ensures ∙ c.if-is_at_work.false) in
    first_at_most c.args.ops.now (past_of old) (past_of c.begin.new.self) c.index-ops-self.result old.begun c.requires.client.run.counted (c.requires.left none) c.index-ops-self.is c.begin.ensures.at_most

use Rattle.std.proofs.Common.{◌+◌, ap, inl, refl, subst, sym, ◌∙◌}
use Rattle.mn_base.specs.declared.op.Op.{Op}
use Rattle.mn_work.specs.declared.work.Work.{Work}
use Rattle.mn_runs.specs.declared.entry.What.TheVariants.{Begin}
use Rattle.mn_callers.proofs.Hands.{moves_further, moves_nowhere}
use Rattle.mn_callers.specs.Clients.{past_of}
use Rattle.mn_callers.specs.Steps.{own_entry}
use Rattle.mn_callers.proofs.ClientActs.{begins_op}
use Rattle.mn_callers.proofs.ClientEnds.{on_any}
use Rattle.mn_callers.proofs.ClientSteps.{in_both, longer, on_error, on_ok}
use Rattle.mn_callers.proofs.Orders.{at_most_none, at_most_one}
use Rattle.mn_callers.proofs.ClientCalls.{Begins, begin_allowed, begun_steps, unbegun_run}
use Rattle.mn_callers.proofs.client.Client.begin.Goals as goal

pub add-requires-clause-may : goal.add-requires-clause-may
add-requires-clause-may g c = begin_allowed g.X.Transport.start c.args.points.now c.args.self.now c.in_ok-op.op c.requires.client c.requires.idle c.requires.lives

pub go_on-requires-clause-steps : goal.go_on-requires-clause-steps
go_on-requires-clause-steps g c =
    begun_steps g.X.Transport.start c.args.points.now c.args.self.now c.add.new.self c.in_ok-asked.asked c.in_ok-op.op c.begin.new.self c.requires.client c.requires.idle c.requires.lives c.add.ensures.same
    (c.in_ok-op.ensures ∙ sym c.in_ok-asked.ensures) c.in_ok-add.ensures.added
    (subst (λ (o : Op). Begins c.add.new.self.proxy o c.begin.new.self) (ap (λ (w : Work). w.op) c.in_ok-work.ensures)
    (record { is = c.begin.ensures.begun; ready = c.begin.ensures.ready; agrees = c.begin.ensures.agrees }))

pub returns-clause-goes_on : goal.returns-clause-goes_on
returns-clause-goes_on g c = moves_further g.X.Transport.went g.met.X.Transport.goes_on _ _ _ _ _ _ c.add.ensures.goes_on c.go_on.ensures.goes_on

pub returns-in_err-asked-clause-goes_on : goal.returns-in_err-asked-clause-goes_on
returns-in_err-asked-clause-goes_on g c = moves_nowhere g.X.Transport.went g.met.X.Transport.stays _ _

pub returns-in_err-op-clause-goes_on : goal.returns-in_err-op-clause-goes_on
returns-in_err-op-clause-goes_on g c = moves_nowhere g.X.Transport.went g.met.X.Transport.stays _ _

pub returns-in_err-add-clause-of_run : goal.returns-in_err-add-clause-of_run
returns-in_err-add-clause-of_run g c =
    on_error c.from_residual-in_err-add.result _ (unbegun_run g.X.Transport.start c.args.points.now c.args.self.now c.add.new.self c.add.ensures.same c.in_err-add.ensures.none c.requires.client.run)

pub returns-clause-begins : goal.returns-clause-begins
returns-clause-begins g c =
    let old = c.args.self.now in
    let mid = c.add.new.self in
    let new = c.go_on.new.self in
    let adds = c.in_ok-add.ensures.added in
    on_ok c.go_on.result _ _
    (λ goes. begins_op old.list.client mid.list.client c.args.op.now c.in_ok-op.op old.begun (past_of old) (past_of mid) (past_of new) c.requires.client.run.begun c.in_ok-op.ensures adds.client
    (longer (own_entry old.list.client (Begin (old.begun + 1) c.in_ok-op.op)) old.list mid.list adds) goes) c.go_on.ensures.own

pub returns-clause-begun : goal.returns-clause-begun
returns-clause-begun g c = on_any c.go_on.result _ c.go_on.ensures.begun

pub returns-in_err-asked-clause-at_most : goal.returns-in_err-asked-clause-at_most
returns-in_err-asked-clause-at_most g c = inl refl

pub returns-in_err-op-clause-at_most : goal.returns-in_err-op-clause-at_most
returns-in_err-op-clause-at_most g c = inl refl

pub returns-in_err-add-clause-at_most : goal.returns-in_err-add-clause-at_most
returns-in_err-add-clause-at_most g c = at_most_none c.args.op.now c.args.self.now.list c.add.new.self.list c.in_err-add.ensures.none

pub returns-clause-at_most : goal.returns-clause-at_most
returns-clause-at_most g c =
    let old = c.args.self.now in
    let new = c.go_on.new.self in
    let counted = in_both c.go_on.result c.go_on.ensures.client c.go_on.ensures.of_run (λ is. is.run.counted) (λ run. run.counted) in
    at_most_one old.list.client c.args.op.now c.in_ok-op.op (old.begun + 1) (old.begun + 1) old.list c.add.new.self.list _ _ c.in_ok-op.ensures c.in_ok-add.ensures.added refl c.go_on.ensures.goes_on
    (begun_steps g.X.Transport.start c.args.points.now old c.add.new.self c.in_ok-asked.asked c.in_ok-op.op c.begin.new.self c.requires.client c.requires.idle c.requires.lives c.add.ensures.same
    (c.in_ok-op.ensures ∙ sym c.in_ok-asked.ensures) c.in_ok-add.ensures.added
    (subst (λ (o : Op). Begins c.add.new.self.proxy o c.begin.new.self) (ap (λ (w : Work). w.op) c.in_ok-work.ensures)
    (record { is = c.begin.ensures.begun; ready = c.begin.ensures.ready; agrees = c.begin.ensures.agrees }))).run.counted (counted ∙ c.go_on.ensures.begun)

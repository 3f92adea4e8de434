use Rattle.std.proofs.Common.{◌≤◌, subst, sym, ◌∙◌}
use Rattle.mn_proxy.specs.Agrees.{Agrees, HasOut}
use Rattle.mn_proxy.specs.Measure.{steps_left}
use Rattle.mn_proxy.specs.State.{IsOut, ProxyState}
use Rattle.mn_proxy.specs.Turns.{OwesNoDecide}
use Rattle.mn_callers.specs.declared.client.Client.{Client}
use Rattle.mn_callers.specs.Clients.{past_of}
use Rattle.mn_callers.specs.Going.{work_left}
use Rattle.mn_callers.proofs.Hands.{moves_further, moves_nowhere}
use Rattle.mn_callers.proofs.ClientActs.{both_ok, calls_last, calls_none, calls_on, longer_differs, when_lacking}
use Rattle.mn_callers.proofs.ClientEnds.{call_falls, idle_calls, no_more, none_rests}
use Rattle.mn_callers.proofs.ClientSteps.{on_ok}
use Rattle.mn_callers.proofs.ClientCalls.{dead_client, due_alive, fed_steps, fits_out, lives_by, none_taken, owes_none, waits}
use Rattle.mn_callers.proofs.client.Client.call.Goals as goal

pub returns-in_default-clause-goes_on : goal.returns-in_default-clause-goes_on
returns-in_default-clause-goes_on g c = moves_nowhere g.X.Transport.went g.met.X.Transport.stays _ _

pub returns-in_default-clause-client : goal.returns-in_default-clause-client
returns-in_default-clause-client g c =
    none_taken g.X.Transport.start c.args.points.now c.args.self.now c.take.new.self c.requires.client (sym c.take.ensures.value ∙ c.in_default.is) c.take.ensures.after

pub send-reply-requires-clause-proxy : goal.send-reply-requires-clause-proxy
send-reply-requires-clause-proxy g c =
    (due_alive g.X.Transport.start c.args.points.now c.args.self.now c.in-Some.field-0 c.requires.client (sym c.take.ensures.value ∙ c.in-Some.is)).1

pub send-reply-requires-clause-due : goal.send-reply-requires-clause-due
send-reply-requires-clause-due g c =
    (due_alive g.X.Transport.start c.args.points.now c.args.self.now c.in-Some.field-0 c.requires.client (sym c.take.ensures.value ∙ c.in-Some.is)).2

pub has_died-requires : goal.has_died-requires
has_died-requires g c = c.send-reply.ensures.run.met

pub returns-then-has_died-clause-client : goal.returns-then-has_died-clause-client
returns-then-has_died-clause-client g c =
    dead_client g.X.Transport.start c.args.points.now c.send-reply.new.self c.send-reply.ensures.run (c.send-reply.ensures.stays.1 ∙ c.take.ensures.after) (sym c.has_died.ensures ∙ c.if-has_died.true)

pub feed-requires : goal.feed-requires
feed-requires g c =
    let old = c.args.self.now in
    let call = c.in-Some.field-0 in
    let alive = due_alive g.X.Transport.start c.args.points.now old call c.requires.client (sym c.take.ensures.value ∙ c.in-Some.is) in
    record {
      out = subst (λ (p : ProxyState). IsOut p) (sym c.send-reply.ensures.stays.0) (waits old.proxy.work call.node call.request alive.2.out);
      fits = λ node request has.
          fits_out old.proxy.work call.node call.request c.send-reply.result alive.2.out c.send-reply.ensures.fits node request
          (subst (λ (p : ProxyState). HasOut p node request) c.send-reply.ensures.stays.0 has);
    }

pub go_on-requires-clause-steps : goal.go_on-requires-clause-steps
go_on-requires-clause-steps g c =
    let start = g.X.Transport.start in
    let points = c.args.points.now in
    let old : Client = record c.args.self.now { due = c.take.new.self } in
    let call = c.in-Some.field-0 in
    let alive = due_alive start points c.args.self.now call c.requires.client (sym c.take.ensures.value ∙ c.in-Some.is) in
    let send = c.send-reply.ensures in
    fed_steps start points old c.send-reply.new.self c.feed.new.self call.node call.request c.send-reply.result alive.1 alive.2 send.stays.0 send.client send.fits send.answer send.none
    (λ none decide. c.is_decide-is_decide.ensures.is_none (c.is_lost.ensures c.if-is_lost.false none) decide)
    (record { ready = c.feed.ensures.ready; agrees = c.feed.ensures.agrees; no_entry = c.feed.ensures.no_entry; kept = c.feed.ensures.kept })
    (send.stays.1 ∙ c.take.ensures.after) send.run (lives_by points c.send-reply.new.self (sym c.has_died.ensures ∙ c.if-has_died.false))

pub returns-clause-goes_on : goal.returns-clause-goes_on
returns-clause-goes_on g c = moves_further g.X.Transport.went g.met.X.Transport.goes_on _ _ _ _ _ _ c.send-reply.ensures.goes_on c.go_on.ensures.goes_on

pub returns-in_default-clause-calls : goal.returns-in_default-clause-calls
returns-in_default-clause-calls g c = λ ops.
    calls_none g.X.Transport.start c.args.points.now c.args.self.now c.requires.client ops (sym c.take.ensures.value ∙ c.in_default.is)

pub returns-then-has_died-clause-calls : goal.returns-then-has_died-clause-calls
returns-then-has_died-clause-calls g c = λ ops.
    let send = c.send-reply.ensures in
    calls_last g.X.Transport.start c.args.points.now c.args.self.now c.requires.client c.in-Some.field-0 (sym c.take.ensures.value ∙ c.in-Some.is) c.take.new.self c.send-reply.new.self c.send-reply.result send.run send.client send.answer send.none
    (sym c.has_died.ensures ∙ c.if-has_died.true) ops

pub returns-clause-calls : goal.returns-clause-calls
returns-clause-calls g c =
    let send = c.send-reply.ensures in
    let call = c.in-Some.field-0 in
    let alive = due_alive g.X.Transport.start c.args.points.now c.args.self.now call c.requires.client (sym c.take.ensures.value ∙ c.in-Some.is) in
    both_ok c.go_on.result _ _ _
    (λ own some. calls_on g.X.Transport.start c.args.points.now c.args.self.now c.requires.client c.in-Some.field-0 (sym c.take.ensures.value ∙ c.in-Some.is) c.take.new.self c.send-reply.new.self c.send-reply.result send.run send.client send.answer send.none
    (sym c.has_died.ensures ∙ c.if-has_died.false) (past_of c.go_on.new.self) own some) c.go_on.ensures.own
    (when_lacking c.go_on.result c.send-reply.result _ _ _ (λ none.
    c.feed.ensures.lacks (past_of c.args.self.now) (subst (λ (p : ProxyState). Agrees (past_of c.args.self.now) p) (sym send.stays.0) alive.1.agrees) none
    (subst (λ (p : ProxyState). OwesNoDecide p) (sym send.stays.0)
    (owes_none c.args.self.now.proxy.work call.node call.request alive.2.out (λ decide. c.is_decide-is_decide.ensures.is_none (c.is_lost.ensures c.if-is_lost.false none) decide))))
    c.go_on.ensures.longer (longer_differs (past_of c.send-reply.new.self) (past_of c.go_on.new.self)))

pub returns-in_default-clause-falls : goal.returns-in_default-clause-falls
returns-in_default-clause-falls g c = λ due. idle_calls c.args.self.now.due _ (sym c.take.ensures.value ∙ c.in_default.is) due

pub returns-then-has_died-clause-falls : goal.returns-then-has_died-clause-falls
returns-then-has_died-clause-falls g c = λ due.
    let new = c.send-reply.new.self in
    let old = c.args.self.now in
    call_falls old new (none_rests new (steps_left old.proxy) (c.send-reply.ensures.stays.1 ∙ c.take.ensures.after)) due

pub returns-clause-falls : goal.returns-clause-falls
returns-clause-falls g c =
    let old = c.args.self.now in
    let new = c.go_on.new.self in
    let fed : steps_left c.feed.new.self ≤ steps_left old.proxy = subst (λ (p : ProxyState). steps_left c.feed.new.self ≤ steps_left p) c.send-reply.ensures.stays.0 c.feed.ensures.falls in
    on_ok c.go_on.result _ _ (λ less due. call_falls old new (no_more (work_left new) (steps_left c.feed.new.self) (steps_left old.proxy) less fed) due) c.go_on.ensures.falls

pub returns-then-has_died-clause-begun : goal.returns-then-has_died-clause-begun
returns-then-has_died-clause-begun g c = c.send-reply.ensures.stays.2

pub returns-clause-begun : goal.returns-clause-begun
returns-clause-begun g c = c.go_on.ensures.begun ∙ c.send-reply.ensures.stays.2

-- The turn is that of what is on its way, with what is kept as it was.
use Rattle.std.proofs.Common.{ap, refl, subst, sym, ◌∙◌}
use Rattle.mn_proxy.specs.contracts.proxy.Proxy.{the_view}
use Rattle.mn_proxy.specs.Agrees.{Agrees}
use Rattle.mn_proxy.specs.State.{ProxyState}
use Rattle.mn_proxy.specs.Measure.{Falls}
use Rattle.mn_proxy.specs.Turns.{with_work}
use Rattle.mn_proxy.proofs.Turning.{goes_sound, goes_wants, on_error, turn_errand, turn_own}
use Rattle.mn_proxy.proofs.Lacking.{sent_gives_up}
use Rattle.mn_proxy.specs.Firsts.{FailsFirst}
use Rattle.mn_proxy.proofs.Firsts.{sent_first, turned_first}
use Rattle.mn_proxy.proofs.Turned.{none_goes, turned_agree, turned_asked, turned_cache, turned_catalog, turned_ends, turned_falls, turned_left, turned_legal, turned_lost, turned_reads, turned_sound, turned_wants}
use Rattle.mn_proxy.specs.Turn.{turned}
use Rattle.std.specs.Prelude.{IfOk, OnErr}
use Rattle.std.proofs.Common.{◌≡◌}
use Rattle.mn_proxy.specs.Kept.{CacheGoes, CatalogGoes, CatalogLeft, read_by}
use Rattle.mn_proxy.specs.LeafReads.{ReadsLeaf}
use Rattle.mn_proxy.specs.Turn as turns
use Rattle.mn_proxy.specs.declared.step.ProxyStep.TheVariants as steps
use Rattle.mn_proxy.proofs.LeafReads.{leaf_ends, path_reads}
use Rattle.mn_proxy.specs.declared.errand.Errand.{Errand}
use Rattle.mn_proxy.specs.declared.errand.Errand.TheVariants as out
use Rattle.std.proofs.Common.{None}
use Rattle.mn_work.specs.Works.{new_work}
use Rattle.mn_proxy.specs.Agrees.{Wants}
use Rattle.mn_proxy.specs.Turns.{GivesUp, IsEnd, IsSent, IsSentWholeIn, KeepsSelf, LacksIn, StepIsAsAsked}
use Rattle.mn_proxy.proofs.Kept.{unread_leaf}
use Rattle.mn_proxy.proofs.Sending.{sent_unread, step_caches, step_calls, step_catalogs, step_falls, turn_agrees, turn_sound, under_sent}
use Rattle.mn_proxy.proofs.proxy.Proxy.next.Goals as goal

-- What is on its way has its turn

pub returns-in-Some-take-clause-sound : goal.returns-in-Some-take-clause-sound
returns-in-Some-take-clause-sound c =
    turned_sound c.turn.new.self.known c.args.self.now.known.nodes c.turn.new.self.work c.turn.result
    (c.turn.ensures.kept.0.2 ∙ ap (λ (p : ProxyState). p.known.nodes) (c.self.view_is ∙ c.send.ensures.same c.in-None.is)) c.turn.ensures.sound

pub returns-in-Some-take-clause-legal : goal.returns-in-Some-take-clause-legal
returns-in-Some-take-clause-legal c = λ es agrees.
    turned_legal es c.args.self.now c.turn.new.self c.turn.new.self.work c.turn.result (c.turn.ensures.kept.0.0 ∙ ap (λ (p : ProxyState). p.client) (c.self.view_is ∙ c.send.ensures.same c.in-None.is))
    (c.turn.ensures.turns es
    (turn_own es (the_view c.self.inside) c.args.self.now c.take.new.self (c.self.view_is ∙ c.send.ensures.same c.in-None.is) agrees)
    (turn_errand es (the_view c.self.inside) c.args.self.now c.in-Some-take.work c.in-Some-take.errand (c.self.view_is ∙ c.send.ensures.same c.in-None.is) (sym c.in-Some-take.ensures.value) agrees))

pub returns-in-Some-take-clause-agrees : goal.returns-in-Some-take-clause-agrees
returns-in-Some-take-clause-agrees c = λ es new agrees.
    turned_agree es new c.args.self.now c.turn.new.self c.turn.new.self.work c.turn.result (c.turn.ensures.kept.0.0 ∙ ap (λ (p : ProxyState). p.client) (c.self.view_is ∙ c.send.ensures.same c.in-None.is)) refl
    (c.turn.ensures.turns es
    (turn_own es (the_view c.self.inside) c.args.self.now c.take.new.self (c.self.view_is ∙ c.send.ensures.same c.in-None.is) agrees)
    (turn_errand es (the_view c.self.inside) c.args.self.now c.in-Some-take.work c.in-Some-take.errand (c.self.view_is ∙ c.send.ensures.same c.in-None.is) (sym c.in-Some-take.ensures.value) agrees))

pub returns-in-Some-take-clause-goes_on : goal.returns-in-Some-take-clause-goes_on
returns-in-Some-take-clause-goes_on c =
    turned_wants c.turn.new.self.known c.turn.new.self c.turn.new.self.work c.turn.result refl c.turn.ensures.sound

pub returns-in-Some-take-clause-left : goal.returns-in-Some-take-clause-left
returns-in-Some-take-clause-left c = λ es new agrees.
    turned_left es new c.args.self.now c.turn.new.self c.turn.result (c.turn.ensures.kept.0.0 ∙ ap (λ (p : ProxyState). p.client) (c.self.view_is ∙ c.send.ensures.same c.in-None.is)) c.turn.ensures.kept.1
    (c.turn.ensures.left es
    (turn_own es (the_view c.self.inside) c.args.self.now c.take.new.self (c.self.view_is ∙ c.send.ensures.same c.in-None.is) agrees)
    (turn_errand es (the_view c.self.inside) c.args.self.now c.in-Some-take.work c.in-Some-take.errand (c.self.view_is ∙ c.send.ensures.same c.in-None.is) (sym c.in-Some-take.ensures.value) agrees))

pub returns-in-Some-take-clause-falls : goal.returns-in-Some-take-clause-falls
returns-in-Some-take-clause-falls c =
    subst (λ (p : ProxyState). IfOk c.turn.result (Falls p c.turn.new.self)) (c.self.view_is ∙ c.send.ensures.same c.in-None.is)
    (turned_falls (the_view c.self.inside) c.turn.new.self c.in-Some-take.work c.in-Some-take.errand (sym c.in-Some-take.ensures.value)
    c.turn.new.self.work c.turn.result refl c.turn.ensures.falls)

pub returns-in-Some-take-clause-cache : goal.returns-in-Some-take-clause-cache
returns-in-Some-take-clause-cache c =
    subst (λ (p : ProxyState). CacheGoes p c.turn.new.self c.turn.result) (c.self.view_is ∙ c.send.ensures.same c.in-None.is)
    (turned_cache (the_view c.self.inside) c.turn.new.self c.in-Some-take.work c.in-Some-take.errand (sym c.in-Some-take.ensures.value)
    c.turn.new.self.work c.turn.result refl c.turn.ensures.sound c.turn.ensures.cache)

pub returns-in-Some-take-clause-catalog : goal.returns-in-Some-take-clause-catalog
returns-in-Some-take-clause-catalog c =
    subst (λ (p : ProxyState). IfOk c.turn.result (CatalogGoes p c.turn.new.self)) (c.self.view_is ∙ c.send.ensures.same c.in-None.is)
    (turned_catalog (the_view c.self.inside) c.turn.new.self c.in-Some-take.work c.in-Some-take.errand (sym c.in-Some-take.ensures.value)
    c.turn.new.self.work c.turn.result refl c.turn.ensures.sound c.turn.ensures.catalog)

pub returns-in-Some-take-clause-path : goal.returns-in-Some-take-clause-path
returns-in-Some-take-clause-path c = λ op leaf begun path.
    turned_reads c.args.self.now.known.nodes op leaf c.turn.new.self c.turn.new.self.work c.turn.result refl
    (path_reads (the_view c.self.inside) c.args.self.now (c.self.view_is ∙ c.send.ensures.same c.in-None.is) c.in-Some-take.work c.in-Some-take.errand (sym c.in-Some-take.ensures.value)
    (λ n op leaf. IfOk (turned c.turn.new.self.work c.turn.result) (ReadsLeaf n op leaf)) c.turn.ensures.path op leaf begun path)

pub returns-in-Some-take-clause-leaf : goal.returns-in-Some-take-clause-leaf
returns-in-Some-take-clause-leaf c = λ work errand under leaf.
    leaf_ends (the_view c.self.inside) c.args.self.now (c.self.view_is ∙ c.send.ensures.same c.in-None.is) c.in-Some-take.work c.in-Some-take.errand (sym c.in-Some-take.ensures.value)
    (λ answer. IfOk c.turn.result (λ step. step ≡ steps.Done answer))
    (λ shown. turned_ends c.turn.new.self.work c.turn.result _ (c.turn.ensures.leaf shown)) work errand under leaf

pub returns-in-Some-take-clause-calls : goal.returns-in-Some-take-clause-calls
returns-in-Some-take-clause-calls c = λ work tid x purpose node request under is.
    absurd (subst IsEnd is (subst IsSentWholeIn under (c.send.ensures.whole c.in-None.is)))

-- A request that is handed out

pub returns-in-Some-clause-sound : goal.returns-in-Some-clause-sound
returns-in-Some-clause-sound c =
    let s = c.in-Some.ensures.sends in
    goes_sound c.args.self.now.known c.args.self.now.known.nodes (turns.Goes c.in-Some.step s.work s.sent_now) c.in-Some.step s.work s.sent_now refl refl
    (turn_sound c.args.self.now c.send.new.self c.in-Some.step s)

pub returns-in-Some-clause-legal : goal.returns-in-Some-clause-legal
returns-in-Some-clause-legal c = λ es agrees.
    (turn_agrees c.args.self.now c.send.new.self c.in-Some.step c.in-Some.ensures.sends es agrees).0

pub returns-in-Some-clause-agrees : goal.returns-in-Some-clause-agrees
returns-in-Some-clause-agrees c = λ es new agrees enters.
    subst (Agrees new) (sym c.in-Some.ensures.sends.after_is)
    ((turn_agrees c.args.self.now c.send.new.self c.in-Some.step c.in-Some.ensures.sends es agrees).1 new enters)

pub returns-in-Some-clause-goes_on : goal.returns-in-Some-clause-goes_on
returns-in-Some-clause-goes_on c =
    let s = c.in-Some.ensures.sends in
    subst (Wants c.in-Some.step) (sym s.after_is)
    (goes_wants c.args.self.now.known (with_work c.args.self.now s.work s.sent_now) (turns.Goes c.in-Some.step s.work s.sent_now) c.in-Some.step s.work s.sent_now refl refl
    (turn_sound c.args.self.now c.send.new.self c.in-Some.step s))

pub returns-in-Some-clause-kept : goal.returns-in-Some-clause-kept
returns-in-Some-clause-kept c = subst (KeepsSelf c.args.self.now) (sym c.in-Some.ensures.sends.after_is) (refl, refl, refl)

pub returns-in-Some-clause-falls : goal.returns-in-Some-clause-falls
returns-in-Some-clause-falls c = step_falls c.args.self.now c.send.new.self c.in-Some.step c.in-Some.ensures.sends

pub returns-in-Some-clause-cache : goal.returns-in-Some-clause-cache
returns-in-Some-clause-cache c = step_caches c.args.self.now c.send.new.self c.in-Some.step c.in-Some.ensures.sends

pub returns-in-Some-clause-catalog : goal.returns-in-Some-clause-catalog
returns-in-Some-clause-catalog c = step_catalogs c.args.self.now c.send.new.self c.in-Some.step c.in-Some.ensures.sends

pub returns-in-Some-clause-calls : goal.returns-in-Some-clause-calls
returns-in-Some-clause-calls c = step_calls c.args.self.now c.send.new.self c.in-Some.step c.in-Some.ensures.sends

pub returns-in-Some-clause-path : goal.returns-in-Some-clause-path
returns-in-Some-clause-path c = λ op leaf begun path.
    let s = c.in-Some.ensures.sends in
    let under = under_sent c.args.self.now c.send.new.self c.in-Some.step s (new_work op) out.Nothing begun in
    absurd (subst (λ (e : Errand). IsSent e s.sent_now c.in-Some.step) under.1 s.sent)

pub returns-in-Some-clause-leaf : goal.returns-in-Some-clause-leaf
returns-in-Some-clause-leaf c = λ work errand under leaf.
    let s = c.in-Some.ensures.sends in
    let same = under_sent c.args.self.now c.send.new.self c.in-Some.step s work errand under in
    absurd (unread_leaf c.args.self.now.known work (read_by errand)
    (subst (λ (e : Errand). read_by e ≡ None) same.1 (sent_unread s.errand s.sent_now c.in-Some.step s.sent)) leaf)

-- Want of memory

pub returns-in-Some-take-clause-made : goal.returns-in-Some-take-clause-made
returns-in-Some-take-clause-made c =
    turned_asked c.turn.new.self c.turn.new.self.work c.turn.result refl c.turn.ensures.sound

pub returns-in-Some-take-clause-over : goal.returns-in-Some-take-clause-over
returns-in-Some-take-clause-over c =
    on_error c.turn.result (IsSentWholeIn c.args.self.now.work) (c.send.ensures.whole c.in-None.is)

pub returns-in-Some-take-clause-lacks : goal.returns-in-Some-take-clause-lacks
returns-in-Some-take-clause-lacks c = λ lacks.
    none_goes c.turn.result GivesUp
    (c.turn.ensures.lacks
    (subst LacksIn (sym (c.in-Some-take.ensures.value ∙ ap (λ (p : ProxyState). p.work) (c.self.view_is ∙ c.send.ensures.same c.in-None.is))) lacks))

pub returns-in-Some-take-clause-left_catalog : goal.returns-in-Some-take-clause-left_catalog
returns-in-Some-take-clause-left_catalog c =
    subst (λ (p : ProxyState). OnErr c.turn.result (CatalogLeft p c.turn.new.self)) (c.self.view_is ∙ c.send.ensures.same c.in-None.is)
    (turned_lost (the_view c.self.inside) c.turn.new.self c.in-Some-take.work c.in-Some-take.errand (sym c.in-Some-take.ensures.value) c.turn.result c.turn.ensures.left_catalog)

pub returns-in-Some-clause-made : goal.returns-in-Some-clause-made
returns-in-Some-clause-made c =
    let s = c.in-Some.ensures.sends in
    subst (λ (p : ProxyState). StepIsAsAsked p c.in-Some.step) (sym s.after_is)
    (turn_sound c.args.self.now c.send.new.self c.in-Some.step s).3

pub returns-in-Some-clause-lacks : goal.returns-in-Some-clause-lacks
returns-in-Some-clause-lacks c = λ lacks.
    let s = c.in-Some.ensures.sends in
    sent_gives_up s.work s.errand s.sent_now c.in-Some.step s.sent (subst LacksIn s.under lacks)

-- A first try that failed

pub returns-in-Some-take-clause-first : goal.returns-in-Some-take-clause-first
returns-in-Some-take-clause-first c = λ es agrees.
    subst (λ (p : ProxyState). IfOk c.turn.result (λ step. FailsFirst p c.turn.new.self)) (c.self.view_is ∙ c.send.ensures.same c.in-None.is)
    (turned_first (the_view c.self.inside) c.turn.new.self c.in-Some-take.work c.in-Some-take.errand (sym c.in-Some-take.ensures.value)
    c.turn.new.self.work c.turn.result refl
    (c.turn.ensures.first es
    (turn_own es (the_view c.self.inside) c.args.self.now c.take.new.self (c.self.view_is ∙ c.send.ensures.same c.in-None.is) agrees)
    (turn_errand es (the_view c.self.inside) c.args.self.now c.in-Some-take.work c.in-Some-take.errand (c.self.view_is ∙ c.send.ensures.same c.in-None.is) (sym c.in-Some-take.ensures.value) agrees)))

pub returns-in-Some-clause-first : goal.returns-in-Some-clause-first
returns-in-Some-clause-first c = λ es agrees.
    let s = c.in-Some.ensures.sends in
    sent_first c.args.self.now c.send.new.self s.work s.errand s.under s.sent_now (ap (λ (p : ProxyState). p.work) s.after_is)

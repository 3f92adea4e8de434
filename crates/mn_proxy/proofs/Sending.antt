-- A request that is handed out where it lies: the turn that it comes to.
use Rattle.std.proofs.Common.{◌≡◌, ◌<◌, true, false, List, Some, None, Result, Ok, refl, sym, subst, ap, ◌∙◌}
use Rattle.mn_base.specs.declared.error.NoMemory.{NoMemory}
use Rattle.mn_base.specs.declared.ids.NodeNo.{NodeNo}
use Rattle.mn_base.specs.declared.ids.Tid.{Tid}
use Rattle.mn_base.proofs.Booleans.{falsely}
use Rattle.mn_coord.specs.Coordination.{Coordination, after_step, step_of}
use Rattle.mn_coord.specs.declared.step.CoordStep.{CoordStep}
use Rattle.mn_coord.specs.declared.step.CoordStep.TheVariants.{Send, Abandon}
use Rattle.mn_mini.specs.declared.request.Request.{Request}
use Rattle.mn_runs.specs.declared.entry.Entry.{Entry}
use Rattle.mn_proxy.specs.declared.errand.Errand.{Errand}
use Rattle.mn_proxy.specs.declared.errand.Errand.TheVariants as out
use Rattle.mn_proxy.specs.declared.errand.Purpose.{Purpose}
use Rattle.mn_proxy.specs.Turn.{Turn}
use Rattle.mn_proxy.specs.Turn as turns
use Rattle.mn_proxy.specs.declared.step.ProxyStep.{ProxyStep}
use Rattle.mn_proxy.specs.declared.step.ProxyStep.TheVariants as steps
use Rattle.mn_work.specs.declared.known.Known.{Known}
use Rattle.mn_work.specs.declared.work.Work.{Work}
use Rattle.mn_proxy.specs.Agrees.{Agrees, ErrandAgrees, IsOwn, WorksBy}
use Rattle.mn_proxy.specs.Kept.{CacheGoes, CatalogGoes, StepCalls, read_by, read_when}
use Rattle.mn_proxy.specs.Measure.{Falls, GoesBelow, steps_left}
use Rattle.mn_proxy.specs.State.{ProxyState}
use Rattle.mn_proxy.specs.Turns.{IsOutFor, IsSent, IsSoundTurn, IsSoundWork, Sends, TurnAgrees, with_work}
use Rattle.mn_proxy.proofs.Coordinating.{abandons_soundly, mini_abandons, mini_sends, sends_soundly}
use Rattle.mn_proxy.proofs.Kept.{cache_goes, catalog_goes, catalog_stays, unread_cache, unread_catalog}
use Rattle.mn_proxy.proofs.LeafReads.{pair_same}
use Rattle.mn_proxy.proofs.Measure.{abandon_falls, coordinates_below, goes_falls, send_falls}
use Rattle.mn_work.specs.Walks.{is_later}

-- The turn

asked_not : (c : Coordination) → (c.asked ≡ true → ⊥) → c.asked ≡ false
asked_not c quiet = falsely c.asked quiet

module _ (w : Work) where
  -- it is sound
  pub sent_sound : (known : Known) (errand after : Errand) (step : ProxyStep) → (IsOutFor errand → ⊥)
      → IsSent errand after step → IsSoundWork known w errand
      → IsSoundTurn known (turns.Goes step w after)
  sent_sound known (out.Mini tid c purpose) after (steps.Call node request) quiet (d, is, makes) sound =
      subst (λ (e : Errand). IsSoundTurn known (turns.Goes (steps.Call node request) w e)) (sym is)
      (sends_soundly known w tid c d purpose node request makes.after_is (sym makes.step_is) sound.errand_is.0 makes.sound sound)
  sent_sound known (out.Mini tid c purpose) after (steps.Abandon id) quiet (d, is, same, makes) sound =
      subst (λ (t : Tid). IsSoundTurn known (turns.Goes (steps.Abandon t) w after)) (sym same)
      (subst (λ (e : Errand). IsSoundTurn known (turns.Goes (steps.Abandon tid) w e)) (sym is)
      (abandons_soundly known w tid c d purpose makes.after_is (asked_not c quiet) sound))
  sent_sound known (out.Mini tid c purpose) after (steps.Issue id mini) quiet sent sound = absurd sent
  sent_sound known (out.Mini tid c purpose) after (steps.Done answer) quiet sent sound = absurd sent
  sent_sound known out.Nothing after step quiet sent sound = absurd sent
  sent_sound known (out.Peek place purpose) after step quiet sent sound = absurd sent
  sent_sound known (out.Peeked place reply purpose) after step quiet sent sound = absurd sent

  -- the client may make it
  pub sent_agrees : (es : List Entry) (p : ProxyState) (errand after : Errand) (step : ProxyStep)
      → IsSent errand after step → IsOwn es p → ErrandAgrees es p.known w errand
      → TurnAgrees es p (turns.Goes step w after)
  sent_agrees es p (out.Mini tid c purpose) after (steps.Call node request) (d, is, makes) own m =
      subst (λ (e : Errand). TurnAgrees es p (turns.Goes (steps.Call node request) w e)) (sym is)
      (mini_sends es p w tid c d purpose node request makes.after_is own m (makes.legal es m.coordinates)
      (makes.agrees es m.coordinates (λ gone. (let both : Send node request ≡ Abandon = makes.step_is ∙ gone in absurd cc))))
  sent_agrees es p (out.Mini tid c purpose) after (steps.Abandon id) (d, is, same, makes) own m =
      subst (λ (t : Tid). TurnAgrees es p (turns.Goes (steps.Abandon t) w after)) (sym same)
      (subst (λ (e : Errand). TurnAgrees es p (turns.Goes (steps.Abandon tid) w e)) (sym is)
      (mini_abandons es p w tid c d purpose makes.after_is (sym makes.step_is) own m (makes.legal es m.coordinates)
      (λ e none what. makes.abandoned es e m.coordinates (sym makes.step_is) none what)))
  sent_agrees es p (out.Mini tid c purpose) after (steps.Issue id mini) sent own m = absurd sent
  sent_agrees es p (out.Mini tid c purpose) after (steps.Done answer) sent own m = absurd sent
  sent_agrees es p out.Nothing after step sent own m = absurd sent
  sent_agrees es p (out.Peek place purpose) after step sent own m = absurd sent
  sent_agrees es p (out.Peeked place reply purpose) after step sent own m = absurd sent

  -- fewer steps are left
  pub sent_falls : (p : ProxyState) (errand after : Errand) (step : ProxyStep) → (IsOutFor errand → ⊥)
      → IsSent errand after step
      → GoesBelow (steps_left (with_work p w errand)) p (turns.Goes step w after)
  sent_falls p (out.Mini tid c purpose) after (steps.Call node request) quiet (d, is, makes) =
      subst (λ (e : Errand). steps_left (with_work p w e) < steps_left (with_work p w (out.Mini tid c purpose))) (sym is)
      (coordinates_below p c d (send_falls c d node request (asked_not c quiet) (sym makes.step_is) makes.after_is))
  sent_falls p (out.Mini tid c purpose) after (steps.Abandon id) quiet (d, is, same, makes) =
      subst (λ (e : Errand). steps_left (with_work p w e) < steps_left (with_work p w (out.Mini tid c purpose))) (sym is)
      (coordinates_below p c d (abandon_falls c d (sym makes.step_is) makes.after_is))
  sent_falls p (out.Mini tid c purpose) after (steps.Issue id mini) quiet sent = absurd sent
  sent_falls p (out.Mini tid c purpose) after (steps.Done answer) quiet sent = absurd sent
  sent_falls p out.Nothing after step quiet sent = absurd sent
  sent_falls p (out.Peek place purpose) after step quiet sent = absurd sent
  sent_falls p (out.Peeked place reply purpose) after step quiet sent = absurd sent

  -- its call is what its coordinator wants
  pub sent_calls : (p : ProxyState) (after : Errand) (step : ProxyStep) (tid : Tid) (c : Coordination)
      (purpose : Purpose) (node : NodeNo) (request : Request) → IsSent (out.Mini tid c purpose) after step
      → step_of c ≡ Send node request
      → StepCalls p (with_work p w after) w tid c purpose node request step
  sent_calls p after (steps.Call n r) tid c purpose node request (d, is, makes) step =
      let both : Send n r ≡ Send node request = makes.step_is ∙ step in
      let nodes : n ≡ node = cc in
      let requests : r ≡ request = cc in (
        ap (λ (m : NodeNo). steps.Call m r) nodes ∙ ap (steps.Call node) requests,
        ap (with_work p w) (is ∙ ap (λ (x : Coordination). out.Mini tid x purpose) (makes.after_is ∙ ap (after_step c) both)),
      )
  sent_calls p after (steps.Abandon id) tid c purpose node request (d, is, same, makes) step =
      let both : Abandon ≡ Send node request = makes.step_is ∙ step in absurd cc
  sent_calls p after (steps.Issue id mini) tid c purpose node request sent step = absurd sent
  sent_calls p after (steps.Done answer) tid c purpose node request sent step = absurd sent

-- Nothing has been read for it

when_sent : (c : Coordination) (purpose : Purpose) (step : CoordStep) → step ≡ step_of c
    → read_when step c.reads purpose ≡ None → read_when (step_of c) c.reads purpose ≡ None
when_sent c purpose step is none =
    ap (λ (s : CoordStep). read_when s c.reads purpose) (sym is) ∙ none

pub sent_unread : (errand after : Errand) (step : ProxyStep) → IsSent errand after step
    → read_by errand ≡ None
sent_unread (out.Mini tid c purpose) after (steps.Call node request) (d, is, makes) =
    when_sent c purpose (Send node request) makes.step_is refl
sent_unread (out.Mini tid c purpose) after (steps.Abandon id) (d, is, same, makes) =
    when_sent c purpose Abandon makes.step_is refl
sent_unread (out.Mini tid c purpose) after (steps.Issue id mini) sent = absurd sent
sent_unread (out.Mini tid c purpose) after (steps.Done answer) sent = absurd sent
sent_unread out.Nothing after step sent = absurd sent
sent_unread (out.Peek place purpose) after step sent = absurd sent
sent_unread (out.Peeked place reply purpose) after step sent = absurd sent

-- The step

module _ (p q : ProxyState) (step : ProxyStep) (s : Sends p q step) where
  errand_agrees : (es : List Entry) → Agrees es p → ErrandAgrees es p.known s.work s.errand
  errand_agrees es agrees = subst (WorksBy es p) s.under agrees.1

  pub turn_sound : IsSoundTurn p.known (turns.Goes step s.work s.sent_now)
  turn_sound = sent_sound s.work p.known s.errand s.sent_now step s.quiet s.sent s.sound

  pub turn_agrees : (es : List Entry) → Agrees es p
      → TurnAgrees es p (turns.Goes step s.work s.sent_now)
  turn_agrees es agrees =
      sent_agrees s.work es p s.errand s.sent_now step s.sent agrees.0 (errand_agrees es agrees)

  pub step_falls : Falls p q step
  step_falls =
      subst (λ (x : ProxyState). Falls p x step) (sym s.after_is)
      (goes_falls p p s.work s.work s.errand s.sent_now step (turns.Goes step s.work s.sent_now) s.under refl
      (sent_falls s.work p s.errand s.sent_now step s.quiet s.sent))

  pub step_caches : CacheGoes p q (Ok step)
  step_caches =
      subst (λ (x : ProxyState). CacheGoes p x (Ok step)) (sym s.after_is)
      (cache_goes p (with_work p s.work s.sent_now) s.work s.errand s.under s.work s.sent_now step
      (turns.Goes step s.work s.sent_now) refl refl
      (unread_cache (read_by s.errand) (is_later s.work.failed) p.known.cache p.known.cache
      (Ok (turns.Goes step s.work s.sent_now)) (sent_unread s.errand s.sent_now step s.sent) refl))

  pub step_catalogs : CatalogGoes p q step
  step_catalogs =
      let result : Result Turn NoMemory = Ok (turns.Goes step s.work s.sent_now) in
      subst (λ (x : ProxyState). CatalogGoes p x step) (sym s.after_is)
      (catalog_goes p (with_work p s.work s.sent_now) s.work s.errand s.under s.work s.sent_now step
      (turns.Goes step s.work s.sent_now) refl refl
      (unread_catalog (read_by s.errand) p.known.catalog p.known.catalog result
      (sent_unread s.errand s.sent_now step s.sent) (catalog_stays p.known.catalog p.known.catalog result refl)))

  -- by what is on its way
  pub under_sent : (w : Work) (errand : Errand) → p.work ≡ Some (w, errand)
      → (s.work ≡ w) × (s.errand ≡ errand)
  under_sent w errand is =
      let pairs = pair_same (s.work, s.errand) (w, errand) (sym s.under ∙ is) in
      (ap (λ (x : Work × Errand). x.0) pairs, ap (λ (x : Work × Errand). x.1) pairs)

  pub step_calls : (w : Work) (tid : Tid) (c : Coordination) (purpose : Purpose) (node : NodeNo)
      (request : Request) → p.work ≡ Some (w, out.Mini tid c purpose) → step_of c ≡ Send node request
      → StepCalls p q w tid c purpose node request step
  step_calls w tid c purpose node request is sends =
      let under = under_sent w (out.Mini tid c purpose) is in
      subst (λ (x : ProxyState). StepCalls p x w tid c purpose node request step) (sym s.after_is)
      (subst (λ (v : Work). StepCalls p (with_work p v s.sent_now) w tid c purpose node request step) (sym under.0)
      (sent_calls w p s.sent_now step tid c purpose node request
      (subst (λ (e : Errand). IsSent e s.sent_now step) under.1 s.sent) sends))

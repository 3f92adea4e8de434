-- What is so of a turn is so of the step that it was.
use Rattle.std.proofs.Common.{◌≡◌, ℕ, List, Option, Some, None, Result, Ok, Err, refl, subst, sym, ap}
use Rattle.std.specs.Prelude.{IfOk, MatchOption, OnErr, OnOk, ⊤}
use Rattle.mn_base.specs.declared.answer.Answer.{Answer}
use Rattle.mn_base.specs.declared.error.NoMemory.{NoMemory}
use Rattle.mn_base.specs.declared.op.Op.{Op}
use Rattle.mn_runs.specs.declared.entry.Entry.{Entry}
use Rattle.mn_proxy.specs.declared.errand.Errand.{Errand}
use Rattle.mn_proxy.specs.declared.step.ProxyStep.{ProxyStep}
use Rattle.mn_proxy.specs.declared.step.ProxyStep.TheVariants as steps
use Rattle.mn_work.specs.declared.get.Descent.{Descent}
use Rattle.mn_work.specs.declared.known.Known.{Known}
use Rattle.mn_work.specs.declared.work.Work.{Work}
use Rattle.mn_work.specs.Walks.{is_later}
use Rattle.mn_proxy.specs.Agrees.{Agrees, Enters, EntersWant, IsOwnLast, IsSoundStep, MayStep, Wants, WorksBy}
use Rattle.mn_proxy.specs.Kept.{CacheGoes, CacheTurns, CatalogGoes, CatalogLeft, CatalogTurns, KeepsOrForgets, read_by, read_in}
use Rattle.mn_proxy.specs.LeafReads.{ReadsLeaf, StepReadsLeaf}
use Rattle.mn_proxy.specs.Measure.{Falls, GoesBelow, steps_left}
use Rattle.mn_proxy.specs.State.{ProxyState}
use Rattle.mn_proxy.specs.Turn.{turned}
use Rattle.mn_proxy.specs.Turn as turns
use Rattle.mn_proxy.specs.Turns.{IsSoundTurn, IssuesAsAsked, StepIsAsAsked, TurnAgrees, with_work}
use Rattle.mn_proxy.proofs.Answered.{answered_idle}
use Rattle.mn_proxy.proofs.Kept.{cache_ends, cache_fails, cache_goes, catalog_ends, catalog_goes}
use Rattle.mn_proxy.proofs.Measure.{goes_falls}
use Rattle.mn_proxy.proofs.Turning.{enters_of_same, goes_agree, goes_legal, goes_sound, goes_wants, left_agrees, step_of_same}

-- it is sound
pub turned_sound : (known : Known) (nodes : ℕ) (work : Option (Work × Errand)) (r : Result ProxyStep NoMemory)
    → known.nodes ≡ nodes → IfOk (turned work r) (IsSoundTurn known) → IfOk r (IsSoundStep nodes)
turned_sound known nodes (Some (w, errand)) (Ok step) same sound =
    goes_sound known nodes (turns.Goes step w errand) step w errand refl same sound
turned_sound known nodes None (Ok (steps.Done answer)) same sound = tt
turned_sound known nodes None (Ok (steps.Issue tid mini)) same sound = absurd sound
turned_sound known nodes None (Ok (steps.Abandon tid)) same sound = absurd sound
turned_sound known nodes None (Ok (steps.Call node request)) same sound = absurd sound
turned_sound known nodes work (Err none) same sound = tt

-- the client may make it
pub turned_legal : (es : List Entry) (p q : ProxyState) (work : Option (Work × Errand))
    (r : Result ProxyStep NoMemory) → q.client ≡ p.client → IfOk (turned work r) (TurnAgrees es q)
    → IfOk r (MayStep es p)
turned_legal es p q (Some (w, errand)) (Ok step) same agrees =
    goes_legal es p q (turns.Goes step w errand) step w errand refl same agrees
turned_legal es p q None (Ok (steps.Done answer)) same agrees =
    step_of_same es p q (steps.Done answer) same agrees.0
turned_legal es p q None (Ok (steps.Issue tid mini)) same agrees = absurd agrees
turned_legal es p q None (Ok (steps.Abandon tid)) same agrees = absurd agrees
turned_legal es p q None (Ok (steps.Call node request)) same agrees = absurd agrees
turned_legal es p q work (Err none) same agrees = tt

-- with it its list agrees
pub turned_agree : (es new : List Entry) (p q : ProxyState) (work : Option (Work × Errand))
    (r : Result ProxyStep NoMemory) → q.client ≡ p.client → q.work ≡ work
    → IfOk (turned work r) (TurnAgrees es q) → IfOk r (λ step. Enters es p step new → Agrees new q)
turned_agree es new p q (Some (w, errand)) (Ok step) same is agrees = λ enters.
    subst (λ (o : Option (Work × Errand)). Agrees new (record q { work = o })) (sym is)
    (goes_agree es new p q (turns.Goes step w errand) step w errand refl same agrees enters)
turned_agree es new p q None (Ok (steps.Done answer)) same is agrees = λ enters.
    let now = agrees.1 new (enters_of_same es new p q (steps.Done answer) (sym same) enters) in
    (now.0, subst (WorksBy new q) (sym is) (answered_idle es new p answer enters, now.1))
turned_agree es new p q None (Ok (steps.Issue tid mini)) same is agrees = absurd agrees
turned_agree es new p q None (Ok (steps.Abandon tid)) same is agrees = absurd agrees
turned_agree es new p q None (Ok (steps.Call node request)) same is agrees = absurd agrees
turned_agree es new p q work (Err none) same is agrees = tt

-- for want of memory its operation is answered so
pub turned_left : (es new : List Entry) (p q : ProxyState) (r : Result ProxyStep NoMemory)
    → q.client ≡ p.client → OnErr r (q.work ≡ None) → OnErr r (IsOwnLast es q)
    → OnErr r (EntersWant es p new → Agrees new q)
turned_left es new p q (Ok step) same idle own = tt
turned_left es new p q (Err none) same idle own = left_agrees es new p q same idle own

-- it is what the proxy waits for
pub turned_wants : (known : Known) (q : ProxyState) (work : Option (Work × Errand))
    (r : Result ProxyStep NoMemory) → q.work ≡ work → IfOk (turned work r) (IsSoundTurn known)
    → IfOk r (λ step. Wants step q)
turned_wants known q (Some (w, errand)) (Ok step) is sound =
    goes_wants known q (turns.Goes step w errand) step w errand refl is sound
turned_wants known q None (Ok (steps.Done answer)) is sound = is
turned_wants known q None (Ok (steps.Issue tid mini)) is sound = absurd sound
turned_wants known q None (Ok (steps.Abandon tid)) is sound = absurd sound
turned_wants known q None (Ok (steps.Call node request)) is sound = absurd sound
turned_wants known q work (Err none) is sound = tt

module _ (p q : ProxyState) (w : Work) (errand : Errand) (under : p.work ≡ Some (w, errand)) where
  -- fewer steps are left
  pub turned_falls : (work : Option (Work × Errand)) (r : Result ProxyStep NoMemory) → q.work ≡ work
      → IfOk (turned work r) (GoesBelow (steps_left (with_work p w errand)) q) → IfOk r (Falls p q)
  turned_falls (Some (v, now)) (Ok step) is goes =
      subst (λ (o : Option (Work × Errand)). Falls p (record q { work = o }) step) (sym is)
      (goes_falls p q w v errand now step (turns.Goes step v now) under refl goes)
  turned_falls None (Ok (steps.Done answer)) is goes = tt
  turned_falls None (Ok (steps.Issue tid mini)) is goes = absurd goes
  turned_falls None (Ok (steps.Abandon tid)) is goes = absurd goes
  turned_falls None (Ok (steps.Call node request)) is goes = absurd goes
  turned_falls work (Err none) is goes = tt

  -- what is kept
  pub turned_cache : (work : Option (Work × Errand)) (r : Result ProxyStep NoMemory) → q.work ≡ work
      → IfOk (turned work r) (IsSoundTurn q.known)
      → CacheTurns (read_by errand) (is_later w.failed) p.known.cache q.known.cache (turned work r)
      → CacheGoes p q r
  turned_cache (Some (v, now)) (Ok step) is sound cache =
      cache_goes p q w errand under v now step (turns.Goes step v now) is refl cache
  turned_cache None (Ok (steps.Done answer)) is sound cache =
      cache_ends p q w errand under answer (steps.Done answer) (turns.Ends answer) refl cache
  turned_cache None (Ok (steps.Issue tid mini)) is sound cache = absurd sound
  turned_cache None (Ok (steps.Abandon tid)) is sound cache = absurd sound
  turned_cache None (Ok (steps.Call node request)) is sound cache = absurd sound
  turned_cache work (Err none) is sound cache =
      cache_fails p q w errand under none (Err none) refl cache

  pub turned_catalog : (work : Option (Work × Errand)) (r : Result ProxyStep NoMemory) → q.work ≡ work
      → IfOk (turned work r) (IsSoundTurn q.known)
      → IfOk (turned work r) (CatalogTurns (read_by errand) p.known.catalog q.known.catalog)
      → IfOk r (CatalogGoes p q)
  turned_catalog (Some (v, now)) (Ok step) is sound goes =
      catalog_goes p q w errand under v now step (turns.Goes step v now) is refl goes
  turned_catalog None (Ok (steps.Done answer)) is sound goes =
      catalog_ends p q w errand under answer (steps.Done answer) (turns.Ends answer) refl goes
  turned_catalog None (Ok (steps.Issue tid mini)) is sound goes = absurd sound
  turned_catalog None (Ok (steps.Abandon tid)) is sound goes = absurd sound
  turned_catalog None (Ok (steps.Call node request)) is sound goes = absurd sound
  turned_catalog work (Err none) is sound goes = tt

-- it reads its leaf
pub turned_reads : (nodes : ℕ) (op : Op) (leaf : Descent) (q : ProxyState) (work : Option (Work × Errand))
    (r : Result ProxyStep NoMemory) → q.work ≡ work → IfOk (turned work r) (ReadsLeaf nodes op leaf)
    → IfOk r (StepReadsLeaf nodes op leaf q)
turned_reads nodes op leaf q (Some (w, errand)) (Ok step) is reads = (w, errand, is, reads)
turned_reads nodes op leaf q None (Ok (steps.Done answer)) is reads =
    let goes = reads.issues.1 in absurd cc
turned_reads nodes op leaf q None (Ok (steps.Issue tid mini)) is reads =
    let goes = reads.issues.1 in absurd cc
turned_reads nodes op leaf q None (Ok (steps.Abandon tid)) is reads =
    let goes = reads.issues.1 in absurd cc
turned_reads nodes op leaf q None (Ok (steps.Call node request)) is reads =
    let goes = reads.issues.1 in absurd cc
turned_reads nodes op leaf q work (Err none) is reads = tt

-- it is done with this answer
pub turned_ends : (work : Option (Work × Errand)) (r : Result ProxyStep NoMemory) (answer : Answer)
    → IfOk (turned work r) (λ turn. turn ≡ turns.Ends answer) → IfOk r (λ step. step ≡ steps.Done answer)
turned_ends (Some (w, errand)) (Ok step) answer ends = absurd cc
turned_ends None (Ok (steps.Done found)) answer ends = ap steps.Done cc
turned_ends None (Ok (steps.Issue tid mini)) answer ends = absurd cc
turned_ends None (Ok (steps.Abandon tid)) answer ends = absurd cc
turned_ends None (Ok (steps.Call node request)) answer ends = absurd cc
turned_ends work (Err none) answer ends = tt

-- what it issues is as it was asked for
pub turned_asked : (q : ProxyState) (work : Option (Work × Errand)) (r : Result ProxyStep NoMemory)
    → q.work ≡ work → IfOk (turned work r) (IsSoundTurn q.known) → IfOk r (StepIsAsAsked q)
turned_asked q (Some (w, errand)) (Ok step) is sound =
    subst (λ (o : Option (Work × Errand)). MatchOption o ⊤ (λ under. IssuesAsAsked q.known step under.0 under.1)) (sym is) sound.3
turned_asked q None (Ok step) is sound =
    subst (λ (o : Option (Work × Errand)). MatchOption o ⊤ (λ under. IssuesAsAsked q.known step under.0 under.1)) (sym is) tt
turned_asked q work (Err none) is sound = tt

-- where memory ran out
pub turned_lost : (p q : ProxyState) (w : Work) (errand : Errand) → p.work ≡ Some (w, errand)
    → (r : Result ProxyStep NoMemory) → OnErr r (KeepsOrForgets (read_by errand) p.known.catalog q.known.catalog)
    → OnErr r (CatalogLeft p q)
turned_lost p q w errand under r left =
    subst (λ (o : Option (Work × Errand)). OnErr r (KeepsOrForgets (read_in o) p.known.catalog q.known.catalog)) (sym under) left

-- none was made
pub none_goes : (r : Result ProxyStep NoMemory) (P : ProxyStep → Type 0) → OnOk r ⊥ → IfOk r P
none_goes (Ok step) P none = absurd none
none_goes (Err none) P is = tt

-- How a proxy goes on with what a try wants.
use Rattle.std.proofs.Common.{◌≡◌, inl, inr, ℕ, zero, suc, Bool, true, List, Option}
use Rattle.std.proofs.Common.{Some, None, refl, subst, sym, ap, ◌∙◌, length, [], ◌++◌}
use Rattle.std.specs.Prelude.{MatchOption, ⊤}
use Rattle.mn_base.specs.declared.answer.Answer.{Answer}
use Rattle.mn_base.specs.declared.answer.Answer.TheVariants as answers
use Rattle.mn_base.specs.declared.answer.Busy.{Busy}
use Rattle.mn_base.specs.declared.ids.Addr.{Addr}
use Rattle.mn_base.specs.declared.ids.NodeNo.{NodeNo}
use Rattle.mn_base.specs.declared.op.Op.{Op}
use Rattle.mn_base.specs.declared.op.Op.TheVariants.{Tx, Snapshot, Branch, Scan, Versions}
use Rattle.mn_base.specs.declared.reply.Reply.{Reply}
use Rattle.mn_mini.specs.Mini.{Mini}
use Rattle.mn_page.specs.declared.entry.CatEntry.{CatEntry}
use Rattle.mn_txn.specs.Tries.{FreeSlotsAreLeft, TriesShowCauses, WornPagesShow}
use Rattle.mn_runs.specs.declared.entry.Entry.{Entry}
use Rattle.mn_law.specs.Answers.{IsKeyOf, IsSettled, IsWhole, LastTry, MeetsFault, ShowsAnswer, FreeSlots}
use Rattle.mn_runs.specs.Calls.{issues_of, since_begin}
use Rattle.mn_runs.specs.Seen.{Place, Seen, seen_in}
use Rattle.mn_law.specs.Places.{count_place}
use Rattle.mn_law.specs.Shown.{ScanShows}
use Rattle.mn_proxy.specs.declared.errand.Purpose.TheVariants as by
use Rattle.mn_work.specs.declared.known.Known.{Known}
use Rattle.mn_work.specs.declared.next.Next.{Next}
use Rattle.mn_proxy.specs.declared.step.ProxyStep.TheVariants as steps
use Rattle.mn_work.specs.declared.work.Job.{Job}
use Rattle.mn_work.specs.declared.work.Job.TheVariants as at
use Rattle.mn_work.specs.declared.work.Work.{Work}
use Rattle.mn_proxy.specs.Agrees.{AreComparesShown, AreOverNodes, IsAtRest, IsKept, IsOwn, IsOwnLast, IsPlaceFor, MayPeekFor}
use Rattle.mn_proxy.specs.Agrees.{MayStep}
use Rattle.mn_proxy.specs.Issues.{AreClosed, AreIssues}
use Rattle.mn_proxy.specs.Jobs.{IsKeyAt, StandsAt}
use Rattle.mn_work.specs.Cached.{Walks}
use Rattle.mn_work.specs.Knows.{KeepsKnown}
use Rattle.mn_work.specs.Last.{CatalogIsLast}
use Rattle.mn_proxy.specs.State.{ProxyState}
use Rattle.mn_proxy.specs.Tries.{HasAsked, IsTrying, Origin}
use Rattle.mn_proxy.specs.Turn as turns
use Rattle.mn_proxy.specs.Turns.{FailedNow, HasFailed, KeepsSelf, MayIssue, TurnAgrees, with_known}
use Rattle.mn_work.specs.Walks.{FailsBy, IfLater, is_later}
use Rattle.mn_work.specs.Works.{AsksCountFor, IsJobOf, KeepsOp, StaysLast, WantsNext, counts_of, retried_job}
use Rattle.mn_proxy.proofs.Advancing.{AdvanceTells, AnswerTold, IsNoScan, NextTold, OpenAs, PeeksAs}
use Rattle.mn_proxy.proofs.Advancing.{advance_tells, open_kept}
use Rattle.mn_proxy.proofs.Answered.{answered_own, may_answer}
use Rattle.mn_proxy.proofs.CatalogsShow.{retried_scan_as}
use Rattle.mn_proxy.proofs.Issues.{closed_are_given_up, closed_are_settled}
use Rattle.mn_proxy.proofs.Last.{kept_walks}
use Rattle.mn_proxy.proofs.Shown.{AnswerShown, not_later}
use Rattle.mn_proxy.proofs.Tries.{fault_on, last_try}
use Rattle.mn_proxy.proofs.Retrying.{key_again, key_is, stands_again}
use Rattle.mn_work.proofs.Works.{plan_asked, retried_after_wants}

-- What is kept

-- what is so of a proxy stays as long as the catalog does
pub own_known : (es : List Entry) (p : ProxyState) (known : Known) → KeepsKnown p.known known
    → IsOwn es p → IsOwn es (with_known p known)
own_known es p known keeps own = record {
  issues = subst (λ (n : ℕ). AreIssues p.client p.run n (issues_of es)) (sym keeps.0) own.issues;
  issued = own.issued;
  fresh = own.fresh;
  catalog = subst (λ (c : Option (List CatEntry)). MatchOption c ⊤ (IsKept es)) (sym keeps.1) own.catalog;
  recovers = own.recovers;
}

-- and what was shown last is so, where some of the cached pages are used, and one may leave
pub own_last : (es : List Entry) (p : ProxyState) (known : Known) (later : Bool) (next : Option Next)
    → KeepsKnown p.known known → Walks later next p.known.cache known.cache → IsOwnLast es p
    → IsOwnLast es (with_known p known)
own_last es p known later next keeps walks (own, last) =
    (own_known es p known keeps own, kept_walks es p.known known later next keeps.1 walks last)

-- a kept catalog is one that the list shows, and has shown last
kept_shown : (es : List Entry) (o : Option (List CatEntry)) (P : List CatEntry → Type 0)
    → MatchOption o ⊤ (IsKept es) → MatchOption o ⊤ (CatalogIsLast es) → MatchOption o ⊥ P
    → (entries : List CatEntry) × IsKept es entries × P entries × CatalogIsLast es entries
kept_shown es None P kept last told = absurd told
kept_shown es (Some entries) P kept last told = (entries, kept, told, last)

-- Counts

-- the count of the next node is the one that the job asks for
pub counts_place : (op : Op) (job : Job) (node : NodeNo) (place : Place) → AsksCountFor op job
    → node.0 ≡ length (counts_of job) → place ≡ count_place node → IsPlaceFor job by.Count place
counts_place op job node place asks next is = by_op op job asks next
  where
    there : (counts : List ℕ) → node.0 ≡ length counts → place ≡ count_place (record { 0 = length counts })
    there counts e = is ∙ ap (λ (n : ℕ). count_place (record { 0 = n })) e

    by_op : (o : Op) (j : Job) → AsksCountFor o j → node.0 ≡ length (counts_of j) → IsPlaceFor j by.Count place
    by_op (Tx name steps) (at.Transaction a) asks e = there a.counts.items e
    by_op o (at.Child c) asks e = there c.counts.items e
    by_op o j asks e = absurd asks

-- Causes and answers

-- a cause that is told is the one that was met
cause_told : (nodes failed : ℕ) (seens : List Seen) (op : Op) (IsKey IsMore : List ℕ → Type 0)
    (cause : Option Busy) (busy : Busy) → ((key : List ℕ) → IsKey key → IsMore key)
    → IfLater failed (cause ≡ Some busy) → FailsBy nodes failed seens op IsKey cause
    → IfLater failed (MeetsFault nodes seens op IsMore busy)
cause_told nodes zero seens op IsKey IsMore cause busy keys is fails = tt
cause_told nodes (suc n) seens op IsKey IsMore cause busy keys is fails =
    fault_on seens seens op (λ s has. has) nodes IsKey IsMore busy keys
    (subst (λ (c : Option Busy). MatchOption c ⊤ (λ b. IfLater (suc n) (MeetsFault nodes seens op IsKey b))) is fails)

-- the tries of an operation that is no scan are all of its entries
whole_is : (op : Op) → IsNoScan op → (taken : List Entry) → IsWhole op taken → taken ≡ []
whole_is (Tx name steps) scanless taken whole = whole
whole_is (Snapshot name child) scanless taken whole = whole
whole_is (Branch name child) scanless taken whole = whole
whole_is (Scan name low high limit) scanless taken whole = absurd scanless
whole_is Versions scanless taken whole = whole

-- an answer of a later try is shown by that try, the last one
last_shown : (es : List Entry) (nodes failed : ℕ) (op : Op) (from : Origin) (try : List Entry)
    → es ≡ since_begin es ++ from.older
    → (t : IsTrying nodes op from failed (since_begin es) try) → HasAsked failed op from try
    → AreOverNodes nodes failed (since_begin es) → IsNoScan op → AreClosed (since_begin es)
    → (answer : Answer) → AnswerShown nodes failed (seen_in try) op answer
    → ShowsAnswer es (since_begin es) op answer × IsSettled (since_begin es) answer
last_shown es nodes zero op from try all t asked over scanless closed (answers.Full need free) shown =
    absurd (not_later shown.0)
last_shown es nodes zero op from try all t asked over scanless closed (answers.Worn node start) shown =
    absurd (not_later shown.0)
last_shown es nodes (suc n) op from try all t asked over scanless closed (answers.Full need free) shown =
    let last = last_try nodes op from n es (since_begin es) try all t asked (whole_is op scanless) in (
      (
        closed_are_given_up (since_begin es) closed,
        try,
        subst (λ (k : ℕ). LastTry k op es (since_begin es) try) (sym over) last,
        shown.1,
        shown.2,
        subst (λ (k : ℕ). FreeSlots k (seen_in try) free) (sym over) shown.3,
      ),
      closed_are_settled (since_begin es) closed,
    )
last_shown es nodes (suc n) op from try all t asked over scanless closed (answers.Worn node start) shown =
    let last = last_try nodes op from n es (since_begin es) try all t asked (whole_is op scanless) in (
      (
        closed_are_given_up (since_begin es) closed,
        try,
        shown.1.0,
        subst (λ (k : ℕ). LastTry k op es (since_begin es) try) (sym over) last,
        shown.1.1,
        shown.1.2,
        shown.1.3,
        shown.1.4,
      ),
      closed_are_settled (since_begin es) closed,
    )
last_shown es nodes failed op from try all t asked over scanless closed answer shown = absurd shown

-- What a try wants

module _ (es : List Entry) (p : ProxyState) (known : Known) (before after : Work) (next : Next)
    (keeps : KeepsKnown p.known known) (is : IsJobOf p.known before) (op : KeepsOp before after)
    (wants : WantsNext known before after next)
    (walks : Walks (is_later before.failed) (Some next) p.known.cache known.cache)
    (goes : StaysLast p.known.cache before.job after.job) (causes : TriesShowCauses)
    (worns : WornPagesShow) (left : FreeSlotsAreLeft) (own : IsOwn es p)
    (rest : IsAtRest es p.known before) where
  now : List Entry
  now = since_begin es

  stays : OpenAs es known before rest.0.try
  stays =
      open_kept es p.known known before keeps.0 keeps.1
      (kept_walks es p.known known (is_later before.failed) (Some next) keeps.1 walks rest.0.last.0) rest.0

  tells : AdvanceTells es known after before stays.is.began.from stays.is.try next
  tells = advance_tells es p.known known before after next keeps is op wants causes worns left (goes es rest.0.last.0.0 rest.0.last.1) (own_known es p known keeps own).catalog stays.is

  -- where its try goes on, the client is at rest
  rest_of : OpenAs es known after stays.is.try → IsAtRest es known after
  rest_of open_still = (open_still.is, rest.1)

  told_of : (n : Next)
      → MatchOption known.catalog ⊥
      (λ entries. NextTold known.nodes after.failed (since_begin es) (seen_in stays.is.try) after.op entries after.job n
      × PeeksAs after.failed after.job n)
      → (entries : List CatEntry) × IsKept es entries
      × (NextTold known.nodes after.failed (since_begin es) (seen_in stays.is.try) after.op entries after.job n
      × PeeksAs after.failed after.job n)
      × CatalogIsLast es entries
  told_of n told =
      kept_shown es known.catalog
      (λ entries. NextTold known.nodes after.failed (since_begin es) (seen_in stays.is.try) after.op entries after.job n
      × PeeksAs after.failed after.job n) (own_known es p known keeps own).catalog stays.is.last.0.1 told

  pub asks_catalog : next ≡ Next.Catalog → IsAtRest es known after
  asks_catalog e =
      rest_of (subst (λ (n : Next). AdvanceTells es known after before stays.is.began.from stays.is.try n) e tells).open_still

  pub asks_page : (addr : Addr) (peek : Bool) → next ≡ Next.Page addr peek
      → IsAtRest es known after × (peek ≡ true → (after.failed ≡ 0) × MayPeekFor after.job (by.Page addr))
  asks_page addr peek e =
      let t = subst (λ (n : Next). AdvanceTells es known after before stays.is.began.from stays.is.try n) e tells in
      (rest_of t.open_still, (told_of (Next.Page addr peek) t.told).2.1)

  pub asks_count : (node : NodeNo) (peek : Bool) → next ≡ Next.Count node peek
      → IsAtRest es known after × (peek ≡ true → (after.failed ≡ 0) × MayPeekFor after.job by.Count)
  asks_count node peek e =
      let t = subst (λ (n : Next). AdvanceTells es known after before stays.is.began.from stays.is.try n) e tells in
      (rest_of t.open_still, (told_of (Next.Count node peek) t.told).2.1)

  pub makes_plan : (mini : Mini) (reply : Reply) → next ≡ Next.Plan mini reply
      → MayIssue es known after (by.Plan reply) mini
  unfolding rest_of
  makes_plan mini reply e =
      let t = subst (λ (n : Next). AdvanceTells es known after before stays.is.began.from stays.is.try n) e tells in
      let told = told_of (Next.Plan mini reply) t.told in
      let begun = plan_asked p.known known before after keeps is op mini reply
      (subst (λ (n : Next). WantsNext known before after n) e wants) in
      record {
        rest = rest_of t.open_still;
        made = (told.2.0.3, (told.0, told.1.0, told.2.0.0 es told.3 t.open_still.is.last.1), begun.1);
        shown = subst (λ (l : List Entry). IfLater after.failed (AreComparesShown (seen_in l) mini)) (sym t.open_still.try_is) told.2.0.1;
      }

  pub has_failed : (cause : Option Busy) → next ≡ Next.Fails cause → HasFailed es known after cause
  has_failed cause e =
      let t = subst (λ (n : Next). AdvanceTells es known after before stays.is.began.from stays.is.try n) e tells in
      let told = told_of (Next.Fails cause) t.told in
      let same = retried_after_wants p.known known before after cause keeps is (subst (λ (n : Next). WantsNext known before after n) e wants) in
      record {
        of = t.open_still.is.of;
        closed = rest.1;
        over = subst (λ (n : ℕ). AreOverNodes known.nodes n (since_begin es)) (sym op.1) t.asked.1;
        began = record {
          from = stays.is.began.from;
          all = stays.is.began.all;
          place = subst (λ (o : Op). StandsAt o stays.is.began.from.taken (retried_job after.job)) (sym op.0) (place same.1);
        };
        failed_by = λ busy told_cause.
            subst (λ (n : ℕ). FailedNow known.nodes n after.op stays.is.began.from (since_begin es) busy) (sym op.1)
            (subst (λ (o : Op). FailedNow known.nodes before.failed o stays.is.began.from (since_begin es) busy) (sym op.0)
            (inr (stays.is.try, stays.is.trying, t.asked.0, by_cause (place same.1) busy told_cause told.2.0)));
        scan = retried_scan_as p.known (since_begin es) before after is op.0 same.0 same.1 rest.0.shows.0;
      }
    where
      -- the next try stands where this one did
      place : retried_job after.job ≡ retried_job before.job
          → StandsAt before.op stays.is.began.from.taken (retried_job after.job)
      place same =
          subst (StandsAt before.op stays.is.began.from.taken) (sym same) (stands_again before.op stays.is.began.from.taken before.job stays.is.began.place)

      by_cause : StandsAt before.op stays.is.began.from.taken (retried_job after.job) → (busy : Busy)
          → IfLater after.failed (cause ≡ Some busy)
          → FailsBy known.nodes after.failed (seen_in stays.is.try) after.op (IsKeyAt after.op after.job) cause
          → IfLater before.failed (MeetsFault known.nodes (seen_in stays.is.try) before.op (IsKeyOf before.op stays.is.began.from.taken) busy)
      by_cause stands busy cause_is fails =
          cause_told known.nodes before.failed (seen_in stays.is.try) before.op (IsKeyAt before.op after.job) (IsKeyOf before.op stays.is.began.from.taken) cause busy
          (λ key is. key_is before.op stays.is.began.from.taken (retried_job after.job) key stands (key_again before.op after.job key is))
          (subst (λ (n : ℕ). IfLater n (cause ≡ Some busy)) op.1 cause_is)
          (subst (λ (n : ℕ). FailsBy known.nodes n (seen_in stays.is.try) before.op (IsKeyAt before.op after.job) cause) op.1
          (subst (λ (o : Op). FailsBy known.nodes after.failed (seen_in stays.is.try) o (IsKeyAt o after.job) cause) op.0 fails))

  pub answers_so : (answer : Answer) → next ≡ Next.Answers answer
      → MayStep es (with_known p known) (steps.Done answer)
  answers_so answer e =
      let t = subst (λ (n : Next). AdvanceTells es known after before stays.is.began.from stays.is.try n) e tells in
      by t.asked (told_of (Next.Answers answer) t.told).2.0
    where
      by : HasAsked before.failed before.op stays.is.began.from stays.is.try
          × AreOverNodes known.nodes before.failed (since_begin es)
          → AnswerTold known.nodes after.failed (since_begin es) (seen_in stays.is.try) after.op answer
          → MayStep es (with_known p known) (steps.Done answer)
      by asked (inl (shown, scanless)) =
          let it = last_shown es known.nodes before.failed before.op stays.is.began.from stays.is.try stays.is.began.all stays.is.trying asked.0 asked.1
          (subst IsNoScan op.0 scanless) rest.1 answer
          (subst (λ (n : ℕ). AnswerShown known.nodes n (seen_in stays.is.try) before.op answer) op.1
          (subst (λ (o : Op). AnswerShown known.nodes after.failed (seen_in stays.is.try) o answer) op.0 shown)) in
          may_answer es (with_known p known) before.op answer rest.0.of it.1 it.0
      by asked (inr (reply, is, shows)) =
          subst (λ (a : Answer). MayStep es (with_known p known) (steps.Done a)) (sym is)
          (may_answer es (with_known p known) before.op (answers.Replied reply) rest.0.of (closed_are_settled (since_begin es) rest.1)
          (inr (inr (closed_are_given_up (since_begin es) rest.1, subst (λ (o : Op). ScanShows (seen_in (since_begin es)) o reply) op.0 shows))))

-- The proxy itself

-- it keeps what it wanted by
pub own_self : (es : List Entry) (p q : ProxyState) → q ≡ with_known p q.known
    → KeepsKnown p.known q.known → IsOwn es p → IsOwn es q
own_self es p q same keeps own = subst (IsOwn es) (sym same) (own_known es p q.known keeps own)

pub own_self_last : (es : List Entry) (p q : ProxyState) (later : Bool) (next : Option Next)
    → q ≡ with_known p q.known → KeepsKnown p.known q.known → Walks later next p.known.cache q.known.cache
    → IsOwnLast es p → IsOwnLast es q
own_self_last es p q later next same keeps walks own =
    subst (IsOwnLast es) (sym same) (own_last es p q.known later next keeps walks own)

pub kept_self : {A : Type 0} (p q n : ProxyState) → q ≡ with_known p q.known
    → KeepsKnown p.known q.known → KeepsSelf q n × A → KeepsSelf p n × A
kept_self p q n same keeps k = (
  (
    k.0.0 ∙ ap (λ (s : ProxyState). s.client) same,
    k.0.1 ∙ ap (λ (s : ProxyState). s.run) same,
    k.0.2 ∙ keeps.0,
  ),
  k.1,
)

-- with an answer it is idle, and keeps what it wanted by
pub answers_self : (es : List Entry) (p q : ProxyState) (answer : Answer) → q ≡ with_known p q.known
    → IsOwnLast es q → MayStep es (with_known p q.known) (steps.Done answer)
    → TurnAgrees es q (turns.Ends answer)
answers_self es p q answer same own may = (
  subst (λ (s : ProxyState). MayStep es s (steps.Done answer)) (sym same) may,
  λ new enters. answered_own es new q answer own enters,
)

pub kept_idle : (p q : ProxyState) → q ≡ with_known p q.known → KeepsKnown p.known q.known
    → p.work ≡ None → KeepsSelf p q × (q.work ≡ None)
kept_idle p q same keeps idle =
    kept_self p q q same keeps ((refl, refl, refl), ap (λ (s : ProxyState). s.work) same ∙ idle)

-- How an operation is tried again, and given up, by its client's own list.
use Rattle.std.proofs.Common.{◌≡◌, inl, inr, ℕ, zero, suc, ◌+◌, ◌<◌, ◌≤◌, Bool, false, List, [], ◌++◌}
use Rattle.std.proofs.Common.{Option, Some, None, refl, subst, sym, arith}
use Rattle.std.specs.Prelude.{MatchOption, ⊤}
use Rattle.mn_base.specs.declared.answer.Answer.TheVariants as answers
use Rattle.mn_base.specs.declared.answer.Busy.{Busy}
use Rattle.mn_base.specs.declared.answer.Busy.TheVariants.{Path}
use Rattle.mn_base.specs.declared.op.Op.{Op}
use Rattle.mn_base.specs.declared.op.Op.TheVariants.{Tx, Snapshot, Branch, Scan, Versions}
use Rattle.mn_page.specs.declared.entry.CatEntry.{CatEntry}
use Rattle.mn_runs.specs.declared.entry.Entry.{Entry}
use Rattle.mn_law.specs.Answers.{FailedTries, IsKeyOf, ShowsAnswer, nodes_of}
use Rattle.mn_runs.specs.Calls.{issues_of, since_begin}
use Rattle.mn_work.specs.declared.known.Known.{Known}
use Rattle.mn_proxy.specs.Turn as turns
use Rattle.mn_work.specs.declared.work.Job.{Job}
use Rattle.mn_work.specs.declared.work.Job.TheVariants as at
use Rattle.mn_work.specs.declared.work.Work.{Work}
use Rattle.mn_proxy.specs.Agrees.{AreOverNodes, IsAtRest, IsKept, IsOwn, IsOwnLast, KeptIsLast}
use Rattle.mn_work.specs.Last.{CatalogIsLast}
use Rattle.mn_work.specs.Children.{IsUnderWay as ChildIsUnderWay}
use Rattle.mn_proxy.specs.Jobs.{BeganFrom, IsKeyAt, ScanShown, StandsAt}
use Rattle.mn_proxy.specs.State.{ProxyState}
use Rattle.mn_proxy.specs.Tries.{HasNoLeaf, HasSentNone, IsTrying, Origin, max_tries}
use Rattle.mn_proxy.specs.Turns.{FailedNow, HasFailed, MayRetry, TurnAgrees}
use Rattle.mn_work.specs.Walks.{IfLater, is_later}
use Rattle.mn_work.specs.Works.{IsJobIn, IsStartable, JobIsLast, catalog_addr, retried, retried_job}
use Rattle.mn_proxy.proofs.Answered.{answered_own, may_answer}
use Rattle.mn_proxy.proofs.Issues.{closed_are_given_up, closed_are_settled}
use Rattle.mn_proxy.proofs.Shown.{later_is}
use Rattle.mn_proxy.proofs.ScansShow.{scan_shown_again}
use Rattle.mn_proxy.proofs.Tries.{gives_up_fault, gives_up_refused, retries_fault, retries_refused}

-- Tries

-- no catalog is kept any more
abbrev pub forgotten : Known → Known
forgotten known = record { nodes = known.nodes; catalog = None; cache = known.cache }

-- a job that may begin anew is one of its operation
pub startable_job : (known : Known) (op : Op) (job : Job) → known.catalog ≡ None
    → IsStartable op (retried_job job) → IsJobIn known op (retried_job job)
startable_job known op at.Start none start = tt
startable_job known op (at.Get d) none start = tt
startable_job known op (at.Transaction a) none start = tt
startable_job known op (at.Child c) none start = tt
startable_job known (Tx name steps) (at.Scan s) none start = absurd start
startable_job known (Snapshot name child) (at.Scan s) none start = absurd start
startable_job known (Branch name child) (at.Scan s) none start = absurd start
startable_job known (Scan name low high limit) (at.Scan s) none start = (tt, λ same. start)
startable_job known Versions (at.Scan s) none start = absurd start

-- it goes by nothing yet
again_last : (es : List Entry) (job : Job) → JobIsLast es (retried_job job)
again_last es at.Start = tt
again_last es (at.Get d) = tt
again_last es (at.Transaction a) = tt
again_last es (at.Child c) = tt
again_last es (at.Scan s) = tt

-- the next try begins, and nothing is on its way
pub retried_rests : (es : List Entry) (known : Known) (w : Work)
    → IsStartable w.op (retried_job w.job) → KeptIsLast es known → MayRetry es known w
    → IsAtRest es (forgotten known) (retried w)
retried_rests es known w start last may = (
  record {
    of = may.of;
    began = may.began;
    try = may.try;
    trying = may.trying;
    leafless = may.leafless;
    asked = may.sent;
    shows = (may.scan, start);
    last = ((last.0, tt), again_last es w.job);
  },
  may.closed,
)

-- what is so whatever is under way
pub own_forgotten : (es : List Entry) (p : ProxyState) → IsOwn es p
    → IsOwn es (record p { known = forgotten p.known })
own_forgotten es p own = record {
  issues = own.issues;
  issued = own.issued;
  fresh = own.fresh;
  catalog = tt;
  recovers = own.recovers;
}

-- so it is by the work that was made of it
pub retried_as : (es : List Entry) (p q : ProxyState) (w after : Work) → p ≡ q
    → after ≡ retried w → IsStartable w.op (retried_job w.job) → KeptIsLast es q.known → MayRetry es q.known w
    → IsAtRest es (forgotten p.known) after
retried_as es p q w after same is start last may =
    subst (IsAtRest es (forgotten p.known)) (sym is)
    (retried_rests es p.known w start (subst (λ (s : ProxyState). KeptIsLast es s.known) (sym same) last) (subst (λ (s : ProxyState). MayRetry es s.known w) (sym same) may))

pub own_forgotten_as : (es : List Entry) (p q : ProxyState) → p ≡ q → IsOwnLast es q
    → IsOwnLast es (record p { known = forgotten p.known })
own_forgotten_as es p q same own =
    let by : IsOwnLast es p = subst (IsOwnLast es) (sym same) own in (own_forgotten es p by.0, (by.1.0, tt))

-- where this is none
abbrev pub with_catalog : Known → Option (List CatEntry) → Known
with_catalog known catalog = record { nodes = known.nodes; catalog = catalog; cache = known.cache }

pub own_forgotten_by : (es : List Entry) (p q : ProxyState) (catalog : Option (List CatEntry)) → catalog ≡ None → p ≡ q
    → IsOwnLast es q → IsOwnLast es (record p { known = with_catalog p.known catalog })
own_forgotten_by es p q catalog none same own =
    subst (λ (o : Option (List CatEntry)). IsOwnLast es (record p { known = with_catalog p.known o })) (sym none)
    (own_forgotten_as es p q same own)

pub retried_by : (es : List Entry) (p q : ProxyState) (catalog : Option (List CatEntry)) → catalog ≡ None
    → (w after : Work) → p ≡ q → after ≡ retried w → IsStartable w.op (retried_job w.job) → KeptIsLast es q.known
    → MayRetry es q.known w → IsAtRest es (with_catalog p.known catalog) after
retried_by es p q catalog none w after same is start last may =
    subst (λ (o : Option (List CatEntry)). IsAtRest es (with_catalog p.known o) after) (sym none)
    (retried_as es p q w after same is start last may)

-- with the catalog that was kept it is so again
pub own_restored : (es : List Entry) (p q : ProxyState) (catalog : Option (List CatEntry)) → catalog ≡ p.known.catalog
    → IsOwnLast es p → IsOwnLast es q → IsOwnLast es (record q { known = with_catalog q.known catalog })
own_restored es p q catalog is own left = (
  record {
    issues = left.0.issues;
    issued = left.0.issued;
    fresh = left.0.fresh;
    catalog = subst (λ (o : Option (List CatEntry)). MatchOption o ⊤ (IsKept es)) (sym is) own.0.catalog;
    recovers = left.0.recovers;
  },
  (left.1.0, subst (λ (o : Option (List CatEntry)). MatchOption o ⊤ (CatalogIsLast es)) (sym is) own.1.1),
)

-- Tries that failed

next_failed : (n : ℕ) → suc n ≡ n + 1
next_failed n = omega arith

-- so the next one stands
pub retries_on : (es : List Entry) (known : Known) (w : Work) (cause : Option Busy) (busy : Busy)
    → HasFailed es known w cause → IfLater w.failed (cause ≡ Some busy) → MayRetry es known w
retries_on es known w cause busy failed told = by (failed.failed_by busy told)
  where
    with_try : (try : List Entry)
        → IsTrying known.nodes w.op failed.began.from (suc w.failed) (since_begin es) try × HasNoLeaf w.op try
        × HasSentNone try
        → MayRetry es known w
    with_try try next = record {
      of = failed.of;
      closed = failed.closed;
      began = failed.began;
      try = try;
      trying = subst (λ (n : ℕ). IsTrying known.nodes w.op failed.began.from n (since_begin es) try) (next_failed w.failed) next.0;
      leafless = next.1;
      sent = next.2;
      scan = failed.scan;
    }

    by : FailedNow known.nodes w.failed w.op failed.began.from (since_begin es) busy → MayRetry es known w
    by (inl refused) =
        with_try refused.rest (retries_refused known.nodes w.op failed.began.from w.failed (since_begin es) busy refused)
    by (inr fault) =
        with_try [] (retries_fault known.nodes w.op failed.began.from w.failed (since_begin es) fault.0 busy fault.1 fault.2 fault.3)

not_later : (n : ℕ) → is_later (suc n) ≡ false → ⊥
not_later n first = let e = later_is n in absurd cc

of_first : (failed : ℕ) (told : Type 0) → is_later failed ≡ false → IfLater failed told
of_first zero told first = tt
of_first (suc n) told first = absurd (not_later n first)

-- a first one needs no cause
pub retries_first : (es : List Entry) (known : Known) (w : Work) (cause : Option Busy)
    → is_later w.failed ≡ false → HasFailed es known w cause → MayRetry es known w
retries_first es known w cause first failed =
    retries_on es known w cause (Path catalog_addr 0) failed (of_first w.failed (cause ≡ Some (Path catalog_addr 0)) first)

of_any : (failed : ℕ) (told : Type 0) → told → IfLater failed told
of_any zero told is = tt
of_any (suc n) told is = is

-- a later one shows its own
pub retries_by : (es : List Entry) (known : Known) (w : Work) (busy : Busy)
    → HasFailed es known w (Some busy) → MayRetry es known w
retries_by es known w busy failed =
    retries_on es known w (Some busy) busy failed (of_any w.failed (Some busy ≡ Some busy) refl)

-- the eighth gives up
gave_up : (nodes : ℕ) (op : Op) (from : Origin) (es now : List Entry) (busy : Busy)
    → es ≡ now ++ from.older → AreOverNodes nodes 7 now → FailedNow nodes 7 op from now busy
    → FailedTries (nodes_of (issues_of now)) op es now busy
gave_up nodes op from es now busy all over failed =
    subst (λ (n : ℕ). FailedTries n op es now busy) (sym over) (by failed)
  where
    by : FailedNow nodes 7 op from now busy → FailedTries nodes op es now busy
    by (inl refused) = gives_up_refused nodes op from es now busy all refused
    by (inr fault) = gives_up_fault nodes op from es now fault.0 busy all fault.1 fault.2 fault.3

last_failed : (n : ℕ) → n < max_tries → max_tries ≤ n + 1 → n ≡ 7
last_failed n few all = omega arith

pub gives_up : (es : List Entry) (known : Known) (w : Work) (busy : Busy) → w.failed < max_tries
    → max_tries ≤ w.failed + 1 → HasFailed es known w (Some busy)
    → ShowsAnswer es (since_begin es) w.op (answers.Busy busy)
gives_up es known w busy few all failed = (
  closed_are_given_up (since_begin es) failed.closed,
  gave_up known.nodes w.op failed.began.from es (since_begin es) busy failed.began.all
      (subst (λ (n : ℕ). AreOverNodes known.nodes n (since_begin es)) seven failed.over)
      (subst (λ (n : ℕ). FailedNow known.nodes n w.op failed.began.from (since_begin es) busy) seven
      (failed.failed_by busy (of_any w.failed (Some busy ≡ Some busy) refl))),
)
  where
    seven : w.failed ≡ 7
    seven = last_failed w.failed few all

-- its operation is answered so
pub gives_up_turn : (es : List Entry) (p : ProxyState) (w : Work) (busy : Busy)
    → w.failed < max_tries → max_tries ≤ w.failed + 1 → IsOwnLast es p
    → HasFailed es p.known w (Some busy) → TurnAgrees es p (turns.Ends (answers.Busy busy))
gives_up_turn es p w busy few all own failed = (
  may_answer es p w.op (answers.Busy busy) failed.of (closed_are_settled (since_begin es) failed.closed)
      (gives_up es p.known w busy few all failed),
  λ new enters. answered_own es new p (answers.Busy busy) own enters,
)

-- Where the tries began

-- a job that begins anew stands where it stood
pub stands_again : (op : Op) (taken : List Entry) (job : Job) → StandsAt op taken job
    → StandsAt op taken (retried_job job)
stands_again op taken at.Start stands = stands
stands_again op taken (at.Get d) stands = stands
stands_again op taken (at.Transaction a) stands = stands
stands_again op taken (at.Child c) stands = stands
stands_again op taken (at.Scan s) stands = stands

abbrev pub began_again : (es : List Entry) (op : Op) (job : Job) → BeganFrom es op job
    → BeganFrom es op (retried_job job)
began_again es op job b = record {
  from = b.from;
  all = b.all;
  place = stands_again op b.from.taken job b.place;
}

-- a key of the job is one of the operation
pub key_is : (op : Op) (taken : List Entry) (job : Job) (key : List ℕ) → StandsAt op taken job
    → IsKeyAt op job key → IsKeyOf op taken key
key_is op taken (at.Scan s) key stands is = subst (IsKeyOf op taken) (sym is.1) (stands is.0)
key_is op taken at.Start key stands is = subst (λ (l : List Entry). IsKeyOf op l key) (sym stands) is
key_is op taken (at.Get d) key stands is = subst (λ (l : List Entry). IsKeyOf op l key) (sym stands) is
key_is op taken (at.Transaction a) key stands is = subst (λ (l : List Entry). IsKeyOf op l key) (sym stands) is
key_is op taken (at.Child c) key stands is = subst (λ (l : List Entry). IsKeyOf op l key) (sym stands) is

-- also of one that begins anew
pub key_again : (op : Op) (job : Job) (key : List ℕ) → IsKeyAt op job key
    → IsKeyAt op (retried_job job) key
key_again op at.Start key is = is
key_again op (at.Get d) key is = is
key_again op (at.Transaction a) key is = is
key_again op (at.Child c) key is = is
key_again op (at.Scan s) key is = is

-- Scans

-- a scan that is tried again is shown as it was
pub shown_again : (known : Known) (now : List Entry) (spoiled : Bool) (op : Op) (job : Job)
    → IsJobIn known op job → ScanShown now spoiled op job
    → ScanShown now spoiled op (retried_job job)
shown_again known now spoiled op at.Start of shown = shown
shown_again known now spoiled op (at.Scan s) of shown = scan_shown_again now spoiled op s shown
shown_again known now spoiled (Tx name steps) (at.Get d) of shown = tt
shown_again known now spoiled (Tx name steps) (at.Transaction a) of shown = tt
shown_again known now spoiled (Tx name steps) (at.Child c) of shown = tt
shown_again known now spoiled (Snapshot name child) (at.Get d) of shown = tt
shown_again known now spoiled (Snapshot name child) (at.Transaction a) of shown = tt
shown_again known now spoiled (Snapshot name child) (at.Child c) of shown = tt
shown_again known now spoiled (Branch name child) (at.Get d) of shown = tt
shown_again known now spoiled (Branch name child) (at.Transaction a) of shown = tt
shown_again known now spoiled (Branch name child) (at.Child c) of shown = tt
shown_again known now spoiled (Scan name low high limit) (at.Get d) of shown = absurd of
shown_again known now spoiled (Scan name low high limit) (at.Transaction a) of shown = absurd of
shown_again known now spoiled (Scan name low high limit) (at.Child c) of shown =
    absurd (no_child known.catalog of)
  where
    no_child : (catalog : Option (List CatEntry))
        → MatchOption catalog ⊥ (λ entries. ChildIsUnderWay known.nodes entries (Scan name low high limit) c)
        → ⊥
    no_child None of = of
    no_child (Some entries) of = of.makes
shown_again known now spoiled Versions (at.Get d) of shown = tt
shown_again known now spoiled Versions (at.Transaction a) of shown = tt
shown_again known now spoiled Versions (at.Child c) of shown = tt

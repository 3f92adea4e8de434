-- An operation whose try goes on, with one more entry in its client's own list.
use Rattle.std.proofs.Common.{◌≡◌, inl, inr, ℕ, zero, suc, Bool, true, not, ◌+◌, List, [], ◌∷◌, ◌++◌, length}
use Rattle.std.proofs.Common.{Option, Some, None, refl, subst, sym, ap, ◌∙◌, arith}
use Rattle.std.specs.Prelude.{MatchOption, ⊤}
use Rattle.std.specs.List.{AllByRecursion, list_all, list_any}
use Rattle.std.proofs.lemmas.List.Folds.{list_any-append}
use Rattle.mn_base.specs.declared.op.Op.{Op}
use Rattle.mn_base.specs.declared.op.Op.TheVariants.{Tx, Snapshot, Branch, Scan, Versions}
use Rattle.mn_page.specs.declared.entry.CatEntry.{CatEntry}
use Rattle.mn_runs.specs.declared.entry.Entry.{Entry}
use Rattle.mn_law.specs.Answers.{MayBeKept, asks_for_catalog, is_any_decide, is_catalog_call, is_refusal}
use Rattle.mn_base.specs.declared.ids.Tid.{Tid}
use Rattle.mn_runs.specs.declared.entry.What.TheVariants.{Issue}
use Rattle.mn_runs.specs.Calls.{call_in, calls_of, issue_in, issues_of, since_begin}
use Rattle.mn_runs.specs.Clients.{recovers_nothing}
use Rattle.mn_law.specs.Shown.{IsCatalogRead}
use Rattle.mn_runs.specs.Seen.{Seen, seen_at, seen_in}
use Rattle.mn_law.proofs.Sees.{seen_in-cons}
use Rattle.mn_proxy.specs.declared.errand.Errand.{Errand}
use Rattle.mn_work.specs.declared.known.Known.{Known}
use Rattle.mn_work.specs.declared.work.Job.{Job}
use Rattle.mn_work.specs.declared.work.Job.TheVariants as at
use Rattle.mn_work.specs.declared.work.Work.{Work}
use Rattle.mn_work.specs.Works.{IsToAsk}
use Rattle.mn_mini.specs.Mini.{Mini}
use Rattle.mn_proxy.proofs.Last.{job_same, kept_still_last, shown_at, shown_still}
use Rattle.mn_proxy.specs.Agrees.{AreOverNodes, IsKept, IsOpen, IsOwn, IsUnderWay, JobAsked}
use Rattle.mn_proxy.specs.Issues.{AreFresh, tid_of}
use Rattle.mn_proxy.specs.State.{ProxyState}
use Rattle.mn_proxy.specs.Jobs.{BeganFrom, ReadsShowBy, ScanShown}
use Rattle.mn_proxy.specs.Tries.{HasAsked, IsTrying, Origin}
use Rattle.mn_proxy.specs.declared.proxy.TheConstants.{PEEKS}
use Rattle.mn_proxy.proofs.Issues.{GoesOn, catalog_stays, fresh_issued, issues_kept, issues_on, no_issue}
use Rattle.mn_proxy.proofs.Issues.{one_issue, own_recovers_none, since_on, under_way_on}
use Rattle.mn_proxy.proofs.ScansShow.{leafless_on, scan_on, silent_no_leaf}
use Rattle.mn_proxy.proofs.Tries.{NoPeek, decides_on, or_right, spares_on, trying_on}

-- the entry reads nothing and gives nothing, refuses nothing, asks for no catalog, and peeks only
-- where it may
pub record IsQuiet (failed : ℕ) (e : Entry) : Type 0 where
  pub goes : GoesOn e.what
  pub spares : list_all (λ c. not (is_catalog_call c)) (call_in e.node e.what) ≡ true
  pub reads : seen_at e ≡ []
  pub gives : shown_at e ≡ []
  pub good : list_all (λ c. not (is_refusal c.reply)) (call_in e.node e.what) ≡ true
  pub peeks : NoPeek failed e

-- the same operation is under way
pub under_way_still : (e : Entry) (es : List Entry) (op : Op) → GoesOn e.what → IsUnderWay es op
    → IsUnderWay (e ∷ es) op
under_way_still e es op goes (number, of) = (number, under_way_on e es goes ∙ of)

-- Catalogs that were asked for

pub asks_on : (e : Entry) (try : List Entry) → asks_for_catalog try ≡ true
    → asks_for_catalog (e ∷ try) ≡ true
asks_on e try asked =
    list_any-append is_catalog_call (call_in e.node e.what) (calls_of try)
    ∙ or_right (list_any is_catalog_call (call_in e.node e.what)) (list_any is_catalog_call (calls_of try)) asked

kept_on : (op : Op) (older taken try : List Entry) (e : Entry) → MayBeKept older op taken try
    → MayBeKept older op taken (e ∷ try)
kept_on (Tx name steps) older taken try e (inl asked) = inl (asks_on e try asked)
kept_on (Tx name steps) older taken try e (inr shown) = inr shown
kept_on (Snapshot name child) older taken try e kept = asks_on e try kept
kept_on (Branch name child) older taken try e kept = asks_on e try kept
kept_on (Scan name low high limit) older [] try e kept = asks_on e try kept
kept_on (Scan name low high limit) older (x ∷ xs) try e kept = tt
kept_on Versions older taken try e kept = asks_on e try kept

pub asked_on : (failed : ℕ) (op : Op) (from : Origin) (try : List Entry) (e : Entry)
    → HasAsked failed op from try → HasAsked failed op from (e ∷ try)
asked_on zero op from try e asked = kept_on op from.older from.taken try e asked
asked_on (suc n) op from try e asked = asks_on e try asked

-- the entry sends decisions alone, unless the job has begun
abbrev pub SendsNone : Option (List CatEntry) → Job → Entry → Type 0
SendsNone catalog job e =
    IsToAsk catalog job → list_all (λ c. is_any_decide c.request) (call_in e.node e.what) ≡ true

pub job_asked_on : (nodes failed : ℕ) (op : Op) (now later : List Entry) (from : Origin)
    (try : List Entry) (e : Entry) (catalog : Option (List CatEntry)) (job : Job)
    → SendsNone catalog job e
    → (AreOverNodes nodes failed now → AreOverNodes nodes failed later)
    → JobAsked nodes failed op now from try catalog job
    → JobAsked nodes failed op later from (e ∷ try) catalog job
job_asked_on nodes failed op now later from try e None job sends over asked =
    decides_on e try (sends (inr refl)) asked
job_asked_on nodes failed op now later from try e (Some entries) at.Start sends over asked =
    decides_on e try (sends (inl refl)) asked
job_asked_on nodes failed op now later from try e (Some entries) (at.Get d) sends over asked =
    (asked_on failed op from try e asked.0, over asked.1)
job_asked_on nodes failed op now later from try e (Some entries) (at.Transaction a) sends over asked =
    (asked_on failed op from try e asked.0, over asked.1)
job_asked_on nodes failed op now later from try e (Some entries) (at.Child c) sends over asked =
    (asked_on failed op from try e asked.0, over asked.1)
job_asked_on nodes failed op now later from try e (Some entries) (at.Scan s) sends over asked =
    (asked_on failed op from try e asked.0, over asked.1)

-- Where the tries began

-- one more entry of the operation
pub all_on : (e : Entry) (es older : List Entry) → GoesOn e.what → es ≡ since_begin es ++ older
    → e ∷ es ≡ since_begin (e ∷ es) ++ older
all_on e es older goes all =
    ap (λ (l : List Entry). e ∷ l) all ∙ ap (λ (l : List Entry). l ++ older) (sym (since_on e es goes))

abbrev pub began_on : (e : Entry) (es : List Entry) (op : Op) (job : Job) → GoesOn e.what
    → BeganFrom es op job → BeganFrom (e ∷ es) op job
began_on e es op job goes b = record {
  from = b.from;
  all = all_on e es b.from.older goes b.all;
  place = b.place;
}

-- What a job has read

pub seen_quiet : (e : Entry) (es : List Entry) → seen_at e ≡ [] → seen_in (e ∷ es) ≡ seen_in es
seen_quiet e es none = seen_in-cons e es ∙ ap (λ (l : List Seen). l ++ seen_in es) none

pub scan_shown_quiet : (e : Entry) (now : List Entry) (spoiled : Bool) (op : Op) (job : Job)
    → seen_at e ≡ [] → ScanShown now spoiled op job → ScanShown (e ∷ now) spoiled op job
scan_shown_quiet e now spoiled (Tx name steps) job none shown = tt
scan_shown_quiet e now spoiled (Snapshot name child) job none shown = tt
scan_shown_quiet e now spoiled (Branch name child) job none shown = tt
scan_shown_quiet e now spoiled (Scan name low high limit) at.Start none shown = λ whole.
    subst (AllByRecursion (λ (seen : Seen). IsCatalogRead seen → ⊥)) (sym (seen_quiet e now none)) (shown whole)
scan_shown_quiet e now spoiled (Scan name low high limit) (at.Scan s) none shown =
    scan_on e now name low high limit s shown
scan_shown_quiet e now spoiled (Scan name low high limit) (at.Get d) none shown = tt
scan_shown_quiet e now spoiled (Scan name low high limit) (at.Transaction a) none shown = tt
scan_shown_quiet e now spoiled (Scan name low high limit) (at.Child c) none shown = tt
scan_shown_quiet e now spoiled Versions job none shown = tt

-- The try

-- it goes on, and has read what it had
pub record GoesOnAs (es : List Entry) (known : Known) (w : Work) (seens : List Seen) : Type 0 where
  pub is : IsOpen es known w
  pub seens_are : seen_in is.try ≡ seens

-- a try with one more entry
pub tried_on : (es : List Entry) (nodes : ℕ) (op : Op) (from : Origin) (failed : ℕ)
    (try : List Entry) (e : Entry) → since_begin (e ∷ es) ≡ e ∷ since_begin es
    → IsTrying nodes op from failed (e ∷ since_begin es) (e ∷ try)
    → IsTrying nodes op from failed (since_begin (e ∷ es)) (e ∷ try)
tried_on es nodes op from failed try e since next =
    subst (λ (l : List Entry). IsTrying nodes op from failed l (e ∷ try)) (sym since) next

-- one more entry that is quiet
pub open_on : (es : List Entry) (known : Known) (w : Work) (e : Entry) (o : IsOpen es known w)
    → IsQuiet w.failed e → SendsNone known.catalog w.job e
    → (AreOverNodes known.nodes w.failed (since_begin es)
    → AreOverNodes known.nodes w.failed (e ∷ since_begin es))
    → GoesOnAs (e ∷ es) known w (seen_in o.try)
open_on es known w e o quiet sends over = record {
  is = record {
    of = under_way_still e es w.op quiet.goes o.of;
    began = began_on e es w.op w.job quiet.goes o.began;
    try = e ∷ o.try;
    trying = tried_on es known.nodes w.op o.began.from w.failed o.try e since next;
    leafless = leafless_on w.op e o.try (silent_no_leaf e quiet.reads) o.leafless;
    asked = subst (λ (l : List Entry). JobAsked known.nodes w.failed w.op l o.began.from (e ∷ o.try) known.catalog w.job) (sym since)
        (job_asked_on known.nodes w.failed w.op (since_begin es) (e ∷ since_begin es) o.began.from o.try e known.catalog w.job sends over o.asked);
    shows = (
      subst (λ (l : List Entry). ScanShown l w.spoiled w.op w.job) (sym since)
          (scan_shown_quiet e (since_begin es) w.spoiled w.op w.job quiet.reads o.shows.0),
      subst (λ (l : List Seen). ReadsShowBy known w.failed l w.op w.job) (sym (seen_quiet e o.try quiet.reads)) o.shows.1,
    );
    last = (
      kept_still_last e es known quiet.gives o.last.0,
      job_same es (e ∷ es) (shown_still e es quiet.gives) w.job o.last.1,
    );
  };
  seens_are = seen_quiet e o.try quiet.reads;
}
  where
    since : since_begin (e ∷ es) ≡ e ∷ since_begin es
    since = since_on e es quiet.goes

    next : IsTrying known.nodes w.op o.began.from w.failed (e ∷ since_begin es) (e ∷ o.try)
    next = trying_on known.nodes w.op o.began.from w.failed (since_begin es) o.try e o.trying o.leafless quiet.good quiet.peeks (spares_on e o.try quiet.spares o.trying.asks_first)

-- What is so whatever is under way

kept_still : (e : Entry) (es : List Entry) (catalog : Option (List CatEntry))
    → MatchOption catalog ⊤ (IsKept es) → MatchOption catalog ⊤ (IsKept (e ∷ es))
kept_still e es None kept = tt
kept_still e es (Some entries) kept = (catalog_stays e es entries kept.0, kept.1)

-- it stays with an entry that issues nothing
pub own_on : (e : Entry) (es : List Entry) (p : ProxyState) → IsOwn es p → issue_in e.what ≡ []
    → AreFresh p.client p.run (e ∷ es) → recovers_nothing (e ∷ es) ≡ true → IsOwn (e ∷ es) p
own_on e es p own none fresh recovers = record {
  issues = issues_kept p.client p.run p.known.nodes e es own.issues none;
  issued = ap length (no_issue e es none) ∙ own.issued;
  fresh = fresh;
  catalog = kept_still e es p.known.catalog own.catalog;
  recovers = recovers;
}

-- one more serial is given out, and this goes on
abbrev pub with_serial : ProxyState → Option (Work × Errand) → ProxyState
with_serial p work = record {
  client = p.client;
  run = p.run;
  issued = p.issued + 1;
  peeks = PEEKS;
  known = p.known;
  work = work;
}

one_longer : (n m : ℕ) → n ≡ m → suc n ≡ m + 1
one_longer n m is = omega arith

-- and with an issue that has the next serial, once that is given out
pub own_issued : (e : Entry) (es : List Entry) (p : ProxyState) (work : Option (Work × Errand))
    (tid : Tid) (mini : Mini) → IsOwn es p → e.node ≡ None → e.what ≡ Issue tid mini
    → tid ≡ tid_of p.client p.run (length (issues_of es) + 1) → mini.nodes ≡ p.known.nodes
    → IsOwn (e ∷ es) (with_serial p work)
own_issued e es p work tid mini own node is next nodes = record {
  issues = issues_on p.client p.run p.known.nodes e es tid mini own.issues is next nodes;
  issued = ap length (one_issue e es tid mini is) ∙ one_longer (length (issues_of es)) p.issued own.issued;
  fresh = fresh_issued p.client p.run e es tid mini own.fresh node is;
  catalog = kept_still e es p.known.catalog own.catalog;
  recovers = own_recovers_none e es node own.recovers;
}

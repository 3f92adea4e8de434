-- What a try that goes on wants, and what its client's own list shows of that.
use Rattle.std.proofs.Common.{◌≡◌, ◌≢◌, ◌⊎◌, inl, inr, ℕ, zero, suc, Bool, true, false, not, ◌&&◌}
use Rattle.std.proofs.Common.{List, [], ◌++◌, Contains, Option, Some, None, refl, subst, sym, ap, ◌∙◌, IsTrue}
use Rattle.std.specs.Prelude.{MatchOption, ⊤}
use Rattle.mn_base.specs.declared.answer.Answer.{Answer}
use Rattle.mn_base.specs.declared.answer.Answer.TheVariants as answers
use Rattle.mn_base.specs.declared.op.Op.{Op}
use Rattle.mn_base.specs.declared.op.Op.TheVariants.{Tx, Snapshot, Branch, Scan, Versions}
use Rattle.mn_base.specs.declared.reply.Reply.{Reply}
use Rattle.mn_base.specs.declared.reply.Reply.TheVariants.{Pairs}
use Rattle.mn_page.specs.declared.entry.CatEntry.{CatEntry}
use Rattle.mn_base.specs.declared.op.Step.{Step}
use Rattle.mn_scan.specs.Scan.{ScanState, may_be_leaf}
use Rattle.mn_txn.specs.Tries.{FreeSlotsAreLeft, TriesShowCauses, WornPagesShow}
use Rattle.mn_runs.specs.declared.entry.Entry.{Entry}
use Rattle.mn_runs.specs.Calls.{since_begin}
use Rattle.mn_runs.specs.Clients.{is_plan}
use Rattle.mn_law.specs.Answers.{IsWhole}
use Rattle.mn_law.specs.Shown.{ScanShows, ShowsCatalog}
use Rattle.mn_law.proofs.Sees.{seen_in-append}
use Rattle.mn_runs.proofs.Seen.{nothing}
use Rattle.std.proofs.lemmas.List.{append-nil}
use Rattle.std.proofs.lemmas.List.Elements.{Contains-append_cases}
use Rattle.mn_runs.specs.Seen.{Seen, seen_in}
use Rattle.mn_work.specs.declared.attempt.Attempt.{Attempt}
use Rattle.mn_work.specs.declared.child.Child.{Child}
use Rattle.mn_proxy.specs.declared.errand.Purpose.TheVariants as by
use Rattle.mn_work.specs.declared.get.Descent.{Descent}
use Rattle.mn_work.specs.declared.known.Known.{Known}
use Rattle.mn_work.specs.declared.next.Next.{Next}
use Rattle.mn_work.specs.declared.work.Job.{Job}
use Rattle.mn_work.specs.declared.work.Job.TheVariants as at
use Rattle.mn_work.specs.declared.work.Work.{Work}
use Rattle.mn_proxy.specs.Agrees.{AreComparesShown, AreOverNodes, IsKept, IsOpen, JobAsked, KeptIsLast, MayPeekFor}
use Rattle.mn_work.specs.Attempts as attempts
use Rattle.mn_work.specs.Children as children
use Rattle.mn_work.specs.Descents as descents
use Rattle.mn_proxy.specs.Jobs.{IsKeyAt, JobShows, ReadsShow, ReadsShowBy, ScanShown, StandsAt}
use Rattle.mn_work.specs.Scans as scans
use Rattle.mn_proxy.specs.Tries.{HasAsked, HasSentNone, HaveFailed, Origin}
use Rattle.mn_work.specs.Walks.{FailsBy, IfLater, is_later}
use Rattle.mn_work.specs.Knows.{KeepsKnown}
use Rattle.mn_work.specs.Works.{BeginsBy, GetWants, GoesOnFrom, IsJobIn, IsJobOf, IsStartable, JobIsLast, JobWants, KeepsOp, ScanEnds}
use Rattle.mn_work.specs.Works.{ScanWants, WantsNext}
use Rattle.mn_proxy.proofs.ChildrenShow.{child_wants_for}
use Rattle.mn_proxy.proofs.GetsShow.{PagesOrFails, get_wants_for}
use Rattle.mn_proxy.proofs.ScansShow.{scan_ends_for, scan_wants_for, stands_alike}
use Rattle.mn_proxy.proofs.Shown.{AnswerShown, DoesByLast, WantShown, later_is}
use Rattle.mn_proxy.proofs.StepsShow.{steps_want_for}
use Rattle.mn_work.proofs.Works.{AsksOrGoes, WentOn, asks_or_goes, begins_steps}
use Rattle.mn_proxy.proofs.CatalogsShow.{Began, begun_shows, goes_stands}
use Rattle.mn_proxy.proofs.Taking.{asked_any}
use Rattle.mn_proxy.proofs.Tries.{decided_seen}

-- What it tells

-- a Peek is made in a first try alone, where no leaf may stand that shows a reply
abbrev pub PeeksAs : ℕ → Job → Next → Type 0
PeeksAs failed job (Next.Page addr peek) =
    peek ≡ true → (failed ≡ 0) × MayPeekFor job (by.Page addr)
PeeksAs failed job (Next.Count node peek) = peek ≡ true → (failed ≡ 0) × MayPeekFor job by.Count
PeeksAs failed job next = ⊤

-- a plan is one of the operation, with its compares shown; a fault was met; an answer is shown
abbrev pub IsNoScan : Op → Type 0
IsNoScan (Scan name low high limit) = ⊥
IsNoScan op = ⊤

abbrev pub AnswerTold : ℕ → ℕ → List Entry → List Seen → Op → Answer → Type 0
AnswerTold nodes failed now seens op answer =
    (AnswerShown nodes failed seens op answer × IsNoScan op)
    ⊎ ((reply : Reply) × (answer ≡ answers.Replied reply) × ScanShows (seen_in now) op reply)

abbrev pub NextTold : ℕ → ℕ → List Entry → List Seen → Op → List CatEntry → Job → Next → Type 0
NextTold nodes failed now seens op entries job (Next.Plan mini reply) =
    DoesByLast op entries job mini reply
    × IfLater failed (AreComparesShown seens mini) × (mini.nodes ≡ nodes)
    × IsTrue (is_plan mini.items)
NextTold nodes failed now seens op entries job (Next.Fails cause) =
    FailsBy nodes failed seens op (IsKeyAt op job) cause
NextTold nodes failed now seens op entries job (Next.Answers answer) =
    AnswerTold nodes failed now seens op answer
NextTold nodes failed now seens op entries job Next.Catalog = ⊥
NextTold nodes failed now seens op entries job next = ⊤

-- what its job has read is shown still, unless it is answered
abbrev pub ShownStill : ℕ → List Entry → List Seen → Bool → Op → List CatEntry → Job → Next → Type 0
ShownStill failed now seens spoiled op entries job (Next.Answers answer) = ⊤
ShownStill failed now seens spoiled op entries job next =
    ReadsShow failed seens op entries job × ScanShown now spoiled op job

-- By jobs

of_pages : (nodes failed : ℕ) (now : List Entry) (seens : List Seen) (op : Op)
    (entries : List CatEntry) (job : Job) (next : Next) → PagesOrFails nodes failed seens op (IsKeyAt op job) next
    → NextTold nodes failed now seens op entries job next
of_pages nodes failed now seens op entries job (Next.Page addr peek) told = tt
of_pages nodes failed now seens op entries job (Next.Fails cause) told = told
of_pages nodes failed now seens op entries job Next.Catalog told = absurd told
of_pages nodes failed now seens op entries job (Next.Count node peek) told = absurd told
of_pages nodes failed now seens op entries job (Next.Plan mini reply) told = absurd told
of_pages nodes failed now seens op entries job (Next.Answers answer) told = absurd told

of_wants : (nodes failed : ℕ) (now : List Entry) (seens : List Seen) (op : Op)
    (entries : List CatEntry) (job : Job) (next : Next) → IsNoScan op → WantShown nodes failed seens op entries job next
    → NextTold nodes failed now seens op entries job next
of_wants nodes failed now seens op entries job (Next.Page addr peek) scanless told = tt
of_wants nodes failed now seens op entries job (Next.Fails None) scanless told = tt
of_wants nodes failed now seens op entries job (Next.Fails (Some cause)) scanless told = told
of_wants nodes failed now seens op entries job Next.Catalog scanless told = absurd told
of_wants nodes failed now seens op entries job (Next.Count node peek) scanless told = tt
of_wants nodes failed now seens op entries job (Next.Plan mini reply) scanless told = told
of_wants nodes failed now seens op entries job (Next.Answers answer) scanless told = inl (told, scanless)

still : (failed : ℕ) (now : List Entry) (seens : List Seen) (spoiled : Bool) (op : Op)
    (entries : List CatEntry) (job : Job) (next : Next) → ReadsShow failed seens op entries job
    → ScanShown now spoiled op job → ShownStill failed now seens spoiled op entries job next
still failed now seens spoiled op entries job Next.Catalog reads shown = (reads, shown)
still failed now seens spoiled op entries job (Next.Page addr peek) reads shown = (reads, shown)
still failed now seens spoiled op entries job (Next.Count node peek) reads shown = (reads, shown)
still failed now seens spoiled op entries job (Next.Plan mini reply) reads shown = (reads, shown)
still failed now seens spoiled op entries job (Next.Fails cause) reads shown = (reads, shown)
still failed now seens spoiled op entries job (Next.Answers answer) reads shown = tt

-- of a job that is no scan's nothing more is shown
no_scan : (now : List Entry) (spoiled : Bool) (op : Op) (d : Descent)
    → ScanShown now spoiled op (at.Get d)
no_scan now spoiled (Tx name steps) d = tt
no_scan now spoiled (Snapshot name child) d = tt
no_scan now spoiled (Branch name child) d = tt
no_scan now spoiled (Scan name low high limit) d = tt
no_scan now spoiled Versions d = tt

no_scan_steps : (now : List Entry) (spoiled : Bool) (op : Op) (a : Attempt)
    → ScanShown now spoiled op (at.Transaction a)
no_scan_steps now spoiled (Tx name steps) a = tt
no_scan_steps now spoiled (Snapshot name child) a = tt
no_scan_steps now spoiled (Branch name child) a = tt
no_scan_steps now spoiled (Scan name low high limit) a = tt
no_scan_steps now spoiled Versions a = tt

no_scan_child : (now : List Entry) (spoiled : Bool) (op : Op) (c : Child)
    → ScanShown now spoiled op (at.Child c)
no_scan_child now spoiled (Tx name steps) c = tt
no_scan_child now spoiled (Snapshot name child) c = tt
no_scan_child now spoiled (Branch name child) c = tt
no_scan_child now spoiled (Scan name low high limit) c = tt
no_scan_child now spoiled Versions c = tt

-- a Peek isn't made in a later try
no_peek : (failed : ℕ) (more : Bool) → is_later failed ≡ true → (not (is_later failed) && more) ≡ true
    → ⊥
no_peek failed more later is = by (is_later failed) later is
  where
    by : (b : Bool) → b ≡ true → (not b && more) ≡ true → ⊥
    by true e is = absurd cc
    by false e is = absurd cc

first_alone : (failed : ℕ) (more : Bool) → (not (is_later failed) && more) ≡ true
    → (failed ≡ 0) × (more ≡ true)
first_alone zero more is = (refl, is)
first_alone (suc n) more is = absurd (no_peek (suc n) more (later_is n) is)

first : (failed : ℕ) → not (is_later failed) ≡ true → failed ≡ 0
first zero is = refl
first (suc n) is = absurd (no_peek (suc n) true (later_is n) (ap (λ b. b && true) is))

not_true : (b : Bool) → not b ≡ true → b ≡ false
not_true true is = absurd cc
not_true false is = refl

-- a lone Get peeks where its leaf can't be
get_peeks : (nodes failed : ℕ) (e : Descent) (next : Next)
    → descents.WantsPage nodes (is_later failed) e next → PeeksAs failed (at.Get e) next
get_peeks nodes failed e (Next.Page addr peek) w = λ is.
    let it = first_alone failed (not (descents.may_be_leaf e.above)) (sym w.2 ∙ is) in
    (it.0, not_true (descents.may_be_leaf e.above) it.1)
get_peeks nodes failed e (Next.Fails cause) w = tt
get_peeks nodes failed e Next.Catalog w = tt
get_peeks nodes failed e (Next.Count node peek) w = absurd w
get_peeks nodes failed e (Next.Plan mini reply) w = tt
get_peeks nodes failed e (Next.Answers answer) w = tt

-- so does a scan
scan_peeks : (nodes failed : ℕ) (t : ScanState) (next : Next)
    → scans.WantsNext nodes (is_later failed) t (Some next) → PeeksAs failed (at.Scan t) next
scan_peeks nodes failed t (Next.Page addr peek) w = λ is.
    let it = first_alone failed (not (may_be_leaf t.above)) (sym w.2 ∙ is) in
    (it.0, not_true (may_be_leaf t.above) it.1)
scan_peeks nodes failed t (Next.Fails cause) w = tt
scan_peeks nodes failed t Next.Catalog w = tt
scan_peeks nodes failed t (Next.Count node peek) w = absurd w
scan_peeks nodes failed t (Next.Plan mini reply) w = tt
scan_peeks nodes failed t (Next.Answers answer) w = tt

steps_peek : (nodes failed : ℕ) (entries : List CatEntry) (steps : List Step) (b : Attempt)
    (next : Next) → attempts.WantsBy nodes entries (is_later failed) steps b next
    → PeeksAs failed (at.Transaction b) next
steps_peek nodes failed entries steps b (Next.Page addr peek) w = λ is. (first failed (sym w.2 ∙ is), tt)
steps_peek nodes failed entries steps b (Next.Count node peek) w = λ is. (first failed (sym w.4 ∙ is), tt)
steps_peek nodes failed entries steps b (Next.Fails cause) w = tt
steps_peek nodes failed entries steps b Next.Catalog w = tt
steps_peek nodes failed entries steps b (Next.Plan mini reply) w = tt
steps_peek nodes failed entries steps b (Next.Answers answer) w = tt

child_peeks : (known : Known) (failed : ℕ) (op : Op) (d : Child) (next : Next)
    → children.WantsNext known (is_later failed) op d next → PeeksAs failed (at.Child d) next
child_peeks known failed op d (Next.Page addr peek) (inl w) = λ is. (first failed (sym w.3 ∙ is), tt)
child_peeks known failed op d (Next.Page addr peek) (inr (inl w)) = absurd w
child_peeks known failed op d (Next.Page addr peek) (inr (inr w)) = absurd (none_ends known.catalog w)
  where
    none_ends : (o : Option (List CatEntry)) → MatchOption o ⊥ (λ entries. ⊥) → ⊥
    none_ends None w = w
    none_ends (Some entries) w = w
child_peeks known failed op d (Next.Count node peek) (inl w) = absurd w
child_peeks known failed op d (Next.Count node peek) (inr (inl w)) = λ is. (first failed (sym w.3 ∙ is), tt)
child_peeks known failed op d (Next.Count node peek) (inr (inr w)) = absurd (none_ends known.catalog w)
  where
    none_ends : (o : Option (List CatEntry)) → MatchOption o ⊥ (λ entries. ⊥) → ⊥
    none_ends None w = w
    none_ends (Some entries) w = w
child_peeks known failed op d (Next.Fails cause) w = tt
child_peeks known failed op d Next.Catalog w = tt
child_peeks known failed op d (Next.Plan mini reply) w = tt
child_peeks known failed op d (Next.Answers answer) w = tt

-- a transaction's job stays one
steps_stay : (known : Known) (later : Bool) (op : Op) (a : Attempt) (after : Job) (next : Next)
    → JobWants known later op (at.Transaction a) after next
    → (b : Attempt) × (after ≡ at.Transaction b)
steps_stay known later (Tx name steps) a (at.Transaction b) next w = (b, refl)
steps_stay known later (Tx name steps) a after next w = absurd w
steps_stay known later (Snapshot name child) a after next w = absurd w
steps_stay known later (Branch name child) a after next w = absurd w
steps_stay known later (Scan name low high limit) a after next w = absurd w
steps_stay known later Versions a after next w = absurd w

steps_peek_for : (known : Known) (failed : ℕ) (entries : List CatEntry) (op : Op) (a b : Attempt)
    (next : Next) → known.catalog ≡ Some entries
    → JobWants known (is_later failed) op (at.Transaction a) (at.Transaction b) next
    → PeeksAs failed (at.Transaction b) next
steps_peek_for known failed entries (Tx name steps) a b next kept w =
    steps_peek known.nodes failed entries steps b next
    (subst (λ (o : Option (List CatEntry)). MatchOption o ⊥ (λ es. attempts.WantsBy known.nodes es (is_later failed) steps b next)) kept w.wants)
steps_peek_for known failed entries (Snapshot name child) a b next kept w = absurd w
steps_peek_for known failed entries (Branch name child) a b next kept w = absurd w
steps_peek_for known failed entries (Scan name low high limit) a b next kept w = absurd w
steps_peek_for known failed entries Versions a b next kept w = absurd w

-- neither is a scan's
steps_no_scan : (known : Known) (later : Bool) (op : Op) (a b : Attempt) (next : Next)
    → JobWants known later op (at.Transaction a) (at.Transaction b) next → IsNoScan op
steps_no_scan known later (Tx name steps) a b next w = tt
steps_no_scan known later (Snapshot name child) a b next w = tt
steps_no_scan known later (Branch name child) a b next w = tt
steps_no_scan known later (Scan name low high limit) a b next w = w
steps_no_scan known later Versions a b next w = tt

child_no_scan : (known : Known) (op : Op) (c : Child) → IsJobIn known op (at.Child c) → IsNoScan op
child_no_scan known (Tx name steps) c is = tt
child_no_scan known (Snapshot name child) c is = tt
child_no_scan known (Branch name child) c is = tt
child_no_scan known (Scan name low high limit) c is = by known.catalog is
  where
    by : (o : Option (List CatEntry))
        → MatchOption o ⊥ (λ entries. children.IsUnderWay known.nodes entries (Scan name low high limit) c) → ⊥
    by None is = is
    by (Some entries) is = is.makes
child_no_scan known Versions c is = tt

-- Where a job that goes on stands

-- it stands where it stood, unless it is answered
abbrev pub StandsStill : Op → List Entry → Job → Next → Type 0
StandsStill op taken job (Next.Answers answer) = ⊤
StandsStill op taken job next = StandsAt op taken job

stands_still : (op : Op) (taken : List Entry) (job : Job) (next : Next) → StandsAt op taken job
    → StandsStill op taken job next
stands_still op taken job (Next.Answers answer) stands = tt
stands_still op taken job Next.Catalog stands = stands
stands_still op taken job (Next.Page addr peek) stands = stands
stands_still op taken job (Next.Count node peek) stands = stands
stands_still op taken job (Next.Plan mini reply) stands = stands
stands_still op taken job (Next.Fails cause) stands = stands

-- no answer is wanted
abbrev pub IsNoAnswer : Next → Type 0
IsNoAnswer (Next.Answers answer) = ⊥
IsNoAnswer next = ⊤

no_answer : (next : Next) (answer : Answer) → IsNoAnswer next → next ≡ Next.Answers answer → ⊥
no_answer next answer none is = subst IsNoAnswer is none

-- a job that wants something has begun
pub record WantsOn (op : Op) (taken : List Entry) (job : Job) (next : Next) : Type 0 where
  pub stands : StandsStill op taken job next
  pub begun : ((answer : Answer) × (next ≡ Next.Answers answer)) ⊎ (job ≢ at.Start)

pub wants_on : (known : Known) (later : Bool) (op : Op) (taken : List Entry) (before after : Job)
    (next : Next) → JobWants known later op before after next → StandsAt op taken before
    → WantsOn op taken after next
wants_on known later op taken (at.Get d) (at.Get e) next w stands =
    record { stands = stands_still op taken (at.Get e) next stands; begun = inr (λ e. absurd cc) }
wants_on known later (Tx name steps) taken (at.Transaction a) (at.Transaction b) next w stands =
    record { stands = stands_still (Tx name steps) taken (at.Transaction b) next stands; begun = inr (λ e. absurd cc) }
wants_on known later op taken (at.Child c) (at.Child d) next w stands =
    record { stands = stands_still op taken (at.Child d) next stands; begun = inr (λ e. absurd cc) }
wants_on known later op taken (at.Scan s) (at.Scan t) next w stands = record {
  stands = stands_still op taken (at.Scan t) next (stands_alike op taken s t w.alike stands);
  begun = inr (λ e. absurd cc);
}
wants_on known later op taken (at.Scan s) at.Start next w stands = ends next (some_same w.1.replies)
  where
    some_same : Some (Next.Answers (answers.Replied (Pairs w.0.pairs))) ≡ Some next
        → Next.Answers (answers.Replied (Pairs w.0.pairs)) ≡ next
    some_same e = cc

    ends : (n : Next) → Next.Answers (answers.Replied (Pairs w.0.pairs)) ≡ n → WantsOn op taken at.Start n
    ends (Next.Answers answer) is = record { stands = tt; begun = inl (answer, refl) }
    ends Next.Catalog is = absurd cc
    ends (Next.Page addr peek) is = absurd cc
    ends (Next.Count node peek) is = absurd cc
    ends (Next.Plan mini reply) is = absurd cc
    ends (Next.Fails cause) is = absurd cc
wants_on known later op taken before after next w stands = absurd w

-- What a job that goes on wants

pub record JobTells (nodes failed : ℕ) (now : List Entry) (seens : List Seen) (spoiled : Bool)
    (op : Op) (entries : List CatEntry) (after : Job) (next : Next) : Type 0 where
  pub shown : ShownStill failed now seens spoiled op entries after next
  pub told : NextTold nodes failed now seens op entries after next
  pub peeks : PeeksAs failed after next

module _ (nodes failed : ℕ) (now : List Entry) (seens : List Seen) (spoiled : Bool) (op : Op)
    (entries : List CatEntry) (known : Known) (kept : known.catalog ≡ Some entries)
    (of : known.nodes ≡ nodes) (causes : TriesShowCauses) (worns : WornPagesShow)
    (left : FreeSlotsAreLeft) (next : Next) where
  steps_tell : (a b : Attempt)
      → JobWants known (is_later failed) op (at.Transaction a) (at.Transaction b) next
      → ReadsShow failed seens op entries (at.Transaction a)
      → JobTells nodes failed now seens spoiled op entries (at.Transaction b) next
  steps_tell a b w reads =
      let it = steps_want_for nodes failed seens entries known kept of a b causes worns left op next w reads in
      record {
        shown = still failed now seens spoiled op entries (at.Transaction b) next it.0 (no_scan_steps now spoiled op b);
        told = of_wants nodes failed now seens op entries (at.Transaction b) next (steps_no_scan known (is_later failed) op a b next w) it.1;
        peeks = steps_peek_for known failed entries op a b next kept w;
      }

  pub job_tells : (before after : Job) → IsJobIn known op before
      → JobWants known (is_later failed) op before after next
      → ReadsShow failed seens op entries before → ScanShown now spoiled op before
      → JobTells nodes failed now seens spoiled op entries after next
  job_tells (at.Get d) (at.Get e) is w reads shown =
      let it = get_wants_for nodes failed seens entries d e op next reads.1 (subst (λ (n : ℕ). GetWants n (is_later failed) d e next) of w) in
      record {
        shown = still failed now seens spoiled op entries (at.Get e) next (reads.0, it.0) (no_scan now spoiled op e);
        told = of_pages nodes failed now seens op entries (at.Get e) next it.1;
        peeks = get_peeks known.nodes failed e next w.wants;
      }
  job_tells (at.Transaction a) after is w reads shown =
      let stays = steps_stay known (is_later failed) op a after next w in
      subst (λ (j : Job). JobTells nodes failed now seens spoiled op entries j next) (sym stays.1)
      (steps_tell a stays.0 (subst (λ (j : Job). JobWants known (is_later failed) op (at.Transaction a) j next) stays.1 w) reads)
  job_tells (at.Child c) (at.Child d) is w reads shown =
      let it = child_wants_for nodes failed seens op entries c d known kept of is left next w reads in
      record {
        shown = still failed now seens spoiled op entries (at.Child d) next it.0 (no_scan_child now spoiled op d);
        told = of_wants nodes failed now seens op entries (at.Child d) next (child_no_scan known op c is) it.1;
        peeks = child_peeks known failed op d next w.wants;
      }
  job_tells (at.Scan s) (at.Scan t) is w reads shown =
      let it = scan_wants_for nodes failed seens entries known now spoiled s t op next is shown reads.1 (subst (λ (n : ℕ). ScanWants n (is_later failed) s t next) of w) in
      record {
        shown = still failed now seens spoiled op entries (at.Scan t) next (reads.0, it.1) it.0;
        told = of_pages nodes failed now seens op entries (at.Scan t) next it.2;
        peeks = scan_peeks known.nodes failed t next w.wants;
      }
  job_tells (at.Scan s) at.Start is w reads shown =
      let it = scan_ends_for nodes failed seens entries known now spoiled s w.0 op next is shown (subst (λ (n : ℕ). ScanEnds n (is_later failed) s w.0 next) of w.1) in
      record {
        shown = subst (ShownStill failed now seens spoiled op entries at.Start) (sym it.1) tt;
        told = subst (NextTold nodes failed now seens op entries at.Start) (sym it.1) (inr (it.0, refl, it.2));
        peeks = subst (PeeksAs failed at.Start) (sym it.1) tt;
      }
  job_tells before after is w reads shown = absurd w

-- The operation under way, with what its job is now

-- the same operation and number of tries
work_as : (w v : Work) → v.op ≡ w.op → v.failed ≡ w.failed
    → record { op = w.op; failed = w.failed; spoiled = v.spoiled; job = v.job } ≡ v
work_as w v op failed =
    ap (λ (o : Op). record { op = o; failed = w.failed; spoiled = v.spoiled; job = v.job }) (sym op)
    ∙ ap (λ (n : ℕ). record { op = v.op; failed = n; spoiled = v.spoiled; job = v.job }) (sym failed)

-- its try goes on by the same entries
pub record OpenAs (es : List Entry) (known : Known) (w : Work) (try : List Entry) : Type 0 where
  pub is : IsOpen es known w
  pub try_is : is.try ≡ try

pub open_as : (es : List Entry) (known : Known) (w v : Work) (o : IsOpen es known w)
    → v.op ≡ w.op → v.failed ≡ w.failed
    → StandsAt w.op o.began.from.taken v.job
    → JobAsked known.nodes w.failed w.op (since_begin es) o.began.from o.try known.catalog v.job
    → ScanShown (since_begin es) v.spoiled w.op v.job
    → ReadsShowBy known w.failed (seen_in o.try) w.op v.job → JobIsLast es v.job
    → OpenAs es known v o.try
open_as es known w v o op failed place asked shown reads last =
    subst (λ (x : Work). OpenAs es known x o.try) (work_as w v op failed) (record {
      is = record {
        of = o.of;
        began = record { from = o.began.from; all = o.began.all; place = place };
        try = o.try;
        trying = o.trying;
        leafless = o.leafless;
        asked = asked;
        shows = (shown, reads);
        last = (o.last.0, last);
      };
      try_is = refl;
    })

-- what is kept stays
pub open_kept : (es : List Entry) (known new : Known) (w : Work) → new.nodes ≡ known.nodes
    → new.catalog ≡ known.catalog → KeptIsLast es new → (o : IsOpen es known w)
    → OpenAs es new w o.try
open_kept es known new w nodes catalog last o =
    subst (λ (n : Known). OpenAs es n w o.try) same (record {
      is = record {
        of = o.of;
        began = o.began;
        try = o.try;
        trying = o.trying;
        leafless = o.leafless;
        asked = o.asked;
        shows = o.shows;
        last = (subst (KeptIsLast es) (sym same) last, o.last.1);
      };
      try_is = refl;
    })
  where
    same : record { nodes = known.nodes; catalog = known.catalog; cache = new.cache } ≡ new
    same =
        ap (λ (n : ℕ). record { nodes = n; catalog = known.catalog; cache = new.cache }) (sym nodes)
        ∙ ap (λ (c : Option (List CatEntry)). record { nodes = new.nodes; catalog = c; cache = new.cache }) (sym catalog)

-- a job that goes on has asked for the catalog, where it had to
asked_by : (nodes failed : ℕ) (op : Op) (now : List Entry) (from : Origin) (try : List Entry)
    (entries : List CatEntry) (known : Known) (later : Bool) (job after : Job) (next : Next)
    → JobWants known later op job after next
    → JobAsked nodes failed op now from try (Some entries) job
    → HasAsked failed op from try × AreOverNodes nodes failed now
asked_by nodes failed op now from try entries known later at.Start after next w asked = absurd w
asked_by nodes failed op now from try entries known later (at.Get d) after next w asked = asked
asked_by nodes failed op now from try entries known later (at.Transaction a) after next w asked = asked
asked_by nodes failed op now from try entries known later (at.Child c) after next w asked = asked
asked_by nodes failed op now from try entries known later (at.Scan s) after next w asked = asked

-- What the operation wants

-- it reads the catalog, or wants something by its job; and where it isn't answered its try goes on
abbrev pub OpenUnless : List Entry → Known → Work → List Entry → Next → Type 0
OpenUnless es known w try (Next.Answers answer) = ⊤
OpenUnless es known w try next = OpenAs es known w try

abbrev pub ToldUnless : Known → Work → List Entry → List Entry → Next → Type 0
ToldUnless known w now try Next.Catalog = ⊤
ToldUnless known w now try next =
    MatchOption known.catalog ⊥
    (λ entries. NextTold known.nodes w.failed now (seen_in try) w.op entries w.job next
    × PeeksAs w.failed w.job next)

-- what it goes by it asked for, where it had to
abbrev pub AskedUnless : ℕ → ℕ → Op → List Entry → Origin → List Entry → Next → Type 0
AskedUnless nodes failed op now from try Next.Catalog = ⊤
AskedUnless nodes failed op now from try next =
    HasAsked failed op from try × AreOverNodes nodes failed now

pub record AdvanceTells (es : List Entry) (known : Known) (w before_try : Work)
    (from : Origin) (try : List Entry) (next : Next) : Type 0 where
  pub open_still : OpenUnless es known w try next
  pub told : ToldUnless known w (since_begin es) try next
  pub asked : AskedUnless known.nodes before_try.failed before_try.op (since_begin es) from try next

-- where it goes on by its job
module _ (es : List Entry) (known : Known) (before begun after : Work) (next : Next)
    (entries : List CatEntry) (kept : known.catalog ≡ Some entries) (causes : TriesShowCauses)
    (worns : WornPagesShow) (left : FreeSlotsAreLeft) (o : IsOpen es known before)
    (op : after.op ≡ before.op) (failed : after.failed ≡ before.failed)
    (shows : ScanShown (since_begin es) begun.spoiled before.op begun.job
    × ReadsShow before.failed (seen_in o.try) before.op entries begun.job)
    (asked : JobAsked known.nodes before.failed before.op (since_begin es) o.began.from o.try (Some entries) begun.job)
    (place : StandsAt before.op o.began.from.taken begun.job)
    (is : IsJobIn known before.op begun.job) (spoiled : after.spoiled ≡ begun.spoiled)
    (wants : JobWants known (is_later before.failed) before.op begun.job after.job next)
    (last : JobIsLast es after.job) where
  tells : JobTells known.nodes before.failed (since_begin es) (seen_in o.try) begun.spoiled before.op entries after.job next
  tells = job_tells known.nodes before.failed (since_begin es) (seen_in o.try) begun.spoiled before.op entries known kept refl causes worns left next begun.job after.job is wants shows.1 shows.0

  asked_for : HasAsked before.failed before.op o.began.from o.try
      × AreOverNodes known.nodes before.failed (since_begin es)
  asked_for =
      asked_by known.nodes before.failed before.op (since_begin es) o.began.from o.try entries known (is_later before.failed) begun.job after.job next wants asked

  on : WantsOn before.op o.began.from.taken after.job next
  on =
      wants_on known (is_later before.failed) before.op o.began.from.taken begun.job after.job next wants place

  asked_after : after.job ≢ at.Start
      → JobAsked known.nodes before.failed before.op (since_begin es) o.began.from o.try known.catalog after.job
  asked_after begun =
      asked_any known.nodes before.failed before.op (since_begin es) o.began.from o.try known.catalog after.job begun
      (λ none. some_kept (sym kept ∙ none)) asked_for
    where
      some_kept : Some entries ≡ None → ⊥
      some_kept e = cc

  open_after : StandsAt before.op o.began.from.taken after.job → after.job ≢ at.Start
      → ReadsShow before.failed (seen_in o.try) before.op entries after.job × ScanShown (since_begin es) begun.spoiled before.op after.job
      → OpenAs es known after o.try
  open_after stands begun shown =
      open_as es known before after o op failed stands (asked_after begun)
      (subst (λ (b : Bool). ScanShown (since_begin es) b before.op after.job) (sym spoiled) shown.1)
      (subst (λ (c : Option (List CatEntry)). MatchOption c (IsStartable before.op after.job) (λ x. ReadsShow before.failed (seen_in o.try) before.op x after.job)) (sym kept) shown.0) last

  told_after : NextTold known.nodes after.failed (since_begin es) (seen_in o.try) after.op entries after.job next
      × PeeksAs after.failed after.job next
  told_after = (
    subst (λ (x : Op). NextTold known.nodes after.failed (since_begin es) (seen_in o.try) x entries after.job next) (sym op)
        (subst (λ (n : ℕ). NextTold known.nodes n (since_begin es) (seen_in o.try) before.op entries after.job next) (sym failed) tells.told),
    subst (λ (n : ℕ). PeeksAs n after.job next) (sym failed) tells.peeks,
  )

  goes_tells : AdvanceTells es known after before o.began.from o.try next
  goes_tells = record {
    open_still = by next tells.shown on.stands on.begun;
    asked = by_asked next asked_for;
    told = by_next next (subst (λ (c : Option (List CatEntry)). MatchOption c ⊥ (λ x. NextTold known.nodes after.failed (since_begin es) (seen_in o.try) after.op x after.job next × PeeksAs after.failed after.job next)) (sym kept) told_after);
  }
    where
      by : (n : Next) → ShownStill before.failed (since_begin es) (seen_in o.try) begun.spoiled before.op entries after.job n
          → StandsStill before.op o.began.from.taken after.job n
          → ((answer : Answer) × (n ≡ Next.Answers answer)) ⊎ (after.job ≢ at.Start)
          → OpenUnless es known after o.try n
      by (Next.Answers answer) shown stands begun = tt
      by Next.Catalog shown stands (inr begun) = open_after stands begun shown
      by (Next.Page addr peek) shown stands (inr begun) = open_after stands begun shown
      by (Next.Count node peek) shown stands (inr begun) = open_after stands begun shown
      by (Next.Plan mini reply) shown stands (inr begun) = open_after stands begun shown
      by (Next.Fails cause) shown stands (inr begun) = open_after stands begun shown
      by Next.Catalog shown stands (inl answered) = absurd (no_answer Next.Catalog answered.0 tt answered.1)
      by (Next.Page addr peek) shown stands (inl answered) = absurd (no_answer (Next.Page addr peek) answered.0 tt answered.1)
      by (Next.Count node peek) shown stands (inl answered) = absurd (no_answer (Next.Count node peek) answered.0 tt answered.1)
      by (Next.Plan mini reply) shown stands (inl answered) = absurd (no_answer (Next.Plan mini reply) answered.0 tt answered.1)
      by (Next.Fails cause) shown stands (inl answered) = absurd (no_answer (Next.Fails cause) answered.0 tt answered.1)

      by_asked : (n : Next)
          → HasAsked before.failed before.op o.began.from o.try × AreOverNodes known.nodes before.failed (since_begin es)
          → AskedUnless known.nodes before.failed before.op (since_begin es) o.began.from o.try n
      by_asked Next.Catalog told = tt
      by_asked (Next.Answers answer) told = told
      by_asked (Next.Page addr peek) told = told
      by_asked (Next.Count node peek) told = told
      by_asked (Next.Plan mini reply) told = told
      by_asked (Next.Fails cause) told = told

      by_next : (n : Next)
          → MatchOption known.catalog ⊥ (λ x. NextTold known.nodes after.failed (since_begin es) (seen_in o.try) after.op x after.job n × PeeksAs after.failed after.job n)
          → ToldUnless known after (since_begin es) o.try n
      by_next Next.Catalog told = tt
      by_next (Next.Answers answer) told = told
      by_next (Next.Page addr peek) told = told
      by_next (Next.Count node peek) told = told
      by_next (Next.Plan mini reply) told = told
      by_next (Next.Fails cause) told = told

some_none : (entries : List CatEntry) → Some entries ≡ None → ⊥
some_none entries e = cc

-- a transaction that is to begin has read nothing: what its list shows it showed before
shown_older : (es : List Entry) (known : Known) (w : Work) (entries : List CatEntry)
    (o : IsOpen es known w) → w.job ≡ at.Start → known.catalog ≡ Some entries → w.failed ≡ 0
    → (name : List ℕ) (steps : List Step) → w.op ≡ Tx name steps → ShowsCatalog es entries
    → ShowsCatalog o.began.from.older entries
shown_older es known w entries o start kept first name steps op (seen, has, sees) =
    (seen, by (Contains-append_cases (seen_in (since_begin es)) (seen_in o.began.from.older) seen (subst (λ (l : List Seen). Contains l seen) (ap seen_in o.began.all ∙ seen_in-append (since_begin es) o.began.from.older) has)), sees)
  where
    sent : HasSentNone o.try
    sent =
        subst (λ (j : Job). JobAsked known.nodes w.failed w.op (since_begin es) o.began.from o.try (Some entries) j) start
        (subst (λ (c : Option (List CatEntry)). JobAsked known.nodes w.failed w.op (since_begin es) o.began.from o.try c w.job) kept o.asked)

    none_before : (n : ℕ) → n ≡ 0 → HaveFailed known.nodes w.op o.began.from n o.trying.before
        → o.trying.before ≡ []
    none_before zero is h = h.0 ∙ subst (λ (x : Op). IsWhole x o.began.from.taken) op h.1
    none_before (suc n) is h = absurd cc

    none_seen : seen_in (since_begin es) ≡ []
    none_seen =
        ap seen_in (o.trying.split ∙ ap (λ (l : List Entry). o.try ++ l) (none_before w.failed first o.trying.have_failed) ∙ append-nil o.try)
        ∙ decided_seen o.try sent

    by : Contains (seen_in (since_begin es)) seen ⊎ Contains (seen_in o.began.from.older) seen
        → Contains (seen_in o.began.from.older) seen
    by (inl now) = absurd (nothing seen (subst (λ (l : List Seen). Contains l seen) none_seen now))
    by (inr older) = older

-- a first try alone has not begun though a catalog is kept
first_try : (known : Known) (failed : ℕ) (seens : List Seen) (op : Op) (entries : List CatEntry)
    → known.catalog ≡ Some entries → ReadsShowBy known failed seens op at.Start → failed ≡ 0
first_try known failed seens op entries kept reads =
    subst (λ (c : Option (List CatEntry)). MatchOption c (IsStartable op at.Start) (λ x. ReadsShow failed seens op x at.Start)) kept reads

pub advance_tells : (es : List Entry) (old known : Known) (before after : Work) (next : Next)
    → (keeps : KeepsKnown old known) → IsJobOf old before → KeepsOp before after
    → WantsNext known before after next → (causes : TriesShowCauses) → WornPagesShow
    → FreeSlotsAreLeft → JobIsLast es after.job → MatchOption known.catalog ⊤ (IsKept es)
    → (o : IsOpen es known before)
    → AdvanceTells es known after before o.began.from o.try next
advance_tells es old known before after next keeps is op wants causes worns left last shown_kept o =
    by (asks_or_goes old known before after next keeps is wants)
  where
    -- what its job has read is shown, also where that has just begun
    job_shows : (on : WentOn known before after next) (entries : List CatEntry)
        → known.catalog ≡ Some entries → JobShows known (since_begin es) o.try on.begun
    job_shows on entries kept = from on.begins
      where
        from : (on.begun ≡ before) ⊎ ((before.job ≡ at.Start) × BeginsBy known before on.begun)
            → JobShows known (since_begin es) o.try on.begun
        from (inl same) = subst (JobShows known (since_begin es) o.try) (sym same) o.shows
        from (inr (start, begins)) =
            begun_shows known (since_begin es) o.try before on.begun start
            (first_try known before.failed (seen_in o.try) before.op entries kept
            (subst (λ (j : Job). ReadsShowBy known before.failed (seen_in o.try) before.op j) start o.shows.1)) begins

    shows_by : (on : WentOn known before after next) (entries : List CatEntry)
        → known.catalog ≡ Some entries
        → ScanShown (since_begin es) on.begun.spoiled before.op on.begun.job
        × ReadsShow before.failed (seen_in o.try) before.op entries on.begun.job
    shows_by on entries kept =
        let shows = job_shows on entries kept in (
          subst (λ (x : Op). ScanShown (since_begin es) on.begun.spoiled x on.begun.job) on.keeps.0 shows.0,
          subst (λ (c : Option (List CatEntry)). MatchOption c (IsStartable before.op on.begun.job) (λ x. ReadsShow before.failed (seen_in o.try) before.op x on.begun.job)) kept
              (subst (λ (x : Op). ReadsShowBy known before.failed (seen_in o.try) x on.begun.job) on.keeps.0
              (subst (λ (n : ℕ). ReadsShowBy known n (seen_in o.try) on.begun.op on.begun.job) on.keeps.1 shows.1)),
        )

    -- it stands where its operation does
    starts_stand : (on : WentOn known before after next) (entries : List CatEntry) → known.catalog ≡ Some entries
        → before.job ≡ at.Start → BeginsBy known before on.begun
        → Began before.op o.began.from.taken on.begun.job
    starts_stand on entries kept start begins =
        goes_stands entries before at.Start on.begun.job o.began.from.taken tt
        (subst (λ (j : Job). GoesOnFrom entries before j on.begun.job) start
        (subst (λ (c : Option (List CatEntry)). MatchOption c ⊥ (λ es. GoesOnFrom es before before.job on.begun.job)) kept begins.starts.1))
        (subst (StandsAt before.op o.began.from.taken) start o.began.place)

    place_by : (on : WentOn known before after next) (entries : List CatEntry) → known.catalog ≡ Some entries
        → StandsAt before.op o.began.from.taken on.begun.job
    place_by on entries kept = from on.begins
      where
        from : (on.begun ≡ before) ⊎ ((before.job ≡ at.Start) × BeginsBy known before on.begun)
            → StandsAt before.op o.began.from.taken on.begun.job
        from (inl same) = subst (λ (w : Work). StandsAt before.op o.began.from.taken w.job) (sym same) o.began.place
        from (inr (start, begins)) = (starts_stand on entries kept start begins).0

    -- and it asked for the catalog, where it had to
    asked_by_kept : (on : WentOn known before after next) (entries : List CatEntry)
        → known.catalog ≡ Some entries
        → JobAsked known.nodes before.failed before.op (since_begin es) o.began.from o.try (Some entries) on.begun.job
    asked_by_kept on entries kept = from on.begins
      where
        from : (on.begun ≡ before) ⊎ ((before.job ≡ at.Start) × BeginsBy known before on.begun)
            → JobAsked known.nodes before.failed before.op (since_begin es) o.began.from o.try (Some entries) on.begun.job
        from (inl same) =
            subst (λ (w : Work). JobAsked known.nodes before.failed before.op (since_begin es) o.began.from o.try (Some entries) w.job) (sym same)
            (subst (λ (c : Option (List CatEntry)). JobAsked known.nodes before.failed before.op (since_begin es) o.began.from o.try c before.job) kept o.asked)
        from (inr (start, begins)) =
            let zero_is = first_try known before.failed (seen_in o.try) before.op entries kept
            (subst (λ (j : Job). ReadsShowBy known before.failed (seen_in o.try) before.op j) start o.shows.1) in
            let tx = begins_steps known.catalog before.op begins.enough in
            let shown = (subst (λ (c : Option (List CatEntry)). MatchOption c ⊤ (IsKept es)) kept shown_kept).0 in
            asked_any known.nodes before.failed before.op (since_begin es) o.began.from o.try (Some entries) on.begun.job
            (starts_stand on entries kept start begins).1 (λ none. some_none entries none)
            (subst (λ (n : ℕ). HasAsked n before.op o.began.from o.try × AreOverNodes known.nodes n (since_begin es)) (sym zero_is)
            (subst (λ (x : Op). HasAsked 0 x o.began.from o.try × AreOverNodes known.nodes 0 (since_begin es)) (sym tx.2)
            (inr (entries, shown_older es known before entries o start kept zero_is tx.0 tx.1 tx.2 shown), tt)))

    goes_by : (on : WentOn known before after next) (entries : List CatEntry) → known.catalog ≡ Some entries
        → AdvanceTells es known after before o.began.from o.try next
    goes_by on entries kept =
        goes_tells es known before on.begun after next entries kept causes worns left o op.0 op.1
        (shows_by on entries kept) (asked_by_kept on entries kept) (place_by on entries kept)
        (subst (λ (x : Op). IsJobIn known x on.begun.job) on.keeps.0 on.right) on.goes.0
        (subst (λ (n : ℕ). JobWants known (is_later n) before.op on.begun.job after.job next) on.keeps.1
        (subst (λ (x : Op). JobWants known (is_later on.begun.failed) x on.begun.job after.job next) on.keeps.0 on.goes.1)) last

    by_catalog : (on : WentOn known before after next) (c : Option (List CatEntry)) → known.catalog ≡ c
        → AdvanceTells es known after before o.began.from o.try next
    by_catalog on None none = absurd (on.kept none)
    by_catalog on (Some entries) kept = goes_by on entries kept

    by : AsksOrGoes known before after next → AdvanceTells es known after before o.began.from o.try next
    by (inl asks) =
        subst (λ (n : Next). AdvanceTells es known after before o.began.from o.try n) (sym asks.0)
        (subst (λ (w : Work). AdvanceTells es known w before o.began.from o.try Next.Catalog) (sym asks.1)
        (record { open_still = record { is = o; try_is = refl }; told = tt; asked = tt }))
    by (inr on) = by_catalog on known.catalog refl

-- What came of what a try has read, and what its client's own list shows of that.
use Rattle.std.proofs.Common.{◌≡◌, ◌≢◌, ◌⊎◌, inl, inr, ℕ, zero, suc, ◌<◌, Bool, true, false, not}
use Rattle.std.proofs.Common.{List, [], ◌∷◌, ◌++◌, length, Option, Some, None, Result, Ok, Err, refl, subst, sym, ap, ◌∙◌, arith, lit<, Contains}
use Rattle.std.specs.Prelude.{MatchOption, ⊤, ◌≤◌, ◌&&◌, nat_eq, IfOk, IsErr, OnErr}
use Rattle.std.specs.List.{list_all}
use Rattle.mn_base.specs.declared.answer.Answer.TheVariants as answers
use Rattle.mn_base.specs.declared.answer.Busy.{Busy}
use Rattle.mn_base.specs.declared.error.NoMemory.{NoMemory}
use Rattle.mn_base.specs.declared.ids.Addr.{Addr}
use Rattle.mn_base.specs.declared.op.Op.{Op}
use Rattle.mn_base.specs.declared.op.Op.TheVariants.{Tx, Snapshot, Branch, Scan, Versions}
use Rattle.mn_base.specs.declared.reply.Reply.{Reply}
use Rattle.mn_base.proofs.Booleans.{clash}
use Rattle.mn_mini.specs.declared.part.PartItem.TheVariants as Bare
use Rattle.mn_mini.specs.declared.reply.NodeReply.TheVariants as Say
use Rattle.mn_mini.specs.declared.request.Request.TheVariants as Ask
use Rattle.mn_page.specs.declared.entry.CatEntry.{CatEntry}
use Rattle.mn_scan.specs.Scan.{IsNeeded, ScanState, may_be_leaf}
use Rattle.mn_runs.specs.declared.entry.Entry.{Entry}
use Rattle.mn_law.specs.Answers.{BringsLeaf, EndsWithLeaf, IsKeyOf, IsWhole, LeafIsNewest, MayBeKept}
use Rattle.mn_law.specs.Answers.{MeetsFault, SomeReadShows, asks_at_first, is_catalog_call, is_peek, is_refusal}
use Rattle.mn_runs.specs.Calls.{Call, call_in, calls_of, issues_of, since_begin}
use Rattle.mn_runs.specs.Seen.{Place, Seen, seen_at, seen_in}
use Rattle.mn_law.specs.Places.{catalog_place, count_place}
use Rattle.mn_law.specs.Shown.{ReadShows, ShowsCatalog}
use Rattle.mn_law.proofs.Sees.{seen_in-cons}
use Rattle.mn_work.specs.declared.child.Child.{Child}
use Rattle.mn_proxy.specs.declared.errand.Errand.{Errand}
use Rattle.mn_proxy.specs.declared.errand.Purpose.{Purpose}
use Rattle.mn_proxy.specs.declared.errand.Purpose.TheVariants as reads_for
use Rattle.mn_work.specs.declared.get.Descent.{Descent}
use Rattle.mn_work.specs.declared.known.Known.{Known}
use Rattle.mn_work.specs.declared.next.Taken.{Taken}
use Rattle.mn_work.specs.declared.work.Job.{Job}
use Rattle.mn_work.specs.declared.work.Job.TheVariants as at
use Rattle.mn_work.specs.declared.work.Work.{Work}
use Rattle.mn_proxy.specs.Agrees.{AreOverNodes, HasRead, IsAtRest, IsKept, IsOpen, IsOwn, IsPeekOf, IsPlaceFor}
use Rattle.mn_proxy.specs.Agrees.{IsOwnLast, IsReadOf, IsUnderWay, JobAsked, KeptIsLast, MayPeekFor}
use Rattle.mn_proxy.specs.Kept.{PutsRead}
use Rattle.mn_proxy.proofs.Last.{job_read, kept_read, leaf_read}
use Rattle.mn_work.specs.Catalogs.{TellsVersions}
use Rattle.mn_work.specs.Children as children
use Rattle.mn_proxy.specs.Issues.{AreClosed, AreIssues}
use Rattle.mn_proxy.specs.Jobs.{IsKeyAt, JobShows, ReadsShow, ReadsShowBy, ScanShown, StandsAt}
use Rattle.mn_work.specs.Knows.{ArePages, KeepsKnown}
use Rattle.mn_proxy.specs.State.{ProxyState}
use Rattle.mn_proxy.specs.Tries.{HasAsked, HasNoLeaf, HasSentNone, IsTrying, Origin, max_tries}
use Rattle.mn_proxy.specs.Turns.{CameOf, HasFailed, IsSoundInside, IsSoundUnderWay, KeepsSelf, Leaves, TurnAgrees, WaitsFor, with_known}
use Rattle.mn_proxy.specs.declared.proxy.Proxy.TheInside.{Inside}
use Rattle.mn_proxy.specs.Turn.{Turn, turned}
use Rattle.mn_proxy.specs.declared.step.ProxyStep.{ProxyStep}
use Rattle.mn_proxy.specs.Turn as turns
use Rattle.mn_work.specs.Walks.{FailsBy, IfLater, is_later, seen_page}
use Rattle.mn_work.specs.Works.{AsksCountFor, AsksPageFor, IsJobIn, IsJobOf, IsScan, IsStartable, IsToAsk, JobCounts, JobIsLast, JobTakes, KeepsOp}
use Rattle.mn_work.specs.Works.{TakesCatalog, TakesCountBytes, TakesPageBytes, counts_of, retried_job}
use Rattle.mn_proxy.proofs.CatalogsShow.{Began, asks_now, catalog_seen, fails_same, fails_scan, fails_shows, goes_on_shows, goes_on_stands}
use Rattle.mn_proxy.proofs.CatalogsShow.{has_asked, replies_shows}
use Rattle.mn_proxy.proofs.CatalogsShow.{retried_scan, retried_scan_as, shows_catalog}
use Rattle.mn_proxy.proofs.ChildrenShow.{child_counts_for, child_takes_for}
use Rattle.mn_proxy.proofs.GetsShow.{GetIsToldBy, SpellsHigh, get_takes_for}
use Rattle.mn_proxy.proofs.Issues.{GoesOn, called_later, closed_are_given_up, closed_are_settled, since_on}
use Rattle.mn_proxy.proofs.Answered.{answered_own, may_answer}
use Rattle.mn_proxy.proofs.Feeding.{IsApart, and_false, count_is_apart, page_is_apart, place_spared}
use Rattle.mn_proxy.proofs.Opens.{all_on, asked_on, tried_on, under_way_still}
use Rattle.mn_proxy.proofs.ReadsShow.{more_reads}
use Rattle.mn_proxy.proofs.ScansShow.{IsNewestPage, ScanIsToldBy, catalog_no_leaf, high_no_leaf, leafless_on, peek_at, read_at, scan_shown_on, scan_takes_for, silent_no_leaf, stands_alike}
use Rattle.mn_proxy.proofs.Shown.{TakenShown, seen_count}
use Rattle.mn_proxy.proofs.StepsShow.{steps_count_for, steps_take_for}
use Rattle.mn_proxy.proofs.Retrying.{key_again, key_is, stands_again}
use Rattle.mn_proxy.proofs.Tries.{NoPeek, fault_on, first_on, spares_on, trying_on}
use Rattle.mn_work.proofs.Works.{count_taken, page_taken, retried_after_count, retried_after_page, retry_after_catalog}
use Rattle.mn_work.proofs.Works.{retry_after_count, retry_after_page, starts_right}

-- The entry that brought it

-- a read of the list brought it, or a first try peeked at it
abbrev pub CameAs : ℕ → Entry → Seen → Job → Purpose → Type 0
CameAs failed e seen job purpose =
    (seen_at e ≡ seen ∷ []) ⊎ ((seen_at e ≡ []) × (failed ≡ 0) × MayPeekFor job purpose)

-- such an entry refuses nothing, and peeks only where it may
pub record IsRead (failed : ℕ) (e : Entry) (seen : Seen) (job : Job) (purpose : Purpose) : Type 0 where
  pub goes : GoesOn e.what
  pub good : list_all (λ c. not (is_refusal c.reply)) (call_in e.node e.what) ≡ true
  pub peeks : NoPeek failed e
  pub came : CameAs failed e seen job purpose

-- what is so is so of a later try
later_of : (failed : ℕ) (A : Type 0) → A → IfLater failed A
later_of zero A a = tt
later_of (suc n) A a = a

-- of a first try nothing is asked
first_of_all : (failed : ℕ) (A : Type 0) → failed ≡ 0 → IfLater failed A
first_of_all failed A zero_is = subst (λ (n : ℕ). IfLater n A) (sym zero_is) tt

-- by an Exec or by a Peek
pub is_read : (failed : ℕ) (e : Entry) (place : Place) (bytes : List ℕ) (job : Job) (purpose : Purpose)
    → IsReadOf e place bytes ⊎ (IsPeekOf e place bytes × (failed ≡ 0) × MayPeekFor job purpose)
    → IsRead failed e (record { place = place; bytes = bytes }) job purpose
is_read failed e place bytes job purpose (inl (tid, long, is)) = record {
  goes = (called_later e place.node (Ask.Exec tid (Bare.Read place.start place.length ∷ [])) (Say.Done (bytes ∷ [])) is).goes;
  good = ap (list_all (λ (c : Call). not (is_refusal c.reply))) is;
  peeks = later_of failed (list_all (λ c. not (is_peek c.request)) (call_in e.node e.what) ≡ true)
      (ap (list_all (λ (c : Call). not (is_peek c.request))) is);
  came = inl (read_at e place bytes tid is);
}
is_read failed e place bytes job purpose (inr (peeked, zero_is, may)) = record {
  goes = (called_later e place.node (Ask.Peek place.start place.length) (Say.Peeked bytes) peeked.1).goes;
  good = ap (list_all (λ (c : Call). not (is_refusal c.reply))) peeked.1;
  peeks = first_of_all failed (list_all (λ c. not (is_peek c.request)) (call_in e.node e.what) ≡ true) zero_is;
  came = inr (peek_at e place bytes peeked.1, zero_is, may);
}

-- a later try has read it
is_among : (failed : ℕ) (e : Entry) (try : List Entry) (seen : Seen) (job : Job) (purpose : Purpose)
    → CameAs failed e seen job purpose → IfLater failed (Contains (seen_in (e ∷ try)) seen)
is_among failed e try seen job purpose (inl is) =
    later_of failed (Contains (seen_in (e ∷ try)) seen)
    (subst (λ (l : List Seen). Contains l seen) (sym (seen_in-cons e try ∙ ap (λ (l : List Seen). l ++ seen_in try) is)) (0, omega arith, refl))
is_among failed e try seen job purpose (inr (none, zero_is, may)) =
    first_of_all failed (Contains (seen_in (e ∷ try)) seen) zero_is

-- what its job had read is shown still
reads_still : (failed : ℕ) (e : Entry) (try : List Entry) (op : Op) (entries : List CatEntry) (job : Job)
    → ReadsShow failed (seen_in try) op entries job → ReadsShow failed (seen_in (e ∷ try)) op entries job
reads_still failed e try op entries job shows =
    subst (λ (l : List Seen). ReadsShow failed l op entries job) (sym (seen_in-cons e try))
    (more_reads failed (seen_at e) (seen_in try) op entries job shows)

-- Jobs that have begun

-- by a kept catalog
pub record HasBegun (known : Known) (job : Job) : Type 0 where
  pub begun : job ≢ at.Start
  pub kept : known.catalog ≢ None

-- what a kept catalog tells needs one
told_some : (o : Option (List CatEntry)) (P : List CatEntry → Type 0) → MatchOption o ⊥ P → o ≢ None
told_some None P told = absurd told
told_some (Some entries) P told = λ e. absurd cc

-- one that asked for a page
page_begun : (known : Known) (op : Op) (job : Job) (addr : Addr) → IsJobIn known op job
    → AsksPageFor known op job addr → HasBegun known job
page_begun known op at.Start addr is asks = absurd asks
page_begun known (Tx name steps) (at.Get d) addr is asks = record { begun = λ e. absurd cc; kept = is.2 }
page_begun known (Snapshot name child) (at.Get d) addr is asks = absurd is
page_begun known (Branch name child) (at.Get d) addr is asks = absurd is
page_begun known (Scan name low high limit) (at.Get d) addr is asks = absurd is
page_begun known Versions (at.Get d) addr is asks = absurd is
page_begun known (Tx name steps) (at.Transaction a) addr is asks =
    record { begun = λ e. absurd cc; kept = told_some known.catalog _ is }
page_begun known (Snapshot name child) (at.Transaction a) addr is asks = absurd is
page_begun known (Branch name child) (at.Transaction a) addr is asks = absurd is
page_begun known (Scan name low high limit) (at.Transaction a) addr is asks = absurd is
page_begun known Versions (at.Transaction a) addr is asks = absurd is
page_begun known op (at.Child c) addr is asks =
    record { begun = λ e. absurd cc; kept = told_some known.catalog _ is }
page_begun known op (at.Scan s) addr is asks = record { begun = λ e. absurd cc; kept = asks.1 }

-- one that asked for a count
count_begun : (known : Known) (op : Op) (job : Job) → IsJobIn known op job → AsksCountFor op job
    → HasBegun known job
count_begun known (Tx name steps) (at.Transaction a) is asks =
    record { begun = λ e. absurd cc; kept = told_some known.catalog _ is }
count_begun known op (at.Transaction a) is asks = absurd is
count_begun known op (at.Child c) is asks =
    record { begun = λ e. absurd cc; kept = told_some known.catalog _ is }
count_begun known op job is asks = absurd asks

-- it asked for the catalog, where it had to
asked_begun : (nodes failed : ℕ) (op : Op) (now : List Entry) (from : Origin) (try : List Entry)
    (entries : List CatEntry) (job : Job) → job ≢ at.Start
    → JobAsked nodes failed op now from try (Some entries) job
    → HasAsked failed op from try × AreOverNodes nodes failed now
asked_begun nodes failed op now from try entries at.Start begun asked = absurd (begun refl)
asked_begun nodes failed op now from try entries (at.Get d) begun asked = asked
asked_begun nodes failed op now from try entries (at.Transaction a) begun asked = asked
asked_begun nodes failed op now from try entries (at.Child c) begun asked = asked
asked_begun nodes failed op now from try entries (at.Scan s) begun asked = asked

-- a job that has begun, by a kept catalog
pub asked_any : (nodes failed : ℕ) (op : Op) (now : List Entry) (from : Origin) (try : List Entry)
    (catalog : Option (List CatEntry)) (job : Job) → job ≢ at.Start → catalog ≢ None
    → HasAsked failed op from try × AreOverNodes nodes failed now
    → JobAsked nodes failed op now from try catalog job
asked_any nodes failed op now from try None job begun some asked = absurd (some refl)
asked_any nodes failed op now from try (Some entries) at.Start begun some asked = absurd (begun refl)
asked_any nodes failed op now from try (Some entries) (at.Get d) begun some asked = asked
asked_any nodes failed op now from try (Some entries) (at.Transaction a) begun some asked = asked
asked_any nodes failed op now from try (Some entries) (at.Child c) begun some asked = asked
asked_any nodes failed op now from try (Some entries) (at.Scan s) begun some asked = asked

-- a try with no entry has asked for nothing
asked_anew : (nodes : ℕ) (op : Op) (now : List Entry) (from : Origin)
    (catalog : Option (List CatEntry)) (job : Job) → HasAsked 0 op from []
    → JobAsked nodes 0 op now from [] catalog job
asked_anew nodes op now from None job asked = refl
asked_anew nodes op now from (Some entries) at.Start asked = refl
asked_anew nodes op now from (Some entries) (at.Get d) asked = (asked, tt)
asked_anew nodes op now from (Some entries) (at.Transaction a) asked = (asked, tt)
asked_anew nodes op now from (Some entries) (at.Child c) asked = (asked, tt)
asked_anew nodes op now from (Some entries) (at.Scan s) asked = (asked, tt)

-- one that is still to ask has sent nothing
sent_none : (nodes failed : ℕ) (op : Op) (now : List Entry) (from : Origin) (try : List Entry)
    (catalog : Option (List CatEntry)) (job : Job) → IsToAsk catalog job
    → JobAsked nodes failed op now from try catalog job → HasSentNone try
sent_none nodes failed op now from try None job to_ask asked = asked
sent_none nodes failed op now from try (Some entries) at.Start to_ask asked = asked
sent_none nodes failed op now from try (Some entries) (at.Get d) (inl start) asked = absurd cc
sent_none nodes failed op now from try (Some entries) (at.Get d) (inr none) asked = absurd cc
sent_none nodes failed op now from try (Some entries) (at.Transaction a) (inl start) asked = absurd cc
sent_none nodes failed op now from try (Some entries) (at.Transaction a) (inr none) asked = absurd cc
sent_none nodes failed op now from try (Some entries) (at.Child c) (inl start) asked = absurd cc
sent_none nodes failed op now from try (Some entries) (at.Child c) (inr none) asked = absurd cc
sent_none nodes failed op now from try (Some entries) (at.Scan s) (inl start) asked = absurd cc
sent_none nodes failed op now from try (Some entries) (at.Scan s) (inr none) asked = absurd cc

-- a read of a page or a count asks for no catalog
read_spares : (e : Entry) (place : Place) (bytes : List ℕ) → IsApart place
    → IsReadOf e place bytes ⊎ IsPeekOf e place bytes
    → list_all (λ c. not (is_catalog_call c)) (call_in e.node e.what) ≡ true
read_spares e place bytes apart (inl (tid, long, is)) =
    ap (list_all (λ (c : Call). not (is_catalog_call c))) is
    ∙ ap (λ b. not b && true) (place_spared place.node tid place (Ask.Exec tid (Bare.Read place.start place.length ∷ [])) apart refl)
read_spares e place bytes apart (inr (long, is)) =
    ap (list_all (λ (c : Call). not (is_catalog_call c))) is
    ∙ ap (λ b. not b && true) (and_false (nat_eq place.node.0 0))

-- Jobs that took something

-- a job that took a page has begun, and stands where it stood where it goes on
page_stands : (known : Known) (later : Bool) (addr : Addr) (bytes : List ℕ) (op : Op) (taken : List Entry)
    (before after : Job) → JobTakes known later addr bytes op before after Taken.GoesOn
    → StandsAt op taken before → Began op taken after
page_stands known later addr bytes (Tx name steps) taken (at.Get d) (at.Get f) takes stands = (stands, λ e. absurd cc)
page_stands known later addr bytes (Tx name steps) taken (at.Transaction a) (at.Transaction b) takes stands =
    (stands, λ e. absurd cc)
page_stands known later addr bytes op taken (at.Child c) (at.Child d) takes stands = (stands, λ e. absurd cc)
page_stands known later addr bytes (Scan name low high limit) taken (at.Scan s) (at.Scan t) takes stands =
    (stands_alike (Scan name low high limit) taken s t takes.stays stands, λ e. absurd cc)
page_stands known later addr bytes op taken before after takes stands = absurd takes

-- so does one that took a count
count_stands : (op : Op) (bytes : List ℕ) (taken : List Entry) (before after : Job)
    → JobCounts bytes before after Taken.GoesOn → StandsAt op taken before → Began op taken after
count_stands op bytes taken (at.Transaction a) (at.Transaction b) counts stands = (stands, λ e. absurd cc)
count_stands op bytes taken (at.Child c) (at.Child d) counts stands = (stands, λ e. absurd cc)
count_stands op bytes taken before after counts stands = absurd counts

-- one more entry takes nothing from what a scan has shown
scan_begun_on : (e : Entry) (now : List Entry) (spoiled : Bool) (op : Op) (job : Job) → job ≢ at.Start
    → ScanShown now spoiled op job → ScanShown (e ∷ now) spoiled op job
scan_begun_on e now spoiled (Scan name low high limit) at.Start begun shown = absurd (begun refl)
scan_begun_on e now spoiled (Scan name low high limit) (at.Scan s) begun shown =
    scan_shown_on e now spoiled (Scan name low high limit) s shown
scan_begun_on e now spoiled op job begun shown = tt

-- What the bytes tell

-- where a leaf was taken a new count of tries begins
abbrev pub BeginsAnew : Op → List Entry → Job → Type 0
BeginsAnew op now job =
    IsWhole op now × EndsWithLeaf op now × LeafIsNewest op [] × HasNoLeaf op []
    × ((older : List Entry) → MayBeKept older op now []) × StandsAt op now job

-- what the list shows of the job then: its reads, the reply, or the fault that the try met
abbrev pub JobTold : ℕ → ℕ → Op → List CatEntry → Entry → List Entry → List Entry → Bool → Job → Taken
    → Type 0
JobTold nodes failed op entries e now try spoiled job Taken.GoesOn =
    ReadsShow failed (seen_in (e ∷ try)) op entries job × ScanShown (e ∷ now) spoiled op job
    × HasNoLeaf op (e ∷ try)
JobTold nodes failed op entries e now try spoiled job Taken.Leaf =
    ReadsShow 0 [] op entries job × ScanShown (e ∷ now) spoiled op job × BeginsAnew op (e ∷ now) job
JobTold nodes failed op entries e now try spoiled job (Taken.Replies reply) =
    (seen : Seen) × (seen_at e ≡ seen ∷ [])
    × ((before : List Entry) → ShowsCatalog (e ∷ before) entries → ReadShows before seen op reply)
JobTold nodes failed op entries e now try spoiled job (Taken.Fails cause) =
    FailsBy nodes failed (seen_in (e ∷ try)) op (IsKeyAt op job) cause

-- a Snapshot or a Branch is no scan
child_alone : (known : Known) (op : Op) (c : Child) → IsJobIn known op (at.Child c)
    → (name : List ℕ) (low high : Option (List ℕ)) (limit : ℕ) → op ≡ Scan name low high limit → ⊥
child_alone known op c is name low high limit same =
    by known.catalog (subst (λ (o : Op). IsJobIn known o (at.Child c)) same is)
  where
    by : (o : Option (List CatEntry))
        → MatchOption o ⊥ (λ es. children.IsUnderWay known.nodes es (Scan name low high limit) c) → ⊥
    by None way = way
    by (Some es) way = way.makes

-- so no leaf counts in its tries
no_leaf_in_child : (known : Known) (op : Op) (c : Child) (es : List Entry) → IsJobIn known op (at.Child c)
    → HasNoLeaf op es
no_leaf_in_child known (Tx name steps) c es is = tt
no_leaf_in_child known (Snapshot name child) c es is = tt
no_leaf_in_child known (Branch name child) c es is = tt
no_leaf_in_child known (Scan name low high limit) c es is =
    absurd (child_alone known (Scan name low high limit) c is name low high limit refl)
no_leaf_in_child known Versions c es is = tt

-- of these jobs nothing more is shown
child_shown : (now : List Entry) (spoiled : Bool) (op : Op) (c : Child) → ScanShown now spoiled op (at.Child c)
child_shown now spoiled (Tx name steps) c = tt
child_shown now spoiled (Snapshot name child) c = tt
child_shown now spoiled (Branch name child) c = tt
child_shown now spoiled (Scan name low high limit) c = tt
child_shown now spoiled Versions c = tt

module _ (nodes failed : ℕ) (op : Op) (entries : List CatEntry) (e : Entry) (now try : List Entry)
    (spoiled : Bool) where
  -- of a job that is no scan's
  of_taken : (job : Job) (taken : Taken) → TakenShown nodes failed (seen_in (e ∷ try)) op entries job taken
      → ScanShown (e ∷ now) spoiled op job → HasNoLeaf op (e ∷ try)
      → JobTold nodes failed op entries e now try spoiled job taken
  of_taken job Taken.GoesOn reads shown none = (reads, shown, none)
  of_taken job Taken.Leaf reads shown none = absurd reads
  of_taken job (Taken.Replies reply) reads shown none = absurd reads
  of_taken job (Taken.Fails None) reads shown none = tt
  of_taken job (Taken.Fails (Some cause)) reads shown none = reads

-- the bytes of a page that a job asked for
module _ (known : Known) (failed : ℕ) (entries : List CatEntry) (kept : known.catalog ≡ Some entries)
    (e : Entry) (now try : List Entry) (spoiled : Bool) (addr : Addr) (bytes : List ℕ) where
  -- of a lone Get
  get_told : (op : Op) (d f : Descent) (taken : Taken)
      → CameAs failed e (seen_page addr bytes) (at.Get d) (reads_for.Page addr) → IsJobIn known op (at.Get d)
      → d.addr ≡ addr → JobTakes known (is_later failed) addr bytes op (at.Get d) (at.Get f) taken
      → ReadsShow failed (seen_in try) op entries (at.Get d)
      → JobTold known.nodes failed op entries e now try spoiled (at.Get f) taken
  get_told (Tx name steps) d f taken came is here takes reads =
      by taken
      (get_takes_for known.nodes failed (seen_in (e ∷ try)) entries d f known (Tx name steps) addr bytes taken kept here more.1
      (is_among failed e try (seen_page addr bytes) (at.Get d) (reads_for.Page addr) came) takes)
    where
      more : ReadsShow failed (seen_in (e ∷ try)) (Tx name steps) entries (at.Get d)
      more = reads_still failed e try (Tx name steps) entries (at.Get d) reads

      by : (t : Taken)
          → GetIsToldBy known.nodes failed (seen_in (e ∷ try)) (Tx name steps) entries addr bytes d f t
          → JobTold known.nodes failed (Tx name steps) entries e now try spoiled (at.Get f) t
      by Taken.GoesOn told = ((more.0, told.0), tt, tt)
      by Taken.Leaf told = absurd told
      by (Taken.Replies reply) told = from came
        where
          from : CameAs failed e (seen_page addr bytes) (at.Get d) (reads_for.Page addr)
              → JobTold known.nodes failed (Tx name steps) entries e now try spoiled (at.Get f) (Taken.Replies reply)
          from (inl read) = (seen_page addr bytes, read, λ before shows. told.0 e before read shows)
          from (inr peeked) = absurd (clash (may_be_leaf d.above) told.1 peeked.2)
      by (Taken.Fails None) told = absurd told
      by (Taken.Fails (Some cause)) told = told
  get_told (Snapshot name child) d f taken came is here takes reads = absurd is
  get_told (Branch name child) d f taken came is here takes reads = absurd is
  get_told (Scan name low high limit) d f taken came is here takes reads = absurd is
  get_told Versions d f taken came is here takes reads = absurd is

  -- of a scan
  scan_told : (op : Op) (s t : ScanState) (taken : Taken)
      → CameAs failed e (seen_page addr bytes) (at.Scan s) (reads_for.Page addr)
      → IsNeeded s addr
      → JobTakes known (is_later failed) addr bytes op (at.Scan s) (at.Scan t) taken
      → ReadsShow failed (seen_in try) op entries (at.Scan s) → ScanShown now spoiled op (at.Scan s)
      → HasNoLeaf op try → JobTold known.nodes failed op entries e now try spoiled (at.Scan t) taken
  scan_told (Scan name low high limit) s t taken came needed takes reads shown leafless =
      by taken takes
      (scan_takes_for known.nodes failed (seen_in (e ∷ try)) entries known (e ∷ now) spoiled s t (Scan name low high limit) addr bytes taken kept needed
      (scan_shown_on e now spoiled (Scan name low high limit) s shown) more.1
      (is_among failed e try (seen_page addr bytes) (at.Scan s) (reads_for.Page addr) came) (newest came) takes)
    where
      more : ReadsShow failed (seen_in (e ∷ try)) (Scan name low high limit) entries (at.Scan s)
      more = reads_still failed e try (Scan name low high limit) entries (at.Scan s) reads

      newest : CameAs failed e (seen_page addr bytes) (at.Scan s) (reads_for.Page addr)
          → IsNewestPage (e ∷ now) addr bytes ⊎ (may_be_leaf s.above ≡ false)
      newest (inl read) = inl (e, now, refl, read)
      newest (inr peeked) = inr peeked.2

      no_leaf : CameAs failed e (seen_page addr bytes) (at.Scan s) (reads_for.Page addr)
          → SpellsHigh bytes → BringsLeaf e → ⊥
      no_leaf (inl read) high = high_no_leaf e addr bytes read high
      no_leaf (inr peeked) high = silent_no_leaf e peeked.0

      by : (x : Taken)
          → JobTakes known (is_later failed) addr bytes (Scan name low high limit) (at.Scan s) (at.Scan t) x
          → ScanIsToldBy known.nodes failed (seen_in (e ∷ try)) (Scan name low high limit) entries (e ∷ now) spoiled bytes t x
          → JobTold known.nodes failed (Scan name low high limit) entries e now try spoiled (at.Scan t) x
      by Taken.GoesOn takes told = (
        (more.0, told.1),
        told.0,
        leafless_on (Scan name low high limit) e try (no_leaf came told.2) leafless,
      )
      by Taken.Leaf takes told = ((tt, (takes.above, tt)), told.0, (tt, told.1, tt, tt, λ older. tt, told.2))
      by (Taken.Replies reply) takes told = absurd told
      by (Taken.Fails cause) takes told = told.1
  scan_told (Tx name steps) s t taken came needed takes reads shown leafless = absurd takes
  scan_told (Snapshot name child) s t taken came needed takes reads shown leafless = absurd takes
  scan_told (Branch name child) s t taken came needed takes reads shown leafless = absurd takes
  scan_told Versions s t taken came needed takes reads shown leafless = absurd takes

  -- of any job
  pub page_told : (op : Op) (before after : Job) (taken : Taken)
      → CameAs failed e (seen_page addr bytes) before (reads_for.Page addr) → IsJobIn known op before
      → AsksPageFor known op before addr
      → JobTakes known (is_later failed) addr bytes op before after taken
      → ReadsShow failed (seen_in try) op entries before → ScanShown now spoiled op before
      → HasNoLeaf op try → JobTold known.nodes failed op entries e now try spoiled after taken
  page_told (Tx name steps) (at.Get d) (at.Get f) taken came is asks takes reads shown leafless =
      get_told (Tx name steps) d f taken came is asks takes reads
  page_told (Tx name steps) (at.Transaction a) (at.Transaction b) taken came is asks takes reads shown leafless =
      of_taken known.nodes failed (Tx name steps) entries e now try spoiled (at.Transaction b) taken
      (steps_take_for known.nodes failed (seen_in (e ∷ try)) entries known kept refl a b (Tx name steps) addr bytes taken takes
      (is_among failed e try (seen_page addr bytes) (at.Transaction a) (reads_for.Page addr) came)
      (reads_still failed e try (Tx name steps) entries (at.Transaction a) reads)) tt tt
  page_told op (at.Child c) (at.Child d) taken came is asks takes reads shown leafless =
      of_taken known.nodes failed op entries e now try spoiled (at.Child d) taken
      (child_takes_for known.nodes failed (seen_in (e ∷ try)) op entries c d known kept refl is addr bytes taken asks takes
      (is_among failed e try (seen_page addr bytes) (at.Child c) (reads_for.Page addr) came)
      (reads_still failed e try op entries (at.Child c) reads))
      (child_shown (e ∷ now) spoiled op d) (no_leaf_in_child known op c (e ∷ try) is)
  page_told (Scan name low high limit) (at.Scan s) (at.Scan t) taken came is asks takes reads shown leafless =
      scan_told (Scan name low high limit) s t taken came asks.0 takes reads shown leafless
  page_told op before after taken came is asks takes reads shown leafless = absurd takes

-- the bytes of a count that a job asked for
module _ (known : Known) (failed : ℕ) (entries : List CatEntry) (e : Entry) (now try : List Entry)
    (spoiled : Bool) (bytes : List ℕ) where
  -- of a transaction, a Snapshot or a Branch
  pub count_told : (op : Op) (before after : Job) (taken : Taken)
      → CameAs failed e (seen_count (counts_of before) bytes) before reads_for.Count → IsJobIn known op before
      → AsksCountFor op before → JobCounts bytes before after taken
      → ReadsShow failed (seen_in try) op entries before
      → JobTold known.nodes failed op entries e now try spoiled after taken
  count_told (Tx name steps) (at.Transaction a) (at.Transaction b) taken came is asks counts reads =
      of_taken known.nodes failed (Tx name steps) entries e now try spoiled (at.Transaction b) taken
      (steps_count_for known.nodes failed (seen_in (e ∷ try)) (Tx name steps) entries a b bytes taken counts
      (is_among failed e try (seen_count a.counts.items bytes) (at.Transaction a) reads_for.Count came)
      (reads_still failed e try (Tx name steps) entries (at.Transaction a) reads)) tt tt
  count_told op (at.Child c) (at.Child d) taken came is asks counts reads =
      of_taken known.nodes failed op entries e now try spoiled (at.Child d) taken
      (child_counts_for known.nodes failed (seen_in (e ∷ try)) op entries c d bytes taken counts
      (is_among failed e try (seen_count c.counts.items bytes) (at.Child c) reads_for.Count came)
      (reads_still failed e try op entries (at.Child c) reads))
      (child_shown (e ∷ now) spoiled op d) (no_leaf_in_child known op c (e ∷ try) is)
  count_told op (at.Transaction a) (at.Transaction b) taken came is asks counts reads = absurd is
  count_told op before after taken came is asks counts reads = absurd counts

-- The operation under way, with what was read

-- the same operation and number of tries
same_work : (w v : Work) → v.op ≡ w.op → v.failed ≡ w.failed
    → record { op = w.op; failed = w.failed; spoiled = v.spoiled; job = v.job } ≡ v
same_work w v op failed =
    ap (λ (o : Op). record { op = o; failed = w.failed; spoiled = v.spoiled; job = v.job }) (sym op)
    ∙ ap (λ (n : ℕ). record { op = v.op; failed = n; spoiled = v.spoiled; job = v.job }) (sym failed)

-- the same number of nodes
same_known : (known new : Known) → new.nodes ≡ known.nodes
    → record { nodes = known.nodes; catalog = new.catalog; cache = new.cache } ≡ new
same_known known new nodes =
    ap (λ (n : ℕ). record { nodes = n; catalog = new.catalog; cache = new.cache }) (sym nodes)

module _ (e : Entry) (bs : List Entry) (old new : Known) (before after : Work)
    (o : IsOpen bs old before) (goes : GoesOn e.what)
    (good : list_all (λ c. not (is_refusal c.reply)) (call_in e.node e.what) ≡ true)
    (peeks : NoPeek before.failed e) (first : asks_at_first (calls_of (e ∷ o.try)) ≡ true)
    (nodes : new.nodes ≡ old.nodes) (keeps : KeepsOp before after) where
  -- the entry is one of the operation
  since : since_begin (e ∷ bs) ≡ e ∷ since_begin bs
  since = since_on e bs goes

  -- and one of its try
  tried : IsTrying old.nodes before.op o.began.from before.failed (since_begin (e ∷ bs)) (e ∷ o.try)
  tried =
      tried_on bs old.nodes before.op o.began.from before.failed o.try e since
      (trying_on old.nodes before.op o.began.from before.failed (since_begin bs) o.try e o.trying o.leafless good peeks first)

  -- the same operation is under way
  under_way_now : IsUnderWay (e ∷ bs) after.op
  under_way_now =
      subst (λ (x : Op). IsUnderWay (e ∷ bs) x) (sym keeps.0) (under_way_still e bs before.op goes o.of)

  -- the try goes on with it
  pub open_with : StandsAt before.op o.began.from.taken after.job
      → JobAsked old.nodes before.failed before.op (e ∷ since_begin bs) o.began.from (e ∷ o.try) new.catalog after.job
      → ScanShown (e ∷ since_begin bs) after.spoiled before.op after.job
      → ReadsShowBy new before.failed (seen_in (e ∷ o.try)) before.op after.job
      → HasNoLeaf before.op (e ∷ o.try) → KeptIsLast (e ∷ bs) new → JobIsLast (e ∷ bs) after.job
      → IsOpen (e ∷ bs) new after
  open_with place asked shown reads leafless kept_last job_last =
      subst (λ (k : Known). IsOpen (e ∷ bs) k after) (same_known old new nodes)
      (subst (λ (w : Work). IsOpen (e ∷ bs) (record { nodes = old.nodes; catalog = new.catalog; cache = new.cache }) w) (same_work before after keeps.0 keeps.1)
      (record {
        of = under_way_still e bs before.op goes o.of;
        began = record {
          from = o.began.from;
          all = all_on e bs o.began.from.older goes o.began.all;
          place = place;
        };
        try = e ∷ o.try;
        trying = tried;
        leafless = leafless;
        asked = subst (λ (l : List Entry). JobAsked old.nodes before.failed before.op l o.began.from (e ∷ o.try) new.catalog after.job) (sym since) asked;
        shows = (subst (λ (l : List Entry). ScanShown l after.spoiled before.op after.job) (sym since) shown, reads);
        last = (kept_last, job_last);
      }))

  -- the tries behind a leaf that was taken begin here
  abbrev behind : Origin
  behind = record { taken = since_begin (e ∷ bs); older = o.began.from.older }

  -- a leaf that was taken begins a new count of tries
  pub open_anew : BeginsAnew before.op (e ∷ since_begin bs) after.job
      → ScanShown (e ∷ since_begin bs) after.spoiled before.op after.job
      → ReadsShowBy new 0 [] before.op after.job → KeptIsLast (e ∷ bs) new
      → JobIsLast (e ∷ bs) after.job
      → IsOpen (e ∷ bs) new (record { op = after.op; failed = 0; spoiled = after.spoiled; job = after.job })
  open_anew anew shown reads kept_last job_last =
      subst (λ (x : Op). IsOpen (e ∷ bs) new (record { op = x; failed = 0; spoiled = after.spoiled; job = after.job })) (sym keeps.0)
      (record {
        of = under_way_still e bs before.op goes o.of;
        began = record {
          from = behind;
          all = all_on e bs o.began.from.older goes o.began.all;
          place = now.5;
        };
        try = [];
        trying = record {
          before = since_begin (e ∷ bs);
          split = refl;
          have_failed = (refl, now.0, now.1);
          unrefused = refl;
          asks_first = refl;
          peeks = tt;
          leaf = now.2;
        };
        leafless = now.3;
        asked = asked_anew new.nodes before.op (since_begin (e ∷ bs)) behind new.catalog after.job (now.4 o.began.from.older);
        shows = (subst (λ (l : List Entry). ScanShown l after.spoiled before.op after.job) (sym since) shown, reads);
        last = (kept_last, job_last);
      })
    where
      now : BeginsAnew before.op (since_begin (e ∷ bs)) after.job
      now = subst (λ (l : List Entry). BeginsAnew before.op l after.job) (sym since) anew

  -- a read shows the reply
  pub replied_with : (reply : Reply) (seen : Seen) → seen_at e ≡ seen ∷ [] → ReadShows bs seen before.op reply
      → SomeReadShows (e ∷ bs) (since_begin (e ∷ bs)) after.op reply
  replied_with reply seen read shows =
      subst (λ (x : Op). SomeReadShows (e ∷ bs) (since_begin (e ∷ bs)) x reply) (sym keeps.0)
      (record {
        entry = e;
        newer = [];
        older = since_begin bs;
        before = bs;
        since = since;
        split = refl;
        seen = seen;
        brought = subst (λ (l : List Seen). Contains l seen) (sym read) (0, lit< tt, refl);
        shows = shows;
      })

  -- the try failed by it
  fault_as : (failed : ℕ) (cause : Option Busy) (busy : Busy) (IsKey : List ℕ → Type 0)
      → ((key : List ℕ) → IsKey key → IsKeyOf before.op o.began.from.taken key)
      → FailsBy old.nodes failed (seen_in (e ∷ o.try)) before.op IsKey cause → IfLater failed (cause ≡ Some busy)
      → IfLater failed (MeetsFault old.nodes (seen_in (e ∷ o.try)) before.op (IsKeyOf before.op o.began.from.taken) busy)
  fault_as zero cause busy IsKey keys fails is = tt
  fault_as (suc n) None busy IsKey keys fails is = absurd cc
  fault_as (suc n) (Some cause) busy IsKey keys fails is =
      let same : cause ≡ busy = some_same cause busy is in
      subst (λ (b : Busy). MeetsFault old.nodes (seen_in (e ∷ o.try)) before.op (IsKeyOf before.op o.began.from.taken) b) same
      (fault_on (seen_in (e ∷ o.try)) (seen_in (e ∷ o.try)) before.op (λ s has. has) old.nodes IsKey (IsKeyOf before.op o.began.from.taken) cause keys fails)
    where
      some_same : (a b : Busy) → Some a ≡ Some b → a ≡ b
      some_same a b e = cc

  -- so the try has failed, by what it met
  abbrev Met : ℕ → ℕ → Op → Busy → Type 0
  Met n failed op busy =
      (try : List Entry) × IsTrying n op o.began.from failed (since_begin (e ∷ bs)) try × HasAsked failed op o.began.from try
      × IfLater failed (MeetsFault n (seen_in try) op (IsKeyOf op o.began.from.taken) busy)

  -- so it may be tried again, or given up
  pub failed_with : (cause : Option Busy) → StandsAt before.op o.began.from.taken (retried_job after.job)
      → HasAsked before.failed before.op o.began.from (e ∷ o.try)
      → FailsBy old.nodes before.failed (seen_in (e ∷ o.try)) before.op (IsKeyAt before.op after.job) cause
      → ScanShown (e ∷ since_begin bs) after.spoiled after.op (retried_job after.job)
      → AreClosed (since_begin (e ∷ bs)) → AreOverNodes old.nodes before.failed (since_begin (e ∷ bs))
      → HasFailed (e ∷ bs) new after cause
  failed_with cause place asked fails shown closed over = record {
    of = under_way_now;
    closed = closed;
    over = subst (λ (n : ℕ). AreOverNodes n after.failed (since_begin (e ∷ bs))) (sym nodes)
        (subst (λ (n : ℕ). AreOverNodes old.nodes n (since_begin (e ∷ bs))) (sym keeps.1) over);
    began = record {
      from = o.began.from;
      all = all_on e bs o.began.from.older goes o.began.all;
      place = subst (λ (x : Op). StandsAt x o.began.from.taken (retried_job after.job)) (sym keeps.0) place;
    };
    failed_by = λ busy is. inr (by busy is);
    scan = subst (λ (l : List Entry). ScanShown l after.spoiled after.op (retried_job after.job)) (sym since) shown;
  }
    where
      keys : (key : List ℕ) → IsKeyAt before.op after.job key → IsKeyOf before.op o.began.from.taken key
      keys key is = key_is before.op o.began.from.taken (retried_job after.job) key place (key_again before.op after.job key is)

      by_old : (busy : Busy) → IfLater before.failed (cause ≡ Some busy)
          → Met old.nodes before.failed before.op busy
      by_old busy is =
          (e ∷ o.try, tried, asked, fault_as before.failed cause busy (IsKeyAt before.op after.job) keys fails is)

      by : (busy : Busy) → IfLater after.failed (cause ≡ Some busy)
          → Met new.nodes after.failed after.op busy
      by busy is =
          subst (λ (n : ℕ). Met n after.failed after.op busy) (sym nodes)
          (subst (λ (x : Op). Met old.nodes after.failed x busy) (sym keeps.0)
          (subst (λ (n : ℕ). Met old.nodes n before.op busy) (sym keeps.1)
          (by_old busy (subst (λ (n : ℕ). IfLater n (cause ≡ Some busy)) keeps.1 is))))

-- What came of it

-- the try goes on, or took a leaf
abbrev pub GoesFurther : Taken → Type 0
GoesFurther Taken.GoesOn = ⊤
GoesFurther Taken.Leaf = ⊤
GoesFurther taken = ⊥

-- the try goes on, or begins anew behind a leaf; a read shows the reply; or the try failed
abbrev pub TakenTells : List Entry → Known → Work → Taken → Type 0
TakenTells es known w Taken.GoesOn = IsAtRest es known w
TakenTells es known w Taken.Leaf =
    IsAtRest es known (record { op = w.op; failed = 0; spoiled = w.spoiled; job = w.job })
TakenTells es known w (Taken.Replies reply) =
    IsUnderWay es w.op × SomeReadShows es (since_begin es) w.op reply
TakenTells es known w (Taken.Fails cause) = HasFailed es known w cause

-- a page or a count
module _ (e : Entry) (bs : List Entry) (old new : Known) (before after : Work) (seen : Seen)
    (purpose : Purpose) (o : IsOpen bs old before) (read : IsRead before.failed e seen before.job purpose)
    (spares : list_all (λ c. not (is_catalog_call c)) (call_in e.node e.what) ≡ true)
    (kept : KeepsKnown old new) (keeps : KeepsOp before after) (spoiled : after.spoiled ≡ before.spoiled)
    (is : IsJobOf old before) (begun : HasBegun old before.job)
    (closed : AreClosed (since_begin (e ∷ bs)))
    (over : AreOverNodes old.nodes before.failed (since_begin (e ∷ bs)))
    (own : MatchOption old.catalog ⊤ (IsKept (e ∷ bs))) (kept_last : KeptIsLast (e ∷ bs) new) where
  -- its try asks for the catalog with no other call than its first
  first_still : asks_at_first (calls_of (e ∷ o.try)) ≡ true
  first_still = spares_on e o.try spares o.trying.asks_first

  -- the minitransactions were over so many nodes
  over_now : AreOverNodes old.nodes before.failed (e ∷ since_begin bs)
  over_now = subst (λ (l : List Entry). AreOverNodes old.nodes before.failed l) (since_on e bs read.goes) over

  module _ (entries : List CatEntry) (catalog : old.catalog ≡ Some entries) where
    -- what the job had read
    reads : ReadsShow before.failed (seen_in o.try) before.op entries before.job
    reads =
        subst (λ (c : Option (List CatEntry)). MatchOption c (IsStartable before.op before.job) (λ x. ReadsShow before.failed (seen_in o.try) before.op x before.job)) catalog o.shows.1

    -- the list shows the catalog
    shown_catalog : ShowsCatalog (e ∷ bs) entries
    shown_catalog =
        (subst (λ (c : Option (List CatEntry)). MatchOption c ⊤ (IsKept (e ∷ bs))) catalog own).0

    -- the try asked for it, where it had to
    has_asked_now : HasAsked before.failed before.op o.began.from (e ∷ o.try)
    has_asked_now =
        asked_on before.failed before.op o.began.from o.try e
        (asked_begun old.nodes before.failed before.op (since_begin bs) o.began.from o.try entries before.job begun.begun
        (subst (λ (c : Option (List CatEntry)). JobAsked old.nodes before.failed before.op (since_begin bs) o.began.from o.try c before.job) catalog o.asked)).0

    -- it is kept still
    new_catalog : new.catalog ≡ Some entries
    new_catalog = kept.1 ∙ catalog

    some_now : new.catalog ≢ None
    some_now none = begun.kept (sym kept.1 ∙ none)

    -- a catalog that was none was read before, or not
    spoiled_as : (job : Job) → ScanShown (e ∷ since_begin bs) before.spoiled before.op job
        → ScanShown (e ∷ since_begin bs) after.spoiled before.op job
    spoiled_as job shown =
        subst (λ (b : Bool). ScanShown (e ∷ since_begin bs) b before.op job) (sym spoiled) shown

    -- by what its bytes tell of the job
    job_tells : (taken : Taken)
        → ((cause : Option Busy) → taken ≡ Taken.Fails cause → retried_job after.job ≡ retried_job before.job)
        → (taken ≡ Taken.GoesOn → Began before.op o.began.from.taken after.job)
        → JobTold old.nodes before.failed before.op entries e (since_begin bs) o.try before.spoiled after.job taken
        → (GoesFurther taken → JobIsLast (e ∷ bs) after.job) → TakenTells (e ∷ bs) new after taken
    job_tells Taken.GoesOn retried stands told job_last = (
      open_with e bs old new before after o read.goes read.good read.peeks first_still kept.0 keeps (stands refl).0
          (asked_any old.nodes before.failed before.op (e ∷ since_begin bs) o.began.from (e ∷ o.try) new.catalog after.job (stands refl).1 some_now (has_asked_now, over_now))
          (spoiled_as after.job told.1)
          (subst (λ (c : Option (List CatEntry)). MatchOption c (IsStartable before.op after.job) (λ x. ReadsShow before.failed (seen_in (e ∷ o.try)) before.op x after.job)) (sym new_catalog) told.0)
          told.2 kept_last (job_last tt),
      closed,
    )
    job_tells Taken.Leaf retried stands told job_last = (
      open_anew e bs old new before after o read.goes read.good read.peeks first_still kept.0 keeps told.2
          (spoiled_as after.job told.1)
          (subst (λ (c : Option (List CatEntry)). MatchOption c (IsStartable before.op after.job) (λ x. ReadsShow 0 [] before.op x after.job)) (sym new_catalog) told.0)
          kept_last (job_last tt),
      closed,
    )
    job_tells (Taken.Replies reply) retried stands told job_last = (
      subst (λ (x : Op). IsUnderWay (e ∷ bs) x) (sym keeps.0) (under_way_still e bs before.op read.goes o.of),
      replied_with e bs old new before after o read.goes read.good read.peeks first_still kept.0 keeps reply told.0 told.1
          (told.2 bs shown_catalog),
    )
    job_tells (Taken.Fails cause) retried stands told job_last =
        failed_with e bs old new before after o read.goes read.good read.peeks first_still kept.0 keeps cause
        (subst (StandsAt before.op o.began.from.taken) (sym (retried cause refl)) (stands_again before.op o.began.from.taken before.job o.began.place))
        has_asked_now told
        (retried_scan_as old (e ∷ since_begin bs) before after is keeps.0 spoiled (retried cause refl)
        (scan_begun_on e (since_begin bs) before.spoiled before.op before.job begun.begun o.shows.0))
        closed over

  -- a catalog is kept
  some_kept : (c : Option (List CatEntry)) → old.catalog ≡ c → (entries : List CatEntry) × (old.catalog ≡ Some entries)
  some_kept None none = absurd (begun.kept none)
  some_kept (Some entries) catalog = (entries, catalog)

  -- this one
  entries_kept : (entries : List CatEntry) × (old.catalog ≡ Some entries)
  entries_kept = some_kept old.catalog refl

  -- a page
  page_comes : (addr : Addr) (bytes : List ℕ) (taken : Taken) → seen ≡ seen_page addr bytes
      → purpose ≡ reads_for.Page addr → AsksPageFor old before.op before.job addr
      → TakesPageBytes old addr bytes before after taken
      → (GoesFurther taken → JobIsLast (e ∷ bs) after.job) → TakenTells (e ∷ bs) new after taken
  page_comes addr bytes taken of_page for_page asks takes job_last =
      job_tells entries_kept.0 entries_kept.1 taken
      (λ cause fails. (retried_after_page old addr bytes before after cause (subst (TakesPageBytes old addr bytes before after) fails takes)).1)
      (λ goes. page_stands old (is_later before.failed) addr bytes before.op o.began.from.taken before.job after.job
      (subst (JobTakes old (is_later before.failed) addr bytes before.op before.job after.job) goes takes.1) o.began.place)
      (page_told old before.failed entries_kept.0 entries_kept.1 e (since_begin bs) o.try before.spoiled addr bytes before.op before.job after.job taken
      (subst (λ (p : Purpose). CameAs before.failed e (seen_page addr bytes) before.job p) for_page
      (subst (λ (s : Seen). CameAs before.failed e s before.job purpose) of_page read.came))
      is asks takes.1 (reads entries_kept.0 entries_kept.1) o.shows.0 o.leafless) job_last

  -- a count
  count_comes : (bytes : List ℕ) (taken : Taken) → seen ≡ seen_count (counts_of before.job) bytes
      → purpose ≡ reads_for.Count → AsksCountFor before.op before.job → TakesCountBytes bytes before after taken
      → (GoesFurther taken → JobIsLast (e ∷ bs) after.job) → TakenTells (e ∷ bs) new after taken
  count_comes bytes taken of_count for_count asks takes job_last =
      job_tells entries_kept.0 entries_kept.1 taken
      (λ cause fails. (retried_after_count bytes before after taken takes).1)
      (λ goes. count_stands before.op bytes o.began.from.taken before.job after.job
      (subst (JobCounts bytes before.job after.job) goes takes.1) o.began.place)
      (count_told old before.failed entries_kept.0 e (since_begin bs) o.try before.spoiled bytes before.op before.job after.job taken
      (subst (λ (p : Purpose). CameAs before.failed e (seen_count (counts_of before.job) bytes) before.job p) for_count
      (subst (λ (s : Seen). CameAs before.failed e s before.job purpose) of_count read.came))
      is asks takes.1 (reads entries_kept.0 entries_kept.1)) job_last

-- what may begin on a new catalog may still, where the try failed
starts_still : (bytes : List ℕ) (known : Known) (before after : Work) (cause : Option Busy)
    → IsStartable before.op before.job → KeepsOp before after
    → TakesCatalog bytes before known after (Taken.Fails cause) → IsStartable after.op after.job
starts_still bytes known before after cause starts keeps (inl bad) =
    subst (λ (o : Op). IsStartable o after.job) (sym keeps.0)
    (subst (λ (j : Job). IsStartable before.op j) (sym bad.3) starts)
starts_still bytes known before after cause starts keeps (inr read) =
    subst (λ (w : Work). IsStartable w.op w.job) (sym (moved known.catalog read.3.1.1)) starts
  where
    moved : (o : Option (List CatEntry)) → MatchOption o ⊥ (λ entries. IsScan before.job × (after ≡ before))
        → after ≡ before
    moved None is = absurd is
    moved (Some entries) is = is.1

-- a catalog
module _ (e : Entry) (bs : List Entry) (old new : Known) (before after : Work) (bytes : List ℕ)
    (read : IsReadOf e catalog_place bytes) (o : IsOpen bs old before) (nodes : new.nodes ≡ old.nodes)
    (keeps : KeepsOp before after) (starts : IsStartable before.op before.job)
    (to_ask : IsToAsk old.catalog before.job) (closed : AreClosed (since_begin (e ∷ bs)))
    (over : AreOverNodes old.nodes before.failed (since_begin (e ∷ bs)))
    (kept_last : KeptIsLast (e ∷ bs) new) where
  -- the entry read the catalog
  r : IsRead before.failed e (catalog_seen bytes) before.job reads_for.Catalog
  r = is_read before.failed e catalog_place bytes before.job reads_for.Catalog (inl read)

  -- that is its read
  seen_now : seen_at e ≡ catalog_seen bytes ∷ []
  seen_now = read_at e catalog_place bytes read.0 read.2

  -- so the try has asked for it
  asked_now : HasAsked before.failed before.op o.began.from (e ∷ o.try)
  asked_now =
      has_asked before.failed before.op o.began.from (e ∷ o.try)
      (asks_now e o.try read.0 (Say.Done (bytes ∷ [])) read.2)

  -- with its first call
  first_now : asks_at_first (calls_of (e ∷ o.try)) ≡ true
  first_now =
      first_on e o.try _ read.2
      (sent_none old.nodes before.failed before.op (since_begin bs) o.began.from o.try old.catalog before.job to_ask o.asked)

  -- the minitransactions were over so many nodes
  over_since : AreOverNodes old.nodes before.failed (e ∷ since_begin bs)
  over_since = subst (λ (l : List Entry). AreOverNodes old.nodes before.failed l) (since_on e bs r.goes) over

  -- by what its bytes tell
  catalog_comes : (taken : Taken) → TakesCatalog bytes before new after taken
      → (GoesFurther taken → JobIsLast (e ∷ bs) after.job) → TakenTells (e ∷ bs) new after taken
  catalog_comes Taken.GoesOn takes job_last =
      let shows : JobShows new (e ∷ since_begin bs) (e ∷ o.try) after =
      goes_on_shows bytes e seen_now new before after (since_begin bs) o.try starts keeps takes o.shows.0 in
      let stands = goes_on_stands bytes e seen_now new before after (since_begin bs) o.try o.began.from.taken starts takes o.began.place in (
        open_with e bs old new before after o r.goes r.good r.peeks first_now nodes keeps stands.0.0
            (asked_any old.nodes before.failed before.op (e ∷ since_begin bs) o.began.from (e ∷ o.try) new.catalog after.job stands.0.1 stands.1 (asked_now, over_since))
            (subst (λ (x : Op). ScanShown (e ∷ since_begin bs) after.spoiled x after.job) keeps.0 shows.0)
            (subst (λ (x : Op). ReadsShowBy new before.failed (seen_in (e ∷ o.try)) x after.job) keeps.0
            (subst (λ (n : ℕ). ReadsShowBy new n (seen_in (e ∷ o.try)) after.op after.job) keeps.1 shows.1))
            (leafless_on before.op e o.try (catalog_no_leaf e bytes seen_now) o.leafless) kept_last (job_last tt),
        closed,
      )
  catalog_comes Taken.Leaf (inl bad) job_last = let fails = bad.4 in absurd cc
  catalog_comes Taken.Leaf (inr read) job_last = absurd read.3
  catalog_comes (Taken.Replies reply) takes job_last = (
    subst (λ (x : Op). IsUnderWay (e ∷ bs) x) (sym keeps.0) (under_way_still e bs before.op r.goes o.of),
    replied_with e bs old new before after o r.goes r.good r.peeks first_now nodes keeps reply (catalog_seen bytes) seen_now
        (inr (replies_shows bytes e seen_now new before after (since_begin bs) o.try reply takes)),
  )
  catalog_comes (Taken.Fails cause) takes job_last =
      failed_with e bs old new before after o r.goes r.good r.peeks first_now nodes keeps cause
      (subst (λ (j : Job). StandsAt before.op o.began.from.taken (retried_job j)) (sym (fails_same bytes e seen_now new before after (since_begin bs) o.try cause takes)) (stands_again before.op o.began.from.taken before.job o.began.place))
      asked_now (fails cause takes)
      (retried_scan new (e ∷ since_begin bs) after
      (starts_right new after (starts_still bytes new before after cause starts keeps takes))
      (fails_scan bytes e seen_now new before after (since_begin bs) o.try cause keeps takes o.shows.0))
      closed over
    where
      fails : (c : Option Busy) → TakesCatalog bytes before new after (Taken.Fails c)
          → FailsBy old.nodes before.failed (seen_in (e ∷ o.try)) before.op (IsKeyAt before.op after.job) c
      fails None takes = tt
      fails (Some busy) takes =
          later_of before.failed (MeetsFault old.nodes (seen_in (e ∷ o.try)) before.op (IsKeyAt before.op after.job) busy)
          (fails_shows bytes e seen_now new before after (since_begin bs) o.try old.nodes before.op (IsKeyAt before.op after.job) busy takes)

-- What was taken, for whatever it was read

-- the place of a count
count_at : (op : Op) (job : Job) (place : Place) → AsksCountFor op job → IsPlaceFor job reads_for.Count place
    → place ≡ count_place (record { 0 = length (counts_of job) })
count_at (Tx name steps) (at.Transaction a) place asks is = is
count_at op (at.Child c) place asks is = is
count_at op job place asks is = absurd asks

-- what was not touched is kept
keeps_same : (old new : Known) → new ≡ old → KeepsKnown old new
keeps_same old new same = (
  ap (λ (k : Known). k.nodes) same,
  ap (λ (k : Known). k.catalog) same,
  λ pages. subst (λ (k : Known). ArePages k.cache) (sym same) pages,
)

-- what the list shows of the operation once its bytes were taken
pub take_tells : (es : List Entry) (old new : Known) (before after : Work) (purpose : Purpose)
    (bytes : List ℕ) (taken : Taken) (r : HasRead es old before purpose bytes)
    → WaitsFor old before purpose → AreClosed (since_begin es)
    → AreOverNodes old.nodes before.failed (since_begin es) → MatchOption old.catalog ⊤ (IsKept es)
    → CameOf old new before after purpose bytes taken → KeptIsLast es new
    → TakenTells es new after taken
take_tells es old new before after purpose bytes taken r waits closed over own came kept_last =
    subst (λ (l : List Entry). TakenTells l new after taken) (sym r.split)
    (from purpose waits r.is r.came
    (subst (λ (l : List Entry). AreClosed (since_begin l)) r.split closed)
    (subst (λ (l : List Entry). AreOverNodes old.nodes before.failed (since_begin l)) r.split over)
    (subst (λ (l : List Entry). MatchOption old.catalog ⊤ (IsKept l)) r.split own) came
    (subst (λ (l : List Entry). KeptIsLast l new) r.split kept_last)
    (subst (λ (l : List Entry). GoesFurther taken → JobIsLast l after.job) r.split (job_last taken came)))
  where
    job_last : (t : Taken) → CameOf old new before after purpose bytes t → GoesFurther t
        → JobIsLast es after.job
    job_last Taken.GoesOn came goes = job_read es old before purpose bytes r new after waits came
    job_last Taken.Leaf came goes = leaf_read es old new before after purpose bytes came
    job_last (Taken.Replies reply) came goes = absurd goes
    job_last (Taken.Fails cause) came goes = absurd goes

    as_read : (p : Purpose)
        → IsReadOf r.e r.place bytes ⊎ (IsPeekOf r.e r.place bytes × (before.failed ≡ 0) × MayPeekFor before.job p)
        → IsReadOf r.e r.place bytes ⊎ IsPeekOf r.e r.place bytes
    as_read p (inl read) = inl read
    as_read p (inr peeked) = inr peeked.0

    from : (p : Purpose) → WaitsFor old before p → IsPlaceFor before.job p r.place
        → IsReadOf r.e r.place bytes ⊎ (IsPeekOf r.e r.place bytes × (before.failed ≡ 0) × MayPeekFor before.job p)
        → AreClosed (since_begin (r.e ∷ r.before))
        → AreOverNodes old.nodes before.failed (since_begin (r.e ∷ r.before))
        → MatchOption old.catalog ⊤ (IsKept (r.e ∷ r.before)) → CameOf old new before after p bytes taken
        → KeptIsLast (r.e ∷ r.before) new → (GoesFurther taken → JobIsLast (r.e ∷ r.before) after.job)
        → TakenTells (r.e ∷ r.before) new after taken
    from reads_for.Catalog waits is (inl read) closed over own came kept jobs =
        catalog_comes r.e r.before old new before after bytes (subst (λ (p : Place). IsReadOf r.e p bytes) is read)
        r.open_before came.0 came.1 waits.1.0 waits.1.1 closed over kept taken came.2 jobs
    from reads_for.Catalog waits is (inr peeked) closed over own came kept jobs = absurd peeked.2
    from (reads_for.Page addr) waits is read closed over own came kept jobs =
        page_comes r.e r.before old new before after (record { place = r.place; bytes = bytes }) (reads_for.Page addr) r.open_before
        (is_read before.failed r.e r.place bytes before.job (reads_for.Page addr) read)
        (read_spares r.e r.place bytes (page_is_apart r.place addr is) (as_read (reads_for.Page addr) read)) came.0 came.1 came.2.0 waits.0
        (page_begun old before.op before.job addr waits.0 waits.1.0) closed over own kept addr bytes taken
        (ap (λ (p : Place). record { place = p; bytes = bytes }) is) refl waits.1.0 came.2 jobs
    from reads_for.Count waits is read closed over own came kept jobs =
        count_comes r.e r.before old new before after (record { place = r.place; bytes = bytes }) reads_for.Count r.open_before
        (is_read before.failed r.e r.place bytes before.job reads_for.Count read)
        (read_spares r.e r.place bytes (count_is_apart before.job r.place is) (as_read reads_for.Count read)) (keeps_same old new came.0) came.1 came.2.0 waits.0
        (count_begun old before.op before.job waits.0 waits.1.0) closed over own kept bytes taken
        (ap (λ (p : Place). record { place = p; bytes = bytes }) (count_at before.op before.job r.place waits.1.0 is)) refl waits.1.0 came.2 jobs
    from (reads_for.Plan reply) waits is read closed over own came kept jobs = absurd is

-- where it goes on or takes a leaf, its job is one of the operation
pub came_job : (old new : Known) (before after : Work) (purpose : Purpose) (bytes : List ℕ) (taken : Taken)
    → WaitsFor old before purpose → CameOf old new before after purpose bytes taken
    → ((taken ≡ Taken.GoesOn) ⊎ (taken ≡ Taken.Leaf)) → IsJobOf new after
came_job old new before after reads_for.Catalog bytes taken waits came (inl goes) = came.3 goes
came_job old new before after reads_for.Catalog bytes taken waits came (inr leaf) =
    absurd (no_leaf (subst (TakesCatalog bytes before new after) leaf came.2))
  where
    no_leaf : TakesCatalog bytes before new after Taken.Leaf → ⊥
    no_leaf (inl bad) = let fails = bad.4 in cc
    no_leaf (inr read) = read.3
came_job old new before after (reads_for.Page addr) bytes taken waits came goes =
    page_taken old new addr bytes before after taken came.0 waits.0 came.1 came.2 goes
came_job old new before after reads_for.Count bytes taken waits came (inl goes) =
    subst (λ (k : Known). IsJobOf k after) (sym came.0)
    (count_taken old bytes before after waits.0 came.1 waits.1.1 (subst (TakesCountBytes bytes before after) goes came.2))
came_job old new before after reads_for.Count bytes taken waits came (inr leaf) =
    absurd (no_leaf before.job after.job (subst (TakesCountBytes bytes before after) leaf came.2).1)
  where
    no_leaf : (j k : Job) → JobCounts bytes j k Taken.Leaf → ⊥
    no_leaf (at.Transaction a) (at.Transaction b) counts = counts.0
    no_leaf (at.Child c) (at.Child d) counts = counts.0
    no_leaf j k counts = counts
came_job old new before after (reads_for.Plan reply) bytes taken waits came goes = absurd came

-- where it fails a later try may begin
pub came_startable : (old new : Known) (before after : Work) (purpose : Purpose) (bytes : List ℕ)
    (cause : Option Busy) → WaitsFor old before purpose
    → CameOf old new before after purpose bytes (Taken.Fails cause)
    → IsStartable after.op (retried_job after.job)
came_startable old new before after reads_for.Catalog bytes cause waits came =
    retry_after_catalog new bytes before after cause waits.1.0 came.1 came.2
came_startable old new before after (reads_for.Page addr) bytes cause waits came =
    retry_after_page old addr bytes before after (Taken.Fails cause) came.1 came.2
came_startable old new before after reads_for.Count bytes cause waits came =
    retry_after_count bytes before after (Taken.Fails cause) came.2
came_startable old new before after (reads_for.Plan reply) bytes cause waits came = absurd came

-- the operation stays, with the tries that failed
pub came_keeps : (old new : Known) (before after : Work) (purpose : Purpose) (bytes : List ℕ) (taken : Taken)
    → CameOf old new before after purpose bytes taken → KeepsOp before after
came_keeps old new before after reads_for.Catalog bytes taken came = came.1
came_keeps old new before after (reads_for.Page addr) bytes taken came = came.1
came_keeps old new before after reads_for.Count bytes taken came = came.1
came_keeps old new before after (reads_for.Plan reply) bytes taken came = absurd came

-- What is kept

-- the list shows what is kept then, and has shown it last
pub own_left : {T : Type 0} (es : List Entry) (p : ProxyState) (new : Known) (before : Work) (purpose : Purpose)
    (bytes : List ℕ) (result : Result T NoMemory) → IsOwn es p → HasRead es p.known before purpose bytes
    → Leaves p.known new purpose bytes → PutsRead (Some (purpose, bytes)) p.known.cache new.cache result
    → IsOwnLast es (with_known p new)
own_left es p new before purpose bytes result own r leaves puts =
    (from purpose r.is r.came leaves, kept_read es p.known before purpose bytes r new result leaves puts)
  where
    with_catalog : new.nodes ≡ p.known.nodes → MatchOption new.catalog ⊤ (IsKept es) → IsOwn es (with_known p new)
    with_catalog nodes kept = record {
      issues = subst (λ (n : ℕ). AreIssues p.client p.run n (issues_of es)) (sym nodes) own.issues;
      issued = own.issued;
      fresh = own.fresh;
      catalog = kept;
      recovers = own.recovers;
    }

    same : (new.nodes ≡ p.known.nodes) × (new.catalog ≡ p.known.catalog) → IsOwn es (with_known p new)
    same is = with_catalog is.0 (subst (λ (c : Option (List CatEntry)). MatchOption c ⊤ (IsKept es)) (sym is.1) own.catalog)

    learnt : (c : Option (List CatEntry)) → TellsVersions bytes c → seen_at r.e ≡ catalog_seen bytes ∷ []
        → MatchOption c ⊤ (IsKept es)
    learnt None tells read = tt
    learnt (Some entries) tells read = (
      subst (λ (l : List Entry). ShowsCatalog l entries) (sym r.split) (shows_catalog bytes r.e read entries tells r.before),
      tells.1,
    )

    from : (q : Purpose) → IsPlaceFor before.job q r.place
        → IsReadOf r.e r.place bytes ⊎ (IsPeekOf r.e r.place bytes × (before.failed ≡ 0) × MayPeekFor before.job q)
        → Leaves p.known new q bytes → IsOwn es (with_known p new)
    from reads_for.Catalog is read (nodes, inl none) =
        with_catalog nodes (subst (λ (c : Option (List CatEntry)). MatchOption c ⊤ (IsKept es)) (sym none) tt)
    from reads_for.Catalog is (inl read) (nodes, inr tells) =
        let it = subst (λ (q : Place). IsReadOf r.e q bytes) is read in
        with_catalog nodes (learnt new.catalog tells (read_at r.e catalog_place bytes it.0 it.2))
    from reads_for.Catalog is (inr peeked) (nodes, inr tells) = absurd peeked.2
    from (reads_for.Page addr) is read leaves = same leaves
    from reads_for.Count is read leaves = same leaves
    from (reads_for.Plan reply) is read leaves = absurd is

-- The reply

-- the operation is answered by it
pub replies_turn : (es : List Entry) (q : ProxyState) (known : Known) (w : Work) (reply : Reply) → IsOwnLast es q
    → AreClosed (since_begin es) → TakenTells es known w (Taken.Replies reply)
    → TurnAgrees es q (turns.Ends (answers.Replied reply))
replies_turn es q known w reply own closed told = (
  may_answer es q w.op (answers.Replied reply) told.0 (closed_are_settled (since_begin es) closed)
      (inr (inl (closed_are_given_up (since_begin es) closed, told.1))),
  λ new enters. answered_own es new q (answers.Replied reply) own enters,
)

-- The state of the proxy, as it is seen from inside

-- the number of nodes stays
pub left_nodes : (old new : Known) (purpose : Purpose) (bytes : List ℕ) → Leaves old new purpose bytes
    → new.nodes ≡ old.nodes
left_nodes old new reads_for.Catalog bytes leaves = leaves.0
left_nodes old new (reads_for.Page addr) bytes leaves = leaves.0
left_nodes old new reads_for.Count bytes leaves = leaves.0
left_nodes old new (reads_for.Plan reply) bytes leaves = leaves.0

-- it is sound still
pub sound_left : (p : Inside) (new : Known) (purpose : Purpose) (bytes : List ℕ) → IsSoundInside p → p.work ≡ None
    → Leaves p.known new purpose bytes → ArePages new.cache
    → IsSoundInside (record { client = p.client; run = p.run; issued = p.issued; peeks = p.peeks; known = new; work = p.work })
sound_left p new purpose bytes sound idle leaves pages = record {
  client = sound.client;
  run = sound.run;
  nodes = subst (λ (n : ℕ). (1 ≤ n) × (n ≤ 8)) (sym (left_nodes p.known new purpose bytes leaves)) sound.nodes;
  pages = pages;
  work = subst (λ (w : Option (Work × Errand)). IsSoundUnderWay new w) (sym idle) tt;
}

module _ (es : List Entry) (q p : ProxyState) (same : q ≡ p) (new : Known) (before : Work) (purpose : Purpose)
    (bytes : List ℕ) (own : IsOwn es p) (read : HasRead es p.known before purpose bytes) where
  -- the list shows what is kept, and has shown it last
  pub own_left_as : {T : Type 0} (result : Result T NoMemory) → Leaves q.known new purpose bytes
      → PutsRead (Some (purpose, bytes)) q.known.cache new.cache result → IsOwnLast es (with_known q new)
  own_left_as result leaves puts =
      own_left es q new before purpose bytes result (subst (IsOwn es) (sym same) own)
      (subst (λ (x : ProxyState). HasRead es x.known before purpose bytes) (sym same) read) leaves puts

  -- by what was taken
  pub tells_as : (after : Work) (taken as_is : Taken) → taken ≡ as_is → WaitsFor p.known before purpose
      → AreClosed (since_begin es) → AreOverNodes p.known.nodes before.failed (since_begin es)
      → CameOf q.known new before after purpose bytes taken → KeptIsLast es new
      → TakenTells es new after as_is
  tells_as after taken as_is is waits closed over came kept_last =
      take_tells es p.known new before after purpose bytes as_is read waits closed over own.catalog
      (subst (λ (x : ProxyState). CameOf x.known new before after purpose bytes as_is) same
      (subst (λ (t : Taken). CameOf q.known new before after purpose bytes t) is came)) kept_last

  -- with the reply its operation ends
  pub replies_as : (after : Work) (taken : Taken) (reply : Reply) (turn : Turn) (r : ProxyState)
      → r ≡ with_known q new → turn ≡ turns.Ends (answers.Replied reply) → taken ≡ Taken.Replies reply
      → WaitsFor p.known before purpose → AreClosed (since_begin es)
      → AreOverNodes p.known.nodes before.failed (since_begin es)
      → CameOf q.known new before after purpose bytes taken → IsOwnLast es (with_known q new)
      → TurnAgrees es r turn
  replies_as after taken reply turn r state ends is waits closed over came left =
      subst (λ (x : ProxyState). TurnAgrees es x turn) (sym state)
      (subst (TurnAgrees es (with_known q new)) (sym ends)
      (replies_turn es (with_known q new) new after reply left closed
      (tells_as after taken (Taken.Replies reply) is waits closed over came left.1)))

-- of a turn that was made then
pub kept_as : {A : Type 0} (q p r : ProxyState) (new : Known) (purpose : Purpose) (bytes : List ℕ) → q ≡ p
    → Leaves q.known new purpose bytes → KeepsSelf (with_known q new) r × A → KeepsSelf p r × A
kept_as q p r new purpose bytes same leaves keeps = (
  (
    keeps.0.0 ∙ ap (λ (x : ProxyState). x.client) same,
    keeps.0.1 ∙ ap (λ (x : ProxyState). x.run) same,
    keeps.0.2 ∙ left_nodes q.known new purpose bytes leaves ∙ ap (λ (x : ProxyState). x.known.nodes) same,
  ),
  keeps.1,
)

-- what was taken, by the state as it is seen from inside
module _ (q p : ProxyState) (same : q ≡ p) (new : Known) (before after : Work) (purpose : Purpose)
    (bytes : List ℕ) (taken : Taken) (waits : WaitsFor p.known before purpose)
    (came : CameOf q.known new before after purpose bytes taken) where
  -- by what was kept before
  came_by : CameOf p.known new before after purpose bytes taken
  came_by = subst (λ (x : ProxyState). CameOf x.known new before after purpose bytes taken) same came

  -- its job is one of the operation still
  pub job_as : (taken ≡ Taken.GoesOn) ⊎ (taken ≡ Taken.Leaf) → IsJobOf new after
  job_as goes = came_job p.known new before after purpose bytes taken waits came_by goes

  -- a later try may begin
  pub startable_as : (cause : Option Busy) → taken ≡ Taken.Fails cause
      → IsStartable after.op (retried_job after.job)
  startable_as cause fails =
      came_startable p.known new before after purpose bytes cause waits
      (subst (CameOf p.known new before after purpose bytes) fails came_by)

  -- as few tries have failed
  pub few_as : before.failed < max_tries → after.failed < max_tries
  few_as few =
      subst (λ (n : ℕ). n < max_tries) (sym (came_keeps p.known new before after purpose bytes taken came_by).1) few

-- where there was no memory
pub none_made : (work : Option (Work × Errand)) (result : Result ProxyStep NoMemory) (P : Turn → Type 0)
    → IsErr result → IfOk (turned work result) P
none_made work (Ok step) P is = absurd cc
none_made work (Err none) P is = tt

-- the same of the turn
pub none_turned : (work : Option (Work × Errand)) (result : Result ProxyStep NoMemory) → IsErr result
    → IsErr (turned work result)
none_turned work (Ok step) is = absurd cc
none_turned work (Err none) is = is

-- what is so whatever came of it
pub none_left : {T : Type 0} (result : Result T NoMemory) (A : Type 0) → A → OnErr result A
none_left (Ok made) A a = tt
none_left (Err none) A a = a

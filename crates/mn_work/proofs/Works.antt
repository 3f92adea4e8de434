-- How an operation goes on, by its job.
use Rattle.std.proofs.Common.{◌≡◌, ◌⊎◌, inl, inr, ◌≢◌, not, ℕ, suc, ◌+◌, ◌<◌, ◌≤◌, Bool, true, false}
use Rattle.std.proofs.Common.{List, [], ◌∷◌, ◌++◌, length, Option, Some, None, refl, subst, IsTrue}
use Rattle.std.proofs.Common.{sym, ap, ◌∙◌, arith, slice_get, slice_index_or, Fits, w8, Vec, Global}
use Rattle.std.proofs.Common.{length-append, Result, Ok, Err}
use Rattle.std.specs.Prelude.{IfOk, MatchOption, OnOk, ⊤, bytes_eq, if◌then◌else◌, nat_lt, take}
use Rattle.std.specs.List.{AllByRecursion, list_all}
use Rattle.std.specs.Option.{is_some, option_map, option_and_then}
use Rattle.std.proofs.lemmas.Bool.Decides.{nat_tests}
use Rattle.std.proofs.lemmas.Result.{on_ok_weaker}
use Rattle.std.proofs.lemmas.List.Elements.{recursion_from_All}
use Rattle.std.proofs.lemmas.Option.{slice_get_within}
use Rattle.mn_base.specs.declared.answer.Busy.{Busy}
use Rattle.mn_base.specs.Store.{head_named, max_versions, number_named, op_version, refusal, refusal_at, Head}
use Rattle.mn_base.specs.declared.reply.Reply.TheVariants.{NoVersion}
use Rattle.mn_base.specs.Tree.{parents_of}
use Rattle.mn_base.specs.declared.ids.Addr.{Addr}
use Rattle.mn_base.specs.declared.ids.NodeNo.{NodeNo}
use Rattle.mn_base.specs.declared.ids.VersionNo.{VersionNo}
use Rattle.mn_base.specs.declared.op.Op.{Op}
use Rattle.mn_base.specs.declared.op.Op.TheVariants.{Tx, Snapshot, Branch, Scan, Versions}
use Rattle.mn_base.specs.declared.op.Step.{Step}
use Rattle.mn_base.specs.declared.reply.Reply.{Reply}
use Rattle.mn_base.proofs.Lists.{all_append}
use Rattle.mn_catalog.specs.Grammar.{IsCatalog}
use Rattle.mn_mini.specs.Mini.{Mini}
use Rattle.mn_page.specs.declared.entry.CatEntry.{CatEntry}
use Rattle.mn_page.specs.declared.page.Page.{Page}
use Rattle.mn_page.specs.Forest.{entry_head, heads_in}
use Rattle.mn_page.specs.Grammar.{IsEntry, IsPage}
use Rattle.mn_page.specs.Space.{max_slots}
use Rattle.mn_page.proofs.Grid.{all_at_place}
use Rattle.mn_scan.specs.Scan.{ScanState}
use Rattle.mn_tree.specs.State.{TreeState}
use Rattle.mn_tree.specs.Tries.{ComeTo}
use Rattle.mn_txn.specs.declared.seen.SeenPage.{SeenPage}
use Rattle.mn_work.specs.declared.attempt.Attempt.{Attempt}
use Rattle.mn_work.specs.declared.child.Child.{Child}
use Rattle.mn_work.specs.declared.get.Descent.{Descent}
use Rattle.mn_work.specs.declared.known.Known.{Known}
use Rattle.mn_work.specs.declared.next.Next.{Next}
use Rattle.mn_work.specs.declared.next.Taken.{Taken}
use Rattle.mn_work.specs.declared.work.Job.{Job}
use Rattle.mn_work.specs.declared.work.Job.TheVariants as at
use Rattle.mn_work.specs.declared.work.Started.{Started}
use Rattle.mn_work.specs.declared.work.Work.{Work}
use Rattle.mn_work.specs.Works.{BeginsSteps, HasBegun, IsPlanOfJob, IsReadAs, IsReadIfOn, IsScan, JobIsLast, MakesPlan, StaysLast}
use Rattle.mn_work.specs.Last.{PagesAreLast, RootIsLast}
use Rattle.mn_runs.specs.declared.entry.Entry.{Entry}
use Rattle.mn_base.specs.declared.error.NoMemory.{NoMemory}
use Rattle.mn_work.specs.Attempts as attempts
use Rattle.mn_work.specs.Catalogs.{root_named}
use Rattle.mn_work.specs.Children as children
use Rattle.mn_work.specs.Knows as knows
use Rattle.mn_work.specs.Knows.{KeepsKnown}
use Rattle.mn_work.specs.Scans as scans
use Rattle.mn_work.specs.Walks.{Admits, IsAbove, is_later}
use Rattle.mn_work.specs.Works.{AsksCount, AsksCountFor, AsksPage, AsksPageFor, BeginsJob, BeginsBy, BeginsOn, GetTakes, GoesOnBy, GoesOnFrom, MayStart, version_name}
use Rattle.mn_work.specs.Works.{HasRightSteps, IsJobIn, IsJobOf, IsNewChild, IsStartable, IsToAsk, JobCounts}
use Rattle.mn_work.specs.Works.{FailsFirst, JobFails, WantsSo}
use Rattle.mn_work.specs.Firsts.{ChildFailsFirst, GetFailsFirst, ScanFailsFirst, StepsFailFirst}
use Rattle.mn_work.specs.Works.{JobTakes, JobWants, KeepsOp, StartsBy, StartsOn, TakesCatalog, TakesCountBytes, TakesPageBytes}
use Rattle.mn_work.specs.Works.{WantsFrom, WantsNext, counts_of, lacks_catalog, lacks_for, lone_key, retried, retried_job}

-- the elements of a slice of bytes are bytes
pub bytes_fit : (bytes : List ℕ) → ((i : ℕ) → Fits w8 (slice_index_or bytes i 0))
    → IsTrue (list_all (λ b. nat_lt b 256) bytes)
bytes_fit [] fit = refl
bytes_fit (b ∷ bytes) fit =
    let first : Fits w8 b = fit 0 in
    let small : nat_lt b 256 ≡ true = grind (arith, nat_tests) in
    rw small (bytes_fit bytes (λ i. fit (suc i)))

-- What is kept

module _ (known new : Known) (keeps : KeepsKnown known new) where
  kept_by : (P : ℕ → List CatEntry → Type 0) → MatchOption known.catalog ⊥ (P known.nodes)
      → MatchOption new.catalog ⊥ (P new.nodes)
  kept_by P is =
      subst (λ (o : Option (List CatEntry)). MatchOption o ⊥ (P new.nodes)) (sym keeps.1)
      (subst (λ (n : ℕ). MatchOption known.catalog ⊥ (P n)) (sym keeps.0) is)

  -- a job of the operation is one as long as the catalog stays
  pub job_kept : (op : Op) (job : Job) → IsJobIn known op job → IsJobIn new op job
  job_kept op at.Start is = tt
  job_kept (Tx name steps) (at.Get d) is = (is.0, is.1, λ e. is.2 (sym keeps.1 ∙ e))
  job_kept (Tx name steps) (at.Transaction a) is =
      kept_by (λ n entries. attempts.IsUnderWay n entries steps a) is
  job_kept op (at.Child c) is = kept_by (λ n entries. children.IsUnderWay n entries op c) is
  job_kept (Scan name low high limit) (at.Scan s) is = (is.0, λ e. is.1 (sym keeps.1 ∙ e))
  job_kept op job is = absurd is

-- Where a try begins

some_same : {X : Type 0} (x y : X) → Some x ≡ Some y → x ≡ y
some_same x y e = cc

-- the root of a name, by the number of its version
pub admits_by : (entries : List CatEntry) (op : Op) (version : VersionNo) (root : Addr)
    → refusal (heads_in entries) op ≡ None
    → root_named entries (op_version op) ≡ Some (version.0, root) → Admits entries op version root
admits_by entries op version root admitted is =
    by_number (number_named (heads_in entries) (op_version op)) refl is
  where
    by_entry : (v : ℕ) (o : Option CatEntry) → number_named (heads_in entries) (op_version op) ≡ Some v
        → slice_get entries v ≡ o → option_map {U = ℕ × Addr} (λ (e : CatEntry). (v, e.root)) o ≡ Some (version.0, root)
        → Admits entries op version root
    by_entry v None named at e = absurd cc
    by_entry v (Some entry) named at e =
        let same = some_same (v, entry.root) (version.0, root) e in
        let number : v ≡ version.0 = ap (λ (p : ℕ × Addr). p.0) same in
        record {
          entry = entry;
          admitted = admitted;
          named = named ∙ ap (λ (n : ℕ). Some n) number;
          there = ap (λ (n : ℕ). slice_get entries n) (sym number) ∙ at;
          root_is = ap (λ (p : ℕ × Addr). p.1) same;
        }

    by_number : (o : Option ℕ) → number_named (heads_in entries) (op_version op) ≡ o
        → option_and_then (λ (v : ℕ). option_map {U = ℕ × Addr} (λ (e : CatEntry). (v, e.root)) (slice_get entries v)) o ≡ Some (version.0, root)
        → Admits entries op version root
    by_number None named e = absurd cc
    by_number (Some v) named e = by_entry v (slice_get entries v) named refl e

-- a name without a root is of no version
root_none : (entries : List CatEntry) (name : List ℕ) → root_named entries name ≡ None
    → head_named (heads_in entries) name ≡ None
root_none [] name e = refl
root_none (x ∷ entries) name e = by (bytes_eq x.name name) e (root_none entries name)
  where
    at_next : (k : ℕ) → slice_get (x ∷ entries) (k + 1) ≡ slice_get entries k
    at_next k = let next : k + 1 ≡ suc k = omega arith in ap (λ (n : ℕ). slice_get (x ∷ entries) n) next

    no_entry : (k n : ℕ) (o : Option CatEntry) → option_map {U = ℕ × Addr} (λ (y : CatEntry). (n, y.root)) o ≡ None
        → option_map {U = ℕ × Addr} (λ (y : CatEntry). (k, y.root)) o ≡ None
    no_entry k n None none = refl
    no_entry k n (Some y) none = absurd cc

    below : (o : Option ℕ)
        → option_and_then (λ (v : ℕ). option_map {U = ℕ × Addr} (λ (y : CatEntry). (v, y.root)) (slice_get (x ∷ entries) v)) (option_map (λ n. n + 1) o) ≡ None
        → option_and_then (λ (v : ℕ). option_map {U = ℕ × Addr} (λ (y : CatEntry). (v, y.root)) (slice_get entries v)) o ≡ None
    below None none = refl
    below (Some k) none =
        no_entry k (k + 1) (slice_get entries k)
        (subst (λ (o : Option CatEntry). option_map {U = ℕ × Addr} (λ (y : CatEntry). (k + 1, y.root)) o ≡ None) (at_next k) none)

    by : (t : Bool)
        → option_and_then (λ (v : ℕ). option_map {U = ℕ × Addr} (λ (y : CatEntry). (v, y.root)) (slice_get (x ∷ entries) v)) (if t then Some 0 else option_map (λ n. n + 1) (number_named (heads_in entries) name)) ≡ None
        → (root_named entries name ≡ None → head_named (heads_in entries) name ≡ None)
        → (if t then Some (entry_head x) else head_named (heads_in entries) name) ≡ None
    by true none rest = absurd cc
    by false none rest = rest (below (number_named (heads_in entries) name) none)

-- a catalog that admits an operation has the version that it names
pub has_root : (entries : List CatEntry) (op : Op) (name : List ℕ) → version_name op ≡ Some name
    → refusal (heads_in entries) op ≡ None → root_named entries name ≡ None → ⊥
has_root entries op name named admitted none = by op named admitted
  where
    no_head : (v : List ℕ) → Some v ≡ Some name → head_named (heads_in entries) v ≡ None
    no_head v e = subst (λ (n : List ℕ). head_named (heads_in entries) n ≡ None) (sym (some_same v name e)) (root_none entries name none)

    by : (o : Op) → version_name o ≡ Some name → refusal (heads_in entries) o ≡ None → ⊥
    by (Tx v steps) e a =
        let refused : Some NoVersion ≡ None = subst (λ (h : Option Head). refusal_at (heads_in entries) (Tx v steps) h ≡ None) (no_head v e) a in cc
    by (Snapshot v child) e a =
        let refused : Some NoVersion ≡ None = subst (λ (h : Option Head). refusal_at (heads_in entries) (Snapshot v child) h ≡ None) (no_head v e) a in cc
    by (Branch v child) e a =
        let refused : Some NoVersion ≡ None = subst (λ (h : Option Head). refusal_at (heads_in entries) (Branch v child) h ≡ None) (no_head v e) a in cc
    by (Scan v low high limit) e a =
        let refused : Some NoVersion ≡ None = subst (λ (h : Option Head). refusal_at (heads_in entries) (Scan v low high limit) h ≡ None) (no_head v e) a in cc
    by Versions e a = absurd cc

-- so it is where the kept catalog admits the operation
pub may_root : (known : Known) (before : Work) (kept : List CatEntry) (name : List ℕ) → MayStart known before
    → known.catalog ≡ Some kept → version_name before.op ≡ Some name → root_named kept name ≡ None → ⊥
may_root known before kept name may is named none =
    has_root kept before.op name named
    (subst (λ (o : Option (List CatEntry)). MatchOption o ⊥ (λ entries. refusal (heads_in entries) before.op ≡ None)) is may.1) none

-- the same catalog admits the operation
abbrev pub admits_as : (entries : List CatEntry) (op : Op) (version : VersionNo) (root : Addr)
    (v : VersionNo) (r : Addr) → v ≡ version → r ≡ root → Admits entries op version root → Admits entries op v r
admits_as entries op version root v r same at a = record {
  entry = a.entry;
  admitted = a.admitted;
  named = a.named ∙ ap (λ (x : VersionNo). Some x.0) (sym same);
  there = ap (λ (x : VersionNo). slice_get entries x.0) same ∙ a.there;
  root_is = a.root_is ∙ sym at;
}

module _ (nodes : ℕ) (entries : List CatEntry) (version : VersionNo) (root : Addr)
    (right : IsCatalog entries) where
  -- a transaction that has read the catalog alone
  attempt_begins : (name : List ℕ) (steps : List Step) (a : Attempt) → HasRightSteps (Tx name steps)
      → Admits entries (Tx name steps) version root
      → attempts.IsBegun (parents_of (heads_in entries)) version root a
      → attempts.IsUnderWay nodes entries steps a
  attempt_begins name steps a has admits b = record {
    name = name;
    admits = admits_as entries (Tx name steps) version root a.version a.root b.version_is b.root_is admits;
    entry = all_at_place IsEntry entries version.0 admits.entry (recursion_from_All IsEntry entries right.1) admits.there;
    early = subst (λ (v : VersionNo). v.0 < max_versions) (sym b.version_is)
        (let low = slice_get_within entries version.0 admits.entry admits.there in let few = right.0 in omega arith);
    right = has.0;
    some = has.1;
    many = has.2;
    parents = ap (λ (s : TreeState). s.parents) b.overlay;
    version = ap (λ (s : TreeState). s.version) b.overlay ∙ sym b.version_is;
    root = ap (λ (s : TreeState). s.root) b.overlay ∙ sym b.root_is;
    moves = [];
    came = [];
    come = record {
      leads = sym (ap (λ (s : TreeState). s.draft) b.overlay);
      have = sym b.found;
      pages = refl;
      steps = sym (ap (λ (n : ℕ). take n steps) b.done);
    };
    pages = b.pages;
    within = tt;
    low = subst (λ (n : ℕ). n ≤ length steps) (sym b.done) (omega arith);
    few = subst (λ (l : List ℕ). length l ≤ nodes) (sym b.counts) (omega arith);
    given = subst (λ (l : List ℕ). AllByRecursion (λ count. count ≤ max_slots) l) (sym b.counts) tt;
  }

  -- so has a Snapshot or a Branch
  child_begins : (op : Op) (c : Child) → children.MakesChild op → Admits entries op version root
      → IsNewChild version root c → children.IsUnderWay nodes entries op c
  child_begins op c makes admits b = record {
    makes = makes;
    admits = admits_as entries op version root c.version c.root b.version_is b.root_is admits;
    page = subst (λ o. MatchOption o ⊤ (λ p. IsPage p × (children.may_copy entries c.version.0 p ≡ true) × (c.root.node.0 < nodes))) (sym b.page) tt;
    few = subst (λ (l : List ℕ). length l ≤ nodes) (sym b.counts) (omega arith);
    given = subst (λ (l : List ℕ). AllByRecursion (λ count. count ≤ max_slots) l) (sym b.counts) tt;
  }

-- a new job is one of the operation
pub job_begins : (known : Known) (entries : List CatEntry) (op : Op) (spoiled : Bool) (version : VersionNo)
    (root : Addr) (job : Job) → known.catalog ≡ Some entries → IsCatalog entries → HasRightSteps op
    → Admits entries op version root → BeginsOn entries op spoiled version root job → IsJobIn known op job
job_begins known entries op spoiled version root job is right has admits begins = by op has admits begins
  where
    kept : (P : List CatEntry → Type 0) → P entries → MatchOption known.catalog ⊥ P
    kept P p = subst (λ (o : Option (List CatEntry)). MatchOption o ⊥ P) (sym is) p

    some_kept : known.catalog ≢ None
    some_kept e = absurd cc

    by_key : (name : List ℕ) (steps : List Step) (o : Option (List ℕ)) → lone_key steps ≡ o
        → HasRightSteps (Tx name steps) → Admits entries (Tx name steps) version root
        → MatchOption o ((a : Attempt) × (job ≡ at.Transaction a) × attempts.IsBegun (parents_of (heads_in entries)) version root a) (λ key. job ≡ at.Get (record { version = version; addr = root; above = None }))
        → IsJobIn known (Tx name steps) job
    by_key name steps None key has admits b =
        subst (IsJobIn known (Tx name steps)) (sym b.1)
        (kept (λ es. attempts.IsUnderWay known.nodes es steps b.0) (attempt_begins known.nodes entries version root right name steps b.0 has admits b.2))
    by_key name steps (Some k) key has admits b =
        subst (IsJobIn known (Tx name steps)) (sym b) ((λ e. absurd cc), tt, some_kept)

    by : (o : Op) → HasRightSteps o → Admits entries o version root → BeginsOn entries o spoiled version root job
        → IsJobIn known o job
    by (Tx name steps) has admits b = by_key name steps (lone_key steps) refl has admits b
    by (Snapshot name child) has admits b =
        subst (IsJobIn known (Snapshot name child)) (sym b.1)
        (kept (λ es. children.IsUnderWay known.nodes es (Snapshot name child) b.0) (child_begins known.nodes entries version root right (Snapshot name child) b.0 tt admits b.2))
    by (Branch name child) has admits b =
        subst (IsJobIn known (Branch name child)) (sym b.1)
        (kept (λ es. children.IsUnderWay known.nodes es (Branch name child) b.0) (child_begins known.nodes entries version root right (Branch name child) b.0 tt admits b.2))
    by (Scan name low high limit) has admits b =
        subst (IsJobIn known (Scan name low high limit)) (sym b.1) (tt, λ e. absurd (some_kept e))
    by Versions has admits b = absurd b

-- What it wants next

-- what holds by any catalog, where one is kept
told_by : (o : Option (List CatEntry)) (P : Type 0) → MatchOption o ⊥ (λ entries. P) → P
told_by None P is = absurd is
told_by (Some entries) P is = is

none_told : (o : Option (List CatEntry)) (P : List CatEntry → Type 0) → o ≡ None → MatchOption o ⊥ P → ⊥
none_told None P none is = is
none_told (Some entries) P none is = absurd cc

-- where no catalog is kept, only what may begin on a new one is a job
pub startable : (known : Known) (op : Op) (job : Job) → known.catalog ≡ None → IsJobIn known op job
    → IsStartable op job
startable known op at.Start none is = tt
startable known (Tx name steps) (at.Get d) none is = absurd (is.2 none)
startable known (Tx name steps) (at.Transaction a) none is =
    absurd (none_told known.catalog (λ entries. attempts.IsUnderWay known.nodes entries steps a) none is)
startable known op (at.Child c) none is =
    absurd (none_told known.catalog (λ entries. children.IsUnderWay known.nodes entries op c) none is)
startable known (Scan name low high limit) (at.Scan s) none is = is.1 none
startable known op job none is = absurd is

-- how a try goes on, from its job or from one that it has just begun
pub record WentOn (known : Known) (before after : Work) (next : Next) : Type 0 where
  pub begun : Work
  pub keeps : KeepsOp before begun
  pub right : IsJobOf known begun
  pub begins : (begun ≡ before) ⊎ ((before.job ≡ at.Start) × BeginsBy known before begun)
  pub kept : known.catalog ≢ None
  pub goes : GoesOnBy known begun after next

-- it asks for the catalog, and may begin on a new one; or it goes on
abbrev pub AsksOrGoes : Known → Work → Work → Next → Type 0
AsksOrGoes known before after next =
    ((next ≡ Next.Catalog) × (after ≡ before) × IsStartable before.op before.job
    × IsToAsk known.catalog before.job)
    ⊎ WentOn known before after next

module _ (known new : Known) (before after : Work) (next : Next) (keeps : KeepsKnown known new)
    (is : IsJobOf known before) where
  kept_now : IsJobOf new before
  kept_now = job_kept known new keeps before.op before.job is

  goes_from : (new.catalog ≢ None) × GoesOnBy new before after next → AsksOrGoes new before after next
  goes_from goes = inr (record { begun = before; keeps = (refl, refl); right = kept_now; begins = inl refl; kept = goes.0; goes = goes.1 })

  pub asks_or_goes : WantsNext new before after next → AsksOrGoes new before after next
  asks_or_goes wants = by before.job refl wants
    where
      waits : (none : new.catalog ≡ None) → next ≡ Next.Catalog → after ≡ before → AsksOrGoes new before after next
      waits none asks stays = inl (asks, stays, startable new before.op before.job none kept_now, inr none)

      begins : before.job ≡ at.Start → (begun : Work) → BeginsBy new before begun → GoesOnBy new begun after next
          → AsksOrGoes new before after next
      begins start begun b goes =
          inr (record {
            begun = begun;
            keeps = b.op;
            right = b.right;
            begins = inr (start, b);
            kept = λ none. none_told new.catalog (λ entries. StartsOn entries before begun Started.On) none b.starts.1;
            goes = goes;
          })

      by : (job : Job) → before.job ≡ job → WantsFrom new before after job next → AsksOrGoes new before after next
      by at.Start start (inl asks) = inl (asks.0, asks.1, subst (IsStartable before.op) (sym start) tt, inl start)
      by at.Start start (inr goes) = begins start goes.0 goes.1 goes.2
      by (at.Get d) job (inl asks) = waits asks.2 asks.0 asks.1
      by (at.Get d) job (inr goes) = goes_from goes
      by (at.Transaction a) job (inl asks) = waits asks.2 asks.0 asks.1
      by (at.Transaction a) job (inr goes) = goes_from goes
      by (at.Child c) job (inl asks) = waits asks.2 asks.0 asks.1
      by (at.Child c) job (inr goes) = goes_from goes
      by (at.Scan s) job (inl asks) = waits asks.2 asks.0 asks.1
      by (at.Scan s) job (inr goes) = goes_from goes

-- a job that goes on asks for no catalog
none_wanted : (known : Known) (later : Bool) (op : Op) (before after : Job)
    → JobWants known later op before after Next.Catalog → ⊥
none_wanted known later op (at.Get d) (at.Get e) w = w.wants
none_wanted known later (Tx name steps) (at.Transaction a) (at.Transaction b) w = told_by known.catalog ⊥ w.wants
none_wanted known later op (at.Child c) (at.Child d) w = by w.wants
  where
    by : children.WantsPage known later d Next.Catalog ⊎ children.WantsCount known later d Next.Catalog ⊎ children.WantsEnd known later op d Next.Catalog → ⊥
    by (inl page) = page
    by (inr (inl count)) = count
    by (inr (inr end)) = told_by known.catalog ⊥ end
none_wanted known later op (at.Scan s) (at.Scan t) w = w.wants
none_wanted known later op (at.Scan s) at.Start w = let e = w.1.replies in absurd cc
none_wanted known later op before after w = w

-- a Snapshot or a Branch, whatever its operation
child_is : (known : Known) (op : Op) (c : Child) → children.IsOnItsWay known op c → IsJobIn known op (at.Child c)
child_is known (Tx name steps) c way = way
child_is known (Snapshot name child) c way = way
child_is known (Branch name child) c way = way
child_is known (Scan name low high limit) c way = way
child_is known Versions c way = way

asks_child : (known : Known) (op : Op) (c : Child) (addr : Addr)
    → (c.root ≡ addr) × (c.page ≡ None) × (addr.node.0 < known.nodes) → AsksPageFor known op (at.Child c) addr
asks_child known (Tx name steps) c addr asks = asks
asks_child known (Snapshot name child) c addr asks = asks
asks_child known (Branch name child) c addr asks = asks
asks_child known (Scan name low high limit) c addr asks = asks
asks_child known Versions c addr asks = asks

counts_child : (op : Op) (c : Child) → length c.counts.items < 8 → AsksCountFor op (at.Child c)
counts_child (Tx name steps) c low = low
counts_child (Snapshot name child) c low = low
counts_child (Branch name child) c low = low
counts_child (Scan name low high limit) c less = less
counts_child Versions c low = low

-- a page that it asks for
page_wanted : (known : Known) (later : Bool) (op : Op) (before after : Job) (addr : Addr) (peek : Bool)
    → known.catalog ≢ None → IsJobIn known op before → JobWants known later op before after (Next.Page addr peek)
    → IsJobIn known op after × AsksPageFor known op after addr × (addr.node.0 < known.nodes)
page_wanted known later (Tx name steps) (at.Get d) (at.Get e) addr peek some is w =
    ((is.0, w.above, is.2), sym w.wants.0, w.wants.1)
page_wanted known later (Tx name steps) (at.Transaction a) (at.Transaction b) addr peek some is w =
    let t = told_by known.catalog (attempts.Asks steps b addr × (addr.node.0 < known.nodes) × (peek ≡ not later)) w.wants in
    (w.way, (t.0, t.1), t.1)
page_wanted known later op (at.Child c) (at.Child d) addr peek some is w = by w.wants
  where
    by : children.WantsPage known later d (Next.Page addr peek) ⊎ children.WantsCount known later d (Next.Page addr peek) ⊎ children.WantsEnd known later op d (Next.Page addr peek)
        → IsJobIn known op (at.Child d) × AsksPageFor known op (at.Child d) addr × (addr.node.0 < known.nodes)
    by (inl page) = (child_is known op d w.way, asks_child known op d addr (sym page.1, page.0, page.2), page.2)
    by (inr (inl count)) = absurd count
    by (inr (inr end)) = absurd (told_by known.catalog ⊥ end)
page_wanted known later (Scan name low high limit) (at.Scan s) (at.Scan t) addr peek some is w =
    ((w.above, λ none. absurd (some none)), (w.wants.0, some), w.wants.1)
page_wanted known later op (at.Scan s) at.Start addr peek some is w = let e = w.1.replies in absurd cc
page_wanted known later op (at.Scan s) (at.Scan t) addr peek some is w = absurd is
page_wanted known later op (at.Get d) (at.Get e) addr peek some is w = absurd is
page_wanted known later op before after addr peek some is w = absurd w

-- a count that it asks for
count_wanted : (known : Known) (later : Bool) (op : Op) (before after : Job) (node : NodeNo) (peek : Bool)
    → known.nodes ≤ 8 → JobWants known later op before after (Next.Count node peek)
    → IsJobIn known op after × AsksCountFor op after × (node.0 < known.nodes) × (node.0 ≡ length (counts_of after))
count_wanted known later op (at.Get d) (at.Get e) node peek few w = absurd w.wants
count_wanted known later (Tx name steps) (at.Transaction a) (at.Transaction b) node peek few w =
    let t = told_by known.catalog ((b.done ≡ length steps) × (1 ≤ b.overlay.draft.overlay.fresh) × (node.0 ≡ length b.counts.items) × (node.0 < known.nodes) × (peek ≡ not later)) w.wants in
    let is = t.2 in let low = t.3 in
    (w.way, omega arith, low, is)
count_wanted known later op (at.Child c) (at.Child d) node peek few w = by w.wants
  where
    by : children.WantsPage known later d (Next.Count node peek) ⊎ children.WantsCount known later d (Next.Count node peek) ⊎ children.WantsEnd known later op d (Next.Count node peek)
        → IsJobIn known op (at.Child d) × AsksCountFor op (at.Child d) × (node.0 < known.nodes) × (node.0 ≡ length d.counts.items)
    by (inl page) = absurd page
    by (inr (inl count)) =
        let is = count.1 in let low = count.2 in
        (child_is known op d w.way, counts_child op d (omega arith), low, is)
    by (inr (inr end)) = absurd (told_by known.catalog ⊥ end)
count_wanted known later op (at.Scan s) (at.Scan t) node peek few w = absurd w.wants
count_wanted known later op (at.Scan s) at.Start node peek few w = let e = w.1.replies in absurd cc
count_wanted known later op before after node peek few w = absurd w

-- a plan is over as many nodes as there are
child_nodes : (nodes : ℕ) (entries : List CatEntry) (op : Op) (c : Child) (mini : Mini)
    → children.MakesChild op → children.IsWanted nodes entries op c mini → mini.nodes ≡ nodes
child_nodes nodes entries (Snapshot name child) c mini makes w = ap (λ (m : Mini). m.nodes) w.plan.items
child_nodes nodes entries (Branch name child) c mini makes w = ap (λ (m : Mini). m.nodes) w.plan.items
child_nodes nodes entries op c mini makes w = absurd makes

plan_wanted : (known : Known) (later : Bool) (op : Op) (before after : Job) (mini : Mini)
    (reply : Reply) → JobWants known later op before after (Next.Plan mini reply)
    → mini.nodes ≡ known.nodes
plan_wanted known later op (at.Get d) (at.Get e) mini reply w = absurd w.wants
plan_wanted known later (Tx name steps) (at.Transaction a) (at.Transaction b) mini reply w =
    told_by known.catalog (mini.nodes ≡ known.nodes) (nodes_of known.catalog w.wants)
  where
    nodes_of : (o : Option (List CatEntry))
        → MatchOption o ⊥ (λ entries. attempts.IsPlanWanted known.nodes entries steps b reply mini)
        → MatchOption o ⊥ (λ entries. mini.nodes ≡ known.nodes)
    nodes_of None wants = absurd wants
    nodes_of (Some entries) wants = wants.nodes_are
plan_wanted known later op (at.Child c) (at.Child d) mini reply w = by w.wants
  where
    by : children.WantsPage known later d (Next.Plan mini reply) ⊎ children.WantsCount known later d (Next.Plan mini reply) ⊎ children.WantsEnd known later op d (Next.Plan mini reply)
        → mini.nodes ≡ known.nodes
    by (inl page) = absurd page
    by (inr (inl count)) = absurd count
    by (inr (inr end)) = ended known.catalog w.way end
      where
        ended : (o : Option (List CatEntry))
            → MatchOption o ⊥ (λ entries. children.IsUnderWay known.nodes entries op d)
            → MatchOption o ⊥ (λ entries. children.EndsBy known.nodes entries later op d (Next.Plan mini reply))
            → mini.nodes ≡ known.nodes
        ended None way end = absurd end
        ended (Some entries) way end = child_nodes known.nodes entries op d mini way.makes end.1
plan_wanted known later op (at.Scan s) (at.Scan t) mini reply w = absurd w.wants
plan_wanted known later op (at.Scan s) at.Start mini reply w = let e = w.1.replies in absurd cc
plan_wanted known later op before after mini reply w = absurd w

-- only a job that has begun makes one
plan_begun : (known : Known) (later : Bool) (op : Op) (before after : Job) (mini : Mini)
    (reply : Reply) → JobWants known later op before after (Next.Plan mini reply) → HasBegun after
plan_begun known later op (at.Get d) (at.Get e) mini reply w = absurd w.wants
plan_begun known later (Tx name steps) (at.Transaction a) (at.Transaction b) mini reply w = tt
plan_begun known later op (at.Child c) (at.Child d) mini reply w = tt
plan_begun known later op (at.Scan s) (at.Scan t) mini reply w = absurd w.wants
plan_begun known later op (at.Scan s) at.Start mini reply w = let e = w.1.replies in absurd cc
plan_begun known later op before after mini reply w = absurd w

-- the plan is just what its job asks for
plan_made : (known : Known) (later : Bool) (op : Op) (before after : Job) (mini : Mini)
    (reply : Reply) → JobWants known later op before after (Next.Plan mini reply)
    → MatchOption known.catalog ⊥ (λ entries. IsPlanOfJob known.nodes entries op after reply mini)
plan_made known later op (at.Get d) (at.Get e) mini reply w = absurd w.wants
plan_made known later (Tx name steps) (at.Transaction a) (at.Transaction b) mini reply w =
    made known.catalog w.wants
  where
    made : (o : Option (List CatEntry))
        → MatchOption o ⊥ (λ entries. attempts.IsPlanWanted known.nodes entries steps b reply mini)
        → MatchOption o ⊥ (λ entries. attempts.IsPlanMade known.nodes entries steps b reply mini)
    made None wants = absurd wants
    made (Some entries) wants = wants.made
plan_made known later op (at.Child c) (at.Child d) mini reply w = by w.wants
  where
    by : children.WantsPage known later d (Next.Plan mini reply) ⊎ children.WantsCount known later d (Next.Plan mini reply) ⊎ children.WantsEnd known later op d (Next.Plan mini reply)
        → MatchOption known.catalog ⊥ (λ entries. IsPlanOfJob known.nodes entries op (at.Child d) reply mini)
    by (inl page) = absurd page
    by (inr (inl count)) = absurd count
    by (inr (inr end)) = ended op known.catalog end
      where
        ended : (x : Op) (o : Option (List CatEntry))
            → MatchOption o ⊥ (λ entries. children.EndsBy known.nodes entries later x d (Next.Plan mini reply))
            → MatchOption o ⊥ (λ entries. IsPlanOfJob known.nodes entries x (at.Child d) reply mini)
        ended x None end = absurd end
        ended (Tx name steps) (Some entries) end = end
        ended (Snapshot name child) (Some entries) end = end
        ended (Branch name child) (Some entries) end = end
        ended (Scan name low high limit) (Some entries) end = end
        ended Versions (Some entries) end = end
plan_made known later op (at.Scan s) (at.Scan t) mini reply w = absurd w.wants
plan_made known later op (at.Scan s) at.Start mini reply w = let e = w.1.replies in absurd cc
plan_made known later op before after mini reply w = absurd w

-- What the caller has to know of it

module _ (known new : Known) (before after : Work) (keeps : KeepsKnown known new)
    (is : IsJobOf known before) (op : KeepsOp before after) where
  -- where it asks for the catalog, it stands as it stood, and may begin on a new one
  pub catalog_asked : WantsNext new before after Next.Catalog
      → (after ≡ before) × IsStartable after.op after.job × IsToAsk new.catalog after.job
  catalog_asked wants = by (asks_or_goes known new before after Next.Catalog keeps is wants)
    where
      by : AsksOrGoes new before after Next.Catalog
          → (after ≡ before) × IsStartable after.op after.job × IsToAsk new.catalog after.job
      by (inl asks) = (
        asks.1,
        subst (λ (w : Work). IsStartable w.op w.job) (sym asks.1) asks.2,
        subst (λ (w : Work). IsToAsk new.catalog w.job) (sym asks.1) asks.3,
      )
      by (inr on) = absurd (none_wanted new (is_later on.begun.failed) on.begun.op on.begun.job after.job on.goes.1)

  -- where it asks for a page
  pub page_asked : (addr : Addr) (peek : Bool) → WantsNext new before after (Next.Page addr peek)
      → IsJobOf new after × AsksPage new after addr × (addr.node.0 < new.nodes)
  page_asked addr peek wants = by (asks_or_goes known new before after (Next.Page addr peek) keeps is wants)
    where
      by : AsksOrGoes new before after (Next.Page addr peek) → IsJobOf new after × AsksPage new after addr × (addr.node.0 < new.nodes)
      by (inl asks) = let e = asks.0 in absurd cc
      by (inr on) =
          subst (λ (o : Op). IsJobIn new o after.job × AsksPageFor new o after.job addr × (addr.node.0 < new.nodes)) (on.keeps.0 ∙ sym op.0)
          (page_wanted new (is_later on.begun.failed) on.begun.op on.begun.job after.job addr peek on.kept on.right on.goes.1)

  -- where it asks for a count
  pub count_asked : (node : NodeNo) (peek : Bool) → new.nodes ≤ 8 → WantsNext new before after (Next.Count node peek)
      → IsJobOf new after × AsksCount after × (node.0 < new.nodes) × (node.0 ≡ length (counts_of after.job))
  count_asked node peek few wants = by (asks_or_goes known new before after (Next.Count node peek) keeps is wants)
    where
      by : AsksOrGoes new before after (Next.Count node peek)
          → IsJobOf new after × AsksCount after × (node.0 < new.nodes) × (node.0 ≡ length (counts_of after.job))
      by (inl asks) = let e = asks.0 in absurd cc
      by (inr on) =
          subst (λ (o : Op). IsJobIn new o after.job × AsksCountFor o after.job × (node.0 < new.nodes) × (node.0 ≡ length (counts_of after.job))) (on.keeps.0 ∙ sym op.0)
          (count_wanted new (is_later on.begun.failed) on.begun.op on.begun.job after.job node peek few on.goes.1)

  -- where it makes its plan
  pub plan_asked : (mini : Mini) (reply : Reply) → WantsNext new before after (Next.Plan mini reply)
      → (mini.nodes ≡ new.nodes) × HasBegun after.job × (new.catalog ≢ None)
  plan_asked mini reply wants = by (asks_or_goes known new before after (Next.Plan mini reply) keeps is wants)
    where
      by : AsksOrGoes new before after (Next.Plan mini reply)
          → (mini.nodes ≡ new.nodes) × HasBegun after.job × (new.catalog ≢ None)
      by (inl asks) = let e = asks.0 in absurd cc
      by (inr on) = (
        plan_wanted new (is_later on.begun.failed) on.begun.op on.begun.job after.job mini reply on.goes.1,
        plan_begun new (is_later on.begun.failed) on.begun.op on.begun.job after.job mini reply on.goes.1,
        on.kept,
      )

  -- which is just what its job asks for
  pub plan_made_by : (mini : Mini) (reply : Reply) → WantsNext new before after (Next.Plan mini reply)
      → MakesPlan new after reply mini
  plan_made_by mini reply wants = by (asks_or_goes known new before after (Next.Plan mini reply) keeps is wants)
    where
      by : AsksOrGoes new before after (Next.Plan mini reply) → MakesPlan new after reply mini
      by (inl asks) = let e = asks.0 in absurd cc
      by (inr on) =
          subst (λ (o : Op). MatchOption new.catalog ⊥ (λ entries. IsPlanOfJob new.nodes entries o after.job reply mini)) (on.keeps.0 ∙ sym op.0)
          (plan_made new (is_later on.begun.failed) on.begun.op on.begun.job after.job mini reply on.goes.1)

-- What came in

-- a scan goes on by a kept catalog
scan_kept : (known : Known) (name : List ℕ) (addr : Addr) (bytes : List ℕ) (s r : ScanState) (taken : Taken)
    → known.catalog ≡ None → scans.ScanGoesOn known name s addr bytes r taken
    → ((taken ≡ Taken.GoesOn) ⊎ (taken ≡ Taken.Leaf)) → ⊥
scan_kept known name addr bytes s r taken none takes goes = by known.catalog none taken takes goes
  where
    goes_not : (o : Option (List CatEntry)) (page : Page) → o ≡ None → scans.goes_by_kept o name s page ≡ true → ⊥
    goes_not None page none e = cc
    goes_not (Some entries) page none e = cc

    by : (o : Option (List CatEntry)) → o ≡ None → (t : Taken) → scans.TakesBytes o name s addr bytes r t
        → ((t ≡ Taken.GoesOn) ⊎ (t ≡ Taken.Leaf)) → ⊥
    by o none Taken.GoesOn (inl bad) goes = let e = bad.1 in cc
    by o none Taken.GoesOn (inr page) goes = goes_not o page.0 none page.2.0
    by o none Taken.Leaf (inl bad) goes = let e = bad.1 in cc
    by o none Taken.Leaf (inr page) goes = goes_not o page.0 none page.2.0
    by o none (Taken.Replies reply) takes (inl e) = cc
    by o none (Taken.Replies reply) takes (inr e) = cc
    by o none (Taken.Fails cause) takes (inl e) = cc
    by o none (Taken.Fails cause) takes (inr e) = cc

page_goes : (known : Known) (later : Bool) (addr : Addr) (bytes : List ℕ) (op : Op) (before after : Job) (taken : Taken)
    → IsJobIn known op before → JobTakes known later addr bytes op before after taken
    → ((taken ≡ Taken.GoesOn) ⊎ (taken ≡ Taken.Leaf)) → IsJobIn known op after
page_goes known later addr bytes (Tx name steps) (at.Get d) (at.Get e) taken is t goes =
    by (lone_key steps) t
  where
    by : (o : Option (List ℕ)) → MatchOption o ⊥ (λ key. GetTakes known.catalog key bytes d e taken)
        → IsJobIn known (Tx name steps) (at.Get e)
    by None t = absurd t
    by (Some key) t = (is.0, t.above, is.2)
page_goes known later addr bytes (Tx name steps) (at.Transaction a) (at.Transaction b) taken is t goes = by taken t.way t.takes goes
  where
    by : (told : Taken) → attempts.CameBySteps known steps b told → attempts.TakesRead known later steps a addr bytes b told
        → ((told ≡ Taken.GoesOn) ⊎ (told ≡ Taken.Leaf)) → IsJobIn known (Tx name steps) (at.Transaction b)
    by Taken.GoesOn way takes goes = way
    by Taken.Leaf way takes goes = absurd (no_leaf known.catalog takes)
      where
        no_leaf_in : (entries : List CatEntry) → attempts.TakesBytes known.nodes entries later steps a addr bytes b Taken.Leaf → ⊥
        no_leaf_in entries (inl none) = none.2
        no_leaf_in entries (inr page) = page.3

        no_leaf : (o : Option (List CatEntry)) → MatchOption o ⊥ (λ entries. attempts.TakesBytes known.nodes entries later steps a addr bytes b Taken.Leaf) → ⊥
        no_leaf None t = t
        no_leaf (Some entries) t = no_leaf_in entries t
    by (Taken.Replies reply) way takes (inl e) = absurd cc
    by (Taken.Replies reply) way takes (inr e) = absurd cc
    by (Taken.Fails cause) way takes (inl e) = absurd cc
    by (Taken.Fails cause) way takes (inr e) = absurd cc
page_goes known later addr bytes op (at.Child c) (at.Child d) taken is t goes = t.way
page_goes known later addr bytes (Scan name low high limit) (at.Scan s) (at.Scan r) taken is t goes =
    (t.above, λ none. absurd (scan_kept known name addr bytes s r taken none t.takes goes))
page_goes known later addr bytes op before after taken is t goes = absurd t

-- where it goes on with a page, or takes a leaf, its job is one of the operation
pub page_taken : (known new : Known) (addr : Addr) (bytes : List ℕ) (before after : Work) (taken : Taken)
    → KeepsKnown known new → IsJobOf known before → KeepsOp before after
    → TakesPageBytes known addr bytes before after taken
    → ((taken ≡ Taken.GoesOn) ⊎ (taken ≡ Taken.Leaf)) → IsJobOf new after
page_taken known new addr bytes before after taken keeps is op takes goes =
    job_kept known new keeps after.op after.job
    (subst (λ (o : Op). IsJobIn known o after.job) (sym op.0)
    (page_goes known (is_later before.failed) addr bytes before.op before.job after.job taken is takes.1 goes))

-- one more count
more_few : (before after : List ℕ) (count nodes : ℕ) → after ≡ before ++ count ∷ [] → length before < nodes
    → length after ≤ nodes
more_few before after count nodes is low = let long = ap (λ (l : List ℕ). length l) is ∙ length-append before (count ∷ []) in omega arith

more_given : (before after : List ℕ) (count : ℕ) → after ≡ before ++ count ∷ [] → count ≤ max_slots
    → AllByRecursion (λ c. c ≤ max_slots) before → AllByRecursion (λ c. c ≤ max_slots) after
more_given before after count is small all =
    subst (AllByRecursion (λ c. c ≤ max_slots)) (sym is) (all_append (λ c. c ≤ max_slots) before (count ∷ []) all (small, tt))

attempt_counts : (nodes : ℕ) (entries : List CatEntry) (steps : List Step) (a b : Attempt) (count : ℕ)
    → attempts.IsUnderWay nodes entries steps a → attempts.SameButCounts a b
    → b.counts.items ≡ a.counts.items ++ count ∷ [] → count ≤ max_slots → length a.counts.items < nodes
    → attempts.IsUnderWay nodes entries steps b
attempt_counts nodes entries steps a b count way same is small low = record {
  name = way.name;
  admits = admits_as entries (Tx way.name steps) a.version a.root b.version b.root same.0.0 same.0.1 way.admits;
  entry = way.entry;
  early = subst (λ (v : VersionNo). v.0 < max_versions) (sym same.0.0) way.early;
  right = way.right;
  some = way.some;
  many = way.many;
  parents = ap (λ (s : TreeState). s.parents) same.1 ∙ way.parents;
  version = ap (λ (s : TreeState). s.version) same.1 ∙ way.version ∙ sym same.0.0;
  root = ap (λ (s : TreeState). s.root) same.1 ∙ way.root ∙ sym same.0.1;
  moves = way.moves;
  came = way.came;
  come =
      subst (λ (v : VersionNo). ComeTo (parents_of (heads_in entries)) v b.root way.moves b.overlay.draft way.came (take b.done steps) b.found.items) (sym same.0.0)
      (subst (λ (r : Addr). ComeTo (parents_of (heads_in entries)) a.version r way.moves b.overlay.draft way.came (take b.done steps) b.found.items) (sym same.0.1)
      (subst (λ (s : TreeState). ComeTo (parents_of (heads_in entries)) a.version a.root way.moves s.draft way.came (take b.done steps) b.found.items) (sym same.1)
      (subst (λ (n : ℕ). ComeTo (parents_of (heads_in entries)) a.version a.root way.moves a.overlay.draft way.came (take n steps) b.found.items) (sym same.4)
      (subst (λ (f : Vec (Option (List ℕ)) Global). ComeTo (parents_of (heads_in entries)) a.version a.root way.moves a.overlay.draft way.came (take a.done steps) f.items) (sym same.3) way.come))));
  pages = ap (λ (v : Vec SeenPage Global). v.items) same.2 ∙ way.pages;
  within = way.within;
  low = subst (λ (n : ℕ). n ≤ length steps) (sym same.4) way.low;
  few = more_few a.counts.items b.counts.items count nodes is low;
  given = more_given a.counts.items b.counts.items count is small way.given;
}

child_counts : (nodes : ℕ) (entries : List CatEntry) (op : Op) (c d : Child) (count : ℕ)
    → children.IsUnderWay nodes entries op c → children.SameButCounts c d
    → d.counts.items ≡ c.counts.items ++ count ∷ [] → count ≤ max_slots → length c.counts.items < nodes
    → children.IsUnderWay nodes entries op d
child_counts nodes entries op c d count way same is small low = record {
  makes = way.makes;
  admits = admits_as entries op c.version c.root d.version d.root same.0 same.1 way.admits;
  page =
      subst (λ (o : Option Page). MatchOption o ⊤ (λ p. IsPage p × (children.may_copy entries d.version.0 p ≡ true) × (d.root.node.0 < nodes))) (sym same.2)
      (subst (λ (v : VersionNo). MatchOption c.page ⊤ (λ p. IsPage p × (children.may_copy entries v.0 p ≡ true) × (d.root.node.0 < nodes))) (sym same.0)
      (subst (λ (r : Addr). MatchOption c.page ⊤ (λ p. IsPage p × (children.may_copy entries c.version.0 p ≡ true) × (r.node.0 < nodes))) (sym same.1) way.page));
  few = more_few c.counts.items d.counts.items count nodes is low;
  given = more_given c.counts.items d.counts.items count is small way.given;
}

told_as : (o : Option (List CatEntry)) (P Q : List CatEntry → Type 0) → ((entries : List CatEntry) → P entries → Q entries)
    → MatchOption o ⊥ P → MatchOption o ⊥ Q
told_as None P Q on is = is
told_as (Some entries) P Q on is = on entries is

count_goes : (known : Known) (bytes : List ℕ) (op : Op) (before after : Job) → IsJobIn known op before
    → length (counts_of before) < known.nodes → JobCounts bytes before after Taken.GoesOn → IsJobIn known op after
count_goes known bytes (Tx name steps) (at.Transaction a) (at.Transaction b) is low c =
    told_as known.catalog (λ es. attempts.IsUnderWay known.nodes es steps a) (λ es. attempts.IsUnderWay known.nodes es steps b)
    (λ es way. attempt_counts known.nodes es steps a b c.0.0 way c.1 c.0.2 c.0.1.0 low) is
count_goes known bytes op (at.Transaction a) (at.Transaction b) is low c = absurd is
count_goes known bytes op (at.Child a) (at.Child b) is low c =
    told_as known.catalog (λ es. children.IsUnderWay known.nodes es op a) (λ es. children.IsUnderWay known.nodes es op b)
    (λ es way. child_counts known.nodes es op a b c.0.0 way c.1 c.0.2 c.0.1.0 low) is
count_goes known bytes op before after is low c = absurd c

-- where it goes on with a count, its job is one of the operation
pub count_taken : (known : Known) (bytes : List ℕ) (before after : Work) → IsJobOf known before
    → KeepsOp before after → length (counts_of before.job) < known.nodes
    → TakesCountBytes bytes before after Taken.GoesOn → IsJobOf known after
count_taken known bytes before after is op low takes =
    subst (λ (o : Op). IsJobIn known o after.job) (sym op.0)
    (count_goes known bytes before.op before.job after.job is low takes.1)

-- A later try

-- a later try may begin on a new catalog, whatever is kept
pub retry_starts : (known : Known) (w : Work) → IsJobOf known w → IsStartable (retried w).op (retried w).job
retry_starts known w is = by w.op w.job is
  where
    by : (op : Op) (job : Job) → IsJobIn known op job → IsStartable op (retried_job job)
    by op at.Start is = tt
    by op (at.Get d) is = tt
    by op (at.Transaction a) is = tt
    by op (at.Child c) is = tt
    by (Scan name low high limit) (at.Scan s) is = (refl, refl)
    by op (at.Scan s) is = absurd is

-- what may begin on a new catalog is a job of the operation
pub starts_right : (known : Known) (w : Work) → IsStartable w.op w.job → IsJobOf known w
starts_right known w starts = by w.op w.job starts
  where
    by : (op : Op) (job : Job) → IsStartable op job → IsJobIn known op job
    by op at.Start starts = tt
    by (Scan name low high limit) (at.Scan s) starts = (subst IsAbove (sym starts.1) tt, λ none. starts)
    by op job starts = absurd starts

-- where the root of its version has moved it stands as it stood
moved_stays : (known : Known) (before after : Work) → StartsBy known before after Started.Moved → after ≡ before
moved_stays known before after starts = by known.catalog starts.1
  where
    by : (o : Option (List CatEntry)) → MatchOption o ⊥ (λ entries. StartsOn entries before after Started.Moved) → after ≡ before
    by None moved = absurd moved
    by (Some entries) moved = moved.1

-- so may one after a try that failed by what it wanted, by a page, by a count or by the catalog

retried_wants : (known : Known) (later : Bool) (op : Op) (before after : Job) (next : Next)
    → IsJobIn known op before → JobWants known later op before after next → IsStartable op (retried_job after)
retried_wants known later op (at.Get d) (at.Get e) next is w = tt
retried_wants known later (Tx name steps) (at.Transaction a) (at.Transaction b) next is w = tt
retried_wants known later op (at.Child c) (at.Child d) next is w = tt
retried_wants known later (Scan name low high limit) (at.Scan s) (at.Scan t) next is w = (refl, refl)
retried_wants known later op (at.Scan s) (at.Scan t) next is w = absurd is
retried_wants known later op (at.Scan s) at.Start next is w = tt
retried_wants known later op before after next is w = absurd w

pub retry_after_wants : (known new : Known) (before after : Work) (next : Next) → KeepsKnown known new
    → IsJobOf known before → KeepsOp before after → WantsNext new before after next
    → IsStartable (retried after).op (retried after).job
retry_after_wants known new before after next keeps is op wants =
    by (asks_or_goes known new before after next keeps is wants)
  where
    by : AsksOrGoes new before after next → IsStartable after.op (retried_job after.job)
    by (inl asks) =
        subst (λ (w : Work). IsStartable w.op (retried_job w.job)) (sym asks.1)
        (retry_starts new before (job_kept known new keeps before.op before.job is))
    by (inr on) =
        subst (λ (o : Op). IsStartable o (retried_job after.job)) (on.keeps.0 ∙ sym op.0)
        (retried_wants new (is_later on.begun.failed) on.begun.op on.begun.job after.job next on.right on.goes.1)

retried_takes : (known : Known) (later : Bool) (addr : Addr) (bytes : List ℕ) (op : Op) (before after : Job) (taken : Taken)
    → JobTakes known later addr bytes op before after taken → IsStartable op (retried_job after)
retried_takes known later addr bytes (Tx name steps) (at.Get d) (at.Get e) taken t = tt
retried_takes known later addr bytes (Tx name steps) (at.Transaction a) (at.Transaction b) taken t = tt
retried_takes known later addr bytes op (at.Child c) (at.Child d) taken t = tt
retried_takes known later addr bytes (Scan name low high limit) (at.Scan s) (at.Scan r) taken t = (refl, refl)
retried_takes known later addr bytes op before after taken t = absurd t

pub retry_after_page : (known : Known) (addr : Addr) (bytes : List ℕ) (before after : Work) (taken : Taken)
    → KeepsOp before after → TakesPageBytes known addr bytes before after taken
    → IsStartable (retried after).op (retried after).job
retry_after_page known addr bytes before after taken op takes =
    subst (λ (o : Op). IsStartable o (retried_job after.job)) (sym op.0)
    (retried_takes known (is_later before.failed) addr bytes before.op before.job after.job taken takes.1)

pub retry_after_count : (bytes : List ℕ) (before after : Work) (taken : Taken)
    → TakesCountBytes bytes before after taken → IsStartable (retried after).op (retried after).job
retry_after_count bytes before after taken takes = by before.job after.job takes.1
  where
    by : (j k : Job) → JobCounts bytes j k taken → IsStartable after.op (retried_job k)
    by (at.Transaction a) (at.Transaction b) c = tt
    by (at.Child a) (at.Child b) c = tt
    by j k c = absurd c

pub retry_after_catalog : (known : Known) (bytes : List ℕ) (before after : Work) (cause : Option Busy)
    → IsStartable before.op before.job → KeepsOp before after
    → TakesCatalog bytes before known after (Taken.Fails cause)
    → IsStartable (retried after).op (retried after).job
retry_after_catalog known bytes before after cause starts op takes = by takes
  where
    again : IsStartable before.op (retried_job before.job)
    again = retry_starts known before (starts_right known before starts)

    by : TakesCatalog bytes before known after (Taken.Fails cause) → IsStartable after.op (retried_job after.job)
    by (inl bad) =
        subst (λ (o : Op). IsStartable o (retried_job after.job)) (sym op.0)
        (subst (λ (j : Job). IsStartable before.op (retried_job j)) (sym bad.3) again)
    by (inr read) =
        subst (λ (w : Work). IsStartable w.op (retried_job w.job))
        (sym (moved_stays known before after read.3.1)) again

-- A try that failed

-- only a transaction begins on what is kept
pub begins_steps : (catalog : Option (List CatEntry)) (op : Op) → knows.lacks_catalog catalog op ≡ false
    → (name : List ℕ) × (steps : List Step) × (op ≡ Tx name steps)
begins_steps catalog (Tx name steps) enough = (name, steps, refl)
begins_steps catalog (Snapshot name child) enough = absurd cc
begins_steps catalog (Branch name child) enough = absurd cc
begins_steps catalog (Scan name low high limit) enough = absurd cc
begins_steps catalog Versions enough = absurd cc

steps_begin_anew : (known : Known) (name : List ℕ) (steps : List Step) (job : Job) → IsJobIn known (Tx name steps) job
    → retried_job job ≡ at.Start
steps_begin_anew known name steps at.Start is = refl
steps_begin_anew known name steps (at.Get d) is = refl
steps_begin_anew known name steps (at.Transaction a) is = refl
steps_begin_anew known name steps (at.Child c) is = refl
steps_begin_anew known name steps (at.Scan s) is = absurd is

retried_alike_wants : (known : Known) (later : Bool) (op : Op) (before after : Job) (cause : Option Busy)
    → JobWants known later op before after (Next.Fails cause) → retried_job after ≡ retried_job before
retried_alike_wants known later op (at.Get d) (at.Get e) cause w = refl
retried_alike_wants known later (Tx name steps) (at.Transaction a) (at.Transaction b) cause w = refl
retried_alike_wants known later op (at.Child c) (at.Child d) cause w = refl
retried_alike_wants known later op (at.Scan s) (at.Scan t) cause w = ap at.Scan w.alike
retried_alike_wants known later op (at.Scan s) at.Start cause w = let e = w.1.replies in absurd cc
retried_alike_wants known later op before after cause w = absurd w

-- what a later try takes along is what the one that failed had, by what it wanted
pub retried_after_wants : (known new : Known) (before after : Work) (cause : Option Busy) → KeepsKnown known new
    → IsJobOf known before → WantsNext new before after (Next.Fails cause)
    → (after.spoiled ≡ before.spoiled) × ((retried after).job ≡ (retried before).job)
retried_after_wants known new before after cause keeps is wants =
    by (asks_or_goes known new before after (Next.Fails cause) keeps is wants)
  where
    by : AsksOrGoes new before after (Next.Fails cause) → (after.spoiled ≡ before.spoiled) × (retried_job after.job ≡ retried_job before.job)
    by (inl asks) = let e = asks.0 in absurd cc
    by (inr on) =
        let alike = retried_alike_wants new (is_later on.begun.failed) on.begun.op on.begun.job after.job cause on.goes.1 in
        from on.begins alike
      where
        from : (on.begun ≡ before) ⊎ ((before.job ≡ at.Start) × BeginsBy new before on.begun)
            → retried_job after.job ≡ retried_job on.begun.job
            → (after.spoiled ≡ before.spoiled) × (retried_job after.job ≡ retried_job before.job)
        from (inl same) alike = (on.goes.0 ∙ ap (λ (w : Work). w.spoiled) same, alike ∙ ap (λ (w : Work). retried_job w.job) same)
        from (inr (start, b)) alike =
            let tx = begins_steps new.catalog before.op b.enough in
            let right : IsJobIn new (Tx tx.0 tx.1) on.begun.job = subst (λ (o : Op). IsJobIn new o on.begun.job) (b.op.0 ∙ tx.2) b.right in
            (on.goes.0 ∙ b.starts.0, alike ∙ steps_begin_anew new tx.0 tx.1 on.begun.job right ∙ sym (ap retried_job start))

retried_alike_takes : (known : Known) (later : Bool) (addr : Addr) (bytes : List ℕ) (op : Op) (before after : Job) (cause : Option Busy)
    → JobTakes known later addr bytes op before after (Taken.Fails cause) → retried_job after ≡ retried_job before
retried_alike_takes known later addr bytes (Tx name steps) (at.Get d) (at.Get e) cause t = refl
retried_alike_takes known later addr bytes (Tx name steps) (at.Transaction a) (at.Transaction b) cause t = refl
retried_alike_takes known later addr bytes op (at.Child c) (at.Child d) cause t = refl
retried_alike_takes known later addr bytes (Scan name low high limit) (at.Scan s) (at.Scan r) cause t = ap at.Scan t.stays
retried_alike_takes known later addr bytes op before after cause t = absurd t

-- by a page
pub retried_after_page : (known : Known) (addr : Addr) (bytes : List ℕ) (before after : Work) (cause : Option Busy)
    → TakesPageBytes known addr bytes before after (Taken.Fails cause)
    → (after.spoiled ≡ before.spoiled) × ((retried after).job ≡ (retried before).job)
retried_after_page known addr bytes before after cause takes =
    (takes.0, retried_alike_takes known (is_later before.failed) addr bytes before.op before.job after.job cause takes.1)

-- by a count
pub retried_after_count : (bytes : List ℕ) (before after : Work) (taken : Taken)
    → TakesCountBytes bytes before after taken
    → (after.spoiled ≡ before.spoiled) × ((retried after).job ≡ (retried before).job)
retried_after_count bytes before after taken takes = (takes.0, by before.job after.job takes.1)
  where
    by : (j k : Job) → JobCounts bytes j k taken → retried_job k ≡ retried_job j
    by (at.Transaction a) (at.Transaction b) c = refl
    by (at.Child a) (at.Child b) c = refl
    by j k c = absurd c

-- where a try begins, by what the code has found

at_some : (o : Option (List CatEntry)) (P : List CatEntry → Type 0) (entries : List CatEntry) → o ≡ Some entries
    → MatchOption o ⊥ P → P entries
at_some o P entries is told = subst (λ (x : Option (List CatEntry)). MatchOption x ⊥ P) is told

by_some : (o : Option (List CatEntry)) (P : List CatEntry → Type 0) (entries : List CatEntry) → o ≡ Some entries
    → P entries → MatchOption o ⊥ P
by_some o P entries is told = subst (λ (x : Option (List CatEntry)). MatchOption x ⊥ P) (sym is) told

named_as : (op : Op) (name : List ℕ) → version_name op ≡ Some name → op_version op ≡ name
named_as (Tx version steps) name e = cc
named_as (Snapshot version child) name e = cc
named_as (Branch version child) name e = cc
named_as (Scan version low high limit) name e = cc
named_as Versions name e = absurd cc

module _ (known : Known) (entries : List CatEntry) (w : Work) (is : known.catalog ≡ Some entries)
    (may : MayStart known w) (name : List ℕ) (version : VersionNo) (root : Addr)
    (named : version_name w.op ≡ Some name)
    (found : root_named entries name ≡ Some (version.0, root)) where
  -- the kept catalog admits the operation
  pub admits_start : Admits entries w.op version root
  admits_start =
      admits_by entries w.op version root
      (at_some known.catalog (λ es. refusal (heads_in es) w.op ≡ None) entries is may.1)
      (ap (λ (n : List ℕ). root_named entries n) (named_as w.op name named) ∙ found)

  goes_new : (before job : Job) → ((s : ScanState) → before ≡ at.Scan s → ⊥) → BeginsJob entries w version root job
      → GoesOnFrom entries w before job
  goes_new at.Start job other begins = (version, root, admits_start, begins)
  goes_new (at.Get d) job other begins = (version, root, admits_start, begins)
  goes_new (at.Transaction a) job other begins = (version, root, admits_start, begins)
  goes_new (at.Child c) job other begins = (version, root, admits_start, begins)
  goes_new (at.Scan s) job other begins = absurd (other s refl)

  pub starts_new : (job : Job) → ((s : ScanState) → w.job ≡ at.Scan s → ⊥) → BeginsJob entries w version root job
      → StartsBy known w (record { op = w.op; failed = w.failed; spoiled = w.spoiled; job = job }) Started.On
  starts_new job other begins =
      (refl, by_some known.catalog (λ es. GoesOnFrom es w w.job job) entries is (goes_new w.job job other begins))

  -- a scan whose root stands as it stood
  pub starts_again : (s : ScanState) → w.job ≡ at.Scan s → s.root ≡ root → StartsBy known w w Started.On
  starts_again s scans same = (
    refl,
    by_some known.catalog (λ es. GoesOnFrom es w w.job w.job) entries is
        (subst (λ (j : Job). GoesOnFrom entries w j w.job) (sym scans) (scans, (version, subst (λ (r : Addr). Admits entries w.op version r) (sym same) admits_start))),
  )

-- what it wants, by what the code has found

module _ (known new : Known) (before after : Work) (next : Next) (keeps : KeepsKnown known new) where
  -- a try that has just begun
  pub wants_begun : (begun from : Work) → before.job ≡ at.Start → from ≡ begun → lacks_catalog known.catalog before ≡ false
      → StartsBy known before begun Started.On → KeepsOp before begun → IsJobOf known begun
      → GoesOnBy new from after next → WantsNext new before after next
  wants_begun begun from start same enough starts op right goes =
      subst (λ (j : Job). WantsFrom new before after j next) (sym start)
      (inr (
        begun,
        record {
          enough = ap (λ (o : Option (List CatEntry)). knows.lacks_catalog o before.op) keeps.1
              ∙ ap (λ (j : Job). lacks_for known.catalog before.op j) (sym start) ∙ enough;
          starts = (starts.0, subst (λ (o : Option (List CatEntry)). MatchOption o ⊥ (λ es. StartsOn es before begun Started.On)) (sym keeps.1) starts.1);
          op = op;
          right = job_kept known new keeps begun.op begun.job right;
        },
        subst (λ (w : Work). GoesOnBy new w after next) same goes,
      ))

  -- one that had begun
  pub wants_on : (from : Work) → (before.job ≡ at.Start → ⊥) → lacks_catalog known.catalog before ≡ false
      → from ≡ before → GoesOnBy new from after next → WantsNext new before after next
  wants_on from begun lacks same goes =
      by before.job begun lacks (subst (λ (w : Work). GoesOnBy new w after next) same goes)
    where
      some : not (is_some known.catalog) ≡ false → new.catalog ≢ None
      some e none = by_none known.catalog e (sym keeps.1 ∙ none)
        where
          by_none : (o : Option (List CatEntry)) → not (is_some o) ≡ false → o ≡ None → ⊥
          by_none None e n = cc
          by_none (Some entries) e n = cc

      by : (j : Job) → (j ≡ at.Start → ⊥) → lacks_for known.catalog before.op j ≡ false → GoesOnBy new before after next
          → WantsFrom new before after j next
      by at.Start begun lacks goes = absurd (begun refl)
      by (at.Get d) begun lacks goes = inr (some lacks, goes)
      by (at.Transaction a) begun lacks goes = inr (some lacks, goes)
      by (at.Child c) begun lacks goes = inr (some lacks, goes)
      by (at.Scan s) begun lacks goes = inr (some lacks, goes)

-- What was shown last

-- a job that begins goes by nothing yet
begins_last : (es : List Entry) (entries : List CatEntry) (op : Op) (spoiled : Bool) (version : VersionNo)
    (root : Addr) (job : Job) → BeginsOn entries op spoiled version root job → JobIsLast es job
begins_last es entries (Tx name steps) spoiled version root job begins = by (lone_key steps) begins
  where
    by : (o : Option (List ℕ))
        → MatchOption o (BeginsSteps entries version root job) (λ key. job ≡ at.Get (record { version = version; addr = root; above = None }))
        → JobIsLast es job
    by (Some key) is = subst (JobIsLast es) (sym is) tt
    by None told =
        subst (JobIsLast es) (sym told.1) (subst (PagesAreLast es) (sym told.2.pages) tt)
begins_last es entries (Scan name low high limit) spoiled version root job begins =
    subst (JobIsLast es) (sym begins.1) tt
begins_last es entries Versions spoiled version root job begins = absurd begins
begins_last es entries (Snapshot name child) spoiled version root job begins =
    subst (JobIsLast es) (sym begins.1) (subst (RootIsLast es begins.0.root) (sym begins.2.page) tt)
begins_last es entries (Branch name child) spoiled version root job begins =
    subst (JobIsLast es) (sym begins.1) (subst (RootIsLast es begins.0.root) (sym begins.2.page) tt)

pub starts_last : (es : List Entry) (known : Known) (before after : Work) → before.job ≡ at.Start
    → StartsBy known before after Started.On → JobIsLast es after.job
starts_last es known before after start starts = by known.catalog starts.1
  where
    by : (o : Option (List CatEntry)) → MatchOption o ⊥ (λ entries. StartsOn entries before after Started.On)
        → JobIsLast es after.job
    by None told = absurd told
    by (Some entries) told =
        let from = subst (λ (j : Job). GoesOnFrom entries before j after.job) start told in
        begins_last es entries before.op before.spoiled from.0 from.1 after.job from.3

pub steps_last : (pages : List (Addr × Page)) (before : Job) (a b : Attempt) (result : Result Next NoMemory)
    → before ≡ at.Transaction a → OnOk result (attempts.StaysLast pages a b)
    → OnOk result (StaysLast pages before (at.Transaction b))
steps_last pages before a b result from stays =
    on_ok_weaker {P = attempts.StaysLast pages a b} result
    (λ on es cached last. on es cached (subst (JobIsLast es) from last)) stays

pub child_last : (pages : List (Addr × Page)) (before : Job) (c d : Child) (result : Result Next NoMemory)
    → before ≡ at.Child c → OnOk result (children.StaysLast pages c d)
    → OnOk result (StaysLast pages before (at.Child d))
child_last pages before c d result from stays =
    on_ok_weaker {P = children.StaysLast pages c d} result
    (λ on es cached last. on es cached (subst (JobIsLast es) from last)) stays

-- a job that isn't a transaction goes by no other bytes of the page that was read
pub read_any : (result : Result Taken NoMemory) (addr : Addr) (bytes : List ℕ) (job : Job) → IsReadAs addr bytes job
    → IfOk result (IsReadIfOn addr bytes job)
read_any (Ok taken) addr bytes job read = λ on. read
read_any (Err none) addr bytes job read = tt

-- A transaction begins

-- where the kept catalog is enough for it, it goes on with its job
pub starts_on : (known : Known) (before after : Work) (started : Started) → before.job ≡ at.Start
    → lacks_catalog known.catalog before ≡ false → StartsBy known before after started → started ≡ Started.On
starts_on known before after started start enough starts =
    by known.catalog started (subst (λ (j : Job). lacks_for known.catalog before.op j ≡ false) start enough) starts.1
  where
    listed : (o : Option (List CatEntry)) → knows.lacks_catalog o before.op ≡ false → before.op ≡ Versions → ⊥
    listed o e is =
        let lacks : true ≡ false = subst (λ (x : Op). knows.lacks_catalog o x ≡ false) is e in
        absurd cc

    by : (o : Option (List CatEntry)) (s : Started) → lacks_for o before.op at.Start ≡ false
        → MatchOption o ⊥ (λ entries. StartsOn entries before after s) → s ≡ Started.On
    by None s e told = absurd told
    by (Some entries) Started.On e told = refl
    by (Some entries) (Started.Replies reply) e told = absurd (listed (Some entries) e told.0)
    by (Some entries) Started.Moved e told = absurd (subst IsScan start told.0)

-- The page that a job asks for

pub get_asks : (known : Known) (op : Op) (job : Job) (name : List ℕ) (steps : List Step) (d : Descent) (addr : Addr)
    → op ≡ Tx name steps → job ≡ at.Get d → AsksPageFor known op job addr → d.addr ≡ addr
get_asks known op job name steps d addr is from asks =
    subst (λ (j : Job). AsksPageFor known (Tx name steps) j addr) from
    (subst (λ (o : Op). AsksPageFor known o job addr) is asks)

-- Why a first try fails

module _ (known : Known) (job : Job) (op : Op) (next : Next) where
  pub get_fails : (name : List ℕ) (steps : List Step) (d e : Descent) (key : List ℕ) → job ≡ at.Get d → op ≡ Tx name steps
      → lone_key steps ≡ Some key → GetFailsFirst known key d e next → JobFails known job (at.Get e) op next
  get_fails name steps d e key from is lone fails =
      subst (λ (j : Job). JobFails known j (at.Get e) op next) (sym from)
      (subst (λ (o : Op). JobFails known (at.Get d) (at.Get e) o next) (sym is)
      (subst (λ (o : Option (List ℕ)). MatchOption o ⊥ (λ k. GetFailsFirst known k d e next)) (sym lone) fails))

  pub steps_fail_in : (name : List ℕ) (steps : List Step) (a b : Attempt) → job ≡ at.Transaction a → op ≡ Tx name steps
      → StepsFailFirst known steps a b next → JobFails known job (at.Transaction b) op next
  steps_fail_in name steps a b from is fails =
      subst (λ (j : Job). JobFails known j (at.Transaction b) op next) (sym from)
      (subst (λ (o : Op). JobFails known (at.Transaction a) (at.Transaction b) o next) (sym is) fails)

  pub child_fails : (c d : Child) → job ≡ at.Child c → ChildFailsFirst known op c d next
      → JobFails known job (at.Child d) op next
  child_fails c d from fails = subst (λ (j : Job). JobFails known j (at.Child d) op next) (sym from) fails

  pub scan_fails : (name : List ℕ) (low high : Option (List ℕ)) (limit : ℕ) (s t : ScanState) → job ≡ at.Scan s
      → op ≡ Scan name low high limit → ScanFailsFirst known name s (Some next)
      → JobFails known job (at.Scan t) op next
  scan_fails name low high limit s t from is fails =
      subst (λ (j : Job). JobFails known j (at.Scan t) op next) (sym from)
      (subst (λ (o : Op). JobFails known (at.Scan s) (at.Scan t) o next) (sym is) fails)

  -- a scan that has ended doesn't
  pub scan_ends : (s : ScanState) (after : Job) → job ≡ at.Scan s → after ≡ at.Start → JobFails known job after op next
  scan_ends s after from is =
      subst (λ (j : Job). JobFails known j after op next) (sym from)
      (subst (λ (j : Job). JobFails known (at.Scan s) j op next) (sym is) tt)

-- what its job wants, and why a first try fails
pub goes_so : (known : Known) (before after : Work) (result : Result Next NoMemory)
    → IfOk result (WantsSo known before after)
    → (is_later before.failed ≡ false → IfOk result (FailsFirst known before after))
    → IfOk result (GoesOnBy known before after)
goes_so known before after (Ok next) wants first = (wants.0, wants.1, first)
goes_so known before after (Err none) wants first = tt

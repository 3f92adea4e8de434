-- How an operation goes on in the hands of its proxy, by its job.
use Rattle.std.specs.Prelude.{ℕ, ◌≡◌, ◌≢◌, ◌+◌, ◌<◌, ◌≤◌, ◌⊎◌, Bool, true, false, not, List, []}
use Rattle.std.specs.Prelude.{◌∷◌, length, Option, Some, None, ⊤, MatchOption}
use Rattle.std.specs.List.{AllByRecursion}
use Rattle.std.specs.Option.{is_some}
use Rattle.mn_base.specs.Store.{listing_of, op_version, refusal}
use Rattle.mn_base.specs.Tree.{parents_of}
use Rattle.mn_base.specs.declared.ids.Addr.{Addr}
use Rattle.mn_base.specs.declared.ids.VersionNo.{VersionNo}
use Rattle.mn_base.specs.declared.op.Op.{Op}
use Rattle.mn_base.specs.declared.op.Op.TheVariants.{Tx, Scan, Versions}
use Rattle.mn_base.specs.declared.op.Step.{Step}
use Rattle.mn_base.specs.declared.op.Step.TheVariants.{Get}
use Rattle.mn_base.specs.declared.answer.Answer.TheVariants as answer
use Rattle.mn_base.specs.declared.answer.Busy.TheVariants.{Path}
use Rattle.mn_base.specs.declared.reply.Reply.{Reply}
use Rattle.mn_base.specs.declared.reply.Reply.TheVariants.{Listing, Made, Pairs}
use Rattle.mn_mini.specs.Mini.{Mini}
use Rattle.mn_page.specs.declared.entry.CatEntry.{CatEntry}
use Rattle.mn_page.specs.Forest.{heads_in}
use Rattle.mn_page.specs.declared.page.Page.{Page}
use Rattle.mn_scan.specs.Scan.{IsNeeded, ScanState, new_scan, restarted}
use Rattle.mn_tree.specs.MoveLaws.{IsStep}
use Rattle.mn_runs.specs.declared.entry.Entry.{Entry}
use Rattle.mn_work.specs.declared.attempt.Attempt.{Attempt}
use Rattle.mn_work.specs.declared.child.Child.{Child}
use Rattle.mn_work.specs.declared.get.Descent.{Descent}
use Rattle.mn_work.specs.declared.known.Known.{Known}
use Rattle.mn_work.specs.declared.next.Next.{Next}
use Rattle.mn_work.specs.declared.next.Taken.{Taken}
use Rattle.mn_work.specs.declared.work.Job.{Job}
use Rattle.mn_work.specs.declared.work.Job.TheVariants as at
use Rattle.mn_work.specs.declared.work.Started.{Started}
use Rattle.mn_work.specs.declared.work.Work.{Work}
use Rattle.mn_work.specs.Attempts as attempts
use Rattle.mn_work.specs.Catalogs.{SpellsNoVersions, SpellsVersions}
use Rattle.mn_work.specs.Children as children
use Rattle.mn_work.specs.Descents as descents
use Rattle.mn_work.specs.Firsts as firsts
use Rattle.mn_work.specs.Knows as knows
use Rattle.mn_work.specs.Last.{AreReadAs, CacheIsLast, PagesAreLast, RootIsLast}
use Rattle.mn_work.specs.Scans as scans
use Rattle.mn_work.specs.Walks.{Admits, IsAbove, is_later}

-- Operations

-- the key of a Get that is alone
abbrev pub lone_key : List Step → Option (List ℕ)
lone_key (Get key ∷ []) = Some key
lone_key steps = None

-- the name of the version of an operation on one
abbrev pub version_name : Op → Option (List ℕ)
version_name Versions = None
version_name op = Some (op_version op)

-- a transaction has 1 to 16 steps, with keys and values as pages may hold them
abbrev pub HasRightSteps : Op → Type 0
HasRightSteps (Tx name steps) =
    AllByRecursion IsStep steps × (1 ≤ length steps) × (length steps ≤ 16)
HasRightSteps op = ⊤

-- Jobs

abbrev pub new_work : Op → Work
new_work op = record { op = op; failed = 0; spoiled = false; job = at.Start }

abbrev pub retried_job : Job → Job
retried_job (at.Scan s) = at.Scan (restarted s)
retried_job job = at.Start

-- a later try takes along only how far a scan has come
abbrev pub retried : Work → Work
retried w = record {
  op = w.op;
  failed = w.failed + 1;
  spoiled = w.spoiled;
  job = retried_job w.job;
}

abbrev pub lacks_for : Option (List CatEntry) → Op → Job → Bool
lacks_for catalog op at.Start = knows.lacks_catalog catalog op
lacks_for catalog op job = not (is_some catalog)

-- it has to read the catalog first
abbrev pub lacks_catalog : Option (List CatEntry) → Work → Bool
lacks_catalog catalog w = lacks_for catalog w.op w.job

-- it walks from the root
abbrev pub IsAtRoot : ScanState → Type 0
IsAtRoot s = (s.needed ≡ s.root) × (s.above ≡ None)

-- a lone Get has its own job, on a kept catalog; where none is kept a scan walks from the root
abbrev pub IsJobIn : Known → Op → Job → Type 0
IsJobIn known op at.Start = ⊤
IsJobIn known (Tx name steps) (at.Get d) =
    (lone_key steps ≢ None) × IsAbove d.above × (known.catalog ≢ None)
IsJobIn known (Tx name steps) (at.Transaction a) = attempts.IsOnItsWay known steps a
IsJobIn known op (at.Child c) = children.IsOnItsWay known op c
IsJobIn known (Scan name low high limit) (at.Scan s) =
    IsAbove s.above × (known.catalog ≡ None → IsAtRoot s)
IsJobIn known op job = ⊥

-- its job is one of the operation, and has come so far by the kept catalog
abbrev pub IsJobOf : Known → Work → Type 0
IsJobOf known w = IsJobIn known w.op w.job

-- the operation stays, and how many tries have failed
abbrev pub KeepsOp : Work → Work → Type 0
KeepsOp before after = (after.op ≡ before.op) × (after.failed ≡ before.failed)

-- Where a try begins

-- a job that may begin on a new catalog: a scan goes on from its root
abbrev pub IsStartable : Op → Job → Type 0
IsStartable op at.Start = ⊤
IsStartable (Scan name low high limit) (at.Scan s) = IsAtRoot s
IsStartable op job = ⊥

-- a job that hasn't begun, or has no catalog to go by, is still to ask for one
abbrev pub IsToAsk : Option (List CatEntry) → Job → Type 0
IsToAsk catalog job = (job ≡ at.Start) ⊎ (catalog ≡ None)

-- the kept catalog admits the operation
abbrev pub MayStart : Known → Work → Type 0
MayStart known w =
    IsStartable w.op w.job
    × MatchOption known.catalog ⊥ (λ entries. refusal (heads_in entries) w.op ≡ None)

-- a try of a Snapshot or a Branch that has read the catalog alone
pub record IsNewChild (version : VersionNo) (root : Addr) (c : Child) : Type 0 where
  pub version_is : c.version ≡ version
  pub root_is : c.root ≡ root
  pub page : c.page ≡ None
  pub counts : c.counts.items ≡ []

-- a new try of several steps on the tree of a version with this root
abbrev pub BeginsSteps : List CatEntry → VersionNo → Addr → Job → Type 0
BeginsSteps entries version root job =
    (a : Attempt) × (job ≡ at.Transaction a)
    × attempts.IsBegun (parents_of (heads_in entries)) version root a

abbrev pub IsScanOp : Op → Type 0
IsScanOp (Scan name low high limit) = ⊤
IsScanOp op = ⊥

-- a new job on the tree of a version with this root
abbrev pub BeginsOn : List CatEntry → Op → Bool → VersionNo → Addr → Job → Type 0
BeginsOn entries (Tx name steps) spoiled version root job =
    MatchOption (lone_key steps) (BeginsSteps entries version root job)
    (λ key. job ≡ at.Get (record { version = version; addr = root; above = None }))
BeginsOn entries (Scan name low high limit) spoiled version root job =
    (spoiled ≡ false)
    × (job ≡ at.Scan (new_scan (parents_of (heads_in entries)) version root low high limit))
BeginsOn entries Versions spoiled version root job = ⊥
BeginsOn entries op spoiled version root job =
    (c : Child) × (job ≡ at.Child c) × IsNewChild version root c

abbrev pub BeginsJob : List CatEntry → Work → VersionNo → Addr → Job → Type 0
BeginsJob entries w version root job = BeginsOn entries w.op w.spoiled version root job

-- a scan goes on where the root of its version stands as it did
abbrev pub GoesOnFrom : List CatEntry → Work → Job → Job → Type 0
GoesOnFrom entries w (at.Scan s) job =
    (job ≡ at.Scan s) × ((version : VersionNo) × Admits entries w.op version s.root)
GoesOnFrom entries w before job =
    (version : VersionNo) × (root : Addr) × Admits entries w.op version root
    × BeginsJob entries w version root job

abbrev pub IsScan : Job → Type 0
IsScan (at.Scan s) = ⊤
IsScan job = ⊥

-- how it begins
abbrev pub StartsOn : List CatEntry → Work → Work → Started → Type 0
StartsOn entries before after Started.On = GoesOnFrom entries before before.job after.job
StartsOn entries before after (Started.Replies reply) =
    (before.op ≡ Versions) × (reply ≡ Listing (listing_of (heads_in entries)))
StartsOn entries before after Started.Moved = IsScan before.job × (after ≡ before)

abbrev pub StartsBy : Known → Work → Work → Started → Type 0
StartsBy known before after started =
    (after.spoiled ≡ before.spoiled)
    × MatchOption known.catalog ⊥ (λ entries. StartsOn entries before after started)

-- where the try goes on, its job is one of the operation
abbrev pub IsJobIfOn : Known → Work → Started → Type 0
IsJobIfOn known after Started.On = IsJobOf known after
IsJobIfOn known after started = ⊤

-- What it wants next

-- a scan that has ended replies its pairs
abbrev pub ends_with : Job → Option Next
ends_with (at.Scan s) = Some (Next.Answers (answer.Replied (Pairs s.pairs)))
ends_with job = None

-- what a lone Get wants; in a later try it stands where it stood, and fails only off the nodes
pub record GetWants (nodes : ℕ) (later : Bool) (before after : Descent) (next : Next) : Type 0 where
  pub above : IsAbove after.above
  pub version : after.version ≡ before.version
  pub wants : descents.WantsPage nodes later after next
  pub stands : later ≡ true → after ≡ before
  pub fails : later ≡ true → descents.FailsOff nodes before.addr next

pub record StepsWant (known : Known) (later : Bool) (steps : List Step) (before after : Attempt)
    (next : Next) : Type 0 where
  pub keeps : attempts.KeepsVersion before after
  pub counts : after.counts ≡ before.counts
  pub way : attempts.StaysOnItsWay known steps after next
  pub pages : later ≡ true → after.pages ≡ before.pages
  pub wants : attempts.WantsNext known later steps after next

pub record ChildWants (known : Known) (later : Bool) (op : Op) (before after : Child) (next : Next)
    : Type 0 where
  pub keeps : children.KeepsTry before after
  pub way : children.StaysOnItsWay known op after next
  pub stands : later ≡ true → after ≡ before
  pub wants : children.WantsNext known later op after next

-- a scan that goes on
pub record ScanWants (nodes : ℕ) (later : Bool) (before after : ScanState) (next : Next)
    : Type 0 where
  pub above : IsAbove after.above
  pub alike : scans.WalksAlike before after
  pub wants : scans.WantsNext nodes later after (Some next)
  pub stands : later ≡ true → after ≡ before
  pub fails : later ≡ true → scans.FailsOffNodes nodes before.needed (Some next)

-- one that has ended
pub record ScanEnds (nodes : ℕ) (later : Bool) (before ended : ScanState) (next : Next)
    : Type 0 where
  pub alike : scans.WalksAlike before ended
  pub ends : ended.ended ≡ true
  pub replies : ends_with (at.Scan ended) ≡ Some next
  pub stands : later ≡ true → ended ≡ before

-- what its job wants, by cases on what the job was and is
abbrev pub JobWants : Known → Bool → Op → Job → Job → Next → Type 0
JobWants known later op (at.Get d) (at.Get e) next = GetWants known.nodes later d e next
JobWants known later (Tx name steps) (at.Transaction a) (at.Transaction b) next =
    StepsWant known later steps a b next
JobWants known later op (at.Child c) (at.Child d) next = ChildWants known later op c d next
JobWants known later op (at.Scan s) (at.Scan t) next = ScanWants known.nodes later s t next
JobWants known later op (at.Scan s) at.Start next =
    (t : ScanState) × ScanEnds known.nodes later s t next
JobWants known later op before after next = ⊥

-- a plan is just what its job asks for, by this catalog
abbrev pub IsPlanOfJob : ℕ → List CatEntry → Op → Job → Reply → Mini → Type 0
IsPlanOfJob nodes entries (Tx name steps) (at.Transaction a) reply mini =
    attempts.IsPlanMade nodes entries steps a reply mini
IsPlanOfJob nodes entries op (at.Child c) reply mini =
    (reply ≡ Made) × children.IsWanted nodes entries op c mini
IsPlanOfJob nodes entries op job reply mini = ⊥

-- by the kept one
abbrev pub MakesPlan : Known → Work → Reply → Mini → Type 0
MakesPlan known w reply mini =
    MatchOption known.catalog ⊥
    (λ entries. IsPlanOfJob known.nodes entries w.op w.job reply mini)

-- why a first try fails, by cases on what the job was and is; a scan that has ended fails by none
abbrev pub JobFails : Known → Job → Job → Op → Next → Type 0
JobFails known (at.Get d) (at.Get e) (Tx name steps) next =
    MatchOption (lone_key steps) ⊥ (λ key. firsts.GetFailsFirst known key d e next)
JobFails known (at.Transaction a) (at.Transaction b) (Tx name steps) next =
    firsts.StepsFailFirst known steps a b next
JobFails known (at.Child c) (at.Child d) op next = firsts.ChildFailsFirst known op c d next
JobFails known (at.Scan s) (at.Scan t) (Scan name low high limit) next =
    firsts.ScanFailsFirst known name s (Some next)
JobFails known (at.Scan s) at.Start op next = ⊤
JobFails known before after op next = ⊥

-- why a first try of an operation fails
abbrev pub FailsFirst : Known → Work → Work → Next → Type 0
FailsFirst known before after next = JobFails known before.job after.job before.op next

-- what its job wants
abbrev pub WantsSo : Known → Work → Work → Next → Type 0
WantsSo known before after next =
    (after.spoiled ≡ before.spoiled)
    × JobWants known (is_later before.failed) before.op before.job after.job next

-- the same; and a first try fails only so
abbrev pub GoesOnBy : Known → Work → Work → Next → Type 0
GoesOnBy known before after next =
    (after.spoiled ≡ before.spoiled)
    × JobWants known (is_later before.failed) before.op before.job after.job next
    × (is_later before.failed ≡ false → FailsFirst known before after next)

-- it begins on the kept catalog, which is enough for it
pub record BeginsBy (known : Known) (before begun : Work) : Type 0 where
  pub enough : knows.lacks_catalog known.catalog before.op ≡ false
  pub starts : StartsBy known before begun Started.On
  pub op : KeepsOp before begun
  pub right : IsJobOf known begun

-- it reads the catalog, where it hasn't begun or none is kept; or it goes on, from the kept catalog
-- where it hasn't begun
abbrev pub WantsFrom : Known → Work → Work → Job → Next → Type 0
WantsFrom known before after at.Start next =
    ((next ≡ Next.Catalog) × (after ≡ before))
    ⊎ ((begun : Work) × BeginsBy known before begun × GoesOnBy known begun after next)
WantsFrom known before after job next =
    ((next ≡ Next.Catalog) × (after ≡ before) × (known.catalog ≡ None))
    ⊎ ((known.catalog ≢ None) × GoesOnBy known before after next)

abbrev pub WantsNext : Known → Work → Work → Next → Type 0
WantsNext known before after next = WantsFrom known before after before.job next

-- What came in

-- slot 0 of node 0 stands for the catalog
abbrev pub catalog_addr : Addr
catalog_addr = record { node = record { 0 = 0 }; slot = 0 }

-- a catalog that was read: it is none, or is kept, and refuses the operation, or the try goes on
abbrev pub TakesVersions : List CatEntry → Work → Known → Work → Taken → Type 0
TakesVersions entries before known after Taken.GoesOn =
    (refusal (heads_in entries) before.op ≡ None) × StartsBy known before after Started.On
TakesVersions entries before known after (Taken.Replies reply) =
    (refusal (heads_in entries) before.op ≡ Some reply)
    ⊎ ((refusal (heads_in entries) before.op ≡ None)
    × StartsBy known before after (Started.Replies reply))
TakesVersions entries before known after (Taken.Fails cause) =
    (cause ≡ None) × StartsBy known before after Started.Moved
TakesVersions entries before known after taken = ⊥

abbrev pub TakesCatalog : List ℕ → Work → Known → Work → Taken → Type 0
TakesCatalog bytes before known after taken =
    (SpellsNoVersions bytes × (known.catalog ≡ None) × (after.spoiled ≡ true)
    × (after.job ≡ before.job) × (taken ≡ Taken.Fails (Some (Path catalog_addr 0))))
    ⊎ ((entries : List CatEntry) × SpellsVersions bytes entries × (known.catalog ≡ Some entries)
    × TakesVersions entries before known after taken)

-- it asked for the page at this address, by a kept catalog
abbrev pub AsksPageFor : Known → Op → Job → Addr → Type 0
AsksPageFor known op (at.Get d) addr = d.addr ≡ addr
AsksPageFor known (Tx name steps) (at.Transaction a) addr =
    attempts.Asks steps a addr × (addr.node.0 < known.nodes)
AsksPageFor known op (at.Child c) addr =
    (c.root ≡ addr) × (c.page ≡ None) × (addr.node.0 < known.nodes)
AsksPageFor known op (at.Scan s) addr = IsNeeded s addr × (known.catalog ≢ None)
AsksPageFor known op job addr = ⊥

abbrev pub AsksPage : Known → Work → Addr → Type 0
AsksPage known w addr = AsksPageFor known w.op w.job addr

-- what the bytes of a page made of a lone Get
pub record GetTakes (catalog : Option (List CatEntry)) (key bytes : List ℕ) (before after : Descent)
    (taken : Taken) : Type 0 where
  pub above : IsAbove after.above
  pub version : after.version ≡ before.version
  pub takes : MatchOption catalog ⊥
      (λ entries. descents.DescentTakes entries before key bytes after taken)

pub record StepsTake (known : Known) (later : Bool) (steps : List Step) (addr : Addr)
    (bytes : List ℕ) (before after : Attempt) (taken : Taken) : Type 0 where
  pub keeps : attempts.KeepsVersion before after
  pub counts : after.counts ≡ before.counts
  pub takes : attempts.TakesRead known later steps before addr bytes after taken
  pub way : attempts.CameBySteps known steps after taken

pub record ChildTakes (known : Known) (op : Op) (bytes : List ℕ) (before after : Child)
    (taken : Taken) : Type 0 where
  pub keeps : children.KeepsTry before after
  pub takes : children.TakesRootBytes known.catalog before bytes after taken
  pub way : children.IsOnItsWay known op after

pub record ScanTakes (known : Known) (name : List ℕ) (addr : Addr) (bytes : List ℕ)
    (before after : ScanState) (taken : Taken) : Type 0 where
  pub above : IsAbove after.above
  pub takes : scans.ScanGoesOn known name before addr bytes after taken
  pub stays : scans.StaysBefore before after taken

-- what they made of a job
abbrev pub JobTakes : Known → Bool → Addr → List ℕ → Op → Job → Job → Taken → Type 0
JobTakes known later addr bytes (Tx name steps) (at.Get d) (at.Get e) taken =
    MatchOption (lone_key steps) ⊥ (λ key. GetTakes known.catalog key bytes d e taken)
JobTakes known later addr bytes (Tx name steps) (at.Transaction a) (at.Transaction b) taken =
    StepsTake known later steps addr bytes a b taken
JobTakes known later addr bytes op (at.Child c) (at.Child d) taken =
    ChildTakes known op bytes c d taken
JobTakes known later addr bytes (Scan name low high limit) (at.Scan s) (at.Scan t) taken =
    ScanTakes known name addr bytes s t taken
JobTakes known later addr bytes op before after taken = ⊥

abbrev pub TakesPageBytes : Known → Addr → List ℕ → Work → Work → Taken → Type 0
TakesPageBytes known addr bytes before after taken =
    (after.spoiled ≡ before.spoiled)
    × JobTakes known (is_later before.failed) addr bytes before.op before.job after.job taken

-- What was shown last

-- what a job goes by: a plan comes from these alone
abbrev pub JobIsLast : List Entry → Job → Type 0
JobIsLast es (at.Transaction a) = PagesAreLast es a.pages.items
JobIsLast es (at.Child c) = RootIsLast es c.root c.page
JobIsLast es job = ⊤

-- whichever list has shown last what is cached and what the job goes by, it has so still
abbrev pub StaysLast : List (Addr × Page) → Job → Job → Type 0
StaysLast pages before after =
    (es : List Entry) → CacheIsLast es pages → JobIsLast es before → JobIsLast es after

-- what a transaction goes by from this address are these bytes alone; what a child goes by came
-- from one address
abbrev pub IsReadAs : Addr → List ℕ → Job → Type 0
IsReadAs addr bytes (at.Transaction a) = AreReadAs addr bytes a.pages.items
IsReadAs addr bytes job = ⊤

-- where the try goes on
abbrev pub IsReadIfOn : Addr → List ℕ → Job → Taken → Type 0
IsReadIfOn addr bytes job taken = taken ≡ Taken.GoesOn → IsReadAs addr bytes job

-- Counts

-- the counts that were read
abbrev pub counts_of : Job → List ℕ
counts_of (at.Transaction a) = a.counts.items
counts_of (at.Child c) = c.counts.items
counts_of job = []

abbrev pub AsksCountFor : Op → Job → Type 0
AsksCountFor (Tx name steps) (at.Transaction a) = length a.counts.items < 8
AsksCountFor op (at.Child c) = length c.counts.items < 8
AsksCountFor op job = ⊥

-- it asked for the count of the next node
abbrev pub AsksCount : Work → Type 0
AsksCount w = AsksCountFor w.op w.job

abbrev pub JobCounts : List ℕ → Job → Job → Taken → Type 0
JobCounts bytes (at.Transaction a) (at.Transaction b) taken =
    attempts.CountsOn a b bytes taken × attempts.SameButCounts a b
JobCounts bytes (at.Child c) (at.Child d) taken =
    children.CountsOn c d bytes taken × children.SameButCounts c d
JobCounts bytes before after taken = ⊥

-- what the bytes of a count made of it
abbrev pub TakesCountBytes : List ℕ → Work → Work → Taken → Type 0
TakesCountBytes bytes before after taken =
    (after.spoiled ≡ before.spoiled) × JobCounts bytes before.job after.job taken

-- a job that has begun
abbrev pub HasBegun : Job → Type 0
HasBegun at.Start = ⊥
HasBegun job = ⊤

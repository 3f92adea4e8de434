-- A proxy makes only entries that a run allows its client: the relation between its client's own
-- list and what it keeps, and the steps that it may make by that list. Lists stand newest first.
use Rattle.std.specs.Prelude.{ℕ, zero, suc, ◌≡◌, ◌+◌, ◌<◌, ◌⊎◌, true, false, IsTrue, List}
use Rattle.std.specs.Prelude.{[], ◌∷◌, length}
use Rattle.std.specs.Prelude.{Option, Some, None, ⊤, Contains, MatchOption}
use Rattle.std.specs.List.{list_any}
use Rattle.mn_base.specs.declared.answer.Answer.TheVariants as answers
use Rattle.mn_base.specs.declared.answer.Busy.{Busy}
use Rattle.mn_base.specs.declared.ids.ClientNo.{ClientNo}
use Rattle.mn_base.specs.declared.ids.NodeNo.{NodeNo}
use Rattle.mn_base.specs.declared.ids.Tid.{Tid}
use Rattle.mn_base.specs.declared.op.Op.{Op}
use Rattle.mn_coord.specs.Coordination.{Coordination, participant, step_of, try_request}
use Rattle.mn_coord.specs.Legal.{Agrees as CoordAgrees}
use Rattle.mn_coord.specs.declared.step.CoordStep.TheVariants.{Send}
use Rattle.mn_mini.specs.declared.item.Item.TheVariants.{Compare, Read}
use Rattle.mn_mini.specs.declared.part.PartItem.TheVariants as Bare
use Rattle.mn_mini.specs.declared.reply.NodeReply.{NodeReply}
use Rattle.mn_mini.specs.declared.reply.NodeReply.TheVariants as Say
use Rattle.mn_mini.specs.declared.request.Request.{Request}
use Rattle.mn_mini.specs.declared.request.Request.TheVariants as Ask
use Rattle.mn_mini.specs.Mini.{Mini}
use Rattle.mn_mini.specs.Sound.{Fits, IsSoundRequest}
use Rattle.mn_page.specs.declared.entry.CatEntry.{CatEntry}
use Rattle.mn_runs.specs.declared.entry.Entry.{Entry}
use Rattle.mn_runs.specs.declared.entry.What.{What}
use Rattle.mn_runs.specs.declared.entry.What.TheVariants.{Abandoned, Answered, Begin, Issue}
use Rattle.mn_scan.specs.Scan.{may_be_leaf}
use Rattle.mn_law.specs.Answers.{IsPlanBy, LastIssue, MeansBy, ShowsExpected, is_down_cause}
use Rattle.mn_law.specs.Answers.{is_refusal, nodes_of}
use Rattle.mn_runs.specs.Calls.{begun_of, call_in, calls_of, is_done, issues_of, since_begin}
use Rattle.mn_runs.specs.Calls.{under_way}
use Rattle.mn_runs.specs.Clients.{recovers_nothing, ClientAllows, Sends, is_plan, last_number}
use Rattle.mn_runs.specs.Seen.{Place, Seen, seen_in}
use Rattle.mn_law.specs.Places.{catalog_place, count_place, page_place}
use Rattle.mn_law.specs.Shown.{ShowsCatalog}
use Rattle.mn_proxy.specs.declared.errand.Errand.{Errand}
use Rattle.mn_proxy.specs.declared.errand.Errand.TheVariants as out
use Rattle.mn_proxy.specs.declared.errand.Purpose.{Purpose}
use Rattle.mn_proxy.specs.declared.errand.Purpose.TheVariants as by
use Rattle.mn_work.specs.declared.known.Known.{Known}
use Rattle.mn_proxy.specs.declared.step.ProxyStep.{ProxyStep}
use Rattle.mn_proxy.specs.declared.step.ProxyStep.TheVariants as steps
use Rattle.mn_work.specs.declared.work.Job.{Job}
use Rattle.mn_work.specs.declared.work.Job.TheVariants as at
use Rattle.mn_work.specs.declared.work.Work.{Work}
use Rattle.mn_work.specs.Catalogs.{HasParentsBelow}
use Rattle.mn_work.specs.Last.{CacheIsLast, CatalogIsLast}
use Rattle.mn_proxy.specs.Issues.{AreClosed, AreFresh, AreIssues, are_closed}
use Rattle.mn_proxy.specs.Jobs.{BeganFrom, JobShows, ScanShown}
use Rattle.mn_work.specs.Places.{place_of}
use Rattle.mn_work.specs.Refusals.{refusal_of}
use Rattle.mn_proxy.specs.State.{IsIdle, IsReady, ProxyState}
use Rattle.mn_proxy.specs.Tries.{HasAsked, HasNoLeaf, HasSentNone, IsTrying, Origin, WasRefused}
use Rattle.mn_work.specs.Walks.{IfLater}
use Rattle.mn_work.specs.Works.{HasBegun, JobIsLast}

-- What is kept

-- the list shows this catalog, with parents of lower numbers
abbrev pub IsKept : List Entry → List CatEntry → Type 0
IsKept es entries = ShowsCatalog es entries × HasParentsBelow entries

-- the list has shown last what is kept: the pages that are cached, and what stands in the place of
-- each version by the catalog
abbrev pub KeptIsLast : List Entry → Known → Type 0
KeptIsLast es known =
    CacheIsLast es known.cache × MatchOption known.catalog ⊤ (CatalogIsLast es)

-- what is so whatever is under way
pub record IsOwn (es : List Entry) (p : ProxyState) : Type 0 where
  pub issues : AreIssues p.client p.run p.known.nodes (issues_of es)
  pub issued : length (issues_of es) ≡ p.issued
  pub fresh : AreFresh p.client p.run es
  pub catalog : MatchOption p.known.catalog ⊤ (IsKept es)
  pub recovers : IsTrue (recovers_nothing es)

-- and what is so besides, unless a reply has brought bytes that aren't taken yet
abbrev pub IsOwnLast : List Entry → ProxyState → Type 0
IsOwnLast es p = IsOwn es p × KeptIsLast es p.known

-- How far a try has come

-- an operation is under way
abbrev pub IsUnderWay : List Entry → Op → Type 0
IsUnderWay es op = (number : ℕ) × (under_way es ≡ Some (record { number = number; op = op }))

-- minitransactions were issued for so many nodes, in a later try
abbrev pub AreOverNodes : ℕ → ℕ → List Entry → Type 0
AreOverNodes nodes failed now = IfLater failed (nodes_of (issues_of now) ≡ nodes)

-- a job that has begun goes by a kept catalog that its try asked for, where it had to; one that
-- hasn't, or has none, is still to ask
abbrev pub JobAsked : ℕ → ℕ → Op → List Entry → Origin → List Entry → Option (List CatEntry)
    → Job → Type 0
JobAsked nodes failed op now from try None job = HasSentNone try
JobAsked nodes failed op now from try (Some entries) at.Start = HasSentNone try
JobAsked nodes failed op now from try (Some entries) job =
    HasAsked failed op from try × AreOverNodes nodes failed now

-- the try of the operation under way goes on: nothing refused it, what its job has read is shown,
-- and what it goes by was shown last
pub record IsOpen (es : List Entry) (known : Known) (w : Work) : Type 0 where
  pub of : IsUnderWay es w.op
  pub began : BeganFrom es w.op w.job
  pub try : List Entry
  pub trying : IsTrying known.nodes w.op began.from w.failed (since_begin es) try
  pub leafless : HasNoLeaf w.op try
  pub asked : JobAsked known.nodes w.failed w.op (since_begin es) began.from try known.catalog w.job
  pub shows : JobShows known (since_begin es) try w
  pub last : KeptIsLast es known × JobIsLast es w.job

-- and nothing is on its way
abbrev pub IsAtRest : List Entry → Known → Work → Type 0
IsAtRest es known w = IsOpen es known w × AreClosed (since_begin es)

-- Reads

-- the place that is read for this purpose
abbrev pub IsPlaceFor : Job → Purpose → Place → Type 0
IsPlaceFor job by.Catalog place = place ≡ catalog_place
IsPlaceFor job (by.Page addr) place = place ≡ page_place addr
IsPlaceFor (at.Transaction a) by.Count place =
    place ≡ count_place (record { 0 = length a.counts.items })
IsPlaceFor (at.Child c) by.Count place =
    place ≡ count_place (record { 0 = length c.counts.items })
IsPlaceFor job purpose place = ⊥

-- a Peek reads for this purpose: not where a leaf may stand that shows a reply
abbrev pub MayPeekFor : Job → Purpose → Type 0
MayPeekFor job by.Catalog = ⊥
MayPeekFor (at.Get d) (by.Page addr) = may_be_leaf d.above ≡ false
MayPeekFor (at.Scan s) (by.Page addr) = may_be_leaf s.above ≡ false
MayPeekFor job (by.Plan reply) = ⊥
MayPeekFor job purpose = ⊤

-- the entry is an Exec that read the place, and was done
abbrev pub IsReadOf : Entry → Place → List ℕ → Type 0
IsReadOf e place bytes =
    (tid : Tid) × (length bytes ≡ place.length)
    × (call_in e.node e.what ≡ record {
      node = place.node;
      request = Ask.Exec tid (Bare.Read place.start place.length ∷ []);
      reply = Say.Done (bytes ∷ []);
    } ∷ [])

-- the entry is a Peek of the place that was answered
abbrev pub IsPeekOf : Entry → Place → List ℕ → Type 0
IsPeekOf e place bytes =
    (length bytes ≡ place.length)
    × (call_in e.node e.what ≡ record {
      node = place.node;
      request = Ask.Peek place.start place.length;
      reply = Say.Peeked bytes;
    } ∷ [])

-- the newest entry brought these bytes for this purpose, to a try that went on before it: by an
-- Exec, or by a Peek, in a first try
pub record HasRead (es : List Entry) (known : Known) (w : Work) (purpose : Purpose)
    (bytes : List ℕ) : Type 0 where
  pub e : Entry
  pub before : List Entry
  pub split : es ≡ e ∷ before
  pub open_before : IsOpen before known w
  pub place : Place
  pub is : IsPlaceFor w.job purpose place
  pub came : IsReadOf e place bytes
      ⊎ (IsPeekOf e place bytes × (w.failed ≡ 0) × MayPeekFor w.job purpose)

-- What is on its way

-- each compare of a plan was read by a later try, that of an entry where the catalog is read
abbrev pub AreComparesShown : List Seen → Mini → Type 0
AreComparesShown seens mini =
    (n : NodeNo) (start : ℕ) (bytes : List ℕ) → Contains mini.items (Compare n start bytes)
    → ShowsExpected seens n start bytes

-- a minitransaction for this purpose: a read of its place, or a plan of the operation, which a job
-- that has begun made
abbrev pub IsMadeFor : List Entry → Op → Job → Purpose → Mini → Type 0
IsMadeFor before op job (by.Plan reply) mini =
    IsTrue (is_plan mini.items) × IsPlanBy before op mini reply × HasBegun job
IsMadeFor before op job purpose mini =
    (place : Place) × IsPlaceFor job purpose place
    × (mini.items ≡ Read place.node place.start place.length ∷ [])

-- a read has brought nothing yet, or it is the newest entry
abbrev pub ReadGoesOn : List Entry → Known → Work → Purpose → ℕ → List (List (List ℕ)) → Type 0
ReadGoesOn es known w purpose zero reads = IsOpen es known w
ReadGoesOn es known w purpose (suc done) reads =
    (bytes : List ℕ) × (reads ≡ (bytes ∷ []) ∷ []) × HasRead es known w purpose bytes

-- nothing refused the minitransaction so far
abbrev pub MiniGoesOn : List Entry → Known → Work → Coordination → Purpose → Type 0
MiniGoesOn es known w c (by.Plan reply) =
    (o : IsOpen es known w) × IfLater w.failed (AreComparesShown (seen_in o.try) c.mini)
MiniGoesOn es known w c purpose = ReadGoesOn es known w purpose c.done c.reads

-- a node didn't do it: where it refused, its try failed by the cause that the reply tells, which a
-- first one need not show
abbrev pub MiniFailed : List Entry → Known → Work → Coordination → NodeReply → Type 0
MiniFailed es known w c reply =
    Fits (try_request c.tid c.mini (participant c c.done)) reply
    × ((began : BeganFrom es w.op w.job)
    × (is_refusal reply ≡ true → (busy : Busy)
    → IfLater w.failed (refusal_of c.tid c.mini (participant c c.done) reply ≡ Some busy)
    → WasRefused known.nodes w.op began.from w.failed (since_begin es) busy))
    × ScanShown (since_begin es) w.spoiled w.op w.job × (is_done reply ≡ false)
    × KeptIsLast es known

-- a minitransaction on its way, the last issue of the operation under way
pub record MiniAgrees (es : List Entry) (known : Known) (w : Work) (tid : Tid) (c : Coordination)
    (purpose : Purpose) : Type 0 where
  pub of : IsUnderWay es w.op
  pub coordinates : CoordAgrees es c
  pub id : c.tid ≡ tid
  pub before : List Entry
  pub last : LastIssue es (since_begin es) (record { tid = tid; mini = c.mini }) before
  pub older : IsTrue (are_closed (since_begin es) last.earlier)
  pub made : IsMadeFor before w.op w.job purpose c.mini
  pub goes : MatchOption c.refused (MiniGoesOn es known w c purpose) (MiniFailed es known w c)

-- a Peek that was answered so; want of memory is no entry
abbrev pub PeekedAgrees : List Entry → Known → Work → Place → Purpose → NodeReply → Type 0
PeekedAgrees es known w place purpose (Say.Peeked bytes) = HasRead es known w purpose bytes
PeekedAgrees es known w place purpose Say.Down =
    IsUnderWay es w.op × IsTrue (list_any (is_down_cause place.node) (calls_of (since_begin es)))
    × KeptIsLast es known
PeekedAgrees es known w place purpose reply = IsUnderWay es w.op × KeptIsLast es known

-- what is on its way for the operation under way
abbrev pub ErrandAgrees : List Entry → Known → Work → Errand → Type 0
ErrandAgrees es known w out.Nothing = IsAtRest es known w
ErrandAgrees es known w (out.Peek place purpose) =
    IsAtRest es known w × IsPlaceFor w.job purpose (place_of place) × (w.failed ≡ 0)
    × MayPeekFor w.job purpose
ErrandAgrees es known w (out.Peeked place reply purpose) =
    PeekedAgrees es known w (place_of place) purpose reply × AreClosed (since_begin es)
    × (w.failed ≡ 0)
ErrandAgrees es known w (out.Mini tid c purpose) = MiniAgrees es known w tid c purpose

-- The whole

abbrev pub WorksBy : List Entry → ProxyState → Option (Work × Errand) → Type 0
WorksBy es p None = (under_way es ≡ None) × KeptIsLast es p.known
WorksBy es p (Some (work, errand)) = ErrandAgrees es p.known work errand

-- the client's own list shows what the proxy keeps, and how far its operation has come
abbrev pub Agrees : List Entry → ProxyState → Type 0
Agrees es p = IsOwn es p × WorksBy es p p.work

-- Steps

-- an own step of the client: an entry at no node
pub record IsOwnEntry (client : ClientNo) (what : What) (e : Entry) : Type 0 where
  pub node : e.node ≡ None
  pub by : e.client ≡ Some client
  pub what_is : e.what ≡ what

-- the client may make the step: its list allows it, and shows what it means
abbrev pub MayStep : List Entry → ProxyState → ProxyStep → Type 0
MayStep es p (steps.Issue tid mini) =
    ClientAllows p.client es None (Issue tid mini) × MeansBy es (Issue tid mini)
MayStep es p (steps.Abandon tid) =
    ClientAllows p.client es None (Abandoned tid) × MeansBy es (Abandoned tid)
MayStep es p (steps.Call node request) = Sends es (Some node) request
MayStep es p (steps.Done answer) =
    ClientAllows p.client es None (Answered (last_number (begun_of es)) answer)
    × MeansBy es (Answered (last_number (begun_of es)) answer)

-- the entry that a step makes at once; that of a Call comes with its reply
abbrev pub Enters : List Entry → ProxyState → ProxyStep → List Entry → Type 0
Enters es p (steps.Issue tid mini) new =
    (e : Entry) × IsOwnEntry p.client (Issue tid mini) e × (new ≡ e ∷ es)
Enters es p (steps.Abandon tid) new =
    (e : Entry) × IsOwnEntry p.client (Abandoned tid) e × (new ≡ e ∷ es)
Enters es p (steps.Call node request) new = new ≡ es
Enters es p (steps.Done answer) new =
    (e : Entry) × IsOwnEntry p.client (Answered (last_number (begun_of es)) answer) e
    × (new ≡ e ∷ es)

-- for want of memory the operation is answered so
abbrev pub EntersWant : List Entry → ProxyState → List Entry → Type 0
EntersWant es p new = Enters es p (steps.Done answers.NoMemory) new

-- a call is sound, and goes to one of so many nodes
abbrev pub IsSoundStep : ℕ → ProxyStep → Type 0
IsSoundStep nodes (steps.Call node request) = (node.0 < nodes) × IsSoundRequest request
IsSoundStep nodes step = ⊤

-- this call was handed out, and isn't answered yet
abbrev pub HasOutIn : Option (Work × Errand) → NodeNo → Request → Type 0
HasOutIn (Some (work, out.Peek place purpose)) node request =
    (place.node ≡ node) × (request ≡ Ask.Peek place.start place.length)
HasOutIn (Some (work, out.Mini tid c purpose)) node request =
    (c.asked ≡ true) × (step_of c ≡ Send node request)
HasOutIn work node request = ⊥

abbrev pub HasOut : ProxyState → NodeNo → Request → Type 0
HasOut p node request = HasOutIn p.work node request

-- the client begins its next operation
pub record BeginsNext (es : List Entry) (client : ClientNo) (op : Op) (e : Entry) : Type 0 where
  pub idle : under_way es ≡ None
  pub own : IsOwnEntry client (Begin (last_number (begun_of es) + 1) op) e

-- for want of memory the operation may be answered so
abbrev pub MayWant : List Entry → Type 0
MayWant es = MeansBy es (Answered (last_number (begun_of es)) answers.NoMemory)

-- after a Call its reply is to be fed, after Done no operation is under way, and after another step
-- the next is to be asked for
abbrev pub Wants : ProxyStep → ProxyState → Type 0
Wants (steps.Call node request) p = HasOut p node request
Wants (steps.Done answer) p = IsIdle p
Wants step p = IsReady p

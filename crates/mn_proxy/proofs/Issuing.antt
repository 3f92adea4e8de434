-- How an operation begins, and how its proxy issues a minitransaction, by its client's own list.
use Rattle.std.proofs.Common.{◌≡◌, ◌⊎◌, inl, inr, ℕ, zero, suc, true, false, not, ◌||◌, ◌+◌, List, [], ◌∷◌, length, ◌++◌}
use Rattle.std.proofs.Common.{Option, Some, None, refl, subst, sym, ap, ◌∙◌}
use Rattle.std.specs.Prelude.{IsSome, MatchOption}
use Rattle.std.specs.List.{list_all, flat_map}
use Rattle.mn_base.proofs.Booleans.{or_left, or_right}
use Rattle.mn_base.specs.declared.ids.Tid.{Tid}
use Rattle.mn_base.specs.declared.op.Op.{Op}
use Rattle.mn_base.specs.declared.op.Op.TheVariants.{Tx, Snapshot, Branch, Scan, Versions}
use Rattle.mn_base.specs.declared.reply.Reply.{Reply}
use Rattle.mn_coord.specs.Coordination.{Coordination, new_coordination}
use Rattle.mn_coord.specs.Legal.{Agrees as CoordAgrees, IsFresh}
use Rattle.mn_mini.specs.declared.item.Item.TheVariants.{Read}
use Rattle.mn_mini.specs.Mini.{IsSound, Mini, is_read}
use Rattle.mn_page.specs.declared.entry.CatEntry.{CatEntry}
use Rattle.mn_runs.specs.declared.entry.Entry.{Entry}
use Rattle.mn_runs.specs.declared.entry.What.{What}
use Rattle.mn_runs.specs.declared.entry.What.TheVariants.{Begin, Issue}
use Rattle.mn_law.specs.Answers.{IsPlanBy, IsPlanOfOp, LastIssue, MeansBy, is_any_decide, is_catalog_call, is_refusal, nodes_of}
use Rattle.mn_runs.specs.Calls.{Begun, Call, Issued, begun_of, issue_in, issues_of, since_begin, under_way, under_way_after}
use Rattle.mn_runs.specs.Clients.{ClientAllows, is_plan, last_number}
use Rattle.mn_law.specs.Answers.{is_peek}
use Rattle.mn_runs.specs.Seen.{Place, Seen, seen_by, seen_in}
use Rattle.mn_proxy.specs.declared.proxy.TheConstants.{PEEKS}
use Rattle.mn_proxy.specs.declared.errand.Errand.{Errand}
use Rattle.mn_proxy.specs.declared.errand.Errand.TheVariants as out
use Rattle.mn_proxy.specs.declared.errand.Purpose.{Purpose}
use Rattle.mn_proxy.specs.declared.errand.Purpose.TheVariants as by
use Rattle.mn_work.specs.declared.known.Known.{Known}
use Rattle.mn_proxy.specs.Turn.{Turn}
use Rattle.mn_proxy.specs.Turn as turns
use Rattle.mn_proxy.specs.declared.step.ProxyStep.TheVariants as steps
use Rattle.mn_work.specs.declared.work.Job.{Job}
use Rattle.mn_work.specs.declared.work.Job.TheVariants as at
use Rattle.mn_work.specs.declared.work.Work.{Work}
use Rattle.mn_proxy.specs.Agrees.{AreComparesShown, AreOverNodes, Agrees, BeginsNext, IsAtRest}
use Rattle.mn_proxy.specs.Agrees.{IsMadeFor, IsOpen, IsOwn, IsOwnEntry, IsPlaceFor, JobAsked, KeptIsLast}
use Rattle.mn_proxy.specs.Agrees.{MiniAgrees, MiniGoesOn, ReadGoesOn, WorksBy}
use Rattle.mn_proxy.proofs.Last.{kept_still_last, own_gives_none}
use Rattle.mn_proxy.specs.Issues.{are_closed, tid_of}
use Rattle.mn_proxy.specs.Jobs.{ReadsShow, ScanShown}
use Rattle.mn_proxy.specs.State.{ProxyState}
use Rattle.mn_proxy.specs.Tries.{IsTrying, Origin}
use Rattle.mn_proxy.specs.Turns.{ComparesFor, IsAsAsked, IsReadFor, MayIssue, TurnAgrees, read_mini}
use Rattle.mn_work.specs.Walks.{IfLater}
use Rattle.mn_work.specs.Works.{IsStartable, new_work}
use Rattle.mn_proxy.proofs.Issues.{GoesOn, closed_are_settled, closed_follow, closed_none, closed_since, fresh_begun, fresh_next}
use Rattle.mn_proxy.proofs.Issues.{issue_goes_on, last_is_new, one_issue, own_calls_none, own_recovers_none, own_tries_none, since_begun}
use Rattle.mn_proxy.proofs.Opens.{GoesOnAs, IsQuiet, open_on, own_issued, own_on, under_way_still, with_serial}
use Rattle.mn_proxy.proofs.Tries.{NoPeek, begins_trying}

-- Where an operation begins

pub asked_at_start : (nodes failed : ℕ) (op : Op) (now : List Entry) (from : Origin)
    (catalog : Option (List CatEntry)) → JobAsked nodes failed op now from [] catalog at.Start
asked_at_start nodes failed op now from None = refl
asked_at_start nodes failed op now from (Some entries) = refl

scan_at_start : (op : Op) → ScanShown [] false op at.Start
scan_at_start (Tx name steps) = tt
scan_at_start (Snapshot name child) = tt
scan_at_start (Branch name child) = tt
scan_at_start (Scan name low high limit) = λ whole. tt
scan_at_start Versions = tt

reads_at_start : (op : Op) (seens : List Seen) (catalog : Option (List CatEntry))
    → MatchOption catalog (IsStartable op at.Start) (λ entries. ReadsShow 0 seens op entries at.Start)
reads_at_start op seens None = tt
reads_at_start op seens (Some entries) = refl

-- nothing is read yet
begins_open : (es : List Entry) (e : Entry) (number : ℕ) (op : Op) (known : Known) → e.node ≡ None
    → e.what ≡ Begin number op → KeptIsLast es known → IsOpen (e ∷ es) known (new_work op)
begins_open es e number op known node is last = record {
  of = (number, ap (λ (what : What). under_way_after what (under_way es)) is);
  began = record {
    from = record { taken = []; older = e ∷ es };
    all = ap (λ (l : List Entry). l ++ (e ∷ es)) (sym since);
    place = refl;
  };
  try = [];
  trying = trying;
  leafless = (begins_trying known.nodes op (e ∷ es)).1;
  asked = asked_at_start known.nodes 0 op (since_begin (e ∷ es)) (record { taken = []; older = e ∷ es }) known.catalog;
  shows = (
    subst (λ (l : List Entry). ScanShown l false op at.Start) (sym since) (scan_at_start op),
    reads_at_start op (seen_in []) known.catalog,
  );
  last = (kept_still_last e es known (own_gives_none e node) last, tt);
}
  where
    since : since_begin (e ∷ es) ≡ []
    since = since_begun e es number op is

    trying : IsTrying known.nodes op (record { taken = []; older = e ∷ es }) 0 (since_begin (e ∷ es)) []
    trying =
        subst (λ (l : List Entry). IsTrying known.nodes op (record { taken = []; older = e ∷ es }) 0 l []) (sym since)
        (begins_trying known.nodes op (e ∷ es)).0

-- whatever Peeks may come, and whatever is under way
pub own_peeks : (es : List Entry) (p : ProxyState) (peeks : ℕ) (work : Option (Work × Errand)) → IsOwn es p
    → IsOwn es (record p { peeks = peeks; work = work })
own_peeks es p peeks work own = record {
  issues = own.issues;
  issued = own.issued;
  fresh = own.fresh;
  catalog = own.catalog;
  recovers = own.recovers;
}

-- and with as many Peeks as before
pub own_with : (es : List Entry) (p : ProxyState) (work : Option (Work × Errand)) → IsOwn es p
    → IsOwn es (record p { work = work })
own_with es p work own = own_peeks es p p.peeks work own

-- an operation begins
pub begins_agree : (es : List Entry) (p : ProxyState) (op : Op) (e : Entry) (w : Work)
    → w ≡ new_work op → p.work ≡ None → Agrees es p → BeginsNext es p.client op e
    → Agrees (e ∷ es) (record p { peeks = PEEKS; work = Some (w, out.Nothing) })
begins_agree es p op e w new idle agrees begins = (
  own_peeks (e ∷ es) p PEEKS (Some (w, out.Nothing))
      (own_on e es p own (ap issue_in is) (fresh_begun p.client p.run e es (last_number (begun_of es) + 1) op own.fresh begins.own.node is) (own_recovers_none e es begins.own.node own.recovers)),
  (
    subst (IsOpen (e ∷ es) p.known) (sym new) (begins_open es e (last_number (begun_of es) + 1) op p.known begins.own.node is (subst (WorksBy es p) idle agrees.1).1),
    closed_none (e ∷ es) (since_begun e es (last_number (begun_of es) + 1) op is),
  ),
)
  where
    own : IsOwn es p
    own = agrees.0

    is : e.what ≡ Begin (last_number (begun_of es) + 1) op
    is = begins.own.what_is

-- Issues

-- what a minitransaction is made for makes it a read or a plan of the operation
read_or_plan : (es : List Entry) (op : Op) (job : Job) (purpose : Purpose) (mini : Mini)
    → IsMadeFor es op job purpose mini
    → (is_read mini.items ≡ true)
    ⊎ ((reply : Reply) × (is_plan mini.items ≡ true) × IsPlanBy es op mini reply)
read_or_plan es op job by.Catalog mini made = inl (ap is_read made.2)
read_or_plan es op job (by.Page addr) mini made = inl (ap is_read made.2)
read_or_plan es op job by.Count mini made = inl (ap is_read made.2)
read_or_plan es op job (by.Plan reply) mini made = inr (reply, made.0, made.1)

-- the client may issue it
may_issue : (es : List Entry) (p : ProxyState) (w : Work) (purpose : Purpose) (mini : Mini)
    → IsOwn es p → MayIssue es p.known w purpose mini → IsSound mini
    → ClientAllows p.client es None (Issue (tid_of p.client p.run (p.issued + 1)) mini)
    × MeansBy es (Issue (tid_of p.client p.run (p.issued + 1)) mini)
may_issue es p w purpose mini own may sound = (
  record {
    under_way = subst IsSome (sym may.rest.0.of.1) (named (record { number = may.rest.0.of.0; op = w.op }));
    client = refl;
    serial = ap (λ (n : ℕ). n + 1) (sym own.issued);
    kind = kind made;
    sound = sound;
    after = closed_follow (since_begin es) may.rest.1;
  },
  (closed_are_settled (since_begin es) may.rest.1, means made),
)
  where
    made : (is_read mini.items ≡ true)
        ⊎ ((reply : Reply) × (is_plan mini.items ≡ true) × IsPlanBy es w.op mini reply)
    made = read_or_plan es w.op w.job purpose mini may.made

    named : (b : Begun) → IsSome (Some b)
    named b = refl

    kind : (is_read mini.items ≡ true)
        ⊎ ((reply : Reply) × (is_plan mini.items ≡ true) × IsPlanBy es w.op mini reply)
        → (is_read mini.items || is_plan mini.items) ≡ true
    kind (inl read) = or_left _ _ read
    kind (inr plan) = or_right (is_read mini.items) _ plan.1

    means : (is_read mini.items ≡ true)
        ⊎ ((reply : Reply) × (is_plan mini.items ≡ true) × IsPlanBy es w.op mini reply)
        → (is_read mini.items ≡ true) ⊎ IsPlanOfOp es (under_way es) mini
    means (inl read) = inl read
    means (inr plan) =
        inr (subst (λ (b : Option Begun). IsPlanOfOp es b mini) (sym may.rest.0.of.1) (plan.0, plan.2))

-- an own entry is quiet
no_peek_own : (failed : ℕ) (e : Entry) → e.node ≡ None → NoPeek failed e
no_peek_own zero e own = tt
no_peek_own (suc n) e own = ap (list_all (λ (c : Call). not (is_peek c.request))) (own_calls_none e own)

issue_quiet : (failed : ℕ) (e : Entry) (tid : Tid) (mini : Mini) → e.node ≡ None
    → e.what ≡ Issue tid mini → IsQuiet failed e
issue_quiet failed e tid mini own is = record {
  goes = issue_goes_on e tid mini is;
  spares = ap (list_all (λ (c : Call). not (is_catalog_call c))) (own_calls_none e own);
  reads = ap (flat_map (λ (c : Call). seen_by c.node c.request c.reply)) (own_calls_none e own);
  gives = own_gives_none e own;
  good = ap (list_all (λ (c : Call). not (is_refusal c.reply))) (own_calls_none e own);
  peeks = no_peek_own failed e own;
}

-- it is the last one, and over as many nodes
over_issued : (nodes failed : ℕ) (e : Entry) (now : List Entry) (tid : Tid) (mini : Mini)
    → e.what ≡ Issue tid mini → mini.nodes ≡ nodes → AreOverNodes nodes failed (e ∷ now)
over_issued nodes zero e now tid mini is made = tt
over_issued nodes (suc n) e now tid mini is made = ap nodes_of (one_issue e now tid mini is) ∙ made

-- nothing has answered it yet
goes_issued : (es : List Entry) (known : Known) (w : Work) (purpose : Purpose) (c : Coordination)
    (seens : List Seen) → c.done ≡ 0 → GoesOnAs es known w seens
    → ComparesFor w.failed seens purpose c.mini → MiniGoesOn es known w c purpose
goes_issued es known w by.Catalog c seens none goes shown =
    subst (λ (n : ℕ). ReadGoesOn es known w by.Catalog n c.reads) (sym none) goes.is
goes_issued es known w (by.Page addr) c seens none goes shown =
    subst (λ (n : ℕ). ReadGoesOn es known w (by.Page addr) n c.reads) (sym none) goes.is
goes_issued es known w by.Count c seens none goes shown =
    subst (λ (n : ℕ). ReadGoesOn es known w by.Count n c.reads) (sym none) goes.is
goes_issued es known w (by.Plan reply) c seens none goes shown =
    (goes.is, subst (λ (l : List Seen). IfLater w.failed (AreComparesShown l c.mini)) (sym goes.seens_are) shown)

-- the id under which the next one is issued
abbrev pub next_tid : ProxyState → Tid
next_tid p = tid_of p.client p.run (p.issued + 1)

next_is : (es : List Entry) (p : ProxyState) → IsOwn es p
    → next_tid p ≡ tid_of p.client p.run (length (issues_of es) + 1)
next_is es p own = ap (λ (n : ℕ). tid_of p.client p.run (n + 1)) (sym own.issued)

-- with its issue it is on its way
issue_agrees : (es : List Entry) (p : ProxyState) (w : Work) (purpose : Purpose) (mini : Mini)
    (e : Entry) → IsOwn es p → MayIssue es p.known w purpose mini → mini.nodes ≡ p.known.nodes
    → CoordAgrees (e ∷ es) (new_coordination (next_tid p) mini) → e.node ≡ None
    → e.what ≡ Issue (next_tid p) mini
    → MiniAgrees (e ∷ es) p.known w (next_tid p) (new_coordination (next_tid p) mini) purpose
issue_agrees es p w purpose mini e own may nodes coordinates node is = record {
  of = under_way_still e es w.op goes may.rest.0.of;
  coordinates = coordinates;
  id = refl;
  before = es;
  last = last.0;
  older = subst (λ (l : List Issued). are_closed (since_begin (e ∷ es)) l ≡ true) (sym last.1)
      (closed_since e es (issues_of (since_begin es)) goes (own_tries_none e (issues_of (since_begin es)) node) may.rest.1);
  made = may.made;
  goes = goes_issued (e ∷ es) p.known w purpose (new_coordination (next_tid p) mini) (seen_in may.rest.0.try) refl on may.shown;
}
  where
    goes : GoesOn e.what
    goes = issue_goes_on e (next_tid p) mini is

    last : (l : LastIssue (e ∷ es) (since_begin (e ∷ es)) (record { tid = next_tid p; mini = mini }) es)
        × (l.earlier ≡ issues_of (since_begin es))
    last = last_is_new e es (next_tid p) mini is

    on : GoesOnAs (e ∷ es) p.known w (seen_in may.rest.0.try)
    on = open_on es p.known w e may.rest.0 (issue_quiet w.failed e (next_tid p) mini node is)
        (λ start. ap (list_all (λ (c : Call). is_any_decide c.request)) (own_calls_none e node))
        (λ over. over_issued p.known.nodes w.failed e (since_begin es) (next_tid p) mini is nodes)

-- the client issues it, and its coordinator goes on
issues_agree : (es : List Entry) (p : ProxyState) (w : Work) (purpose : Purpose) (mini : Mini)
    → IsOwn es p → MayIssue es p.known w purpose mini → IsSound mini → mini.nodes ≡ p.known.nodes
    → ((e : Entry) → IsFresh (next_tid p) es → e.node ≡ None → e.what ≡ Issue (next_tid p) mini
    → CoordAgrees (e ∷ es) (new_coordination (next_tid p) mini))
    → TurnAgrees es (with_serial p p.work)
    (turns.Goes (steps.Issue (next_tid p) mini) w (out.Mini (next_tid p) (new_coordination (next_tid p) mini) purpose))
issues_agree es p w purpose mini own may sound nodes agrees =
    (may_issue es p w purpose mini own may sound, λ new enters. by new enters.0 enters.1 enters.2)
  where
    fresh : IsFresh (next_tid p) es
    fresh = subst (λ (t : Tid). IsFresh t es) (sym (next_is es p own)) (fresh_next p.client p.run es own.fresh)

    by : (new : List Entry) (e : Entry) → IsOwnEntry p.client (Issue (next_tid p) mini) e → new ≡ e ∷ es
        → Agrees new (with_serial p (Some (w, out.Mini (next_tid p) (new_coordination (next_tid p) mini) purpose)))
    by new e entry is = subst (λ (l : List Entry). Agrees l (with_serial p (Some (w, out.Mini (next_tid p) (new_coordination (next_tid p) mini) purpose)))) (sym is) (
      own_issued e es p (Some (w, out.Mini (next_tid p) (new_coordination (next_tid p) mini) purpose)) (next_tid p) mini own entry.node entry.what_is (next_is es p own) nodes,
      issue_agrees es p w purpose mini e own may nodes (agrees e fresh entry.node entry.what_is) entry.node entry.what_is,
    )

-- so it does under the proxy's own names
pub issues_turn : (es : List Entry) (p q : ProxyState) (w : Work) (purpose : Purpose)
    (mini copy : Mini) (c : Coordination) (turn : Turn) → p ≡ q → IsSound mini
    → mini.nodes ≡ p.known.nodes → copy ≡ mini → c ≡ new_coordination (next_tid q) copy
    → ((l : List Entry) (e : Entry) → IsFresh (next_tid q) l → e.node ≡ None
    → e.what ≡ Issue (next_tid q) copy → CoordAgrees (e ∷ l) c)
    → turn ≡ turns.Goes (steps.Issue (next_tid q) mini) w (out.Mini (next_tid q) c purpose)
    → IsOwn es p → MayIssue es p.known w purpose mini
    → TurnAgrees es (with_serial q q.work) turn
issues_turn es p q w purpose mini copy c turn same sound nodes copied new agrees goes own may =
    subst (TurnAgrees es (with_serial q q.work))
    (sym (goes ∙ ap (λ (d : Coordination). turns.Goes (steps.Issue (next_tid q) mini) w (out.Mini (next_tid q) d purpose)) begun))
    (issues_agree es q w purpose mini (subst (IsOwn es) same own)
    (subst (λ (s : ProxyState). MayIssue es s.known w purpose mini) same may) sound
    (nodes ∙ ap (λ (s : ProxyState). s.known.nodes) same)
    (λ e fresh node is. subst (CoordAgrees (e ∷ es)) begun (agrees es e fresh node (is ∙ ap (Issue (next_tid q)) (sym copied)))))
  where
    begun : c ≡ new_coordination (next_tid q) mini
    begun = new ∙ ap (new_coordination (next_tid q)) copied

-- Reads

made_read : (es : List Entry) (op : Op) (job : Job) (purpose : Purpose) (place : Place) (mini : Mini)
    → IsPlaceFor job purpose place → mini.items ≡ Read place.node place.start place.length ∷ []
    → IsMadeFor es op job purpose mini
made_read es op job by.Catalog place mini is made = (place, is, made)
made_read es op job (by.Page addr) place mini is made = (place, is, made)
made_read es op job by.Count place mini is made = (place, is, made)
made_read es op job (by.Plan reply) place mini is made = absurd is

compares_none : (failed : ℕ) (seens : List Seen) (job : Job) (purpose : Purpose) (place : Place)
    (mini : Mini) → IsPlaceFor job purpose place → ComparesFor failed seens purpose mini
compares_none failed seens job by.Catalog place mini is = tt
compares_none failed seens job (by.Page addr) place mini is = tt
compares_none failed seens job by.Count place mini is = tt
compares_none failed seens job (by.Plan reply) place mini is = absurd is

-- what the try wants to read is issued
pub may_read : (es : List Entry) (known : Known) (w : Work) (purpose : Purpose) (place : Place)
    (mini : Mini) → IsAtRest es known w → IsPlaceFor w.job purpose place
    → mini ≡ read_mini known.nodes place → MayIssue es known w purpose mini
may_read es known w purpose place mini rest is made = record {
  rest = rest;
  made = made_read es w.op w.job purpose place mini is (ap (λ (m : Mini). m.items) made);
  shown = compares_none w.failed (seen_in rest.0.try) w.job purpose place mini is;
}

-- what is read is no plan
pub read_asked : (known : Known) (w : Work) (purpose : Purpose) (mini : Mini) → IsReadFor purpose
    → IsAsAsked known w purpose mini
read_asked known w by.Catalog mini reads = tt
read_asked known w (by.Page addr) mini reads = tt
read_asked known w by.Count mini reads = tt
read_asked known w (by.Plan reply) mini reads = absurd reads

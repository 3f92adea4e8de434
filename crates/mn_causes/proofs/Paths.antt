-- A try that met a fault of path overlaps another operation's commit.
use Rattle.std.proofs.Common.{◌≡◌, ℕ, ◌<◌, ◌⊎◌, inl, inr, Bool, true, false, List, [], ◌∷◌, ◌++◌, length, Option, Some, None, refl, subst, sym, ap, ◌∙◌, arith, if◌then◌else◌, Contains}
use Rattle.std.specs.List.{AllByRecursion}
use Rattle.std.proofs.lemmas.List.{append_assoc, length-append}
use Rattle.std.proofs.lemmas.List.Elements.{Contains-append_cases}
use Rattle.mn_base.specs.Store.{Store}
use Rattle.mn_base.specs.declared.ids.NodeNo.{NodeNo}
use Rattle.mn_base.specs.declared.ids.ClientNo.{ClientNo}
use Rattle.mn_base.specs.declared.ids.Addr.{Addr}
use Rattle.mn_base.specs.declared.ids.Tid.{Tid}
use Rattle.mn_base.specs.declared.answer.Busy.{Busy}
use Rattle.mn_base.specs.declared.answer.Busy.TheVariants.{Path}
use Rattle.mn_base.proofs.Lists.{all_append}
use Rattle.mn_mini.specs.declared.part.PartItem.TheVariants as Bare
use Rattle.mn_mini.specs.declared.request.Request.{Request}
use Rattle.mn_mini.specs.declared.request.Request.TheVariants as Ask
use Rattle.mn_mini.specs.declared.reply.NodeReply.{NodeReply}
use Rattle.mn_mini.specs.declared.reply.NodeReply.TheVariants as Say
use Rattle.mn_mini.specs.Mini.{Mini, is_read}
use Rattle.mn_page.specs.Holds.{Holds}
use Rattle.mn_page.proofs.Grid.{all_split}
use Rattle.mn_runs.specs.declared.entry.Entry.{Entry}
use Rattle.mn_runs.specs.declared.entry.What.{What}
use Rattle.mn_runs.specs.declared.entry.What.TheVariants.{Begin, Issue, Called, Stopped, Restarted, Abandoned, Answered}
use Rattle.mn_runs.specs.Calls.{Issued, issue_in, issues_of, issue_named, is_by, client_entries, since_begin, since_begin_after, under_way}
use Rattle.mn_runs.specs.Clients.{AllowsExec}
use Rattle.mn_runs.specs.Commits.{committed_by}
use Rattle.mn_runs.specs.Seen.{Seen, seen_in, seen_at}
use Rattle.mn_law.specs.Answers.{RefusedAs, MeetsFault, FailsAs, IsKeyOf, nodes_of}
use Rattle.mn_runs.specs.Protocol.{Start, start_nodes, FollowsProtocol, AllowedAt, AllowedBy, IsOfRun}
use Rattle.mn_causes.specs.Causes.{BusyTries, IsInLast, CommitsWithin, PathMoved, PathByOther}
use Rattle.mn_law.proofs.MakeRun.{runs_follow_protocol}
use Rattle.mn_law.proofs.Sees.{seen_in-cons}
use Rattle.mn_runs.proofs.NewCalls.{by_of}
use Rattle.mn_commits.proofs.Bytes.Step.{flat}
use Rattle.mn_commits.proofs.Bytes.Spaces.{whole_run}
use Rattle.mn_commits.proofs.Bytes.Seen.{StandsIn, here_seen}
use Rattle.mn_serial.proofs.Meaning.Splits.{shorter_by}
use Rattle.mn_runs.proofs.Prefixes.{follows_before, older_follows}
use Rattle.mn_serial.proofs.Meaning.Effects.{read_call, flat_none, flat_read}
use Rattle.mn_serial.proofs.Meaning.Kept.{some_store}
use Rattle.mn_serial.proofs.Meaning.Scanned.{SeenAfter, seen_after}
use Rattle.mn_serial.proofs.Meaning.Positions.{client_split, is_own}
use Rattle.mn_serial.proofs.Meaning.Legal.{known_run}
use Rattle.mn_serial.proofs.Meaning.Exists.{history_exists}
use Rattle.mn_causes.proofs.LastTry.{InLast, in_last, from_is, Deeper, deeper, as_in_last, since_whole, tries_before, busy_tries, in_log}
use Rattle.mn_causes.proofs.Moved.{CommitIn, BroughtIn, brought, commits_other}
use Rattle.mn_causes.proofs.Faults.{IsSeenIn, no_fault}

-- The log of a try

record Ends (xs : List Entry) : Type 0 where
  front : List Entry
  oldest : Entry
  is : xs ≡ front ++ oldest ∷ []

last_of : (xs : List Entry) → (xs ≡ []) ⊎ Ends xs
last_of [] = inl refl
last_of (x ∷ xs) = inr (by (last_of xs))
  where
    by : (xs ≡ []) ⊎ Ends xs → Ends (x ∷ xs)
    by (inl none) = record { front = []; oldest = x; is = ap (λ (l : List Entry). x ∷ l) none }
    by (inr e) = record { front = x ∷ e.front; oldest = e.oldest; is = ap (λ (l : List Entry). x ∷ l) e.is }

-- the log from the oldest entry of the last try up to its newest, and the log before the try
record LogOf {past : List Entry} {c : ClientNo} {number place : ℕ} {busy : Busy} (t : BusyTries past c number place busy) (newer : List Entry) (x : Entry) (try : List Entry) (i : InLast t newer x try)
    : Type 0 where
  span : List Entry
  base : List Entry
  split : i.before ≡ span ++ base
  own : client_entries c span ≡ try
  first : (span ≡ []) ⊎ ((y : Entry) × IsInLast t (length base) y)
  of : under_way (client_entries c base) ≡ Some (record { number = number; op = t.op })

log_of : {past : List Entry} {c : ClientNo} {number place : ℕ} {busy : Busy} (t : BusyTries past c number place busy) (newer : List Entry) (x : Entry) (try : List Entry) (i : InLast t newer x try)
    → LogOf t newer x try i
log_of {past} {c} {number} {place} {busy} t newer x try i = by (last_of try)
  where
    by : (try ≡ []) ⊎ Ends try → LogOf t newer x try i
    by (inl none) = record { span = []; base = i.before; split = refl; own = sym none; first = inl refl; of = i.of }
    by (inr e) =
        let d : Deeper t newer x try i e.front e.oldest [] = deeper t newer x try i e.front e.oldest [] e.is in
        record {
          span = d.between ++ e.oldest ∷ [];
          base = d.is.before;
          split = d.split ∙ sym (append_assoc d.between (e.oldest ∷ []) d.is.before);
          own = client_split c (d.between ++ e.oldest ∷ []) d.between e.oldest [] refl (is_own c e.oldest d.is.client) ∙ (ap (λ (l : List Entry). l ++ e.oldest ∷ []) d.own ∙ sym e.is);
          first = inr (e.oldest, as_in_last t (newer ++ x ∷ e.front) e.oldest [] d.is);
          of = d.is.of;
        }

-- The memory stays all along, or a plan is committed

abbrev StaysAll : Start → List Entry → List Entry → Type 0
StaysAll start later before = (a b : List Entry) → later ≡ a ++ b → flat start (b ++ before) ≡ flat start before

stays_all : (start : Start) (later before : List Entry)
    → StaysAll start later before ⊎ CommitIn later before
stays_all start [] before = inl none
  where
    none : (a b : List Entry) → [] ≡ a ++ b → flat start (b ++ before) ≡ flat start before
    none [] b e = ap (λ (es : List Entry). flat start (es ++ before)) (sym e)
    none (x ∷ a) b e = absurd cc
stays_all start (e ∷ later) before = by (stays_all start later before) (committed_by (later ++ before) e) refl
  where
    more : StaysAll start later before
        → flat start (e ∷ (later ++ before)) ≡ flat start (later ++ before)
        → StaysAll start (e ∷ later) before
    more all same [] b h = ap (λ (es : List Entry). flat start (es ++ before)) (sym h) ∙ (same ∙ all [] later refl)
    more all same (x ∷ a) b h = let rest : later ≡ a ++ b = cc in all a b rest

    tell : StaysAll start later before → (i : Issued) → committed_by (later ++ before) e ≡ Some i
        → (b : Bool) → is_read i.mini.items ≡ b
        → StaysAll start (e ∷ later) before ⊎ CommitIn (e ∷ later) before
    tell all i is true read = inl (more all (flat_read start (later ++ before) e i is read))
    tell all i is false not_read = inr (record { newer = []; entry = e; older = later; issued = i; split = refl; commits = is; not_read = not_read })

    by : StaysAll start later before ⊎ CommitIn later before → (o : Option Issued)
        → committed_by (later ++ before) e ≡ o
        → StaysAll start (e ∷ later) before ⊎ CommitIn (e ∷ later) before
    by (inr c) o is = inr (record { newer = e ∷ c.newer; entry = c.entry; older = c.older; issued = c.issued; split = ap (λ (l : List Entry). e ∷ l) c.split; commits = c.commits; not_read = c.not_read })
    by (inl all) None none = inl (more all (flat_none start (later ++ before) e none))
    by (inl all) (Some i) is = tell all i is (is_read i.mini.items) refl

-- Numbers of nodes

nodes_here : (start : Start) (what : What) → IsOfRun start what
    → AllByRecursion (λ (i : Issued). i.mini.nodes ≡ start_nodes start) (issue_in what)
nodes_here start (Issue tid mini) of = (of.1, tt)
nodes_here start (Begin number op) of = tt
nodes_here start (Answered number answer) of = tt
nodes_here start (Called request reply) of = tt
nodes_here start (Stopped request asked) of = tt
nodes_here start (Restarted kept) of = tt
nodes_here start (Abandoned tid) of = tt

nodes_all : (start : Start) (past : List Entry) (c : ClientNo) → FollowsProtocol start past
    → AllByRecursion (λ (i : Issued). i.mini.nodes ≡ start_nodes start) (issues_of (client_entries c past))
nodes_all start [] c run = tt
nodes_all start (e ∷ past) c run =
    let rest = nodes_all start past c run.0 in
    elim (is_by c e) as (λ b. AllByRecursion (λ (i : Issued). i.mini.nodes ≡ start_nodes start) (issues_of (if b then e ∷ client_entries c past else client_entries c past))) [
      | true ↦ all_append (λ (i : Issued). i.mini.nodes ≡ start_nodes start) (issue_in e.what) (issues_of (client_entries c past)) (nodes_here start e.what run.1.of_run) rest
      | false ↦ rest
    ]

issues_since : (P : Issued → Type 0) (es : List Entry) → AllByRecursion P (issues_of es)
    → AllByRecursion P (issues_of (since_begin es))
issues_since P [] all = tt
issues_since P (e ∷ es) all = step e.node e.client e.what (all_split P (issue_in e.what) (issues_of es) all).0 (issues_since P es (all_split P (issue_in e.what) (issues_of es) all).1)
  where
    step : (at : Option NodeNo) (by : Option ClientNo) (what : What)
        → AllByRecursion P (issue_in what) → AllByRecursion P (issues_of (since_begin es))
        → AllByRecursion P (issues_of (since_begin_after what (record { node = at; client = by; what = what }) (since_begin es)))
    step at by (Begin number op) here rest = tt
    step at by (Answered number answer) here rest = tt
    step at by (Issue tid mini) here rest = (here.0, rest)
    step at by (Called request reply) here rest = rest
    step at by (Stopped request asked) here rest = rest
    step at by (Restarted kept) here rest = rest
    step at by (Abandoned tid) here rest = rest

-- an operation that read something has issued something
issued_some : (newer : List Entry) (y : Entry) (older : List Entry) (tid : Tid) (mini : Mini)
    → issue_named tid (issues_of older) ≡ Some mini
    → (i : Issued) × (is : List Issued) × (issues_of (newer ++ y ∷ older) ≡ i ∷ is)
issued_some newer y older tid mini named = by (issues_of (newer ++ y ∷ older)) refl
  where
    behind : (a b : List Issued) → a ++ b ≡ [] → b ≡ []
    behind [] b h = h
    behind (j ∷ a) b h = absurd cc

    inner : (newer : List Entry) → issues_of (newer ++ y ∷ older) ≡ [] → issues_of older ≡ []
    inner [] h = behind (issue_in y.what) (issues_of older) h
    inner (e ∷ newer) h = inner newer (behind (issue_in e.what) (issues_of (newer ++ y ∷ older)) h)

    none_some : ◌≡◌ {A = Option Mini} None (Some mini) → ⊥
    none_some e = cc

    by : (l : List Issued) → issues_of (newer ++ y ∷ older) ≡ l
        → (i : Issued) × (is : List Issued) × (issues_of (newer ++ y ∷ older) ≡ i ∷ is)
    by [] e = absurd (none_some (ap (issue_named tid) (sym (inner newer e)) ∙ named))
    by (i ∷ is) e = (i, is, e)

-- What is no refusal

path_refused : (seens : List Seen) (m : NodeNo) (request : Request) (reply : NodeReply) (addr : Addr) (seq : ℕ) → RefusedAs seens m request reply (Path addr seq) → ⊥
path_refused seens m request (Say.BadLock b s h) addr seq is = cc
path_refused seens m (Ask.Prepare t ps part) (Say.BadCompare item found) addr seq (at, expected, has, shows, is) = cc
path_refused seens m (Ask.Exec t part) (Say.BadCompare item found) addr seq (at, expected, has, shows, is) = cc
path_refused seens m (Ask.Prepare t ps part) Say.BadForced addr seq is = cc
path_refused seens m request reply addr seq is = is

-- a read was made by an Exec of an issue of its operation
read_issue : (start : Start) (before : List Entry) (c : ClientNo) (x : Entry) (seen : Seen)
    → FollowsProtocol start (x ∷ before) → is_by c x ≡ true → Contains (seen_at x) seen
    → (tid : Tid) × (mini : Mini)
    × (issue_named tid (issues_of (since_begin (client_entries c before))) ≡ Some mini)
read_issue start before c x seen run by has =
    let call = read_call x.client x.node x.what seen has in
    let keeps : AllowedBy before x.client x.node x.what = run.1.by_client in
    let own : AllowedBy before (Some c) x.node x.what = subst (λ (o : Option ClientNo). AllowedBy before o x.node x.what) (by_of c x.client x.node x.what by) keeps in
    let there : AllowedBy before (Some c) (Some call.node) x.what = subst (λ (o : Option NodeNo). AllowedBy before (Some c) o x.what) call.here own in
    let exec : AllowsExec (client_entries c before) call.node call.tid (Bare.Read call.begins call.size ∷ []) = subst (λ (w : What). AllowedBy before (Some c) (Some call.node) w) call.call there in
    (call.tid, exec.mini, exec.issued)

-- it was read at a node of the run
read_node : (start : Start) (before : List Entry) (x : Entry) (seen : Seen)
    → FollowsProtocol start (x ∷ before) → Contains (seen_at x) seen
    → seen.place.node.0 < start_nodes start
read_node start before x seen run has =
    let call = read_call x.client x.node x.what seen has in
    let at : AllowedAt start before (Some call.node) x.what = subst (λ (o : Option NodeNo). AllowedAt start before o x.what) call.here run.1.at_node in
    subst (λ (s : Seen). s.place.node.0 < start_nodes start) (sym call.is) at.0

pub path_by_other : PathByOther
path_by_other start store past place e c number addr seq h stands answers = at_last t.failed.last refl
  where
    t : BusyTries past c number place (Path addr seq)
    t = busy_tries start past h.run c number place (Path addr seq) e stands answers

    follows : FollowsProtocol start past
    follows = runs_follow_protocol start past h.run

    by_fault : (newer : List Entry) (x : Entry) (try : List Entry) (i : InLast t newer x try)
        → MeetsFault (nodes_of (issues_of (since_begin (client_entries c t.before)))) (seen_in (x ∷ try)) t.op (IsKeyOf t.op t.failed.taken) (Path addr seq) → CommitsWithin t (length i.before)
    by_fault newer x try i fault = tell (stays_all start front.span front.base)
      where
        front : LogOf t newer x try i
        front = log_of t newer x try i

        there : past ≡ (t.later ++ (t.answer ∷ i.later)) ++ x ∷ i.before
        there = in_log t (as_in_last t newer x try i)

        to_x : FollowsProtocol start (x ∷ i.before)
        to_x = follows_before start past (t.later ++ (t.answer ∷ i.later)) (x ∷ i.before) there follows

        to_span : FollowsProtocol start (front.span ++ front.base)
        to_span = subst (FollowsProtocol start) front.split to_x.0

        to_base : FollowsProtocol start front.base
        to_base = older_follows start front.span front.base to_span

        to_answer : FollowsProtocol start t.before
        to_answer = follows_before start past (t.later ++ t.answer ∷ []) t.before (t.split ∙ sym (append_assoc t.later (t.answer ∷ []) t.before)) follows

        memory_long : length (flat start front.base) ≡ start_nodes start
        memory_long = (whole_run start front.base h.opened.sound to_base).even.spaces

        -- where no plan is committed, all that the try read stands in one memory
        stood : StaysAll start front.span front.base → (seen : Seen)
            → Contains (seen_in (x ∷ try)) seen → IsSeenIn (flat start front.base) seen
        stood all seen has = by (Contains-append_cases (seen_at x) (seen_in try) seen (subst (λ (ss : List Seen). Contains ss seen) (seen_in-cons x try) has))
          where
            by : Contains (seen_at x) seen ⊎ Contains (seen_in try) seen
                → IsSeenIn (flat start front.base) seen
            by (inl here) = (
              subst (λ (m : List (List ℕ)). StandsIn m seen) (ap (flat start) front.split ∙ all [] front.span refl)
                  (here_seen start i.before x.client x.node x.what seen (whole_run start i.before h.opened.sound to_x.0) to_x.1 here),
              subst (λ (k : ℕ). seen.place.node.0 < k) (sym memory_long) (read_node start i.before x seen to_x here),
            )
            by (inr older) =
                let r : SeenAfter start front.span front.base seen = seen_after start front.span front.base c seen h.opened.sound to_span (subst (λ (es : List Entry). Contains (seen_in es) seen) (sym front.own) older) in
                let parts : front.span ++ front.base ≡ r.newer ++ r.entry ∷ (r.older ++ front.base) = ap (λ (es : List Entry). es ++ front.base) r.split ∙ append_assoc r.newer (r.entry ∷ r.older) front.base in (
                  subst (λ (m : List (List ℕ)). StandsIn m seen) (all (r.newer ++ r.entry ∷ []) r.older (r.split ∙ sym (append_assoc r.newer (r.entry ∷ []) r.older))) r.stands,
                  subst (λ (k : ℕ). seen.place.node.0 < k) (sym memory_long)
                      (read_node start (r.older ++ front.base) r.entry seen (older_follows start r.newer (r.entry ∷ (r.older ++ front.base)) (subst (FollowsProtocol start) parts to_span)) r.here),
                )

        -- the operation's minitransactions were made for as many nodes as there are
        nodes_are : (seen : Seen) → Contains (seen_in (x ∷ try)) seen
            → nodes_of (issues_of (since_begin (client_entries c t.before))) ≡ length (flat start front.base)
        nodes_are seen has = by (issues_of (since_begin (client_entries c t.before))) refl (issues_since (λ (i : Issued). i.mini.nodes ≡ start_nodes start) (client_entries c t.before) (nodes_all start t.before c to_answer))
          where
            b : BroughtIn (x ∷ try) seen
            b = brought (x ∷ try) seen has

            in_try : t.failed.last ≡ (newer ++ b.newer) ++ b.entry ∷ b.older
            in_try = i.in_try ∙ (ap (λ (l : List Entry). newer ++ l) b.split ∙ sym (append_assoc newer b.newer (b.entry ∷ b.older)))

            -- the entry that read it
            j : InLast t (newer ++ b.newer) b.entry b.older
            j = in_last t (newer ++ b.newer) b.entry b.older in_try

            issue : (tid : Tid) × (mini : Mini)
                × (issue_named tid (issues_of (since_begin (client_entries c j.before))) ≡ Some mini)
            issue = read_issue start j.before c b.entry seen (follows_before start t.before j.later (b.entry ∷ j.before) j.split to_answer) (is_own c b.entry j.client) b.brought

            some : (i : Issued) × (is : List Issued)
                × (issues_of ((t.failed.rest ++ (newer ++ b.newer)) ++ b.entry ∷ (b.older ++ tries_before t)) ≡ i ∷ is)
            some =
                issued_some (t.failed.rest ++ (newer ++ b.newer)) b.entry (b.older ++ tries_before t) issue.0 issue.1
                (ap (λ (es : List Entry). issue_named issue.0 (issues_of es)) (sym j.since) ∙ issue.2)

            now_is : issues_of (since_begin (client_entries c t.before)) ≡ some.0 ∷ some.1
            now_is = ap issues_of (since_whole t (newer ++ b.newer) b.entry b.older in_try) ∙ some.2

            none_some : (i : Issued) (is : List Issued) → [] ≡ i ∷ is → ⊥
            none_some i is e = cc

            by : (is : List Issued) → issues_of (since_begin (client_entries c t.before)) ≡ is
                → AllByRecursion (λ (i : Issued). i.mini.nodes ≡ start_nodes start) (issues_of (since_begin (client_entries c t.before))) → nodes_of (issues_of (since_begin (client_entries c t.before))) ≡ length (flat start front.base)
            by [] e all = absurd (none_some some.0 some.1 (sym e ∙ now_is))
            by (i ∷ is) e all = ap nodes_of e ∙ ((subst (AllByRecursion (λ (j : Issued). j.mini.nodes ≡ start_nodes start)) e all).0 ∙ sym memory_long)

        some_holds : (s : Store) × Holds (flat start front.base) s
        some_holds =
            let history = history_exists start store past h in
            let known = known_run start store past history.0 h.opened.sound h.opened h.run history.1 in
            some_store start store past history.0 known ((t.later ++ (t.answer ∷ i.later)) ++ (x ∷ front.span)) front.base
            (there ∙ (ap (λ (es : List Entry). (t.later ++ (t.answer ∷ i.later)) ++ x ∷ es) front.split ∙ sym (append_assoc (t.later ++ (t.answer ∷ i.later)) (x ∷ front.span) front.base)))

        tell : StaysAll start front.span front.base ⊎ CommitIn front.span front.base
            → CommitsWithin t (length i.before)
        tell (inl all) = absurd (no_fault (flat start front.base) some_holds.0 some_holds.1 (seen_in (x ∷ try)) (stood all) (nodes_of (issues_of (since_begin (client_entries c t.before)))) nodes_are t.op (IsKeyOf t.op t.failed.taken) addr seq fault)
        tell (inr co) = from front.first
          where
            base_split : i.before ≡ co.newer ++ co.entry ∷ (co.older ++ front.base)
            base_split = front.split ∙ (ap (λ (es : List Entry). es ++ front.base) co.split ∙ append_assoc co.newer (co.entry ∷ co.older) front.base)

            no_commit : (newer : List Entry) (y : Entry) (older : List Entry)
                → [] ≡ newer ++ y ∷ older → ⊥
            no_commit [] y older h = cc
            no_commit (z ∷ newer) y older h = cc

            from : (front.span ≡ []) ⊎ ((y : Entry) × IsInLast t (length front.base) y)
                → CommitsWithin t (length i.before)
            from (inl none) = absurd (no_commit co.newer co.entry co.older (sym none ∙ co.split))
            from (inr first) =
                let sum = length-append co.older front.base in
                let below = shorter_by i.before co.newer co.entry (co.older ++ front.base) base_split in
                record {
                  from = length front.base;
                  first = first.0;
                  begins = first.1;
                  commit = length (co.older ++ front.base);
                  other = commits_other start store past place e c number (Path addr seq) h stands answers (t.later ++ (t.answer ∷ i.later)) x i.before there co.newer co.entry (co.older ++ front.base)
                      co.issued base_split co.commits co.not_read;
                  inside = (omega arith, omega arith);
                }

    at_last : (last : List Entry) → t.failed.last ≡ last → PathMoved past c number place addr seq
    at_last [] is = absurd (subst (λ (l : List Entry). FailsAs (nodes_of (issues_of (since_begin (client_entries c t.before)))) t.op t.failed.taken l (Path addr seq)) is t.failed.last_fails)
    at_last (x ∷ try) is = by (subst (λ (l : List Entry). FailsAs (nodes_of (issues_of (since_begin (client_entries c t.before)))) t.op t.failed.taken l (Path addr seq)) is t.failed.last_fails)
      where
        by : FailsAs (nodes_of (issues_of (since_begin (client_entries c t.before)))) t.op t.failed.taken (x ∷ try) (Path addr seq) → PathMoved past c number place addr seq
        by (inl (call, here, refused)) = absurd (path_refused (seen_in try) call.node call.request call.reply addr seq refused)
        by (inr fault) = record {
          tries = t;
          to = length (in_last t [] x try is).before;
          reader = x;
          reads = as_in_last t [] x try (in_last t [] x try is);
          meets = fault;
          moved = λ at e i meets. subst (λ (k : ℕ). CommitsWithin t k) (sym i.is_place) (by_fault i.newer e i.older (from_is t i) meets);
        }

-- An operation's issues but the last are over, and settled: where one was abandoned, no node
-- stopped in its Prepare, and each node that was done has its decision.
use Rattle.std.proofs.Common.{◌≡◌, ◌⊎◌, inl, inr, Bool, true, false, not, ◌&&◌, ◌||◌, List, [], ◌∷◌, Option, Some, None, refl, subst, sym, ap, ◌∙◌, if◌then◌else◌, Contains}
use Rattle.std.specs.List.{AllByRecursion, list_any, list_all}
use Rattle.std.proofs.lemmas.List.Folds.{list_any-append}
use Rattle.mn_base.specs.Ids.{tid_same, node_same}
use Rattle.mn_base.specs.declared.ids.NodeNo.{NodeNo}
use Rattle.mn_base.specs.declared.ids.ClientNo.{ClientNo}
use Rattle.mn_base.specs.declared.ids.Tid.{Tid}
use Rattle.mn_base.proofs.Booleans.{clash, left_true, not_true, or_cases, or_right, right_true}
use Rattle.mn_mini.specs.declared.request.Request.{Request}
use Rattle.mn_mini.specs.declared.request.Request.TheVariants as Ask
use Rattle.mn_mini.specs.declared.reply.NodeReply.{NodeReply}
use Rattle.mn_mini.specs.Mini.{participants_of, is_read}
use Rattle.mn_runs.specs.declared.entry.Entry.{Entry}
use Rattle.mn_runs.specs.declared.entry.What.{What}
use Rattle.mn_runs.specs.declared.entry.What.TheVariants.{Begin, Issue, Called, Stopped, Restarted, Abandoned, Answered}
use Rattle.mn_runs.specs.Calls.{Call, Issued, call_in, calls_of, issues_of, is_prepare, is_exec, is_done, is_stopped, is_down_reply, is_refused, is_abandonment, is_by, was_told, was_told_somewhere, was_abandoned, was_decided, since_begin, since_begin_after, client_entries}
use Rattle.mn_runs.specs.Clients.{is_over, may_follow, Sends, ClientAllows}
use Rattle.mn_law.specs.Answers.{is_settled, MeansBy}
use Rattle.mn_runs.specs.Protocol.{Start, AllowedBy}
use Rattle.mn_law.specs.Run.{IsRun, Means}
use Rattle.mn_runs.proofs.Same.{tid_same-true}
use Rattle.mn_runs.proofs.NewCalls.{by_of}
use Rattle.mn_votes.proofs.Start.{all_true}
use Rattle.mn_plans.proofs.Told.{all_there}
use Rattle.mn_runs.proofs.Since.{since_abandoned}
use Rattle.mn_serial.proofs.Meaning.Over.{told_weaker, behind}

-- each entry is allowed by the older ones, and means what it says
abbrev pub Legal : ClientNo → List Entry → Type 0
Legal c [] = Unit {0}
Legal c (e ∷ es) = Legal c es × ClientAllows c es e.node e.what × MeansBy es e.what

pub client_legal : (start : Start) (past : List Entry) (c : ClientNo) → IsRun start past
    → Legal c (client_entries c past)
client_legal start [] c run = tt
client_legal start (e ∷ past) c run =
    elim (is_by c e) as (λ b. is_by c e ≡ b → Legal c (if b then e ∷ client_entries c past else client_entries c past)) [
      | true ↦ λ by. (
        client_legal start past c run.0,
        subst (λ (o : Option ClientNo). AllowedBy past o e.node e.what) (by_of c e.client e.node e.what by) run.1.keeps.by_client,
        subst (λ (o : Option ClientNo). Means past o e.what) (by_of c e.client e.node e.what by) run.1.means,
      )
      | false ↦ λ _. client_legal start past c run.0
    ] refl

-- the node was down, or stopped
abbrev pub is_lost : NodeReply → Bool
is_lost reply = is_down_reply reply || is_stopped reply

abbrev pub any_reply : NodeReply → Bool
any_reply reply = true

abbrev pub HasSettled : List Entry → Issued → Type 0
HasSettled now i =
    (was_told_somewhere (is_prepare i.tid) is_lost now ≡ false)
    × ((k : NodeNo) → Contains (participants_of i.mini) k → was_told (is_prepare i.tid) is_done k now ≡ true → was_decided i.tid k now ≡ true)

-- it was abandoned, and is a read or settled; or its Exec was answered
abbrev pub Over : List Entry → Issued → Type 0
Over now i =
    ((was_abandoned i.tid now ≡ true) × ((is_read i.mini.items ≡ true) ⊎ HasSettled now i))
    ⊎ (was_told_somewhere (is_exec i.tid) any_reply now ≡ true)

any_exec : (tid : Tid) (say : NodeReply → Bool) (now : List Entry)
    → was_told_somewhere (is_exec tid) say now ≡ true
    → was_told_somewhere (is_exec tid) any_reply now ≡ true
any_exec tid say now e =
    told_weaker (λ (c : Call). is_exec tid c.request && say c.reply) (λ (c : Call). is_exec tid c.request && true) (λ c h. one (is_exec tid c.request) (say c.reply) h) (calls_of now) e
  where
    one : (a b : Bool) → (a && b) ≡ true → (a && true) ≡ true
    one true b h = refl
    one false b h = absurd cc

-- where an issue is followed it is over, and settled
over_here : (now : List Entry) (i : Issued) → is_over now i ≡ true
    → (is_read i.mini.items || is_settled now i) ≡ true → Over now i
over_here now i over settled = first (or_cases _ _ over)
  where
    decided : is_settled now i ≡ true → (k : NodeNo) → Contains (participants_of i.mini) k
        → was_told (is_prepare i.tid) is_done k now ≡ true → was_decided i.tid k now ≡ true
    decided s k has done = by (was_told (is_prepare i.tid) is_done k now) (was_decided i.tid k now) done (all_there (λ (n : NodeNo). (not (was_told (is_prepare i.tid) is_done n now) || was_decided i.tid n now) ≡ true) (participants_of i.mini) k (all_true (λ (n : NodeNo). not (was_told (is_prepare i.tid) is_done n now) || was_decided i.tid n now) (participants_of i.mini) s) has)
      where
        by : (a b : Bool) → a ≡ true → (not a || b) ≡ true → b ≡ true
        by true b e h = h
        by false b e h = absurd cc

    settle : was_told_somewhere (is_prepare i.tid) is_lost now ≡ false
        → (is_read i.mini.items ≡ true) ⊎ (is_settled now i ≡ true)
        → (is_read i.mini.items ≡ true) ⊎ HasSettled now i
    settle none (inl h) = inl h
    settle none (inr h) = inr (none, decided h)

    last : (was_told_somewhere (is_exec i.tid) is_refused now ≡ true)
        ⊎ ((is_read i.mini.items && was_told_somewhere (is_exec i.tid) is_done now) ≡ true)
        → Over now i
    last (inl h) = inr (any_exec i.tid is_refused now h)
    last (inr h) = inr (any_exec i.tid is_done now (right_true (is_read i.mini.items) _ h))

    first : ((was_abandoned i.tid now && not (was_told_somewhere (is_prepare i.tid) is_lost now)) ≡ true)
        ⊎ ((was_told_somewhere (is_exec i.tid) is_refused now || (is_read i.mini.items && was_told_somewhere (is_exec i.tid) is_done now)) ≡ true) → Over now i
    first (inl h) = inl (left_true (was_abandoned i.tid now) _ h, settle (not_true _ (right_true (was_abandoned i.tid now) _ h)) (or_cases (is_read i.mini.items) (is_settled now i) settled))
    first (inr h) = last (or_cases _ _ h)

-- An entry leaves it so: after an id was abandoned no Prepare of it is sent

ask_none : (c : ClientNo) (es : List Entry) (tid : Tid) (n : NodeNo) (request : Request)
    → Sends es (Some n) request → was_abandoned tid es ≡ true → is_prepare tid request ≡ false
ask_none c es tid n (Ask.Prepare t ps part) a gone = by (tid_same t tid) refl
  where
    by : (b : Bool) → tid_same t tid ≡ b → tid_same t tid ≡ false
    by true e = absurd (clash (was_abandoned t es) (subst (λ (x : Tid). was_abandoned x es ≡ true) (sym (tid_same-true t tid e)) gone) a.open_still)
    by false e = e
ask_none c es tid n (Ask.Exec t part) a gone = refl
ask_none c es tid n (Ask.Decide t verdict) a gone = refl
ask_none c es tid n (Ask.Force t) a gone = refl
ask_none c es tid n Ask.List a gone = refl
ask_none c es tid n (Ask.Peek at size) a gone = refl

no_prepare : (c : ClientNo) (es : List Entry) (tid : Tid) (at : Option NodeNo) (what : What)
    → ClientAllows c es at what → was_abandoned tid es ≡ true
    → AllByRecursion (λ (call : Call). is_prepare tid call.request ≡ false) (call_in at what)
no_prepare c es tid None what a gone = tt
no_prepare c es tid (Some n) (Called request reply) a gone = (ask_none c es tid n request a gone, tt)
no_prepare c es tid (Some n) (Stopped (Some request) asked) a gone = (ask_none c es tid n request a gone, tt)
no_prepare c es tid (Some n) (Stopped None asked) a gone = tt
no_prepare c es tid (Some n) (Begin number op) a gone = tt
no_prepare c es tid (Some n) (Issue t mini) a gone = tt
no_prepare c es tid (Some n) (Restarted kept) a gone = tt
no_prepare c es tid (Some n) (Abandoned t) a gone = tt
no_prepare c es tid (Some n) (Answered number answer) a gone = tt

none_any : (f : Call → Bool) (tid : Tid) (cs : List Call)
    → ((call : Call) → is_prepare tid call.request ≡ false → f call ≡ false)
    → AllByRecursion (λ (call : Call). is_prepare tid call.request ≡ false) cs
    → list_any f cs ≡ false
none_any f tid [] g all = refl
none_any f tid (c ∷ cs) g all = ap (λ (b : Bool). b || list_any f cs) (g c all.0) ∙ none_any f tid cs g all.1

over_more : (c : ClientNo) (e : Entry) (es : List Entry) (i : Issued)
    → ClientAllows c es e.node e.what → Over (since_begin es) i → Over (e ∷ since_begin es) i
over_more c e es i a (inr h) = inr (list_any-append (λ (call : Call). is_exec i.tid call.request && true) (call_in e.node e.what) (calls_of (since_begin es)) ∙ or_right _ _ h)
over_more c e es i a (inl (gone, inl read)) = inl (or_right (is_abandonment i.tid e.what) (was_abandoned i.tid (since_begin es)) gone, inl read)
over_more c e es i a (inl (gone, inr (none, decided))) = inl (or_right (is_abandonment i.tid e.what) (was_abandoned i.tid (since_begin es)) gone, inr (still_none, still_decided))
  where
    quiet : AllByRecursion (λ (call : Call). is_prepare i.tid call.request ≡ false) (call_in e.node e.what)
    quiet = no_prepare c es i.tid e.node e.what a (since_abandoned es i.tid gone)

    off : (x y : Bool) → x ≡ false → (x && y) ≡ false
    off x y h = cc

    off_at : (z x y : Bool) → x ≡ false → (z && (x && y)) ≡ false
    off_at true x y h = cc
    off_at false x y h = refl

    still_none : was_told_somewhere (is_prepare i.tid) is_lost (e ∷ since_begin es) ≡ false
    still_none =
        list_any-append (λ (call : Call). is_prepare i.tid call.request && is_lost call.reply) (call_in e.node e.what) (calls_of (since_begin es))
        ∙ (ap (λ (b : Bool). b || was_told_somewhere (is_prepare i.tid) is_lost (since_begin es)) (none_any (λ (call : Call). is_prepare i.tid call.request && is_lost call.reply) i.tid (call_in e.node e.what) (λ call h. off (is_prepare i.tid call.request) (is_lost call.reply) h) quiet) ∙ none)

    still_decided : (k : NodeNo) → Contains (participants_of i.mini) k
        → was_told (is_prepare i.tid) is_done k (e ∷ since_begin es) ≡ true
        → was_decided i.tid k (e ∷ since_begin es) ≡ true
    still_decided k has done =
        let before : was_told (is_prepare i.tid) is_done k (since_begin es) ≡ true =
        sym (ap (λ (b : Bool). b || was_told (is_prepare i.tid) is_done k (since_begin es)) (none_any (λ (call : Call). node_same call.node k && (is_prepare i.tid call.request && is_done call.reply)) i.tid (call_in e.node e.what) (λ call h. off_at (node_same call.node k) (is_prepare i.tid call.request) (is_done call.reply) h) quiet))
        ∙ (sym (list_any-append (λ (call : Call). node_same call.node k && (is_prepare i.tid call.request && is_done call.reply)) (call_in e.node e.what) (calls_of (since_begin es))) ∙ done) in
        list_any-append (λ (call : Call). node_same call.node k && (Rattle.mn_runs.specs.Calls.is_decide i.tid call.request && true)) (call_in e.node e.what) (calls_of (since_begin es)) ∙ or_right _ _ (decided k has before)

all_more : (c : ClientNo) (e : Entry) (es : List Entry) (is : List Issued)
    → ClientAllows c es e.node e.what → AllByRecursion (Over (since_begin es)) is
    → AllByRecursion (Over (e ∷ since_begin es)) is
all_more c e es [] a all = tt
all_more c e es (i ∷ is) a all = (over_more c e es i a all.0, all_more c e es is a all.1)

all_settled : (now : List Entry) (is : List Issued) → may_follow now is ≡ true
    → list_all (λ (i : Issued). is_read i.mini.items || is_settled now i) is ≡ true
    → AllByRecursion (Over now) (behind is) → AllByRecursion (Over now) is
all_settled now [] may settled all = tt
all_settled now (i ∷ is) may settled all = (over_here now i may (left_true (is_read i.mini.items || is_settled now i) _ settled), all)

abbrev pub AllOver : List Entry → Type 0
AllOver now = AllByRecursion (Over now) (behind (issues_of now))

over_step : (at : Option NodeNo) (by : Option ClientNo) (c : ClientNo) (what : What) (es : List Entry) → ClientAllows c es at what → MeansBy es what → AllOver (since_begin es) → AllOver (since_begin_after what (record { node = at; client = by; what = what }) (since_begin es))
over_step at by c (Begin number op) es a m over = tt
over_step at by c (Answered number answer) es a m over = tt
over_step at by c (Issue tid mini) es a m over = all_more c (record { node = at; client = by; what = Issue tid mini }) es (issues_of (since_begin es)) a (all_settled (since_begin es) (issues_of (since_begin es)) a.after m.0 over)
over_step at by c (Called request reply) es a m over = all_more c (record { node = at; client = by; what = Called request reply }) es (behind (issues_of (since_begin es))) a over
over_step at by c (Stopped request asked) es a m over = all_more c (record { node = at; client = by; what = Stopped request asked }) es (behind (issues_of (since_begin es))) a over
over_step at by c (Restarted kept) es a m over = all_more c (record { node = at; client = by; what = Restarted kept }) es (behind (issues_of (since_begin es))) a over
over_step at by c (Abandoned tid) es a m over = all_more c (record { node = at; client = by; what = Abandoned tid }) es (behind (issues_of (since_begin es))) a over

pub all_over : (c : ClientNo) (es : List Entry) → Legal c es → AllOver (since_begin es)
all_over c [] legal = tt
all_over c (e ∷ es) legal = over_step e.node e.client c e.what es legal.1 legal.2 (all_over c es legal.0)

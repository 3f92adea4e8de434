-- An operation's issues but the last are over: they were abandoned, or refused, or they are reads.
use Rattle.std.proofs.Common.{◌≡◌, ◌⊎◌, inl, inr, Bool, true, false, not, ◌&&◌, ◌||◌, List, [], ◌∷◌, ◌++◌, Option, Some, refl, subst, sym, ◌∙◌, arith, Contains}
use Rattle.std.specs.List.{AllByRecursion, list_any}
use Rattle.std.proofs.lemmas.List.Folds.{list_any-append}
use Rattle.std.proofs.lemmas.List.Elements.{Contains-append_right}
use Rattle.mn_base.specs.declared.ids.NodeNo.{NodeNo}
use Rattle.mn_base.specs.declared.ids.ClientNo.{ClientNo}
use Rattle.mn_base.specs.declared.ids.Tid.{Tid}
use Rattle.mn_base.proofs.Booleans.{left_true, or_cases, or_left, or_right}
use Rattle.mn_mini.specs.declared.reply.NodeReply.{NodeReply}
use Rattle.mn_mini.specs.declared.reply.NodeReply.TheVariants as Say
use Rattle.mn_mini.specs.Mini.{is_read}
use Rattle.mn_runs.specs.declared.entry.Entry.{Entry}
use Rattle.mn_runs.specs.declared.entry.What.{What}
use Rattle.mn_runs.specs.declared.entry.What.TheVariants.{Begin, Issue, Called, Stopped, Restarted, Abandoned, Answered}
use Rattle.mn_runs.specs.Calls.{Call, Issued, call_in, calls_of, issue_in, issues_of, is_exec, is_done, is_stopped, is_refused, is_abandonment, was_told_somewhere, was_abandoned, since_begin, since_begin_after, client_entries}
use Rattle.mn_runs.specs.Clients.{is_over, may_follow, ClientAllows}
use Rattle.mn_runs.specs.Commits.{committed_by}
use Rattle.mn_runs.specs.Protocol.{Start, FollowsProtocol}
use Rattle.mn_votes.specs.Laws.{StartsSound}
use Rattle.mn_commits.specs.Laws.{IsNeverCommitted}
use Rattle.mn_runs.proofs.Since.{since_abandoned, since_told}
use Rattle.mn_commits.proofs.Commits.Never.{abandoned_is_never, refused_is_never}
use Rattle.mn_serial.proofs.Meaning.Clients.{Allowed}

-- by this list the issue is never committed, if it is no read
abbrev pub GoneIn : List Entry → Issued → Type 0
GoneIn es i = (was_abandoned i.tid es ≡ true) ⊎ ((was_told_somewhere (is_exec i.tid) is_refused es ≡ true) ⊎ (is_read i.mini.items ≡ true))

gone_more : (e : Entry) (es : List Entry) (i : Issued) → GoneIn es i → GoneIn (e ∷ es) i
gone_more e es i (inl h) = inl (or_right (is_abandonment i.tid e.what) (was_abandoned i.tid es) h)
gone_more e es i (inr (inl h)) =
    inr (inl (list_any-append (λ (c : Call). is_exec i.tid c.request && is_refused c.reply) (call_in e.node e.what) (calls_of es) ∙ or_right _ _ h))
gone_more e es i (inr (inr h)) = inr (inr h)

over_gone : (now : List Entry) (i : Issued) → is_over now i ≡ true → GoneIn now i
over_gone now i e = first (or_cases _ _ e)
  where
    last : (was_told_somewhere (is_exec i.tid) is_refused now ≡ true)
        ⊎ ((is_read i.mini.items && was_told_somewhere (is_exec i.tid) is_done now) ≡ true)
        → GoneIn now i
    last (inl h) = inr (inl h)
    last (inr h) = inr (inr (left_true (is_read i.mini.items) (was_told_somewhere (is_exec i.tid) is_done now) h))

    first : ((was_abandoned i.tid now && not (was_told_somewhere (Rattle.mn_runs.specs.Calls.is_prepare i.tid) (λ reply. Rattle.mn_runs.specs.Calls.is_down_reply reply || is_stopped reply) now)) ≡ true)
        ⊎ ((was_told_somewhere (is_exec i.tid) is_refused now || (is_read i.mini.items && was_told_somewhere (is_exec i.tid) is_done now)) ≡ true) → GoneIn now i
    first (inl h) = inl (left_true (was_abandoned i.tid now) _ h)
    first (inr h) = last (or_cases _ _ h)

abbrev pub behind : List Issued → List Issued
behind [] = []
behind (i ∷ is) = is

all_gone : (now : List Entry) (is : List Issued) → may_follow now is ≡ true
    → AllByRecursion (GoneIn now) (behind is) → AllByRecursion (GoneIn now) is
all_gone now [] may all = tt
all_gone now (i ∷ is) may all = (over_gone now i may, all)

all_more : (e : Entry) (es : List Entry) (is : List Issued) → AllByRecursion (GoneIn es) is
    → AllByRecursion (GoneIn (e ∷ es)) is
all_more e es [] all = tt
all_more e es (i ∷ is) all = (gone_more e es i all.0, all_more e es is all.1)

abbrev pub AllOver : List Entry → Type 0
AllOver now = AllByRecursion (GoneIn now) (behind (issues_of now))

over_step : (at : Option NodeNo) (by : Option ClientNo) (c : ClientNo) (what : What) (es : List Entry) → ClientAllows c es at what → AllOver (since_begin es) → AllOver (since_begin_after what (record { node = at; client = by; what = what }) (since_begin es))
over_step at by c (Begin number op) es a over = tt
over_step at by c (Answered number answer) es a over = tt
over_step at by c (Issue tid mini) es a over = all_more (record { node = at; client = by; what = Issue tid mini }) (since_begin es) (issues_of (since_begin es)) (all_gone (since_begin es) (issues_of (since_begin es)) a.after over)
over_step at by c (Called request reply) es a over = all_more (record { node = at; client = by; what = Called request reply }) (since_begin es) (behind (issues_of (since_begin es))) over
over_step at by c (Stopped request asked) es a over = all_more (record { node = at; client = by; what = Stopped request asked }) (since_begin es) (behind (issues_of (since_begin es))) over
over_step at by c (Restarted kept) es a over = all_more (record { node = at; client = by; what = Restarted kept }) (since_begin es) (behind (issues_of (since_begin es))) over
over_step at by c (Abandoned tid) es a over = all_more (record { node = at; client = by; what = Abandoned tid }) (since_begin es) (behind (issues_of (since_begin es))) over

pub all_over : (c : ClientNo) (es : List Entry) → Allowed c es → AllOver (since_begin es)
all_over c [] a = tt
all_over c (e ∷ es) a = over_step e.node e.client c e.what es a.1 (all_over c es a.0)

-- where an issue is allowed, each issue of the operation so far is gone
pub issue_allows : (at : Option NodeNo) (c : ClientNo) (what : What) (es : List Entry) (j : Issued)
    → Allowed c es → ClientAllows c es at what → issue_in what ≡ j ∷ []
    → AllByRecursion (GoneIn (since_begin es)) (issues_of (since_begin es))
issue_allows at c (Issue tid mini) es j allowed a is = all_gone (since_begin es) (issues_of (since_begin es)) a.after (all_over c es allowed)
issue_allows at c (Begin number op) es j allowed a is = absurd cc
issue_allows at c (Answered number answer) es j allowed a is = absurd cc
issue_allows at c (Called request reply) es j allowed a is = absurd cc
issue_allows at c (Stopped request asked) es j allowed a is = absurd cc
issue_allows at c (Restarted kept) es j allowed a is = absurd cc
issue_allows at c (Abandoned tid) es j allowed a is = absurd cc

-- an issue of the list
pub issue_there : (newer : List Entry) (x : Entry) (older : List Entry) (i : Issued)
    → issue_in x.what ≡ i ∷ [] → Contains (issues_of (newer ++ x ∷ older)) i
issue_there [] x older i is = subst (λ (js : List Issued). Contains (js ++ issues_of older) i) (sym is) (0, omega arith, refl)
issue_there (e ∷ newer) x older i is = Contains-append_right (issue_in e.what) (issues_of (newer ++ x ∷ older)) i (issue_there newer x older i is)

pub gone_since : (es : List Entry) (i : Issued) → GoneIn (since_begin es) i → GoneIn es i
gone_since es i (inl h) = inl (since_abandoned es i.tid h)
gone_since es i (inr (inl h)) = inr (inl (since_told (λ (c : Call). is_exec i.tid c.request && is_refused c.reply) es h))
gone_since es i (inr (inr h)) = inr (inr h)

-- so it is never committed

refused_result : (r : NodeReply) → is_refused r ≡ true → not (is_done r || is_stopped r) ≡ true
refused_result (Say.BadLock at length holder) e = refl
refused_result (Say.BadCompare item found) e = refl
refused_result (Say.Done reads) e = absurd cc
refused_result Say.BadForced e = refl
refused_result (Say.Vote vote) e = refl
refused_result Say.Decided e = refl
refused_result (Say.Listed doubts) e = refl
refused_result (Say.Peeked bytes) e = refl
refused_result Say.Down e = refl
refused_result Say.Stopped e = absurd cc
refused_result Say.NoMemory e = refl

pub told_weaker : (f g : Call → Bool) → ((c : Call) → f c ≡ true → g c ≡ true) → (cs : List Call)
    → list_any f cs ≡ true → list_any g cs ≡ true
told_weaker f g w [] e = absurd cc
told_weaker f g w (c ∷ cs) e = by (or_cases (f c) (list_any f cs) e) (told_weaker f g w cs)
  where
    by : (f c ≡ true) ⊎ (list_any f cs ≡ true) → (list_any f cs ≡ true → list_any g cs ≡ true)
        → (g c || list_any g cs) ≡ true
    by (inl h) rest = or_left (g c) (list_any g cs) (w c h)
    by (inr h) rest = or_right (g c) (list_any g cs) (rest h)

both : (a b d : Bool) → (a && b) ≡ true → (b ≡ true → d ≡ true) → (a && d) ≡ true
both true b d e f = f e
both false b d e f = absurd cc

pub gone_never : (start : Start) (past later : List Entry) (c : ClientNo) (i : Issued)
    → StartsSound start → FollowsProtocol start (later ++ past) → GoneIn (client_entries c past) i
    → is_read i.mini.items ≡ false → IsNeverCommitted i.tid (later ++ past)
gone_never start past later c i sound run (inl h) not_read = abandoned_is_never start past later c i.tid sound run h
gone_never start past later c i sound run (inr (inl h)) not_read =
    refused_is_never start past later c i.tid sound run
    (told_weaker (λ (call : Call). is_exec i.tid call.request && is_refused call.reply) (λ (call : Call). is_exec i.tid call.request && not (is_done call.reply || is_stopped call.reply))
    (λ call e. both (is_exec i.tid call.request) (is_refused call.reply) (not (is_done call.reply || is_stopped call.reply)) e (refused_result call.reply)) (calls_of (client_entries c past)) h)
gone_never start past later c i sound run (inr (inr h)) not_read = absurd (clash (is_read i.mini.items) h not_read)
  where
    clash : (b : Bool) → b ≡ true → b ≡ false → ⊥
    clash b p q = cc

-- what is never committed is committed at no entry
pub never_there : (tid : Tid) (past later : List Entry) (e : Entry) (before : List Entry) (i : Issued) → IsNeverCommitted tid past → past ≡ later ++ e ∷ before → committed_by before e ≡ Some i → i.tid ≡ tid → ⊥
never_there tid past later e before i never split is same = at later (subst (IsNeverCommitted tid) split never)
  where
    at : (l : List Entry) → IsNeverCommitted tid (l ++ e ∷ before) → ⊥
    at [] n = n.0 i is same
    at (x ∷ l) n = at l n.1

-- Where an operation met a lock of its own older id, the node missed that id's decision.
use Rattle.std.proofs.Common.{◌≡◌, ◌<◌, ◌≤◌, ◌⊎◌, inl, inr, Bool, true, false, not, ◌&&◌, ◌||◌, List, [], ◌∷◌, ◌++◌, length, Option, Some, None, refl, subst, sym, ap, ◌∙◌, arith, if◌then◌else◌, Contains}
use Rattle.std.specs.List.{AllByRecursion, list_any}
use Rattle.mn_base.specs.Ids.{tid_same, node_same}
use Rattle.mn_base.specs.declared.ids.NodeNo.{NodeNo}
use Rattle.mn_base.specs.declared.ids.ClientNo.{ClientNo}
use Rattle.mn_base.specs.declared.ids.Tid.{Tid}
use Rattle.mn_base.proofs.Booleans.{clash, left_true, or_cases, or_left, or_right, right_true}
use Rattle.mn_mini.specs.declared.request.Request.{Request}
use Rattle.mn_mini.specs.declared.request.Request.TheVariants as Ask
use Rattle.mn_mini.specs.declared.reply.NodeReply.{NodeReply}
use Rattle.mn_mini.specs.declared.part.PartItem.{PartItem}
use Rattle.mn_mini.specs.declared.record.Record.{Record}
use Rattle.mn_mini.specs.Mini.{Mini, participants_of}
use Rattle.mn_mini.specs.Node.{HeldPart, held_parts, is_held, has_voted}
use Rattle.mn_runs.specs.declared.entry.Entry.{Entry}
use Rattle.mn_runs.specs.declared.entry.What.{What}
use Rattle.mn_runs.specs.declared.entry.What.TheVariants.{Begin, Issue, Called, Stopped, Restarted, Abandoned, Answered}
use Rattle.mn_runs.specs.Calls.{Call, Issued, call_in, calls_of, issues_of, issue_named, is_prepare, is_exec, is_decide, is_try, is_done, is_stopped, is_by, was_told, was_told_somewhere, was_abandoned, was_decided, was_sent, since_begin, since_begin_after, client_entries}
use Rattle.mn_runs.specs.Clients.{Sends}
use Rattle.mn_runs.specs.Protocol.{Start, start_nodes, records_of, KeepsProtocol, FollowsProtocol}
use Rattle.mn_law.specs.Run.{IsRun}
use Rattle.mn_votes.specs.Laws.{StartsSound}
use Rattle.mn_causes.specs.Causes.{prepared_after_decide, missed_decision, missed_or_early}
use Rattle.mn_law.proofs.MakeRun.{runs_follow_protocol}
use Rattle.mn_runs.proofs.Same.{tid_same-true, tid_same-refl}
use Rattle.mn_runs.proofs.NewCalls.{IsCallOf, new_call, by_of}
use Rattle.mn_votes.proofs.Unchanged.{as_own, issue_stays, current_issue, may_try}
use Rattle.mn_votes.proofs.Backing.{IsOld, PartAt, WasTried, Kept}
use Rattle.mn_runs.proofs.Records.{held_has_vote}
use Rattle.mn_votes.proofs.Preserved.{new_not_old, voted_tried, kept_run, same_mini}
use Rattle.mn_commits.proofs.Commits.Records.{voted_part}
use Rattle.mn_plans.proofs.Told.{all_there}
use Rattle.mn_runs.proofs.Alone.{read_alone}
use Rattle.mn_commits.proofs.Commits.Never.{once_run, some_to_one, unsent_none, issued_anew}
use Rattle.mn_runs.proofs.Since.{since_abandoned, more, since_told}
use Rattle.mn_serial.proofs.Meaning.Over.{told_weaker, behind}
use Rattle.mn_serial.proofs.Meaning.OlderSettled.{Over, HasSettled, any_reply, is_lost, all_over, client_legal}
use Rattle.mn_causes.proofs.Heard.{NotHeld, Released, Rests, is_heard, heard, none_found}

-- What was sent since Begin

-- calls that are tries of an id
abbrev AreTries : Tid → (Call → Bool) → Type 0
AreTries tid f = (call : Call) → f call ≡ true → is_try tid call.request ≡ true

tried_issued : (start : Start) (past : List Entry) (c : ClientNo) (tid : Tid) (f : Call → Bool)
    → AreTries tid f → StartsSound start → FollowsProtocol start past
    → list_any f (calls_of (client_entries c past)) ≡ true
    → (mini : Mini) × (issue_named tid (issues_of (client_entries c past)) ≡ Some mini)
tried_issued start [] c tid f tries sound run told = absurd cc
tried_issued start (e ∷ past) c tid f tries sound run told = by (new_call start past c e f run.1 told) (λ old. tried_issued start past c tid f tries sound run.0 old)
  where
    kept : Kept start past
    kept = kept_run start past sound run.0

    on : (mini : Mini) × (issue_named tid (issues_of (client_entries c past)) ≡ Some mini)
        → (mini : Mini) × (issue_named tid (issues_of (client_entries c (e ∷ past))) ≡ Some mini)
    on (mini, is) = (mini, issue_stays start past e c tid mini kept run.1 is)

    by : (list_any f (calls_of (client_entries c past)) ≡ true)
        ⊎ ((call : Call) × IsCallOf start past c e call × (f call ≡ true))
        → (list_any f (calls_of (client_entries c past)) ≡ true → (mini : Mini) × (issue_named tid (issues_of (client_entries c past)) ≡ Some mini))
        → (mini : Mini) × (issue_named tid (issues_of (client_entries c (e ∷ past))) ≡ Some mini)
    by (inl old) deeper = on (deeper old)
    by (inr (call, is, passes)) deeper = on (may_try start past c call.node tid call.request kept (tries call passes) is.sends).2

-- of an id that is issued since Begin, each try was sent since Begin
abbrev IsCurrent : (Call → Bool) → ClientNo → List Entry → Tid → Type 0
IsCurrent f c past tid =
    (mini : Mini) → issue_named tid (issues_of (since_begin (client_entries c past))) ≡ Some mini
    → list_any f (calls_of (client_entries c past)) ≡ true
    → list_any f (calls_of (since_begin (client_entries c past))) ≡ true

current_here : (start : Start) (past : List Entry) (c : ClientNo) (at : Option NodeNo) (what : What) (tid : Tid) (f : Call → Bool) → AreTries tid f → StartsSound start → FollowsProtocol start past → KeepsProtocol start past (record { node = at; client = Some c; what = what }) → IsCurrent f c past tid
    → (mini : Mini)
    → issue_named tid (issues_of (since_begin_after what (record { node = at; client = Some c; what = what }) (since_begin (client_entries c past)))) ≡ Some mini
    → list_any f (call_in at what ++ calls_of (client_entries c past)) ≡ true
    → list_any f (calls_of (since_begin_after what (record { node = at; client = Some c; what = what }) (since_begin (client_entries c past)))) ≡ true
current_here start past c at (Begin number op) tid f tries sound run keeps older mini is told = absurd cc
current_here start past c at (Answered number answer) tid f tries sound run keeps older mini is told = absurd cc
current_here start past c (Some k) (Issue t m) tid f tries sound run keeps older mini is told = absurd keeps.at_node.1
current_here start past c None (Issue t m) tid f tries sound run keeps older mini is told =
    elim (tid_same t tid) as (λ b. tid_same t tid ≡ b → (if b then Some m else issue_named tid (issues_of (since_begin (client_entries c past)))) ≡ Some mini → list_any f (calls_of (since_begin (client_entries c past))) ≡ true) [
      | true ↦ λ same _.
          let to = tried_issued start past c tid f tries sound run told in
          absurd (issued_anew start past c t tid m to.0 (kept_run start past sound run) keeps.by_client same to.1)
      | false ↦ λ _ h. older mini h told
    ] refl is
current_here start past c at (Called request reply) tid f tries sound run keeps older mini is told = more f (call_in at (Called request reply)) (calls_of (since_begin (client_entries c past))) (calls_of (client_entries c past)) (older mini is) told
current_here start past c at (Stopped request asked) tid f tries sound run keeps older mini is told = more f (call_in at (Stopped request asked)) (calls_of (since_begin (client_entries c past))) (calls_of (client_entries c past)) (older mini is) told
current_here start past c at (Restarted restored) tid f tries sound run keeps older mini is told = more f (call_in at (Restarted restored)) (calls_of (since_begin (client_entries c past))) (calls_of (client_entries c past)) (older mini is) told
current_here start past c at (Abandoned t) tid f tries sound run keeps older mini is told = more f (call_in at (Abandoned t)) (calls_of (since_begin (client_entries c past))) (calls_of (client_entries c past)) (older mini is) told

current_run : (start : Start) (past : List Entry) (c : ClientNo) (tid : Tid) (f : Call → Bool)
    → AreTries tid f → StartsSound start → FollowsProtocol start past → IsCurrent f c past tid
current_run start [] c tid f tries sound run = λ mini is told. absurd cc
current_run start (e ∷ past) c tid f tries sound run =
    let older = current_run start past c tid f tries sound run.0 in
    elim (is_by c e) as (λ b. is_by c e ≡ b → (mini : Mini) → issue_named tid (issues_of (since_begin (if b then e ∷ client_entries c past else client_entries c past))) ≡ Some mini
    → list_any f (calls_of (if b then e ∷ client_entries c past else client_entries c past)) ≡ true
    → list_any f (calls_of (since_begin (if b then e ∷ client_entries c past else client_entries c past))) ≡ true) [
      | true ↦ λ by.
          subst (λ (o : Option ClientNo). (mini : Mini) → issue_named tid (issues_of (since_begin_after e.what (record { node = e.node; client = o; what = e.what }) (since_begin (client_entries c past)))) ≡ Some mini
          → list_any f (call_in e.node e.what ++ calls_of (client_entries c past)) ≡ true
          → list_any f (calls_of (since_begin_after e.what (record { node = e.node; client = o; what = e.what }) (since_begin (client_entries c past)))) ≡ true) (sym (by_of c e.client e.node e.what by))
          (current_here start past c e.node e.what tid f tries sound run.0 (as_own start past c e by run.1) older)
      | false ↦ λ _. older
    ] refl

-- What is over sends nothing

exec_list : (es : List Entry) (tid : Tid)
    → was_told_somewhere (is_exec tid) any_reply (since_begin es) ≡ true
    → list_any (λ (d : Call). is_exec tid d.request) (calls_of es) ≡ true
exec_list es tid told =
    told_weaker (λ (d : Call). is_exec tid d.request && true) (λ (d : Call). is_exec tid d.request) (λ d h. left_true (is_exec tid d.request) true h) (calls_of es) (since_told (λ (d : Call). is_exec tid d.request && true) es told)

over_sends : (start : Start) (past : List Entry) (c : ClientNo) (n : NodeNo) (request : Request) (i : Issued) → StartsSound start → FollowsProtocol start past → is_try i.tid request ≡ true → Sends (client_entries c past) (Some n) request → Over (since_begin (client_entries c past)) i → ⊥
over_sends start past c n (Ask.Prepare t ps part) i sound run try s over = by over
  where
    eq : t ≡ i.tid
    eq = tid_same-true t i.tid (left (tid_same t i.tid) try)
      where
        left : (b : Bool) → (b || false) ≡ true → b ≡ true
        left true e = refl
        left false e = absurd cc

    issued : issue_named i.tid (issues_of (client_entries c past)) ≡ Some s.mini
    issued = subst (λ (x : Tid). issue_named x (issues_of (client_entries c past)) ≡ Some s.mini) eq (current_issue (client_entries c past) t s.mini s.issued)

    by : Over (since_begin (client_entries c past)) i → ⊥
    by (inl (gone, rest)) = clash (was_abandoned i.tid (client_entries c past)) (since_abandoned (client_entries c past) i.tid gone) (subst (λ (x : Tid). was_abandoned x (client_entries c past) ≡ false) eq s.open_still)
    by (inr told) =
        let to = some_to_one c past i.tid (calls_of (client_entries c past)) (once_run start past c i.tid sound run).0 (exec_list (client_entries c past) i.tid told) in
        let same : to.1 ≡ s.mini = same_mini to.1 s.mini (sym to.2 ∙ issued) in
        let one : length ps ≡ 1 = ap (λ (l : List NodeNo). length l) (s.all ∙ (ap participants_of (sym same) ∙ to.3)) in
        let several = s.several in
        absurd (omega arith)
over_sends start past c n (Ask.Exec t part) i sound run try s over = by over
  where
    eq : t ≡ i.tid
    eq = tid_same-true t i.tid try

    issued : issue_named i.tid (issues_of (client_entries c past)) ≡ Some s.mini
    issued = subst (λ (x : Tid). issue_named x (issues_of (client_entries c past)) ≡ Some s.mini) eq (current_issue (client_entries c past) t s.mini s.issued)

    by : Over (since_begin (client_entries c past)) i → ⊥
    by (inl (gone, rest)) = clash (was_abandoned i.tid (client_entries c past)) (since_abandoned (client_entries c past) i.tid gone) (subst (λ (x : Tid). was_abandoned x (client_entries c past) ≡ false) eq s.open_still)
    by (inr told) =
        clash (list_any (λ (d : Call). is_exec i.tid d.request) (calls_of (client_entries c past))) (exec_list (client_entries c past) i.tid told)
        (unsent_none c past i.tid n s.mini issued s.alone (calls_of (client_entries c past)) (once_run start past c i.tid sound run).0 (subst (λ (x : Tid). was_sent x n (client_entries c past) ≡ false) eq s.once))
over_sends start past c n (Ask.Decide t verdict) i sound run try s over = absurd cc
over_sends start past c n (Ask.Force t) i sound run try s over = absurd cc
over_sends start past c n Ask.List i sound run try s over = absurd cc
over_sends start past c n (Ask.Peek at size) i sound run try s over = absurd cc

-- Issues of a list

record Found (P : Issued → Type 0) (tid : Tid) (mini : Mini) : Type 0 where
  pub issued : Issued
  pub tid_is : issued.tid ≡ tid
  pub mini_is : issued.mini ≡ mini
  pub holds : P issued

find : (P : Issued → Type 0) (is : List Issued) (tid : Tid) (mini : Mini) → AllByRecursion P is
    → issue_named tid is ≡ Some mini → Found P tid mini
find P [] tid mini all named = absurd cc
find P (i ∷ is) tid mini all named =
    elim (tid_same i.tid tid) as (λ b. tid_same i.tid tid ≡ b → (if b then Some i.mini else issue_named tid is) ≡ Some mini → Found P tid mini) [
      | true ↦ λ same h. record { issued = i; tid_is = tid_same-true i.tid tid same; mini_is = same_mini i.mini mini h; holds = all.0 }
      | false ↦ λ _ h. find P is tid mini all.1 h
    ] refl named

-- of two ids one that sends still, the other one is over
other_over : (P : Issued → Type 0) (is : List Issued) (tid holder : Tid) (mini own : Mini)
    → AllByRecursion P (behind is) → tid_same holder tid ≡ false → issue_named tid is ≡ Some own
    → ((f : Found P tid own) → ⊥) → issue_named holder is ≡ Some mini → Found P holder mini
other_over P [] tid holder mini own all differ named none is = absurd cc
other_over P (i ∷ is) tid holder mini own all differ named none at =
    elim (tid_same i.tid holder) as (λ b. tid_same i.tid holder ≡ b → (if b then Some i.mini else issue_named holder is) ≡ Some mini → Found P holder mini) [
      | true ↦ λ same _.
          let off : tid_same i.tid tid ≡ false = subst (λ (x : Tid). tid_same x tid ≡ false) (sym (tid_same-true i.tid holder same)) differ in
          absurd (none (find P is tid own all (sym (ap (λ (b : Bool). if b then Some i.mini else issue_named tid is) off) ∙ named)))
      | false ↦ λ _ h. find P is holder mini all h
    ] refl at

-- Decisions

pub told_split : (tid : Tid) (n : NodeNo) (cs : List Call)
    → list_any (λ (c : Call). node_same c.node n && (is_decide tid c.request && true)) cs ≡ true
    → (list_any (λ (c : Call). node_same c.node n && (is_decide tid c.request && is_lost c.reply)) cs ≡ true) ⊎ (list_any (λ (c : Call). node_same c.node n && (is_decide tid c.request && is_heard c.reply)) cs ≡ true)
told_split tid n [] e = absurd cc
told_split tid n (c ∷ cs) e = by (or_cases (node_same c.node n && (is_decide tid c.request && true)) _ e) (told_split tid n cs)
  where
    one : (a b l : Bool) → (a && (b && true)) ≡ true
        → ((a && (b && l)) ≡ true) ⊎ ((a && (b && not l)) ≡ true)
    one true true true h = inl refl
    one true true false h = inr refl
    one true false l h = absurd cc
    one false b l h = absurd cc

    Here : ((node_same c.node n && (is_decide tid c.request && is_lost c.reply)) ≡ true)
        ⊎ ((node_same c.node n && (is_decide tid c.request && is_heard c.reply)) ≡ true)
        → (list_any (λ (d : Call). node_same d.node n && (is_decide tid d.request && is_lost d.reply)) (c ∷ cs) ≡ true) ⊎ (list_any (λ (d : Call). node_same d.node n && (is_decide tid d.request && is_heard d.reply)) (c ∷ cs) ≡ true)
    Here (inl h) = inl (or_left (node_same c.node n && (is_decide tid c.request && is_lost c.reply)) _ h)
    Here (inr h) = inr (or_left (node_same c.node n && (is_decide tid c.request && is_heard c.reply)) _ h)

    there : (list_any (λ (d : Call). node_same d.node n && (is_decide tid d.request && is_lost d.reply)) cs ≡ true) ⊎ (list_any (λ (d : Call). node_same d.node n && (is_decide tid d.request && is_heard d.reply)) cs ≡ true)
        → (list_any (λ (d : Call). node_same d.node n && (is_decide tid d.request && is_lost d.reply)) (c ∷ cs) ≡ true) ⊎ (list_any (λ (d : Call). node_same d.node n && (is_decide tid d.request && is_heard d.reply)) (c ∷ cs) ≡ true)
    there (inl h) = inl (or_right (node_same c.node n && (is_decide tid c.request && is_lost c.reply)) _ h)
    there (inr h) = inr (or_right (node_same c.node n && (is_decide tid c.request && is_heard c.reply)) _ h)

    by : ((node_same c.node n && (is_decide tid c.request && true)) ≡ true)
        ⊎ (list_any (λ (d : Call). node_same d.node n && (is_decide tid d.request && true)) cs ≡ true)
        → (list_any (λ (d : Call). node_same d.node n && (is_decide tid d.request && true)) cs ≡ true → (list_any (λ (d : Call). node_same d.node n && (is_decide tid d.request && is_lost d.reply)) cs ≡ true) ⊎ (list_any (λ (d : Call). node_same d.node n && (is_decide tid d.request && is_heard d.reply)) cs ≡ true))
        → (list_any (λ (d : Call). node_same d.node n && (is_decide tid d.request && is_lost d.reply)) (c ∷ cs) ≡ true) ⊎ (list_any (λ (d : Call). node_same d.node n && (is_decide tid d.request && is_heard d.reply)) (c ∷ cs) ≡ true)
    by (inl h) deeper = Here (one (node_same c.node n) (is_decide tid c.request) (is_lost c.reply) h)
    by (inr h) deeper = there (deeper h)

-- a try is a Prepare or an Exec
try_split : (tid : Tid) (say : NodeReply → Bool) (n : NodeNo) (cs : List Call)
    → list_any (λ (c : Call). node_same c.node n && (is_try tid c.request && say c.reply)) cs ≡ true
    → (list_any (λ (c : Call). node_same c.node n && (is_prepare tid c.request && say c.reply)) cs ≡ true) ⊎ (list_any (λ (c : Call). is_exec tid c.request) cs ≡ true)
try_split tid say n [] e = absurd cc
try_split tid say n (c ∷ cs) e = by (or_cases (node_same c.node n && (is_try tid c.request && say c.reply)) _ e) (try_split tid say n cs)
  where
    one : (a p x s : Bool) → (a && ((p || x) && s)) ≡ true → ((a && (p && s)) ≡ true) ⊎ (x ≡ true)
    one true true x s h = inl h
    one true false x s h = inr (left_true x s h)
    one false p x s h = absurd cc

    here : ((node_same c.node n && (is_prepare tid c.request && say c.reply)) ≡ true)
        ⊎ (is_exec tid c.request ≡ true)
        → (list_any (λ (d : Call). node_same d.node n && (is_prepare tid d.request && say d.reply)) (c ∷ cs) ≡ true) ⊎ (list_any (λ (d : Call). is_exec tid d.request) (c ∷ cs) ≡ true)
    here (inl h) = inl (or_left (node_same c.node n && (is_prepare tid c.request && say c.reply)) _ h)
    here (inr h) = inr (or_left (is_exec tid c.request) _ h)

    there : (list_any (λ (d : Call). node_same d.node n && (is_prepare tid d.request && say d.reply)) cs ≡ true) ⊎ (list_any (λ (d : Call). is_exec tid d.request) cs ≡ true)
        → (list_any (λ (d : Call). node_same d.node n && (is_prepare tid d.request && say d.reply)) (c ∷ cs) ≡ true) ⊎ (list_any (λ (d : Call). is_exec tid d.request) (c ∷ cs) ≡ true)
    there (inl h) = inl (or_right (node_same c.node n && (is_prepare tid c.request && say c.reply)) _ h)
    there (inr h) = inr (or_right (is_exec tid c.request) _ h)

    by : ((node_same c.node n && (is_try tid c.request && say c.reply)) ≡ true)
        ⊎ (list_any (λ (d : Call). node_same d.node n && (is_try tid d.request && say d.reply)) cs ≡ true)
        → (list_any (λ (d : Call). node_same d.node n && (is_try tid d.request && say d.reply)) cs ≡ true → (list_any (λ (d : Call). node_same d.node n && (is_prepare tid d.request && say d.reply)) cs ≡ true) ⊎ (list_any (λ (d : Call). is_exec tid d.request) cs ≡ true))
        → (list_any (λ (d : Call). node_same d.node n && (is_prepare tid d.request && say d.reply)) (c ∷ cs) ≡ true) ⊎ (list_any (λ (d : Call). is_exec tid d.request) (c ∷ cs) ≡ true)
    by (inl h) deeper = here (one (node_same c.node n) (is_prepare tid c.request) (is_exec tid c.request) (say c.reply) h)
    by (inr h) deeper = there (deeper h)

-- A held part of the operation's own

pub held_is : (records : List Record) (held : HeldPart) (holder : Tid)
    → Contains (held_parts records) held → held.tid ≡ holder → NotHeld records holder → ⊥
held_is records held holder has is none =
    clash (tid_same held.tid holder) (subst (λ (x : Tid). tid_same held.tid x ≡ true) is (tid_same-refl held.tid)) (all_there (λ (h : HeldPart). tid_same h.tid holder ≡ false) (held_parts records) held none has)

-- its Prepare was done, and its decision was sent, since Begin
pub record OwnDecided (es : List Entry) (n : NodeNo) (holder : Tid) : Type 0 where
  pub prepared : was_told (is_prepare holder) is_done n (since_begin es) ≡ true
  pub decided : was_decided holder n (since_begin es) ≡ true

pub own_decided : (start : Start) (past : List Entry) (n : NodeNo) (request : Request) (tid holder : Tid) (mini : Mini) (held : HeldPart) → StartsSound start → IsRun start past → n.0 < start_nodes start
    → is_try tid request ≡ true → Sends (client_entries holder.client past) (Some n) request
    → tid_same holder tid ≡ false → Contains (held_parts (records_of start past n)) held
    → held.tid ≡ holder
    → issue_named holder (issues_of (since_begin (client_entries holder.client past))) ≡ Some mini
    → OwnDecided (client_entries holder.client past) n holder
own_decided start past n request tid holder mini held sound run low try sends differ has holder_is named = by_over found.holds
  where
    follows : FollowsProtocol start past
    follows = runs_follow_protocol start past run

    kept : Kept start past
    kept = kept_run start past sound (runs_follow_protocol start past run)

    issued : issue_named holder (issues_of (client_entries holder.client past)) ≡ Some mini
    issued = current_issue (client_entries holder.client past) holder mini named

    new : IsOld start holder → ⊥
    new = new_not_old start past holder.client holder mini kept issued

    -- it has voted, as one of several participants
    voted : has_voted (records_of start past n) holder ≡ true
    voted = held_has_vote holder (records_of start past n) (by (is_held (records_of start past n) holder) refl)
      where
        by : (b : Bool) → is_held (records_of start past n) holder ≡ b
            → is_held (records_of start past n) holder ≡ true
        by true e = e
        by false e = absurd (held_is (records_of start past n) held holder has holder_is (none_found holder (held_parts (records_of start past n)) e))

    takes_part : (part : List PartItem) × PartAt past holder n part
    takes_part = voted_part start past n holder (records_of start past n) new (kept.records n) voted

    same : takes_part.1.0 ≡ mini
    same = same_mini takes_part.1.0 mini (sym takes_part.1.1 ∙ issued)

    named_there : Contains (participants_of mini) n
    named_there = subst (λ (m : Mini). Contains (participants_of m) n) same takes_part.1.3

    several : 2 ≤ length (participants_of mini)
    several = subst (λ (m : Mini). 2 ≤ length (participants_of m)) same takes_part.1.4

    no_exec : list_any (λ (d : Call). is_exec holder d.request) (calls_of (client_entries holder.client past)) ≡ true → ⊥
    no_exec told =
        let to = some_to_one holder.client past holder (calls_of (client_entries holder.client past)) (once_run start past holder.client holder sound follows).0 told in
        let is : to.1 ≡ mini = same_mini to.1 mini (sym to.2 ∙ issued) in
        let one : length (participants_of mini) ≡ 1 = ap (λ (m : Mini). length (participants_of m)) (sym is) ∙ ap (λ (l : List NodeNo). length l) to.3 in
        let many = several in
        omega arith

    -- the other id is the last, so this one is over
    own : (m : Mini)
        × (issue_named tid (issues_of (since_begin (client_entries holder.client past))) ≡ Some m)
    own = sent request sends try
      where
        sent : (q : Request) → Sends (client_entries holder.client past) (Some n) q
            → is_try tid q ≡ true
            → (m : Mini) × (issue_named tid (issues_of (since_begin (client_entries holder.client past))) ≡ Some m)
        sent (Ask.Prepare t ps part) s e = (s.mini, subst (λ (x : Tid). issue_named x (issues_of (since_begin (client_entries holder.client past))) ≡ Some s.mini) (tid_same-true t tid (left (tid_same t tid) e)) s.issued)
          where
            left : (b : Bool) → (b || false) ≡ true → b ≡ true
            left true f = refl
            left false f = absurd cc
        sent (Ask.Exec t part) s e = (s.mini, subst (λ (x : Tid). issue_named x (issues_of (since_begin (client_entries holder.client past))) ≡ Some s.mini) (tid_same-true t tid e) s.issued)
        sent (Ask.Decide t verdict) s e = absurd cc
        sent (Ask.Force t) s e = absurd cc
        sent Ask.List s e = absurd cc
        sent (Ask.Peek at size) s e = absurd cc

    found : Found (Over (since_begin (client_entries holder.client past))) holder mini
    found =
        other_over (Over (since_begin (client_entries holder.client past))) (issues_of (since_begin (client_entries holder.client past))) tid holder mini own.0
        (all_over holder.client (client_entries holder.client past) (client_legal start past holder.client run)) differ own.1
        (λ f. over_sends start past holder.client n request f.issued sound follows (subst (λ (x : Tid). is_try x request ≡ true) (sym f.tid_is) try) sends f.holds) named

    -- its Prepare was done since Begin
    prepared : (say : NodeReply → Bool)
        → was_told (is_try holder) say n (client_entries holder.client past) ≡ true
        → was_told (is_prepare holder) say n (since_begin (client_entries holder.client past)) ≡ true
    prepared say told = by (try_split holder say n (calls_of (client_entries holder.client past)) told)
      where
        by : (list_any (λ (c : Call). node_same c.node n && (is_prepare holder c.request && say c.reply)) (calls_of (client_entries holder.client past)) ≡ true) ⊎ (list_any (λ (c : Call). is_exec holder c.request) (calls_of (client_entries holder.client past)) ≡ true)
            → was_told (is_prepare holder) say n (since_begin (client_entries holder.client past)) ≡ true
        by (inl h) =
            current_run start past holder.client holder (λ (c : Call). node_same c.node n && (is_prepare holder c.request && say c.reply))
            (λ call e. or_left (is_prepare holder call.request) _ (left_true (is_prepare holder call.request) _ (right_true (node_same call.node n) _ e))) sound follows mini named h
        by (inr h) = absurd (no_exec h)

    done : HasSettled (since_begin (client_entries holder.client past)) (record { tid = holder; mini = mini }) → was_told (is_prepare holder) is_done n (since_begin (client_entries holder.client past)) ≡ true
    done settled = by (voted_tried start past n holder (records_of start past n) new (kept.records n) voted)
      where
        somewhere : (cs : List Call)
            → list_any (λ (c : Call). node_same c.node n && (is_prepare holder c.request && is_stopped c.reply)) cs ≡ true → list_any (λ (c : Call). is_prepare holder c.request && is_lost c.reply) cs ≡ true
        somewhere cs e = told_weaker (λ (c : Call). node_same c.node n && (is_prepare holder c.request && is_stopped c.reply)) (λ (c : Call). is_prepare holder c.request && is_lost c.reply) (λ c h. one (node_same c.node n) (is_prepare holder c.request) (Rattle.mn_runs.specs.Calls.is_down_reply c.reply) (is_stopped c.reply) h) cs e
          where
            one : (a p d s : Bool) → (a && (p && s)) ≡ true → (p && (d || s)) ≡ true
            one true true true s h = refl
            one true true false s h = h
            one true false d s h = absurd cc
            one false p d s h = absurd cc

        by : WasTried past holder n
            → was_told (is_prepare holder) is_done n (since_begin (client_entries holder.client past)) ≡ true
        by (inl h) = prepared is_done h
        by (inr h) = absurd (clash (was_told_somewhere (is_prepare holder) is_lost (since_begin (client_entries holder.client past))) (somewhere (calls_of (since_begin (client_entries holder.client past))) (prepared is_stopped h)) settled.0)

    same_issued : found.issued ≡ record { tid = holder; mini = mini }
    same_issued = λ i. record { tid = found.tid_is i; mini = found.mini_is i }

    by_over : Over (since_begin (client_entries holder.client past)) found.issued
        → OwnDecided (client_entries holder.client past) n holder
    by_over over = at (subst (Over (since_begin (client_entries holder.client past))) same_issued over)
      where
        at : Over (since_begin (client_entries holder.client past)) (record { tid = holder; mini = mini }) → OwnDecided (client_entries holder.client past) n holder
        at (inr told) = absurd (no_exec (exec_list (client_entries holder.client past) holder told))
        at (inl (gone, inl read)) = let few = read_alone mini.nodes mini.items read in let many = several in absurd (omega arith)
        at (inl (gone, inr settled)) = record { prepared = done settled; decided = settled.1 n named_there (done settled) }

pub own_missed : (start : Start) (past : List Entry) (n : NodeNo) (request : Request) (tid holder : Tid) (mini : Mini) (held : HeldPart) → StartsSound start → IsRun start past → n.0 < start_nodes start
    → is_try tid request ≡ true → Sends (client_entries holder.client past) (Some n) request
    → tid_same holder tid ≡ false → Contains (held_parts (records_of start past n)) held
    → held.tid ≡ holder
    → issue_named holder (issues_of (since_begin (client_entries holder.client past))) ≡ Some mini
    → missed_or_early holder n (client_entries holder.client past) ≡ true
own_missed start past n request tid holder mini held sound run low try sends differ has holder_is named =
    by (told_split holder n (calls_of (client_entries holder.client past)) (since_told (λ (c : Call). node_same c.node n && (is_decide holder c.request && true)) (client_entries holder.client past) own.decided))
  where
    own : OwnDecided (client_entries holder.client past) n holder
    own = own_decided start past n request tid holder mini held sound run low try sends differ has holder_is named

    prepared : was_told (is_prepare holder) is_done n (client_entries holder.client past) ≡ true
    prepared = since_told (λ (c : Call). node_same c.node n && (is_prepare holder c.request && is_done c.reply)) (client_entries holder.client past) own.prepared

    released : Rests (client_entries holder.client past) holder n (Released start past holder n)
        → missed_or_early holder n (client_entries holder.client past) ≡ true
    released (inl r) = absurd (held_is (records_of start past n) held holder has holder_is r.0)
    released (inr (decided, inl untold)) = absurd (clash (was_told (is_prepare holder) is_done n (client_entries holder.client past)) prepared untold)
    released (inr (decided, inr after)) = or_right (missed_decision holder n (client_entries holder.client past)) (prepared_after_decide holder n (client_entries holder.client past)) after

    by : (list_any (λ (c : Call). node_same c.node n && (is_decide holder c.request && is_lost c.reply)) (calls_of (client_entries holder.client past)) ≡ true) ⊎ (list_any (λ (c : Call). node_same c.node n && (is_decide holder c.request && is_heard c.reply)) (calls_of (client_entries holder.client past)) ≡ true)
        → missed_or_early holder n (client_entries holder.client past) ≡ true
    by (inl h) = or_left (missed_decision holder n (client_entries holder.client past)) (prepared_after_decide holder n (client_entries holder.client past)) h
    by (inr h) = released (heard start past holder n sound (runs_follow_protocol start past run) low h)

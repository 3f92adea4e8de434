-- What one more entry makes of what is kept of a log.
use Rattle.std.proofs.Common.{◌≡◌, ℕ, zero, suc, ◌+◌, ◌<◌, ◌≤◌, Bool, true, false, List, [], ◌∷◌, ◌++◌, length, map, drop, take, replicate, Option, Some, None, refl, subst, sym, ap, ◌∙◌, arith, if◌then◌else◌}
use Rattle.std.specs.Prelude.{nat_eq, slice_get, slice_set, slice_index_or, Result, Ok, Err, IfOk}
use Rattle.std.specs.Option.{option_map_or}
use Rattle.std.proofs.lemmas.Grind.{common_steps}
use Rattle.std.proofs.lemmas.List.{append_assoc}
use Rattle.mn_base.specs.Ids.{client_same, tid_same}
use Rattle.mn_base.specs.Store.{Store, applied}
use Rattle.mn_base.specs.History.{IsLegal, store_after}
use Rattle.mn_base.specs.declared.error.NoMemory.{NoMemory}
use Rattle.mn_base.specs.declared.answer.Answer.{Answer}
use Rattle.mn_base.specs.declared.history.Past.{Past}
use Rattle.mn_base.specs.declared.ids.ClientNo.{ClientNo}
use Rattle.mn_base.specs.declared.ids.NodeNo.{NodeNo}
use Rattle.mn_base.specs.declared.ids.Tid.{Tid}
use Rattle.mn_base.specs.declared.reply.Reply.{Reply}
use Rattle.mn_base.proofs.Booleans.{clash}
use Rattle.mn_base.proofs.Lists.{set_at}
use Rattle.mn_mini.specs.Mini.{Mini, is_read}
use Rattle.mn_mini.proofs.Fits.{unsome}
use Rattle.mn_page.proofs.Alike.{get-set_other}
use Rattle.mn_runs.specs.declared.entry.Entry.{Entry}
use Rattle.mn_runs.specs.declared.entry.What.{What}
use Rattle.mn_runs.specs.declared.entry.What.TheVariants.{Begin, Issue, Called, Stopped, Restarted, Abandoned, Answered}
use Rattle.mn_commits.specs.declared.commit_reader.CommittedMini.{CommittedMini}
use Rattle.mn_runs.specs.Calls.{node_entries, Issued, issue_in, issues_of, issue_named}
use Rattle.mn_commits.specs.CommitReader.{issued_of}
use Rattle.mn_runs.specs.Commits.{committed_by, committed_at, effect_of}
use Rattle.mn_serial.specs.History.{Placed, EntryPuts, IsHistory, StepPuts, pasts_of}
use Rattle.mn_serial.specs.Meaning.{HistoryIsOne, OpenedRun}
use Rattle.mn_serial.specs.OneHistory.{RunsAreOneHistory, RunsHaveHistory}
use Rattle.mn_runs.specs.Protocol.{Start, entries_of}
use Rattle.mn_runs.specs.Seen.{seen_at}
use Rattle.mn_runs.proofs.Same.{client_same-refl, client_same-true}
use Rattle.mn_serial.proofs.Meaning.Effects.{with_named}
use Rattle.mn_hist.specs.declared.plans.Plans.{Plans}
use Rattle.mn_hist.specs.Plans.{Planner, planner_kept}
use Rattle.mn_hist.specs.declared.acts.PlacedAct.{PlacedAct}
use Rattle.mn_hist.specs.Acts.{Act, act_of, done_by, done_from}
use Rattle.mn_hist.specs.History.{CallerState, placed_act, acts_in, begun_by, idle, planner_after, planner_of, state_after, caller_state}
use Rattle.mn_hist.specs.History.{AreCallerStates, AreActsOf, KnowsPlanners, IsIssuedUnderId, AnswerIsInHistory, CommitIsInHistory, StandsInSet, AnswerHasPlace, EntryHasPlace, EntryIsInHistory}
use Rattle.mn_hist.proofs.Loops.{drop_here}
use Rattle.mn_hist.proofs.Noted.{begun_is}
use Rattle.mn_hist.proofs.Served.{last_serves}

-- Clients

pub idle_at : (n i : ℕ) → i < n → slice_get (replicate n idle) i ≡ Some idle
idle_at zero i lt = absurd (omega (arith, lt))
idle_at (suc n) zero lt = refl
idle_at (suc n) (suc i) lt = idle_at n i (omega (arith, lt))

pub all_idle : (callers : List CallerState) → callers ≡ replicate 256 idle → AreCallerStates callers []
all_idle callers is = λ c few. ap (λ (l : List CallerState). slice_get l c.0) is ∙ idle_at 256 c.0 few

-- an entry of no client
pub of_none : (callers : List CallerState) (past : List Entry) (e : Entry) → e.client ≡ None → AreCallerStates callers past → AreCallerStates callers (e ∷ past)
of_none callers past e none are = λ c few. are c few ∙ ap Some (sym (ap (λ (o : Option ClientNo). if option_map_or (client_same c) o false then state_after (length past) e.what (seen_at e) (caller_state c past) else caller_state c past) none))

-- an entry of this client
state_here : (past : List Entry) (e : Entry) (c : ClientNo) → e.client ≡ Some c → caller_state c (e ∷ past) ≡ state_after (length past) e.what (seen_at e) (caller_state c past)
state_here past e c is =
    ap (λ (o : Option ClientNo). if option_map_or (client_same c) o false then state_after (length past) e.what (seen_at e) (caller_state c past) else caller_state c past) is
    ∙ ap (λ b. if b then state_after (length past) e.what (seen_at e) (caller_state c past) else caller_state c past) (client_same-refl c)

state_beside : (past : List Entry) (e : Entry) (c d : ClientNo) → e.client ≡ Some c → client_same d c ≡ false → caller_state d (e ∷ past) ≡ caller_state d past
state_beside past e c d is other =
    ap (λ (o : Option ClientNo). if option_map_or (client_same d) o false then state_after (length past) e.what (seen_at e) (caller_state d past) else caller_state d past) is
    ∙ ap (λ b. if b then state_after (length past) e.what (seen_at e) (caller_state d past) else caller_state d past) other

pub of_client : (callers : List CallerState) (past : List Entry) (e : Entry) (c : ClientNo) (new : CallerState) → c.0 < 256 → e.client ≡ Some c
    → (slice_get callers c.0 ≡ Some (caller_state c past) → new ≡ state_after (length past) e.what (seen_at e) (caller_state c past))
    → AreCallerStates callers past → AreCallerStates (slice_set callers c.0 new) (e ∷ past)
of_client callers past e c new few is step are = λ d few'.
    elim (client_same d c) as (λ b. client_same d c ≡ b → slice_get (slice_set callers c.0 new) d.0 ≡ Some (caller_state d (e ∷ past))) [
      | true ↦ λ same. subst (λ (x : ClientNo). slice_get (slice_set callers c.0 new) x.0 ≡ Some (caller_state x (e ∷ past))) (sym (client_same-true d c same))
          (set_at callers c.0 (caller_state c past) new (are c few) ∙ ap Some (step (are c few) ∙ sym (state_here past e c is)))
      | false ↦ λ other. get-set_other callers c.0 d.0 new (λ eq. clash (client_same d c) (subst (λ (n : ℕ). nat_eq n c.0 ≡ true) eq (client_same-refl c)) other)
          ∙ (are d few' ∙ ap Some (sym (state_beside past e c d is other)))
    ] refl

-- Issues

pub no_issue : (plans : Plans) (past : List Entry) (e : Entry) → issue_in e.what ≡ [] → KnowsPlanners plans past → KnowsPlanners plans (e ∷ past)
no_issue plans past e none knows = λ tid mini plan.
    knows tid mini (subst (λ (is : List Issued). issue_named tid (is ++ issues_of past) ≡ Some mini) none plan.0, plan.1) ∙ by e.what none tid
  where
    by : (what : What) → issue_in what ≡ [] → (tid : Tid) → planner_of tid past ≡ planner_after tid e.client what past (planner_of tid past)
    by (Issue t mini) none tid = absurd cc
    by (Begin number op) none tid = refl
    by (Answered number answer) none tid = refl
    by (Called request reply) none tid = refl
    by (Stopped request asked) none tid = refl
    by (Restarted kept) none tid = refl
    by (Abandoned t) none tid = refl

pub one_read : (plans : Plans) (past : List Entry) (e : Entry) (t : Tid) (mini : Mini) → e.what ≡ Issue t mini → is_read mini.items ≡ true
    → KnowsPlanners plans past → KnowsPlanners plans (e ∷ past)
one_read plans past e t mini is read knows = λ q m plan.
    let named : issue_named q (record { tid = t; mini = mini } ∷ issues_of past) ≡ Some m = subst (λ (w : What). issue_named q (issue_in w ++ issues_of past) ≡ Some m) is plan.0 in
    by q m (tid_same t q) refl named plan.1 ∙ sym (ap (λ (w : What). planner_after q e.client w past (planner_of q past)) is)
  where
    by : (q : Tid) (m : Mini) (b : Bool) → tid_same t q ≡ b → (if tid_same t q then Some mini else issue_named q (issues_of past)) ≡ Some m → is_read m.items ≡ false
        → planner_kept plans q ≡ (if tid_same t q then Some (record { client = e.client; begun = begun_by e.client past }) else planner_of q past)
    by q m true same named other = absurd (clash (is_read mini.items) read (ap (λ (n : Mini). is_read n.items) (unsome mini m (sym (ap (λ b. if b then Some mini else issue_named q (issues_of past)) same) ∙ named)) ∙ other))
    by q m false same named other =
        knows q m (sym (ap (λ b. if b then Some mini else issue_named q (issues_of past)) same) ∙ named, other)
        ∙ sym (ap (λ b. if b then Some (record { client = e.client; begun = begun_by e.client past }) else planner_of q past) same)

pub one_issue : (old new : Plans) (past : List Entry) (e : Entry) (t : Tid) (mini : Mini) (planner : Planner) → e.what ≡ Issue t mini
    → planner ≡ record { client = e.client; begun = begun_by e.client past }
    → ((q : Tid) → planner_kept new q ≡ (if tid_same t q then Some planner else planner_kept old q)) → KnowsPlanners old past → KnowsPlanners new (e ∷ past)
one_issue old new past e t mini planner is who more knows = λ q m plan.
    let named : issue_named q (record { tid = t; mini = mini } ∷ issues_of past) ≡ Some m = subst (λ (w : What). issue_named q (issue_in w ++ issues_of past) ≡ Some m) is plan.0 in
    more q
    ∙ (kept q m (tid_same t q) refl named plan.1
    ∙ (ap (λ (p : Planner). if tid_same t q then Some p else planner_of q past) who
    ∙ sym (ap (λ (w : What). planner_after q e.client w past (planner_of q past)) is)))
  where
    kept : (q : Tid) (m : Mini) (b : Bool) → tid_same t q ≡ b → (if tid_same t q then Some mini else issue_named q (issues_of past)) ≡ Some m → is_read m.items ≡ false
        → (if tid_same t q then Some planner else planner_kept old q) ≡ (if tid_same t q then Some planner else planner_of q past)
    kept q m true same named other = ap (λ b. if b then Some planner else planner_kept old q) same ∙ sym (ap (λ b. if b then Some planner else planner_of q past) same)
    kept q m false same named other =
        ap (λ b. if b then Some planner else planner_kept old q) same
        ∙ (knows q m (sym (ap (λ b. if b then Some mini else issue_named q (issues_of past)) same) ∙ named, other)
        ∙ sym (ap (λ b. if b then Some planner else planner_of q past) same))

-- the operation of the client is the one that is told
pub begun_there : (past : List Entry) (c : ClientNo) → (caller_state c past).begun ≡ begun_by (Some c) past
begun_there past c = begun_is c past

-- What is committed here comes last

map_last : (p : Placed) (placed : List Placed) → map placed_act (placed ++ p ∷ []) ≡ map placed_act placed ++ placed_act p ∷ []
map_last p [] = refl
map_last p (q ∷ qs) = ap (λ (l : List PlacedAct). placed_act q ∷ l) (map_last p qs)

pub acts_last : (old new : List PlacedAct) (placed : List Placed) (p : Placed) → AreActsOf old placed → new ≡ old ++ placed_act p ∷ [] → AreActsOf new (placed ++ p ∷ [])
acts_last old new placed p are push = push ∙ (ap (λ (l : List PlacedAct). l ++ placed_act p ∷ []) are ∙ sym (map_last p placed))

-- What an entry puts into the history

-- that answers nothing
pub takes_none : (past : List Entry) (e : Entry) (placed : List Placed) (standing : List (List Bool)) (acts : List PlacedAct) → StepPuts past e.client e.what placed placed → StandsInSet standing placed → AreActsOf acts placed
    → EntryIsInHistory past e None placed standing acts
takes_none past e placed standing acts puts st are = record { next = placed; puts = puts; stands = st; are = are }

pub quiet_puts : (past : List Entry) (by : Option ClientNo) (what : What) (placed : List Placed) → ((c : ClientNo) (number : ℕ) (answer : Answer) → by ≡ Some c → what ≡ Answered number answer → ⊥) → StepPuts past by what placed placed
quiet_puts past None what placed none = refl
quiet_puts past (Some c) (Answered number answer) placed none = absurd (none c number answer refl refl)
quiet_puts past (Some c) (Begin number op) placed none = refl
quiet_puts past (Some c) (Issue t mini) placed none = refl
quiet_puts past (Some c) (Called request reply) placed none = refl
quiet_puts past (Some c) (Stopped request asked) placed none = refl
quiet_puts past (Some c) (Restarted kept) placed none = refl
quiet_puts past (Some c) (Abandoned t) placed none = refl

-- that answers
pub takes_answer : (past : List Entry) (e : Entry) (c : ClientNo) (number : ℕ) (answer : Answer) (placed : List Placed) (standing : List (List Bool)) (acts : List PlacedAct) → e.client ≡ Some c → e.what ≡ Answered number answer
    → AnswerIsInHistory past c answer placed standing acts → EntryIsInHistory past e None placed standing acts
takes_answer past e c number answer placed standing acts by is p = record {
  next = p.next;
  puts = subst (λ (o : Option ClientNo). StepPuts past o e.what placed p.next) (sym by) (subst (λ (w : What). StepPuts past (Some c) w placed p.next) (sym is) p.puts);
  stands = p.stands;
  are = p.are;
}

-- its answer has its place where the entry has
pub answer_has : (past : List Entry) (e : Entry) (c : ClientNo) (number : ℕ) (answer : Answer) (placed : List Placed) → e.client ≡ Some c → e.what ≡ Answered number answer
    → EntryHasPlace past e None placed → AnswerHasPlace past c answer placed
answer_has past e c number answer placed by is has = record {
  next = has.next;
  puts = subst (λ (w : What). StepPuts past (Some c) w placed has.next) is (subst (λ (o : Option ClientNo). StepPuts past o e.what placed has.next) by has.puts);
  ascends = λ after puts. has.ascends after (subst (λ (o : Option ClientNo). StepPuts past o e.what placed after) (sym by) (subst (λ (w : What). StepPuts past (Some c) w placed after) (sym is) puts));
  serve = has.serve;
}

-- that commits
pub takes_commit : (past : List Entry) (e : Entry) (m : CommittedMini) (placed : List Placed) (standing : List (List Bool)) (acts : List PlacedAct)
    → CommitIsInHistory past m placed standing acts → EntryIsInHistory past e (Some (issued_of m)) placed standing acts
takes_commit past e m placed standing acts p = record { next = p.next; puts = p.puts e; stands = p.stands; are = p.are }

pub named_here : (past : List Entry) (e : Entry) (m : CommittedMini) → Some (issued_of m) ≡ committed_by past e → IsIssuedUnderId past m
named_here past e m is = at e.node (sym is)
  where
    at : (node : Option NodeNo) → committed_at past node e.what ≡ Some (issued_of m) → IsIssuedUnderId past m
    at None h = absurd cc
    at (Some n) h = with_named past n (effect_of (node_entries n past) e.what) (issued_of m) h

-- A log

pub one_more : (log : List (ℕ × Entry)) (i : ℕ) (e : ℕ × Entry) → i < length log → e ≡ slice_index_or log i e → entries_of (take (i + 1) log) ≡ e.1 ∷ entries_of (take i log)
one_more log i e here is = grind (arith, common_steps)

-- what the next entry puts into the history of an opened run has its place
pub has_place : (start : Start) (store : Store) (past : List Entry) (e : Entry) (placed : List Placed) → RunsHaveHistory × HistoryIsOne → RunsAreOneHistory
    → OpenedRun start store (e ∷ past) → IsHistory past placed → EntryHasPlace past e (committed_by past e) placed
has_place start store past e placed laws one run is =
    let next = laws.0 start store (e ∷ past) run in
    let before : OpenedRun start store past = record { opened = run.opened; run = run.run.0 } in
    let same : next.1.0 ≡ placed = laws.1 start store past next.1.0 placed (record { opened = before; history = next.1.1 }) (record { opened = before; history = is }) in
    record {
      next = next.0;
      puts = subst (λ (old : List Placed). EntryPuts past e (committed_by past e) old next.0) same next.1.2;
      ascends = λ after puts. (one start store (e ∷ past) after (record { opened = run; history = (placed, is, puts) })).ascending;
      serve = last_serves start store past placed before is;
    }

-- Replies

pub replies_same : (store : Store) (history : List Past) → IsLegal store history → done_from store (map act_of history) ≡ history
replies_same store [] legal = refl
replies_same store (p ∷ history) legal =
    ap (λ (r : Reply). let q : Past = record { client = p.client; number = p.number; op = p.op; reply = r } in q ∷ done_from (applied store p.op).store (map act_of history)) (sym legal.0)
    ∙ ap (λ (l : List Past). p ∷ l) (replies_same (applied store p.op).store history legal.1)

acts_of_placed : (placed : List Placed) → acts_in (map placed_act placed) ≡ map act_of (pasts_of placed)
acts_of_placed [] = refl
acts_of_placed (p ∷ placed) = ap (λ (l : List Act). act_of p.past ∷ l) (acts_of_placed placed)

-- the operations are the history, with the store's replies
pub told_whole : (store : Store) (acts : List PlacedAct) (placed : List Placed) → AreActsOf acts placed → IsLegal store (pasts_of placed) → done_from store (acts_in acts) ≡ pasts_of placed
told_whole store acts placed are legal = ap (done_from store) (ap acts_in are ∙ acts_of_placed placed) ∙ replies_same store (pasts_of placed) legal

-- What a program finds

pub on_found : {A : Type 0} {P Q : A → Type 0} (r : Result A NoMemory) → IfOk r P → ((a : A) → P a → Q a) → IfOk r Q
on_found (Ok a) p to = to a p
on_found (Err e) p to = tt

-- Lists that a loop makes

pub replicate_more : {X : Type 0} (n : ℕ) (x : X) → replicate n x ++ x ∷ [] ≡ replicate (n + 1) x
replicate_more n x = more n x ∙ ap (λ (m : ℕ). replicate m x) (plus n)
  where
    plus : (n : ℕ) → suc n ≡ n + 1
    plus n = omega arith

    more : {X : Type 0} (n : ℕ) (x : X) → replicate n x ++ x ∷ [] ≡ replicate (suc n) x
    more zero x = refl
    more (suc n) x = ap (λ l. x ∷ l) (more n x)

pub take_whole : {X : Type 0} (xs : List X) (i : ℕ) → length xs ≤ i → take i xs ≡ xs
take_whole [] zero le = refl
take_whole [] (suc i) le = refl
take_whole (x ∷ xs) zero le = absurd (omega (arith, le))
take_whole (x ∷ xs) (suc i) le = ap (λ l. x ∷ l) (take_whole xs i (omega (arith, le)))

-- one more operation
drop_at : (acts : List PlacedAct) (i : ℕ) (x : PlacedAct) → i < length acts → x ≡ slice_index_or acts i x → drop i acts ≡ x ∷ drop (i + 1) acts
drop_at acts i x lt is = drop_here acts i x lt is ∙ ap (λ (n : ℕ). x ∷ drop n acts) (plus i)
  where
    plus : (n : ℕ) → suc n ≡ n + 1
    plus n = omega arith

pub done_more : (history new : List Past) (store after : Store) (acts : List PlacedAct) (i : ℕ) (x : PlacedAct) (p : Past) → i < length acts → x ≡ slice_index_or acts i x
    → p ≡ done_by store x.act → after ≡ (applied store x.act.op).store → new ≡ history ++ p ∷ []
    → new ++ done_from after (acts_in (drop (i + 1) acts)) ≡ history ++ done_from store (acts_in (drop i acts))
done_more history new store after acts i x p lt is past left push =
    ap (λ (l : List Past). l ++ done_from after (acts_in (drop (i + 1) acts))) push
    ∙ (append_assoc history (p ∷ []) (done_from after (acts_in (drop (i + 1) acts)))
    ∙ (ap (λ (q : Past). history ++ q ∷ done_from after (acts_in (drop (i + 1) acts))) past
    ∙ (ap (λ (s : Store). history ++ done_by store x.act ∷ done_from s (acts_in (drop (i + 1) acts))) left
    ∙ sym (ap (λ (l : List PlacedAct). history ++ done_from store (acts_in l)) (drop_at acts i x lt is)))))

-- the store after what is left
pub left_more : (store after : Store) (acts : List PlacedAct) (i : ℕ) (x : PlacedAct) → i < length acts → x ≡ slice_index_or acts i x
    → after ≡ (applied store x.act.op).store
    → store_after after (done_from after (acts_in (drop (i + 1) acts))) ≡ store_after store (done_from store (acts_in (drop i acts)))
left_more store after acts i x lt is left =
    ap (λ (s : Store). store_after s (done_from s (acts_in (drop (i + 1) acts)))) left
    ∙ sym (ap (λ (l : List PlacedAct). store_after store (done_from store (acts_in l))) (drop_at acts i x lt is))

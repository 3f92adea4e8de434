-- A coordinator makes only entries that the commit protocol allows its client.
use Rattle.std.proofs.Common.{◌≡◌, ℕ, ◌+◌, ◌<◌, ◌≤◌, Bool, true, false, ◌&&◌, ◌||◌, not, List, [], ◌∷◌, ◌++◌, length, Option, Some, None, refl, sym, ap, subst, ◌∙◌, arith, inl, inr, if◌then◌else◌}
use Rattle.std.specs.Prelude.{nat_lt, nat_eq, Contains, MatchOption, slice_index_or, slice_set, ⊤}
use Rattle.std.specs.List.{list_any}
use Rattle.std.proofs.lemmas.List.{get_or-set_other, get_or-set_same, length-set}
use Rattle.std.proofs.lemmas.List.Elements.{Contains-append_left, Contains-append_right}
use Rattle.std.proofs.lemmas.Bool.{ltb-true, ltb-false, le-ltb, eq-eqb, eqb-true, eqb-false, ne_eqb}
use Rattle.mn_base.specs.Ids.{node_same}
use Rattle.mn_base.specs.declared.ids.NodeNo.{NodeNo}
use Rattle.mn_base.specs.declared.ids.ClientNo.{ClientNo}
use Rattle.mn_base.specs.declared.ids.Tid.{Tid}
use Rattle.mn_base.proofs.Booleans.{and_false, clash, falsely, or_left, or_right}
use Rattle.mn_base.proofs.Naturals.{eq_turned}
use Rattle.mn_mini.specs.declared.request.Request.{Request}
use Rattle.mn_mini.specs.declared.request.Request.TheVariants as Ask
use Rattle.mn_mini.specs.declared.reply.NodeReply.{NodeReply}
use Rattle.mn_mini.specs.declared.reply.NodeReply.TheVariants as Say
use Rattle.mn_mini.specs.Mini.{Mini, participants_of, part_of}
use Rattle.mn_runs.specs.declared.entry.Entry.{Entry}
use Rattle.mn_runs.specs.declared.entry.What.{What}
use Rattle.mn_runs.specs.declared.entry.What.TheVariants.{Begin, Issue, Called, Stopped, Restarted, Abandoned, Answered}
use Rattle.mn_runs.specs.Calls.{Call, call_in, calls_of, is_decide, is_prepare, is_exec, is_try, is_done, is_stopped, is_last_of, was_told, was_done, was_sent, was_stopped, has_yes, was_decided, was_abandoned, is_abandonment, is_in_doubt, Issued, issue_in, issues_of, issue_named, since_begin, since_begin_after}
use Rattle.mn_runs.specs.Clients.{Sends}
use Rattle.mn_runs.proofs.Since.{since_abandoned}
use Rattle.mn_runs.proofs.Same.{tid_same-refl}
use Rattle.mn_coord.specs.declared.stage.Stage.{Stage}
use Rattle.mn_coord.specs.declared.stage.Stage.TheVariants as At
use Rattle.mn_coord.specs.declared.step.CoordStep.{CoordStep}
use Rattle.mn_coord.specs.declared.step.CoordStep.TheVariants.{Send, Abandon, Committed, Failed, Doubt}
use Rattle.mn_coord.specs.Coordination.{Coordination, is_stopped_at_last, stage_of, stage_in, participant, try_request, step_at, step_of, after_step, after_reply, fed_at}
use Rattle.mn_coord.specs.Legal.{has_stopped, is_doubtful, Agrees, HasAnswers, answer_of, node_of, MayMake, IsAnswered, StepsAreAllowed, AnswersAgree, NoAnswerAgrees, AbandonedAgrees, names_tid, IssuesAgree}
use Rattle.mn_coord.proofs.Stages.{asking}
use Rattle.mn_coord.proofs.Tries.{answered_still, decided_still, tries_fresh, tries_more, tries_same}
use Rattle.mn_coord.proofs.Order.{participants_ascend, all_of, order_down, told_apart, element, any_at, last_at, below_next, single}

abbrev count : Coordination → ℕ
count c = length (participants_of c.mini)

-- What the stages say

-- a Commit is due only when all have answered, none refused, and there is more than one
pub commits : (n done : ℕ) (refused : Option NodeReply) (told : Bool) (decided : ℕ) → stage_of n done refused told decided ≡ At.Commit → (refused ≡ None) × (n ≤ done) × (2 ≤ n)
commits n done None told decided e = (refl, first (nat_lt done n) refl e, second (nat_lt done n) (nat_lt 1 n) refl e)
  where
    first : (b : Bool) → nat_lt done n ≡ b → (if b then At.Ask else (if nat_lt 1 n && nat_lt decided n then At.Commit else At.Committed)) ≡ At.Commit → n ≤ done
    first true f g = absurd cc
    first false f g = ltb-false done n f

    second : (b c : Bool) → nat_lt 1 n ≡ c → (if b then At.Ask else (if c && nat_lt decided n then At.Commit else At.Committed)) ≡ At.Commit → 2 ≤ n
    second true c f g = absurd cc
    second false true f g = ltb-true 1 n f
    second false false f g = absurd cc
commits n done (Some reply) told decided e = absurd (other (is_stopped_at_last n done reply) (nat_eq n 1) (not told) (nat_lt decided done) e)
  where
    other : (a b c d : Bool) → (if a then At.Doubt else (if b then At.Failed else (if c then At.Abandon else (if d then At.Cancel else At.Failed)))) ≡ At.Commit → ⊥
    other true b c d f = absurd cc
    other false true c d f = absurd cc
    other false false true d f = absurd cc
    other false false false true f = absurd cc
    other false false false false f = absurd cc

-- after a refusal
pub record IsRefused (n done : ℕ) (refused : Option NodeReply) : Type 0 where
  pub reply : NodeReply
  pub is : refused ≡ Some reply
  pub known : is_stopped_at_last n done reply ≡ false

refusing : (n done : ℕ) (refused : Option NodeReply) (told : Bool) (decided : ℕ) (stage : Stage) → stage_of n done refused told decided ≡ stage → (stage ≡ At.Abandon → IsRefused n done refused × (told ≡ false)) × (stage ≡ At.Cancel → IsRefused n done refused × (told ≡ true))
refusing n done None told decided stage e = (λ f. absurd (first (nat_lt done n) (nat_lt 1 n && nat_lt decided n) (e ∙ f)), λ f. absurd (second (nat_lt done n) (nat_lt 1 n && nat_lt decided n) (e ∙ f)))
  where
    first : (a b : Bool) → (if a then At.Ask else (if b then At.Commit else At.Committed)) ≡ At.Abandon → ⊥
    first true b g = absurd cc
    first false true g = absurd cc
    first false false g = absurd cc

    second : (a b : Bool) → (if a then At.Ask else (if b then At.Commit else At.Committed)) ≡ At.Cancel → ⊥
    second true b g = absurd cc
    second false true g = absurd cc
    second false false g = absurd cc
refusing n done (Some reply) told decided stage e = (
  λ f. first (is_stopped_at_last n done reply) refl (nat_eq n 1) told refl (nat_lt decided done) (e ∙ f),
  λ f. second (is_stopped_at_last n done reply) refl (nat_eq n 1) told refl (nat_lt decided done) (e ∙ f),
)
  where
    first : (a : Bool) → is_stopped_at_last n done reply ≡ a → (b c : Bool) → told ≡ c → (d : Bool) → (if a then At.Doubt else (if b then At.Failed else (if not c then At.Abandon else (if d then At.Cancel else At.Failed)))) ≡ At.Abandon
        → IsRefused n done (Some reply) × (told ≡ false)
    first true k b c t d g = absurd cc
    first false k true c t d g = absurd cc
    first false k false false t d g = (record { reply = reply; is = refl; known = k }, t)
    first false k false true t true g = absurd cc
    first false k false true t false g = absurd cc

    second : (a : Bool) → is_stopped_at_last n done reply ≡ a → (b c : Bool) → told ≡ c → (d : Bool) → (if a then At.Doubt else (if b then At.Failed else (if not c then At.Abandon else (if d then At.Cancel else At.Failed)))) ≡ At.Cancel
        → IsRefused n done (Some reply) × (told ≡ true)
    second true k b c t d g = absurd cc
    second false k true c t d g = absurd cc
    second false k false false t d g = absurd cc
    second false k false true t true g = (record { reply = reply; is = refl; known = k }, t)
    second false k false true t false g = absurd cc

-- Allowed

not_doubtful : (es : List Entry) (c : Coordination) → Agrees es c → IsRefused (count c) c.done c.refused → is_in_doubt c.tid es ≡ false
not_doubtful es c a r = a.doubt ∙ (ap (is_doubtful (count c) c.done) r.is ∙ r.known)

ask_allowed : (es : List Entry) (c : Coordination) → Agrees es c → stage_in c ≡ At.Ask → Sends es (Some (participant c c.done)) (try_request c.tid c.mini (participant c c.done))
ask_allowed es c a stage = by (nat_eq (count c) 1) refl
  where
    facts : (c.refused ≡ None) × (c.done < count c)
    facts = asking (count c) c.done c.refused c.told c.decided stage

    once : was_sent c.tid (participant c c.done) es ≡ false
    once = a.sent facts.0 c.done facts.1 ∙ le-ltb c.done c.done (omega arith)

    open_still : was_abandoned c.tid es ≡ false
    open_still = a.told ∙ a.untold facts.0

    by : (b : Bool) → nat_eq (count c) 1 ≡ b → Sends es (Some (participant c c.done)) (if b then Ask.Exec c.tid (part_of c.mini (participant c c.done)) else Ask.Prepare c.tid (participants_of c.mini) (part_of c.mini (participant c c.done)))
    by true e =
        let one : count c ≡ 1 = eqb-true (count c) 1 e in
        let first : c.done ≡ 0 = (let low = facts.1 in omega arith) in
        record { mini = c.mini; issued = a.now; alone = single (participants_of c.mini) one ∙ ap (λ k. participant c k ∷ []) (sym first); own_part = refl; once = once; open_still = open_still }
    by false e =
        let some = a.some in
        let apart = eqb-false (count c) 1 e in
        record {
          mini = c.mini;
          issued = a.now;
          all = refl;
          several = omega (arith, apart);
          named = element (participants_of c.mini) c.done facts.1;
          own_part = refl;
          once = once;
          open_still = open_still;
          lower = all_of (λ (m : NodeNo). m.0 < (participant c c.done).0 → was_done c.tid m es ≡ true) (participants_of c.mini)
              (λ j low below. a.done j low ∙ lt j (order_down (participants_of c.mini) c.done j (participants_ascend c.mini) facts.1 low below));
        }
      where
        lt : (j : ℕ) → j < c.done → nat_lt j c.done ≡ true
        lt j h = Rattle.std.proofs.lemmas.Bool.lt-ltb j c.done h

commit_allowed : (es : List Entry) (c : Coordination) → Agrees es c → stage_in c ≡ At.Commit → Sends es (Some (participant c c.decided)) (Ask.Decide c.tid true)
commit_allowed es c a stage =
    let facts = commits (count c) c.done c.refused c.told c.decided stage in
    let all = facts.1 in (
      a.doubt ∙ ap (is_doubtful (count c) c.done) facts.0,
      (participants_of c.mini, inl (c.mini, a.ever, refl), all_of (λ m. has_yes c.tid m es ≡ true) (participants_of c.mini) (λ i low. or_left _ _ (a.votes facts.2 i low (omega arith)))),
    )

cancel_allowed : (es : List Entry) (c : Coordination) → Agrees es c → stage_in c ≡ At.Cancel → Sends es (Some (participant c c.decided)) (Ask.Decide c.tid false)
cancel_allowed es c a stage =
    let facts = (refusing (count c) c.done c.refused c.told c.decided At.Cancel stage).1 refl in
    (not_doubtful es c a facts.0, or_left _ _ (a.told ∙ facts.1))

-- where the last one did not stop, and one stopped, there is a later one
pub not_last : (n done : ℕ) (reply : NodeReply) → done < n → is_stopped_at_last n done reply ≡ false → is_stopped reply ≡ true → done + 1 < n
not_last n done Say.Stopped low known is = let apart = eqb-false (done + 1) n known in omega (arith, apart, low)
not_last n done (Say.Done reads) low known is = absurd cc
not_last n done (Say.BadLock s k h) low known is = absurd cc
not_last n done (Say.BadCompare i f) low known is = absurd cc
not_last n done Say.BadForced low known is = absurd cc
not_last n done (Say.Vote v) low known is = absurd cc
not_last n done Say.Decided low known is = absurd cc
not_last n done (Say.Listed d) low known is = absurd cc
not_last n done (Say.Peeked b) low known is = absurd cc
not_last n done Say.Down low known is = absurd cc
not_last n done Say.NoMemory low known is = absurd cc

abandon_allowed : (es : List Entry) (c : Coordination) → Agrees es c → stage_in c ≡ At.Abandon → MayMake es c.tid Abandon
abandon_allowed es c a stage = (c.mini, a.ever, by (is_stopped r.reply) refl)
  where
    r : IsRefused (count c) c.done c.refused
    r = ((refusing (count c) c.done c.refused c.told c.decided At.Abandon stage).0 refl).0

    low : c.done < count c
    low = subst (λ (o : Option NodeReply). MatchOption o (c.done ≤ count c) (λ reply. c.done < count c)) r.is a.within

    stopped_is : (i : ℕ) → i < count c → was_stopped c.tid (participant c i) es ≡ (nat_eq i c.done && is_stopped r.reply)
    stopped_is i l = a.stopped i l ∙ ap (λ (o : Option NodeReply). nat_eq i c.done && has_stopped o) r.is

    lacks : (i : ℕ) → i < count c → c.done ≤ i → was_stopped c.tid (participant c i) es ≡ false → list_any (λ n. not (was_done c.tid n es) && not (was_stopped c.tid n es)) (participants_of c.mini) ≡ true
    lacks i l high free =
        any_at (λ n. not (was_done c.tid n es) && not (was_stopped c.tid n es)) (participants_of c.mini) i l
        (ap (λ b. not b && not (was_stopped c.tid (participant c i) es)) (a.done i l ∙ le-ltb i c.done high) ∙ ap (λ b. true && not b) free)

    by : (b : Bool) → is_stopped r.reply ≡ b → list_any (λ n. not (was_done c.tid n es) && not (was_stopped c.tid n es)) (participants_of c.mini) ≡ true
    by true e =
        let next = not_last (count c) c.done r.reply low r.known e in
        lacks (c.done + 1) next (omega arith) (stopped_is (c.done + 1) next ∙ ap (λ b. b && is_stopped r.reply) (ne_eqb (c.done + 1) c.done (λ f. absurd (omega arith))))
    by false e = lacks c.done low (omega arith) (stopped_is c.done low ∙ (ap (λ b. nat_eq c.done c.done && b) e ∙ and_false (nat_eq c.done c.done)))

pub steps_are_allowed : StepsAreAllowed
steps_are_allowed es c a = by (stage_in c) refl
  where
    by : (stage : Stage) → stage_in c ≡ stage → MayMake es c.tid (step_at c stage)
    by At.Ask e = ask_allowed es c a e
    by At.Commit e = commit_allowed es c a e
    by At.Abandon e = abandon_allowed es c a e
    by At.Cancel e = cancel_allowed es c a e
    by At.Committed e = tt
    by At.Failed e = tt
    by At.Doubt e = tt

-- One more call in the list

-- an entry that is a call issues nothing, abandons nothing, and begins and ends no operation
pub record IsCall (es : List Entry) (e : Entry) : Type 0 where
  pub issues : issue_in e.what ≡ []
  pub since : since_begin (e ∷ es) ≡ e ∷ since_begin es
  pub keeps : (tid : Tid) → is_abandonment tid e.what ≡ false

call_what : (es : List Entry) (n : Option NodeNo) (by : Option ClientNo) (what : What) (call : Call) → call_in n what ≡ call ∷ [] → IsCall es (record { node = n; client = by; what = what })
call_what es None by what call is = absurd cc
call_what es (Some n) by (Begin number op) call is = absurd cc
call_what es (Some n) by (Issue tid mini) call is = absurd cc
call_what es (Some n) by (Called request reply) call is = record { issues = refl; since = refl; keeps = λ tid. refl }
call_what es (Some n) by (Stopped None asked) call is = absurd cc
call_what es (Some n) by (Stopped (Some request) asked) call is = record { issues = refl; since = refl; keeps = λ tid. refl }
call_what es (Some n) by (Restarted kept) call is = absurd cc
call_what es (Some n) by (Abandoned tid) call is = absurd cc
call_what es (Some n) by (Answered number answer) call is = absurd cc

a_call : (es : List Entry) (e : Entry) (call : Call) → call_in e.node e.what ≡ call ∷ [] → IsCall es e
a_call es e call is = call_what es e.node e.client e.what call is

pub any_more : (t : Call → Bool) (es : List Entry) (e : Entry) (call : Call) → call_in e.node e.what ≡ call ∷ [] → list_any t (calls_of (e ∷ es)) ≡ (t call || list_any t (calls_of es))
any_more t es e call is = ap (λ (cs : List Call). list_any t (cs ++ calls_of es)) is

same_issues : (es : List Entry) (e : Entry) → issue_in e.what ≡ [] → issues_of (e ∷ es) ≡ issues_of es
same_issues es e is = ap (λ (i : List Issued). i ++ issues_of es) is

still_now : (es : List Entry) (e : Entry) (tid : Tid) (mini : Mini) → IsCall es e → issue_named tid (issues_of (since_begin es)) ≡ Some mini → issue_named tid (issues_of (since_begin (e ∷ es))) ≡ Some mini
still_now es e tid mini k h = ap (λ (l : List Entry). issue_named tid (issues_of l)) k.since ∙ (ap (issue_named tid) (same_issues (since_begin es) e k.issues) ∙ h)

still_ever : (es : List Entry) (e : Entry) (tid : Tid) (mini : Mini) → IsCall es e → issue_named tid (issues_of es) ≡ Some mini → issue_named tid (issues_of (e ∷ es)) ≡ Some mini
still_ever es e tid mini k h = ap (issue_named tid) (same_issues es e k.issues) ∙ h

still_told : (es : List Entry) (e : Entry) (tid : Tid) → IsCall es e → was_abandoned tid (e ∷ es) ≡ was_abandoned tid es
still_told es e tid k = ap (λ b. b || was_abandoned tid es) (k.keeps tid)

still_given_up : (es : List Entry) (e : Entry) (tid : Tid) → IsCall es e → was_abandoned tid (since_begin (e ∷ es)) ≡ was_abandoned tid (since_begin es)
still_given_up es e tid k = ap (was_abandoned tid) k.since ∙ ap (λ b. b || was_abandoned tid (since_begin es)) (k.keeps tid)

-- A decision is passed over

abbrev IsDecide : Request → Type 0
IsDecide (Ask.Decide tid verdict) = ⊤
IsDecide request = ⊥

decide_no_try : (tid : Tid) (request : Request) → IsDecide request → is_try tid request ≡ false
decide_no_try tid (Ask.Decide t verdict) d = refl
decide_no_try tid (Ask.Prepare t ps part) d = absurd d
decide_no_try tid (Ask.Exec t part) d = absurd d
decide_no_try tid (Ask.Force t) d = absurd d
decide_no_try tid Ask.List d = absurd d
decide_no_try tid (Ask.Peek s k) d = absurd d

-- a test of tries, or of Prepares, takes no note of it
pass_over : (t : Request → Bool) (say : NodeReply → Bool) (es : List Entry) (e : Entry) (n m : NodeNo) (request : Request) (reply : NodeReply) → IsAnswered e n request reply → t request ≡ false
    → was_told t say m (e ∷ es) ≡ was_told t say m es
pass_over t say es e n m request reply is none =
    any_more (λ (c : Call). node_same c.node m && (t c.request && say c.reply)) es e (record { node = n; request = request; reply = reply }) is
    ∙ ap (λ b. b || was_told t say m es) (ap (λ b. node_same n m && (b && say reply)) none ∙ and_false (node_same n m))

prepare_of_try : (tid : Tid) (request : Request) → is_try tid request ≡ false → is_prepare tid request ≡ false
prepare_of_try tid request e = by (is_prepare tid request) e
  where
    by : (b : Bool) → (b || is_exec tid request) ≡ false → b ≡ false
    by true f = absurd cc
    by false f = refl

exec_of_try : (tid : Tid) (request : Request) → is_try tid request ≡ false → is_exec tid request ≡ false
exec_of_try tid request e = by (is_prepare tid request) e
  where
    by : (b : Bool) → (b || is_exec tid request) ≡ false → is_exec tid request ≡ false
    by true f = absurd cc
    by false f = f

doubt_more : (es : List Entry) (e : Entry) (n : NodeNo) (request : Request) (reply : NodeReply) (tid : Tid) → IsAnswered e n request reply
    → is_in_doubt tid (e ∷ es) ≡ ((is_stopped reply && (is_exec tid request || (is_prepare tid request && is_last_of n request))) || is_in_doubt tid es)
doubt_more es e n request reply tid is = any_more (λ (c : Call). is_stopped c.reply && (is_exec tid c.request || (is_prepare tid c.request && is_last_of c.node c.request))) es e (record { node = n; request = request; reply = reply }) is

no_doubt : (es : List Entry) (e : Entry) (n : NodeNo) (request : Request) (reply : NodeReply) (tid : Tid) → IsAnswered e n request reply → is_try tid request ≡ false → is_in_doubt tid (e ∷ es) ≡ is_in_doubt tid es
no_doubt es e n request reply tid is none =
    doubt_more es e n request reply tid is
    ∙ ap (λ b. b || is_in_doubt tid es)
    (ap (λ b. is_stopped reply && (b || (is_prepare tid request && is_last_of n request))) (exec_of_try tid request none)
    ∙ (ap (λ b. is_stopped reply && (b && is_last_of n request)) (prepare_of_try tid request none) ∙ and_false (is_stopped reply)))

-- What was answered

-- one more entry takes nothing away
still_answered : (es : List Entry) (e : Entry) (tid : Tid) (mini : Mini) (done : ℕ) (reads : List (List (List ℕ)))
    (refused : Option NodeReply) → HasAnswers es tid mini done reads refused
    → HasAnswers (e ∷ es) tid mini done reads refused
still_answered es e tid mini done reads refused h = record {
  long = h.long;
  read = λ i low. Contains-append_right (call_in e.node e.what) (calls_of es) (answer_of tid mini i (Say.Done (slice_index_or reads i []))) (h.read i low);
  failed = by refused h.failed;
}
  where
    by : (o : Option NodeReply) → MatchOption o ⊤ (λ reply. (reply ≡ Say.NoMemory → ⊥) → Contains (calls_of es) (answer_of tid mini done reply))
        → MatchOption o ⊤ (λ reply. (reply ≡ Say.NoMemory → ⊥) → Contains (calls_of (e ∷ es)) (answer_of tid mini done reply))
    by None f = tt
    by (Some reply) f = λ other. Contains-append_right (call_in e.node e.what) (calls_of es) (answer_of tid mini done reply) (f other)

-- nor does one that begins no operation
later_answers : (es : List Entry) (e : Entry) (tid : Tid) (mini : Mini) (done : ℕ) (reads : List (List (List ℕ)))
    (refused : Option NodeReply) → since_begin (e ∷ es) ≡ e ∷ since_begin es
    → HasAnswers (since_begin es) tid mini done reads refused
    → HasAnswers (since_begin (e ∷ es)) tid mini done reads refused
later_answers es e tid mini done reads refused since h =
    subst (λ (l : List Entry). HasAnswers l tid mini done reads refused) (sym since)
    (still_answered (since_begin es) e tid mini done reads refused h)

-- an answer is in the list
answer_in : (es : List Entry) (e : Entry) (call : Call) → call_in e.node e.what ≡ call ∷ [] → Contains (calls_of (e ∷ es)) call
answer_in es e call is =
    subst (λ (cs : List Call). Contains (cs ++ calls_of es) call) (sym is) (Contains-append_left (call ∷ []) (calls_of es) call (0, omega arith, refl))

-- the next participant was done
one_more : (es : List Entry) (e : Entry) (tid : Tid) (mini : Mini) (done : ℕ) (all : List (List (List ℕ))) (reads : List (List ℕ))
    (refused : Option NodeReply) → refused ≡ None → HasAnswers es tid mini done all refused → done < length (participants_of mini)
    → IsAnswered e (node_of mini done) (try_request tid mini (node_of mini done)) (Say.Done reads)
    → HasAnswers (e ∷ es) tid mini (done + 1) (slice_set all done reads) refused
one_more es e tid mini done all reads refused none h low is = record {
  long = length-set all done reads ∙ h.long;
  read = λ i below. by i below (nat_eq i done) refl;
  failed = subst (λ (o : Option NodeReply). MatchOption o ⊤ (λ reply. (reply ≡ Say.NoMemory → ⊥) → Contains (calls_of (e ∷ es)) (answer_of tid mini (done + 1) reply))) (sym none) tt;
}
  where
    Has : ℕ → List (List ℕ) → Type 0
    Has i rs = Contains (calls_of (e ∷ es)) (answer_of tid mini i (Say.Done rs))

    by : (i : ℕ) → i < done + 1 → (b : Bool) → nat_eq i done ≡ b → Has i (slice_index_or (slice_set all done reads) i [])
    by i below true same =
        let at = eqb-true i done same in
        let long = h.long in
        subst (λ (n : ℕ). Has n (slice_index_or (slice_set all done reads) n [])) (sym at)
        (subst (Has done) (sym (get_or-set_same all done reads [] (omega arith))) (answer_in es e (answer_of tid mini done (Say.Done reads)) is))
    by i below false other =
        let apart = eqb-false i done other in
        subst (Has i) (sym (get_or-set_other all done i reads [] apart))
        (Contains-append_right (call_in e.node e.what) (calls_of es) (answer_of tid mini i (Say.Done (slice_index_or all i []))) (h.read i (omega (arith, apart))))

-- the next participant gave another reply
one_failed : (es : List Entry) (e : Entry) (tid : Tid) (mini : Mini) (done : ℕ) (all : List (List (List ℕ))) (reply : NodeReply)
    (refused : Option NodeReply) → HasAnswers es tid mini done all refused
    → IsAnswered e (node_of mini done) (try_request tid mini (node_of mini done)) reply
    → HasAnswers (e ∷ es) tid mini done all (Some reply)
one_failed es e tid mini done all reply refused h is = record {
  long = h.long;
  read = (still_answered es e tid mini done all refused h).read;
  failed = λ other. answer_in es e (answer_of tid mini done reply) is;
}

decided_agrees : (es : List Entry) (e : Entry) (c : Coordination) (n : NodeNo) (request : Request) (reply : NodeReply) → Agrees es c → IsAnswered e n request reply → IsDecide request
    → participant c c.decided ≡ n → is_decide c.tid request ≡ true
    → Agrees (e ∷ es) (record c { decided = c.decided + 1; asked = false })
decided_agrees es e c n request reply a is d at own =
    let none = decide_no_try c.tid request d in
    let call = a_call es e (record { node = n; request = request; reply = reply }) is in
    record {
      now = still_now es e c.tid c.mini call a.now;
      ever = still_ever es e c.tid c.mini call a.ever;
      some = a.some;
      within = a.within;
      untold = a.untold;
      told = still_told es e c.tid call ∙ a.told;
      done = λ i low. pass_over (is_try c.tid) is_done es e n (participant c i) request reply is none ∙ a.done i low;
      votes = λ two i low below. pass_over (is_prepare c.tid) is_done es e n (participant c i) request reply is (prepare_of_try c.tid request none) ∙ a.votes two i low below;
      sent = λ open_still i low. pass_over (is_try c.tid) (λ r. true) es e n (participant c i) request reply is none ∙ a.sent open_still i low;
      stopped = λ i low. pass_over (is_try c.tid) is_stopped es e n (participant c i) request reply is none ∙ a.stopped i low;
      doubt = no_doubt es e n request reply c.tid is none ∙ a.doubt;
      answers = later_answers es e c.tid c.mini c.done c.reads c.refused call.since a.answers;
      tries = tries_more es e (record { node = n; request = request; reply = reply }) c.tid c.mini c.done c.done c.refused c.refused is a.tries (λ k h. h) (λ t. absurd (clash (is_try c.tid request) t none));
      given_up = still_given_up es e c.tid call ∙ a.given_up;
      decided = λ i low below. by i low below call.since (nat_eq i c.decided) refl;
    }
  where
    here : (i : ℕ) → i ≡ c.decided → since_begin (e ∷ es) ≡ e ∷ since_begin es → was_decided c.tid (participant c i) (since_begin (e ∷ es)) ≡ true
    here i same since =
        let there : participant c i ≡ n = ap (participant c) same ∙ at in
        ap (was_decided c.tid (participant c i)) since
        ∙ (any_more (λ (k : Call). node_same k.node (participant c i) && (is_decide c.tid k.request && true)) (since_begin es) e (record { node = n; request = request; reply = reply }) is
        ∙ or_left _ _ (ap (λ b. b && (is_decide c.tid request && true)) (eq-eqb n.0 (participant c i).0 (ap (λ (m : NodeNo). m.0) (sym there))) ∙ ap (λ b. b && true) own))

    by : (i : ℕ) → i < count c → i < c.decided + 1 → since_begin (e ∷ es) ≡ e ∷ since_begin es → (b : Bool) → nat_eq i c.decided ≡ b → was_decided c.tid (participant c i) (since_begin (e ∷ es)) ≡ true
    by i low below since true f = here i (eqb-true i c.decided f) since
    by i low below since false f = let apart = eqb-false i c.decided f in decided_still es e c.tid (participant c i) since (a.decided i low (omega (arith, apart)))

-- A try

-- the participant's own Prepare or Exec
pub record IsTryOf (c : Coordination) (request : Request) : Type 0 where
  pub try : is_try c.tid request ≡ true
  pub prepare : 2 ≤ count c → is_prepare c.tid request ≡ true
  pub last : (is_exec c.tid request || (is_prepare c.tid request && is_last_of (participant c c.done) request)) ≡ nat_eq (c.done + 1) (count c)

pub try_is : (c : Coordination) → c.done < count c → IsTryOf c (try_request c.tid c.mini (participant c c.done))
try_is c low = by (nat_eq (count c) 1) refl
  where
    by : (b : Bool) → nat_eq (count c) 1 ≡ b → IsTryOf c (if b then Ask.Exec c.tid (part_of c.mini (participant c c.done)) else Ask.Prepare c.tid (participants_of c.mini) (part_of c.mini (participant c c.done)))
    by true e =
        let one = eqb-true (count c) 1 e in
        record { try = tid_same-refl c.tid; prepare = λ two. absurd (omega arith); last = ap (λ b. b || false) (tid_same-refl c.tid) ∙ sym (eq-eqb (c.done + 1) (count c) (omega arith)) }
    by false e = record {
      try = or_left _ _ (tid_same-refl c.tid);
      prepare = λ two. tid_same-refl c.tid;
      last = ap (λ b. b && is_last_of (participant c c.done) (Ask.Prepare c.tid (participants_of c.mini) (part_of c.mini (participant c c.done)))) (tid_same-refl c.tid)
          ∙ last_at (participants_of c.mini) c.done (participants_ascend c.mini) low;
    }

-- a test of tries takes note of it at its own participant
noted : (t : Request → Bool) (say : NodeReply → Bool) (es : List Entry) (e : Entry) (c : Coordination) (i : ℕ) (request : Request) (reply : NodeReply) → IsAnswered e (participant c c.done) request reply → t request ≡ true
    → c.done < count c → i < count c → was_told t say (participant c i) (e ∷ es) ≡ ((nat_eq c.done i && say reply) || was_told t say (participant c i) es)
noted t say es e c i request reply is own here low =
    any_more (λ (k : Call). node_same k.node (participant c i) && (t k.request && say k.reply)) es e (record { node = participant c c.done; request = request; reply = reply }) is
    ∙ ap (λ b. b || was_told t say (participant c i) es)
    (ap (λ b. b && (t request && say reply)) (told_apart (participants_of c.mini) c.done i (participants_ascend c.mini) here low) ∙ ap (λ b. nat_eq c.done i && (b && say reply)) own)

done_agrees : (es : List Entry) (e : Entry) (c : Coordination) (request : Request) (reads : List (List ℕ)) (all : List (List (List ℕ))) → Agrees es c → c.refused ≡ None → c.done < count c → IsTryOf c request
    → HasAnswers (since_begin (e ∷ es)) c.tid c.mini (c.done + 1) all c.refused
    → request ≡ try_request c.tid c.mini (participant c c.done)
    → IsAnswered e (participant c c.done) request (Say.Done reads) → Agrees (e ∷ es) (record c { done = c.done + 1; reads = all; asked = false })
done_agrees es e c request reads all a open_still low t answers own is =
    let call = a_call es e (record { node = participant c c.done; request = request; reply = Say.Done reads }) is in
    record {
      now = still_now es e c.tid c.mini call a.now;
      ever = still_ever es e c.tid c.mini call a.ever;
      some = a.some;
      within = subst (λ (o : Option NodeReply). MatchOption o (c.done + 1 ≤ count c) (λ reply. c.done + 1 < count c)) (sym open_still) (omega arith);
      untold = a.untold;
      told = still_told es e c.tid call ∙ a.told;
      done = λ i l. noted (is_try c.tid) is_done es e c i request (Say.Done reads) is t.try low l ∙ (ap (λ b. (nat_eq c.done i && true) || b) (a.done i l) ∙ next i);
      votes = λ two i l below. noted (is_prepare c.tid) is_done es e c i request (Say.Done reads) is (t.prepare two) low l ∙ vote two i l below (nat_eq c.done i) refl;
      sent = λ o i l. noted (is_try c.tid) (λ r. true) es e c i request (Say.Done reads) is t.try low l ∙ (ap (λ b. (nat_eq c.done i && true) || b) (a.sent o i l) ∙ next i);
      stopped = λ i l. noted (is_try c.tid) is_stopped es e c i request (Say.Done reads) is t.try low l
          ∙ (ap (λ b. b || was_stopped c.tid (participant c i) es) (and_false (nat_eq c.done i))
          ∙ (a.stopped i l ∙ (ap (λ (o : Option NodeReply). nat_eq i c.done && has_stopped o) open_still
          ∙ (and_false (nat_eq i c.done) ∙ sym (ap (λ (o : Option NodeReply). nat_eq i (c.done + 1) && has_stopped o) open_still ∙ and_false (nat_eq i (c.done + 1)))))));
      doubt = doubt_more es e (participant c c.done) request (Say.Done reads) c.tid is
          ∙ (a.doubt ∙ (ap (is_doubtful (count c) c.done) open_still ∙ sym (ap (is_doubtful (count c) (c.done + 1)) open_still)));
      answers = answers;
      tries = tries_more es e (record { node = participant c c.done; request = request; reply = Say.Done reads }) c.tid c.mini c.done (c.done + 1) c.refused c.refused is a.tries
          (answered_still c.tid c.mini c.done c.refused open_still (c.done + 1) c.refused (omega arith))
          (λ t. record { number = c.done; is = ap (λ (r : Request). record { node = participant c c.done; request = r; reply = Say.Done reads }) own; said = inl (omega arith, refl) });
      given_up = still_given_up es e c.tid call ∙ a.given_up;
      decided = λ i l below. decided_still es e c.tid (participant c i) call.since (a.decided i l below);
    }
  where
    and_true : (b : Bool) → (b && true) ≡ b
    and_true true = refl
    and_true false = refl

    next : (i : ℕ) → ((nat_eq c.done i && true) || nat_lt i c.done) ≡ nat_lt i (c.done + 1)
    next i = ap (λ b. b || nat_lt i c.done) (and_true (nat_eq c.done i)) ∙ below_next i c.done

    vote : 2 ≤ count c → (i : ℕ) → i < count c → i < c.done + 1 → (b : Bool) → nat_eq c.done i ≡ b → ((b && true) || was_told (is_prepare c.tid) is_done (participant c i) es) ≡ true
    vote two i l below true f = refl
    vote two i l below false f = let apart = eqb-false c.done i f in a.votes two i l (omega (arith, apart))

-- any other reply to it
refused_agrees : (es : List Entry) (e : Entry) (c : Coordination) (request : Request) (reply : NodeReply) → Agrees es c → c.refused ≡ None → c.done < count c → IsTryOf c request → is_done reply ≡ false
    → ((is_stopped reply && nat_eq (c.done + 1) (count c)) ≡ is_stopped_at_last (count c) c.done reply)
    → request ≡ try_request c.tid c.mini (participant c c.done)
    → IsAnswered e (participant c c.done) request reply → Agrees (e ∷ es) (record c { refused = Some reply; asked = false })
refused_agrees es e c request reply a open_still low t other last own is =
    let call = a_call es e (record { node = participant c c.done; request = request; reply = reply }) is in
    record {
      now = still_now es e c.tid c.mini call a.now;
      ever = still_ever es e c.tid c.mini call a.ever;
      some = a.some;
      within = low;
      untold = λ none. absurd cc;
      told = still_told es e c.tid call ∙ a.told;
      done = λ i l. noted (is_try c.tid) is_done es e c i request reply is t.try low l
          ∙ (ap (λ b. (nat_eq c.done i && b) || was_done c.tid (participant c i) es) other ∙ (ap (λ b. b || was_done c.tid (participant c i) es) (and_false (nat_eq c.done i)) ∙ a.done i l));
      votes = λ two i l below. noted (is_prepare c.tid) is_done es e c i request reply is (t.prepare two) low l ∙ or_right _ _ (a.votes two i l below);
      sent = λ none. absurd cc;
      stopped = λ i l. noted (is_try c.tid) is_stopped es e c i request reply is t.try low l
          ∙ (ap (λ b. (nat_eq c.done i && is_stopped reply) || b) (a.stopped i l ∙ (ap (λ (o : Option NodeReply). nat_eq i c.done && has_stopped o) open_still ∙ and_false (nat_eq i c.done)))
          ∙ (or_none (nat_eq c.done i && is_stopped reply) ∙ ap (λ b. b && is_stopped reply) (eq_turned c.done i)));
      doubt = doubt_more es e (participant c c.done) request reply c.tid is
          ∙ (ap (λ b. (is_stopped reply && b) || is_in_doubt c.tid es) t.last
          ∙ (ap (λ b. (is_stopped reply && nat_eq (c.done + 1) (count c)) || b) (a.doubt ∙ ap (is_doubtful (count c) c.done) open_still) ∙ (or_none (is_stopped reply && nat_eq (c.done + 1) (count c)) ∙ last)));
      answers = subst (λ (l : List Entry). HasAnswers l c.tid c.mini c.done c.reads (Some reply)) (sym call.since)
          (one_failed (since_begin es) e c.tid c.mini c.done c.reads reply c.refused a.answers (subst (λ (r : Request). IsAnswered e (participant c c.done) r reply) own is));
      tries = tries_more es e (record { node = participant c c.done; request = request; reply = reply }) c.tid c.mini c.done c.done c.refused (Some reply) is a.tries
          (answered_still c.tid c.mini c.done c.refused open_still c.done (Some reply) (omega arith))
          (λ t. record { number = c.done; is = ap (λ (r : Request). record { node = participant c c.done; request = r; reply = reply }) own; said = inr (refl, other) });
      given_up = still_given_up es e c.tid call ∙ a.given_up;
      decided = λ i l below. decided_still es e c.tid (participant c i) call.since (a.decided i l below);
    }
  where
    or_none : (b : Bool) → (b || false) ≡ b
    or_none true = refl
    or_none false = refl

reply_agrees : (es : List Entry) (e : Entry) (c : Coordination) (request : Request) (reply : NodeReply) → Agrees es c → c.refused ≡ None → c.done < count c → IsTryOf c request
    → request ≡ try_request c.tid c.mini (participant c c.done)
    → IsAnswered e (participant c c.done) request reply → Agrees (e ∷ es) (after_reply c reply)
reply_agrees es e c request (Say.Done reads) a o low t own is =
    done_agrees es e c request reads (slice_set c.reads c.done reads) a o low t
    (subst (λ (l : List Entry). HasAnswers l c.tid c.mini (c.done + 1) (slice_set c.reads c.done reads) c.refused)
    (sym (a_call es e (record { node = participant c c.done; request = request; reply = Say.Done reads }) is).since)
    (one_more (since_begin es) e c.tid c.mini c.done c.reads reads c.refused o a.answers low (subst (λ (r : Request). IsAnswered e (participant c c.done) r (Say.Done reads)) own is))) own is
reply_agrees es e c request (Say.BadLock s k h) a o low t own is = refused_agrees es e c request (Say.BadLock s k h) a o low t refl refl own is
reply_agrees es e c request (Say.BadCompare i f) a o low t own is = refused_agrees es e c request (Say.BadCompare i f) a o low t refl refl own is
reply_agrees es e c request Say.BadForced a o low t own is = refused_agrees es e c request Say.BadForced a o low t refl refl own is
reply_agrees es e c request (Say.Vote v) a o low t own is = refused_agrees es e c request (Say.Vote v) a o low t refl refl own is
reply_agrees es e c request Say.Decided a o low t own is = refused_agrees es e c request Say.Decided a o low t refl refl own is
reply_agrees es e c request (Say.Listed d) a o low t own is = refused_agrees es e c request (Say.Listed d) a o low t refl refl own is
reply_agrees es e c request (Say.Peeked b) a o low t own is = refused_agrees es e c request (Say.Peeked b) a o low t refl refl own is
reply_agrees es e c request Say.Down a o low t own is = refused_agrees es e c request Say.Down a o low t refl refl own is
reply_agrees es e c request Say.Stopped a o low t own is = refused_agrees es e c request Say.Stopped a o low t refl refl own is
reply_agrees es e c request Say.NoMemory a o low t own is = refused_agrees es e c request Say.NoMemory a o low t refl refl own is

send_is : (n m : NodeNo) (q r : Request) → Send n q ≡ Send m r → (n ≡ m) × (q ≡ r)
send_is n m q r e = (cc, cc)

moved : (e : Entry) (n m : NodeNo) (q r : Request) (reply : NodeReply) → n ≡ m → q ≡ r → IsAnswered e m r reply → IsAnswered e n q reply
moved e n m q r reply f g is = is ∙ (ap (λ (k : NodeNo). record { node = k; request = r; reply = reply } ∷ []) (sym f) ∙ ap (λ (k : Request). record { node = n; request = k; reply = reply } ∷ []) (sym g))

pub answers_agree : AnswersAgree
answers_agree es e c node request reply a step is = by (stage_in c) refl step
  where
    decides : (verdict : Bool) → participant c c.decided ≡ node → Ask.Decide c.tid verdict ≡ request → Agrees (e ∷ es) (record c { decided = c.decided + 1; asked = false })
    decides verdict at same = decided_agrees es e c node request reply a is (subst IsDecide same tt) at (ap (is_decide c.tid) (sym same) ∙ tid_same-refl c.tid)

    by : (stage : Stage) → stage_in c ≡ stage → step_at c stage ≡ Send node request → Agrees (e ∷ es) (fed_at c stage reply)
    by At.Ask s f =
        let facts = asking (count c) c.done c.refused c.told c.decided s in
        let parts = send_is _ _ _ _ f in
        reply_agrees es e c (try_request c.tid c.mini (participant c c.done)) reply a facts.0 facts.1 (try_is c facts.1) refl
        (moved e (participant c c.done) node (try_request c.tid c.mini (participant c c.done)) request reply parts.0 parts.1 is)
    by At.Commit s f = let parts = send_is _ _ _ _ f in decides true parts.0 parts.1
    by At.Cancel s f = let parts = send_is _ _ _ _ f in decides false parts.0 parts.1
    by At.Abandon s f = absurd cc
    by At.Committed s f = absurd cc
    by At.Failed s f = absurd cc
    by At.Doubt s f = absurd cc

-- A reply that is no entry

pub no_answer_agrees : NoAnswerAgrees
no_answer_agrees es c asks a = subst (λ (stage : Stage). Agrees es (fed_at c stage Say.NoMemory)) (sym asks) refuses
  where
    facts : (c.refused ≡ None) × (c.done < count c)
    facts = asking (count c) c.done c.refused c.told c.decided asks

    refuses : Agrees es (record c { refused = Some Say.NoMemory; asked = false })
    refuses = record {
      now = a.now;
      ever = a.ever;
      some = a.some;
      within = facts.1;
      untold = λ none. absurd cc;
      told = a.told;
      done = a.done;
      votes = a.votes;
      sent = λ none. absurd cc;
      stopped = λ i l. a.stopped i l ∙ (ap (λ (r : Option NodeReply). nat_eq i c.done && has_stopped r) facts.0);
      doubt = a.doubt ∙ ap (is_doubtful (count c) c.done) facts.0;
      answers = record { long = a.answers.long; read = a.answers.read; failed = λ other. absurd (other refl) };
      tries = λ call there t. answered_still c.tid c.mini c.done c.refused facts.0 c.done (Some Say.NoMemory) (omega arith) call (a.tries call there t);
      given_up = a.given_up;
      decided = a.decided;
    }

-- Abandoned

no_call : (n : Option NodeNo) (what : What) → n ≡ None → call_in n what ≡ []
no_call n what e = ap (λ (m : Option NodeNo). call_in m what) e

same_calls : (es : List Entry) (e : Entry) → e.node ≡ None → calls_of (e ∷ es) ≡ calls_of es
same_calls es e none = ap (λ (cs : List Call). cs ++ calls_of es) (no_call e.node e.what none)

-- a step that tells of giving up is the stage of it
pub abandon_at : (c : Coordination) → step_of c ≡ Abandon → stage_in c ≡ At.Abandon
abandon_at c step = by (stage_in c) refl step
  where
    by : (stage : Stage) → stage_in c ≡ stage → step_at c stage ≡ Abandon → stage_in c ≡ At.Abandon
    by At.Ask s f = absurd cc
    by At.Commit s f = absurd cc
    by At.Abandon s f = s
    by At.Cancel s f = absurd cc
    by At.Committed s f = absurd cc
    by At.Failed s f = absurd cc
    by At.Doubt s f = absurd cc

pub abandoned_agrees : AbandonedAgrees
abandoned_agrees es e c a step none what = record {
  now = ap (λ (l : List Entry). issue_named c.tid (issues_of l)) (ap (λ (w : What). since_begin_after w e (since_begin es)) what)
      ∙ (ap (issue_named c.tid) (same_issues (since_begin es) e (ap issue_in what)) ∙ a.now);
  ever = ap (issue_named c.tid) (same_issues es e (ap issue_in what)) ∙ a.ever;
  some = a.some;
  within = a.within;
  untold = λ o. absurd (let r = ((refusing (count c) c.done c.refused c.told c.decided At.Abandon (abandon_at c step)).0 refl).0 in let both : Some r.reply ≡ None = sym r.is ∙ o in cc);
  told = ap (λ (w : What). is_abandonment c.tid w || was_abandoned c.tid es) what ∙ ap (λ b. b || was_abandoned c.tid es) (tid_same-refl c.tid);
  done = λ i l. ap (list_any (λ (k : Call). node_same k.node (participant c i) && (is_try c.tid k.request && is_done k.reply))) (same_calls es e none) ∙ a.done i l;
  votes = λ two i l below. ap (list_any (λ (k : Call). node_same k.node (participant c i) && (is_prepare c.tid k.request && is_done k.reply))) (same_calls es e none) ∙ a.votes two i l below;
  sent = λ o i l. ap (list_any (λ (k : Call). node_same k.node (participant c i) && (is_try c.tid k.request && true))) (same_calls es e none) ∙ a.sent o i l;
  stopped = λ i l. ap (list_any (λ (k : Call). node_same k.node (participant c i) && (is_try c.tid k.request && is_stopped k.reply))) (same_calls es e none) ∙ a.stopped i l;
  doubt = ap (list_any (λ (k : Call). is_stopped k.reply && (is_exec c.tid k.request || (is_prepare c.tid k.request && is_last_of k.node k.request)))) (same_calls es e none) ∙ a.doubt;
  answers = later_answers es e c.tid c.mini c.done c.reads c.refused since a.answers;
  tries = tries_same es e c.tid c.mini c.done c.refused (same_calls es e none) a.tries;
  given_up = ap (was_abandoned c.tid) since ∙ (ap (λ (w : What). is_abandonment c.tid w || was_abandoned c.tid (since_begin es)) what ∙ ap (λ b. b || was_abandoned c.tid (since_begin es)) (tid_same-refl c.tid));
  decided = λ i l below. decided_still es e c.tid (participant c i) since (a.decided i l below);
}
  where
    since : since_begin (e ∷ es) ≡ e ∷ since_begin es
    since = ap (λ (w : What). since_begin_after w e (since_begin es)) what

-- The issue

-- where no call is a try of the id, no test of its tries passes
untried : (t : Request → Bool) (say : NodeReply → Bool) (tid : Tid) (m : NodeNo) (cs : List Call) → ((request : Request) → is_try tid request ≡ false → t request ≡ false) → list_any (names_tid tid) cs ≡ false
    → list_any (λ (c : Call). node_same c.node m && (t c.request && say c.reply)) cs ≡ false
untried t say tid m [] within fresh = refl
untried t say tid m (k ∷ cs) within fresh =
    let parts = split (is_try tid k.request) (list_any (names_tid tid) cs) fresh in
    ap (λ b. b || list_any (λ (c : Call). node_same c.node m && (t c.request && say c.reply)) cs) (ap (λ b. node_same k.node m && (b && say k.reply)) (within k.request parts.0) ∙ and_false (node_same k.node m)) ∙ untried t say tid m cs within parts.1
  where
    split : (a b : Bool) → (a || b) ≡ false → (a ≡ false) × (b ≡ false)
    split true b e = absurd cc
    split false b e = (refl, e)

not_in_doubt : (tid : Tid) (cs : List Call) → list_any (names_tid tid) cs ≡ false → list_any (λ (k : Call). is_stopped k.reply && (is_exec tid k.request || (is_prepare tid k.request && is_last_of k.node k.request))) cs ≡ false
not_in_doubt tid [] fresh = refl
not_in_doubt tid (k ∷ cs) fresh =
    let parts = split (is_try tid k.request) (list_any (names_tid tid) cs) fresh in
    ap (λ b. b || list_any (λ (c : Call). is_stopped c.reply && (is_exec tid c.request || (is_prepare tid c.request && is_last_of c.node c.request))) cs)
    (ap (λ b. is_stopped k.reply && (b || (is_prepare tid k.request && is_last_of k.node k.request))) (exec_of_try tid k.request parts.0)
    ∙ (ap (λ b. is_stopped k.reply && (b && is_last_of k.node k.request)) (prepare_of_try tid k.request parts.0) ∙ and_false (is_stopped k.reply)))
    ∙ not_in_doubt tid cs parts.1
  where
    split : (a b : Bool) → (a || b) ≡ false → (a ≡ false) × (b ≡ false)
    split true b e = absurd cc
    split false b e = (refl, e)

issue_first : (tid : Tid) (mini : Mini) (rest : List Issued) → issue_named tid (record { tid = tid; mini = mini } ∷ rest) ≡ Some mini
issue_first tid mini rest = ap (λ b. if b then Some mini else issue_named tid rest) (tid_same-refl tid)

none_below : (i k : ℕ) → k ≡ 0 → nat_lt i k ≡ false
none_below i k e = le-ltb i k (omega arith)

pub issues_agree : IssuesAgree
issues_agree es e c fresh some long zero_done open_still quiet undecided none what = record {
  now = ap (λ (l : List Entry). issue_named c.tid (issues_of l)) (ap (λ (w : What). since_begin_after w e (since_begin es)) what)
      ∙ (ap (λ (w : What). issue_named c.tid (issue_in w ++ issues_of (since_begin es))) what ∙ issue_first c.tid c.mini (issues_of (since_begin es)));
  ever = ap (λ (w : What). issue_named c.tid (issue_in w ++ issues_of es)) what ∙ issue_first c.tid c.mini (issues_of es);
  some = some;
  within = subst (λ (o : Option NodeReply). MatchOption o (c.done ≤ count c) (λ reply. c.done < count c)) (sym open_still) (omega arith);
  untold = λ o. quiet;
  told = ap (λ (w : What). is_abandonment c.tid w || was_abandoned c.tid es) what ∙ (fresh.1 ∙ sym quiet);
  done = λ i l. tested (is_try c.tid) is_done (λ request h. h) i ∙ sym (none_below i c.done zero_done);
  votes = λ two i l below. absurd (omega arith);
  sent = λ o i l. tested (is_try c.tid) (λ r. true) (λ request h. h) i ∙ sym (none_below i c.done zero_done);
  stopped = λ i l. tested (is_try c.tid) is_stopped (λ request h. h) i ∙ sym (ap (λ (o : Option NodeReply). nat_eq i c.done && has_stopped o) open_still ∙ and_false (nat_eq i c.done));
  doubt = ap (list_any (λ (k : Call). is_stopped k.reply && (is_exec c.tid k.request || (is_prepare c.tid k.request && is_last_of k.node k.request)))) (same_calls es e none)
      ∙ (not_in_doubt c.tid (calls_of es) fresh.0 ∙ sym (ap (is_doubtful (count c) c.done) open_still));
  answers = record {
    long = long;
    read = λ i low. absurd (omega (arith, zero_done));
    failed = subst (λ (o : Option NodeReply). MatchOption o ⊤ (λ reply. (reply ≡ Say.NoMemory → ⊥) → Contains (calls_of (since_begin (e ∷ es))) (answer_of c.tid c.mini c.done reply))) (sym open_still) tt;
  };
  tries = tries_same es e c.tid c.mini c.done c.refused (same_calls es e none) (tries_fresh es c.tid c.mini c.done c.refused fresh.0);
  given_up = ap (was_abandoned c.tid) (ap (λ (w : What). since_begin_after w e (since_begin es)) what)
      ∙ (ap (λ (w : What). is_abandonment c.tid w || was_abandoned c.tid (since_begin es)) what
      ∙ (falsely (was_abandoned c.tid (since_begin es)) (λ was. clash (was_abandoned c.tid es) (since_abandoned es c.tid was) fresh.1) ∙ sym quiet));
  decided = λ i l below. absurd (omega (arith, undecided));
}
  where
    tested : (t : Request → Bool) (say : NodeReply → Bool) → ((request : Request) → is_try c.tid request ≡ false → t request ≡ false) → (i : ℕ) → was_told t say (participant c i) (e ∷ es) ≡ false
    tested t say within i =
        ap (list_any (λ (k : Call). node_same k.node (participant c i) && (t k.request && say k.reply))) (same_calls es e none) ∙ untried t say c.tid (participant c i) (calls_of es) within fresh.0

-- A request that is handed out

pub handed_out_agrees : (es : List Entry) (c : Coordination) → Agrees es c → (step_of c ≡ Abandon → ⊥) → Agrees es (after_step c (step_of c))
handed_out_agrees es c a other = by (step_of c) other
  where
    out : Agrees es (record c { asked = true })
    out = record { now = a.now; ever = a.ever; some = a.some; within = a.within; untold = a.untold; told = a.told; done = a.done; votes = a.votes; sent = a.sent; stopped = a.stopped; doubt = a.doubt; answers = a.answers; tries = a.tries; given_up = a.given_up; decided = a.decided }

    by : (step : CoordStep) → (step ≡ Abandon → ⊥) → Agrees es (after_step c step)
    by (Send node request) o = out
    by Abandon o = absurd (o refl)
    by Committed o = a
    by (Failed node) o = a
    by (Doubt node) o = a

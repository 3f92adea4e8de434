-- The call that a proxy has out is a Prepare or an Exec of a plan just where its client's own list
-- shows that such a call is due.
use Rattle.std.proofs.Common.{◌≡◌, ℕ, zero, suc, ◌<◌, ◌≤◌, Bool, true, false, not, ◌&&◌, ◌||◌, nat_lt, nat_eq, IsTrue, Option, Some, None, List, [], ◌∷◌, ◌++◌, length, refl, sym, ap, ◌∙◌, arith, if◌then◌else◌, slice_index_or, ⊎_elim}
use Rattle.std.proofs.lemmas.Bool.{lt-ltb, le-ltb}
use Rattle.std.specs.List.{list_all, list_any}
use Rattle.mn_base.specs.declared.ids.NodeNo.{NodeNo}
use Rattle.mn_base.specs.declared.ids.Tid.{Tid}
use Rattle.mn_base.proofs.Booleans.{and_false, left_true, right_true}
use Rattle.mn_mini.specs.declared.reply.NodeReply.{NodeReply}
use Rattle.mn_mini.specs.declared.reply.NodeReply.TheVariants as Say
use Rattle.mn_mini.specs.declared.request.Request.{Request}
use Rattle.mn_mini.specs.declared.request.Request.TheVariants as Ask
use Rattle.mn_mini.specs.Mini.{Mini, participants_of, part_of, is_read}
use Rattle.mn_coord.specs.declared.stage.Stage.{Stage}
use Rattle.mn_coord.specs.declared.stage.Stage.TheVariants as At
use Rattle.mn_coord.specs.declared.step.CoordStep.TheVariants.{Send}
use Rattle.mn_coord.specs.Coordination.{Coordination, is_stopped_at_last, participant, stage_in, stage_of, step_at, step_of, try_request}
use Rattle.mn_coord.specs.Legal.{Agrees as CoordAgrees, IsAnswerOf}
use Rattle.mn_coord.proofs.Legal.{commits}
use Rattle.mn_coord.proofs.Stages.{asking}
use Rattle.mn_coord.proofs.Tries.{none_since}
use Rattle.mn_hist.specs.Points.{may_stop}
use Rattle.mn_runs.specs.declared.entry.Entry.{Entry}
use Rattle.mn_runs.specs.declared.entry.What.{What}
use Rattle.mn_runs.specs.declared.entry.What.TheVariants.{Begin, Issue, Called, Stopped, Restarted, Abandoned, Answered}
use Rattle.mn_runs.specs.Calls.{Call, Issued, is_done, is_exec, is_prepare, is_refused, is_try, issue_in, issues_of, since_begin, since_begin_after, was_abandoned, was_done, was_sent, was_told_somewhere}
use Rattle.mn_runs.specs.Clients.{is_given_up, is_over}
use Rattle.mn_law.specs.Answers.{is_settled}
use Rattle.mn_proxy.specs.declared.errand.Errand.{Errand}
use Rattle.mn_proxy.specs.declared.errand.Errand.TheVariants as out
use Rattle.mn_work.specs.declared.work.Work.{Work}
use Rattle.mn_proxy.specs.Agrees.{Agrees, HasOut, HasOutIn, MiniAgrees, WorksBy}
use Rattle.mn_proxy.specs.Issues.{are_closed, is_closed}
use Rattle.mn_proxy.specs.State.{ProxyState}
use Rattle.mn_callers.specs.Acts.{is_first_to_be_sent, is_plan_due, is_to_be_sent}
use Rattle.mn_callers.specs.Clients.{is_plan_first}

-- Booleans

two : {X Y Z : Type 0} (f : X → Y → Z) {x x' : X} {y y' : Y} → x ≡ x' → y ≡ y' → f x y ≡ f x' y'
two f {x} {x'} {y} {y'} e g = ap (λ z. f z y) e ∙ ap (λ z. f x' z) g

-- Lists by index

zero_node : NodeNo
zero_node = record { 0 = 0 }

all_at : (f : NodeNo → Bool) (ps : List NodeNo) → ((i : ℕ) → i < length ps → f (slice_index_or ps i (record { 0 = 0 })) ≡ true) → list_all f ps ≡ true
all_at f [] is = refl
all_at f (p ∷ ps) is = two (λ a b. a && b) (is 0 (omega arith)) (all_at f ps (λ i lt. is (suc i) (omega (arith, lt))))

any_at : (f : NodeNo → Bool) (ps : List NodeNo) (i : ℕ) → i < length ps → f (slice_index_or ps i (record { 0 = 0 })) ≡ true → list_any f ps ≡ true
any_at f [] i lt is = absurd (omega (arith, lt))
any_at f (p ∷ ps) zero lt is = ap (λ b. b || list_any f ps) is
any_at f (p ∷ ps) (suc i) lt is = by (f p) (any_at f ps i (omega (arith, lt)) is)
  where
    by : (b : Bool) → list_any f ps ≡ true → (b || list_any f ps) ≡ true
    by true e = refl
    by false e = e

none_at : (f : NodeNo → Bool) (ps : List NodeNo) → ((i : ℕ) → i < length ps → f (slice_index_or ps i (record { 0 = 0 })) ≡ false) → list_any f ps ≡ false
none_at f [] is = refl
none_at f (p ∷ ps) is = two (λ a b. a || b) (is 0 (omega arith)) (none_at f ps (λ i lt. is (suc i) (omega (arith, lt))))

-- What is over

closed_is_not_due : (es now : List Entry) (is : List Issued) → IsTrue (are_closed now is) → is_first_to_be_sent es now is ≡ false
closed_is_not_due es now [] closed = refl
closed_is_not_due es now (i ∷ is) closed =
    let this : is_closed now i ≡ true = left_true (is_closed now i) (list_all (is_closed now) is) closed in
    by (is_read i.mini.items) (is_over now i) (left_true (is_over now i) (is_read i.mini.items || (is_given_up now i && is_settled now i)) this)
  where
    by : (a b : Bool) → b ≡ true → (not a && (not (b || was_abandoned i.tid now)
        && (list_all (λ n. not (was_sent i.tid n es) || was_done i.tid n es) (participants_of i.mini)
        && list_any (λ n. not (was_sent i.tid n es)) (participants_of i.mini)))) ≡ false
    by true b e = refl
    by false true e = refl
    by false false e = absurd cc

-- The newest issue

pub record IsNewest (es : List Entry) (i : Issued) : Type 0 where
  pub rest : List Issued
  pub is : issues_of es ≡ i ∷ rest

newest : (es : List Entry) (i : Issued) (is : List Issued) → issues_of (since_begin es) ≡ i ∷ is → IsNewest es i
newest [] i is e = absurd cc
newest (e ∷ es) i is same = by e.what refl same (newest es i is)
  where
    onward : (w : What) → e.what ≡ w → issue_in w ≡ [] → issues_of (e ∷ since_begin es) ≡ i ∷ is → (issues_of (since_begin es) ≡ i ∷ is → IsNewest es i) → IsNewest (e ∷ es) i
    onward w at none same deep =
        let front : issue_in e.what ≡ [] = ap issue_in at ∙ none in
        let found : IsNewest es i = deep (ap (λ (l : List Issued). l ++ issues_of (since_begin es)) (sym front) ∙ same) in
        record { rest = found.rest; is = ap (λ (l : List Issued). l ++ issues_of es) front ∙ found.is }

    by : (w : What) → e.what ≡ w → issues_of (since_begin_after e.what e (since_begin es)) ≡ i ∷ is → (issues_of (since_begin es) ≡ i ∷ is → IsNewest es i) → IsNewest (e ∷ es) i
    by (Begin number op) at same deep =
        let none : issues_of (since_begin_after e.what e (since_begin es)) ≡ [] = ap (λ (w : What). issues_of (since_begin_after w e (since_begin es))) at in
        absurd (let bad : [] ≡ i ∷ is = sym none ∙ same in cc)
    by (Answered number answer) at same deep =
        let none : issues_of (since_begin_after e.what e (since_begin es)) ≡ [] = ap (λ (w : What). issues_of (since_begin_after w e (since_begin es))) at in
        absurd (let bad : [] ≡ i ∷ is = sym none ∙ same in cc)
    by (Issue tid mini) at same deep =
        let kept : issues_of (since_begin_after e.what e (since_begin es)) ≡ issues_of (e ∷ since_begin es) = ap (λ (w : What). issues_of (since_begin_after w e (since_begin es))) at in
        let front : issue_in e.what ≡ record { tid = tid; mini = mini } ∷ [] = ap issue_in at in
        let whole : record { tid = tid; mini = mini } ∷ issues_of (since_begin es) ≡ i ∷ is = ap (λ (l : List Issued). l ++ issues_of (since_begin es)) (sym front) ∙ (sym kept ∙ same) in
        let head : record { tid = tid; mini = mini } ≡ i = cc in
        record { rest = issues_of es; is = ap (λ (l : List Issued). l ++ issues_of es) front ∙ ap (λ (j : Issued). j ∷ issues_of es) head }
    by (Called request reply) at same deep = onward (Called request reply) at refl (sym (ap (λ (w : What). issues_of (since_begin_after w e (since_begin es))) at) ∙ same) deep
    by (Stopped request asked) at same deep = onward (Stopped request asked) at refl (sym (ap (λ (w : What). issues_of (since_begin_after w e (since_begin es))) at) ∙ same) deep
    by (Restarted kept) at same deep = onward (Restarted kept) at refl (sym (ap (λ (w : What). issues_of (since_begin_after w e (since_begin es))) at) ∙ same) deep
    by (Abandoned tid) at same deep = onward (Abandoned tid) at refl (sym (ap (λ (w : What). issues_of (since_begin_after w e (since_begin es))) at) ∙ same) deep

-- A coordinator's request

try_may_stop : (tid : Tid) (mini : Mini) (n : NodeNo) → may_stop (try_request tid mini n) ≡ true
try_may_stop tid mini n = by (nat_eq (length (participants_of mini)) 1)
  where
    by : (b : Bool) → may_stop (if b then Ask.Exec tid (part_of mini n) else Ask.Prepare tid (participants_of mini) (part_of mini n)) ≡ true
    by true = refl
    by false = refl

told_none : (n done : ℕ) (refused : Option NodeReply) (told : Bool) (decided : ℕ) → stage_of n done refused told decided ≡ At.Cancel → told ≡ true
told_none n done None told decided e = absurd (other (nat_lt done n) (nat_lt 1 n && nat_lt decided n) e)
  where
    other : (a b : Bool) → (if a then At.Ask else (if b then At.Commit else At.Committed)) ≡ At.Cancel → ⊥
    other true b g = absurd cc
    other false true g = absurd cc
    other false false g = absurd cc
told_none n done (Some reply) told decided e = other (is_stopped_at_last n done reply) (nat_eq n 1) told (nat_lt decided done) e
  where
    other : (a b t d : Bool) → (if a then At.Doubt else (if b then At.Failed else (if not t then At.Abandon else (if d then At.Cancel else At.Failed)))) ≡ At.Cancel → t ≡ true
    other true b t d g = absurd cc
    other false true t d g = absurd cc
    other false false false d g = absurd cc
    other false false true d g = refl

module _ (es : List Entry) (c : Coordination) (a : CoordAgrees es c) where
  abbrev now : List Entry
  now = since_begin es

  abbrev this : Issued
  this = record { tid = c.tid; mini = c.mini }

  sent_as : c.refused ≡ None → (i : ℕ) → i < length (participants_of c.mini) → was_sent c.tid (slice_index_or (participants_of c.mini) i (record { 0 = 0 })) es ≡ nat_lt i c.done
  sent_as none i lt = a.sent none i lt

  done_as : (i : ℕ) → i < length (participants_of c.mini) → was_done c.tid (slice_index_or (participants_of c.mini) i (record { 0 = 0 })) es ≡ nat_lt i c.done
  done_as i lt = a.done i lt

  sent_is_done : c.refused ≡ None → list_all (λ n. not (was_sent c.tid n es) || was_done c.tid n es) (participants_of c.mini) ≡ true
  sent_is_done none = all_at (λ n. not (was_sent c.tid n es) || was_done c.tid n es) (participants_of c.mini) (λ i lt. two (λ s d. not s || d) (sent_as none i lt) (done_as i lt) ∙ by (nat_lt i c.done))
    where
      by : (b : Bool) → (not b || b) ≡ true
      by true = refl
      by false = refl

  one_is_left : c.refused ≡ None → c.done < length (participants_of c.mini) → list_any (λ n. not (was_sent c.tid n es)) (participants_of c.mini) ≡ true
  one_is_left none lt = any_at (λ n. not (was_sent c.tid n es)) (participants_of c.mini) c.done lt (ap not (sent_as none c.done lt ∙ le-ltb c.done c.done (omega arith)))

  none_is_left : c.refused ≡ None → length (participants_of c.mini) ≤ c.done → list_any (λ n. not (was_sent c.tid n es)) (participants_of c.mini) ≡ false
  none_is_left none le = none_at (λ n. not (was_sent c.tid n es)) (participants_of c.mini) (λ i lt. ap not (sent_as none i lt ∙ lt-ltb i c.done (omega (arith, lt, le))))

  not_refused : c.refused ≡ None → was_told_somewhere (is_exec c.tid) is_refused now ≡ false
  not_refused none = none_since (λ (k : Call). is_exec c.tid k.request && is_refused k.reply) es (λ call there is. by call (a.tries call there (exec_tries call.request (left_true (is_exec c.tid call.request) (is_refused call.reply) is))) (right_true (is_exec c.tid call.request) (is_refused call.reply) is))
    where
      exec_tries : (r : Request) → is_exec c.tid r ≡ true → is_try c.tid r ≡ true
      exec_tries r e = put (is_prepare c.tid r) e
        where
          put : (p : Bool) → is_exec c.tid r ≡ true → (p || is_exec c.tid r) ≡ true
          put true e = refl
          put false e = e

      clash : (r : NodeReply) → is_refused r ≡ true → is_done r ≡ true → ⊥
      clash (Say.Done reads) e f = absurd cc
      clash (Say.BadLock start size holder) e f = absurd cc
      clash (Say.BadCompare item found) e f = absurd cc
      clash Say.BadForced e f = absurd cc
      clash (Say.Vote vote) e f = absurd cc
      clash Say.Decided e f = absurd cc
      clash (Say.Listed doubts) e f = absurd cc
      clash (Say.Peeked bytes) e f = absurd cc
      clash Say.Down e f = absurd cc
      clash Say.Stopped e f = absurd cc
      clash Say.NoMemory e f = absurd cc

      by : (call : Call) → IsAnswerOf c.tid c.mini c.done c.refused call → is_refused call.reply ≡ true → ⊥
      by call answer is = ⊎_elim (λ said. clash call.reply is said.1) (λ said. let bad : None ≡ Some call.reply = sym none ∙ said.0 in absurd cc) answer.said

  -- whether a request of it is a try, where it is no read
  due_by : is_read c.mini.items ≡ false → (stage : Stage) (n : NodeNo) (r : Request) → stage_in c ≡ stage → step_at c stage ≡ Send n r → may_stop r ≡ is_to_be_sent es now this
  due_by unread At.Ask n r at step =
      let asked : (c.refused ≡ None) × (c.done < length (participants_of c.mini)) = asking (length (participants_of c.mini)) c.done c.refused c.told c.decided at in
      let request : try_request c.tid c.mini (participant c c.done) ≡ r = cc in
      let untold : was_abandoned c.tid now ≡ false = a.given_up ∙ a.untold asked.0 in
      (ap may_stop (sym request) ∙ try_may_stop c.tid c.mini (participant c c.done))
      ∙ sym (by _ _ _ _ _ _ _ unread untold (not_refused asked.0) (sent_is_done asked.0) (one_is_left asked.0 asked.1))
    where
      by : (x y read given refused all any : Bool) → read ≡ false → given ≡ false → refused ≡ false → all ≡ true → any ≡ true
          → (not read && (not (((given && x) || (refused || (read && y))) || given) && (all && any))) ≡ true
      by x y false false false true true e f g h i = refl
      by x y true given refused all any e f g h i = absurd cc
      by x y false true refused all any e f g h i = absurd cc
      by x y false false true all any e f g h i = absurd cc
      by x y false false false false any e f g h i = absurd cc
      by x y false false false true false e f g h i = absurd cc
  due_by unread At.Commit n r at step =
      let facts = commits (length (participants_of c.mini)) c.done c.refused c.told c.decided at in
      let request : Ask.Decide c.tid true ≡ r = cc in
      ap may_stop (sym request) ∙ sym (by (is_read c.mini.items) (is_over now this || was_abandoned c.tid now) (list_all (λ m. not (was_sent c.tid m es) || was_done c.tid m es) (participants_of c.mini)) _ (none_is_left facts.0 facts.1))
    where
      by : (p q s any : Bool) → any ≡ false → (not p && (not q && (s && any))) ≡ false
      by true q s any e = refl
      by false true s any e = refl
      by false false true any e = e
      by false false false any e = refl
  due_by unread At.Cancel n r at step =
      let told : c.told ≡ true = told_none (length (participants_of c.mini)) c.done c.refused c.told c.decided at in
      let request : Ask.Decide c.tid false ≡ r = cc in
      ap may_stop (sym request) ∙ sym (by (is_read c.mini.items) (is_over now this) (was_abandoned c.tid now) _ (a.given_up ∙ told))
    where
      by : (p q given rest : Bool) → given ≡ true → (not p && (not (q || given) && rest)) ≡ false
      by true q given rest e = refl
      by false true given rest e = refl
      by false false true rest e = refl
      by false false false rest e = absurd cc
  due_by unread At.Abandon n r at step = absurd cc
  due_by unread At.Committed n r at step = absurd cc
  due_by unread At.Failed n r at step = absurd cc
  due_by unread At.Doubt n r at step = absurd cc

  due_if : (read : Bool) → is_read c.mini.items ≡ read → (n : NodeNo) (r : Request) → step_of c ≡ Send n r → (may_stop r && not read) ≡ is_to_be_sent es now this
  due_if true is n r step = and_false (may_stop r) ∙ sym (ap (λ b. not b && (not (is_over now this || was_abandoned c.tid now)
      && (list_all (λ m. not (was_sent c.tid m es) || was_done c.tid m es) (participants_of c.mini)
      && list_any (λ m. not (was_sent c.tid m es)) (participants_of c.mini)))) is)
  due_if false is n r step = by (may_stop r) ∙ due_by is (stage_in c) n r refl step
    where
      by : (b : Bool) → (b && true) ≡ b
      by true = refl
      by false = refl

-- The whole

pub plan_is_due : (es : List Entry) (p : ProxyState) (n : NodeNo) (r : Request) → Agrees es p → HasOut p n r → (may_stop r && is_plan_first (issues_of es)) ≡ is_plan_due es
plan_is_due es p n r agrees sent = by p.work agrees.1 sent
  where
    by : (o : Option (Work × Errand)) → WorksBy es p o → HasOutIn o n r → (may_stop r && is_plan_first (issues_of es)) ≡ is_plan_due es
    by None works sent = absurd sent
    by (Some (w, out.Nothing)) works sent = absurd sent
    by (Some (w, out.Peeked place reply purpose)) works sent = absurd sent
    by (Some (w, out.Peek place purpose)) works sent =
        ap (λ (q : Request). may_stop q && is_plan_first (issues_of es)) sent.1
        ∙ sym (closed_is_not_due es (since_begin es) (issues_of (since_begin es)) works.0.1)
    by (Some (w, out.Mini tid c purpose)) works sent =
        let m : MiniAgrees es p.known w tid c purpose = works in
        let i : Issued = record { tid = c.tid; mini = c.mini } in
        let last : issues_of (since_begin es) ≡ i ∷ m.last.earlier = m.last.of_operation ∙ ap (λ (t : Tid). record { tid = t; mini = c.mini } ∷ m.last.earlier) (sym m.id) in
        let whole : IsNewest es i = newest es i m.last.earlier last in
        ap (λ (l : List Issued). may_stop r && is_plan_first l) whole.is
        ∙ (due_if es c m.coordinates (is_read c.mini.items) refl n r sent.1
        ∙ ap (λ (l : List Issued). is_first_to_be_sent es (since_begin es) l) (sym last))

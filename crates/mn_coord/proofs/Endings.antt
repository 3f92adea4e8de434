-- What a client's list shows once a coordinator has ended.
use Rattle.std.proofs.Common.{◌≡◌, ◌⊎◌, inl, inr, ℕ, zero, suc, ◌+◌, ◌<◌, ◌≤◌, Bool, true, false, not, ◌&&◌, ◌||◌, List, [], ◌∷◌, length, Option, Some, None, refl, sym, ap, subst, ◌∙◌, arith, Contains, if◌then◌else◌}
use Rattle.std.specs.Prelude.{nat_lt, nat_eq, MatchOption, IsTrue, slice_index_or, filter, cond, ⊤}
use Rattle.std.specs.List.{AllByRecursion, list_any, list_all}
use Rattle.std.proofs.lemmas.Bool.{eq-eqb, eqb-true, ltb-true, ltb-false, lt-ltb}
use Rattle.mn_base.specs.Ids.{node_same, node_numbers}
use Rattle.mn_base.specs.declared.ids.NodeNo.{NodeNo}
use Rattle.mn_base.specs.declared.ids.Tid.{Tid}
use Rattle.mn_base.proofs.Booleans.{both_parts, both_true, clash, falsely, left_true, right_true, or_cases, or_left, or_right}
use Rattle.mn_mini.specs.declared.item.Item.{Item}
use Rattle.mn_mini.specs.declared.item.Item.TheVariants.{Compare, Read, Write}
use Rattle.mn_mini.specs.declared.request.Request.{Request}
use Rattle.mn_mini.specs.declared.request.Request.TheVariants as Ask
use Rattle.mn_mini.specs.declared.reply.NodeReply.{NodeReply}
use Rattle.mn_mini.specs.declared.reply.NodeReply.TheVariants as Say
use Rattle.mn_mini.specs.Mini.{Mini, is_named, participants_of, part_of, is_read}
use Rattle.mn_mini.specs.Sound.{Fits}
use Rattle.mn_runs.specs.declared.entry.Entry.{Entry}
use Rattle.mn_runs.specs.Clients.{is_given_up, is_over}
use Rattle.mn_law.specs.Answers.{is_refusal, is_any_decide, is_any_prepare}
use Rattle.mn_law.specs.Answers.{is_down_cause, is_doubt_cause}
use Rattle.mn_runs.specs.Calls.{Call, calls_of, is_prepare, is_exec, is_try, is_done, is_refused, is_stopped, is_down_reply, is_last_of, was_told, was_told_somewhere, was_done, was_decided, since_begin}
use Rattle.mn_runs.proofs.Since.{since_told}
use Rattle.mn_runs.proofs.Same.{tid_same-refl}
use Rattle.mn_coord.specs.declared.stage.Stage.{Stage}
use Rattle.mn_coord.specs.declared.stage.Stage.TheVariants as At
use Rattle.mn_coord.specs.declared.step.CoordStep.TheVariants.{Committed, Failed, Doubt}
use Rattle.mn_coord.specs.Coordination.{Coordination, is_stopped_at_last, stage_of, stage_refused, stage_in, participant, try_request, step_at, step_of}
use Rattle.mn_coord.specs.Legal.{Agrees, IsAnswerOf, answer_of, node_of}
use Rattle.mn_coord.specs.Endings.{DoneIsSettled, FailedIsGivenUp, DoubtIsShown, issue_for}
use Rattle.mn_coord.proofs.Order.{Ascending, at, last_at, participants_ascend}
use Rattle.mn_coord.proofs.Tries.{any_there, none_since}
use Rattle.mn_coord.proofs.Legal.{not_last, try_is}

abbrev count : Coordination → ℕ
count c = length (participants_of c.mini)

-- What the last stages say

-- it is committed
committed_none : (n done decided : ℕ) → (if nat_lt done n then At.Ask else (if nat_lt 1 n && nat_lt decided n then At.Commit else At.Committed)) ≡ At.Committed → (n ≤ done) × ((n ≤ 1) ⊎ (n ≤ decided))
committed_none n done decided e = by (nat_lt done n) refl (nat_lt 1 n) refl (nat_lt decided n) refl e
  where
    by : (a : Bool) → nat_lt done n ≡ a → (b : Bool) → nat_lt 1 n ≡ b → (d : Bool) → nat_lt decided n ≡ d
        → (if a then At.Ask else (if b && d then At.Commit else At.Committed)) ≡ At.Committed → (n ≤ done) × ((n ≤ 1) ⊎ (n ≤ decided))
    by true p b q d r f = absurd cc
    by false p false q d r f = (ltb-false done n p, inl (ltb-false 1 n q))
    by false p true q false r f = (ltb-false done n p, inr (ltb-false decided n r))
    by false p true q true r f = absurd cc

committed_by : (n done : ℕ) (refused : Option NodeReply) (told : Bool) (decided : ℕ) → stage_of n done refused told decided ≡ At.Committed → (refused ≡ None) × (n ≤ done) × ((n ≤ 1) ⊎ (n ≤ decided))
committed_by n done None told decided e = (refl, facts.0, facts.1)
  where
    facts : (n ≤ done) × ((n ≤ 1) ⊎ (n ≤ decided))
    facts = committed_none n done decided e
committed_by n done (Some reply) told decided e = absurd (other (is_stopped_at_last n done reply) (nat_eq n 1) (not told) (nat_lt decided done) e)
  where
    other : (a b c d : Bool) → (if a then At.Doubt else (if b then At.Failed else (if c then At.Abandon else (if d then At.Cancel else At.Failed)))) ≡ At.Committed → ⊥
    other true b c d f = absurd cc
    other false true c d f = absurd cc
    other false false true d f = absurd cc
    other false false false true f = absurd cc
    other false false false false f = absurd cc

-- it failed: alone, or abandoned with all decisions sent
failed_by : (n done : ℕ) (reply : NodeReply) (told : Bool) (decided : ℕ) → stage_refused n done reply told decided ≡ At.Failed
    → (is_stopped_at_last n done reply ≡ false) × ((nat_eq n 1 ≡ true) ⊎ ((nat_eq n 1 ≡ false) × (told ≡ true) × (done ≤ decided)))
failed_by n done reply told decided e = by (is_stopped_at_last n done reply) refl (nat_eq n 1) refl told refl (nat_lt decided done) refl e
  where
    by : (a : Bool) → is_stopped_at_last n done reply ≡ a → (b : Bool) → nat_eq n 1 ≡ b → (c : Bool) → told ≡ c → (d : Bool) → nat_lt decided done ≡ d
        → (if a then At.Doubt else (if b then At.Failed else (if not c then At.Abandon else (if d then At.Cancel else At.Failed)))) ≡ At.Failed
        → (is_stopped_at_last n done reply ≡ false) × ((nat_eq n 1 ≡ true) ⊎ ((nat_eq n 1 ≡ false) × (told ≡ true) × (done ≤ decided)))
    by true p b q c r d s f = absurd cc
    by false p true q c r d s f = (p, inl q)
    by false p false q false r d s f = absurd cc
    by false p false q true r true s f = absurd cc
    by false p false q true r false s f = (p, inr (q, r, ltb-false decided done s))

-- it is in doubt: the last one stopped
doubted_by : (n done : ℕ) (refused : Option NodeReply) (told : Bool) (decided : ℕ) → stage_of n done refused told decided ≡ At.Doubt → (refused ≡ Some Say.Stopped) × (nat_eq (done + 1) n ≡ true)
doubted_by n done None told decided e = absurd (other (nat_lt done n) (nat_lt 1 n && nat_lt decided n) e)
  where
    other : (a b : Bool) → (if a then At.Ask else (if b then At.Commit else At.Committed)) ≡ At.Doubt → ⊥
    other true b f = absurd cc
    other false true f = absurd cc
    other false false f = absurd cc
doubted_by n done (Some reply) told decided e = of reply (by (is_stopped_at_last n done reply) refl (nat_eq n 1) (not told) (nat_lt decided done) e)
  where
    by : (a : Bool) → is_stopped_at_last n done reply ≡ a → (b c d : Bool) → (if a then At.Doubt else (if b then At.Failed else (if c then At.Abandon else (if d then At.Cancel else At.Failed)))) ≡ At.Doubt → is_stopped_at_last n done reply ≡ true
    by true p b c d f = p
    by false p true c d f = absurd cc
    by false p false true d f = absurd cc
    by false p false false true f = absurd cc
    by false p false false false f = absurd cc

    of : (r : NodeReply) → is_stopped_at_last n done r ≡ true → (Some r ≡ Some Say.Stopped) × (nat_eq (done + 1) n ≡ true)
    of Say.Stopped f = (refl, f)
    of (Say.Done reads) f = absurd cc
    of (Say.BadLock s k h) f = absurd cc
    of (Say.BadCompare i found) f = absurd cc
    of Say.BadForced f = absurd cc
    of (Say.Vote v) f = absurd cc
    of Say.Decided f = absurd cc
    of (Say.Listed d) f = absurd cc
    of (Say.Peeked b) f = absurd cc
    of Say.Down f = absurd cc
    of Say.NoMemory f = absurd cc

pub committed_at : (c : Coordination) → step_of c ≡ Committed → stage_in c ≡ At.Committed
committed_at c step = by (stage_in c) refl step
  where
    by : (stage : Stage) → stage_in c ≡ stage → step_at c stage ≡ Committed → stage_in c ≡ At.Committed
    by At.Ask s f = absurd cc
    by At.Commit s f = absurd cc
    by At.Abandon s f = absurd cc
    by At.Cancel s f = absurd cc
    by At.Committed s f = s
    by At.Failed s f = absurd cc
    by At.Doubt s f = absurd cc

pub failed_at : (c : Coordination) (node : NodeNo) → step_of c ≡ Failed node → (stage_in c ≡ At.Failed) × (participant c c.done ≡ node)
failed_at c node step = by (stage_in c) refl step
  where
    by : (stage : Stage) → stage_in c ≡ stage → step_at c stage ≡ Failed node → (stage_in c ≡ At.Failed) × (participant c c.done ≡ node)
    by At.Ask s f = absurd cc
    by At.Commit s f = absurd cc
    by At.Abandon s f = absurd cc
    by At.Cancel s f = absurd cc
    by At.Committed s f = absurd cc
    by At.Failed s f = (s, cc)
    by At.Doubt s f = absurd cc

doubted_at : (c : Coordination) (node : NodeNo) → step_of c ≡ Doubt node → (stage_in c ≡ At.Doubt) × (participant c c.done ≡ node)
doubted_at c node step = by (stage_in c) refl step
  where
    by : (stage : Stage) → stage_in c ≡ stage → step_at c stage ≡ Doubt node → (stage_in c ≡ At.Doubt) × (participant c c.done ≡ node)
    by At.Ask s f = absurd cc
    by At.Commit s f = absurd cc
    by At.Abandon s f = absurd cc
    by At.Cancel s f = absurd cc
    by At.Committed s f = absurd cc
    by At.Failed s f = absurd cc
    by At.Doubt s f = (s, cc)

-- Participants

-- what each number passes, each participant passes
all_of_numbers : (t : NodeNo → Bool) (ps : List NodeNo) → ((i : ℕ) → i < length ps → t (at ps i) ≡ true) → list_all t ps ≡ true
all_of_numbers t [] each = refl
all_of_numbers t (p ∷ ps) each = both_true (t p) (list_all t ps) (each zero (omega arith)) (all_of_numbers t ps (λ i low. each (suc i) (omega arith)))

-- what a test left passes it
all_named : (t : NodeNo → Bool) (ns : List NodeNo) → AllByRecursion (λ n. t n ≡ true) (filter t ns)
all_named t [] = tt
all_named t (n ∷ ns) = by (t n) refl (all_named t ns)
  where
    by : (b : Bool) → t n ≡ b → AllByRecursion (λ m. t m ≡ true) (filter t ns) → AllByRecursion (λ m. t m ≡ true) (cond b (n ∷ filter t ns) (filter t ns))
    by true f rest = (f, rest)
    by false f rest = rest

-- a read has at most one
reads_one : (mini : Mini) → is_read mini.items ≡ true → length (participants_of mini) ≤ 1
reads_one mini e = of_items mini.items e (participants_of mini) (participants_ascend mini) (all_named (is_named mini.items) (node_numbers mini.nodes))
  where
    alone : (m p : NodeNo) → (node_same m p || false) ≡ true → m.0 ≡ p.0
    alone m p f = by (node_same m p) refl f
      where
        by : (b : Bool) → node_same m p ≡ b → (b || false) ≡ true → m.0 ≡ p.0
        by true g h = eqb-true m.0 p.0 g
        by false g h = absurd cc

    few : (m : NodeNo) (ps : List NodeNo) → Ascending ps → AllByRecursion (λ p. (node_same m p || false) ≡ true) ps → length ps ≤ 1
    few m [] asc all = omega arith
    few m (p ∷ []) asc all = omega arith
    few m (p ∷ (q ∷ ps)) asc all =
        let one = alone m p all.0 in
        let two = alone m q (all.1).0 in
        let up = (asc.0).0 in absurd (omega arith)

    of_items : (items : List Item) → is_read items ≡ true → (ps : List NodeNo) → Ascending ps → AllByRecursion (λ n. is_named items n ≡ true) ps → length ps ≤ 1
    of_items [] r ps asc all = absurd cc
    of_items (Read m start size ∷ []) r ps asc all = few m ps asc all
    of_items (Read m start size ∷ (item ∷ items)) r ps asc all = absurd cc
    of_items (Compare m start bytes ∷ items) r ps asc all = absurd cc
    of_items (Write m start bytes ∷ items) r ps asc all = absurd cc

-- Requests

-- the one participant is sent an Exec
one_exec : (tid : Tid) (mini : Mini) (n : NodeNo) → nat_eq (length (participants_of mini)) 1 ≡ true → try_request tid mini n ≡ Ask.Exec tid (part_of mini n)
one_exec tid mini n e = ap (λ b. if b then Ask.Exec tid (part_of mini n) else Ask.Prepare tid (participants_of mini) (part_of mini n)) e

-- of several each is sent a Prepare
each_prepare : (tid : Tid) (mini : Mini) (n : NodeNo) → nat_eq (length (participants_of mini)) 1 ≡ false → try_request tid mini n ≡ Ask.Prepare tid (participants_of mini) (part_of mini n)
each_prepare tid mini n e = ap (λ b. if b then Ask.Exec tid (part_of mini n) else Ask.Prepare tid (participants_of mini) (part_of mini n)) e

try_no_decide : (tid : Tid) (mini : Mini) (n : NodeNo) → is_any_decide (try_request tid mini n) ≡ false
try_no_decide tid mini n = by (nat_eq (length (participants_of mini)) 1)
  where
    by : (b : Bool) → is_any_decide (if b then Ask.Exec tid (part_of mini n) else Ask.Prepare tid (participants_of mini) (part_of mini n)) ≡ false
    by true = refl
    by false = refl

-- the request of an answer
answer_request : (tid : Tid) (mini : Mini) (i : ℕ) (call : Call) → call ≡ answer_of tid mini i call.reply → call.request ≡ try_request tid mini (node_of mini i)
answer_request tid mini i call is = ap (λ (k : Call). k.request) is

-- a Prepare is a try
prepared_tried : (tid : Tid) (n : NodeNo) (cs : List Call) → list_any (λ (k : Call). node_same k.node n && (is_prepare tid k.request && is_done k.reply)) cs ≡ true
    → list_any (λ (k : Call). node_same k.node n && (is_try tid k.request && is_done k.reply)) cs ≡ true
prepared_tried tid n [] f = absurd cc
prepared_tried tid n (k ∷ cs) f = by (or_cases _ _ f) (prepared_tried tid n cs)
  where
    one : (node_same k.node n && (is_prepare tid k.request && is_done k.reply)) ≡ true → (node_same k.node n && (is_try tid k.request && is_done k.reply)) ≡ true
    one g =
        let parts = both_parts (node_same k.node n) _ g in
        let inner = both_parts (is_prepare tid k.request) (is_done k.reply) parts.1 in
        both_true _ _ parts.0 (both_true _ _ (or_left (is_prepare tid k.request) (is_exec tid k.request) inner.0) inner.1)

    by : ((node_same k.node n && (is_prepare tid k.request && is_done k.reply)) ≡ true) ⊎ (list_any (λ (m : Call). node_same m.node n && (is_prepare tid m.request && is_done m.reply)) cs ≡ true)
        → (list_any (λ (m : Call). node_same m.node n && (is_prepare tid m.request && is_done m.reply)) cs ≡ true → list_any (λ (m : Call). node_same m.node n && (is_try tid m.request && is_done m.reply)) cs ≡ true)
        → list_any (λ (m : Call). node_same m.node n && (is_try tid m.request && is_done m.reply)) (k ∷ cs) ≡ true
    by (inl here) rest = or_left _ _ (one here)
    by (inr there) rest = or_right _ _ (rest there)

module _ (es : List Entry) (c : Coordination) (a : Agrees es c) where
  -- of one participant the list has no Prepare
  no_prepares : nat_eq (count c) 1 ≡ true → (say : NodeReply → Bool) (n : NodeNo) → was_told (is_prepare c.tid) say n (since_begin es) ≡ false
  no_prepares one say n = none_since (λ (k : Call). node_same k.node n && (is_prepare c.tid k.request && say k.reply)) es never
    where
      never : (call : Call) → Contains (calls_of es) call → (node_same call.node n && (is_prepare c.tid call.request && say call.reply)) ≡ true → ⊥
      never call there e =
          let prepared = left_true (is_prepare c.tid call.request) (say call.reply) (right_true (node_same call.node n) _ e) in
          let own = a.tries call there (or_left (is_prepare c.tid call.request) (is_exec c.tid call.request) prepared) in
          let asked = answer_request c.tid c.mini own.number call own.is ∙ one_exec c.tid c.mini (node_of c.mini own.number) one in
          clash (is_prepare c.tid call.request) prepared (ap (is_prepare c.tid) asked)

  settled_at : (i : ℕ) → (was_told (is_prepare c.tid) is_done (participant c i) (since_begin es) ≡ true → was_decided c.tid (participant c i) (since_begin es) ≡ true)
      → (not (was_told (is_prepare c.tid) is_done (participant c i) (since_begin es)) || was_decided c.tid (participant c i) (since_begin es)) ≡ true
  settled_at i decided = by (was_told (is_prepare c.tid) is_done (participant c i) (since_begin es)) decided
    where
      by : (b : Bool) → (b ≡ true → was_decided c.tid (participant c i) (since_begin es) ≡ true) → (not b || was_decided c.tid (participant c i) (since_begin es)) ≡ true
      by true d = d refl
      by false d = refl

  -- one that voted yes was done
  voted : (i : ℕ) → i < count c → was_told (is_prepare c.tid) is_done (participant c i) (since_begin es) ≡ true → i < c.done
  voted i low e =
      let ever = since_told (λ (k : Call). node_same k.node (participant c i) && (is_prepare c.tid k.request && is_done k.reply)) es e in
      ltb-true i c.done (sym (a.done i low) ∙ prepared_tried c.tid (participant c i) (calls_of es) ever)

  -- where all that were done were told, or there is one participant, it is settled
  all_settled : ((nat_eq (count c) 1 ≡ true) ⊎ (c.done ≤ c.decided)) → list_all (λ n. not (was_told (is_prepare c.tid) is_done n (since_begin es)) || was_decided c.tid n (since_begin es)) (participants_of c.mini) ≡ true
  all_settled enough =
      all_of_numbers (λ n. not (was_told (is_prepare c.tid) is_done n (since_begin es)) || was_decided c.tid n (since_begin es)) (participants_of c.mini) (λ i low. settled_at i (by i low enough))
    where
      by : (i : ℕ) → i < count c → (nat_eq (count c) 1 ≡ true) ⊎ (c.done ≤ c.decided) → was_told (is_prepare c.tid) is_done (participant c i) (since_begin es) ≡ true → was_decided c.tid (participant c i) (since_begin es) ≡ true
      by i low (inl one) e = absurd (clash (was_told (is_prepare c.tid) is_done (participant c i) (since_begin es)) e (no_prepares one is_done (participant c i)))
      by i low (inr up) e = let below = voted i low e in a.decided i low (omega arith)

  -- a call of the one participant is found somewhere
  exec_there : (say : NodeReply → Bool) (i : ℕ) (reply : NodeReply) → nat_eq (count c) 1 ≡ true → Contains (calls_of (since_begin es)) (answer_of c.tid c.mini i reply) → say reply ≡ true
      → was_told_somewhere (is_exec c.tid) say (since_begin es) ≡ true
  exec_there say i reply one there said =
      any_there (λ (k : Call). is_exec c.tid k.request && say k.reply) (calls_of (since_begin es)) (answer_of c.tid c.mini i reply) there
      (both_true _ _ (ap (is_exec c.tid) (one_exec c.tid c.mini (node_of c.mini i) one) ∙ tid_same-refl c.tid) said)

-- Committed

pub done_is_settled : DoneIsSettled
done_is_settled es c a step = (all_done, settled, over)
  where
    facts : (c.refused ≡ None) × (count c ≤ c.done) × ((count c ≤ 1) ⊎ (count c ≤ c.decided))
    facts = committed_by (count c) c.done c.refused c.told c.decided (committed_at c step)

    most : c.done ≤ count c
    most = subst (λ (o : Option NodeReply). MatchOption o (c.done ≤ count c) (λ reply. c.done < count c)) facts.0 a.within

    all_done : list_all (λ n. was_done c.tid n es) (participants_of c.mini) ≡ true
    all_done = all_of_numbers (λ n. was_done c.tid n es) (participants_of c.mini) (λ i low. a.done i low ∙ lt-ltb i c.done (let up = facts.1 in omega arith))

    is_one : count c ≤ 1 → nat_eq (count c) 1 ≡ true
    is_one few = let some = a.some in eq-eqb (count c) 1 (omega arith)

    enough : (count c ≤ 1) ⊎ (count c ≤ c.decided) → (nat_eq (count c) 1 ≡ true) ⊎ (c.done ≤ c.decided)
    enough (inl few) = inl (is_one few)
    enough (inr up) = inr (let all = most in omega arith)

    settled : list_all (λ n. not (was_told (is_prepare c.tid) is_done n (since_begin es)) || was_decided c.tid n (since_begin es)) (participants_of c.mini) ≡ true
    settled = all_settled es c a (enough facts.2)

    over : is_read c.mini.items ≡ true → is_over (since_begin es) (issue_for c) ≡ true
    over read =
        let one = is_one (reads_one c.mini read) in
        let some = a.some in
        let up = facts.1 in
        let first : 0 < c.done = omega arith in
        or_right _ _ (or_right _ _ (both_true (is_read c.mini.items) _ read (exec_there es c a is_done 0 (Say.Done (slice_index_or c.reads 0 [])) one (a.answers.read 0 first) refl)))

-- Failed

refused_exec : (request : Request) (tid : Tid) (n : NodeNo) (mini : Mini) (reply : NodeReply) → request ≡ Ask.Exec tid (part_of mini n) → Fits request reply → is_refusal reply ≡ true → is_refused reply ≡ true
refused_exec request tid n mini reply is fits e = by reply (subst (λ (r : Request). Fits r reply) is fits) e
  where
    by : (r : NodeReply) → Fits (Ask.Exec tid (part_of mini n)) r → is_refusal r ≡ true → is_refused r ≡ true
    by (Say.BadLock s k h) f g = refl
    by (Say.BadCompare i found) f g = refl
    by Say.BadForced f g = absurd f
    by Say.Stopped f g = absurd cc
    by (Say.Done reads) f g = absurd cc
    by (Say.Vote v) f g = absurd cc
    by Say.Decided f g = absurd cc
    by (Say.Listed d) f g = absurd cc
    by (Say.Peeked b) f g = absurd cc
    by Say.Down f g = absurd cc
    by Say.NoMemory f g = absurd cc

-- replies of some kinds are of no other
refusal_is : (r : NodeReply) → is_refusal r ≡ true → (is_down_reply r || is_stopped r) ≡ false
refusal_is (Say.BadLock s k h) g = refl
refusal_is (Say.BadCompare i found) g = refl
refusal_is Say.BadForced g = refl
refusal_is Say.Stopped g = absurd cc
refusal_is (Say.Done reads) g = absurd cc
refusal_is (Say.Vote v) g = absurd cc
refusal_is Say.Decided g = absurd cc
refusal_is (Say.Listed d) g = absurd cc
refusal_is (Say.Peeked b) g = absurd cc
refusal_is Say.Down g = absurd cc
refusal_is Say.NoMemory g = absurd cc

done_is : (r : NodeReply) → is_done r ≡ true → (is_down_reply r || is_stopped r) ≡ false
done_is (Say.Done reads) g = refl
done_is (Say.BadLock s k h) g = absurd cc
done_is (Say.BadCompare i found) g = absurd cc
done_is Say.BadForced g = absurd cc
done_is Say.Stopped g = absurd cc
done_is (Say.Vote v) g = absurd cc
done_is Say.Decided g = absurd cc
done_is (Say.Listed d) g = absurd cc
done_is (Say.Peeked b) g = absurd cc
done_is Say.Down g = absurd cc
done_is Say.NoMemory g = absurd cc

memory_is : (r : NodeReply) → (is_refusal r || (is_down_reply r || is_stopped r)) ≡ true → r ≡ Say.NoMemory → ⊥
memory_is r e none = clash _ e (ap (λ (k : NodeReply). is_refusal k || (is_down_reply k || is_stopped k)) none)

module _ (es : List Entry) (c : Coordination) (a : Agrees es c) (reply : NodeReply) (is : c.refused ≡ Some reply) where
  next : c.done < count c
  next = subst (λ (o : Option NodeReply). MatchOption o (c.done ≤ count c) (λ r. c.done < count c)) is a.within

  -- the list has the reply, unless it was want of memory
  told : (reply ≡ Say.NoMemory → ⊥) → Contains (calls_of (since_begin es)) (answer_of c.tid c.mini c.done reply)
  told other = subst (λ (o : Option NodeReply). MatchOption o ⊤ (λ r. (r ≡ Say.NoMemory → ⊥) → Contains (calls_of (since_begin es)) (answer_of c.tid c.mini c.done r))) is a.answers.failed other

  same_reply : (r : NodeReply) → c.refused ≡ Some r → reply ≡ r
  same_reply r other = let both : Some reply ≡ Some r = sym is ∙ other in cc

  -- the one participant did not do it
  not_done : nat_eq (count c) 1 ≡ true → is_stopped_at_last (count c) c.done reply ≡ false → was_told_somewhere (is_exec c.tid) (λ r. is_done r || is_stopped r) (since_begin es) ≡ false
  not_done one known = none_since (λ (k : Call). is_exec c.tid k.request && (is_done k.reply || is_stopped k.reply)) es never
    where
      stopped : is_stopped reply ≡ true → ⊥
      stopped e = let few = eqb-true (count c) 1 one in let more = not_last (count c) c.done reply next known e in absurd (omega arith)

      by : (call : Call) → (is_done call.reply || is_stopped call.reply) ≡ true → IsAnswerOf c.tid c.mini c.done c.refused call → ⊥
      by call e own = said own.said
        where
          said : ((own.number < c.done) × (is_done call.reply ≡ true)) ⊎ ((c.refused ≡ Some call.reply) × (is_done call.reply ≡ false)) → ⊥
          said (inl h) = let low = h.0 in let few = eqb-true (count c) 1 one in let first = next in absurd (omega arith)
          said (inr h) = stopped (ap is_stopped (same_reply call.reply h.0) ∙ (ap (λ b. b || is_stopped call.reply) (sym h.1) ∙ e))

      never : (call : Call) → Contains (calls_of es) call → (is_exec c.tid call.request && (is_done call.reply || is_stopped call.reply)) ≡ true → ⊥
      never call there e =
          let parts = both_parts (is_exec c.tid call.request) (is_done call.reply || is_stopped call.reply) e in
          by call parts.1 (a.tries call there (or_right (is_prepare c.tid call.request) (is_exec c.tid call.request) parts.0))

  -- no Prepare found its node down, or stopped it, where one was refused
  none_down : is_refusal reply ≡ true → was_told_somewhere (is_prepare c.tid) (λ r. is_down_reply r || is_stopped r) (since_begin es) ≡ false
  none_down refusal = none_since (λ (k : Call). is_prepare c.tid k.request && (is_down_reply k.reply || is_stopped k.reply)) es never
    where
      by : (call : Call) → IsAnswerOf c.tid c.mini c.done c.refused call → (is_down_reply call.reply || is_stopped call.reply) ≡ false
      by call own = said own.said
        where
          said : ((own.number < c.done) × (is_done call.reply ≡ true)) ⊎ ((c.refused ≡ Some call.reply) × (is_done call.reply ≡ false)) → (is_down_reply call.reply || is_stopped call.reply) ≡ false
          said (inl h) = done_is call.reply h.1
          said (inr h) = refusal_is call.reply (ap is_refusal (sym (same_reply call.reply h.0)) ∙ refusal)

      never : (call : Call) → Contains (calls_of es) call → (is_prepare c.tid call.request && (is_down_reply call.reply || is_stopped call.reply)) ≡ true → ⊥
      never call there e =
          let parts = both_parts (is_prepare c.tid call.request) (is_down_reply call.reply || is_stopped call.reply) e in
          clash _ parts.1 (by call (a.tries call there (or_left (is_prepare c.tid call.request) (is_exec c.tid call.request) parts.0)))

  -- the node was down
  down_there : (node : NodeNo) → participant c c.done ≡ node → reply ≡ Say.Down → list_any (is_down_cause node) (calls_of (since_begin es)) ≡ true
  down_there node at down =
      any_there (is_down_cause node) (calls_of (since_begin es)) (answer_of c.tid c.mini c.done reply) (told (λ none. let both : Say.Down ≡ Say.NoMemory = sym down ∙ none in absurd cc))
      (both_true _ _ (eq-eqb (participant c c.done).0 node.0 (ap (λ (n : NodeNo). n.0) at))
      (or_left _ _ (both_true _ _ (ap is_down_reply down) (ap not (try_no_decide c.tid c.mini (participant c c.done))))))

  -- or it stopped, and was not the last
  stopped_there : (node : NodeNo) → participant c c.done ≡ node → reply ≡ Say.Stopped → is_stopped_at_last (count c) c.done reply ≡ false → list_any (is_down_cause node) (calls_of (since_begin es)) ≡ true
  stopped_there node at stop known =
      any_there (is_down_cause node) (calls_of (since_begin es)) (answer_of c.tid c.mini c.done reply) (told (λ none. let both : Say.Stopped ≡ Say.NoMemory = sym stop ∙ none in absurd cc))
      (both_true _ _ (eq-eqb (participant c c.done).0 node.0 (ap (λ (n : NodeNo). n.0) at))
      (or_right _ _ (both_true _ _ (ap is_stopped stop) (ap (λ (r : Request). is_any_prepare r && not (is_last_of (participant c c.done) r)) (each_prepare c.tid c.mini (participant c c.done) several)
      ∙ ap not (last_at (participants_of c.mini) c.done (participants_ascend c.mini) next ∙ apart)))))
    where
      more : c.done + 1 < count c
      more = not_last (count c) c.done reply next known (ap is_stopped stop)

      several : nat_eq (count c) 1 ≡ false
      several = falsely (nat_eq (count c) 1) (λ e. let few = eqb-true (count c) 1 e in let up = more in absurd (omega arith))

      apart : nat_eq (c.done + 1) (count c) ≡ false
      apart = falsely (nat_eq (c.done + 1) (count c)) (λ e. let few = eqb-true (c.done + 1) (count c) e in let up = more in absurd (omega arith))

pub failed_is_given_up : FailedIsGivenUp
failed_is_given_up es c node reply a step is fits = (given_up facts.1, settled facts.1, over facts.1, down)
  where
    place : (stage_in c ≡ At.Failed) × (participant c c.done ≡ node)
    place = failed_at c node step

    facts : (is_stopped_at_last (count c) c.done reply ≡ false) × ((nat_eq (count c) 1 ≡ true) ⊎ ((nat_eq (count c) 1 ≡ false) × (c.told ≡ true) × (c.done ≤ c.decided)))
    facts = failed_by (count c) c.done reply c.told c.decided (ap (λ (o : Option NodeReply). stage_of (count c) c.done o c.told c.decided) (sym is) ∙ place.0)

    given_up : (nat_eq (count c) 1 ≡ true) ⊎ ((nat_eq (count c) 1 ≡ false) × (c.told ≡ true) × (c.done ≤ c.decided)) → is_given_up (since_begin es) (issue_for c) ≡ true
    given_up (inl one) = or_right _ _ (both_true (nat_eq (count c) 1) _ one (ap not (not_done es c a reply is one facts.0)))
    given_up (inr (several, dropped, all)) = or_left _ _ (a.given_up ∙ dropped)

    settled : (nat_eq (count c) 1 ≡ true) ⊎ ((nat_eq (count c) 1 ≡ false) × (c.told ≡ true) × (c.done ≤ c.decided))
        → list_all (λ n. not (was_told (is_prepare c.tid) is_done n (since_begin es)) || was_decided c.tid n (since_begin es)) (participants_of c.mini) ≡ true
    settled (inl one) = all_settled es c a (inl one)
    settled (inr (several, dropped, all)) = all_settled es c a (inr all)

    other : is_refusal reply ≡ true → reply ≡ Say.NoMemory → ⊥
    other refusal = memory_is reply (or_left _ _ refusal)

    over : (nat_eq (count c) 1 ≡ true) ⊎ ((nat_eq (count c) 1 ≡ false) × (c.told ≡ true) × (c.done ≤ c.decided)) → is_refusal reply ≡ true → is_over (since_begin es) (issue_for c) ≡ true
    over (inl one) refusal =
        or_right _ _ (or_left _ _ (exec_there es c a is_refused c.done reply one (told es c a reply is (other refusal))
        (refused_exec (try_request c.tid c.mini (participant c c.done)) c.tid (participant c c.done) c.mini reply (one_exec c.tid c.mini (participant c c.done) one) fits refusal)))
    over (inr (several, dropped, all)) refusal =
        or_left _ _ (both_true _ _ (a.given_up ∙ dropped) (ap not (none_down es c a reply is refusal)))

    down : (reply ≡ Say.Down) ⊎ (reply ≡ Say.Stopped) → IsTrue (list_any (is_down_cause node) (calls_of (since_begin es)))
    down (inl e) = down_there es c a reply is node place.1 e
    down (inr e) = stopped_there es c a reply is node place.1 e facts.0

-- In doubt

pub doubt_is_shown : DoubtIsShown
doubt_is_shown es c node a step =
    any_there (is_doubt_cause node c.tid) (calls_of (since_begin es)) (answer_of c.tid c.mini c.done Say.Stopped)
    (told es c a Say.Stopped facts.0 (λ none. absurd cc))
    (both_true _ _ (eq-eqb (participant c c.done).0 node.0 (ap (λ (n : NodeNo). n.0) place.1))
    (ap (λ (n : NodeNo). is_exec c.tid (try_request c.tid c.mini (participant c c.done)) || (is_prepare c.tid (try_request c.tid c.mini (participant c c.done)) && is_last_of n (try_request c.tid c.mini (participant c c.done)))) (sym place.1)
    ∙ ((try_is c (next es c a Say.Stopped facts.0)).last ∙ facts.1)))
  where
    place : (stage_in c ≡ At.Doubt) × (participant c c.done ≡ node)
    place = doubted_at c node step

    facts : (c.refused ≡ Some Say.Stopped) × (nat_eq (c.done + 1) (count c) ≡ true)
    facts = doubted_by (count c) c.done c.refused c.told c.decided place.0

-- A recovery makes only entries that the commit protocol allows its client.
use Rattle.std.proofs.Common.{◌≡◌, ℕ, zero, suc, ◌+◌, ◌<◌, ◌≤◌, ◌⊎◌, inl, inr, Bool, true, false, ◌&&◌, ◌||◌, List, [], ◌∷◌, ◌++◌, length, Option, Some, None, refl, sym, ap, subst, ◌∙◌, arith, if◌then◌else◌}
use Rattle.std.specs.Prelude.{nat_lt, Contains, ⊤}
use Rattle.std.specs.List.{list_all, AllByRecursion}
use Rattle.std.proofs.lemmas.Bool.{ltb-true, ltb-false}
use Rattle.mn_base.specs.Ids.{node_same, tid_same}
use Rattle.mn_base.specs.declared.ids.NodeNo.{NodeNo}
use Rattle.mn_base.specs.declared.ids.Tid.{Tid}
use Rattle.mn_base.proofs.Booleans.{and_false, or_left}
use Rattle.mn_coord.proofs.Legal.{any_more}
use Rattle.mn_mini.specs.declared.request.Request.{Request}
use Rattle.mn_mini.specs.declared.request.Request.TheVariants as Ask
use Rattle.mn_mini.specs.declared.reply.NodeReply.{NodeReply}
use Rattle.mn_mini.specs.declared.reply.NodeReply.TheVariants as Say
use Rattle.mn_mini.proofs.Parts.{same_self}
use Rattle.mn_runs.specs.declared.entry.Entry.{Entry}
use Rattle.mn_runs.specs.Calls.{Call, call_in, calls_of, is_last_of, was_told, is_prepare, is_exec, is_force, is_done, is_yes, is_no, is_stopped, has_yes, has_no, is_in_doubt, lists_doubt, Lists, WasListed}
use Rattle.mn_runs.specs.Clients.{Sends}
use Rattle.mn_runs.proofs.Same.{tid_same-refl}
use Rattle.mn_recov.specs.declared.stage.RecovStage.{RecovStage}
use Rattle.mn_recov.specs.declared.stage.RecovStage.TheVariants.{Looking, Found}
use Rattle.mn_recov.specs.declared.step.RecovStep.TheVariants.{Send, Ended}
use Rattle.mn_recov.specs.Recovery.{participant, step_at, found_or, after_list, after_force, stage_after}
use Rattle.mn_recov.specs.Legal.{ShowsVotes, ShowsStage, Agrees, MayMake, IsAnswered, StepsAreAllowed, AnswersAgree, NoAnswerAgrees}

-- Lists of participants

element : (ps : List NodeNo) (i : ℕ) → i < length ps → Contains ps (participant ps i)
element [] i low = absurd (omega arith)
element (p ∷ ps) zero low = (zero, omega arith, refl)
element (p ∷ ps) (suc i) low = let rest = element ps i (omega arith) in (suc rest.0, (let l = rest.1 in omega arith), rest.2)

all_of : (P : NodeNo → Type 0) (ps : List NodeNo) → ((i : ℕ) → i < length ps → P (participant ps i)) → AllByRecursion P ps
all_of P [] each = tt
all_of P (p ∷ ps) each = (each zero (omega arith), all_of P ps (λ i low. each (suc i) (omega arith)))

-- What a step is

decides : (es : List Entry) (tid : Tid) (ps : List NodeNo) (voted : ℕ) (n : NodeNo) (verdict : Bool) → is_in_doubt tid es ≡ false → WasListed tid ps es → length ps ≤ voted → ShowsVotes es tid ps voted verdict
    → Sends es (Some n) (Ask.Decide tid verdict)
decides es tid ps voted n true free listed all votes = (free, (ps, inr listed, all_of (λ m. has_yes tid m es ≡ true) ps (λ i low. votes i (omega arith))))
decides es tid ps voted n false free listed all against = (free, or_right _ _ against)
  where
    or_right : (a b : Bool) → b ≡ true → (a || b) ≡ true
    or_right true b e = refl
    or_right false b e = e

pub steps_are_allowed : StepsAreAllowed
steps_are_allowed es r a = at r.stage a.shown
  where
    at : (stage : RecovStage) → ShowsStage es r.tid stage → MayMake es (step_at r.tid r.nodes stage)
    at (Looking node) shown = looking (nat_lt node r.nodes)
      where
        looking : (b : Bool) → MayMake es (if b then Send (record { 0 = node }) Ask.List else Ended None)
        looking true = tt
        looking false = tt
    at (Found ps voted verdict decided) shown = voting (nat_lt voted (length ps)) refl
      where
        deciding : (c : Bool) → length ps ≤ voted → MayMake es (if c then Send (participant ps decided) (Ask.Decide r.tid verdict) else Ended (Some verdict))
        deciding true all = decides es r.tid ps voted (participant ps decided) verdict a.free shown.0 all shown.1
        deciding false all = tt

        voting : (b : Bool) → nat_lt voted (length ps) ≡ b
            → MayMake es (if b then Send (participant ps voted) (Ask.Force r.tid) else (if nat_lt decided (length ps) then Send (participant ps decided) (Ask.Decide r.tid verdict) else Ended (Some verdict)))
        voting true e = (a.free, (ps, shown.0, element ps voted (ltb-true voted (length ps) e)))
        voting false e = deciding (nat_lt decided (length ps)) (ltb-false voted (length ps) e)

-- One more call in the list

more : (es : List Entry) (e : Entry) (call : Call) → call_in e.node e.what ≡ call ∷ [] → calls_of (e ∷ es) ≡ call ∷ calls_of es
more es e call is = ap (λ (cs : List Call). cs ++ calls_of es) is

or_true : (a b : Bool) → b ≡ true → (a || b) ≡ true
or_true true b e = refl
or_true false b e = e

or_parts : (a b c d : Bool) → (a || b) ≡ true → (b ≡ true → d ≡ true) → (a ≡ true → c ≡ true) → (c || d) ≡ true
or_parts true b c d e f g = or_left c d (g refl)
or_parts false b c d e f g = or_true c d (f e)

yes_stays : (es : List Entry) (e : Entry) (call : Call) (tid : Tid) (n : NodeNo) → call_in e.node e.what ≡ call ∷ [] → has_yes tid n es ≡ true → has_yes tid n (e ∷ es) ≡ true
yes_stays es e call tid n is h =
    or_parts (was_told (is_prepare tid) is_done n es) (was_told (is_force tid) is_yes n es) (was_told (is_prepare tid) is_done n (e ∷ es)) (was_told (is_force tid) is_yes n (e ∷ es)) h
    (λ f. any_more (λ (c : Call). node_same c.node n && (is_force tid c.request && is_yes c.reply)) es e call is ∙ or_true _ _ f)
    (λ f. any_more (λ (c : Call). node_same c.node n && (is_prepare tid c.request && is_done c.reply)) es e call is ∙ or_true _ _ f)

no_stays : (es : List Entry) (e : Entry) (call : Call) (tid : Tid) → call_in e.node e.what ≡ call ∷ [] → has_no tid es ≡ true → has_no tid (e ∷ es) ≡ true
no_stays es e call tid is h = any_more (λ (c : Call). is_force tid c.request && is_no c.reply) es e call is ∙ or_true _ _ h

listed_stays : (es : List Entry) (e : Entry) (call : Call) (tid : Tid) (ps : List NodeNo) → call_in e.node e.what ≡ call ∷ [] → WasListed tid ps es → WasListed tid ps (e ∷ es)
listed_stays es e call tid ps is w = (w.0, subst (λ (cs : List Call). Contains cs w.0) (sym (more es e call is)) (later (w.1)), w.2)
  where
    later : Contains (calls_of es) w.0 → Contains (call ∷ calls_of es) w.0
    later (i, low, at) = (suc i, omega arith, at)

votes_stay : (es : List Entry) (e : Entry) (call : Call) (tid : Tid) (ps : List NodeNo) (voted : ℕ) (verdict : Bool) → call_in e.node e.what ≡ call ∷ [] → ShowsVotes es tid ps voted verdict → ShowsVotes (e ∷ es) tid ps voted verdict
votes_stay es e call tid ps voted true is votes = λ i low. yes_stays es e call tid (participant ps i) is (votes i low)
votes_stay es e call tid ps voted false is against = no_stays es e call tid is against

stage_stays : (es : List Entry) (e : Entry) (call : Call) (tid : Tid) (stage : RecovStage) → call_in e.node e.what ≡ call ∷ [] → ShowsStage es tid stage → ShowsStage (e ∷ es) tid stage
stage_stays es e call tid (Looking node) is shown = tt
stage_stays es e call tid (Found ps voted verdict decided) is shown = (listed_stays es e call tid ps is shown.0, votes_stay es e call tid ps voted verdict is shown.1)

-- What the replies add

-- no request of a recovery leaves a plan in doubt
abbrev IsOurs : Request → Type 0
IsOurs (Ask.Prepare tid participants part) = ⊥
IsOurs (Ask.Exec tid part) = ⊥
IsOurs request = ⊤

no_doubt : (tid : Tid) (n : NodeNo) (request : Request) (reply : NodeReply) → IsOurs request
    → (is_stopped reply && (is_exec tid request || (is_prepare tid request && is_last_of n request))) ≡ false
no_doubt tid n (Ask.Prepare t ps part) reply ours = absurd ours
no_doubt tid n (Ask.Exec t part) reply ours = absurd ours
no_doubt tid n (Ask.Decide t verdict) reply ours = and_false (is_stopped reply)
no_doubt tid n (Ask.Force t) reply ours = and_false (is_stopped reply)
no_doubt tid n Ask.List reply ours = and_false (is_stopped reply)
no_doubt tid n (Ask.Peek start long) reply ours = and_false (is_stopped reply)

still_free : (es : List Entry) (e : Entry) (n : NodeNo) (request : Request) (reply : NodeReply) (tid : Tid) → IsAnswered e n request reply → IsOurs request → is_in_doubt tid es ≡ false → is_in_doubt tid (e ∷ es) ≡ false
still_free es e n request reply tid is ours free =
    any_more (λ (c : Call). is_stopped c.reply && (is_exec tid c.request || (is_prepare tid c.request && is_last_of c.node c.request))) es e (record { node = n; request = request; reply = reply }) is
    ∙ (ap (λ b. b || is_in_doubt tid es) (no_doubt tid n request reply ours) ∙ free)

newest : (es : List Entry) (e : Entry) (call : Call) (tid : Tid) (ps : List NodeNo) → call_in e.node e.what ≡ call ∷ [] → Lists tid ps call.reply → WasListed tid ps (e ∷ es)
newest es e call tid ps is lists = (call, subst (λ (cs : List Call). Contains cs call) (sym (more es e call is)) (zero, omega arith, refl), lists)

after_list_shown : (es : List Entry) (e : Entry) (tid : Tid) (nodes node : ℕ) (n : NodeNo) (request : Request) (reply : NodeReply) → IsAnswered e n request reply → ShowsStage (e ∷ es) tid (after_list tid nodes node reply)
after_list_shown es e tid nodes node n request (Say.Listed doubts) is = found (lists_doubt tid doubts) refl
  where
    below : (ps : List NodeNo) → lists_doubt tid doubts ≡ Some ps → (b : Bool) → ShowsStage (e ∷ es) tid (if b then Found ps 0 true 0 else Looking (node + 1))
    below ps given true = (newest es e (record { node = n; request = request; reply = Say.Listed doubts }) tid ps is given, λ i low. absurd (omega arith))
    below ps given false = tt

    found : (o : Option (List NodeNo)) → lists_doubt tid doubts ≡ o → ShowsStage (e ∷ es) tid (found_or nodes (Looking (node + 1)) o)
    found None given = tt
    found (Some ps) given = below ps given (list_all (λ m. nat_lt m.0 nodes) ps)
after_list_shown es e tid nodes node n request (Say.Done reads) is = tt
after_list_shown es e tid nodes node n request (Say.BadLock start long holder) is = tt
after_list_shown es e tid nodes node n request (Say.BadCompare item found) is = tt
after_list_shown es e tid nodes node n request Say.BadForced is = tt
after_list_shown es e tid nodes node n request (Say.Vote vote) is = tt
after_list_shown es e tid nodes node n request Say.Decided is = tt
after_list_shown es e tid nodes node n request (Say.Peeked bytes) is = tt
after_list_shown es e tid nodes node n request Say.Down is = tt
after_list_shown es e tid nodes node n request Say.Stopped is = tt
after_list_shown es e tid nodes node n request Say.NoMemory is = tt

-- a vote joins those before it
vote_shown : (es : List Entry) (e : Entry) (tid : Tid) (ps : List NodeNo) (voted : ℕ) (verdict vote : Bool) → IsAnswered e (participant ps voted) (Ask.Force tid) (Say.Vote vote) → ShowsVotes es tid ps voted verdict
    → ShowsVotes (e ∷ es) tid ps (voted + 1) (verdict && vote)
vote_shown es e tid ps voted true true is votes = λ i low. each i low (cases i low)
  where
    call : Call
    call = record { node = participant ps voted; request = Ask.Force tid; reply = Say.Vote true }

    cases : (i : ℕ) → i < voted + 1 → (i < voted) ⊎ (i ≡ voted)
    cases i low = by (nat_lt i voted) refl
      where
        by : (b : Bool) → nat_lt i voted ≡ b → (i < voted) ⊎ (i ≡ voted)
        by true f = inl (ltb-true i voted f)
        by false f = let high = ltb-false i voted f in inr (omega arith)

    here : has_yes tid (participant ps voted) (e ∷ es) ≡ true
    here =
        or_true (was_told (is_prepare tid) is_done (participant ps voted) (e ∷ es)) (was_told (is_force tid) is_yes (participant ps voted) (e ∷ es))
        (any_more (λ (c : Call). node_same c.node (participant ps voted) && (is_force tid c.request && is_yes c.reply)) es e (record { node = participant ps voted; request = Ask.Force tid; reply = Say.Vote true }) is
        ∙ or_left _ _ (ap (λ b. b && (tid_same tid tid && true)) (same_self (participant ps voted)) ∙ ap (λ b. b && true) (tid_same-refl tid)))

    each : (i : ℕ) → i < voted + 1 → (i < voted) ⊎ (i ≡ voted) → has_yes tid (participant ps i) (e ∷ es) ≡ true
    each i low (inl old) = yes_stays es e (record { node = participant ps voted; request = Ask.Force tid; reply = Say.Vote true }) tid (participant ps i) is (votes i old)
    each i low (inr same) = ap (λ k. has_yes tid (participant ps k) (e ∷ es)) same ∙ here
vote_shown es e tid ps voted true false is votes =
    any_more (λ (c : Call). is_force tid c.request && is_no c.reply) es e (record { node = participant ps voted; request = Ask.Force tid; reply = Say.Vote false }) is
    ∙ or_left _ _ (ap (λ b. b && true) (tid_same-refl tid))
vote_shown es e tid ps voted false vote is against = no_stays es e (record { node = participant ps voted; request = Ask.Force tid; reply = Say.Vote vote }) tid is against

after_force_shown : (es : List Entry) (e : Entry) (tid : Tid) (ps : List NodeNo) (voted : ℕ) (verdict : Bool) (decided : ℕ) (reply : NodeReply) → IsAnswered e (participant ps voted) (Ask.Force tid) reply
    → ShowsStage es tid (Found ps voted verdict decided) → ShowsStage (e ∷ es) tid (after_force ps voted verdict decided reply)
after_force_shown es e tid ps voted verdict decided reply is shown = by reply is
  where
    same : (r : NodeReply) → IsAnswered e (participant ps voted) (Ask.Force tid) r → ShowsStage (e ∷ es) tid (Found ps voted verdict decided)
    same r at = stage_stays es e (record { node = participant ps voted; request = Ask.Force tid; reply = r }) tid (Found ps voted verdict decided) at shown

    by : (r : NodeReply) → IsAnswered e (participant ps voted) (Ask.Force tid) r → ShowsStage (e ∷ es) tid (after_force ps voted verdict decided r)
    by (Say.Vote vote) at = (listed_stays es e (record { node = participant ps voted; request = Ask.Force tid; reply = Say.Vote vote }) tid ps at shown.0, vote_shown es e tid ps voted verdict vote at shown.1)
    by (Say.Done reads) at = same (Say.Done reads) at
    by (Say.BadLock start long holder) at = same (Say.BadLock start long holder) at
    by (Say.BadCompare item found) at = same (Say.BadCompare item found) at
    by Say.BadForced at = same Say.BadForced at
    by Say.Decided at = same Say.Decided at
    by (Say.Listed doubts) at = same (Say.Listed doubts) at
    by (Say.Peeked bytes) at = same (Say.Peeked bytes) at
    by Say.Down at = same Say.Down at
    by Say.Stopped at = same Say.Stopped at
    by Say.NoMemory at = same Say.NoMemory at

send_is : (n m : NodeNo) (q r : Request) → Send n q ≡ Send m r → (n ≡ m) × (q ≡ r)
send_is n m q r e = (cc, cc)

pub answers_agree : AnswersAgree
answers_agree es e r node request reply a step is = at r.stage a.shown step
  where
    at : (stage : RecovStage) → ShowsStage es r.tid stage → step_at r.tid r.nodes stage ≡ Send node request → Agrees (e ∷ es) (record { tid = r.tid; nodes = r.nodes; stage = stage_after r.tid r.nodes stage reply })
    at (Looking k) shown s = looking (nat_lt k r.nodes) s
      where
        looking : (b : Bool) → (if b then Send (record { 0 = k }) Ask.List else Ended None) ≡ Send node request → Agrees (e ∷ es) (record { tid = r.tid; nodes = r.nodes; stage = after_list r.tid r.nodes k reply })
        looking true f = record {
          free = still_free es e node request reply r.tid is (subst IsOurs (send_is _ _ _ _ f).1 tt) a.free;
          shown = after_list_shown es e r.tid r.nodes k node request reply is;
        }
        looking false f = absurd cc
    at (Found ps voted verdict decided) shown s = voting (nat_lt voted (length ps)) s
      where
        deciding : (c : Bool) → (if c then Send (participant ps decided) (Ask.Decide r.tid verdict) else Ended (Some verdict)) ≡ Send node request → IsOurs request
        deciding true f = subst IsOurs (send_is _ _ _ _ f).1 tt
        deciding false f = absurd cc

        voting : (b : Bool)
            → (if b then Send (participant ps voted) (Ask.Force r.tid) else (if nat_lt decided (length ps) then Send (participant ps decided) (Ask.Decide r.tid verdict) else Ended (Some verdict))) ≡ Send node request
            → Agrees (e ∷ es) (record { tid = r.tid; nodes = r.nodes; stage = if b then after_force ps voted verdict decided reply else Found ps voted verdict (decided + 1) })
        voting true f =
            let parts = send_is _ _ _ _ f in
            record {
              free = still_free es e node request reply r.tid is (subst IsOurs parts.1 tt) a.free;
              shown = after_force_shown es e r.tid ps voted verdict decided reply (is ∙ ap (λ (m : NodeNo). record { node = m; request = request; reply = reply } ∷ []) (sym parts.0) ∙ ap (λ (q : Request). record { node = participant ps voted; request = q; reply = reply } ∷ []) (sym parts.1)) shown;
            }
        voting false f = record {
          free = still_free es e node request reply r.tid is (deciding (nat_lt decided (length ps)) f) a.free;
          shown = stage_stays es e (record { node = node; request = request; reply = reply }) r.tid (Found ps voted verdict (decided + 1)) is shown;
        }

pub no_answer_agrees : NoAnswerAgrees
no_answer_agrees es r a = record { free = a.free; shown = at r.stage a.shown }
  where
    at : (stage : RecovStage) → ShowsStage es r.tid stage → ShowsStage es r.tid (stage_after r.tid r.nodes stage Say.NoMemory)
    at (Looking k) shown = tt
    at (Found ps voted verdict decided) shown = voting (nat_lt voted (length ps))
      where
        voting : (b : Bool) → ShowsStage es r.tid (if b then Found ps voted verdict decided else Found ps voted verdict (decided + 1))
        voting true = shown
        voting false = shown

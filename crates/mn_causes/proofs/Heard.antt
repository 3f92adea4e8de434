-- A node that heard a decision of an id holds it no more.
use Rattle.std.proofs.Common.{◌≡◌, ℕ, ◌<◌, ◌⊎◌, inl, inr, Bool, true, false, not, ◌&&◌, List, [], ◌∷◌, Option, Some, None, refl, subst, sym, ap, ◌∙◌, if◌then◌else◌}
use Rattle.std.specs.Prelude.{is_some}
use Rattle.std.specs.List.{AllByRecursion, list_any}
use Rattle.std.proofs.lemmas.List.Folds.{list_any-append}
use Rattle.mn_base.specs.Ids.{tid_same, node_same}
use Rattle.mn_base.specs.declared.ids.NodeNo.{NodeNo}
use Rattle.mn_base.specs.declared.ids.Tid.{Tid}
use Rattle.mn_base.proofs.Booleans.{clash, left_true, or_cases, or_left, or_right, right_true}
use Rattle.mn_mini.specs.declared.record.Record.{Record}
use Rattle.mn_mini.specs.declared.record.Record.TheVariants.{Voted, Executed, Decided, Forced}
use Rattle.mn_mini.specs.declared.request.Request.{Request}
use Rattle.mn_mini.specs.declared.request.Request.TheVariants as Ask
use Rattle.mn_mini.specs.declared.reply.NodeReply.{NodeReply}
use Rattle.mn_mini.specs.declared.reply.NodeReply.TheVariants as Say
use Rattle.mn_mini.specs.Node.{HeldPart, held_parts, held_part_of, is_held, without_tid, has_voted, answer, with_added}
use Rattle.mn_mini.proofs.Parts.{same_true}
use Rattle.mn_mini.proofs.Apart.{All-without}
use Rattle.mn_runs.specs.declared.entry.Entry.{Entry}
use Rattle.mn_runs.specs.Calls.{Call, call_in, is_by, was_decided, is_prepare, is_force, is_decide, is_done, is_yes, calls_of, client_entries, was_told}
use Rattle.mn_runs.specs.Sound.{has_record, AreInPlace}
use Rattle.mn_runs.specs.Protocol.{Start, start_nodes, base_at, records_of, FollowsProtocol}
use Rattle.mn_votes.specs.Laws.{StartsSound}
use Rattle.mn_causes.specs.Causes.{prepared_after_decide}
use Rattle.mn_runs.proofs.Same.{tid_same-true}
use Rattle.mn_runs.proofs.Steps.{Grows, records_grow}
use Rattle.mn_runs.proofs.NewCalls.{IsCallOf, WasAnswered, new_call, call_stays}
use Rattle.mn_votes.proofs.Unchanged.{record_stays}
use Rattle.mn_votes.proofs.Backing.{Kept}
use Rattle.mn_runs.proofs.Records.{vote_names, named_record}
use Rattle.mn_votes.proofs.Preserved.{kept_run}
use Rattle.mn_commits.proofs.Commits.Records.{records_stay_sound}
use Rattle.mn_serial.proofs.Meaning.Over.{told_weaker}
use Rattle.mn_serial.proofs.Meaning.OlderSettled.{is_lost}

-- Not held

-- no part of the id is held
abbrev pub NotHeld : List Record → Tid → Type 0
NotHeld records t = AllByRecursion (λ (h : HeldPart). tid_same h.tid t ≡ false) (held_parts records)

without_none : (t : Tid) (hs : List HeldPart)
    → AllByRecursion (λ (h : HeldPart). tid_same h.tid t ≡ false) (without_tid t hs)
without_none t [] = tt
without_none t (h ∷ hs) =
    elim (tid_same h.tid t) as (λ b. tid_same h.tid t ≡ b → AllByRecursion (λ (g : HeldPart). tid_same g.tid t ≡ false) (if b then without_tid t hs else h ∷ without_tid t hs)) [
      | true ↦ λ _. without_none t hs
      | false ↦ λ e. (e, without_none t hs)
    ] refl

pub none_found : (t : Tid) (hs : List HeldPart) → is_some (held_part_of t hs) ≡ false
    → AllByRecursion (λ (h : HeldPart). tid_same h.tid t ≡ false) hs
none_found t [] e = tt
none_found t (h ∷ hs) e =
    elim (tid_same h.tid t) as (λ b. tid_same h.tid t ≡ b → is_some (if b then Some h else held_part_of t hs) ≡ false → AllByRecursion (λ (g : HeldPart). tid_same g.tid t ≡ false) (h ∷ hs)) [
      | true ↦ λ _ f. absurd cc
      | false ↦ λ same f. (same, none_found t hs f)
    ] refl e

-- behind a decision it is not held
after_decide : (records : List Record) (t : Tid) (verdict : Bool)
    → NotHeld (with_added (if is_held records t then Some (Decided t verdict) else None) records) t
after_decide records t verdict = by (is_held records t) refl
  where
    by : (b : Bool) → is_held records t ≡ b
        → NotHeld (with_added (if b then Some (Decided t verdict) else None) records) t
    by true e = without_none t (held_parts records)
    by false e = none_found t (held_parts records) e

voted_recorded : (records : List Record) (t : Tid) → has_voted records t ≡ true
    → has_record records t ≡ true
voted_recorded records t voted = let v = vote_names t records voted in named_record t v.0 records v.1

-- and it never is again, where it was voted
none_more : (nodes : ℕ) (n : NodeNo) (records : List Record) (o : Option Record) (t : Tid)
    → AreInPlace nodes n (with_added o records) → has_voted records t ≡ true → NotHeld records t
    → NotHeld (with_added o records) t
none_more nodes n records None t place voted none = none
none_more nodes n records (Some (Voted u ps part)) t place voted none = (by (tid_same u t) refl, none)
  where
    by : (b : Bool) → tid_same u t ≡ b → tid_same u t ≡ false
    by true e = absurd (clash (has_record records u) (subst (λ (x : Tid). has_record records x ≡ true) (sym (tid_same-true u t e)) (voted_recorded records t voted)) place.0.0)
    by false e = e
none_more nodes n records (Some (Executed u part)) t place voted none = none
none_more nodes n records (Some (Decided u verdict)) t place voted none = All-without (λ (h : HeldPart). tid_same h.tid t ≡ false) u (held_parts records) none
none_more nodes n records (Some (Forced u)) t place voted none = none

none_stays : (start : Start) (past : List Entry) (e : Entry) (n : NodeNo) (t : Tid)
    → AreInPlace (start_nodes start) n (records_of start (e ∷ past) n)
    → has_voted (records_of start past n) t ≡ true → NotHeld (records_of start past n) t
    → NotHeld (records_of start (e ∷ past) n) t
none_stays start past e n t place voted none = by (records_grow start past e n)
  where
    by : Grows (base_at start n) (records_of start past n) (records_of start (e ∷ past) n)
        → NotHeld (records_of start (e ∷ past) n) t
    by (inl same) = subst (λ (r : List Record). NotHeld r t) (sym same) none
    by (inr (request, is)) =
        subst (λ (r : List Record). NotHeld r t) (sym is)
        (none_more (start_nodes start) n (records_of start past n) (answer (base_at start n) (records_of start past n) request).added t (subst (AreInPlace (start_nodes start) n) is place) voted none)

-- What a decision rests on

-- the reply came from a node that was up
abbrev pub is_heard : NodeReply → Bool
is_heard reply = not (is_lost reply)

-- the node's yes counts; or a Decide came there before any, and no Prepare since then, or one
abbrev pub Rests : List Entry → Tid → NodeNo → Type 0 → Type 0
Rests es t n P = P ⊎ ((was_decided t n es ≡ true) × ((was_told (is_prepare t) is_done n es ≡ false) ⊎ (prepared_after_decide t n es ≡ true)))

decision_rests : (start : Start) (past : List Entry) (t : Tid) (n : NodeNo) → Kept start past
    → (has_voted (records_of start past n) t ≡ true)
    ⊎ (was_told (is_prepare t) is_done n (client_entries t.client past) ≡ false)
decision_rests start past t n kept = by (was_told (is_prepare t) is_done n (client_entries t.client past)) refl
  where
    by : (b : Bool) → was_told (is_prepare t) is_done n (client_entries t.client past) ≡ b
        → (has_voted (records_of start past n) t ≡ true)
        ⊎ (was_told (is_prepare t) is_done n (client_entries t.client past) ≡ false)
    by true e = inl (kept.yes t.client n t (or_left (was_told (is_prepare t) is_done n (client_entries t.client past)) (was_told (is_force t) is_yes n (client_entries t.client past)) e))
    by false e = inr e

-- It stays so

-- an entry of the list
own_rests : (e : Entry) (es : List Entry) (t : Tid) (n : NodeNo) → was_decided t n es ≡ true
    → (was_told (is_prepare t) is_done n es ≡ false) ⊎ (prepared_after_decide t n es ≡ true)
    → (was_told (is_prepare t) is_done n (e ∷ es) ≡ false)
    ⊎ (prepared_after_decide t n (e ∷ es) ≡ true)
own_rests e es t n decided (inr after) = inr (or_right (list_any (λ (c : Call). node_same c.node n && is_prepare t c.request) (call_in e.node e.what) && was_decided t n es) (prepared_after_decide t n es) after)
own_rests e es t n decided (inl untold) = by (was_told (is_prepare t) is_done n (e ∷ es)) refl
  where
    one : (a b d : Bool) → (a && (b && d)) ≡ true → (a && b) ≡ true
    one true true d h = refl
    one true false d h = absurd cc
    one false b d h = absurd cc

    two : (a b : Bool) → a ≡ true → b ≡ true → (a && b) ≡ true
    two a b f g = cc

    told : (list_any (λ (c : Call). node_same c.node n && (is_prepare t c.request && is_done c.reply)) (call_in e.node e.what) ≡ true) ⊎ (was_told (is_prepare t) is_done n es ≡ true) → prepared_after_decide t n (e ∷ es) ≡ true
    told (inl here) =
        or_left (list_any (λ (c : Call). node_same c.node n && is_prepare t c.request) (call_in e.node e.what) && was_decided t n es) (prepared_after_decide t n es)
        (two (list_any (λ (c : Call). node_same c.node n && is_prepare t c.request) (call_in e.node e.what)) (was_decided t n es)
        (told_weaker (λ (c : Call). node_same c.node n && (is_prepare t c.request && is_done c.reply)) (λ (c : Call). node_same c.node n && is_prepare t c.request) (λ c h. one (node_same c.node n) (is_prepare t c.request) (is_done c.reply) h) (call_in e.node e.what) here) decided)
    told (inr old) = absurd (clash (was_told (is_prepare t) is_done n es) old untold)

    by : (b : Bool) → was_told (is_prepare t) is_done n (e ∷ es) ≡ b
        → (was_told (is_prepare t) is_done n (e ∷ es) ≡ false)
        ⊎ (prepared_after_decide t n (e ∷ es) ≡ true)
    by false h = inl h
    by true h = inr (told (or_cases _ _ (sym (list_any-append (λ (c : Call). node_same c.node n && (is_prepare t c.request && is_done c.reply)) (call_in e.node e.what) (calls_of es)) ∙ h)))

rests_on : (past : List Entry) (e : Entry) (t : Tid) (n : NodeNo) (P Q : Type 0) → (P → Q)
    → Rests (client_entries t.client past) t n P → Rests (client_entries t.client (e ∷ past)) t n Q
rests_on past e t n P Q on (inl p) = inl (on p)
rests_on past e t n P Q on (inr (decided, rest)) =
    inr (
      call_stays past t.client e (λ (c : Call). node_same c.node n && (is_decide t c.request && true)) decided,
      elim (is_by t.client e) as (λ b. (was_told (is_prepare t) is_done n (if b then e ∷ client_entries t.client past else client_entries t.client past) ≡ false) ⊎ (prepared_after_decide t n (if b then e ∷ client_entries t.client past else client_entries t.client past) ≡ true)) [
        | true ↦ own_rests e (client_entries t.client past) t n decided rest
        | false ↦ rest
      ],
    )

-- Heard

-- the node holds nothing of the id, and never will
abbrev pub Released : Start → List Entry → Tid → NodeNo → Type 0
Released start past t n = NotHeld (records_of start past n) t × (has_voted (records_of start past n) t ≡ true)

pub decide_is : (t : Tid) (request : Request) → is_decide t request ≡ true
    → (verdict : Bool) × (request ≡ Ask.Decide t verdict)
decide_is t (Ask.Decide u verdict) e = (verdict, ap (λ (x : Tid). Ask.Decide x verdict) (tid_same-true u t e))
decide_is t (Ask.Prepare u ps part) e = absurd cc
decide_is t (Ask.Exec u part) e = absurd cc
decide_is t (Ask.Force u) e = absurd cc
decide_is t Ask.List e = absurd cc
decide_is t (Ask.Peek at size) e = absurd cc

heard_up : (reply : NodeReply) (P : Type 0) → is_heard reply ≡ true
    → (reply ≡ Say.Stopped) ⊎ ((reply ≡ Say.Down) ⊎ P) → P
heard_up reply P heard (inl stopped) = absurd (never (subst (λ (r : NodeReply). is_heard r ≡ true) stopped heard))
  where
    never : is_heard Say.Stopped ≡ true → ⊥
    never e = cc
heard_up reply P heard (inr (inl down)) = absurd (never (subst (λ (r : NodeReply). is_heard r ≡ true) down heard))
  where
    never : is_heard Say.Down ≡ true → ⊥
    never e = cc
heard_up reply P heard (inr (inr p)) = p

heard_decided : (t : Tid) (n : NodeNo) (es : List Entry)
    → was_told (is_decide t) is_heard n es ≡ true → was_decided t n es ≡ true
heard_decided t n es told =
    told_weaker (λ (c : Call). node_same c.node n && (is_decide t c.request && is_heard c.reply)) (λ (c : Call). node_same c.node n && (is_decide t c.request && true)) (λ c h. one (node_same c.node n) (is_decide t c.request) (is_heard c.reply) h) (calls_of es) told
  where
    one : (a b d : Bool) → (a && (b && d)) ≡ true → (a && (b && true)) ≡ true
    one true true d h = refl
    one true false d h = absurd cc
    one false b d h = absurd cc

pub heard : (start : Start) (past : List Entry) (t : Tid) (n : NodeNo) → StartsSound start
    → FollowsProtocol start past → n.0 < start_nodes start
    → was_told (is_decide t) is_heard n (client_entries t.client past) ≡ true
    → Rests (client_entries t.client past) t n (Released start past t n)
heard start [] t n sound run low told = absurd cc
heard start (e ∷ past) t n sound run low told = by (new_call start past t.client e (λ (c : Call). node_same c.node n && (is_decide t c.request && is_heard c.reply)) run.1 told) (λ old. heard start past t n sound run.0 low old)
  where
    place : AreInPlace (start_nodes start) n (records_of start (e ∷ past) n)
    place = (records_stay_sound start (e ∷ past) sound run).in_place n low

    voted_on : has_voted (records_of start past n) t ≡ true
        → has_voted (records_of start (e ∷ past) n) t ≡ true
    voted_on voted = record_stays start past e n (Rattle.mn_mini.specs.Node.is_vote_of t) voted

    here : (call : Call) → IsCallOf start past t.client e call
        → (node_same call.node n && (is_decide t call.request && is_heard call.reply)) ≡ true
        → Rests (client_entries t.client (e ∷ past)) t n (Released start (e ∷ past) t n)
    here call is passes =
        let node : call.node ≡ n = same_true call.node n (left_true (node_same call.node n) _ passes) in
        let ask = decide_is t call.request (left_true (is_decide t call.request) _ (right_true (node_same call.node n) _ passes)) in
        let up : WasAnswered start past e call = heard_up call.reply (WasAnswered start past e call) (right_true (is_decide t call.request) _ (right_true (node_same call.node n) _ passes)) is.answered in
        let records : records_of start (e ∷ past) n ≡ with_added (answer (base_at start n) (records_of start past n) (Ask.Decide t ask.0)).added (records_of start past n) =
        subst (λ (q : Request). records_of start (e ∷ past) n ≡ with_added (answer (base_at start n) (records_of start past n) q).added (records_of start past n)) ask.1
        (subst (λ (k : NodeNo). records_of start (e ∷ past) k ≡ with_added (answer (base_at start k) (records_of start past k) call.request).added (records_of start past k)) node up.records) in
        let none : NotHeld (records_of start (e ∷ past) n) t = subst (λ (r : List Record). NotHeld r t) (sym records) (after_decide (records_of start past n) t ask.0) in
        finish none (decision_rests start (e ∷ past) t n (kept_run start (e ∷ past) sound run))
      where
        finish : NotHeld (records_of start (e ∷ past) n) t
            → (has_voted (records_of start (e ∷ past) n) t ≡ true)
            ⊎ (was_told (is_prepare t) is_done n (client_entries t.client (e ∷ past)) ≡ false)
            → Rests (client_entries t.client (e ∷ past)) t n (Released start (e ∷ past) t n)
        finish none (inl voted) = inl (none, voted)
        finish none (inr untold) = inr (heard_decided t n (client_entries t.client (e ∷ past)) told, inl untold)

    by : (list_any (λ (c : Call). node_same c.node n && (is_decide t c.request && is_heard c.reply)) (calls_of (client_entries t.client past)) ≡ true)
        ⊎ ((call : Call) × IsCallOf start past t.client e call × ((node_same call.node n && (is_decide t call.request && is_heard call.reply)) ≡ true))
        → (was_told (is_decide t) is_heard n (client_entries t.client past) ≡ true → Rests (client_entries t.client past) t n (Released start past t n)) → Rests (client_entries t.client (e ∷ past)) t n (Released start (e ∷ past) t n)
    by (inl old) deeper = rests_on past e t n (Released start past t n) (Released start (e ∷ past) t n) (λ r. (none_stays start past e n t place r.1 r.0, voted_on r.1)) (deeper old)
    by (inr (call, is, passes)) deeper = here call is passes

-- What an entry of a node does: nothing that counts, a vote, an execution, a decision or a Forced.
use Rattle.std.proofs.Common.{◌≡◌, ◌⊎◌, inl, inr, Bool, true, false, ◌&&◌, ◌||◌, List, [], ◌∷◌, Option, Some, None, refl, subst, sym, ap, ◌∙◌, if◌then◌else◌, length, ◌≤◌, Contains}
use Rattle.std.specs.Bool.{⊤}
use Rattle.std.specs.Prelude.{IsSome}
use Rattle.mn_base.specs.Ids.{node_same}
use Rattle.mn_base.specs.declared.ids.NodeNo.{NodeNo}
use Rattle.mn_base.specs.declared.ids.ClientNo.{ClientNo}
use Rattle.mn_base.specs.declared.ids.Tid.{Tid}
use Rattle.mn_base.proofs.Booleans.{clash, falsely}
use Rattle.mn_mini.specs.declared.part.PartItem.{PartItem}
use Rattle.mn_mini.specs.declared.record.Record.{Record}
use Rattle.mn_mini.specs.declared.record.Record.TheVariants.{Voted, Executed, Decided, Forced}
use Rattle.mn_mini.specs.declared.request.Request.{Request}
use Rattle.mn_mini.specs.declared.request.Request.TheVariants as Ask
use Rattle.mn_mini.specs.declared.reply.NodeReply.{NodeReply}
use Rattle.mn_mini.specs.declared.reply.NodeReply.TheVariants as Say
use Rattle.mn_mini.specs.Mini.{Mini, has_write}
use Rattle.mn_mini.specs.Flat.{Mismatched, part_mismatch_from}
use Rattle.mn_mini.specs.Node.{Clash, held_parts, is_held, clash_of, has_voted, has_executed, has_forced, only_reply, after_locks, after_compares, tested, space_of, answer}
use Rattle.mn_runs.specs.declared.entry.Entry.{Entry}
use Rattle.mn_runs.specs.declared.entry.What.{What}
use Rattle.mn_runs.specs.declared.entry.What.TheVariants.{Begin, Issue, Called, Stopped, Restarted, Abandoned, Answered}
use Rattle.mn_runs.specs.Calls.{Call, is_try, is_done, node_entries, client_entries, issue_named, issues_of}
use Rattle.mn_runs.specs.Nodes.{stopped_request, is_down, added_by, entry_adds}
use Rattle.mn_runs.specs.Clients.{Sends}
use Rattle.mn_runs.specs.Protocol.{Start, base_at, records_of, KeepsProtocol}
use Rattle.mn_runs.specs.Commits.{effect_of}
use Rattle.mn_votes.proofs.Unchanged.{current_issue}
use Rattle.mn_votes.proofs.Backing.{MayList, mini_of, IssuedTo, PartAt, ExecAt, WasTried, Kept}
use Rattle.mn_votes.proofs.Preserved.{voted_tried, executed_tried, new_not_old}

-- a request that takes no effect, or none that commits
abbrev pub IsIdle : Option Request → Type 0
IsIdle None = ⊤
IsIdle (Some (Ask.Prepare tid ps part)) = ⊥
IsIdle (Some (Ask.Exec tid part)) = ⊥
IsIdle (Some request) = ⊤

-- the node takes part in the id, and has not voted for it
abbrev pub IsFirstVote : Start → List Entry → NodeNo → Tid → List NodeNo → List PartItem → Type 0
IsFirstVote start past k t ps part = (has_voted (records_of start past k) t ≡ false) × IssuedTo past t ps × PartAt past t k part

-- the node is the one participant of the id, and has not executed it
abbrev pub IsFirstExec : Start → List Entry → NodeNo → Tid → List PartItem → Type 0
IsFirstExec start past k t part = (has_executed (records_of start past k) t ≡ false) × ExecAt past t k part

-- what an entry of the node does: what takes effect, and the record that it adds
pub data Act (start : Start) (past : List Entry) (k : NodeNo) : Option Request → Option Record → Type 0 where
  idle : (eff : Option Request) → IsIdle eff → Act start past k eff None
  votes : (t : Tid) (ps : List NodeNo) (part : List PartItem) → has_forced (records_of start past k) t ≡ false → clash_of (held_parts (records_of start past k)) t part ≡ None → part_mismatch_from (space_of (base_at start k) (records_of start past k)) 0 part ≡ None
      → IsFirstVote start past k t ps part → Act start past k (Some (Ask.Prepare t ps part)) (Some (Voted t ps part))
  executes : (t : Tid) (part : List PartItem) → clash_of (held_parts (records_of start past k)) t part ≡ None → part_mismatch_from (space_of (base_at start k) (records_of start past k)) 0 part ≡ None
      → IsFirstExec start past k t part → Act start past k (Some (Ask.Exec t part)) (if has_write part then Some (Executed t part) else None)
  decides : (eff : Option Request) (t : Tid) (verdict : Bool) → IsIdle eff → is_held (records_of start past k) t ≡ true → Act start past k eff (Some (Decided t verdict))
  forces : (eff : Option Request) (t : Tid) → IsIdle eff → has_voted (records_of start past k) t ≡ false → has_forced (records_of start past k) t ≡ false → (ps : List NodeNo) → MayList start past t ps → Act start past k eff (Some (Forced t))

-- what is known of a Prepare that is sent or pending, and of an Exec
pub record Sides (start : Start) (past : List Entry) (k : NodeNo) (request : Request) : Type 0 where
  pub unvoted : (t : Tid) (ps : List NodeNo) (part : List PartItem) → request ≡ Ask.Prepare t ps part → IsFirstVote start past k t ps part
  pub exec : (t : Tid) (part : List PartItem) → request ≡ Ask.Exec t part → IsFirstExec start past k t part
  pub force : (t : Tid) → request ≡ Ask.Force t → (ps : List NodeNo) × MayList start past t ps

act_decide : (start : Start) (past : List Entry) (k : NodeNo) (eff : Option Request) (t : Tid) (verdict : Bool) → IsIdle eff → Act start past k eff (if is_held (records_of start past k) t then Some (Decided t verdict) else None)
act_decide start past k eff t verdict none =
    elim (is_held (records_of start past k) t) as (λ b. is_held (records_of start past k) t ≡ b → Act start past k eff (if b then Some (Decided t verdict) else None)) [
      | true ↦ λ e. decides eff t verdict none e
      | false ↦ λ _. idle eff none
    ] refl

act_force : (start : Start) (past : List Entry) (k : NodeNo) (eff : Option Request) (t : Tid) → IsIdle eff → (ps : List NodeNo) → MayList start past t ps → (voted been : Bool) → has_voted (records_of start past k) t ≡ voted → has_forced (records_of start past k) t ≡ been
    → Act start past k eff (if voted then only_reply (Say.Vote true) else record { reply = Say.Vote false; added = if been then None else Some (Forced t) }).added
act_force start past k eff t none ps may true been v b = idle eff none
act_force start past k eff t none ps may false true v b = idle eff none
act_force start past k eff t none ps may false false v b = forces eff t none v b ps may

-- a request that was called
act_called : (start : Start) (past : List Entry) (k : NodeNo) (request : Request) → Sides start past k request
    → Act start past k (if is_done (answer (base_at start k) (records_of start past k) request).reply then Some request else None) (answer (base_at start k) (records_of start past k) request).added
act_called start past k (Ask.Prepare t ps part) sides =
    elim (has_forced (records_of start past k) t) as (λ b. has_forced (records_of start past k) t ≡ b → Act start past k (if is_done (if b then only_reply Say.BadForced else tested (base_at start k) (records_of start past k) t part (Some (Voted t ps part))).reply then Some (Ask.Prepare t ps part) else None) (if b then only_reply Say.BadForced else tested (base_at start k) (records_of start past k) t part (Some (Voted t ps part))).added) [
      | true ↦ λ _. idle None tt
      | false ↦ λ unforced. locks unforced (clash_of (held_parts (records_of start past k)) t part) refl
    ] refl
  where
    compares : has_forced (records_of start past k) t ≡ false → clash_of (held_parts (records_of start past k)) t part ≡ None → (o : Option Mismatched) → part_mismatch_from (space_of (base_at start k) (records_of start past k)) 0 part ≡ o
        → Act start past k (if is_done (after_compares (space_of (base_at start k) (records_of start past k)) part (Some (Voted t ps part)) o).reply then Some (Ask.Prepare t ps part) else None) (after_compares (space_of (base_at start k) (records_of start past k)) part (Some (Voted t ps part)) o).added
    compares unforced free (Some at) e = idle None tt
    compares unforced free None e = votes t ps part unforced free e (sides.unvoted t ps part refl)

    locks : has_forced (records_of start past k) t ≡ false → (o : Option Clash) → clash_of (held_parts (records_of start past k)) t part ≡ o
        → Act start past k (if is_done (after_locks (space_of (base_at start k) (records_of start past k)) part (Some (Voted t ps part)) o).reply then Some (Ask.Prepare t ps part) else None) (after_locks (space_of (base_at start k) (records_of start past k)) part (Some (Voted t ps part)) o).added
    locks unforced (Some at) e = idle None tt
    locks unforced None e = compares unforced e (part_mismatch_from (space_of (base_at start k) (records_of start past k)) 0 part) refl
act_called start past k (Ask.Exec t part) sides = locks (clash_of (held_parts (records_of start past k)) t part) refl
  where
    compares : clash_of (held_parts (records_of start past k)) t part ≡ None → (o : Option Mismatched) → part_mismatch_from (space_of (base_at start k) (records_of start past k)) 0 part ≡ o
        → Act start past k (if is_done (after_compares (space_of (base_at start k) (records_of start past k)) part (if has_write part then Some (Executed t part) else None) o).reply then Some (Ask.Exec t part) else None) (after_compares (space_of (base_at start k) (records_of start past k)) part (if has_write part then Some (Executed t part) else None) o).added
    compares free (Some at) e = idle None tt
    compares free None e = executes t part free e (sides.exec t part refl)

    locks : (o : Option Clash) → clash_of (held_parts (records_of start past k)) t part ≡ o
        → Act start past k (if is_done (after_locks (space_of (base_at start k) (records_of start past k)) part (if has_write part then Some (Executed t part) else None) o).reply then Some (Ask.Exec t part) else None) (after_locks (space_of (base_at start k) (records_of start past k)) part (if has_write part then Some (Executed t part) else None) o).added
    locks (Some at) e = idle None tt
    locks None e = compares e (part_mismatch_from (space_of (base_at start k) (records_of start past k)) 0 part) refl
act_called start past k (Ask.Decide t verdict) sides = act_decide start past k None t verdict tt
act_called start past k (Ask.Force t) sides = forced (has_voted (records_of start past k) t) (has_forced (records_of start past k) t) refl refl
  where
    forced : (voted been : Bool) → has_voted (records_of start past k) t ≡ voted → has_forced (records_of start past k) t ≡ been
        → Act start past k (if is_done (if voted then only_reply (Say.Vote true) else record { reply = Say.Vote false; added = if been then None else Some (Forced t) }).reply then Some (Ask.Force t) else None) (if voted then only_reply (Say.Vote true) else record { reply = Say.Vote false; added = if been then None else Some (Forced t) }).added
    forced true been v b = idle None tt
    forced false been v b = let f = sides.force t refl in act_force start past k None t tt f.0 f.1 false been v b
act_called start past k Ask.List sides = idle None tt
act_called start past k (Ask.Peek at n) sides = idle None tt

-- a stopped request whose record a restart kept
act_kept : (start : Start) (past : List Entry) (k : NodeNo) (request : Request) → Sides start past k request → IsSome (answer (base_at start k) (records_of start past k) request).added
    → Act start past k (Some request) (answer (base_at start k) (records_of start past k) request).added
act_kept start past k (Ask.Prepare t ps part) sides some =
    elim (has_forced (records_of start past k) t) as (λ b. has_forced (records_of start past k) t ≡ b → IsSome (if b then only_reply Say.BadForced else tested (base_at start k) (records_of start past k) t part (Some (Voted t ps part))).added → Act start past k (Some (Ask.Prepare t ps part)) (if b then only_reply Say.BadForced else tested (base_at start k) (records_of start past k) t part (Some (Voted t ps part))).added) [
      | true ↦ λ _ s. absurd cc
      | false ↦ λ unforced. locks unforced (clash_of (held_parts (records_of start past k)) t part) refl
    ] refl some
  where
    compares : has_forced (records_of start past k) t ≡ false → clash_of (held_parts (records_of start past k)) t part ≡ None → (o : Option Mismatched) → part_mismatch_from (space_of (base_at start k) (records_of start past k)) 0 part ≡ o
        → IsSome (after_compares (space_of (base_at start k) (records_of start past k)) part (Some (Voted t ps part)) o).added → Act start past k (Some (Ask.Prepare t ps part)) (after_compares (space_of (base_at start k) (records_of start past k)) part (Some (Voted t ps part)) o).added
    compares unforced free (Some at) e s = absurd cc
    compares unforced free None e s = votes t ps part unforced free e (sides.unvoted t ps part refl)

    locks : has_forced (records_of start past k) t ≡ false → (o : Option Clash) → clash_of (held_parts (records_of start past k)) t part ≡ o
        → IsSome (after_locks (space_of (base_at start k) (records_of start past k)) part (Some (Voted t ps part)) o).added → Act start past k (Some (Ask.Prepare t ps part)) (after_locks (space_of (base_at start k) (records_of start past k)) part (Some (Voted t ps part)) o).added
    locks unforced (Some at) e s = absurd cc
    locks unforced None e s = compares unforced e (part_mismatch_from (space_of (base_at start k) (records_of start past k)) 0 part) refl s
act_kept start past k (Ask.Exec t part) sides some = locks (clash_of (held_parts (records_of start past k)) t part) refl some
  where
    compares : clash_of (held_parts (records_of start past k)) t part ≡ None → (o : Option Mismatched) → part_mismatch_from (space_of (base_at start k) (records_of start past k)) 0 part ≡ o
        → IsSome (after_compares (space_of (base_at start k) (records_of start past k)) part (if has_write part then Some (Executed t part) else None) o).added → Act start past k (Some (Ask.Exec t part)) (after_compares (space_of (base_at start k) (records_of start past k)) part (if has_write part then Some (Executed t part) else None) o).added
    compares free (Some at) e s = absurd cc
    compares free None e s = executes t part free e (sides.exec t part refl)

    locks : (o : Option Clash) → clash_of (held_parts (records_of start past k)) t part ≡ o
        → IsSome (after_locks (space_of (base_at start k) (records_of start past k)) part (if has_write part then Some (Executed t part) else None) o).added → Act start past k (Some (Ask.Exec t part)) (after_locks (space_of (base_at start k) (records_of start past k)) part (if has_write part then Some (Executed t part) else None) o).added
    locks (Some at) e s = absurd cc
    locks None e s = compares e (part_mismatch_from (space_of (base_at start k) (records_of start past k)) 0 part) refl s
act_kept start past k (Ask.Decide t verdict) sides some = act_decide start past k (Some (Ask.Decide t verdict)) t verdict tt
act_kept start past k (Ask.Force t) sides some = let f = sides.force t refl in act_force start past k (Some (Ask.Force t)) t tt f.0 f.1 (has_voted (records_of start past k) t) (has_forced (records_of start past k) t) refl refl
act_kept start past k Ask.List sides some = idle (Some Ask.List) tt
act_kept start past k (Ask.Peek at n) sides some = idle (Some (Ask.Peek at n)) tt

-- a pending Prepare has not voted
abbrev pub PendingUnvoted : Start → List Entry → Type 0
PendingUnvoted start past = (k : NodeNo) (t : Tid) (ps : List NodeNo) (part : List PartItem) → is_down (node_entries k past) ≡ true → stopped_request (node_entries k past) ≡ Some (Ask.Prepare t ps part) → has_voted (records_of start past k) t ≡ false

-- a pending Exec has not executed
abbrev pub PendingUnexecuted : Start → List Entry → Type 0
PendingUnexecuted start past = (k : NodeNo) (t : Tid) (part : List PartItem) → is_down (node_entries k past) ≡ true → stopped_request (node_entries k past) ≡ Some (Ask.Exec t part) → has_executed (records_of start past k) t ≡ false

-- a call that was told something was sent
pub told_sent : (ask : Request → Bool) (say : NodeReply → Bool) (n : NodeNo) (calls : List Call) → Rattle.std.specs.List.list_any (λ c. node_same c.node n && (ask c.request && say c.reply)) calls ≡ true → Rattle.std.specs.List.list_any (λ c. node_same c.node n && (ask c.request && true)) calls ≡ true
told_sent ask say n [] e = absurd cc
told_sent ask say n (c ∷ cs) e = step (node_same c.node n) (ask c.request) (say c.reply) _ _ (told_sent ask say n cs) e
  where
    step : (a b s x y : Bool) → (x ≡ true → y ≡ true) → ((a && (b && s)) || x) ≡ true → ((a && (b && true)) || y) ≡ true
    step true true true x y f h = refl
    step true true false x y f h = refl
    step true false s x y f h = f h
    step false b s x y f h = f h

-- a Prepare that may be sent has not voted
pub sent_unvoted : (start : Start) (past : List Entry) (c : ClientNo) (k : NodeNo) (request : Request) → Kept start past → Sends (client_entries c past) (Some k) request → Sides start past k request
sent_unvoted start past c k request kept sends = record {
  unvoted = λ t ps part is. first t ps part (subst (λ (q : Request). Sends (client_entries c past) (Some k) q) is sends);
  exec = λ t part is. executed t part (subst (λ (q : Request). Sends (client_entries c past) (Some k) q) is sends);
  force = λ t is. listed t (subst (λ (q : Request). Sends (client_entries c past) (Some k) q) is sends);
}
  where
    mine : (t : Tid) (mini : Mini) → issue_named t (issues_of (Rattle.mn_runs.specs.Calls.since_begin (client_entries c past))) ≡ Some mini → (t.client ≡ c) × (mini_of past t ≡ Some mini)
    mine t mini is =
        let h = current_issue (client_entries c past) t mini is in
        let own = (kept.issued c t mini h).0 in
        (own, subst (λ (d : ClientNo). issue_named t (issues_of (client_entries d past)) ≡ Some mini) (sym own) h)

    prepared : (t : Tid) (ps : List NodeNo) (part : List PartItem) → Sends (client_entries c past) (Some k) (Ask.Prepare t ps part) → has_voted (records_of start past k) t ≡ false
    prepared t ps part s = elim (true_or_false (has_voted (records_of start past k) t)) as (λ _. has_voted (records_of start past k) t ≡ false) [
      | inr h ↦ h
      | inl h ↦ absurd (tried (voted_tried start past k t (records_of start past k) (new_not_old start past c t s.mini kept (current_issue (client_entries c past) t s.mini s.issued)) (kept.records k) h))
    ]
      where
        true_or_false : (b : Bool) → (b ≡ true) ⊎ (b ≡ false)
        true_or_false true = inl refl
        true_or_false false = inr refl

        unsent : Rattle.mn_runs.specs.Calls.was_sent t k (client_entries t.client past) ≡ false
        unsent = subst (λ (d : ClientNo). Rattle.mn_runs.specs.Calls.was_sent t k (client_entries d past) ≡ false) (sym (mine t s.mini s.issued).0) s.once

        tried : WasTried past t k → ⊥
        tried (inl h) = clash _ (told_sent (is_try t) is_done k (Rattle.mn_runs.specs.Calls.calls_of (client_entries t.client past)) h) unsent
        tried (inr h) = clash _ (told_sent (is_try t) Rattle.mn_runs.specs.Calls.is_stopped k (Rattle.mn_runs.specs.Calls.calls_of (client_entries t.client past)) h) unsent

    first : (t : Tid) (ps : List NodeNo) (part : List PartItem) → Sends (client_entries c past) (Some k) (Ask.Prepare t ps part) → IsFirstVote start past k t ps part
    first t ps part s =
        let is = (mine t s.mini s.issued).1 in
        (prepared t ps part s, (s.mini, is, s.all), (s.mini, is, s.own_part, subst (λ (x : List NodeNo). Contains x k) s.all s.named, subst (λ (x : List NodeNo). 2 ≤ length x) s.all s.several))

    executed : (t : Tid) (part : List PartItem) → Sends (client_entries c past) (Some k) (Ask.Exec t part) → IsFirstExec start past k t part
    executed t part s = (falsely _ (λ x. tried (executed_tried start past k t (records_of start past k) (new_not_old start past c t s.mini kept (current_issue (client_entries c past) t s.mini s.issued)) (kept.records k) x)), (s.mini, (mine t s.mini s.issued).1, s.own_part, s.alone))
      where
        unsent : Rattle.mn_runs.specs.Calls.was_sent t k (client_entries t.client past) ≡ false
        unsent = subst (λ (d : ClientNo). Rattle.mn_runs.specs.Calls.was_sent t k (client_entries d past) ≡ false) (sym (mine t s.mini s.issued).0) s.once

        tried : WasTried past t k → ⊥
        tried (inl h) = clash _ (told_sent (is_try t) is_done k (Rattle.mn_runs.specs.Calls.calls_of (client_entries t.client past)) h) unsent
        tried (inr h) = clash _ (told_sent (is_try t) Rattle.mn_runs.specs.Calls.is_stopped k (Rattle.mn_runs.specs.Calls.calls_of (client_entries t.client past)) h) unsent

    listed : (t : Tid) → Sends (client_entries c past) (Some k) (Ask.Force t) → (ps : List NodeNo) × MayList start past t ps
    listed t s = (s.1.0, kept.listed c t s.1.0 s.1.1)

-- what an entry of the node does
pub act_here : (start : Start) (past : List Entry) (by : Option ClientNo) (k : NodeNo) (what : What) → Kept start past → PendingUnvoted start past → PendingUnexecuted start past → KeepsProtocol start past (record { node = Some k; client = by; what = what })
    → Act start past k (effect_of (node_entries k past) what) (entry_adds (base_at start k) (records_of start past k) (is_down (node_entries k past)) (stopped_request (node_entries k past)) what)
act_here start past None k (Called request reply) kept pending once keeps = absurd keeps.by_client
act_here start past (Some c) k (Called request reply) kept pending once keeps = called (is_down (node_entries k past)) keeps.at_node.1
  where
    called : (down : Bool) → reply ≡ (if down then Say.Down else (answer (base_at start k) (records_of start past k) request).reply)
        → Act start past k (if is_done reply then Some request else None) (if down then None else (answer (base_at start k) (records_of start past k) request).added)
    called true e = subst (λ (r : NodeReply). Act start past k (if is_done r then Some request else None) None) (sym e) (idle None tt)
    called false e = subst (λ (r : NodeReply). Act start past k (if is_done r then Some request else None) (answer (base_at start k) (records_of start past k) request).added) (sym e) (act_called start past k request (sent_unvoted start past c k request kept keeps.by_client))
act_here start past by k (Restarted true) kept pending once keeps = restarted (stopped_request (node_entries k past)) refl keeps.at_node.1.1
  where
    sides : (request : Request) → stopped_request (node_entries k past) ≡ Some request → Sides start past k request
    sides request is = record {
      unvoted = λ t ps part eq. let st = is ∙ ap (λ (q : Request). Some q) eq in let sound = kept.pending k (Ask.Prepare t ps part) st in (pending k t ps part keeps.at_node.1.0 st, sound.0, sound.2);
      exec = λ t part eq. let st = is ∙ ap (λ (q : Request). Some q) eq in (once k t part keeps.at_node.1.0 st, (kept.pending k (Ask.Exec t part) st).1);
      force = λ t eq. kept.pending k (Ask.Force t) (is ∙ ap (λ (q : Request). Some q) eq);
    }

    restarted : (o : Option Request) → stopped_request (node_entries k past) ≡ o → IsSome (added_by (base_at start k) (records_of start past k) o) → Act start past k o (added_by (base_at start k) (records_of start past k) o)
    restarted None is some = idle None tt
    restarted (Some request) is some = act_kept start past k request (sides request is) some
act_here start past by k (Restarted false) kept pending once keeps = idle None tt
act_here start past by k (Stopped request asked) kept pending once keeps = idle None tt
act_here start past by k (Begin number op) kept pending once keeps = idle None tt
act_here start past by k (Issue t mini) kept pending once keeps = idle None tt
act_here start past by k (Abandoned t) kept pending once keeps = idle None tt
act_here start past by k (Answered number answer) kept pending once keeps = idle None tt

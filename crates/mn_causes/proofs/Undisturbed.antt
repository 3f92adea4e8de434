-- While each node is up, no operation is answered Down or InDoubt.
use Rattle.std.proofs.Common.{◌≡◌, ℕ, ◌⊎◌, inl, inr, Bool, true, false, not, ◌&&◌, ◌||◌, List, [], ◌∷◌, ◌++◌, Option, Some, None, refl, subst, sym, ap, ◌∙◌, if◌then◌else◌}
use Rattle.std.specs.List.{list_any}
use Rattle.std.proofs.lemmas.List.{append_assoc}
use Rattle.std.proofs.lemmas.List.Folds.{list_any-append}
use Rattle.mn_base.specs.Ids.{node_same}
use Rattle.mn_base.specs.declared.ids.NodeNo.{NodeNo}
use Rattle.mn_base.specs.declared.ids.ClientNo.{ClientNo}
use Rattle.mn_base.specs.declared.ids.Tid.{Tid}
use Rattle.mn_base.specs.declared.op.Op.{Op}
use Rattle.mn_base.specs.declared.answer.Answer.{Answer}
use Rattle.mn_base.specs.declared.answer.Answer.TheVariants.{Replied, Busy as GaveUp, Down, InDoubt, Full, Worn, NoMemory}
use Rattle.mn_base.proofs.Booleans.{clash, or_cases}
use Rattle.mn_mini.specs.declared.part.PartItem.{PartItem}
use Rattle.mn_mini.specs.declared.record.Record.{Record}
use Rattle.mn_mini.specs.declared.request.Request.{Request}
use Rattle.mn_mini.specs.declared.request.Request.TheVariants as Ask
use Rattle.mn_mini.specs.declared.reply.NodeReply.{NodeReply}
use Rattle.mn_mini.specs.declared.reply.NodeReply.TheVariants as Say
use Rattle.mn_mini.specs.Mini.{has_write}
use Rattle.mn_mini.specs.Flat.{part_mismatch_from}
use Rattle.mn_mini.specs.Node.{Clash, clash_of, held_parts, has_voted, has_forced, only_reply, after_locks, after_compares, tested, space_of, answer}
use Rattle.mn_mini.specs.declared.record.Record.TheVariants.{Voted, Executed, Forced}
use Rattle.mn_mini.proofs.Parts.{same_self}
use Rattle.mn_runs.specs.declared.entry.Entry.{Entry}
use Rattle.mn_runs.specs.declared.entry.What.{What}
use Rattle.mn_runs.specs.declared.entry.What.TheVariants.{Begin, Issue, Called, Stopped, Restarted, Abandoned, Answered}
use Rattle.mn_runs.specs.Calls.{Call, Begun, call_in, calls_of, is_by, is_exec, is_prepare, is_last_of, is_down_reply, is_stopped, node_entries, client_entries, since_begin, since_begin_after, under_way, under_way_after}
use Rattle.mn_runs.specs.Nodes.{is_down}
use Rattle.mn_law.specs.Answers.{ShowsAnswer, is_down_cause, is_doubt_cause, is_any_decide, is_any_prepare}
use Rattle.mn_runs.specs.Protocol.{Start, base_at, records_of, KeepsProtocol, FollowsProtocol}
use Rattle.mn_serial.specs.Meaning.{BeginsOp}
use Rattle.mn_runs.specs.Protocol.{AreUp}
use Rattle.mn_causes.specs.Undisturbed.{UpThroughout, IsOfUpNodes, UpIsSure}
use Rattle.mn_law.proofs.MakeRun.{runs_follow_protocol}
use Rattle.mn_runs.proofs.Prefixes.{older_follows}
use Rattle.mn_serial.proofs.Meaning.Prefixes.{keeps_there}
use Rattle.mn_serial.proofs.Meaning.Clients.{Allowed, client_allowed, same_op}
use Rattle.mn_serial.proofs.Meaning.Positions.{client_split, is_own}
use Rattle.mn_serial.proofs.Meaning.Answered.{ShownAnswer, shown_answer}

-- What a node that is up answers

abbrev is_none : NodeReply → Bool
is_none reply = is_down_reply reply || is_stopped reply

tested_up : (space : List ℕ) (part : List PartItem) (added : Option Record) (o : Option Clash)
    → is_none (after_locks space part added o).reply ≡ false
tested_up space part added (Some c) = refl
tested_up space part added None = elim (part_mismatch_from space 0 part) as (λ m. is_none (after_compares space part added m).reply ≡ false) [ Some at ↦ refl | None ↦ refl ]

answer_up : (base : List ℕ) (records : List Record) (request : Request)
    → is_none (answer base records request).reply ≡ false
answer_up base records (Ask.Prepare tid ps part) =
    elim (has_forced records tid) as (λ b. is_none (if b then only_reply Say.BadForced else tested base records tid part (Some (Voted tid ps part))).reply ≡ false) [
      | true ↦ refl
      | false ↦ tested_up (space_of base records) part (Some (Voted tid ps part)) (clash_of (held_parts records) tid part)
    ]
answer_up base records (Ask.Exec tid part) = tested_up (space_of base records) part (if has_write part then Some (Executed tid part) else None) (clash_of (held_parts records) tid part)
answer_up base records (Ask.Decide tid verdict) = refl
answer_up base records (Ask.Force tid) =
    elim (has_voted records tid) as (λ b. is_none (if b then only_reply (Say.Vote true) else record { reply = Say.Vote false; added = if has_forced records tid then None else Some (Forced tid) }).reply ≡ false) [
      | true ↦ refl
      | false ↦ refl
    ]
answer_up base records Ask.List = refl
answer_up base records (Ask.Peek at length) = refl

-- a call that was not answered, at an entry with each node up before and after it
no_call : (f : Call → Bool) → f ≡ f → list_any f [] ≡ true → ⊥
no_call f same e = cc

lone_call : (f : Call → Bool) (c : Call) → list_any f (c ∷ []) ≡ true → f c ≡ true
lone_call f c e = by (or_cases (f c) false e)
  where
    by : (f c ≡ true) ⊎ (false ≡ true) → f c ≡ true
    by (inl h) = h
    by (inr h) = absurd cc

down_call : (start : Start) (past : List Entry) (by : Option ClientNo) (at : Option NodeNo) (what : What) (f : Call → Bool) → ((c : Call) → f c ≡ true → is_none c.reply ≡ true) → KeepsProtocol start past (record { node = at; client = by; what = what })
    → AreUp start past → AreUp start (record { node = at; client = by; what = what } ∷ past)
    → list_any f (call_in at what) ≡ true → ⊥
down_call start past by None what f fails keeps up after any = no_call f refl any
down_call start past by (Some k) (Called request reply) f fails keeps up after any =
    let said : reply ≡ (answer (base_at start k) (records_of start past k) request).reply =
    subst (λ (b : Bool). reply ≡ (if b then Say.Down else (answer (base_at start k) (records_of start past k) request).reply)) (up k keeps.at_node.0) keeps.at_node.1 in
    clash (is_none reply) (fails (record { node = k; request = request; reply = reply }) (lone_call f (record { node = k; request = request; reply = reply }) any))
    (ap is_none said ∙ answer_up (base_at start k) (records_of start past k) request)
down_call start past by (Some k) (Stopped (Some request) asked) f fails keeps up after any =
    let e : Entry = record { node = Some k; client = by; what = Stopped (Some request) asked } in
    let still : is_down (e ∷ node_entries k past) ≡ false = subst (λ (b : Bool). is_down (if b then e ∷ node_entries k past else node_entries k past) ≡ false) (same_self k) (after k keeps.at_node.0) in
    clash true refl still
down_call start past by (Some k) (Stopped None asked) f fails keeps up after any = no_call f refl any
down_call start past by (Some k) (Restarted restored) f fails keeps up after any = no_call f refl any
down_call start past by (Some k) (Begin number op) f fails keeps up after any = no_call f refl any
down_call start past by (Some k) (Issue tid mini) f fails keeps up after any = no_call f refl any
down_call start past by (Some k) (Abandoned tid) f fails keeps up after any = no_call f refl any
down_call start past by (Some k) (Answered number a) f fails keeps up after any = no_call f refl any

-- The calls of an operation

-- an entry of these with such a call
record CallIn (f : Call → Bool) (es : List Entry) : Type 0 where
  newer : List Entry
  entry : Entry
  older : List Entry
  split : es ≡ newer ++ entry ∷ older
  call : list_any f (call_in entry.node entry.what) ≡ true

call_more : (f : Call → Bool) (e : Entry) (es : List Entry) → CallIn f es → CallIn f (e ∷ es)
call_more f e es c = record { newer = e ∷ c.newer; entry = c.entry; older = c.older; split = ap (λ (l : List Entry). e ∷ l) c.split; call = c.call }

some_call : (f : Call → Bool) (c : ClientNo) (es : List Entry)
    → list_any f (calls_of (client_entries c es)) ≡ true → CallIn f es
some_call f c [] any = absurd (no_call f refl any)
some_call f c (e ∷ es) any =
    elim (is_by c e) as (λ b. list_any f (calls_of (if b then e ∷ client_entries c es else client_entries c es)) ≡ true → CallIn f (e ∷ es)) [
      | true ↦ λ h. by (or_cases (list_any f (call_in e.node e.what)) (list_any f (calls_of (client_entries c es))) (sym (list_any-append f (call_in e.node e.what) (calls_of (client_entries c es))) ∙ h)) (some_call f c es)
      | false ↦ λ h. call_more f e es (some_call f c es h)
    ] any
  where
    by : (list_any f (call_in e.node e.what) ≡ true)
        ⊎ (list_any f (calls_of (client_entries c es)) ≡ true)
        → (list_any f (calls_of (client_entries c es)) ≡ true → CallIn f es) → CallIn f (e ∷ es)
    by (inl here) older = record { newer = []; entry = e; older = es; split = refl; call = here }
    by (inr there) older = call_more f e es (older there)

nil_right : (xs : List Entry) → xs ++ [] ≡ xs
nil_right [] = refl
nil_right (x ∷ xs) = ap (λ (l : List Entry). x ∷ l) (nil_right xs)

pub none_fails : (start : Start) (between base : List Entry) (c : ClientNo) (f : Call → Bool)
    → ((call : Call) → f call ≡ true → is_none call.reply ≡ true)
    → FollowsProtocol start (between ++ base) → UpThroughout start between base
    → list_any f (calls_of (client_entries c between)) ≡ true → ⊥
none_fails start between base c f fails run up any =
    let i = some_call f c between any in
    let there : between ++ base ≡ i.newer ++ i.entry ∷ (i.older ++ base) = ap (λ (l : List Entry). l ++ base) i.split ∙ append_assoc i.newer (i.entry ∷ i.older) base in
    down_call start (i.older ++ base) i.entry.client i.entry.node i.entry.what f fails (keeps_there start (between ++ base) i.newer i.entry (i.older ++ base) there run)
    (up (i.newer ++ i.entry ∷ []) i.older (i.split ∙ sym (append_assoc i.newer (i.entry ∷ []) i.older))) (up i.newer (i.entry ∷ i.older) i.split) i.call

-- the entries since Begin
pub since_here : (start : Start) (between before : List Entry) (begins : Entry) (c : ClientNo) (number : ℕ) (op : Op) (d : Begun) → FollowsProtocol start (between ++ begins ∷ before) → BeginsOp begins c number op
    → under_way (client_entries c (between ++ begins ∷ before)) ≡ Some d → number ≡ d.number
    → since_begin (client_entries c (between ++ begins ∷ before)) ≡ client_entries c between
since_here start between before begins c number op d run is now same =
    let list = client_split c (between ++ begins ∷ before) between begins before refl (is_own c begins is.0) in
    let allowed : Allowed c (client_entries c between ++ begins ∷ client_entries c before) = subst (Allowed c) list (client_allowed start (between ++ begins ∷ before) c run) in
    let begun : under_way (begins ∷ client_entries c before) ≡ Some (record { number = number; op = op }) = ap (λ (w : What). under_way_after w (under_way (client_entries c before))) is.1 in
    let none : since_begin (begins ∷ client_entries c before) ≡ [] = ap (λ (w : What). since_begin_after w begins (since_begin (client_entries c before))) is.1 in
    let still = same_op c (record { number = number; op = op }) d (client_entries c between) (begins ∷ client_entries c before) allowed begun (ap under_way (sym list) ∙ now) same in
    ap since_begin list ∙ (still.since ∙ (ap (λ (l : List Entry). client_entries c between ++ l) none ∙ nil_right (client_entries c between)))

down_fails : (n : NodeNo) (call : Call) → is_down_cause n call ≡ true → is_none call.reply ≡ true
down_fails n call e = by (node_same call.node n) (is_down_reply call.reply) (not (is_any_decide call.request)) (is_stopped call.reply) (is_any_prepare call.request && not (is_last_of call.node call.request)) e
  where
    by : (a d q s p : Bool) → (a && ((d && q) || (s && p))) ≡ true → (d || s) ≡ true
    by true true q s p e = refl
    by true false q true p e = refl
    by true false q false p e = absurd cc
    by false d q s p e = absurd cc

doubt_fails : (n : NodeNo) (tid : Tid) (call : Call) → is_doubt_cause n tid call ≡ true
    → is_none call.reply ≡ true
doubt_fails n tid call e = by (node_same call.node n) (is_down_reply call.reply) (is_stopped call.reply) (is_exec tid call.request || (is_prepare tid call.request && is_last_of n call.request)) e
  where
    by : (a d s p : Bool) → (a && (s && p)) ≡ true → (d || s) ≡ true
    by true true s p e = refl
    by true false true p e = refl
    by true false false p e = absurd cc
    by false d s p e = absurd cc

pub up_is_sure : UpIsSure
up_is_sure start store past later between before begins answers c number op answer h split is says up =
    by answer s.shows
  where
    run : FollowsProtocol start past
    run = runs_follow_protocol start past h.run

    here : FollowsProtocol start (between ++ begins ∷ before)
    here = (older_follows start later (answers ∷ (between ++ begins ∷ before)) (subst (FollowsProtocol start) split run)).0

    s : ShownAnswer past c number answer (record { at = record { entry = answers; later = later; before = between ++ begins ∷ before; split = split; by = says.0 }; answers = says.1 })
    s = shown_answer start past c number answer (record { at = record { entry = answers; later = later; before = between ++ begins ∷ before; split = split; by = says.0 }; answers = says.1 }) h.run

    since : since_begin (client_entries c (between ++ begins ∷ before)) ≡ client_entries c between
    since = since_here start between before begins c number op (record { number = number; op = s.op }) here is s.now refl

    none : (f : Call → Bool) → ((call : Call) → f call ≡ true → is_none call.reply ≡ true)
        → list_any f (calls_of (since_begin (client_entries c (between ++ begins ∷ before)))) ≡ true
        → ⊥
    none f fails any = none_fails start between (begins ∷ before) c f fails here up (ap (λ (l : List Entry). list_any f (calls_of l)) (sym since) ∙ any)

    by : (a : Answer)
        → ShowsAnswer (client_entries c (between ++ begins ∷ before)) (since_begin (client_entries c (between ++ begins ∷ before))) s.op a → IsOfUpNodes a
    by (Down n) shows = none (is_down_cause n) (down_fails n) shows.1
    by (InDoubt tid n) shows = none (is_doubt_cause n tid) (doubt_fails n tid) shows.4
    by (Replied reply) shows = tt
    by (GaveUp busy) shows = tt
    by (Full need free) shows = tt
    by (Worn n place) shows = tt
    by NoMemory shows = tt

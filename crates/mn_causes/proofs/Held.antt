-- A lock that an operation met was held by another id.
use Rattle.std.proofs.Common.{◌≡◌, ℕ, zero, suc, ◌⊎◌, inl, inr, Bool, true, false, not, ◌&&◌, ◌||◌, List, [], ◌∷◌, ◌++◌, length, Option, Some, None, refl, subst, sym, ap, ◌∙◌, arith, if◌then◌else◌, Contains}
use Rattle.std.proofs.lemmas.List.{append_assoc}
use Rattle.mn_base.specs.Ids.{tid_same, tid_lt}
use Rattle.mn_base.specs.Store.{Store}
use Rattle.mn_base.specs.declared.ids.NodeNo.{NodeNo}
use Rattle.mn_base.specs.declared.ids.ClientNo.{ClientNo}
use Rattle.mn_base.specs.declared.ids.Tid.{Tid}
use Rattle.mn_base.specs.declared.answer.Busy.TheVariants.{Lock}
use Rattle.mn_mini.specs.declared.part.PartItem.{PartItem}
use Rattle.mn_mini.specs.declared.record.Record.{Record}
use Rattle.mn_mini.specs.declared.record.Record.TheVariants.{Voted, Executed}
use Rattle.mn_mini.specs.declared.request.Request.{Request}
use Rattle.mn_mini.specs.declared.request.Request.TheVariants as Ask
use Rattle.mn_mini.specs.declared.reply.NodeReply.{NodeReply}
use Rattle.mn_mini.specs.declared.reply.NodeReply.TheVariants as Say
use Rattle.mn_mini.specs.Mini.{range_of, item_conflicts_with, has_write}
use Rattle.mn_mini.specs.Flat.{Mismatched, part_mismatch_from}
use Rattle.mn_base.specs.Ranges.{least_tid, lesser_tid}
use Rattle.mn_base.proofs.Booleans.{or_cases}
use Rattle.mn_mini.specs.Node.{HeldPart, held_parts, has_forced, has_voted, holders, Clash, clash_or, clash_of, only_reply, after_compares, after_locks, tested, answer, space_of}
use Rattle.mn_runs.specs.declared.entry.Entry.{Entry}
use Rattle.mn_runs.specs.declared.entry.What.{What}
use Rattle.mn_runs.specs.declared.entry.What.TheVariants.{Called}
use Rattle.mn_runs.specs.Calls.{is_try, node_entries, client_entries}
use Rattle.mn_law.specs.Run.{IsRun}
use Rattle.mn_runs.specs.Nodes.{is_down}
use Rattle.mn_runs.specs.Seen.{Seen, seen_in}
use Rattle.mn_law.specs.Answers.{RefusedAs}
use Rattle.mn_runs.specs.Protocol.{Start, KeepsProtocol, FollowsProtocol, base_at, records_of, AllowedAt}
use Rattle.mn_commits.specs.Laws.{part_of_request}
use Rattle.mn_serial.specs.Meaning.{OpenedRun}
use Rattle.mn_causes.specs.Causes.{prepared_after_decide, missed_decision, missed_or_early, IssuedBefore, IsOfAnother, BusyTries, WasHeld, LockWasHeld, LockOfOther}
use Rattle.mn_runs.specs.Clients.{recovers_nothing}
use Rattle.mn_law.proofs.MakeRun.{runs_follow_protocol}
use Rattle.mn_runs.proofs.Same.{tid_same-true}
use Rattle.mn_runs.proofs.Prefixes.{follows_before}
use Rattle.mn_serial.proofs.Meaning.Prefixes.{keeps_there, older_run}
use Rattle.mn_causes.proofs.LastTry.{as_in_last, busy_tries, in_log}
use Rattle.mn_causes.proofs.Refused.{LastRefused, last_refused, call_in_last}
use Rattle.mn_causes.proofs.Forces.{recovers_before, early_none}
use Rattle.mn_causes.proofs.Another.{of_another, issue_by}
use Rattle.mn_commits.proofs.Bytes.Step.{tid_turned}
use Rattle.mn_serial.proofs.Meaning.Stands.{contains_here, contains_more}

-- Who holds

-- a held part of this id conflicts with the item, and is of another id than its own
record HeldBy (hs : List HeldPart) (tid : Tid) (item : PartItem) (holder : Tid) : Type 0 where
  pub held : HeldPart
  pub there : Contains hs held
  pub holder_is : held.tid ≡ holder
  pub other : tid_same holder tid ≡ false
  pub conflicts : item_conflicts_with item held.part ≡ true

least_there : (t : Tid) (ts : List Tid) → least_tid ts ≡ Some t → Contains ts t
least_there t [] is = absurd cc
least_there t (u ∷ ts) is = by (least_tid ts) refl is (λ v e. least_there v ts e)
  where
    some : (a b : Tid) → Some a ≡ Some b → a ≡ b
    some a b e = cc

    by : (o : Option Tid) → least_tid ts ≡ o → Some (lesser_tid u o) ≡ Some t
        → ((v : Tid) → least_tid ts ≡ Some v → Contains ts v) → Contains (u ∷ ts) t
    by None e f rest = subst (λ (x : Tid). Contains (u ∷ ts) x) (some u t f) (contains_here u ts)
    by (Some v) e f rest = less (tid_lt v u) (some (lesser_tid u (Some v)) t f)
      where
        less : (b : Bool) → (if b then v else u) ≡ t → Contains (u ∷ ts) t
        less true g = subst (λ (x : Tid). Contains (u ∷ ts) x) g (contains_more u ts v (rest v e))
        less false g = subst (λ (x : Tid). Contains (u ∷ ts) x) g (contains_here u ts)

holder_there : (hs : List HeldPart) (tid : Tid) (item : PartItem) (t : Tid)
    → Contains (holders hs tid item) t → HeldBy hs tid item t
holder_there [] tid item t (k, in', is) = absurd (omega arith)
holder_there (h ∷ hs) tid item t has = by (tid_same h.tid tid) (item_conflicts_with item h.part) refl refl has (λ g. further (holder_there hs tid item t g))
  where
    further : HeldBy hs tid item t → HeldBy (h ∷ hs) tid item t
    further x = record { held = x.held; there = contains_more h hs x.held x.there; holder_is = x.holder_is; other = x.other; conflicts = x.conflicts }

    first : tid_same h.tid tid ≡ false → item_conflicts_with item h.part ≡ true
        → Contains (h.tid ∷ holders hs tid item) t
        → (Contains (holders hs tid item) t → HeldBy (h ∷ hs) tid item t)
        → HeldBy (h ∷ hs) tid item t
    first a b (zero, in', is) rest = record { held = h; there = contains_here h hs; holder_is = is; other = ap (λ (x : Tid). tid_same x tid) (sym is) ∙ a; conflicts = b }
    first a b (suc k, in', is) rest = rest (k, omega arith, is)

    by : (a b : Bool) → tid_same h.tid tid ≡ a → item_conflicts_with item h.part ≡ b
        → Contains (if not a && b then h.tid ∷ holders hs tid item else holders hs tid item) t
        → (Contains (holders hs tid item) t → HeldBy (h ∷ hs) tid item t)
        → HeldBy (h ∷ hs) tid item t
    by true b e f g rest = rest g
    by false true e f g rest = first e f g rest
    by false false e f g rest = rest g

-- the item of a part that clashes
record ClashAt (hs : List HeldPart) (tid : Tid) (part : List PartItem) (clash : Clash) : Type 0 where
  pub item : PartItem
  pub there : Contains part item
  pub range_is : range_of item ≡ clash.range
  pub holds : HeldBy hs tid item clash.holder

clash_at : (hs : List HeldPart) (tid : Tid) (part : List PartItem) (clash : Clash)
    → clash_of hs tid part ≡ Some clash → ClashAt hs tid part clash
clash_at hs tid [] clash is = absurd cc
clash_at hs tid (item ∷ part) clash is = by (least_tid (holders hs tid item)) refl is (λ e. further (clash_at hs tid part clash e))
  where
    further : ClashAt hs tid part clash → ClashAt hs tid (item ∷ part) clash
    further x = record { item = x.item; there = contains_more item part x.item x.there; range_is = x.range_is; holds = x.holds }

    same : (a b : Clash) → Some a ≡ Some b → a ≡ b
    same a b e = cc

    by : (o : Option Tid) → least_tid (holders hs tid item) ≡ o
        → clash_or item o (clash_of hs tid part) ≡ Some clash
        → (clash_of hs tid part ≡ Some clash → ClashAt hs tid (item ∷ part) clash)
        → ClashAt hs tid (item ∷ part) clash
    by None e f rest = rest f
    by (Some t) e f rest =
        let this : record { range = range_of item; holder = t } ≡ clash = same _ clash f in
        record {
          item = item;
          there = contains_here item part;
          range_is = ap (λ (x : Clash). x.range) this;
          holds = subst (λ (x : Tid). HeldBy hs tid item x) (ap (λ (x : Clash). x.holder) this) (holder_there hs tid item t (least_there t (holders hs tid item) e));
        }

-- What a node answered

-- a request with a part, which clashed so
record LockedBy (records : List Record) (request : Request) (clash : Clash) : Type 0 where
  pub tid : Tid
  pub part : List PartItem
  pub asked : part_of_request request ≡ Some part
  pub clashes : clash_of (held_parts records) tid part ≡ Some clash
  pub own : (t : Tid) → tid_same t tid ≡ false → is_try t request ≡ false
  pub tries : is_try tid request ≡ true

tested_lock : (base : List ℕ) (records : List Record) (tid : Tid) (part : List PartItem) (added : Option Record) (clash : Clash) → (tested base records tid part added).reply ≡ Say.BadLock clash.range.start clash.range.length clash.holder → clash_of (held_parts records) tid part ≡ Some clash
tested_lock base records tid part added clash is = locks (clash_of (held_parts records) tid part) is
  where
    compares : (o : Option Mismatched)
        → (after_compares (space_of base records) part added o).reply ≡ Say.BadLock clash.range.start clash.range.length clash.holder → ⊥
    compares (Some at) e = cc
    compares None e = cc

    same : (a b c d : ℕ) (s t : Tid) → Say.BadLock a b s ≡ Say.BadLock c d t
        → (a ≡ c) × (b ≡ d) × (s ≡ t)
    same a b c d s t e = (cc, cc, cc)

    locks : (o : Option Clash)
        → (after_locks (space_of base records) part added o).reply ≡ Say.BadLock clash.range.start clash.range.length clash.holder → o ≡ Some clash
    locks (Some at) e =
        let parts = same at.range.start at.range.length clash.range.start clash.range.length at.holder clash.holder e in
        λ i. Some (record { range = record { start = parts.0 i; length = parts.1 i }; holder = parts.2 i })
    locks None e = absurd (compares (part_mismatch_from (space_of base records) 0 part) e)

locked_by : (base : List ℕ) (records : List Record) (request : Request) (clash : Clash)
    → (answer base records request).reply ≡ Say.BadLock clash.range.start clash.range.length clash.holder → LockedBy records request clash
locked_by base records (Ask.Prepare tid ps part) clash is = by (has_forced records tid) is
  where
    own : (t : Tid) → tid_same t tid ≡ false → (tid_same tid t || false) ≡ false
    own t e = ap (λ (b : Bool). b || false) (tid_turned t tid e)

    by : (b : Bool)
        → (if b then only_reply Say.BadForced else tested base records tid part (Some (Voted tid ps part))).reply ≡ Say.BadLock clash.range.start clash.range.length clash.holder → LockedBy records (Ask.Prepare tid ps part) clash
    by true e = absurd cc
    by false e = record { tid = tid; part = part; asked = refl; clashes = tested_lock base records tid part (Some (Voted tid ps part)) clash e; own = own; tries = ap (λ (b : Bool). b || false) (Rattle.mn_runs.proofs.Same.tid_same-refl tid) }
locked_by base records (Ask.Exec tid part) clash is = record { tid = tid; part = part; asked = refl; clashes = tested_lock base records tid part (if has_write part then Some (Executed tid part) else None) clash is; own = λ t e. tid_turned t tid e; tries = Rattle.mn_runs.proofs.Same.tid_same-refl tid }
locked_by base records (Ask.Decide tid verdict) clash is = absurd cc
locked_by base records (Ask.Force tid) clash is = absurd (by (has_voted records tid) is)
  where
    by : (b : Bool)
        → (if b then only_reply (Say.Vote true) else record { reply = Say.Vote false; added = if has_forced records tid then None else Some (Rattle.mn_mini.specs.declared.record.Record.TheVariants.Forced tid) }).reply ≡ Say.BadLock clash.range.start clash.range.length clash.holder → ⊥
    by true e = cc
    by false e = cc
locked_by base records Ask.List clash is = absurd cc
locked_by base records (Ask.Peek at size) clash is = absurd cc

-- a node that said anything but Down was up
pub said_up : (base : List ℕ) (records : List Record) (request : Request) (reply : NodeReply) (down : Bool) → (reply ≡ Say.Down → ⊥) → reply ≡ (if down then Say.Down else (answer base records request).reply) → (answer base records request).reply ≡ reply
said_up base records request reply true other is = absurd (other is)
said_up base records request reply false other is = sym is

pub call_answer : (start : Start) (before : List Entry) (x : Entry) (n : NodeNo) (request : Request) (reply : NodeReply) → KeepsProtocol start before x → x.node ≡ Some n → x.what ≡ Called request reply → (reply ≡ Say.Down → ⊥)
    → (answer (base_at start n) (records_of start before n) request).reply ≡ reply
call_answer start before x n request reply keeps node what other =
    let at : AllowedAt start before (Some n) (Called request reply) = subst (λ (w : What). AllowedAt start before (Some n) w) what (subst (λ (o : Option NodeNo). AllowedAt start before o x.what) node keeps.at_node) in
    said_up (base_at start n) (records_of start before n) request reply (is_down (node_entries n before)) other at.1

-- What the list shows

lock_refused : (seens : List Seen) (m : NodeNo) (request : Request) (reply : NodeReply) (n : NodeNo) (begins size : ℕ) (holder : Tid) → RefusedAs seens m request reply (Lock n begins size holder) → (m ≡ n) × (reply ≡ Say.BadLock begins size holder)
lock_refused seens m request (Say.BadLock b s h) n begins size holder is = parts n m begins b size s holder h is
  where
    parts : (n m : NodeNo) (a b c d : ℕ) (s t : Tid) → Lock n a c s ≡ Lock m b d t
        → (m ≡ n) × (Say.BadLock b d t ≡ Say.BadLock a c s)
    parts n m a b c d s t e = (cc, cc)
lock_refused seens m (Ask.Prepare tid ps part) (Say.BadCompare item found) n begins size holder (at, expected, has, shows, is) = absurd cc
lock_refused seens m (Ask.Exec tid part) (Say.BadCompare item found) n begins size holder (at, expected, has, shows, is) = absurd cc
lock_refused seens m (Ask.Prepare tid ps part) Say.BadForced n begins size holder is = absurd cc
lock_refused seens m request reply n begins size holder is = absurd is

-- where the last try was refused by a lock, the records held it
pub held_there : (start : Start) (store : Store) (past : List Entry) (c : ClientNo) (number place : ℕ) (n : NodeNo) (begins size : ℕ) (holder : Tid) → OpenedRun start store past
    → BusyTries past c number place (Lock n begins size holder)
    → WasHeld missed_or_early start past c number place n (record { start = begins; length = size }) holder
held_there start store past c number place n begins size holder h t =
    record {
      tries = t;
      at = length r.there.before;
      request = r.request;
      call = call_in_last t r n r.request (Say.BadLock begins size holder) is.0 refl is.1;
      part = locked.part;
      item = clash.item;
      held = clash.holds.held;
      asked = locked.asked;
      has_item = clash.there;
      there = clash.holds.there;
      holder_is = clash.holds.holder_is;
      other = locked.own holder clash.holds.other;
      range_is = clash.range_is;
      conflicts = clash.holds.conflicts;
      holder_of = of_another start r.there.before c number n r.request locked.tid holder clash.holds.held r.entry (Say.BadLock begins size holder) t.op h.opened.sound
          (older_run start (t.later ++ (t.answer ∷ r.there.later)) (r.entry ∷ r.there.before) (subst (IsRun start) split h.run)) r.there.client node what r.there.of
          locked.tries clash.holds.other clash.holds.there clash.holds.holder_is;
    }
  where
    r : LastRefused t
    r = last_refused t (λ nodes seens op taken f. f)

    is : (r.node ≡ n) × (r.reply ≡ Say.BadLock begins size holder)
    is = lock_refused (seen_in r.try) r.node r.request r.reply n begins size holder r.refused

    not_down : Say.BadLock begins size holder ≡ Say.Down → ⊥
    not_down e = cc

    node : r.entry.node ≡ Some n
    node = r.at_node ∙ ap (λ (m : NodeNo). Some m) is.0

    what : r.entry.what ≡ Called r.request (Say.BadLock begins size holder)
    what = r.what ∙ ap (λ (x : NodeReply). Called r.request x) is.1

    split : past ≡ (t.later ++ (t.answer ∷ r.there.later)) ++ r.entry ∷ r.there.before
    split = in_log t (as_in_last t [] r.entry r.try r.there)

    said : (answer (base_at start n) (records_of start r.there.before n) r.request).reply ≡ Say.BadLock begins size holder
    said =
        call_answer start r.there.before r.entry n r.request (Say.BadLock begins size holder)
        (keeps_there start past (t.later ++ (t.answer ∷ r.there.later)) r.entry r.there.before split (runs_follow_protocol start past h.run)) node what not_down

    locked : LockedBy (records_of start r.there.before n) r.request (record { range = record { start = begins; length = size }; holder = holder })
    locked = locked_by (base_at start n) (records_of start r.there.before n) r.request (record { range = record { start = begins; length = size }; holder = holder }) said

    clash : ClashAt (held_parts (records_of start r.there.before n)) locked.tid locked.part (record { range = record { start = begins; length = size }; holder = holder })
    clash = clash_at (held_parts (records_of start r.there.before n)) locked.tid locked.part (record { range = record { start = begins; length = size }; holder = holder }) locked.clashes

pub lock_was_held : LockWasHeld
lock_was_held start store past place e c number n begins size holder h stands answers =
    held_there start store past c number place n begins size holder h (busy_tries start past h.run c number place (Lock n begins size holder) e stands answers)

-- of a client that makes no request of a recovery, only the node's own silence is excepted
pub lock_of_other : LockOfOther
lock_of_other start store past place e c number n begins size holder h stands answers recovers = record {
  tries = w.tries;
  at = w.at;
  request = w.request;
  call = w.call;
  part = w.part;
  item = w.item;
  held = w.held;
  asked = w.asked;
  has_item = w.has_item;
  there = w.there;
  holder_is = w.holder_is;
  other = w.other;
  range_is = w.range_is;
  conflicts = w.conflicts;
  holder_of = by w.holder_of;
}
  where
    w : WasHeld missed_or_early start past c number place n (record { start = begins; length = size }) holder
    w = held_there start store past c number place n begins size holder h (busy_tries start past h.run c number place (Lock n begins size holder) e stands answers)

    split : past ≡ ((w.tries.later ++ (w.tries.answer ∷ w.call.there.later)) ++ w.call.entry ∷ []) ++ w.call.there.before
    split = in_log w.tries w.call.there ∙ sym (append_assoc (w.tries.later ++ (w.tries.answer ∷ w.call.there.later)) (w.call.entry ∷ []) w.call.there.before)

    follows : FollowsProtocol start w.call.there.before
    follows = follows_before start past ((w.tries.later ++ (w.tries.answer ∷ w.call.there.later)) ++ w.call.entry ∷ []) w.call.there.before split (runs_follow_protocol start past h.run)

    recovered : recovers_nothing (client_entries c w.call.there.before) ≡ true
    recovered =
        recovers_before c ((w.tries.later ++ (w.tries.answer ∷ w.call.there.later)) ++ w.call.entry ∷ []) w.call.there.before
        (subst (λ (l : List Entry). recovers_nothing (client_entries c l) ≡ true) split recovers)

    missed : holder.client ≡ c
        → missed_or_early holder n (client_entries c w.call.there.before) ≡ true
        → missed_decision holder n (client_entries c w.call.there.before) ≡ true
    missed own is = lost (or_cases (missed_decision holder n (client_entries c w.call.there.before)) (prepared_after_decide holder n (client_entries c w.call.there.before)) is)
      where
        not_both : (b : Bool) → b ≡ true → b ≡ false → ⊥
        not_both b p q = cc

        lost : (missed_decision holder n (client_entries c w.call.there.before) ≡ true)
            ⊎ (prepared_after_decide holder n (client_entries c w.call.there.before) ≡ true)
            → missed_decision holder n (client_entries c w.call.there.before) ≡ true
        lost (inl m) = m
        lost (inr early) =
            absurd (not_both (prepared_after_decide holder n (client_entries c w.call.there.before)) early
            (subst (λ (d : ClientNo). prepared_after_decide holder n (client_entries d w.call.there.before) ≡ false) own
            (early_none start w.call.there.before holder n h.opened.sound follows (subst (λ (d : ClientNo). recovers_nothing (client_entries d w.call.there.before) ≡ true) (sym own) recovered))))

    by : IsOfAnother missed_or_early start w.call.there.before c number n holder
        → IsOfAnother missed_decision start w.call.there.before c number n holder
    by (inl old) = inl old
    by (inr (other, its, issue, excepted)) = inr (other, its, issue, λ one same. missed (issuer other its issue ∙ one) (excepted one same))
      where
        issuer : (d : ClientNo) (k : ℕ) → IssuedBefore w.call.there.before holder d k
            → holder.client ≡ d
        issuer d k i = issue_by start w.call.there.before d k holder i follows

-- An operation that nothing disturbs is answered by a reply, or for want of slots, numbers or
-- memory.
use Rattle.std.proofs.Common.{◌≡◌, ℕ, ◌<◌, ◌⊎◌, inl, inr, Bool, true, false, ◌&&◌, ◌||◌, List, [], ◌∷◌, ◌++◌, length, Option, Some, refl, subst, sym, ap, ◌∙◌, arith, Contains}
use Rattle.std.specs.List.{list_any, AllByRecursion}
use Rattle.std.proofs.lemmas.List.{append_assoc}
use Rattle.mn_base.specs.Ids.{tid_same, node_same}
use Rattle.mn_base.specs.Store.{Store}
use Rattle.mn_base.specs.declared.ids.NodeNo.{NodeNo}
use Rattle.mn_base.specs.declared.ids.ClientNo.{ClientNo}
use Rattle.mn_base.specs.declared.ids.Tid.{Tid}
use Rattle.mn_base.specs.declared.answer.Answer.{Answer}
use Rattle.mn_base.specs.declared.answer.Answer.TheVariants.{Replied, Busy as GaveUp, Down, InDoubt, Full, Worn, NoMemory}
use Rattle.mn_base.specs.declared.answer.Busy.{Busy}
use Rattle.mn_base.specs.declared.answer.Busy.TheVariants.{Lock, Moved, Forced, Path}
use Rattle.mn_base.proofs.Booleans.{clash, right_true}
use Rattle.mn_mini.specs.declared.part.PartItem.{PartItem}
use Rattle.mn_mini.specs.declared.request.Request.{Request}
use Rattle.mn_mini.specs.declared.request.Request.TheVariants as Ask
use Rattle.mn_mini.specs.Mini.{Mini}
use Rattle.mn_runs.specs.declared.entry.Entry.{Entry}
use Rattle.mn_runs.specs.declared.entry.What.{What}
use Rattle.mn_runs.specs.Calls.{Call, calls_of, is_try, is_prepare, is_decide, is_done, was_told, was_decided, issue_named, issues_of, client_entries, since_begin, since_begin_after, under_way}
use Rattle.mn_runs.specs.Clients.{AllowsPrepare, Sends, recovers_nothing}
use Rattle.mn_runs.specs.Protocol.{Start, records_of, FollowsProtocol, AllowedAt, AllowedBy}
use Rattle.mn_law.specs.Run.{IsRun}
use Rattle.mn_commits.specs.Laws.{part_of_request}
use Rattle.mn_serial.specs.Meaning.{OpenedRun}
use Rattle.mn_causes.specs.Causes.{prepared_after_decide, BusyTries, IsInLast, WasHeld, missed_or_early, IsForcedAt}
use Rattle.mn_causes.specs.Undisturbed.{UpThroughout, IsUndisturbed, IsUndisturbedAnswer, IsUnhindered, IsReplyOrWant, UndisturbedIsAnswered}
use Rattle.mn_law.proofs.MakeRun.{runs_follow_protocol}
use Rattle.mn_runs.proofs.Same.{tid_same-true, tid_same-refl}
use Rattle.mn_runs.proofs.NewCalls.{IsCallOf, own_calls}
use Rattle.mn_votes.proofs.Unchanged.{current_issue}
use Rattle.mn_votes.proofs.Backing.{Kept, MayList}
use Rattle.mn_votes.proofs.Start.{names_old}
use Rattle.mn_votes.proofs.Preserved.{new_not_old, kept_run}
use Rattle.mn_runs.proofs.Since.{since_told}
use Rattle.mn_serial.proofs.Meaning.OlderSettled.{is_lost}
use Rattle.mn_serial.proofs.Meaning.Splits.{same_split, shorter_by}
use Rattle.mn_runs.proofs.Prefixes.{follows_before}
use Rattle.mn_serial.proofs.Meaning.Prefixes.{older_run}
use Rattle.mn_serial.proofs.Meaning.Positions.{is_own, client_split}
use Rattle.mn_serial.proofs.Meaning.Settled.{InOlder, InLater, where_is}
use Rattle.mn_causes.proofs.Heard.{Released, Rests, is_heard, heard}
use Rattle.mn_causes.proofs.Own.{OwnDecided, own_decided, told_split, held_is}
use Rattle.mn_causes.proofs.LastTry.{in_log}
use Rattle.mn_causes.proofs.Held.{lock_was_held}
use Rattle.mn_causes.proofs.Forced.{forced_by_other}
use Rattle.mn_causes.proofs.Forces.{recovers_before, early_none}
use Rattle.mn_causes.proofs.Undisturbed.{none_fails, since_here}
use Rattle.mn_causes.proofs.Unlocked.{held_since, names_since, issued_twice, issue_later}
use Rattle.mn_causes.proofs.Sure.{under_behind, undisturbed_is_sure}

-- The operation's own entries

-- an entry of the last try lies between the Begin and the answer
record Within (start : Start) (past : List Entry) (c : ClientNo) (number : ℕ) (answer : Answer) (u : IsUndisturbed start past c number answer) (x : Entry) (log : List Entry) : Type 0 where
  pub newer : List Entry
  pub older : List Entry
  pub split : u.between ≡ newer ++ x ∷ older
  pub rest : log ≡ older ++ u.begins ∷ u.before

all_older : (P : Entry → Type 0) (xs : List Entry) (x : Entry) (ys : List Entry)
    → AllByRecursion P (xs ++ x ∷ ys) → AllByRecursion P ys
all_older P [] x ys all = all.1
all_older P (z ∷ xs) x ys all = all_older P xs x ys all.1

within : (start : Start) (store : Store) (past : List Entry) (c : ClientNo) (number : ℕ) (answer : Answer) → OpenedRun start store past → (u : IsUndisturbed start past c number answer) → {busy : Busy} {at : ℕ} {x : Entry}
    → (t : BusyTries past c number (length (u.between ++ u.begins ∷ u.before)) busy)
    → (i : IsInLast t at x) → Within start past c number answer u x i.before
within start store past c number answer h u {busy} {at} {x} t i = by (where_is u.between (u.begins ∷ u.before) i.later x i.before (sym same.older ∙ i.split))
  where
    long : length t.before ≡ length (u.between ++ u.begins ∷ u.before)
    long = sym t.is_place

    same : Rattle.mn_serial.proofs.Meaning.Splits.SameSplit t.answer u.answers t.before (u.between ++ u.begins ∷ u.before)
    same = same_split t.later u.later t.answer u.answers t.before (u.between ++ u.begins ∷ u.before) (sym t.split ∙ u.split) (sym t.is_place)

    behind : length u.before < length i.before
    behind =
        under_behind start past c number u.op (record {
          at = record {
            entry = u.begins;
            later = u.later ++ (u.answers ∷ u.between);
            before = u.before;
            split = u.split ∙ sym (append_assoc u.later (u.answers ∷ u.between) (u.begins ∷ u.before));
            by = u.begun.0;
          };
          begins = u.begun.1;
        }) (runs_follow_protocol start past h.run) ((t.later ++ (t.answer ∷ i.later)) ++ x ∷ []) i.before
        (in_log t i ∙ sym (append_assoc (t.later ++ (t.answer ∷ i.later)) (x ∷ []) i.before)) (record { number = number; op = t.op }) i.of refl

    by : InOlder (u.begins ∷ u.before) x i.before
        ⊎ InLater (u.begins ∷ u.before) u.between x i.before
        → Within start past c number answer u x i.before
    by (inl o) =
        let less = shorter_by (u.begins ∷ u.before) o.later x i.before o.split in
        let b = behind in absurd (omega arith)
    by (inr w) = record { newer = w.newer; older = w.older; split = w.split; rest = w.rest }

-- the id of a try
try_of : (request : Request) (part : List PartItem) → part_of_request request ≡ Some part
    → (t : Tid) × (is_try t request ≡ true)
try_of (Ask.Prepare t ps own) part e = (t, by (tid_same t t) (tid_same-refl t))
  where
    by : (b : Bool) → b ≡ true → (b || false) ≡ true
    by true f = refl
    by false f = absurd cc
try_of (Ask.Exec t own) part e = (t, tid_same-refl t)
try_of (Ask.Decide t verdict) part e = absurd cc
try_of (Ask.Force t) part e = absurd cc
try_of Ask.List part e = absurd cc
try_of (Ask.Peek begins size) part e = absurd cc

off : (holder tid : Tid) (request : Request) → is_try tid request ≡ true
    → is_try holder request ≡ false → tid_same holder tid ≡ false
off holder tid request own other = by (tid_same holder tid) refl
  where
    by : (b : Bool) → tid_same holder tid ≡ b → tid_same holder tid ≡ false
    by true same = absurd (clash (is_try holder request) (subst (λ (x : Tid). is_try x request ≡ true) (sym (tid_same-true holder tid same)) own) other)
    by false same = same

-- No lock

lost_fails : (n : NodeNo) (tid : Tid) (call : Call)
    → (node_same call.node n && (is_decide tid call.request && is_lost call.reply)) ≡ true
    → is_lost call.reply ≡ true
lost_fails n tid call e = right_true (is_decide tid call.request) _ (right_true (node_same call.node n) _ e)

no_lock : (start : Start) (store : Store) (past : List Entry) (c : ClientNo) (number : ℕ) (n : NodeNo) (begins size : ℕ) (holder : Tid) → OpenedRun start store past
    → (a : IsUnhindered start past c number (GaveUp (Lock n begins size holder))) → ⊥
no_lock start store past c number n begins size holder h a = at own.0
  where
    u : IsUndisturbed start past c number (GaveUp (Lock n begins size holder))
    u = a.undisturbed

    place : ℕ
    place = length (a.undisturbed.between ++ a.undisturbed.begins ∷ a.undisturbed.before)

    held : WasHeld missed_or_early start past c number (length (a.undisturbed.between ++ a.undisturbed.begins ∷ a.undisturbed.before)) n (record { start = begins; length = size }) holder
    held =
        lock_was_held start store past (length (a.undisturbed.between ++ a.undisturbed.begins ∷ a.undisturbed.before)) a.undisturbed.answers c number n begins size holder h
        (a.undisturbed.later, a.undisturbed.between ++ a.undisturbed.begins ∷ a.undisturbed.before, a.undisturbed.split, refl) a.undisturbed.answered

    log : List Entry
    log = held.call.there.before

    w : Within start past c number (GaveUp (Lock n begins size holder)) a.undisturbed held.call.entry held.call.there.before
    w = within start store past c number (GaveUp (Lock n begins size holder)) h a.undisturbed held.tries held.call.there

    follows : FollowsProtocol start past
    follows = runs_follow_protocol start past h.run

    to_call : FollowsProtocol start (held.call.entry ∷ held.call.there.before)
    to_call = follows_before start past (held.tries.later ++ (held.tries.answer ∷ held.call.there.later)) (held.call.entry ∷ held.call.there.before) (in_log held.tries held.call.there) follows

    run : IsRun start held.call.there.before
    run = (older_run start (held.tries.later ++ (held.tries.answer ∷ held.call.there.later)) (held.call.entry ∷ held.call.there.before) (subst (IsRun start) (in_log held.tries held.call.there) h.run)).0

    to_older : FollowsProtocol start (w.older ++ a.undisturbed.begins ∷ a.undisturbed.before)
    to_older = subst (FollowsProtocol start) w.rest to_call.0

    there : AllowedAt start held.call.there.before (Some n) held.call.entry.what
    there = subst (λ (o : Option NodeNo). AllowedAt start held.call.there.before o held.call.entry.what) held.call.node to_call.1.at_node

    none : since_begin (a.undisturbed.begins ∷ client_entries c a.undisturbed.before) ≡ []
    none = ap (λ (x : What). since_begin_after x a.undisturbed.begins (since_begin (client_entries c a.undisturbed.before))) a.undisturbed.begun.1

    ups : UpThroughout start w.older (a.undisturbed.begins ∷ a.undisturbed.before)
    ups newer older split = a.undisturbed.up ((w.newer ++ held.call.entry ∷ []) ++ newer) older
        (w.split ∙ (ap (λ (l : List Entry). w.newer ++ held.call.entry ∷ l) split ∙ sym (append_assoc (w.newer ++ held.call.entry ∷ []) newer older ∙ append_assoc w.newer (held.call.entry ∷ []) (newer ++ older))))

    -- the holder was issued since Begin
    named : (mini : Mini) × (issue_named holder (issues_of (client_entries c w.older)) ≡ Some mini)
    named =
        subst (λ (x : Tid). (mini : Mini) × (issue_named x (issues_of (client_entries c w.older)) ≡ Some mini)) held.holder_is
        (held_since start w.older a.undisturbed.begins a.undisturbed.before c n held.held a.undisturbed.begun.0 none to_older ups a.free
        (all_older (λ (e : Entry). e.client ≡ Some c) w.newer held.call.entry w.older (subst (AllByRecursion (λ (e : Entry). e.client ≡ Some c)) w.split a.undisturbed.own)) there.0
        (subst (λ (l : List Entry). Contains (Rattle.mn_mini.specs.Node.held_parts (records_of start l n)) held.held) w.rest held.there))

    since : since_begin (client_entries c held.call.there.before) ≡ client_entries c w.older
    since =
        ap (λ (l : List Entry). since_begin (client_entries c l)) w.rest
        ∙ since_here start w.older a.undisturbed.before a.undisturbed.begins c number a.undisturbed.op (record { number = number; op = held.tries.op }) to_older a.undisturbed.begun
        (ap (λ (l : List Entry). under_way (client_entries c l)) (sym w.rest) ∙ held.call.there.of) refl

    issued : issue_named holder (issues_of (since_begin (client_entries c held.call.there.before))) ≡ Some named.0
    issued = ap (λ (l : List Entry). issue_named holder (issues_of l)) since ∙ named.1

    kept : Kept start held.call.there.before
    kept = kept_run start held.call.there.before h.opened.sound to_call.0

    own : (holder.client ≡ c) × (Unit {0})
    own = ((kept.issued c holder named.0 (current_issue (client_entries c held.call.there.before) holder named.0 issued)).0, tt)

    tid : (t : Tid) × (is_try t held.request ≡ true)
    tid = try_of held.request held.part held.asked

    sends : Sends (client_entries c held.call.there.before) (Some n) held.request
    sends =
        let by : AllowedBy held.call.there.before held.call.entry.client held.call.entry.node held.call.entry.what = to_call.1.by_client in
        let mine : AllowedBy held.call.there.before (Some c) held.call.entry.node held.call.entry.what = subst (λ (o : Option ClientNo). AllowedBy held.call.there.before o held.call.entry.node held.call.entry.what) held.call.there.client by in
        let at_node : AllowedBy held.call.there.before (Some c) (Some n) held.call.entry.what = subst (λ (o : Option NodeNo). AllowedBy held.call.there.before (Some c) o held.call.entry.what) held.call.node mine in
        subst (λ (x : What). AllowedBy held.call.there.before (Some c) (Some n) x) held.call.what at_node

    recovers : recovers_nothing (client_entries c held.call.there.before) ≡ true
    recovers =
        recovers_before c ((held.tries.later ++ (held.tries.answer ∷ held.call.there.later)) ++ held.call.entry ∷ []) held.call.there.before
        (subst (λ (l : List Entry). recovers_nothing (client_entries c l) ≡ true) (in_log held.tries held.call.there ∙ sym (append_assoc (held.tries.later ++ (held.tries.answer ∷ held.call.there.later)) (held.call.entry ∷ []) held.call.there.before)) a.recovers)

    at : holder.client ≡ c → ⊥
    at client = by (told_split holder n (calls_of (client_entries c w.older)) (subst (λ (l : List Entry). was_decided holder n l ≡ true) since decided.decided))
      where
        decided : OwnDecided (client_entries c held.call.there.before) n holder
        decided =
            subst (λ (d : ClientNo). OwnDecided (client_entries d held.call.there.before) n holder) client
            (own_decided start held.call.there.before n held.request tid.0 holder named.0 held.held h.opened.sound run there.0 tid.1
            (subst (λ (d : ClientNo). Sends (client_entries d held.call.there.before) (Some n) held.request) (sym client) sends) (off holder tid.0 held.request tid.1 held.other) held.there held.holder_is
            (subst (λ (d : ClientNo). issue_named holder (issues_of (since_begin (client_entries d held.call.there.before))) ≡ Some named.0) (sym client) issued))

        prepared : was_told (is_prepare holder) is_done n (client_entries c held.call.there.before) ≡ true
        prepared = since_told (λ (d : Call). node_same d.node n && (is_prepare holder d.request && is_done d.reply)) (client_entries c held.call.there.before) decided.prepared

        rests : Rests (client_entries c held.call.there.before) holder n (Released start held.call.there.before holder n) → ⊥
        rests (inl r) = held_is (records_of start held.call.there.before n) held.held holder held.there held.holder_is r.0
        rests (inr (told, inl untold)) = clash (was_told (is_prepare holder) is_done n (client_entries c held.call.there.before)) prepared untold
        rests (inr (told, inr early)) =
            clash (prepared_after_decide holder n (client_entries c held.call.there.before)) early
            (subst (λ (d : ClientNo). prepared_after_decide holder n (client_entries d held.call.there.before) ≡ false) client
            (early_none start held.call.there.before holder n h.opened.sound to_call.0 (subst (λ (d : ClientNo). recovers_nothing (client_entries d held.call.there.before) ≡ true) (sym client) recovers)))

        by : (list_any (λ (d : Call). node_same d.node n && (is_decide holder d.request && is_lost d.reply)) (calls_of (client_entries c w.older)) ≡ true)
            ⊎ (list_any (λ (d : Call). node_same d.node n && (is_decide holder d.request && is_heard d.reply)) (calls_of (client_entries c w.older)) ≡ true) → ⊥
        by (inl lost) = none_fails start w.older (a.undisturbed.begins ∷ a.undisturbed.before) c (λ (d : Call). node_same d.node n && (is_decide holder d.request && is_lost d.reply)) (lost_fails n holder) to_older ups lost
        by (inr told) =
            rests
            (subst (λ (d : ClientNo). Rests (client_entries d held.call.there.before) holder n (Released start held.call.there.before holder n)) client
            (heard start held.call.there.before holder n h.opened.sound to_call.0 there.0
            (subst (λ (d : ClientNo). was_told (is_decide holder) is_heard n (client_entries d held.call.there.before) ≡ true) (sym client)
            (since_told (λ (d : Call). node_same d.node n && (is_decide holder d.request && is_heard d.reply)) (client_entries c held.call.there.before)
            (subst (λ (l : List Entry). was_told (is_decide holder) is_heard n l ≡ true) (sym since) told)))))

-- No Forced

no_forced : (start : Start) (store : Store) (past : List Entry) (c : ClientNo) (number : ℕ) (tid : Tid) → OpenedRun start store past → (a : IsUnhindered start past c number (GaveUp (Forced tid))) → ⊥
no_forced start store past c number tid h a = by (where_is w.older (a.undisturbed.begins ∷ a.undisturbed.before) f.0.sent.later f.0.sent.entry f.0.sent.older (sym w.rest ∙ f.0.sent.split))
  where
    f : (f : IsForcedAt start past c number (length (a.undisturbed.between ++ a.undisturbed.begins ∷ a.undisturbed.before)) tid) × (f.sender ≡ c → ⊥)
    f =
        forced_by_other start store past (length (a.undisturbed.between ++ a.undisturbed.begins ∷ a.undisturbed.before)) a.undisturbed.answers c number tid h
        (a.undisturbed.later, a.undisturbed.between ++ a.undisturbed.begins ∷ a.undisturbed.before, a.undisturbed.split, refl) a.undisturbed.answered a.recovers

    w : Within start past c number (GaveUp (Forced tid)) a.undisturbed f.0.call.entry f.0.call.there.before
    w = within start store past c number (GaveUp (Forced tid)) h a.undisturbed f.0.tries f.0.call.there

    follows : FollowsProtocol start past
    follows = runs_follow_protocol start past h.run

    to_call : FollowsProtocol start (f.0.call.entry ∷ f.0.call.there.before)
    to_call = follows_before start past (f.0.tries.later ++ (f.0.tries.answer ∷ f.0.call.there.later)) (f.0.call.entry ∷ f.0.call.there.before) (in_log f.0.tries f.0.call.there) follows

    to_older : FollowsProtocol start (w.older ++ a.undisturbed.begins ∷ a.undisturbed.before)
    to_older = subst (FollowsProtocol start) w.rest to_call.0

    none : since_begin (a.undisturbed.begins ∷ client_entries c a.undisturbed.before) ≡ []
    none = ap (λ (x : What). since_begin_after x a.undisturbed.begins (since_begin (client_entries c a.undisturbed.before))) a.undisturbed.begun.1

    -- it was prepared, so it was issued since Begin
    asked : AllowsPrepare (client_entries c f.0.call.there.before) f.0.node tid f.0.participants f.0.part
    asked =
        let by : AllowedBy f.0.call.there.before f.0.call.entry.client f.0.call.entry.node f.0.call.entry.what = to_call.1.by_client in
        let mine : AllowedBy f.0.call.there.before (Some c) f.0.call.entry.node f.0.call.entry.what = subst (λ (o : Option ClientNo). AllowedBy f.0.call.there.before o f.0.call.entry.node f.0.call.entry.what) f.0.call.there.client by in
        let at_node : AllowedBy f.0.call.there.before (Some c) (Some f.0.node) f.0.call.entry.what = subst (λ (o : Option NodeNo). AllowedBy f.0.call.there.before (Some c) o f.0.call.entry.what) f.0.call.node mine in
        subst (λ (x : What). AllowedBy f.0.call.there.before (Some c) (Some f.0.node) x) f.0.call.what at_node

    list : client_entries c f.0.call.there.before ≡ client_entries c w.older ++ a.undisturbed.begins ∷ client_entries c a.undisturbed.before
    list = client_split c f.0.call.there.before w.older a.undisturbed.begins a.undisturbed.before w.rest (is_own c a.undisturbed.begins a.undisturbed.begun.0)

    named : (mini : Mini) × (issue_named tid (issues_of (client_entries c w.older)) ≡ Some mini)
    named =
        names_since (client_entries c w.older) a.undisturbed.begins (client_entries c a.undisturbed.before) tid none
        (subst (λ (l : List Entry). (mini : Mini) × (issue_named tid (issues_of (since_begin l)) ≡ Some mini)) list (asked.mini, asked.issued))

    kept : Kept start f.0.call.there.before
    kept = kept_run start f.0.call.there.before h.opened.sound to_call.0

    client : tid.client ≡ c
    client = (kept.issued c tid asked.mini (current_issue (client_entries c f.0.call.there.before) tid asked.mini asked.issued)).0

    -- the one who forced it had it listed, so it was issued before that
    forced_old : (l : List Entry)
        → a.undisturbed.begins ∷ a.undisturbed.before ≡ l ++ f.0.sent.entry ∷ f.0.sent.older → ⊥
    forced_old l split = listed (older_kept.listed f.0.sender tid sends.1.0 sends.1.1)
      where
        to_force : FollowsProtocol start (f.0.sent.entry ∷ f.0.sent.older)
        to_force = follows_before start f.0.call.there.before f.0.sent.later (f.0.sent.entry ∷ f.0.sent.older) f.0.sent.split to_call.0

        older_kept : Kept start f.0.sent.older
        older_kept = kept_run start f.0.sent.older h.opened.sound to_force.0

        calls : AllByRecursion (IsCallOf start f.0.sent.older f.0.sender f.0.sent.entry) (record { node = f.0.node; request = Ask.Force tid; reply = f.0.sent.reply } ∷ [])
        calls = subst (AllByRecursion (IsCallOf start f.0.sent.older f.0.sender f.0.sent.entry)) f.0.sent.call (own_calls start f.0.sent.older f.0.sender f.0.sent.entry to_force.1 (is_own f.0.sender f.0.sent.entry f.0.sent.client))

        sends : Sends (client_entries f.0.sender f.0.sent.older) (Some f.0.node) (Ask.Force tid)
        sends = calls.0.sends

        base : FollowsProtocol start (a.undisturbed.begins ∷ a.undisturbed.before)
        base = follows_before start (w.older ++ a.undisturbed.begins ∷ a.undisturbed.before) w.older (a.undisturbed.begins ∷ a.undisturbed.before) refl to_older

        listed : MayList start f.0.sent.older tid sends.1.0 → ⊥
        listed (inl ((mini, issued, ps), several)) =
            issued_twice start w.older (a.undisturbed.begins ∷ a.undisturbed.before) c tid mini h.opened.sound to_older
            (subst (λ (es : List Entry). issue_named tid (issues_of (client_entries c es)) ≡ Some mini) (append_assoc l (f.0.sent.entry ∷ []) f.0.sent.older ∙ sym split)
            (issue_later start (l ++ f.0.sent.entry ∷ []) f.0.sent.older c tid mini h.opened.sound
            (subst (FollowsProtocol start) (split ∙ sym (append_assoc l (f.0.sent.entry ∷ []) f.0.sent.older)) base)
            (subst (λ (d : ClientNo). issue_named tid (issues_of (client_entries d f.0.sent.older)) ≡ Some mini) client issued))) named
        listed (inr old) =
            new_not_old start f.0.call.there.before c tid asked.mini kept (current_issue (client_entries c f.0.call.there.before) tid asked.mini asked.issued) (names_old start tid sends.1.0 old)

    -- an entry behind the Begin is the client's
    all_mid : (xs : List Entry) (x : Entry) (ys : List Entry)
        → AllByRecursion (λ (e : Entry). e.client ≡ Some c) (xs ++ x ∷ ys) → x.client ≡ Some c
    all_mid [] x ys all = all.0
    all_mid (z ∷ xs) x ys all = all_mid xs x ys all.1

    same_client : (d e : ClientNo) → Some d ≡ Some e → d ≡ e
    same_client d e same = cc

    by : InOlder (a.undisturbed.begins ∷ a.undisturbed.before) f.0.sent.entry f.0.sent.older
        ⊎ InLater (a.undisturbed.begins ∷ a.undisturbed.before) w.older f.0.sent.entry f.0.sent.older → ⊥
    by (inl o) = forced_old o.later o.split
    by (inr n) =
        let own : AllByRecursion (λ (e : Entry). e.client ≡ Some c) w.older =
        all_older (λ (e : Entry). e.client ≡ Some c) w.newer f.0.call.entry w.older (subst (AllByRecursion (λ (e : Entry). e.client ≡ Some c)) w.split a.undisturbed.own) in
        let mine : f.0.sent.entry.client ≡ Some c = all_mid n.newer f.0.sent.entry n.older (subst (AllByRecursion (λ (e : Entry). e.client ≡ Some c)) n.split own) in
        f.1 (same_client f.0.sender c (sym f.0.sent.client ∙ mine))

-- All of it

pub undisturbed_is_answered : UndisturbedIsAnswered
undisturbed_is_answered start store past c number answer h a = by answer a
  where
    sure : (b : Answer) (v : IsUnhindered start past c number b) → IsUndisturbedAnswer b
    sure b v = undisturbed_is_sure start store past c number b h v.undisturbed

    by : (b : Answer) → IsUnhindered start past c number b → IsReplyOrWant b
    by (Down n) v = sure (Down n) v
    by (InDoubt tid n) v = sure (InDoubt tid n) v
    by (GaveUp (Moved n begins expected found)) v = sure (GaveUp (Moved n begins expected found)) v
    by (GaveUp (Path addr seq)) v = sure (GaveUp (Path addr seq)) v
    by (GaveUp (Lock n begins size holder)) v = no_lock start store past c number n begins size holder h v
    by (GaveUp (Forced tid)) v = no_forced start store past c number tid h v
    by (Replied reply) v = tt
    by (Full need free) v = tt
    by (Worn n place) v = tt
    by NoMemory v = tt

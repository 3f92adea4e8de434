-- A run has at most one history.
use Rattle.std.proofs.Common.{◌≡◌, ℕ, ◌<◌, ◌⊎◌, inl, inr, Bool, true, false, List, [], ◌∷◌, ◌++◌, length, Option, Some, None, refl, subst, sym, ap, ◌∙◌, arith, Contains}
use Rattle.std.specs.Prelude.{MatchBool}
use Rattle.std.specs.List.{AllByRecursion}
use Rattle.std.proofs.lemmas.List.{append_assoc, append_cancel_right, length-append}
use Rattle.std.proofs.lemmas.List.Elements.{All-contains, All-from_recursion, Contains-append_left}
use Rattle.mn_base.specs.Store.{Store}
use Rattle.mn_base.specs.declared.history.Past.{Past}
use Rattle.mn_base.specs.declared.ids.ClientNo.{ClientNo}
use Rattle.mn_base.specs.declared.op.Op.{Op}
use Rattle.mn_base.specs.declared.op.Op.TheVariants.{Scan}
use Rattle.mn_base.specs.declared.reply.Reply.{Reply}
use Rattle.mn_base.specs.declared.reply.Reply.TheVariants as Say
use Rattle.mn_base.specs.declared.answer.Answer.{Answer}
use Rattle.mn_base.specs.declared.answer.Answer.TheVariants.{Replied, Busy as GaveUp, Down, InDoubt, Full, Worn, NoMemory}
use Rattle.mn_mini.specs.Mini.{is_read}
use Rattle.mn_page.specs.Holds.{Holds}
use Rattle.mn_runs.specs.declared.entry.Entry.{Entry}
use Rattle.mn_runs.specs.declared.entry.What.{What}
use Rattle.mn_runs.specs.declared.entry.What.TheVariants.{Begin, Issue, Called, Stopped, Restarted, Abandoned, Answered}
use Rattle.mn_runs.specs.Calls.{Issued, Begun, is_by, client_entries, since_begin, under_way}
use Rattle.mn_runs.specs.Commits.{committed_by}
use Rattle.mn_runs.specs.Sound.{opened_memory}
use Rattle.mn_runs.specs.Protocol.{Start, FollowsProtocol}
use Rattle.mn_law.specs.Run.{IsRun}
use Rattle.mn_votes.specs.Laws.{StartsSound}
use Rattle.mn_runs.specs.Seen.{Seen, seen_in, seen_at}
use Rattle.mn_law.specs.Shown.{IsCatalogRead}
use Rattle.mn_serial.specs.History.{Placed, placed_in, PlanOf, NoCatalog, FirstCatalogAt, LastShown, ReadPlace, has_past, AnswerPuts, StepPuts, EntryPuts, IsHistory}
use Rattle.mn_serial.specs.Meaning.{HistoryIsOne}
use Rattle.mn_law.proofs.MakeRun.{runs_follow_protocol}
use Rattle.mn_law.proofs.Sees.{seen_in-cons}
use Rattle.mn_serial.proofs.Meaning.Kept.{Known, some_store}
use Rattle.mn_serial.proofs.Meaning.Scanned.{SameOldest, oldest_one}
use Rattle.mn_serial.proofs.Meaning.Legal.{Opens, known_run, plan_acts}
use Rattle.mn_serial.proofs.Meaning.Positions.{inner_split, client_split, ordered}
use Rattle.mn_serial.proofs.Meaning.Origins.{begun_as}
use Rattle.mn_serial.proofs.Meaning.Stands.{one_operation}

-- Places of reads

last_one : (c : ClientNo) (op : Op) (reply : Reply) (past : List Entry) (a b : ℕ)
    → LastShown c op reply past a → LastShown c op reply past b → a ≡ b
last_one c op reply [] a b one other = absurd one
last_one c op reply (e ∷ past) a b (inl (here, is)) (inl (here', is')) = is ∙ sym is'
last_one c op reply (e ∷ past) a b (inl (here, is)) (inr (not_here, since, older)) = absurd (not_here here)
last_one c op reply (e ∷ past) a b (inr (not_here, since, older)) (inl (here, is)) = absurd (not_here here)
last_one c op reply (e ∷ past) a b (inr (not_here, since, older)) (inr (not_here', since', older')) = last_one c op reply past a b older older'

-- an entry that brings a catalog
abbrev BringsCatalog : Entry → Type 0
BringsCatalog e = (seen : Seen) × Contains (seen_at e) seen × IsCatalogRead seen

none_bring : (es : List Entry) → NoCatalog (seen_in es)
    → AllByRecursion (λ (e : Entry). BringsCatalog e → ⊥) es
none_bring [] none = tt
none_bring (e ∷ es) none = (here, none_bring es rest)
  where
    parts : NoCatalog (seen_at e ++ seen_in es)
    parts = subst NoCatalog (seen_in-cons e es) none

    here : BringsCatalog e → ⊥
    here (seen, has, is) = All-contains (λ (s : Seen). IsCatalogRead s → ⊥) (seen_at e ++ seen_in es) seen (All-from_recursion (λ (s : Seen). IsCatalogRead s → ⊥) (seen_at e ++ seen_in es) parts) (Contains-append_left (seen_at e) (seen_in es) seen has) is

    rest : NoCatalog (seen_in es)
    rest = (Rattle.mn_page.proofs.Grid.all_split (λ (s : Seen). IsCatalogRead s → ⊥) (seen_at e) (seen_in es) parts).1

first_one : (c : ClientNo) (past : List Entry) (a b : ℕ) → FirstCatalogAt c past a
    → FirstCatalogAt c past b → a ≡ b
first_one c past a b one other = at (ordered (length one.before) (length other.before))
  where
    same : SameOldest (client_entries c one.later) (client_entries c other.later) one.entry other.entry
    same =
        oldest_one BringsCatalog (client_entries c one.later) (client_entries c other.later) one.entry other.entry (since_begin (client_entries c one.before)) (since_begin (client_entries c other.before)) (sym one.since ∙ other.since) one.here.1 other.here.1
        (none_bring (since_begin (client_entries c one.before)) one.first) (none_bring (since_begin (client_entries c other.before)) other.first)

    -- the entry of the higher place is one more of the client's
    longer : (x y : Entry) (later later' before before' : List Entry) → past ≡ later ++ x ∷ before
        → past ≡ later' ++ y ∷ before' → is_by c y ≡ true → length before < length before'
        → length (client_entries c later) ≡ length (client_entries c later') → ⊥
    longer x y later later' before before' split split' by less equal =
        let inner = inner_split later later' x y before before' (sym split ∙ split') less in
        let parts : later ≡ later' ++ y ∷ inner.between = append_cancel_right later (later' ++ y ∷ inner.between) (x ∷ before) (sym split ∙ (split' ∙ (ap (λ (l : List Entry). later' ++ y ∷ l) inner.split ∙ sym (append_assoc later' (y ∷ inner.between) (x ∷ before))))) in
        let list : length (client_entries c later) ≡ length (client_entries c later' ++ y ∷ client_entries c inner.between) = ap (λ (l : List Entry). length l) (client_split c later later' y inner.between parts by) in
        let sum = length-append (client_entries c later') (y ∷ client_entries c inner.between) in
        absurd (omega arith)

    at : (length one.before < length other.before)
        ⊎ ((length one.before ≡ length other.before) ⊎ (length other.before < length one.before))
        → a ≡ b
    at (inl less) = absurd (longer one.entry other.entry one.later other.later one.before other.before one.split other.split other.here.0 less (ap (λ (l : List Entry). length l) (sym same.parts)))
    at (inr (inl equal)) = one.is_place ∙ (equal ∙ sym other.is_place)
    at (inr (inr more)) = absurd (longer other.entry one.entry other.later one.later other.before one.before other.split one.split one.here.0 more (ap (λ (l : List Entry). length l) same.parts))

read_one : (c : ClientNo) (past : List Entry) (op : Op) (reply : Reply) (a b : ℕ)
    → ReadPlace c past op reply a → ReadPlace c past op reply b → a ≡ b
read_one c past (Scan name low high limit) (Say.Pairs pairs) a b one other = first_one c past a b one other
read_one c past op reply a b one other = last_one c op reply past a b one other

-- What an entry puts there

answer_one : (past : List Entry) (c : ClientNo) (begun : Option Begun) (answer : Answer) (old one other : List Placed) → AnswerPuts past c begun answer old one → AnswerPuts past c begun answer old other → one ≡ other
answer_one past c None answer old one other p q = p ∙ sym q
answer_one past c (Some begun) (Replied reply) old one other p q = by (has_past c begun.number old) p q
  where
    by : (b : Bool)
        → MatchBool b (one ≡ old) ((place : ℕ) × ReadPlace c past begun.op reply place × (one ≡ placed_in (record { place = place; past = record { client = c; number = begun.number; op = begun.op; reply = reply } }) old))
        → MatchBool b (other ≡ old) ((place : ℕ) × ReadPlace c past begun.op reply place × (other ≡ placed_in (record { place = place; past = record { client = c; number = begun.number; op = begun.op; reply = reply } }) old)) → one ≡ other
    by true p q = p ∙ sym q
    by false (a, read, is) (b, read', is') =
        is ∙ (ap (λ (k : ℕ). placed_in (record { place = k; past = record { client = c; number = begun.number; op = begun.op; reply = reply } }) old) (read_one c past begun.op reply a b read read') ∙ sym is')
answer_one past c (Some begun) (GaveUp busy) old one other p q = p ∙ sym q
answer_one past c (Some begun) (Down n) old one other p q = p ∙ sym q
answer_one past c (Some begun) (InDoubt tid n) old one other p q = p ∙ sym q
answer_one past c (Some begun) (Full need free) old one other p q = p ∙ sym q
answer_one past c (Some begun) (Worn n start) old one other p q = p ∙ sym q
answer_one past c (Some begun) NoMemory old one other p q = p ∙ sym q

step_one : (past : List Entry) (by : Option ClientNo) (what : What) (old one other : List Placed)
    → StepPuts past by what old one → StepPuts past by what old other → one ≡ other
step_one past None what old one other p q = p ∙ sym q
step_one past (Some c) (Answered number answer) old one other p q = answer_one past c (under_way (client_entries c past)) answer old one other p q
step_one past (Some c) (Begin number op) old one other p q = p ∙ sym q
step_one past (Some c) (Issue tid mini) old one other p q = p ∙ sym q
step_one past (Some c) (Called request reply) old one other p q = p ∙ sym q
step_one past (Some c) (Stopped request asked) old one other p q = p ∙ sym q
step_one past (Some c) (Restarted kept) old one other p q = p ∙ sym q
step_one past (Some c) (Abandoned tid) old one other p q = p ∙ sym q

same_past : (p q : Past) → p.client ≡ q.client → begun_as p ≡ begun_as q → p.reply ≡ q.reply → p ≡ q
same_past p q client begun reply =
    ap (λ (c : ClientNo). let r : Past = record { client = c; number = p.number; op = p.op; reply = p.reply } in r) client
    ∙ (ap (λ (b : Begun). let r : Past = record { client = q.client; number = b.number; op = b.op; reply = p.reply } in r) begun
    ∙ ap (λ (x : Reply). let r : Past = record { client = q.client; number = q.number; op = q.op; reply = x } in r) reply)

plan_one : (start : Start) (store : Store) (past : List Entry) (e : Entry) (old : List Placed)
    → Known start store past old → FollowsProtocol start (e ∷ past) → (i : Issued)
    → committed_by past e ≡ Some i → is_read i.mini.items ≡ false
    → (p q : Past) → PlanOf past i p → PlanOf past i q → p ≡ q
plan_one start store past e old known run i is not_read p q a b =
    let same = one_operation start (e ∷ past) (length past) (length past) p q
    (record { entry = e; later = []; before = past; issued = i; split = refl; is_place = refl; commits = is; no_read = not_read; plan = a })
    (record { entry = e; later = []; before = past; issued = i; split = refl; is_place = refl; commits = is; no_read = not_read; plan = b }) refl run in
    let s = some_store start store past old known [] past refl in
    let one = (plan_acts start store past e old known run i p is a s.0 s.1).0 in
    let two = (plan_acts start store past e old known run i q is b s.0 s.1).0 in
    let op : p.op ≡ q.op = ap (λ (x : Begun). x.op) same.1 in
    same_past p q same.0 same.1 (one ∙ (ap (λ (o : Op). (Rattle.mn_base.specs.Store.applied s.0 o).reply) op ∙ sym two))

entry_one : (start : Start) (store : Store) (past : List Entry) (e : Entry) (old one other : List Placed) → Known start store past old → FollowsProtocol start (e ∷ past) → (o : Option Issued) → committed_by past e ≡ o → EntryPuts past e o old one → EntryPuts past e o old other → one ≡ other
entry_one start store past e old one other known run None none p q = step_one past e.client e.what old one other p q
entry_one start store past e old one other known run (Some i) is p q = by (is_read i.mini.items) refl p q
  where
    by : (b : Bool) → is_read i.mini.items ≡ b
        → MatchBool b (one ≡ old) ((p : Past) × PlanOf past i p × (one ≡ old ++ record { place = length past; past = p } ∷ []))
        → MatchBool b (other ≡ old) ((p : Past) × PlanOf past i p × (other ≡ old ++ record { place = length past; past = p } ∷ [])) → one ≡ other
    by true read p q = p ∙ sym q
    by false not_read (p, plan, same) (q, plan', same') =
        same ∙ (ap (λ (x : Past). old ++ record { place = length past; past = x } ∷ []) (plan_one start store past e old known run i is not_read p q plan plan') ∙ sym same')

one_run : (start : Start) (store : Store) (past : List Entry) (one other : List Placed)
    → StartsSound start → Opens start store → IsRun start past
    → IsHistory past one → IsHistory past other → one ≡ other
one_run start store [] one other sound opened run p q = p ∙ sym q
one_run start store (e ∷ past) one other sound opened run (old, history, puts) (old', history', puts') =
    let same : old' ≡ old = one_run start store past old' old sound opened run.0 history' history in
    entry_one start store past e old one other (known_run start store past old sound opened run.0 history) (runs_follow_protocol start (e ∷ past) run) (committed_by past e) refl puts
    (subst (λ (l : List Placed). EntryPuts past e (committed_by past e) l other) same puts')

pub history_is_one : HistoryIsOne
history_is_one start store past one other h k = one_run start store past one other h.opened.opened.sound h.opened.opened h.opened.run h.history k.history

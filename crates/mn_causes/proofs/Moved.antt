-- Bytes that an operation had read and did not find again were changed by another operation's plan,
-- within one try.
use Rattle.std.proofs.Common.{◌≡◌, ℕ, zero, suc, ◌+◌, ◌*◌, ◌-◌, ◌<◌, ◌≤◌, ◌⊎◌, inl, inr, Bool, true, false, not, ◌&&◌, List, [], ◌∷◌, ◌++◌, length, take, drop, Option, Some, None, refl, subst, sym, ap, ◌∙◌, arith, if◌then◌else◌, slice_get, Contains}
use Rattle.std.specs.Prelude.{bytes_eq}
use Rattle.std.specs.List.{list_all}
use Rattle.std.proofs.lemmas.List.{append_assoc, length-append}
use Rattle.std.proofs.lemmas.List.Elements.{Contains-append_cases}
use Rattle.mn_base.specs.Store.{Store}
use Rattle.mn_base.specs.declared.ids.NodeNo.{NodeNo}
use Rattle.mn_base.specs.declared.ids.ClientNo.{ClientNo}
use Rattle.mn_base.specs.declared.ids.Tid.{Tid}
use Rattle.mn_base.specs.declared.answer.Busy.{Busy}
use Rattle.mn_base.specs.declared.answer.Busy.TheVariants.{Moved}
use Rattle.mn_base.specs.declared.answer.Answer.TheVariants.{Busy as GaveUp}
use Rattle.mn_mini.specs.declared.part.PartItem.{PartItem}
use Rattle.mn_mini.specs.declared.part.PartItem.TheVariants as Bare
use Rattle.mn_mini.specs.declared.record.Record.{Record}
use Rattle.mn_mini.specs.declared.record.Record.TheVariants.{Voted, Executed}
use Rattle.mn_mini.specs.declared.request.Request.{Request}
use Rattle.mn_mini.specs.declared.request.Request.TheVariants as Ask
use Rattle.mn_mini.specs.declared.reply.NodeReply.{NodeReply}
use Rattle.mn_mini.specs.declared.reply.NodeReply.TheVariants as Say
use Rattle.mn_mini.specs.Mini.{has_write, is_read}
use Rattle.mn_mini.specs.Flat.{Mismatched, bytes_in, space_in, part_mismatch_from}
use Rattle.mn_mini.specs.Node.{held_parts, has_forced, Clash, clash_of, only_reply, after_compares, after_locks, tested, answer, space_of}
use Rattle.mn_base.proofs.Keys.{bytes_eq-refl}
use Rattle.mn_runs.specs.declared.entry.Entry.{Entry}
use Rattle.mn_runs.specs.declared.entry.What.{What}
use Rattle.mn_runs.specs.declared.entry.What.TheVariants.{Called}
use Rattle.mn_runs.specs.Calls.{Call, Issued, calls_of, client_entries}
use Rattle.mn_runs.specs.Clients.{Sends}
use Rattle.mn_runs.specs.Commits.{committed_by}
use Rattle.mn_runs.specs.Seen.{Seen, seen_in, seen_at}
use Rattle.mn_page.specs.Holds.{Holds}
use Rattle.mn_law.specs.Places.{entry_place, catalog_node, content_in}
use Rattle.mn_law.specs.Answers.{RefusedAs, DiffersAs, ShowsBytes, ShowsExpected, part_compares, is_refusal, none_refused}
use Rattle.mn_runs.specs.Protocol.{Start, FollowsProtocol, AllowedAt, AllowedBy, base_at, records_of}
use Rattle.mn_law.specs.Run.{IsRun}
use Rattle.mn_votes.specs.Laws.{StartsSound}
use Rattle.mn_commits.specs.Laws.{part_of_request}
use Rattle.mn_serial.specs.Meaning.{OpenedRun, StandsAt, AnswersOp}
use Rattle.mn_causes.specs.Causes.{BusyTries, CommitsOther, WasMoved, MovedByOther}
use Rattle.mn_law.proofs.MakeRun.{runs_follow_protocol}
use Rattle.mn_law.proofs.Sees.{seen_in-cons}
use Rattle.mn_votes.proofs.Backing.{ExecAt}
use Rattle.mn_votes.proofs.Preserved.{new_not_old}
use Rattle.mn_votes.proofs.Acts.{sent_unvoted}
use Rattle.mn_commits.proofs.Bytes.Layers.{IsFree, mismatch_below}
use Rattle.mn_commits.proofs.Bytes.Even.{comm, held_at}
use Rattle.mn_commits.proofs.Bytes.Commit.{free_of}
use Rattle.mn_commits.proofs.Bytes.Step.{flat, exec_unheld, unvoted_unheld}
use Rattle.mn_commits.proofs.Bytes.Through.{Whole}
use Rattle.mn_commits.proofs.Bytes.Spaces.{whole_run}
use Rattle.mn_commits.proofs.Bytes.Seen.{StandsIn, here_seen}
use Rattle.mn_runs.proofs.Seen.{nothing}
use Rattle.mn_runs.proofs.Prefixes.{follows_before}
use Rattle.mn_plans.proofs.AlikeEntries.{entries_alike}
use Rattle.mn_serial.proofs.Settled.Agree.{front_of_content}
use Rattle.mn_serial.proofs.Meaning.Kept.{some_store}
use Rattle.mn_serial.proofs.Meaning.Legal.{known_run}
use Rattle.mn_serial.proofs.Meaning.Exists.{history_exists}
use Rattle.mn_serial.proofs.Meaning.Prefixes.{older_run}
use Rattle.mn_serial.proofs.Meaning.Effects.{flat_none, flat_read, no_plan_at_read}
use Rattle.mn_serial.proofs.Meaning.Once.{others_commit_nothing}
use Rattle.mn_serial.proofs.Meaning.Found.{plan_exists}
use Rattle.mn_causes.proofs.LastTry.{Deeper, deeper, as_in_last, busy_tries, in_log}
use Rattle.mn_causes.proofs.Refused.{LastRefused, last_refused, call_in_last}
use Rattle.mn_causes.proofs.Held.{call_answer}
use Rattle.mn_runs.proofs.NewCalls.{calls_append}

-- Bytes of a range of a range

window : (xs : List ℕ) (m d k : ℕ) → length (take k (drop d (take m xs))) ≡ k
    → take k (drop d (take m xs)) ≡ take k (drop d xs)
window xs m d zero e = refl
window xs zero zero (suc k) e = absurd (omega arith)
window [] (suc m) zero (suc k) e = absurd (omega arith)
window (x ∷ xs) (suc m) zero (suc k) e = ap (λ (l : List ℕ). x ∷ l) (window xs m zero k (omega arith))
window xs zero (suc d) (suc k) e = absurd (omega arith)
window [] (suc m) (suc d) (suc k) e = absurd (omega arith)
window (x ∷ xs) (suc m) (suc d) (suc k) e = window xs m d (suc k) e

drops : (a d : ℕ) (xs : List ℕ) → drop d (drop a xs) ≡ drop (a + d) xs
drops a d xs = Rattle.std.proofs.lemmas.List.drop-drop d a xs

range_of_range : (space : List ℕ) (a m b k : ℕ) → a ≤ b
    → length (bytes_in (bytes_in space a m) (b - a) k) ≡ k
    → bytes_in (bytes_in space a m) (b - a) k ≡ bytes_in space b k
range_of_range space a m b k low long =
    let sum : a + (b - a) ≡ b = omega arith in
    window (drop a space) m (b - a) k long ∙ (ap (take k) (drops a (b - a) space) ∙ ap (λ (j : ℕ). take k (drop j space)) sum)

-- The compare that differed

record MismatchAt (space : List ℕ) (i : ℕ) (part : List PartItem) (at : Mismatched) : Type 0 where
  pub number : ℕ
  pub begins : ℕ
  pub expected : List ℕ
  pub item_is : at.item ≡ i + number
  pub there : slice_get (part_compares part) number ≡ Some (begins, expected)
  pub found_is : bytes_in space begins (length expected) ≡ at.found
  pub differs : bytes_eq at.found expected ≡ false

mismatch_at : (space : List ℕ) (i : ℕ) (part : List PartItem) (at : Mismatched)
    → part_mismatch_from space i part ≡ Some at → MismatchAt space i part at
mismatch_at space i [] at is = absurd cc
mismatch_at space i (Bare.Read begins size ∷ part) at is =
    let m = mismatch_at space i part at is in record { number = m.number; begins = m.begins; expected = m.expected; item_is = m.item_is; there = m.there; found_is = m.found_is; differs = m.differs }
mismatch_at space i (Bare.Write begins bytes ∷ part) at is =
    let m = mismatch_at space i part at is in record { number = m.number; begins = m.begins; expected = m.expected; item_is = m.item_is; there = m.there; found_is = m.found_is; differs = m.differs }
mismatch_at space i (Bare.Compare begins bytes ∷ part) at is = by (bytes_eq (bytes_in space begins (length bytes)) bytes) refl is (λ e. mismatch_at space (i + 1) part at e)
  where
    some : (a b : Mismatched) → Some a ≡ Some b → a ≡ b
    some a b e = cc

    by : (b : Bool) → bytes_eq (bytes_in space begins (length bytes)) bytes ≡ b
        → (if b then part_mismatch_from space (i + 1) part else Some (record { item = i; found = bytes_in space begins (length bytes) })) ≡ Some at
        → (part_mismatch_from space (i + 1) part ≡ Some at → MismatchAt space (i + 1) part at)
        → MismatchAt space i (Bare.Compare begins bytes ∷ part) at
    by true e f rest =
        let m = rest f in
        let is : at.item ≡ i + 1 + m.number = m.item_is in
        record { number = suc m.number; begins = m.begins; expected = m.expected; item_is = omega arith; there = m.there; found_is = m.found_is; differs = m.differs }
    by false e f rest =
        let this : record { item = i; found = bytes_in space begins (length bytes) } ≡ at = some _ at f in
        let item : i ≡ at.item = ap (λ (x : Mismatched). x.item) this in
        let found : bytes_in space begins (length bytes) ≡ at.found = ap (λ (x : Mismatched). x.found) this in
        record { number = 0; begins = begins; expected = bytes; item_is = omega arith; there = refl; found_is = found; differs = ap (λ (x : List ℕ). bytes_eq x bytes) (sym found) ∙ e }

-- what a node's BadCompare says
record Compared (base : List ℕ) (records : List Record) (tid : Tid) (part : List PartItem) (item : ℕ) (found : List ℕ) : Type 0 where
  pub free : clash_of (held_parts records) tid part ≡ None
  pub differs : part_mismatch_from (space_of base records) 0 part ≡ Some (record { item = item; found = found })

tested_compare : (base : List ℕ) (records : List Record) (tid : Tid) (part : List PartItem) (added : Option Record) (item : ℕ) (found : List ℕ) → (tested base records tid part added).reply ≡ Say.BadCompare item found → Compared base records tid part item found
tested_compare base records tid part added item found is = locks (clash_of (held_parts records) tid part) refl is
  where
    compares : (o : Option Mismatched) → part_mismatch_from (space_of base records) 0 part ≡ o
        → (after_compares (space_of base records) part added o).reply ≡ Say.BadCompare item found
        → part_mismatch_from (space_of base records) 0 part ≡ Some (record { item = item; found = found })
    compares (Some at) e f = e ∙ same at.item item at.found found f
      where
        same : (a b : ℕ) (x y : List ℕ) → Say.BadCompare a x ≡ Say.BadCompare b y
            → ◌≡◌ {A = Option Mismatched} (Some (record { item = a; found = x })) (Some (record { item = b; found = y }))
        same a b x y h = let p : a ≡ b = cc in let q : x ≡ y = cc in λ i. Some (record { item = p i; found = q i })
    compares None e f = absurd cc

    locks : (o : Option Clash) → clash_of (held_parts records) tid part ≡ o
        → (after_locks (space_of base records) part added o).reply ≡ Say.BadCompare item found
        → Compared base records tid part item found
    locks (Some at) e f = absurd cc
    locks None e f = record { free = e; differs = compares (part_mismatch_from (space_of base records) 0 part) refl f }

prepare_compare : (base : List ℕ) (records : List Record) (tid : Tid) (ps : List NodeNo) (part : List PartItem) (item : ℕ) (found : List ℕ) → (answer base records (Ask.Prepare tid ps part)).reply ≡ Say.BadCompare item found → Compared base records tid part item found
prepare_compare base records tid ps part item found is = by (has_forced records tid) is
  where
    by : (b : Bool)
        → (if b then only_reply Say.BadForced else tested base records tid part (Some (Voted tid ps part))).reply ≡ Say.BadCompare item found → Compared base records tid part item found
    by true e = absurd cc
    by false e = tested_compare base records tid part (Some (Voted tid ps part)) item found e

-- so they differ in the flat memory
differ_flat : (start : Start) (past : List Entry) (n : NodeNo) (tid : Tid) (part : List PartItem) (item : ℕ) (found : List ℕ) → Whole start past → IsFree part (held_parts (records_of start past n)) → Compared (base_at start n) (records_of start past n) tid part item found
    → part_mismatch_from (space_in (flat start past) n) 0 part ≡ Some (record { item = item; found = found })
differ_flat start past n tid part item found w free c =
    ap (λ (x : List ℕ). part_mismatch_from x 0 part) (w.even.agrees n)
    ∙ (mismatch_below (comm start past) (space_of (base_at start n) (records_of start past n)) (held_parts (records_of start past n)) part free ∙ c.differs)

call_differs : (start : Start) (past : List Entry) (c : ClientNo) (n : NodeNo) (request : Request) (part : List PartItem) (item : ℕ) (found : List ℕ) → Whole start past → Sends (client_entries c past) (Some n) request → part_of_request request ≡ Some part
    → (answer (base_at start n) (records_of start past n) request).reply ≡ Say.BadCompare item found
    → part_mismatch_from (space_in (flat start past) n) 0 part ≡ Some (record { item = item; found = found })
call_differs start past c n (Ask.Prepare t ps own) part item found w sends is said =
    let compared = prepare_compare (base_at start n) (records_of start past n) t ps own item found said in
    let first = (sent_unvoted start past c n (Ask.Prepare t ps own) w.kept sends).unvoted t ps own refl in
    let same : own ≡ part = cc in
    subst (λ (p : List PartItem). part_mismatch_from (space_in (flat start past) n) 0 p ≡ Some (record { item = item; found = found })) same
    (differ_flat start past n t own item found w (free_of (held_parts (records_of start past n)) t own compared.free (unvoted_unheld (records_of start past n) t first.0)) compared)
call_differs start past c n (Ask.Exec t own) part item found w sends is said =
    let compared = tested_compare (base_at start n) (records_of start past n) t own (if has_write own then Some (Executed t own) else None) item found said in
    let first = (sent_unvoted start past c n (Ask.Exec t own) w.kept sends).exec t own refl in
    let same : own ≡ part = cc in
    subst (λ (p : List PartItem). part_mismatch_from (space_in (flat start past) n) 0 p ≡ Some (record { item = item; found = found })) same
    (differ_flat start past n t own item found w (exec_free first.1 compared.free) compared)
  where
    exec_free : ExecAt past t n own → clash_of (held_parts (records_of start past n)) t own ≡ None
        → IsFree own (held_parts (records_of start past n))
    exec_free (mini, has, its, alone) free =
        free_of (held_parts (records_of start past n)) t own free
        (exec_unheld start past n t mini n (new_not_old start past t.client t mini w.kept has) has alone (held_parts (records_of start past n)) (held_at start past n (records_of start past n) (w.kept.records n)))
call_differs start past c n (Ask.Decide t verdict) part item found w sends is said = absurd cc
call_differs start past c n (Ask.Force t) part item found w sends is said = absurd cc
call_differs start past c n Ask.List part item found w sends is said = absurd cc
call_differs start past c n (Ask.Peek at size) part item found w sends is said = absurd cc

-- What the list shows

record Differed (seens : List Seen) (m n : NodeNo) (request : Request) (reply : NodeReply) (begins : ℕ) (expected found : List ℕ) : Type 0 where
  pub part : List PartItem
  pub item : ℕ
  pub node_is : m ≡ n
  pub asked : part_of_request request ≡ Some part
  pub reply_is : reply ≡ Say.BadCompare item found
  pub there : slice_get (part_compares part) item ≡ Some (begins, expected)
  pub shows : ShowsExpected seens n begins expected

moved_parts : (n m : NodeNo) (a b : ℕ) (x y s t : List ℕ) → Moved n a x s ≡ Moved m b y t
    → (m ≡ n) × (b ≡ a) × (y ≡ x) × (t ≡ s)
moved_parts n m a b x y s t e = (cc, cc, cc, cc)

differed : (seens : List Seen) (m n : NodeNo) (request : Request) (part : List PartItem) (item : ℕ) (begins : ℕ) (expected found was : List ℕ) → part_of_request request ≡ Some part → DiffersAs seens m part item was (Moved n begins expected found)
    → Differed seens m n request (Say.BadCompare item was) begins expected found
differed seens m n request part item begins expected found was asked (at, bytes, there, shows, is) =
    let parts = moved_parts n m begins at expected bytes found was is in
    record {
      part = part;
      item = item;
      node_is = parts.0;
      asked = asked;
      reply_is = ap (λ (x : List ℕ). Say.BadCompare item x) parts.3;
      there = there ∙ (λ i. Some (parts.1 i, parts.2 i));
      shows = subst (λ (k : NodeNo). ShowsExpected seens k begins expected) parts.0 (subst (λ (b : ℕ). ShowsExpected seens m b expected) parts.1 (subst (λ (x : List ℕ). ShowsExpected seens m at x) parts.2 shows));
    }

moved_refused : (seens : List Seen) (m : NodeNo) (request : Request) (reply : NodeReply) (n : NodeNo) (begins : ℕ) (expected found : List ℕ) → RefusedAs seens m request reply (Moved n begins expected found) → Differed seens m n request reply begins expected found
moved_refused seens m request (Say.BadLock b s h) n begins expected found is = absurd cc
moved_refused seens m (Ask.Prepare tid ps part) (Say.BadCompare item was) n begins expected found is = differed seens m n (Ask.Prepare tid ps part) part item begins expected found was refl is
moved_refused seens m (Ask.Exec tid part) (Say.BadCompare item was) n begins expected found is = differed seens m n (Ask.Exec tid part) part item begins expected found was refl is
moved_refused seens m (Ask.Prepare tid ps part) Say.BadForced n begins expected found is = absurd cc
moved_refused seens m request reply n begins expected found is = absurd is

-- on which node the expected bytes were read: on the compared one, or, the number of an entry, on the node from which the
-- catalog is read
abbrev ReadOn : NodeNo → NodeNo → ℕ → List ℕ → Type 0
ReadOn m n begins expected = (m ≡ n) ⊎ ((m ≡ catalog_node) × ((v : ℕ) × (v < 64) × (begins ≡ 64 + 64 * v) × (length expected ≡ 8)))

read_on : (seens : List Seen) (n : NodeNo) (begins : ℕ) (expected : List ℕ) → ShowsExpected seens n begins expected → (m : NodeNo) × (ReadOn m n begins expected × ShowsBytes seens m begins expected)
read_on seens n begins expected (inl shows) = (n, (inl refl, shows))
read_on seens n begins expected (inr (v, few, at, long, shows)) = (catalog_node, (inr (refl, (v, few, at, long)), shows))

shown_on : (seens : List Seen) (m n : NodeNo) (begins : ℕ) (expected : List ℕ) → ReadOn m n begins expected → ShowsBytes seens m begins expected → ShowsExpected seens n begins expected
shown_on seens m n begins expected (inl same) shows = inl (subst (λ (k : NodeNo). ShowsBytes seens k begins expected) same shows)
shown_on seens m n begins expected (inr (first, (v, few, at, long))) shows = inr (v, few, at, long, subst (λ (k : NodeNo). ShowsBytes seens k begins expected) first shows)

-- in a memory that holds a store the compared node has them then too
also_there : (memory : List (List ℕ)) (store : Store) → Holds memory store → (m n : NodeNo) (begins : ℕ) (expected : List ℕ) → n.0 < length memory → ReadOn m n begins expected
    → bytes_in (space_in memory m) begins (length expected) ≡ expected → bytes_in (space_in memory n) begins (length expected) ≡ expected
also_there memory store holds m n begins expected in' (inl same) stood = subst (λ (k : NodeNo). bytes_in (space_in memory k) begins (length expected) ≡ expected) same stood
also_there memory store holds m n begins expected in' (inr (first, (v, few, at, long))) stood =
    let front : (k : NodeNo) → take 8 (content_in (space_in memory k) (entry_place k v)) ≡ bytes_in (space_in memory k) (64 + 64 * v) 8 = λ k. front_of_content (space_in memory k) (entry_place k v) (inr (k, v, few, refl)) in
    let alike : bytes_in (space_in memory n) (64 + 64 * v) 8 ≡ bytes_in (space_in memory catalog_node) (64 + 64 * v) 8 = sym (front n) ∙ (ap (take 8) (entries_alike memory store holds n v in' few) ∙ front catalog_node) in
    let here : (k : NodeNo) → bytes_in (space_in memory k) begins (length expected) ≡ bytes_in (space_in memory k) (64 + 64 * v) 8 = λ k. ap (λ (b : ℕ). bytes_in (space_in memory k) b (length expected)) at ∙ ap (bytes_in (space_in memory k) (64 + 64 * v)) long in
    here n ∙ (alike ∙ (sym (here catalog_node) ∙ (ap (λ (k : NodeNo). bytes_in (space_in memory k) begins (length expected)) (sym first) ∙ stood)))

-- the entry that brought a read
pub record BroughtIn (es : List Entry) (seen : Seen) : Type 0 where
  pub newer : List Entry
  pub entry : Entry
  pub older : List Entry
  pub split : es ≡ newer ++ entry ∷ older
  pub brought : Contains (seen_at entry) seen

pub brought : (es : List Entry) (seen : Seen) → Contains (seen_in es) seen → BroughtIn es seen
brought [] seen has = absurd (nothing seen has)
brought (e ∷ es) seen has = by (Contains-append_cases (seen_at e) (seen_in es) seen (subst (λ (l : List Seen). Contains l seen) (seen_in-cons e es) has)) (brought es seen)
  where
    by : Contains (seen_at e) seen ⊎ Contains (seen_in es) seen
        → (Contains (seen_in es) seen → BroughtIn es seen) → BroughtIn (e ∷ es) seen
    by (inl here) rest = record { newer = []; entry = e; older = es; split = refl; brought = here }
    by (inr there) rest = let r = rest there in record { newer = e ∷ r.newer; entry = r.entry; older = r.older; split = ap (λ (l : List Entry). e ∷ l) r.split; brought = r.brought }

none_first : (newer older : List Entry) → none_refused (newer ++ older) ≡ true
    → none_refused newer ≡ true
none_first newer older e = first (calls_of newer) (ap (list_all (λ (c : Call). not (is_refusal c.reply))) (sym (calls_append newer older)) ∙ e)
  where
    and_left : (a b : Bool) → (a && b) ≡ true → a ≡ true
    and_left true b h = refl
    and_left false b h = absurd cc

    and_right : (a b : Bool) → (a && b) ≡ true → b ≡ true
    and_right true b h = h
    and_right false b h = absurd cc

    first : (cs : List Call)
        → list_all (λ (c : Call). not (is_refusal c.reply)) (cs ++ calls_of older) ≡ true
        → list_all (λ (c : Call). not (is_refusal c.reply)) cs ≡ true
    first [] h = refl
    first (c ∷ cs) h =
        ap (λ (b : Bool). b && list_all (λ (d : Call). not (is_refusal d.reply)) cs) (and_left (not (is_refusal c.reply)) _ h) ∙ first cs (and_right (not (is_refusal c.reply)) _ h)

-- Between two places the memory stays, or a plan is committed

pub record CommitIn (later before : List Entry) : Type 0 where
  pub newer : List Entry
  pub entry : Entry
  pub older : List Entry
  pub issued : Issued
  pub split : later ≡ newer ++ entry ∷ older
  pub commits : committed_by (older ++ before) entry ≡ Some issued
  pub not_read : is_read issued.mini.items ≡ false

pub stays_or_commits : (start : Start) (later before : List Entry)
    → (flat start (later ++ before) ≡ flat start before) ⊎ CommitIn later before
stays_or_commits start [] before = inl refl
stays_or_commits start (e ∷ later) before = by (stays_or_commits start later before) (committed_by (later ++ before) e) refl
  where
    further : CommitIn later before → CommitIn (e ∷ later) before
    further c = record { newer = e ∷ c.newer; entry = c.entry; older = c.older; issued = c.issued; split = ap (λ (l : List Entry). e ∷ l) c.split; commits = c.commits; not_read = c.not_read }

    tell : (i : Issued) → committed_by (later ++ before) e ≡ Some i → (b : Bool)
        → is_read i.mini.items ≡ b → flat start (later ++ before) ≡ flat start before
        → (flat start (e ∷ (later ++ before)) ≡ flat start before) ⊎ CommitIn (e ∷ later) before
    tell i is true read same = inl (flat_read start (later ++ before) e i is read ∙ same)
    tell i is false not_read same = inr (record { newer = []; entry = e; older = later; issued = i; split = refl; commits = is; not_read = not_read })

    by : (flat start (later ++ before) ≡ flat start before) ⊎ CommitIn later before
        → (o : Option Issued) → committed_by (later ++ before) e ≡ o
        → (flat start (e ∷ (later ++ before)) ≡ flat start before) ⊎ CommitIn (e ∷ later) before
    by (inr c) o is = inr (further c)
    by (inl same) None none = inl (flat_none start (later ++ before) e none ∙ same)
    by (inl same) (Some i) is = tell i is (is_read i.mini.items) refl same

-- a plan that is committed before the entry of a busy operation is another operation's
pub commits_other : (start : Start) (store : Store) (past : List Entry) (place : ℕ) (e : Entry) (c : ClientNo) (number : ℕ) (busy : Busy) → OpenedRun start store past → StandsAt past place e
    → AnswersOp e c number (GaveUp busy) → (later : List Entry) (x : Entry) (log : List Entry)
    → past ≡ later ++ x ∷ log → (newer : List Entry) (y : Entry) (older : List Entry) (i : Issued)
    → log ≡ newer ++ y ∷ older → committed_by older y ≡ Some i → is_read i.mini.items ≡ false
    → CommitsOther past c number (length older)
commits_other start store past place e c number busy h stands answers later x log split newer y older i inner commits not_read =
    let outer : past ≡ (later ++ (x ∷ newer)) ++ y ∷ older = split ∙ (ap (λ (es : List Entry). later ++ x ∷ es) inner ∙ sym (append_assoc later (x ∷ newer) (y ∷ older))) in
    let run : IsRun start (y ∷ older) = older_run start (later ++ (x ∷ newer)) (y ∷ older) (subst (IsRun start) outer h.run) in
    let plan = plan_exists start older y i run.0 commits not_read in
    record {
      other = plan.0.client;
      its = plan.0.number;
      commits = (later ++ (x ∷ newer), y, older, i, outer, refl, commits, not_read, (plan.0, plan.1, refl, refl));
      not_own = λ client its.
          others_commit_nothing start store past place (length older) e c number (GaveUp busy) h stands answers tt
          (later ++ (x ∷ newer), y, older, i, outer, refl, commits, not_read, (plan.0, plan.1, client, its));
    }

-- an entry that read something leaves the memory
read_stays : (start : Start) (before : List Entry) (x : Entry) (seen : Seen) → StartsSound start
    → FollowsProtocol start (x ∷ before) → Contains (seen_at x) seen
    → flat start (x ∷ before) ≡ flat start before
read_stays start before x seen sound run has = by (committed_by before x) refl
  where
    tell : (i : Issued) → committed_by before x ≡ Some i → (b : Bool) → is_read i.mini.items ≡ b
        → flat start (x ∷ before) ≡ flat start before
    tell i is true read = flat_read start before x i is read
    tell i is false not_read = absurd (no_plan_at_read start before x seen i sound run has is not_read)

    by : (o : Option Issued) → committed_by before x ≡ o
        → flat start (x ∷ before) ≡ flat start before
    by None none = flat_none start before x none
    by (Some i) is = tell i is (is_read i.mini.items) refl

pub moved_by_other : MovedByOther
moved_by_other start store past place e c number n begins expected found h stands answers = tell (stays_or_commits start z.between (y.entry ∷ z.is.before))
  where
    t : BusyTries past c number place (Moved n begins expected found)
    t = busy_tries start past h.run c number place (Moved n begins expected found) e stands answers

    r : LastRefused t
    r = last_refused t (λ nodes seens op taken f. f)

    d : Differed (seen_in r.try) r.node n r.request r.reply begins expected found
    d = moved_refused (seen_in r.try) r.node r.request r.reply n begins expected found r.refused

    -- the read that showed the expected bytes
    on : (m : NodeNo) × (ReadOn m n begins expected × ShowsBytes (seen_in r.try) m begins expected)
    on = read_on (seen_in r.try) n begins expected d.shows

    shows : ShowsBytes (seen_in r.try) on.0 begins expected
    shows = on.1.1

    y : BroughtIn r.try shows.0
    y = brought r.try shows.0 shows.1

    z : Deeper t [] r.entry r.try r.there y.newer y.entry y.older
    z = deeper t [] r.entry r.try r.there y.newer y.entry y.older y.split

    follows : FollowsProtocol start past
    follows = runs_follow_protocol start past h.run

    not_down : Say.BadCompare d.item found ≡ Say.Down → ⊥
    not_down e = cc

    pair_is : (a b : ℕ) (x y : List ℕ) → ◌≡◌ {A = Option (ℕ × List ℕ)} (Some (a, x)) (Some (b, y))
        → (a ≡ b) × (x ≡ y)
    pair_is a b x y e =
        let pairs : ◌≡◌ {A = ℕ × List ℕ} (a, x) (b, y) = cc in
        (ap (λ (p : ℕ × List ℕ). p.0) pairs, ap (λ (p : ℕ × List ℕ). p.1) pairs)

    split : past ≡ (t.later ++ (t.answer ∷ r.there.later)) ++ r.entry ∷ r.there.before
    split = in_log t (as_in_last t [] r.entry r.try r.there)

    node : r.entry.node ≡ Some n
    node = r.at_node ∙ ap (λ (m : NodeNo). Some m) d.node_is

    what : r.entry.what ≡ Called r.request (Say.BadCompare d.item found)
    what = r.what ∙ ap (λ (x : NodeReply). Called r.request x) d.reply_is

    to_call : FollowsProtocol start (r.entry ∷ r.there.before)
    to_call = follows_before start past (t.later ++ (t.answer ∷ r.there.later)) (r.entry ∷ r.there.before) split follows

    to_read : FollowsProtocol start (y.entry ∷ z.is.before)
    to_read = follows_before start r.there.before z.between (y.entry ∷ z.is.before) z.split to_call.0

    -- where it was read, the expected bytes stood in the flat memory
    stood_where_read : bytes_in (space_in (flat start z.is.before) on.0) begins (length expected) ≡ expected
    stood_where_read =
        let stands_there : StandsIn (flat start z.is.before) shows.0 =
        here_seen start z.is.before y.entry.client y.entry.node y.entry.what shows.0 (whole_run start z.is.before h.opened.sound to_read.0) to_read.1 y.brought in
        let at_node : shows.0.bytes ≡ bytes_in (space_in (flat start z.is.before) on.0) shows.0.place.start shows.0.place.length =
        subst (λ (k : NodeNo). shows.0.bytes ≡ bytes_in (space_in (flat start z.is.before) k) shows.0.place.start shows.0.place.length) shows.2 stands_there in
        let inner : bytes_in (bytes_in (space_in (flat start z.is.before) on.0) shows.0.place.start shows.0.place.length) (begins - shows.0.place.start) (length expected) ≡ expected =
        ap (λ (b : List ℕ). bytes_in b (begins - shows.0.place.start) (length expected)) (sym at_node) ∙ shows.4 in
        sym (range_of_range (space_in (flat start z.is.before) on.0) shows.0.place.start shows.0.place.length begins (length expected) shows.3 (ap (λ (b : List ℕ). length b) inner)) ∙ inner

    some_holds : (s : Store) × Holds (flat start z.is.before) s
    some_holds =
        let history = history_exists start store past h in
        let known = known_run start store past history.0 h.opened.sound h.opened h.run history.1 in
        some_store start store past history.0 known (((t.later ++ (t.answer ∷ r.there.later)) ++ (r.entry ∷ z.between)) ++ (y.entry ∷ [])) z.is.before
        (split
        ∙ (ap (λ (es : List Entry). (t.later ++ (t.answer ∷ r.there.later)) ++ r.entry ∷ es) z.split
        ∙ (sym (append_assoc (t.later ++ (t.answer ∷ r.there.later)) (r.entry ∷ z.between) (y.entry ∷ z.is.before))
        ∙ sym (append_assoc ((t.later ++ (t.answer ∷ r.there.later)) ++ (r.entry ∷ z.between)) (y.entry ∷ []) z.is.before))))

    in_memory : n.0 < length (flat start z.is.before)
    in_memory =
        let allowed : AllowedAt start r.there.before (Some n) r.entry.what = subst (λ (o : Option NodeNo). AllowedAt start r.there.before o r.entry.what) node to_call.1.at_node in
        subst (λ k. n.0 < k) (sym (whole_run start z.is.before h.opened.sound to_read.0).even.spaces) allowed.0

    stood : bytes_in (space_in (flat start z.is.before) n) begins (length expected) ≡ expected
    stood = also_there (flat start z.is.before) some_holds.0 some_holds.1 on.0 n begins expected in_memory on.1.0 stood_where_read

    sends : Sends (client_entries c r.there.before) (Some n) r.request
    sends =
        let by : AllowedBy r.there.before r.entry.client r.entry.node r.entry.what = to_call.1.by_client in
        let own : AllowedBy r.there.before (Some c) r.entry.node r.entry.what = subst (λ (o : Option ClientNo). AllowedBy r.there.before o r.entry.node r.entry.what) r.there.client by in
        let there : AllowedBy r.there.before (Some c) (Some n) r.entry.what = subst (λ (o : Option NodeNo). AllowedBy r.there.before (Some c) o r.entry.what) node own in
        subst (λ (x : What). AllowedBy r.there.before (Some c) (Some n) x) what there

    -- where it was refused, others stood there
    differ : (bytes_in (space_in (flat start r.there.before) n) begins (length expected) ≡ found)
        × (bytes_eq found expected ≡ false)
    differ =
        let said = call_answer start r.there.before r.entry n r.request (Say.BadCompare d.item found) to_call.1 node what not_down in
        let mismatch = call_differs start r.there.before c n r.request d.part d.item found (whole_run start r.there.before h.opened.sound to_call.0) sends d.asked said in
        let m = mismatch_at (space_in (flat start r.there.before) n) 0 d.part (record { item = d.item; found = found }) mismatch in
        let item_is : d.item ≡ 0 + m.number = m.item_is in
        let number_is : m.number ≡ d.item = omega arith in
        let same = pair_is m.begins begins m.expected expected (sym m.there ∙ (ap (slice_get (part_compares d.part)) number_is ∙ d.there)) in (
          (λ i. bytes_in (space_in (flat start r.there.before) n) (sym same.0 i) (length (sym same.1 i))) ∙ m.found_is,
          subst (λ (x : List ℕ). bytes_eq found x ≡ false) same.1 m.differs,
        )

    clash : (b : Bool) → b ≡ true → b ≡ false → ⊥
    clash b p q = cc

    unchanged : flat start (z.between ++ y.entry ∷ z.is.before) ≡ flat start (y.entry ∷ z.is.before)
        → ⊥
    unchanged same =
        let memory : flat start r.there.before ≡ flat start z.is.before =
        ap (flat start) z.split ∙ (same ∙ read_stays start z.is.before y.entry shows.0 h.opened.sound to_read y.brought) in
        let found_is : found ≡ expected =
        sym differ.0 ∙ (ap (λ (mem : List (List ℕ)). bytes_in (space_in mem n) begins (length expected)) memory ∙ stood) in
        clash (bytes_eq found expected) (ap (λ (b : List ℕ). bytes_eq b expected) found_is ∙ bytes_eq-refl expected) differ.1

    tell : (flat start (z.between ++ y.entry ∷ z.is.before) ≡ flat start (y.entry ∷ z.is.before))
        ⊎ CommitIn z.between (y.entry ∷ z.is.before)
        → WasMoved past c number place n begins expected found
    tell (inl same) = absurd (unchanged same)
    tell (inr co) =
        let inner : r.there.before ≡ co.newer ++ co.entry ∷ (co.older ++ y.entry ∷ z.is.before) =
        z.split ∙ (ap (λ (es : List Entry). es ++ y.entry ∷ z.is.before) co.split ∙ append_assoc co.newer (co.entry ∷ co.older) (y.entry ∷ z.is.before)) in
        let sum = length-append co.older (y.entry ∷ z.is.before) in
        let below = Rattle.mn_serial.proofs.Meaning.Splits.shorter_by r.there.before co.newer co.entry (co.older ++ y.entry ∷ z.is.before) inner in
        record {
          tries = t;
          at = length r.there.before;
          request = r.request;
          item = d.item;
          call = call_in_last t r n r.request (Say.BadCompare d.item found) d.node_is refl d.reply_is;
          part = d.part;
          asked = d.asked;
          compares = d.there;
          differ = differ.1;
          read = length z.is.before;
          reader = y.entry;
          reads = as_in_last t ([] ++ r.entry ∷ y.newer) y.entry y.older z.is;
          shows = shown_on (seen_at y.entry) on.0 n begins expected on.1.0 (shows.0, y.brought, shows.2, shows.3, shows.4);
          commit = length (co.older ++ y.entry ∷ z.is.before);
          other = commits_other start store past place e c number (Moved n begins expected found) h stands answers (t.later ++ (t.answer ∷ r.there.later)) r.entry r.there.before split co.newer co.entry
              (co.older ++ y.entry ∷ z.is.before) co.issued inner co.commits co.not_read;
          inside = (omega arith, omega arith);
        }

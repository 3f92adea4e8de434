-- Every run has a history.
use Rattle.std.proofs.Common.{◌≡◌, ℕ, ◌⊎◌, inl, inr, Bool, true, false, List, [], ◌∷◌, ◌++◌, length, Option, Some, None, refl, subst, sym, ap, ◌∙◌, arith, if◌then◌else◌, Contains}
use Rattle.std.specs.Prelude.{MatchBool}
use Rattle.std.specs.List.{AllByRecursion}
use Rattle.std.proofs.lemmas.List.{append_assoc, append_cancel_right}
use Rattle.mn_base.specs.Store.{Store}
use Rattle.mn_base.specs.declared.history.Past.{Past}
use Rattle.mn_base.specs.declared.ids.NodeNo.{NodeNo}
use Rattle.mn_base.specs.declared.ids.ClientNo.{ClientNo}
use Rattle.mn_base.specs.declared.op.Op.{Op}
use Rattle.mn_base.specs.declared.op.Op.TheVariants.{Scan}
use Rattle.mn_base.specs.declared.reply.Reply.{Reply}
use Rattle.mn_base.specs.declared.reply.Reply.TheVariants as Say
use Rattle.mn_base.specs.declared.answer.Answer.{Answer}
use Rattle.mn_base.specs.declared.answer.Answer.TheVariants.{Replied, Busy as GaveUp, Down, InDoubt, Full, Worn, NoMemory}
use Rattle.mn_mini.specs.Mini.{is_read}
use Rattle.mn_page.specs.Forest.{heads_in}
use Rattle.mn_page.specs.Holds.{Holds}
use Rattle.mn_page.proofs.Grid.{all_split}
use Rattle.mn_runs.specs.declared.entry.Entry.{Entry}
use Rattle.mn_runs.specs.declared.entry.What.{What}
use Rattle.mn_runs.specs.declared.entry.What.TheVariants.{Begin, Issue, Called, Stopped, Restarted, Abandoned, Answered}
use Rattle.mn_runs.specs.Calls.{Issued, Begun, begun_in, under_way, since_begin, since_begin_after, is_by, client_entries}
use Rattle.mn_law.specs.Answers.{ShowsAnswer, IsShownFor, SomeReadShows}
use Rattle.mn_runs.specs.Commits.{committed_by}
use Rattle.mn_runs.specs.Sound.{opened_memory}
use Rattle.mn_runs.specs.Protocol.{Start}
use Rattle.mn_law.specs.Run.{IsRun, Means}
use Rattle.mn_votes.specs.Laws.{StartsSound}
use Rattle.mn_runs.specs.Seen.{Seen, seen_in, seen_at}
use Rattle.mn_law.specs.Shown.{ReadShows, FirstCatalog, ScanShows}
use Rattle.mn_serial.specs.History.{Placed, placed_in, PlanOf, NoCatalog, ShowsHere, LastShown, FirstCatalogAt, ReadPlace, has_past, AnswerPuts, StepPuts, EntryPuts, IsHistory}
use Rattle.mn_serial.specs.OneHistory.{RunsHaveHistory}
use Rattle.mn_law.proofs.MakeRun.{runs_follow_protocol}
use Rattle.mn_law.proofs.Sees.{seen_in-cons}
use Rattle.mn_runs.proofs.Prefixes.{follows_before}
use Rattle.mn_serial.proofs.Meaning.Prefixes.{older_run}
use Rattle.mn_serial.proofs.Meaning.Kept.{Known}
use Rattle.mn_serial.proofs.Meaning.Legal.{Opens, known_run, pairs_refuse_nothing}
use Rattle.mn_serial.proofs.Meaning.Positions.{is_own, client_split}
use Rattle.mn_serial.proofs.Meaning.LastPlan.{Lifted, lift}
use Rattle.mn_serial.proofs.Meaning.Between.{none_begun}
use Rattle.mn_serial.proofs.Meaning.Stands.{older_history}
use Rattle.mn_serial.proofs.Meaning.Decide.{Decided}
use Rattle.mn_serial.proofs.Meaning.Tell.{one_read, dec_shows}
use Rattle.mn_serial.proofs.Meaning.Found.{plan_exists, plan_stands}

-- what is known at an older place
known_before : (start : Start) (store : Store) (past : List Entry) (placed : List Placed)
    → StartsSound start → Opens start store → IsRun start past
    → IsHistory past placed → (later before : List Entry) → past ≡ later ++ before
    → (ps : List Placed) × Known start store before ps
known_before start store past placed sound opened run history later before split =
    let here : IsRun start (later ++ before) = subst (IsRun start) split run in
    let older = older_history start later before placed (runs_follow_protocol start (later ++ before) here) (subst (λ (l : List Entry). IsHistory l placed) split history) in
    (older.older, known_run start store before older.older sound opened (older_run start later before here) older.history)

-- The last read that shows a reply

abbrev NoBegin : ClientNo → Entry → Type 0
NoBegin c e = (is_by c e ≡ false) ⊎ (begun_in e.what ≡ [])

find_last : (start : Start) (store : Store) (past : List Entry) (placed : List Placed)
    → StartsSound start → Opens start store → IsRun start past
    → IsHistory past placed → (c : ClientNo) (op : Op) (reply : Reply)
    → (front later : List Entry) (x : Entry) (before : List Entry)
    → past ≡ front ++ (later ++ x ∷ before) → ShowsHere c before x op reply
    → AllByRecursion (NoBegin c) later
    → (place : ℕ) × LastShown c op reply (later ++ x ∷ before) place
find_last start store past placed sound opened run history c op reply front [] x before split here none = (length before, inl (here, refl))
find_last start store past placed sound opened run history c op reply front (z ∷ later) x before split here none =
    by (dec_shows start store (later ++ x ∷ before) known.0 known.1 z (follows_before start past front (z ∷ (later ++ x ∷ before)) split (runs_follow_protocol start past run)) c op reply)
    (find_last start store past placed sound opened run history c op reply (front ++ z ∷ []) later x before deeper here none.1)
  where
    deeper : past ≡ (front ++ z ∷ []) ++ (later ++ x ∷ before)
    deeper = split ∙ sym (append_assoc front (z ∷ []) (later ++ x ∷ before))

    known : (ps : List Placed) × Known start store (later ++ x ∷ before) ps
    known = known_before start store past placed sound opened run history (front ++ z ∷ []) (later ++ x ∷ before) deeper

    by : Decided (ShowsHere c (later ++ x ∷ before) z op reply)
        → (place : ℕ) × LastShown c op reply (later ++ x ∷ before) place
        → (place : ℕ) × LastShown c op reply (z ∷ (later ++ x ∷ before)) place
    by (inl shows) rest = (length (later ++ x ∷ before), inl (shows, refl))
    by (inr not_here) rest = (rest.0, inr (not_here, none.0, rest.1))

-- what a client's entries begin, the log's entries do
no_begin : (c : ClientNo) (later : List Entry)
    → AllByRecursion (λ (e : Entry). begun_in e.what ≡ []) (client_entries c later)
    → AllByRecursion (NoBegin c) later
no_begin c [] all = tt
no_begin c (e ∷ later) all =
    elim (is_by c e) as (λ b. is_by c e ≡ b → AllByRecursion (λ (x : Entry). begun_in x.what ≡ []) (if b then e ∷ client_entries c later else client_entries c later) → AllByRecursion (NoBegin c) (e ∷ later)) [
      | true ↦ λ by h. (inr h.0, no_begin c later h.1)
      | false ↦ λ by h. (inl by, no_begin c later h)
    ] refl all

-- a part of a client's list that ends in an entry, as a part of the log
pub record LiftedPart (c : ClientNo) (past newer : List Entry) (y : Entry) (older : List Entry) : Type 0 where
  pub later : List Entry
  pub before : List Entry
  pub split : past ≡ later ++ y ∷ before
  pub own : client_entries c later ≡ newer
  pub list : client_entries c before ≡ older
  pub by : is_by c y ≡ true

pub lift_part : (c : ClientNo) (past newer : List Entry) (y : Entry) (older : List Entry)
    → client_entries c past ≡ newer ++ y ∷ older → LiftedPart c past newer y older
lift_part c past newer y older same =
    let l : Lifted c past y older = lift c past newer y older same in
    let by = is_own c y l.by in
    let parts : client_entries c l.later ++ y ∷ older ≡ newer ++ y ∷ older = ap (λ (es : List Entry). client_entries c l.later ++ y ∷ es) (sym l.list) ∙ (sym (client_split c past l.later y l.before l.split by) ∙ same) in
    record { later = l.later; before = l.before; split = l.split; own = append_cancel_right (client_entries c l.later) newer (y ∷ older) parts; list = l.list; by = by }

some_read : (start : Start) (store : Store) (past : List Entry) (placed : List Placed)
    → StartsSound start → Opens start store → IsRun start past
    → IsHistory past placed → (c : ClientNo) (op : Op) (reply : Reply)
    → SomeReadShows (client_entries c past) (since_begin (client_entries c past)) op reply
    → (place : ℕ) × LastShown c op reply past place
some_read start store past placed sound opened run history c op reply shown =
    let l = lift_part c past shown.newer shown.entry shown.before shown.split in
    let none : AllByRecursion (λ (e : Entry). begun_in e.what ≡ []) shown.newer =
    (all_split (λ (e : Entry). begun_in e.what ≡ []) shown.newer (shown.entry ∷ shown.older) (subst (AllByRecursion (λ (e : Entry). begun_in e.what ≡ [])) shown.since (none_begun (client_entries c past)))).0 in
    let here : ShowsHere c l.before shown.entry op reply = (l.by, (shown.seen, shown.brought, subst (λ (es : List Entry). ReadShows es shown.seen op reply) (sym l.list) shown.shows)) in
    let found = find_last start store past placed sound opened run history c op reply [] l.later shown.entry l.before l.split here
    (no_begin c l.later (subst (AllByRecursion (λ (e : Entry). begun_in e.what ≡ [])) (sym l.own) none)) in
    (found.0, subst (λ (es : List Entry). LastShown c op reply es found.0) (sym l.split) found.1)

-- The first catalog of a scan

-- the entry that brought a read, with what was read before it
record BroughtBy (es : List Entry) (seen : Seen) (earlier : List Seen) : Type 0 where
  newer : List Entry
  entry : Entry
  older : List Entry
  split : es ≡ newer ++ entry ∷ older
  brought : Contains (seen_at entry) seen
  rest : seen_in older ≡ earlier

locate : (es : List Entry) (later : List Seen) (seen : Seen) (earlier : List Seen)
    → seen_in es ≡ later ++ seen ∷ earlier → BroughtBy es seen earlier
locate [] later seen earlier same = absurd (none later same)
  where
    none : (l : List Seen) → [] ≡ l ++ seen ∷ earlier → ⊥
    none [] e = cc
    none (x ∷ l) e = cc
locate (e ∷ es) later seen earlier same = by (one_read e) (λ l h. locate es l seen earlier h)
  where
    further : BroughtBy es seen earlier → BroughtBy (e ∷ es) seen earlier
    further b = record { newer = e ∷ b.newer; entry = b.entry; older = b.older; split = ap (λ (l : List Entry). e ∷ l) b.split; brought = b.brought; rest = b.rest }

    at : (s : Seen) → seen_at e ≡ s ∷ [] → (l : List Seen) → s ∷ seen_in es ≡ l ++ seen ∷ earlier
        → ((l : List Seen) → seen_in es ≡ l ++ seen ∷ earlier → BroughtBy es seen earlier)
        → BroughtBy (e ∷ es) seen earlier
    at s is [] h older =
        let here : s ≡ seen = cc in
        let rest : seen_in es ≡ earlier = cc in
        record { newer = []; entry = e; older = es; split = refl; brought = subst (λ (x : List Seen). Contains x seen) (sym (is ∙ ap (λ (x : Seen). x ∷ []) here)) (0, omega arith, refl); rest = rest }
    at s is (x ∷ l) h older = let rest : seen_in es ≡ l ++ seen ∷ earlier = cc in further (older l rest)

    by : (seen_at e ≡ []) ⊎ ((s : Seen) × (seen_at e ≡ s ∷ []))
        → ((l : List Seen) → seen_in es ≡ l ++ seen ∷ earlier → BroughtBy es seen earlier)
        → BroughtBy (e ∷ es) seen earlier
    by (inl empty) older = further (older later (ap (λ (x : List Seen). x ++ seen_in es) (sym empty) ∙ (sym (seen_in-cons e es) ∙ same)))
    by (inr (s, is)) older = at s is later (ap (λ (x : List Seen). x ++ seen_in es) (sym is) ∙ (sym (seen_in-cons e es) ∙ same)) older

-- an entry since Begin, in the whole list
pub record SinceSplit (es newer : List Entry) (y : Entry) (older : List Entry) : Type 0 where
  pub before : List Entry
  pub split : es ≡ newer ++ y ∷ before
  pub rest : older ≡ since_begin before

since_more : (e : Entry) (es newer : List Entry) (y : Entry) (older : List Entry)
    → e ∷ since_begin es ≡ newer ++ y ∷ older
    → ((newer : List Entry) → since_begin es ≡ newer ++ y ∷ older → SinceSplit es newer y older)
    → SinceSplit (e ∷ es) newer y older
since_more e es [] y older same deeper =
    let here : e ≡ y = cc in
    let rest : since_begin es ≡ older = cc in
    record { before = es; split = ap (λ (x : Entry). x ∷ es) here; rest = sym rest }
since_more e es (x ∷ newer) y older same deeper =
    let here : e ≡ x = cc in
    let rest : since_begin es ≡ newer ++ y ∷ older = cc in
    let d = deeper newer rest in
    let split = d.split in
    record { before = d.before; split = cc; rest = d.rest }

since_step : (at : Option NodeNo) (by : Option ClientNo) (what : What) (es newer : List Entry) (y : Entry) (older : List Entry) → since_begin_after what (record { node = at; client = by; what = what }) (since_begin es) ≡ newer ++ y ∷ older
    → ((newer : List Entry) → since_begin es ≡ newer ++ y ∷ older → SinceSplit es newer y older)
    → SinceSplit (record { node = at; client = by; what = what } ∷ es) newer y older
since_step at by (Begin number op) es newer y older same deeper = absurd (none newer same)
  where
    none : (l : List Entry) → [] ≡ l ++ y ∷ older → ⊥
    none [] e = cc
    none (x ∷ l) e = cc
since_step at by (Answered number answer) es newer y older same deeper = absurd (none newer same)
  where
    none : (l : List Entry) → [] ≡ l ++ y ∷ older → ⊥
    none [] e = cc
    none (x ∷ l) e = cc
since_step at by (Issue tid mini) es newer y older same deeper = since_more (record { node = at; client = by; what = Issue tid mini }) es newer y older same deeper
since_step at by (Called request reply) es newer y older same deeper = since_more (record { node = at; client = by; what = Called request reply }) es newer y older same deeper
since_step at by (Stopped request asked) es newer y older same deeper = since_more (record { node = at; client = by; what = Stopped request asked }) es newer y older same deeper
since_step at by (Restarted kept) es newer y older same deeper = since_more (record { node = at; client = by; what = Restarted kept }) es newer y older same deeper
since_step at by (Abandoned tid) es newer y older same deeper = since_more (record { node = at; client = by; what = Abandoned tid }) es newer y older same deeper

pub since_split : (es newer : List Entry) (y : Entry) (older : List Entry)
    → since_begin es ≡ newer ++ y ∷ older → SinceSplit es newer y older
since_split [] newer y older same = absurd (none newer same)
  where
    none : (l : List Entry) → [] ≡ l ++ y ∷ older → ⊥
    none [] e = cc
    none (x ∷ l) e = cc
since_split (e ∷ es) newer y older same = since_step e.node e.client e.what es newer y older same (λ l h. since_split es l y older h)

first_exists : (c : ClientNo) (past : List Entry) (seen : Seen) (later : List Seen)
    → FirstCatalog (seen_in (since_begin (client_entries c past))) seen later
    → (place : ℕ) × FirstCatalogAt c past place
first_exists c past seen later first =
    let b : BroughtBy (since_begin (client_entries c past)) seen first.earlier = locate (since_begin (client_entries c past)) later seen first.earlier (first.split ∙ append_assoc later (seen ∷ []) first.earlier) in
    let s : SinceSplit (client_entries c past) b.newer b.entry b.older = since_split (client_entries c past) b.newer b.entry b.older b.split in
    let l : LiftedPart c past b.newer b.entry s.before = lift_part c past b.newer b.entry s.before s.split in
    let older : since_begin (client_entries c l.before) ≡ b.older = ap since_begin l.list ∙ sym s.rest in (
      length l.before,
      record {
        entry = b.entry;
        later = l.later;
        before = l.before;
        split = l.split;
        here = (l.by, (seen, b.brought, first.catalog));
        is_place = refl;
        since = b.split ∙ (ap (λ (es : List Entry). es ++ b.entry ∷ b.older) (sym l.own) ∙ ap (λ (es : List Entry). client_entries c l.later ++ b.entry ∷ es) (sym older));
        first = subst NoCatalog (sym (ap seen_in older ∙ b.rest)) first.none_before;
      },
    )

-- The place of a reply that no plan gave

abbrev ByRead : List Entry → List Entry → Op → Reply → Type 0
ByRead es now op reply = SomeReadShows es now op reply ⊎ ScanShows (seen_in now) op reply

no_read_of_pairs : (before : List Entry) (seen : Seen) (name : List ℕ) (low high : Option (List ℕ)) (limit : ℕ) (pairs : List Rattle.mn_base.specs.declared.reply.Pair.Pair) → ReadShows before seen (Scan name low high limit) (Say.Pairs pairs) → ⊥
no_read_of_pairs before seen name low high limit pairs (inl leaf) = leaf
no_read_of_pairs before seen name low high limit pairs (inr (entries, sees, refused)) = pairs_refuse_nothing (heads_in entries) name low high limit pairs refused

place_exists : (start : Start) (store : Store) (past : List Entry) (placed : List Placed)
    → StartsSound start → Opens start store → IsRun start past
    → IsHistory past placed → (c : ClientNo) (op : Op) (reply : Reply)
    → ByRead (client_entries c past) (since_begin (client_entries c past)) op reply
    → (place : ℕ) × ReadPlace c past op reply place
place_exists start store past placed sound opened run history c (Scan name low high limit) (Say.Pairs pairs) (inl shown) = absurd (no_read_of_pairs shown.before shown.seen name low high limit pairs shown.shows)
place_exists start store past placed sound opened run history c (Scan name low high limit) (Say.Pairs pairs) (inr scanned) = first_exists c past scanned.0 scanned.1 scanned.4
place_exists start store past placed sound opened run history c op reply (inl shown) = some_read start store past placed sound opened run history c op reply shown
place_exists start store past placed sound opened run history c op reply (inr scanned) = absurd scanned

-- What each entry puts there

answer_exists : (start : Start) (store : Store) (past : List Entry) (old : List Placed)
    → StartsSound start → Opens start store → IsRun start past
    → IsHistory past old → (c : ClientNo) (begun : Option Begun) (answer : Answer)
    → under_way (client_entries c past) ≡ begun → IsShownFor (client_entries c past) begun answer
    → (new : List Placed) × AnswerPuts past c begun answer old new
answer_exists start store past old sound opened run history c None answer now shown = (old, refl)
answer_exists start store past old sound opened run history c (Some begun) (Replied reply) now shown = by (has_past c begun.number old) refl shown
  where
    put : ((place : ℕ) × ReadPlace c past begun.op reply place)
        → (new : List Placed)
        × ((place : ℕ) × ReadPlace c past begun.op reply place × (new ≡ placed_in (record { place = place; past = record { client = c; number = begun.number; op = begun.op; reply = reply } }) old))
    put (place, at) = (placed_in (record { place = place; past = record { client = c; number = begun.number; op = begun.op; reply = reply } }) old, (place, at, refl))

    by : (b : Bool) → has_past c begun.number old ≡ b
        → ShowsAnswer (client_entries c past) (since_begin (client_entries c past)) begun.op (Replied reply)
        → (new : List Placed)
        × MatchBool b (new ≡ old) ((place : ℕ) × ReadPlace c past begun.op reply place × (new ≡ placed_in (record { place = place; past = record { client = c; number = begun.number; op = begun.op; reply = reply } }) old))
    by true there shows = (old, refl)
    by false none (inl (i, bef, last, plan, planned, done)) = absurd (plan_stands start past old sound run history c begun.number begun.op now i bef last plan done none)
    by false none (inr (inl (given_up, shows))) = put (place_exists start store past old sound opened run history c begun.op reply (inl shows))
    by false none (inr (inr (given_up, scanned))) = put (place_exists start store past old sound opened run history c begun.op reply (inr scanned))
answer_exists start store past old sound opened run history c (Some begun) (GaveUp busy) now shown = (old, refl)
answer_exists start store past old sound opened run history c (Some begun) (Down n) now shown = (old, refl)
answer_exists start store past old sound opened run history c (Some begun) (InDoubt tid n) now shown = (old, refl)
answer_exists start store past old sound opened run history c (Some begun) (Full need free) now shown = (old, refl)
answer_exists start store past old sound opened run history c (Some begun) (Worn n place) now shown = (old, refl)
answer_exists start store past old sound opened run history c (Some begun) NoMemory now shown = (old, refl)

step_exists : (start : Start) (store : Store) (past : List Entry) (old : List Placed)
    → StartsSound start → Opens start store → IsRun start past
    → IsHistory past old → (by : Option ClientNo) (what : What)
    → Means past by what → (new : List Placed) × StepPuts past by what old new
step_exists start store past old sound opened run history None what means = (old, refl)
step_exists start store past old sound opened run history (Some c) (Answered number answer) means = answer_exists start store past old sound opened run history c (under_way (client_entries c past)) answer refl means.1
step_exists start store past old sound opened run history (Some c) (Begin number op) means = (old, refl)
step_exists start store past old sound opened run history (Some c) (Issue tid mini) means = (old, refl)
step_exists start store past old sound opened run history (Some c) (Called request reply) means = (old, refl)
step_exists start store past old sound opened run history (Some c) (Stopped request asked) means = (old, refl)
step_exists start store past old sound opened run history (Some c) (Restarted kept) means = (old, refl)
step_exists start store past old sound opened run history (Some c) (Abandoned tid) means = (old, refl)

entry_exists : (start : Start) (store : Store) (past : List Entry) (e : Entry) (old : List Placed)
    → StartsSound start → Opens start store
    → IsRun start (e ∷ past) → IsHistory past old → (o : Option Issued) → committed_by past e ≡ o
    → (new : List Placed) × EntryPuts past e o old new
entry_exists start store past e old sound opened run history None none = step_exists start store past old sound opened run.0 history e.client e.what run.1.means
entry_exists start store past e old sound opened run history (Some i) is = by (is_read i.mini.items) refl
  where
    by : (b : Bool) → is_read i.mini.items ≡ b
        → (new : List Placed)
        × MatchBool b (new ≡ old) ((p : Past) × PlanOf past i p × (new ≡ old ++ record { place = length past; past = p } ∷ []))
    by true read = (old, refl)
    by false not_read = let plan = plan_exists start past e i run.0 is not_read in (old ++ record { place = length past; past = plan.0 } ∷ [], (plan.0, plan.1, refl))

exists_run : (start : Start) (store : Store) (past : List Entry) → StartsSound start
    → Opens start store → IsRun start past
    → (placed : List Placed) × IsHistory past placed
exists_run start store [] sound opened run = ([], refl)
exists_run start store (e ∷ past) sound opened run =
    let old = exists_run start store past sound opened run.0 in
    let new = entry_exists start store past e old.0 sound opened run old.1 (committed_by past e) refl in
    (new.0, (old.0, old.1, new.1))

pub history_exists : RunsHaveHistory
history_exists start store past h = exists_run start store past h.opened.sound h.opened h.run

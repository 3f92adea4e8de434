-- The history of a run is legal, and the flat memory holds its store at every place.
use Rattle.std.proofs.Common.{◌≡◌, ℕ, suc, ◌<◌, ◌≤◌, inl, inr, Bool, true, false, List, [], ◌∷◌, ◌++◌, length, Option, Some, None, refl, subst, sym, ap, ◌∙◌, arith, if◌then◌else◌, Contains}
use Rattle.std.specs.Prelude.{MatchBool}
use Rattle.std.proofs.lemmas.List.{append_assoc}
use Rattle.mn_base.specs.Store.{Head, Store, head_named, refusal, refusal_at, applied}
use Rattle.mn_base.specs.declared.history.Past.{Past}
use Rattle.mn_base.specs.declared.ids.ClientNo.{ClientNo}
use Rattle.mn_base.specs.declared.reply.Pair.{Pair}
use Rattle.mn_base.specs.declared.reply.Reply.{Reply}
use Rattle.mn_base.specs.declared.reply.Reply.TheVariants as Say
use Rattle.mn_base.specs.declared.op.Op.{Op}
use Rattle.mn_base.specs.declared.op.Op.TheVariants.{Scan}
use Rattle.mn_base.specs.declared.answer.Answer.{Answer}
use Rattle.mn_base.specs.declared.answer.Answer.TheVariants.{Replied, Busy as GaveUp, Down, InDoubt, Full, Worn, NoMemory}
use Rattle.mn_mini.specs.Mini.{is_read, part_of}
use Rattle.mn_page.specs.Holds.{Holds}
use Rattle.mn_page.specs.Forest.{heads_in}
use Rattle.mn_runs.specs.declared.entry.Entry.{Entry}
use Rattle.mn_runs.specs.declared.entry.What.{What}
use Rattle.mn_runs.specs.declared.entry.What.TheVariants.{Begin, Issue, Called, Stopped, Restarted, Abandoned, Answered}
use Rattle.mn_runs.specs.Calls.{Issued, Begun, client_entries, since_begin, under_way}
use Rattle.mn_runs.specs.Seen.{Seen, seen_at, Place}
use Rattle.mn_law.specs.Shown.{ReadShows}
use Rattle.mn_law.specs.Answers.{ShowsAnswer, IsShownFor}
use Rattle.mn_runs.specs.Protocol.{Start, start_nodes, base_at, start_records, FollowsProtocol}
use Rattle.mn_runs.specs.Commits.{committed_by}
use Rattle.mn_law.specs.Run.{IsRun, Means}
use Rattle.mn_votes.specs.Laws.{StartsSound}
use Rattle.mn_serial.specs.History.{Placed, placed_in, PlanOf, FirstCatalogAt, ReadPlace, has_past, AnswerPuts, StepPuts, EntryPuts, IsHistory}
use Rattle.mn_law.specs.Places.{IsNumbered}
use Rattle.mn_law.specs.Planned.{PlanActs}
use Rattle.mn_law.specs.Opened.{IsOpened}
use Rattle.mn_commits.proofs.Bytes.Step.{flat}
use Rattle.mn_commits.proofs.Bytes.Spaces.{whole_run}
use Rattle.mn_law.proofs.MakeRun.{runs_follow_protocol}
use Rattle.mn_serial.proofs.Meaning.Chain.{Chain, chain_put, chain_quiet, chain_commit}
use Rattle.mn_serial.proofs.Meaning.Splits.{SameSplit, same_split, shorter_by}
use Rattle.mn_serial.proofs.Meaning.Prefixes.{HoldsAt, PlansAt, older_holds, newest_holds, older_plans}
use Rattle.mn_runs.proofs.Prefixes.{follows_before}
use Rattle.mn_serial.proofs.Meaning.Effects.{flat_none, flat_read, flat_plan, commit_met, committed_made, no_plan_at_read}
use Rattle.mn_plans.proofs.Catalogs.{holds_sizes}
use Rattle.mn_serial.proofs.Meaning.Kept.{Known, some_store, catalog_continued}
use Rattle.mn_serial.proofs.Settled.Kept.{KeptAt, kept_on}
use Rattle.mn_serial.proofs.Settled.Steps.{At, steps}
use Rattle.mn_serial.proofs.Settled.Agree.{agrees}
use Rattle.mn_plans.proofs.Compares.{all_met}
use Rattle.mn_serial.proofs.Settled.Begins.{NextAt, base_fits, kept_start, plan_next, read_next}
use Rattle.mn_serial.proofs.Meaning.Replies.{Leaves, ShownAt, last_shown_at, read_leaves_store}
use Rattle.mn_serial.proofs.Meaning.Scanned.{scan_leaves}

-- A reply that a read shows has its place at a read, and leaves the store there

pub record ReadAt (start : Start) (past : List Entry) (op : Op) (reply : Reply) (place : ℕ) : Type 0 where
  pub entry : Entry
  pub later : List Entry
  pub before : List Entry
  pub split : past ≡ later ++ entry ∷ before
  pub is_place : place ≡ length before
  pub seen : Seen
  pub brought : Contains (seen_at entry) seen
  pub leaves : (s : Store) → Holds (flat start before) s → Leaves s op reply

by_last : (start : Start) (store : Store) (past : List Entry) (placed : List Placed)
    → Known start store past placed → (c : ClientNo) (op : Op) (reply : Reply) (place : ℕ)
    → ShownAt past c op reply place → ReadAt start past op reply place
by_last start store past placed known c op reply place at = record {
  entry = at.entry;
  later = at.later;
  before = at.before;
  split = at.split;
  is_place = at.is_place;
  seen = at.here.1.0;
  brought = at.here.1.1;
  leaves = λ s holds. read_leaves_store start store past placed known c op reply place at s holds;
}

-- no catalog refuses a scan with pairs
pub pairs_refuse_nothing : (heads : List Head) (name : List ℕ) (low high : Option (List ℕ)) (limit : ℕ) (pairs : List Pair) → refusal heads (Scan name low high limit) ≡ Some (Say.Pairs pairs) → ⊥
pairs_refuse_nothing heads name low high limit pairs e = by (head_named heads name) e
  where
    frozen : (b : Bool) → (if b then None else Some Say.NotFrozen) ≡ Some (Say.Pairs pairs) → ⊥
    frozen true e = cc
    frozen false e = cc

    by : (h : Option Head) → refusal_at heads (Scan name low high limit) h ≡ Some (Say.Pairs pairs)
        → ⊥
    by None e = cc
    by (Some h) e = frozen h.frozen e

by_scan : (start : Start) (store : Store) (past : List Entry) (placed : List Placed)
    → Known start store past placed
    → (c : ClientNo) (name : List ℕ) (low high : Option (List ℕ)) (limit : ℕ) (pairs : List Pair) (place : ℕ)
    → ShowsAnswer (client_entries c past) (since_begin (client_entries c past)) (Scan name low high limit) (Replied (Say.Pairs pairs)) → FirstCatalogAt c past place → ReadAt start past (Scan name low high limit) (Say.Pairs pairs) place
by_scan start store past placed known c name low high limit pairs place (inl (i, before, last, plan, (entries, catalog, planned), done)) first = absurd planned.kind
by_scan start store past placed known c name low high limit pairs place (inr (inl (given_up, shown))) first = absurd (no_read shown.before shown.seen shown.shows)
  where
    no_read : (before : List Entry) (seen : Seen)
        → ReadShows before seen (Scan name low high limit) (Say.Pairs pairs) → ⊥
    no_read before seen (inl leaf) = leaf
    no_read before seen (inr (entries, sees, refused)) = pairs_refuse_nothing (heads_in entries) name low high limit pairs refused
by_scan start store past placed known c name low high limit pairs place (inr (inr (given_up, scanned))) first = record {
  entry = first.entry;
  later = first.later;
  before = first.before;
  split = first.split;
  is_place = first.is_place;
  seen = first.here.1.0;
  brought = first.here.1.1;
  leaves = λ s holds. scan_leaves start store past placed known c place first name low high limit pairs scanned s holds;
}

pub read_at : (start : Start) (store : Store) (past : List Entry) (placed : List Placed)
    → Known start store past placed → (c : ClientNo) (op : Op) (reply : Reply) (place : ℕ)
    → ShowsAnswer (client_entries c past) (since_begin (client_entries c past)) op (Replied reply)
    → ReadPlace c past op reply place → ReadAt start past op reply place
read_at start store past placed known c (Scan name low high limit) (Say.Pairs pairs) place shown at = by_scan start store past placed known c name low high limit pairs place shown at
read_at start store past placed known c op reply place shown at = by_last start store past placed known c op reply place (last_shown_at past c op reply place at)

-- The log goes on

abbrev NextChain : Start → Store → List Entry → Entry → List Placed → Type 0
NextChain start store past e placed = Chain (HoldsAt start (e ∷ past)) (PlansAt (e ∷ past)) (suc (length past)) store 0 placed

quiet : (start : Start) (store : Store) (past : List Entry) (e : Entry) (placed : List Placed)
    → Known start store past placed → flat start (e ∷ past) ≡ flat start past
    → NextChain start store past e placed
quiet start store past e placed known same =
    chain_quiet (HoldsAt start past) (HoldsAt start (e ∷ past)) (PlansAt past) (PlansAt (e ∷ past)) (length past) (λ m s fits h. older_holds start past e m s fits h) (λ k plan. older_plans past e k plan)
    (λ s h. newest_holds start past e s (subst (λ m. Holds m s) (sym same) (h [] past refl refl))) store 0 placed (omega arith) known.chain

-- a read is put in
put_read : (start : Start) (store : Store) (past : List Entry) (e : Entry) (old : List Placed) (past_op : Past) (place : ℕ) → Known start store past old → flat start (e ∷ past) ≡ flat start past
    → ReadAt start past past_op.op past_op.reply place
    → NextChain start store past e (placed_in (record { place = place; past = past_op }) old)
put_read start store past e old past_op place known same at =
    let fits : suc (length at.before) ≤ length past = shorter_by past at.later at.entry at.before at.split in
    let is : place ≡ length at.before = at.is_place in
    chain_put (HoldsAt start (e ∷ past)) (PlansAt (e ∷ past)) (suc (length past)) store 0 old (record { place = place; past = past_op })
    (λ s h. at.leaves s (h (e ∷ (at.later ++ at.entry ∷ [])) at.before (ap (λ (l : List Entry). e ∷ l) (at.split ∙ sym (append_assoc at.later (at.entry ∷ []) at.before))) (sym at.is_place)))
    no_plan (omega arith) (omega arith) (quiet start store past e old known same)
  where
    no_plan : PlansAt (e ∷ past) place → ⊥
    no_plan (later, x, before, split, long, (i, is, not_read)) =
        let here : SameSplit x at.entry before at.before =
        same_split later (e ∷ at.later) x at.entry before at.before (sym split ∙ ap (λ (l : List Entry). e ∷ l) at.split) (long ∙ at.is_place) in
        no_plan_at_read start at.before at.entry at.seen i known.sound (follows_before start past at.later (at.entry ∷ at.before) at.split known.follows) at.brought
        (subst (λ (y : Entry). committed_by at.before y ≡ Some i) here.here (subst (λ (b : List Entry). committed_by b x ≡ Some i) here.older is)) not_read

-- an answer
answer_puts : (start : Start) (store : Store) (past : List Entry) (e : Entry) (old new : List Placed) → Known start store past old → flat start (e ∷ past) ≡ flat start past → (c : ClientNo) (begun : Option Begun) (answer : Answer)
    → IsShownFor (client_entries c past) begun answer → AnswerPuts past c begun answer old new
    → NextChain start store past e new
answer_puts start store past e old new known same c None answer shown puts = subst (NextChain start store past e) (sym puts) (quiet start store past e old known same)
answer_puts start store past e old new known same c (Some begun) (Replied reply) shown puts = by (has_past c begun.number old) puts
  where
    by : (b : Bool)
        → MatchBool b (new ≡ old) ((place : ℕ) × ReadPlace c past begun.op reply place × (new ≡ placed_in (record { place = place; past = record { client = c; number = begun.number; op = begun.op; reply = reply } }) old))
        → NextChain start store past e new
    by true is = subst (NextChain start store past e) (sym is) (quiet start store past e old known same)
    by false (place, at, is) =
        subst (NextChain start store past e) (sym is)
        (put_read start store past e old (record { client = c; number = begun.number; op = begun.op; reply = reply }) place known same (read_at start store past old known c begun.op reply place shown at))
answer_puts start store past e old new known same c (Some begun) (GaveUp busy) shown puts = subst (NextChain start store past e) (sym puts) (quiet start store past e old known same)
answer_puts start store past e old new known same c (Some begun) (Down n) shown puts = subst (NextChain start store past e) (sym puts) (quiet start store past e old known same)
answer_puts start store past e old new known same c (Some begun) (InDoubt tid n) shown puts = subst (NextChain start store past e) (sym puts) (quiet start store past e old known same)
answer_puts start store past e old new known same c (Some begun) (Full need free) shown puts = subst (NextChain start store past e) (sym puts) (quiet start store past e old known same)
answer_puts start store past e old new known same c (Some begun) (Worn n at) shown puts = subst (NextChain start store past e) (sym puts) (quiet start store past e old known same)
answer_puts start store past e old new known same c (Some begun) NoMemory shown puts = subst (NextChain start store past e) (sym puts) (quiet start store past e old known same)

-- an entry that commits nothing
step_puts : (start : Start) (store : Store) (past : List Entry) (e : Entry) (old new : List Placed)
    → Known start store past old → flat start (e ∷ past) ≡ flat start past
    → (by : Option ClientNo) (what : What)
    → Means past by what → StepPuts past by what old new → NextChain start store past e new
step_puts start store past e old new known same None what means puts = subst (NextChain start store past e) (sym puts) (quiet start store past e old known same)
step_puts start store past e old new known same (Some c) (Answered number answer) means puts = answer_puts start store past e old new known same c (under_way (client_entries c past)) answer means.1 puts
step_puts start store past e old new known same (Some c) (Begin number op) means puts = subst (NextChain start store past e) (sym puts) (quiet start store past e old known same)
step_puts start store past e old new known same (Some c) (Issue tid mini) means puts = subst (NextChain start store past e) (sym puts) (quiet start store past e old known same)
step_puts start store past e old new known same (Some c) (Called request reply) means puts = subst (NextChain start store past e) (sym puts) (quiet start store past e old known same)
step_puts start store past e old new known same (Some c) (Stopped request asked) means puts = subst (NextChain start store past e) (sym puts) (quiet start store past e old known same)
step_puts start store past e old new known same (Some c) (Restarted kept) means puts = subst (NextChain start store past e) (sym puts) (quiet start store past e old known same)
step_puts start store past e old new known same (Some c) (Abandoned tid) means puts = subst (NextChain start store past e) (sym puts) (quiet start store past e old known same)

-- what a committed plan does where the flat memory holds a store
pub acts_there : (start : Start) (store : Store) (past : List Entry) (e : Entry) (old : List Placed)
    → Known start store past old → FollowsProtocol start (e ∷ past) → (i : Issued) (p : Past)
    → committed_by past e ≡ Some i → PlanOf past i p
    → (s : Store) (holds : Holds (flat start past) s) → PlanActs (flat start past) s holds p.op i.mini p.reply
acts_there start store past e old known run i p is plan s holds =
    let whole = whole_run start past known.sound known.follows in
    let made = committed_made start past e i whole is in
    let met = commit_met start past e i known.sound run is in
    let fits = shorter_by past plan.later plan.entry plan.before plan.split in
    let on = catalog_continued start store past old known (plan.later ++ plan.entry ∷ []) plan.before [] past (plan.split ∙ sym (append_assoc plan.later (plan.entry ∷ []) plan.before)) refl (omega arith) p.client plan.planned.0 plan.planned.1 s holds in
    let agreed = agrees start past (plan.later ++ plan.entry ∷ []) plan.before (plan.split ∙ sym (append_assoc plan.later (plan.entry ∷ []) plan.before))
    (follows_before start past (plan.later ++ plan.entry ∷ []) plan.before (plan.split ∙ sym (append_assoc plan.later (plan.entry ∷ []) plan.before)) known.follows)
    known.contents s holds whole.even.spaces p.client i.mini.nodes made.0 i.mini.items made.1.inside (all_met (flat start past) 0 i.mini.items met) plan.planned.2.shown in
    plan.planned.2.acts (flat start past) s (whole.even.spaces ∙ sym made.0) (holds_sizes (flat start past) s holds) holds on (record { agrees = agreed; met = met })

-- what it does to that store
pub plan_acts : (start : Start) (store : Store) (past : List Entry) (e : Entry) (old : List Placed)
    → Known start store past old → FollowsProtocol start (e ∷ past) → (i : Issued) (p : Past)
    → committed_by past e ≡ Some i → PlanOf past i p
    → (s : Store) → Holds (flat start past) s
    → (p.reply ≡ (applied s p.op).reply) × Holds (flat start (e ∷ past)) (applied s p.op).store
plan_acts start store past e old known run i p is plan s holds =
    let met = commit_met start past e i known.sound run is in
    let acts = acts_there start store past e old known run i p is plan s holds in
    (acts.replies, subst (λ m. Holds m (applied s p.op).store) (sym (flat_plan start past e i is met)) acts.effect)

-- an entry that commits
entry_puts : (start : Start) (store : Store) (past : List Entry) (e : Entry) (old new : List Placed)
    → Known start store past old → FollowsProtocol start (e ∷ past) → Means past e.client e.what
    → (o : Option Issued) → committed_by past e ≡ o → EntryPuts past e o old new
    → NextChain start store past e new
entry_puts start store past e old new known run means None none puts = step_puts start store past e old new known (flat_none start past e none) e.client e.what means puts
entry_puts start store past e old new known run means (Some i) is puts = by (is_read i.mini.items) refl puts
  where
    by : (b : Bool) → is_read i.mini.items ≡ b
        → MatchBool b (new ≡ old) ((p : Past) × PlanOf past i p × (new ≡ old ++ record { place = length past; past = p } ∷ [])) → NextChain start store past e new
    by true read same = subst (NextChain start store past e) (sym same) (quiet start store past e old known (flat_read start past e i is read))
    by false not_read (p, plan, same) =
        subst (NextChain start store past e) (sym same)
        (chain_commit (HoldsAt start past) (HoldsAt start (e ∷ past)) (PlansAt past) (PlansAt (e ∷ past)) (length past) p (λ m s fits h. older_holds start past e m s fits h) (λ k plans. older_plans past e k plans)
        (λ s h. let acts = plan_acts start store past e old known run i p is plan s (h [] past refl refl) in (acts.0, newest_holds start past e (applied s p.op).store acts.1))
        ([], e, past, refl, refl, (i, is, not_read)) store 0 old (omega arith) known.chain)

-- Contents

-- what an entry commits writes whole places with next numbers
entry_next : (start : Start) (store : Store) (past : List Entry) (e : Entry) (old new : List Placed)
    → Known start store past old → FollowsProtocol start (e ∷ past)
    → (o : Option Issued) → committed_by past e ≡ o → EntryPuts past e o old new → (place : Place) → IsNumbered place
    → (i : Issued) → o ≡ Some i → NextAt (flat start past) place (part_of i.mini place.node)
entry_next start store past e old new known run None none puts place numbered i is = absurd cc
entry_next start store past e old new known run (Some j) at puts place numbered i is = subst (λ (x : Issued). NextAt (flat start past) place (part_of x.mini place.node)) same (by (is_read j.mini.items) refl puts)
  where
    same : j ≡ i
    same = cc

    by : (b : Bool) → is_read j.mini.items ≡ b
        → MatchBool b (new ≡ old) ((p : Past) × PlanOf past j p × (new ≡ old ++ record { place = length past; past = p } ∷ [])) → NextAt (flat start past) place (part_of j.mini place.node)
    by true read same = read_next (flat start past) place j.mini.nodes j.mini.items read
    by false not_read (p, plan, same) =
        let s = some_store start store past old known [] past refl in
        let acts = acts_there start store past e old known run j p at plan s.0 s.1 in
        plan_next (flat start past) place numbered j.mini acts.wholes acts.numbers

-- the records are opened with the store
abbrev pub Opens : Start → Store → Type 0
Opens start store = IsOpened (start_nodes start) (base_at start) (start_records start) store

-- an entry keeps what places keep of contents
contents_on : (start : Start) (store : Store) (past : List Entry) (e : Entry) (old new : List Placed)
    → Known start store past old → Opens start store → FollowsProtocol start (e ∷ past) → EntryPuts past e (committed_by past e) old new
    → (place : Place) → IsNumbered place → place.node.0 < start_nodes start → KeptAt start (e ∷ past) place
contents_on start store past e old new known opened run puts place numbered low =
    let kept = known.contents place numbered low in
    let at : At start past e place = record {
      whole = whole_run start past known.sound known.follows;
      after = whole_run start (e ∷ past) known.sound run;
      keeps = run.1;
      fits = base_fits start store place opened.holds numbered low;
      greater = kept.greater;
      next = λ i is. entry_next start store past e old new known run (committed_by past e) refl puts place numbered i is;
    } in
    let s = steps start past e place at known.sound run in
    kept_on start past e place kept s.1 s.0 s.2

-- at every place of a run
pub known_run : (start : Start) (store : Store) (past : List Entry) (placed : List Placed)
    → StartsSound start → Opens start store → IsRun start past
    → IsHistory past placed → Known start store past placed
known_run start store [] placed sound opened run none = record {
  sound = sound;
  follows = tt;
  chain = subst (Chain (HoldsAt start []) (PlansAt []) 0 store 0) (sym none) (λ m lo hi later before split is. first later before split);
  contents = λ place numbered low. kept_start start store place opened.holds opened.greater numbered low;
}
  where
    first : (later before : List Entry) → [] ≡ later ++ before → Holds (flat start before) store
    first [] before split = subst (λ (b : List Entry). Holds (flat start b) store) split opened.holds
    first (x ∷ later) before split = absurd cc
known_run start store (e ∷ past) placed sound opened run (old, history, puts) =
    let known = known_run start store past old sound opened run.0 history in
    let follows = runs_follow_protocol start (e ∷ past) run in
    record {
      sound = sound;
      follows = follows;
      chain = entry_puts start store past e old placed known follows run.1.means (committed_by past e) refl puts;
      contents = contents_on start store past e old placed known opened follows puts;
    }

-- Where each operation of a history comes from: a plan that is committed at its place, or an
-- answer.
use Rattle.std.proofs.Common.{◌≡◌, ℕ, ◌<◌, Bool, true, false, List, [], ◌∷◌, ◌++◌, length, Option, Some, None, refl, subst, sym, ap, ◌∙◌, arith, if◌then◌else◌}
use Rattle.std.specs.Prelude.{nat_lt, MatchBool}
use Rattle.std.specs.List.{AllByRecursion}
use Rattle.std.proofs.lemmas.List.{append_assoc}
use Rattle.mn_base.specs.declared.history.Past.{Past}
use Rattle.mn_base.specs.declared.ids.NodeNo.{NodeNo}
use Rattle.mn_base.specs.declared.ids.ClientNo.{ClientNo}
use Rattle.mn_base.specs.declared.answer.Answer.{Answer}
use Rattle.mn_base.specs.declared.answer.Answer.TheVariants.{Replied, Busy as GaveUp, Down, InDoubt, Full, Worn, NoMemory}
use Rattle.mn_base.proofs.Lists.{all_append}
use Rattle.mn_mini.specs.Mini.{is_read}
use Rattle.mn_runs.specs.declared.entry.Entry.{Entry}
use Rattle.mn_runs.specs.declared.entry.What.{What}
use Rattle.mn_runs.specs.declared.entry.What.TheVariants.{Begin, Issue, Called, Stopped, Restarted, Abandoned, Answered}
use Rattle.mn_runs.specs.Calls.{Issued, Begun, client_entries, under_way}
use Rattle.mn_runs.specs.Commits.{committed_by}
use Rattle.mn_runs.specs.Protocol.{Start, FollowsProtocol, AllowedBy}
use Rattle.mn_serial.specs.History.{Placed, placed_in, PlanOf, ReadPlace, has_past, AnswerPuts, StepPuts, EntryPuts, IsHistory}
use Rattle.mn_serial.proofs.Meaning.Splits.{shorter_by}
use Rattle.mn_serial.proofs.Meaning.Positions.{OwnAt, IssueAt, AnswerAt}
use Rattle.mn_serial.proofs.Meaning.Clients.{same_begun}

-- A committed plan

pub record PlanAt (past : List Entry) (place : ℕ) (p : Past) : Type 0 where
  pub entry : Entry
  pub later : List Entry
  pub before : List Entry
  pub issued : Issued
  pub split : past ≡ later ++ entry ∷ before
  pub is_place : place ≡ length before
  pub commits : committed_by before entry ≡ Some issued
  pub no_read : is_read issued.mini.items ≡ false
  pub plan : PlanOf before issued p

abbrev pub begun_as : Past → Begun
begun_as p = record { number = p.number; op = p.op }

-- its issue, in the whole log
abbrev pub issue_of : (past : List Entry) (place : ℕ) (p : Past) (a : PlanAt past place p)
    → IssueAt past p.client (begun_as p) a.issued
issue_of past place p a = record {
  at = record {
    entry = a.plan.entry;
    later = a.later ++ (a.entry ∷ a.plan.later);
    before = a.plan.before;
    split = a.split ∙ (ap (λ (l : List Entry). a.later ++ a.entry ∷ l) a.plan.split ∙ sym (append_assoc a.later (a.entry ∷ a.plan.later) (a.plan.entry ∷ a.plan.before)));
    by = a.plan.by;
  };
  issues = a.plan.issued;
  of = a.plan.of;
}

pub issue_low : (past : List Entry) (place : ℕ) (p : Past) (a : PlanAt past place p)
    → length (issue_of past place p a).at.before < place
issue_low past place p a =
    let low = shorter_by a.before a.plan.later a.plan.entry a.plan.before a.plan.split in
    let is : place ≡ length a.before = a.is_place in omega arith

-- An answer that put the operation there

pub record RepliedAt (past : List Entry) (p : Placed) : Type 0 where
  pub answer : AnswerAt past p.past.client p.past.number (Replied p.past.reply)
  pub of : under_way (client_entries p.past.client answer.at.before) ≡ Some (begun_as p.past)
  pub read : ReadPlace p.past.client answer.at.before p.past.op p.past.reply p.place

pub data Origin (past : List Entry) (p : Placed) : Type 0 where
  by_plan : PlanAt past p.place p.past → Origin past p
  by_answer : RepliedAt past p → Origin past p

abbrev own_more : (e : Entry) (past : List Entry) (c : ClientNo) → OwnAt past c → OwnAt (e ∷ past) c
own_more e past c at = record { entry = at.entry; later = e ∷ at.later; before = at.before; split = ap (λ (l : List Entry). e ∷ l) at.split; by = at.by }

abbrev pub plan_more : (e : Entry) (past : List Entry) (place : ℕ) (p : Past) → PlanAt past place p
    → PlanAt (e ∷ past) place p
plan_more e past place p a = record {
  entry = a.entry;
  later = e ∷ a.later;
  before = a.before;
  issued = a.issued;
  split = ap (λ (l : List Entry). e ∷ l) a.split;
  is_place = a.is_place;
  commits = a.commits;
  no_read = a.no_read;
  plan = a.plan;
}

pub origin_more : (e : Entry) (past : List Entry) (p : Placed) → Origin past p → Origin (e ∷ past) p
origin_more e past p (by_plan a) = by_plan (plan_more e past p.place p.past a)
origin_more e past p (by_answer a) = by_answer (record { answer = record { at = own_more e past p.past.client a.answer.at; answers = a.answer.answers }; of = a.of; read = a.read })

origins_more : (e : Entry) (past : List Entry) (ps : List Placed) → AllByRecursion (Origin past) ps
    → AllByRecursion (Origin (e ∷ past)) ps
origins_more e past [] all = tt
origins_more e past (p ∷ ps) all = (origin_more e past p all.0, origins_more e past ps all.1)

pub all_put : (P : Placed → Type 0) (p : Placed) (ps : List Placed) → P p → AllByRecursion P ps
    → AllByRecursion P (placed_in p ps)
all_put P p [] is all = (is, tt)
all_put P p (q ∷ qs) is all = by (nat_lt p.place q.place) (all_put P p qs is all.1)
  where
    by : (b : Bool) → AllByRecursion P (placed_in p qs)
        → AllByRecursion P (if b then p ∷ q ∷ qs else q ∷ placed_in p qs)
    by true rest = (is, all)
    by false rest = (all.0, rest)

-- What an entry puts into the history: nothing, an operation by an answer, or one by a plan
pub data Puts (past : List Entry) (e : Entry) (old new : List Placed) : Type 0 where
  nothing_new : new ≡ old → Puts past e old new
  read_new : (p : Placed) → RepliedAt (e ∷ past) p
      → has_past p.past.client p.past.number old ≡ false → new ≡ placed_in p old
      → Puts past e old new
  plan_new : (p : Past) → PlanAt (e ∷ past) (length past) p
      → new ≡ old ++ record { place = length past; past = p } ∷ [] → Puts past e old new

answer_puts : (past : List Entry) (at : Option NodeNo) (c : ClientNo) (number : ℕ) (answer : Answer) (begun : Option Begun) (old new : List Placed) → under_way (client_entries c past) ≡ begun
    → AllowedBy past (Some c) at (Answered number answer) → AnswerPuts past c begun answer old new
    → Puts past (record { node = at; client = Some c; what = Answered number answer }) old new
answer_puts past at c number answer None old new now allowed puts = nothing_new puts
answer_puts past at c number (Replied reply) (Some begun) old new now allowed puts = by (has_past c begun.number old) refl puts
  where
    this : record { number = number; op = allowed.0 } ≡ begun
    this = same_begun _ begun (sym allowed.1 ∙ now)

    number_is : number ≡ begun.number
    number_is = ap (λ (x : Begun). x.number) this

    by : (b : Bool) → has_past c begun.number old ≡ b
        → MatchBool b (new ≡ old) ((place : ℕ) × ReadPlace c past begun.op reply place × (new ≡ placed_in (record { place = place; past = record { client = c; number = begun.number; op = begun.op; reply = reply } }) old))
        → Puts past (record { node = at; client = Some c; what = Answered number (Replied reply) }) old new
    by true there same = nothing_new same
    by false none (place, read, same) =
        read_new (record { place = place; past = record { client = c; number = begun.number; op = begun.op; reply = reply } })
        (record {
          answer = record {
            at = record { entry = record { node = at; client = Some c; what = Answered number (Replied reply) }; later = []; before = past; split = refl; by = refl };
            answers = ap (λ (k : ℕ). Answered k (Replied reply)) number_is;
          };
          of = now;
          read = read;
        }) none same
answer_puts past at c number (GaveUp busy) (Some begun) old new now allowed puts = nothing_new puts
answer_puts past at c number (Down n) (Some begun) old new now allowed puts = nothing_new puts
answer_puts past at c number (InDoubt tid n) (Some begun) old new now allowed puts = nothing_new puts
answer_puts past at c number (Full need free) (Some begun) old new now allowed puts = nothing_new puts
answer_puts past at c number (Worn n start) (Some begun) old new now allowed puts = nothing_new puts
answer_puts past at c number NoMemory (Some begun) old new now allowed puts = nothing_new puts

step_puts : (past : List Entry) (at : Option NodeNo) (by : Option ClientNo) (what : What) (old new : List Placed) → AllowedBy past by at what → StepPuts past by what old new → Puts past (record { node = at; client = by; what = what }) old new
step_puts past at None what old new allowed puts = nothing_new puts
step_puts past at (Some c) (Answered number answer) old new allowed puts = answer_puts past at c number answer (under_way (client_entries c past)) old new refl allowed puts
step_puts past at (Some c) (Begin number op) old new allowed puts = nothing_new puts
step_puts past at (Some c) (Issue tid mini) old new allowed puts = nothing_new puts
step_puts past at (Some c) (Called request reply) old new allowed puts = nothing_new puts
step_puts past at (Some c) (Stopped request asked) old new allowed puts = nothing_new puts
step_puts past at (Some c) (Restarted kept) old new allowed puts = nothing_new puts
step_puts past at (Some c) (Abandoned tid) old new allowed puts = nothing_new puts

pub entry_puts : (start : Start) (past : List Entry) (e : Entry) (old new : List Placed)
    → FollowsProtocol start (e ∷ past) → (o : Option Issued) → committed_by past e ≡ o
    → EntryPuts past e o old new → Puts past e old new
entry_puts start past e old new run None none puts = step_puts past e.node e.client e.what old new run.1.by_client puts
entry_puts start past e old new run (Some i) is puts = by (is_read i.mini.items) refl puts
  where
    by : (b : Bool) → is_read i.mini.items ≡ b
        → MatchBool b (new ≡ old) ((p : Past) × PlanOf past i p × (new ≡ old ++ record { place = length past; past = p } ∷ [])) → Puts past e old new
    by true read same = nothing_new same
    by false not_read (p, plan, same) =
        plan_new p (record { entry = e; later = []; before = past; issued = i; split = refl; is_place = refl; commits = is; no_read = not_read; plan = plan }) same

pub puts_of : (start : Start) (past : List Entry) (e : Entry) (placed : List Placed)
    → FollowsProtocol start (e ∷ past) → (history : IsHistory (e ∷ past) placed)
    → Puts past e history.0 placed
puts_of start past e placed run history = entry_puts start past e history.0 placed run (committed_by past e) refl history.2

pub origins : (start : Start) (past : List Entry) (placed : List Placed)
    → FollowsProtocol start past → IsHistory past placed → AllByRecursion (Origin past) placed
origins start [] placed run none = subst (AllByRecursion (Origin [])) (sym none) tt
origins start (e ∷ past) placed run history = by (puts_of start past e placed run history) (origins_more e past history.0 (origins start past history.0 run.0 history.1))
  where
    by : Puts past e history.0 placed → AllByRecursion (Origin (e ∷ past)) history.0
        → AllByRecursion (Origin (e ∷ past)) placed
    by (nothing_new same) olds = subst (AllByRecursion (Origin (e ∷ past))) (sym same) olds
    by (read_new p replied none same) olds = subst (AllByRecursion (Origin (e ∷ past))) (sym same) (all_put (Origin (e ∷ past)) p history.0 (by_answer replied) olds)
    by (plan_new p plan same) olds =
        subst (AllByRecursion (Origin (e ∷ past))) (sym same) (all_append (Origin (e ∷ past)) history.0 (record { place = length past; past = p } ∷ []) olds (by_plan plan, tt))

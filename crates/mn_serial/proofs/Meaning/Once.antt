-- Each operation stands once, exactly where a plan of it is committed or it was replied to, and
-- between its Begin and its answer.
use Rattle.std.proofs.Common.{◌≡◌, ℕ, ◌<◌, Bool, true, false, ◌&&◌, ◌||◌, List, [], ◌∷◌, ◌++◌, length, refl, subst, sym, ap, ◌∙◌, arith, if◌then◌else◌}
use Rattle.mn_serial.specs.Meaning.{OpenedRun, HistoryRun}
use Rattle.mn_base.specs.Store.{Store}
use Rattle.std.specs.Prelude.{nat_lt, nat_eq}
use Rattle.std.specs.List.{AllByRecursion}
use Rattle.mn_base.specs.Ids.{client_same}
use Rattle.mn_base.specs.declared.history.Past.{Past}
use Rattle.mn_base.specs.declared.ids.ClientNo.{ClientNo}
use Rattle.mn_base.specs.declared.answer.Answer.{Answer}
use Rattle.mn_base.specs.declared.answer.Answer.TheVariants.{Replied}
use Rattle.mn_base.proofs.Lists.{all_append}
use Rattle.mn_runs.specs.declared.entry.Entry.{Entry}
use Rattle.mn_runs.specs.Protocol.{Start}
use Rattle.mn_law.specs.Run.{IsRun}
use Rattle.mn_votes.specs.Laws.{StartsSound}
use Rattle.mn_serial.specs.History.{Placed, placed_in, has_past, IsHistory}
use Rattle.mn_serial.specs.Meaning.{AreOnce, StandsAt, AnswersOp, CommitsPlanAt, OnePlanEach, MeansNoEffect}
use Rattle.mn_runs.proofs.Same.{client_same-refl, nat_eq-refl}
use Rattle.mn_law.proofs.MakeRun.{runs_follow_protocol}
use Rattle.mn_serial.proofs.Meaning.Splits.{shorter_by}
use Rattle.mn_serial.proofs.Meaning.Positions.{AnswerAt, answered_once}
use Rattle.mn_serial.proofs.Meaning.Origins.{PlanAt, plan_more, RepliedAt, Origin, by_plan, by_answer, Puts, nothing_new, read_new, plan_new, all_put, puts_of, origins}
use Rattle.mn_serial.proofs.Meaning.Plans.{PlanIn, plan_in, one_plan, given_up_none}
use Rattle.mn_serial.proofs.Meaning.Answered.{shown_answer, gives_up, plan_replied}

-- Apart

abbrev pub Differs : Placed → Placed → Type 0
Differs q p = q.past.client ≡ p.past.client → q.past.number ≡ p.past.number → ⊥

turned : (q p : Placed) → Differs q p → Differs p q
turned q p d client number = d (sym client) (sym number)

once_put : (p : Placed) (ps : List Placed) → AllByRecursion (λ q. Differs q p) ps → AreOnce ps
    → AreOnce (placed_in p ps)
once_put p [] apart once = (tt, tt)
once_put p (x ∷ xs) apart once = by (nat_lt p.place x.place) (once_put p xs apart.1 once.1)
  where
    by : (b : Bool) → AreOnce (placed_in p xs)
        → AreOnce (if b then p ∷ x ∷ xs else x ∷ placed_in p xs)
    by true rest = (apart, once)
    by false rest = (all_put (λ q. Differs q x) p xs (turned x p apart.0) once.0, rest)

once_push : (ps : List Placed) (p : Placed) → AllByRecursion (λ q. Differs q p) ps → AreOnce ps
    → AreOnce (ps ++ p ∷ [])
once_push [] p apart once = (tt, tt)
once_push (x ∷ xs) p apart once = (all_append (λ q. Differs q x) xs (p ∷ []) once.0 (turned x p apart.0, tt), once_push xs p apart.1 once.1)

pub none_past : (p : Placed) (ps : List Placed) → has_past p.past.client p.past.number ps ≡ false
    → AllByRecursion (λ q. Differs q p) ps
none_past p [] e = tt
none_past p (q ∷ qs) e = (first, none_past p qs (second (client_same q.past.client p.past.client && nat_eq q.past.number p.past.number) _ e))
  where
    second : (a b : Bool) → (a || b) ≡ false → b ≡ false
    second true b h = absurd cc
    second false b h = h

    left : (a b : Bool) → (a || b) ≡ false → a ≡ false
    left true b h = absurd cc
    left false b h = refl

    clash : (b : Bool) → b ≡ true → b ≡ false → ⊥
    clash b f g = cc

    first : Differs q p
    first client number =
        let here : (client_same q.past.client p.past.client && nat_eq q.past.number p.past.number) ≡ true =
        ap (λ (d : ClientNo). client_same d p.past.client && nat_eq q.past.number p.past.number) client
        ∙ (ap (λ (b : Bool). b && nat_eq q.past.number p.past.number) (client_same-refl p.past.client) ∙ (ap (λ (k : ℕ). nat_eq k p.past.number) number ∙ nat_eq-refl p.past.number)) in
        clash (client_same q.past.client p.past.client && nat_eq q.past.number p.past.number) here (left _ _ e)

-- Plans of one operation

pub plan_as : (past : List Entry) (place : ℕ) (p : Past) (c : ClientNo) (number : ℕ) → p.client ≡ c
    → p.number ≡ number → PlanAt past place p → PlanIn past place c number
plan_as past place p c number client is a = subst (λ (d : ClientNo). PlanIn past place d number) client (subst (λ (k : ℕ). PlanIn past place p.client k) is (plan_in past place p a))

pub answer_as : (past : List Entry) (p : Placed) (c : ClientNo) (number : ℕ) → p.past.client ≡ c
    → p.past.number ≡ number → RepliedAt past p → AnswerAt past c number (Replied p.past.reply)
answer_as past p c number client is r = subst (λ (d : ClientNo). AnswerAt past d number (Replied p.past.reply)) client (subst (λ (k : ℕ). AnswerAt past p.past.client k (Replied p.past.reply)) is r.answer)

abbrev pub answer_more : (e : Entry) (past : List Entry) (c : ClientNo) (number : ℕ) (answer : Answer) → AnswerAt past c number answer → AnswerAt (e ∷ past) c number answer
answer_more e past c number answer a = record { at = record { entry = a.at.entry; later = e ∷ a.at.later; before = a.at.before; split = ap (λ (l : List Entry). e ∷ l) a.at.split; by = a.at.by }; answers = a.answers }

-- a plan that commits now is of an operation that stands nowhere yet
new_plan : (start : Start) (past : List Entry) (e : Entry) → StartsSound start
    → IsRun start (e ∷ past) → (p : Past) → PlanAt (e ∷ past) (length past) p → (q : Placed)
    → Origin past q → Differs q (record { place = length past; past = p })
new_plan start past e sound run p plan q (by_plan a) client number =
    let same = one_plan start (e ∷ past) sound (runs_follow_protocol start (e ∷ past) run) p.client p.number q.place (length past)
    (plan_as (e ∷ past) q.place q.past p.client p.number client number (plan_more e past q.place q.past a)) (plan_in (e ∷ past) (length past) p plan) in
    let place : q.place ≡ length past = same.places in
    let low = shorter_by past a.later a.entry a.before a.split in
    let is : q.place ≡ length a.before = a.is_place in absurd (omega arith)
new_plan start past e sound run p plan q (by_answer r) client number =
    let answer = answer_as past q p.client p.number client number r in
    let replied = plan_replied start (e ∷ past) sound run p.client p.number q.past.reply (answer_more e past p.client p.number (Replied q.past.reply) answer) (length past) (plan_in (e ∷ past) (length past) p plan) in
    let low = shorter_by past answer.at.later answer.at.entry answer.at.before answer.at.split in
    let less : length past < length (answer_as past q p.client p.number client number r).at.before = replied.before in absurd (omega arith)

all_apart : (P : Placed → Type 0) (p : Placed) → ((q : Placed) → P q → Differs q p)
    → (ps : List Placed) → AllByRecursion P ps → AllByRecursion (λ q. Differs q p) ps
all_apart P p f [] all = tt
all_apart P p f (q ∷ qs) all = (f q all.0, all_apart P p f qs all.1)

pub once_run : (start : Start) (past : List Entry) (placed : List Placed) → StartsSound start
    → IsRun start past → IsHistory past placed → AreOnce placed
once_run start [] placed sound run none = subst AreOnce (sym none) tt
once_run start (e ∷ past) placed sound run history =
    by (puts_of start past e placed (runs_follow_protocol start (e ∷ past) run) history) (once_run start past history.0 sound run.0 history.1)
  where
    by : Puts past e history.0 placed → AreOnce history.0 → AreOnce placed
    by (nothing_new same) once = subst AreOnce (sym same) once
    by (read_new p replied none same) once = subst AreOnce (sym same) (once_put p history.0 (none_past p history.0 none) once)
    by (plan_new p plan same) once =
        subst AreOnce (sym same)
        (once_push history.0 (record { place = length past; past = p })
        (all_apart (Origin past) (record { place = length past; past = p }) (new_plan start past e sound run p plan) history.0 (origins start past history.0 (runs_follow_protocol start past run.0) history.1)) once)

abbrev EachOnce : Type 0
EachOnce = (start : Start) (store : Store) (past : List Entry) (placed : List Placed)
    → HistoryRun start store past placed → AreOnce placed

pub each_once : EachOnce
each_once start store past placed h = once_run start past placed h.opened.opened.sound h.opened.run h.history

-- At most one plan

pub plan_of : (past : List Entry) (place : ℕ) (c : ClientNo) (number : ℕ)
    → CommitsPlanAt past place c number → PlanIn past place c number
plan_of past place c number (later, e, before, i, split, is, commits, not_read, (p, plan, client, n)) =
    plan_as past place p c number client n (record { entry = e; later = later; before = before; issued = i; split = split; is_place = is; commits = commits; no_read = not_read; plan = plan })

pub one_plan_each : OnePlanEach
one_plan_each start store past one other c number h x y = (one_plan start past h.opened.sound (runs_follow_protocol start past h.run) c number one other (plan_of past one c number x) (plan_of past other c number y)).places

-- Answers without effect

abbrev pub answer_at : (past : List Entry) (place : ℕ) (e : Entry) (c : ClientNo) (number : ℕ) (answer : Answer) → StandsAt past place e → AnswersOp e c number answer → AnswerAt past c number answer
answer_at past place e c number answer (later, before, split, is) answers = record { at = record { entry = e; later = later; before = before; split = split; by = answers.0 }; answers = answers.1 }

no_effect : (start : Start) (past : List Entry) → StartsSound start
    → IsRun start past → (c : ClientNo) (number : ℕ) (answer : Answer)
    → AnswerAt past c number answer → MeansNoEffect answer → (q : Placed) → Origin past q
    → q.past.client ≡ c → q.past.number ≡ number → ⊥
no_effect start past sound run c number answer a means q (by_plan plan) client is =
    let s = shown_answer start past c number answer a run in
    given_up_none start past sound (runs_follow_protocol start past run) c number answer a
    (gives_up (Rattle.mn_runs.specs.Calls.client_entries c a.at.before) (Rattle.mn_runs.specs.Calls.since_begin (Rattle.mn_runs.specs.Calls.client_entries c a.at.before)) s.op answer means s.shows) q.place (plan_as past q.place q.past c number client is plan)
no_effect start past sound run c number answer a means q (by_answer r) client is =
    subst MeansNoEffect (answered_once start past c number answer (Replied q.past.reply) a (answer_as past q c number client is r) (runs_follow_protocol start past run)).1 means

all_none : (P : Placed → Type 0) (c : ClientNo) (number : ℕ)
    → ((q : Placed) → P q → q.past.client ≡ c → q.past.number ≡ number → ⊥) → (ps : List Placed)
    → AllByRecursion P ps → AllByRecursion (λ p. p.past.client ≡ c → p.past.number ≡ number → ⊥) ps
all_none P c number f [] all = tt
all_none P c number f (q ∷ qs) all = (f q all.0, all_none P c number f qs all.1)

-- an operation that was answered otherwise has no effect: no plan of it is committed, then or
-- later, and it stands nowhere
abbrev OthersHaveNoEffect : Type 0
OthersHaveNoEffect =
    (start : Start) (store : Store) (past : List Entry) (placed : List Placed) (place : ℕ)
    (e : Entry) (c : ClientNo) (number : ℕ) (answer : Answer)
    → HistoryRun start store past placed → StandsAt past place e → AnswersOp e c number answer
    → MeansNoEffect answer
    → AllByRecursion (λ p. p.past.client ≡ c → p.past.number ≡ number → ⊥) placed

pub others_have_no_effect : OthersHaveNoEffect
others_have_no_effect start store past placed place e c number answer h stands answers means =
    all_none (Origin past) c number (no_effect start past h.opened.opened.sound h.opened.run c number answer (answer_at past place e c number answer stands answers) means) placed
    (origins start past placed (runs_follow_protocol start past h.opened.run) h.history)

abbrev OthersCommitNothing : Type 0
OthersCommitNothing =
    (start : Start) (store : Store) (past : List Entry) (place other : ℕ) (e : Entry) (c : ClientNo)
    (number : ℕ) (answer : Answer)
    → OpenedRun start store past → StandsAt past place e → AnswersOp e c number answer
    → MeansNoEffect answer → CommitsPlanAt past other c number → ⊥

pub others_commit_nothing : OthersCommitNothing
others_commit_nothing start store past place other e c number answer h stands answers means plan =
    let a = answer_at past place e c number answer stands answers in
    let s = shown_answer start past c number answer (answer_at past place e c number answer stands answers) h.run in
    given_up_none start past h.opened.sound (runs_follow_protocol start past h.run) c number answer (answer_at past place e c number answer stands answers)
    (gives_up (Rattle.mn_runs.specs.Calls.client_entries c stands.1) (Rattle.mn_runs.specs.Calls.since_begin (Rattle.mn_runs.specs.Calls.client_entries c stands.1)) s.op answer means s.shows) other (plan_of past other c number plan)

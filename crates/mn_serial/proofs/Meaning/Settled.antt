-- What is in doubt took effect, or never will.
use Rattle.std.proofs.Common.{◌≡◌, ℕ, suc, ◌≤◌, ◌⊎◌, inl, inr, Bool, true, false, List, [], ◌∷◌, ◌++◌, length, refl, subst, sym, ap, ◌∙◌, arith, Contains}
use Rattle.std.specs.Prelude.{nat_eq}
use Rattle.std.proofs.lemmas.List.{append_assoc}
use Rattle.std.proofs.lemmas.List.Elements.{All-contains, All-from_recursion}
use Rattle.mn_base.specs.Ids.{client_same}
use Rattle.mn_base.specs.declared.ids.NodeNo.{NodeNo}
use Rattle.mn_base.specs.declared.ids.ClientNo.{ClientNo}
use Rattle.mn_base.specs.declared.answer.Answer.TheVariants.{Replied, InDoubt}
use Rattle.mn_base.specs.Store.{Store}
use Rattle.mn_base.proofs.Booleans.{clash}
use Rattle.mn_page.proofs.FrontFields.{is_at}
use Rattle.mn_runs.specs.declared.entry.Entry.{Entry}
use Rattle.mn_runs.specs.Calls.{client_entries, since_begin}
use Rattle.mn_runs.specs.Protocol.{Start, FollowsProtocol, AreUp}
use Rattle.mn_serial.specs.History.{Placed}
use Rattle.mn_votes.specs.Laws.{StartsSound}
use Rattle.mn_commits.specs.Laws.{IsNeverCommitted}
use Rattle.mn_serial.specs.Meaning.{HistoryRun, CommitsPlanAt}
use Rattle.mn_serial.specs.OneHistory.{IsOp, StandsNowhere, IsNever, OthersHaveNone, TookEffect, AreSettled}
use Rattle.mn_runs.proofs.Same.{client_same-refl, client_same-true, nat_eq-refl}
use Rattle.mn_law.proofs.MakeRun.{runs_follow_protocol}
use Rattle.mn_serial.proofs.Meaning.Over.{never_there}
use Rattle.mn_serial.proofs.Meaning.Splits.{shorter_by}
use Rattle.mn_serial.proofs.Meaning.Positions.{AnswerAt, answered_once}
use Rattle.mn_serial.proofs.Meaning.Done.{CommittedIn}
use Rattle.mn_serial.proofs.Meaning.Origins.{Origin, by_plan, by_answer}
use Rattle.mn_serial.proofs.Meaning.Plans.{PlanIn, one_place, given_up_none}
use Rattle.mn_serial.proofs.Meaning.Answered.{shown_answer, gives_up}
use Rattle.mn_serial.proofs.Meaning.Once.{plan_of, answer_at, answer_as, others_have_no_effect}
use Rattle.mn_serial.proofs.Meaning.Between.{origin_of}
use Rattle.mn_serial.proofs.Meaning.Stands.{committed_stands}
use Rattle.mn_serial.proofs.Meaning.Shut.{IsShut, none_down, shut_never, answer_later, answer_shuts}

-- Where an entry of a longer log stands

pub record InOlder (past : List Entry) (y : Entry) (before : List Entry) : Type 0 where
  pub later : List Entry
  pub split : past ≡ later ++ y ∷ before

pub record InLater (past later : List Entry) (y : Entry) (before : List Entry) : Type 0 where
  pub newer : List Entry
  pub older : List Entry
  pub split : later ≡ newer ++ y ∷ older
  pub rest : before ≡ older ++ past

pub where_is : (later past newer : List Entry) (y : Entry) (before : List Entry)
    → later ++ past ≡ newer ++ y ∷ before → InOlder past y before ⊎ InLater past later y before
where_is [] past newer y before same = inl (record { later = newer; split = same })
where_is (z ∷ later) past [] y before same =
    let here : z ≡ y = cc in
    let rest : later ++ past ≡ before = cc in
    inr (record { newer = []; older = later; split = ap (λ (x : Entry). x ∷ later) here; rest = sym rest })
where_is (z ∷ later) past (w ∷ newer) y before same = by (where_is later past newer y before rest)
  where
    rest : later ++ past ≡ newer ++ y ∷ before
    rest = cc

    by : InOlder past y before ⊎ InLater past later y before
        → InOlder past y before ⊎ InLater past (z ∷ later) y before
    by (inl old) = inl old
    by (inr new) = inr (record { newer = z ∷ new.newer; older = new.older; split = ap (λ (l : List Entry). z ∷ l) new.split; rest = new.rest })

pub longer : (older past : List Entry) → length past ≤ length (older ++ past)
longer [] past = omega arith
longer (x ∷ older) past = let rest = longer older past in omega arith

-- an operation stands in a history, or nowhere there

pub record Stands (placed : List Placed) (c : ClientNo) (number : ℕ) : Type 0 where
  pub p : Placed
  pub there : Contains placed p
  pub of : IsOp p c number

stands_more : (q : Placed) (placed : List Placed) (c : ClientNo) (number : ℕ)
    → Stands placed c number → Stands (q ∷ placed) c number
stands_more q placed c number s = record { p = s.p; there = (suc s.there.0, omega (arith, s.there.1), s.there.2); of = s.of }

pub stands_or_not : (c : ClientNo) (number : ℕ) (placed : List Placed)
    → Stands placed c number ⊎ StandsNowhere placed c number
stands_or_not c number [] = inr tt
stands_or_not c number (q ∷ qs) = by (client_same q.past.client c) refl (nat_eq q.past.number number) refl (stands_or_not c number qs)
  where
    other : ((q.past.client ≡ c) → (q.past.number ≡ number) → ⊥)
        → Stands qs c number ⊎ StandsNowhere qs c number
        → Stands (q ∷ qs) c number ⊎ StandsNowhere (q ∷ qs) c number
    other differs (inl s) = inl (stands_more q qs c number s)
    other differs (inr none) = inr (differs, none)

    by : (a : Bool) → client_same q.past.client c ≡ a → (b : Bool) → nat_eq q.past.number number ≡ b
        → Stands qs c number ⊎ StandsNowhere qs c number
        → Stands (q ∷ qs) c number ⊎ StandsNowhere (q ∷ qs) c number
    by true e true f rest = inl (record { p = q; there = (0, omega arith, refl); of = (client_same-true q.past.client c e, is_at q.past.number number f) })
    by true e false f rest = other (λ client is. clash (nat_eq q.past.number number) (subst (λ (k : ℕ). nat_eq q.past.number k ≡ true) is (nat_eq-refl q.past.number)) f) rest
    by false e b f rest = other (λ client is. clash (client_same q.past.client c) (subst (λ (d : ClientNo). client_same q.past.client d ≡ true) client (client_same-refl q.past.client)) e) rest

all_has : (placed : List Placed) (p : Placed) (c : ClientNo) (number : ℕ)
    → StandsNowhere placed c number → Contains placed p → p.past.client ≡ c → p.past.number ≡ number
    → ⊥
all_has placed p c number none has = All-contains (λ q. q.past.client ≡ c → q.past.number ≡ number → ⊥) placed p (All-from_recursion (λ q. q.past.client ≡ c → q.past.number ≡ number → ⊥) placed none) has

-- what stands by a plan took effect
pub took_effect : (start : Start) (past : List Entry) (placed : List Placed) (c : ClientNo) (number : ℕ) → (s : Stands placed c number) → Rattle.mn_serial.proofs.Meaning.Origins.PlanAt past s.p.place s.p.past → TookEffect past placed c number
took_effect start past placed c number s a = record {
  p = s.p;
  there = s.there;
  of = s.of;
  i = a.issued;
  later = a.later;
  entry = a.entry;
  before = a.before;
  split = a.split;
  place = a.is_place;
  committed = a.commits;
  no_read = a.no_read;
  plan = a.plan;
}

-- A plan that is committed later

-- where no plan of the operation stands in the history, one that is committed in what goes on from
-- the log has its commit behind the log, and its id none in it
pub record CommitsLater (past later : List Entry) (c : ClientNo) (number : ℕ) : Type 0 where
  pub place : ℕ
  pub x : PlanIn (later ++ past) place c number
  pub not_yet : CommittedIn past x.issued.tid → ⊥

-- what is committed behind the log is not committed in it
behind_log : (start : Start) (past later : List Entry) → StartsSound start
    → FollowsProtocol start (later ++ past)
    → (c : ClientNo) (number : ℕ) (place : ℕ) (x : PlanIn (later ++ past) place c number)
    → length past ≤ place → CommittedIn past x.issued.tid → ⊥
behind_log start past later sound run c number place x high co =
    let there : later ++ past ≡ (later ++ co.later) ++ co.entry ∷ co.before = ap (λ (l : List Entry). later ++ l) co.split ∙ sym (append_assoc later co.later (co.entry ∷ co.before)) in
    let same : length x.before ≡ length co.before = one_place start (later ++ past) sound run x.later x.entry x.before x.issued (later ++ co.later) co.entry co.before co.issued x.split there x.commits co.commits (sym co.same) in
    let low = shorter_by past co.later co.entry co.before co.split in
    let is : place ≡ length x.before = x.is_place in absurd (omega arith)

pub commits_later : (start : Start) (store : Store) (past : List Entry) (placed : List Placed)
    → HistoryRun start store past placed → (later : List Entry)
    → FollowsProtocol start (later ++ past) → (c : ClientNo) (number : ℕ)
    → StandsNowhere placed c number
    → (place : ℕ) → CommitsPlanAt (later ++ past) place c number → CommitsLater past later c number
commits_later start store past placed h later run c number none place (newer, e, before, i, split, is, commits, not_read, (p, plan, client, n)) = by (where_is later past newer e before split)
  where
    by : InOlder past e before ⊎ InLater past later e before → CommitsLater past later c number
    by (inl old) =
        let s = committed_stands start store past placed place c number h (old.later, e, before, i, old.split, is, commits, not_read, (p, plan, client, n)) in
        absurd (all_has placed s.0 c number none s.1 s.2 s.3)
    by (inr new) =
        let long = longer new.older past in
        let whole : length before ≡ length (new.older ++ past) = ap (λ (l : List Entry). length l) new.rest in
        record {
          place = place;
          x = plan_of (later ++ past) place c number (newer, e, before, i, split, is, commits, not_read, (p, plan, client, n));
          not_yet = behind_log start past later h.opened.opened.sound run c number place (plan_of (later ++ past) place c number (newer, e, before, i, split, is, commits, not_read, (p, plan, client, n))) (omega arith);
        }

pub never_later : (past later : List Entry) (c : ClientNo) (number : ℕ) (l : CommitsLater past later c number) → IsNeverCommitted l.x.issued.tid (later ++ past) → ⊥
never_later past later c number l never = never_there l.x.issued.tid (later ++ past) l.x.later l.x.entry l.x.before l.x.issued never l.x.split l.x.commits refl

-- Answered in doubt

doubt_no_reply : (tid : Rattle.mn_base.specs.declared.ids.Tid.Tid) (n : NodeNo) (reply : Rattle.mn_base.specs.declared.reply.Reply.Reply) → InDoubt tid n ≡ Replied reply → ⊥
doubt_no_reply tid n reply e = cc

pub told_settled : (start : Start) (store : Store) (past : List Entry) (placed : List Placed)
    → HistoryRun start store past placed → AreUp start past → AreSettled start past placed
told_settled start store past placed h up c number (tid, n, (at, e, stands, answers)) = by (stands_or_not c number placed)
  where
    run : FollowsProtocol start past
    run = runs_follow_protocol start past h.opened.run

    answer : AnswerAt past c number (InDoubt tid n)
    answer = answer_at past at e c number (InDoubt tid n) stands answers

    effect : (s : Stands placed c number) → Origin past s.p → TookEffect past placed c number
    effect s (by_plan a) = took_effect start past placed c number s a
    effect s (by_answer r) =
        absurd (doubt_no_reply tid n s.p.past.reply (answered_once start past c number (InDoubt tid n) (Replied s.p.past.reply) answer (answer_as past s.p c number s.of.0 s.of.1 r) run).1)

    never : StandsNowhere placed c number → IsNever start past c number
    never none later place run' plan =
        let l = commits_later start store past placed h later run' c number none place plan in
        let shut : IsShut c past l.x.issued.tid = answer_shuts start past later c number (InDoubt tid n) answer (record { number = number; op = l.x.op }) l.x.issued l.x.issue h.opened.opened.sound run' refl in
        never_later past later c number l (shut_never start past later c l.x.issued.tid h.opened.opened.sound run' shut (none_down start past l.x.issued.tid run up) l.not_yet)

    by : Stands placed c number ⊎ StandsNowhere placed c number
        → TookEffect past placed c number
        ⊎ (StandsNowhere placed c number × IsNever start past c number)
    by (inl s) = inl (effect s (origin_of start past placed s.p h.opened.run h.history s.there))
    by (inr none) = inr (none, never none)

-- Answered without effect

pub others_never : (start : Start) (store : Store) (past : List Entry) (placed : List Placed)
    → HistoryRun start store past placed → OthersHaveNone start past placed
others_never start store past placed h c number answer (at, e, stands, answers) means = (others_have_no_effect start store past placed at e c number answer h stands answers means, never)
  where
    here : AnswerAt past c number answer
    here = answer_at past at e c number answer stands answers

    never : IsNever start past c number
    never later place run plan =
        let s = shown_answer start past c number answer here h.opened.run in
        given_up_none start (later ++ past) h.opened.opened.sound run c number answer (answer_later past later c number answer here)
        (gives_up (client_entries c here.at.before) (since_begin (client_entries c here.at.before)) s.op answer means s.shows) place (plan_of (later ++ past) place c number plan)

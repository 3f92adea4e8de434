-- The operation of a plan, by who issued the last plan of its id.
use Rattle.std.proofs.Common.{◌≡◌, ℕ, ◌⊎◌, inl, inr, Bool, true, false, ◌&&◌, ◌||◌, List, [], ◌∷◌, ◌++◌, length, Option, Some, None, refl, subst, sym, ap, ◌∙◌, if◌then◌else◌}
use Rattle.std.specs.Prelude.{IsTrue, MatchBool, nat_eq}
use Rattle.mn_base.specs.Ids.{client_same, tid_same}
use Rattle.mn_base.specs.declared.history.Past.{Past}
use Rattle.mn_base.specs.declared.ids.ClientNo.{ClientNo}
use Rattle.mn_base.specs.declared.ids.NodeNo.{NodeNo}
use Rattle.mn_base.specs.declared.ids.Tid.{Tid}
use Rattle.mn_base.specs.declared.reply.Reply.{Reply}
use Rattle.mn_base.proofs.Booleans.{clash}
use Rattle.mn_mini.specs.Mini.{Mini, is_read}
use Rattle.mn_mini.proofs.Fits.{unsome}
use Rattle.mn_runs.specs.declared.entry.Entry.{Entry}
use Rattle.mn_runs.specs.declared.entry.What.{What}
use Rattle.mn_runs.specs.declared.entry.What.TheVariants.{Begin, Issue, Called, Stopped, Restarted, Abandoned, Answered}
use Rattle.mn_law.specs.Answers.{IsPlanBy, IsPlanOfOp}
use Rattle.mn_runs.specs.Calls.{Begun, Issued, client_entries, issue_in, issues_of, issue_named, under_way}
use Rattle.mn_serial.specs.History.{Placed, PlanOf, EntryPuts, has_past}
use Rattle.mn_runs.specs.Protocol.{AllowedBy, Start}
use Rattle.mn_law.specs.Run.{IsRun, Means}
use Rattle.mn_runs.proofs.Same.{tid_same-true}
use Rattle.mn_hist.specs.Plans.{Planner}
use Rattle.mn_hist.specs.Acts.{Act}
use Rattle.mn_hist.specs.History.{begun_by, planner_after, planner_for, planner_of}

-- the plan of this id, for this operation, with some reply
abbrev HasPlan : List Entry → Tid → Mini → Act → Type 0
HasPlan past tid mini a = (reply : Reply) × PlanOf past (record { tid = tid; mini = mini }) (record { client = a.client; number = a.number; op = a.op; reply = reply })

plan_more : (e : Entry) (past : List Entry) (tid : Tid) (mini : Mini) (a : Act) → HasPlan past tid mini a → HasPlan (e ∷ past) tid mini a
plan_more e past tid mini a (reply, p) = (reply, record { entry = p.entry; later = e ∷ p.later; before = p.before; split = ap (λ (l : List Entry). e ∷ l) p.split; issued = p.issued; by = p.by; of = p.of; planned = p.planned })

plan_here : (past : List Entry) (at : Option NodeNo) (by : Option ClientNo) (tid : Tid) (mini : Mini) (a : Act)
    → Means past by (Issue tid mini) → is_read mini.items ≡ false → by ≡ Some a.client → begun_by by past ≡ Some (record { number = a.number; op = a.op })
    → HasPlan (record { node = at; client = by; what = Issue tid mini } ∷ past) tid mini a
plan_here past at None tid mini a means other is of = absurd cc
plan_here past at (Some c) tid mini a means other is of = kind means.1
  where
    same : c ≡ a.client
    same = unsome c a.client is

    under : under_way (client_entries a.client past) ≡ Some (record { number = a.number; op = a.op })
    under = subst (λ (d : ClientNo). under_way (client_entries d past) ≡ Some (record { number = a.number; op = a.op })) same of

    planned : (o : Option Begun) → o ≡ Some (record { number = a.number; op = a.op }) → IsPlanOfOp (client_entries c past) o mini → (reply : Reply) × IsPlanBy (client_entries a.client past) a.op mini reply
    planned None e none = absurd none
    planned (Some b) e (reply, plan) =
        let b_is : b ≡ record { number = a.number; op = a.op } = unsome b (record { number = a.number; op = a.op }) e in
        (reply, subst (λ (d : ClientNo). IsPlanBy (client_entries d past) a.op mini reply) same (subst (λ (x : Begun). IsPlanBy (client_entries c past) x.op mini reply) b_is plan))

    kind : IsTrue (is_read mini.items) ⊎ IsPlanOfOp (client_entries c past) (under_way (client_entries c past)) mini → HasPlan (record { node = at; client = Some c; what = Issue tid mini } ∷ past) tid mini a
    kind (inl read) = absurd (clash (is_read mini.items) read other)
    kind (inr plan) =
        let p = planned (under_way (client_entries c past)) of plan in
        (p.0, record { entry = record { node = at; client = Some c; what = Issue tid mini }; later = []; before = past; split = refl; issued = refl; by = is; of = under; planned = p.1 })

plan_step : (past : List Entry) (at : Option NodeNo) (by : Option ClientNo) (what : What) (tid : Tid) (mini : Mini) (a : Act)
    → Means past by what → is_read mini.items ≡ false
    → (planner_of tid past ≡ Some (planner_for a) → issue_named tid (issues_of past) ≡ Some mini → HasPlan past tid mini a)
    → planner_after tid by what past (planner_of tid past) ≡ Some (planner_for a) → issue_named tid (issue_in what ++ issues_of past) ≡ Some mini
    → HasPlan (record { node = at; client = by; what = what } ∷ past) tid mini a
plan_step past at by (Issue t m) tid mini a means other older planner named =
    elim (tid_same t tid) as (λ b. tid_same t tid ≡ b → (if b then Some (record { client = by; begun = begun_by by past }) else planner_of tid past) ≡ Some (planner_for a) → (if b then Some m else issue_named tid (issues_of past)) ≡ Some mini → HasPlan (record { node = at; client = by; what = Issue t m } ∷ past) tid mini a) [
      | true ↦ λ same planner named. here same (unsome (record { client = by; begun = begun_by by past }) (planner_for a) planner) (unsome m mini named)
      | false ↦ λ same planner named. plan_more (record { node = at; client = by; what = Issue t m }) past tid mini a (older planner named)
    ] refl planner named
  where
    here : tid_same t tid ≡ true → record { client = by; begun = begun_by by past } ≡ planner_for a → m ≡ mini → HasPlan (record { node = at; client = by; what = Issue t m } ∷ past) tid mini a
    here same is_planner is_mini =
        let is_tid : t ≡ tid = tid_same-true t tid same in
        subst (λ (x : Tid). HasPlan (record { node = at; client = by; what = Issue t m } ∷ past) x mini a) is_tid
        (subst (λ (x : Mini). HasPlan (record { node = at; client = by; what = Issue t m } ∷ past) t x a) is_mini
        (plan_here past at by t m a means (ap (λ (x : Mini). is_read x.items) is_mini ∙ other) (ap (λ (p : Planner). p.client) is_planner) (ap (λ (p : Planner). p.begun) is_planner)))
plan_step past at by (Begin number op) tid mini a means other older planner named = plan_more (record { node = at; client = by; what = Begin number op }) past tid mini a (older planner named)
plan_step past at by (Answered number answer) tid mini a means other older planner named = plan_more (record { node = at; client = by; what = Answered number answer }) past tid mini a (older planner named)
plan_step past at by (Called request reply) tid mini a means other older planner named = plan_more (record { node = at; client = by; what = Called request reply }) past tid mini a (older planner named)
plan_step past at by (Stopped request asked) tid mini a means other older planner named = plan_more (record { node = at; client = by; what = Stopped request asked }) past tid mini a (older planner named)
plan_step past at by (Restarted kept) tid mini a means other older planner named = plan_more (record { node = at; client = by; what = Restarted kept }) past tid mini a (older planner named)
plan_step past at by (Abandoned t) tid mini a means other older planner named = plan_more (record { node = at; client = by; what = Abandoned t }) past tid mini a (older planner named)

pub plan_of : (start : Start) (tid : Tid) (mini : Mini) (a : Act) (past : List Entry) → IsRun start past → is_read mini.items ≡ false → planner_of tid past ≡ Some (planner_for a) → issue_named tid (issues_of past) ≡ Some mini
    → (reply : Reply) × PlanOf past (record { tid = tid; mini = mini }) (record { client = a.client; number = a.number; op = a.op; reply = reply })
plan_of start tid mini a [] run other planner named = absurd cc
plan_of start tid mini a (e ∷ past) run other planner named = plan_step past e.node e.client e.what tid mini a run.1.means other (λ p n. plan_of start tid mini a past run.0 other p n) planner named

-- the operation of a plan is known: a client issued it, for the operation under way
act_here : (past : List Entry) (at : Option NodeNo) (by : Option ClientNo) (tid : Tid) (mini : Mini) → AllowedBy past by at (Issue tid mini) → Means past by (Issue tid mini) → is_read mini.items ≡ false
    → (a : Act) × (◌≡◌ {A = Planner} (record { client = by; begun = begun_by by past }) (planner_for a))
act_here past at None tid mini allowed means other = absurd allowed
act_here past at (Some c) tid mini allowed means other = kind means.1
  where
    of : (o : Option Begun) → under_way (client_entries c past) ≡ o → IsPlanOfOp (client_entries c past) o mini → (a : Act) × (◌≡◌ {A = Planner} (record { client = Some c; begun = under_way (client_entries c past) }) (planner_for a))
    of None e none = absurd none
    of (Some b) e plan = (record { client = c; number = b.number; op = b.op }, ap (λ (o : Option Begun). let p : Planner = record { client = Some c; begun = o } in p) e)

    kind : IsTrue (is_read mini.items) ⊎ IsPlanOfOp (client_entries c past) (under_way (client_entries c past)) mini → (a : Act) × (◌≡◌ {A = Planner} (record { client = Some c; begun = under_way (client_entries c past) }) (planner_for a))
    kind (inl read) = absurd (clash (is_read mini.items) read other)
    kind (inr plan) = of (under_way (client_entries c past)) refl plan

-- of an id whose plan is this one, an operation is kept
abbrev KeepsAct : List Entry → Tid → Type 0
KeepsAct past tid = (a : Act) × (planner_of tid past ≡ Some (planner_for a))

act_step : (past : List Entry) (at : Option NodeNo) (by : Option ClientNo) (what : What) (tid : Tid) (mini : Mini)
    → AllowedBy past by at what → Means past by what → is_read mini.items ≡ false
    → (issue_named tid (issues_of past) ≡ Some mini → KeepsAct past tid) → issue_named tid (issue_in what ++ issues_of past) ≡ Some mini
    → (a : Act) × (planner_after tid by what past (planner_of tid past) ≡ Some (planner_for a))
act_step past at by (Issue t m) tid mini allowed means other older named =
    elim (tid_same t tid) as (λ b. (if b then Some m else issue_named tid (issues_of past)) ≡ Some mini → (a : Act) × ((if b then Some (record { client = by; begun = begun_by by past }) else planner_of tid past) ≡ Some (planner_for a))) [
      | true ↦ λ named. here (unsome m mini named)
      | false ↦ λ named. older named
    ] named
  where
    here : m ≡ mini → (a : Act) × (Some (record { client = by; begun = begun_by by past }) ≡ Some (planner_for a))
    here is =
        let found = act_here past at by t m allowed means (ap (λ (x : Mini). is_read x.items) is ∙ other) in
        (found.0, ap (λ (p : Planner). Some p) found.1)
act_step past at by (Begin number op) tid mini allowed means other older named = older named
act_step past at by (Answered number answer) tid mini allowed means other older named = older named
act_step past at by (Called request reply) tid mini allowed means other older named = older named
act_step past at by (Stopped request asked) tid mini allowed means other older named = older named
act_step past at by (Restarted kept) tid mini allowed means other older named = older named
act_step past at by (Abandoned t) tid mini allowed means other older named = older named

-- of each plan of a run an operation is kept
pub keeps_act : (start : Start) (tid : Tid) (mini : Mini) (past : List Entry) → IsRun start past → is_read mini.items ≡ false → issue_named tid (issues_of past) ≡ Some mini → (a : Act) × (planner_of tid past ≡ Some (planner_for a))
keeps_act start tid mini [] run other named = absurd cc
keeps_act start tid mini (e ∷ past) run other named = act_step past e.node e.client e.what tid mini run.1.keeps.by_client run.1.means other (λ n. keeps_act start tid mini past run.0 other n) named

-- What a commit puts into the history

pub read_puts : (past : List Entry) (e : Entry) (i : Issued) (placed : List Placed) → is_read i.mini.items ≡ true → EntryPuts past e (Some i) placed placed
read_puts past e i placed read = subst (λ b. MatchBool b (placed ≡ placed) ((p : Past) × PlanOf past i p × (placed ≡ placed ++ record { place = length past; past = p } ∷ []))) (sym read) refl

pub plan_puts : (past : List Entry) (e : Entry) (i : Issued) (placed : List Placed) (p : Past) → is_read i.mini.items ≡ false → PlanOf past i p → EntryPuts past e (Some i) placed (placed ++ record { place = length past; past = p } ∷ [])
plan_puts past e i placed p other plan =
    subst (λ b. MatchBool b (placed ++ record { place = length past; past = p } ∷ [] ≡ placed) ((q : Past) × PlanOf past i q × (placed ++ record { place = length past; past = p } ∷ [] ≡ placed ++ record { place = length past; past = q } ∷ []))) (sym other) (p, plan, refl)

pub or_swap : (a b c : Bool) → (a || (b || c)) ≡ (b || (a || c))
or_swap true true c = refl
or_swap true false c = refl
or_swap false b c = refl

pub past_last : (c : ClientNo) (n : ℕ) (p : Placed) (placed : List Placed) → has_past c n (placed ++ p ∷ []) ≡ ((client_same p.past.client c && nat_eq p.past.number n) || has_past c n placed)
past_last c n p [] = refl
past_last c n p (q ∷ qs) = ap (λ t. (client_same q.past.client c && nat_eq q.past.number n) || t) (past_last c n p qs) ∙ or_swap (client_same q.past.client c && nat_eq q.past.number n) (client_same p.past.client c && nat_eq p.past.number n) (has_past c n qs)

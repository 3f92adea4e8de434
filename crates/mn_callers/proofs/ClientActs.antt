-- What a client does at an act is what the act says of its own list.
use Rattle.std.proofs.Common.{◌≡◌, ◌≢◌, ℕ, ◌+◌, Bool, true, false, not, ◌&&◌, ◌||◌, nat_lt, IsTrue, List, [], ◌∷◌, ◌++◌, length, Option, Some, None, Result, Ok, Err, is_some, refl, sym, ap, ◌∙◌, subst, inl, inr, arith, length-append}
use Rattle.std.specs.Prelude.{◌⊎◌, ◌<◌, MatchBool, OnOk, slice_get}
use Rattle.std.specs.List.{AllByRecursion}
use Rattle.std.proofs.lemmas.List.{append_assoc}
use Rattle.mn_base.specs.declared.ids.ClientNo.{ClientNo}
use Rattle.mn_base.specs.declared.ids.Tid.{Tid}
use Rattle.mn_base.specs.declared.op.Op.{Op}
use Rattle.mn_base.proofs.Booleans.{and_false, clash, falsely, not_false, or_split}
use Rattle.mn_base.proofs.Lists.{all_append}
use Rattle.mn_mini.specs.Mini.{Mini}
use Rattle.mn_mini.specs.declared.reply.NodeReply.{NodeReply}
use Rattle.mn_mini.specs.declared.reply.NodeReply.TheVariants as Say
use Rattle.mn_script.specs.declared.elements.Point.{Point}
use Rattle.mn_runs.specs.declared.entry.Entry.{Entry}
use Rattle.mn_runs.specs.declared.entry.What.{What}
use Rattle.mn_runs.specs.declared.entry.What.TheVariants.{Begin, Issue, Called, Stopped, Restarted, Abandoned, Answered}
use Rattle.mn_runs.specs.Calls.{Begun, begun_in, begun_of, under_way}
use Rattle.mn_runs.specs.Clients.{last_number}
use Rattle.mn_runs.specs.Lists.{ClientState}
use Rattle.mn_runs.specs.Protocol.{IsOwnStep, Start, entries_of}
use Rattle.mn_hist.specs.Points.{may_stop}
use Rattle.mn_proxy.specs.State.{ProxyState}
use Rattle.mn_proxy.specs.Turns.{LacksMemory}
use Rattle.mn_callers.specs.declared.client.Call.{Call}
use Rattle.mn_callers.specs.declared.client.Client.{Client}
use Rattle.mn_callers.specs.Acts.{AreOwn, Begins, BeginsOp, CallsOnce, CallsOrLacks, CallsWhile, GoesByItself, IsUnderWay, Lacks, Role, Works, as_role, has_work, is_at_work, is_own, is_plan_due}
use Rattle.mn_callers.specs.Clients.{IsClient, IsOfRun, past_of}
use Rattle.mn_callers.specs.Going.{HasAnswer, IsLonger, MayMake, is_planned}
use Rattle.mn_callers.specs.Points.{has_died}
use Rattle.mn_callers.specs.Steps.{Adds, own_entry}
use Rattle.mn_callers.proofs.ClientSteps.{longer, out_works, ready_last}
use Rattle.mn_callers.proofs.ClientCalls.{due_alive, entry_or_none, idle_alive, lives_by, plain_out, works_none}
use Rattle.mn_callers.proofs.PlansDue.{plan_is_due}

-- Steps of its own

own_is : (what : What) → IsOwnStep what → begun_in what ≡ [] → IsTrue (is_own what)
own_is (Begin number op) own none = absurd cc
own_is (Issue tid mini) own none = refl
own_is (Called request reply) own none = absurd own
own_is (Stopped request asked) own none = absurd own
own_is (Restarted kept) own none = absurd own
own_is (Abandoned tid) own none = refl
own_is (Answered number answer) own none = refl

abbrev pub by_none : (c : ClientNo) (es : List Entry) → GoesByItself c es es
by_none c es = record { own = []; new_is = refl; steps = tt }

-- one step
pub by_one : (start : Start) (old new : ClientState) (p : ProxyState) (what : What) → MayMake start old p what → Adds (own_entry old.client what) old new → GoesByItself old.client (entries_of old.entries) (entries_of new.entries)
by_one start old new p what step adds = record {
  own = own_entry old.client what ∷ [];
  new_is = longer (own_entry old.client what) old new adds;
  steps = ((refl, own_is what step.may.0 step.begins_none), tt);
}

-- some, and then others
pub by_more : (c d : ClientNo) (es mid new : List Entry) → d ≡ c → GoesByItself c es mid → GoesByItself d mid new → GoesByItself c es new
by_more c d es mid new same one two = record {
  own = two.own ++ one.own;
  new_is = two.new_is ∙ (ap (λ (l : List Entry). two.own ++ l) one.new_is ∙ sym (append_assoc two.own one.own es));
  steps = all_append (λ (e : Entry). (e.client ≡ Some c) × IsTrue (is_own e.what)) two.own one.own (subst (λ (k : ClientNo). AreOwn k two.own) same two.steps) one.steps;
}

-- some there are
last_of_all : {X : Type 0} (x : X) (xs : List X) → (front : List X) × (last : X) × (x ∷ xs ≡ front ++ last ∷ [])
last_of_all x [] = ([], x, refl)
last_of_all {X} x (y ∷ xs) = let rest = last_of_all y xs in (x ∷ rest.0, rest.1, ap (λ (l : List X). x ∷ l) rest.2)

lacks_by : (c : ClientNo) (es new own : List Entry) → own ≢ [] → new ≡ own ++ es → AreOwn c own → Lacks c es new
lacks_by c es new [] some is steps = absurd (some refl)
lacks_by c es new (e ∷ own) some is steps =
    let split = last_of_all e own in
    record {
      first = split.1;
      own = split.0;
      new_is = is ∙ ap (λ (l : List Entry). l ++ es) split.2;
      steps = subst (AreOwn c) split.2 steps;
    }

-- a minitransaction is issued
pub issues_one : (start : Start) (old mid new : Client) (tid : Tid) (mini : Mini) → MayMake start old.list old.proxy (Issue tid mini) → Adds (own_entry old.list.client (Issue tid mini)) old.list mid.list → past_of new ≡ past_of mid
    → GoesByItself old.list.client (past_of old) (past_of new)
issues_one start old mid new tid mini step adds same = subst (λ (l : List Entry). GoesByItself old.list.client (past_of old) l) (sym same) (by_one start old.list mid.list old.proxy (Issue tid mini) step adds)

-- of a reply that is no entry this is so
pub when_lacking : {T E : Type 0} (r : Result T E) (reply : NodeReply) (L P Q : Type 0) → (reply ≡ Say.NoMemory → L) → (L → OnOk r P) → (P → Q) → OnOk r (reply ≡ Say.NoMemory → Q)
when_lacking (Err e) reply L P Q lacks so then = tt
when_lacking (Ok x) reply L P Q lacks so then = λ none. then (so (lacks none))

-- Its list is longer

pub added_longer : (e : Entry) (old new : ClientState) → Adds e old new → length (entries_of old.entries) < length (entries_of new.entries)
added_longer e old new adds =
    subst (λ (l : List Entry). length (entries_of old.entries) < length l) (sym (longer e old new adds)) (omega arith)

pub longer_differs : (es new : List Entry) → length es < length new → new ≢ es
longer_differs es new more same = let alike = ap (λ (l : List Entry). length l) same in omega arith

pub still_longer : (first mid new : Client) → (LacksMemory first.proxy → (mid ≡ first) ⊎ IsLonger first mid)
    → (LacksMemory mid.proxy → IsLonger mid new) → GoesByItself mid.list.client (past_of mid) (past_of new)
    → LacksMemory first.proxy → IsLonger first new
still_longer first mid new so own goes lacks = by (so lacks)
  where
    by : (mid ≡ first) ⊎ IsLonger first mid → IsLonger first new
    by (inl same) =
        subst (λ (k : Client). IsLonger k new) same (own (subst (λ (k : Client). LacksMemory k.proxy) (sym same) lacks))
    by (inr more) =
        let long = ap (λ (l : List Entry). length l) goes.new_is ∙ length-append goes.own (past_of mid) in omega arith

pub both_ok : {T E : Type 0} (r : Result T E) (P Q R : Type 0) → (P → Q → R) → OnOk r P → OnOk r Q → OnOk r R
both_ok (Ok x) P Q R f p q = f p q
both_ok (Err e) P Q R f p q = tt

-- What stands to be done

some_due : {T : Type 0} (o : Option T) → is_some o ≡ true → (x : T) × (o ≡ Some x)
some_due None is = absurd cc
some_due (Some x) is = (x, refl)

pub none_due : {T : Type 0} (o : Option T) → is_some o ≡ false → o ≡ None
none_due None is = refl
none_due (Some x) is = absurd cc

module _ (start : Start) (points : List Point) (c : Client) (is : IsClient start points c) where
  abbrev died : Bool
  died = has_died points c.list.client (past_of c)

  due_lives : (call : Call) → c.due ≡ Some call → died ≡ false
  due_lives call due = falsely died (due_alive start points c call is due).0

  due_under_way : (call : Call) → c.due ≡ Some call → is_some (under_way (past_of c)) ≡ true
  due_under_way call due =
      let alive = due_alive start points c call is due in
      ap (λ (o : Option Begun). is_some o) (ready_last (past_of c) c.proxy (out_works c.proxy.work call.node call.request alive.2.out) alive.1.agrees).1

  idle_under_way : c.due ≡ None → died ≡ false → under_way (past_of c) ≡ None
  idle_under_way none lives = let alive = idle_alive start points c is none (lives_by points c lives) in works_none (past_of c) c.proxy c.proxy.work alive.1 alive.0.agrees.1

  works_due : (call : Call) → c.due ≡ Some call → (is_some (under_way (past_of c)) && not died) ≡ true
  works_due call due = ap (λ b. b && not died) (due_under_way call due) ∙ ap not (due_lives call due)

  works_idle : c.due ≡ None → (is_some (under_way (past_of c)) && not died) ≡ false
  works_idle none = by died refl
    where
      by : (b : Bool) → died ≡ b → (is_some (under_way (past_of c)) && not died) ≡ false
      by true dead = ap (λ b. is_some (under_way (past_of c)) && not b) dead ∙ and_false (is_some (under_way (past_of c)))
      by false lives = ap (λ (o : Option Begun). is_some o && not died) (idle_under_way none lives)

  -- a call is due just where it is at work
  pub at_work : (ops : List Op) → is_at_work (as_role points c.list.client ops) (past_of c) ≡ is_some c.due
  at_work ops = by c.due refl
    where
      by : (o : Option Call) → c.due ≡ o → (is_some (under_way (past_of c)) && not died) ≡ is_some o
      by None none = works_idle none
      by (Some call) due = works_due call due

  left_idle : (n : ℕ) → c.due ≡ None → (nat_lt c.begun n && not died) ≡ ((is_some (under_way (past_of c)) || nat_lt (last_number (begun_of (past_of c))) n) && not died)
  left_idle n none = by died refl
    where
      by : (b : Bool) → died ≡ b → (nat_lt c.begun n && not died) ≡ ((is_some (under_way (past_of c)) || nat_lt (last_number (begun_of (past_of c))) n) && not died)
      by true dead =
          let all : Bool = is_some (under_way (past_of c)) || nat_lt (last_number (begun_of (past_of c))) n in
          (ap (λ b. nat_lt c.begun n && not b) dead ∙ and_false (nat_lt c.begun n)) ∙ sym (ap (λ b. all && not b) dead ∙ and_false all)
      by false lives =
          ap (λ (k : ℕ). nat_lt k n && not died) (sym is.run.begun)
          ∙ ap (λ (o : Option Begun). (is_some o || nat_lt (last_number (begun_of (past_of c))) n) && not died) (sym (idle_under_way none lives))

  -- an operation is under way or left
  work_is : (ops : List Op) → (is_some c.due || (nat_lt c.begun (length ops) && not died)) ≡ has_work (as_role points c.list.client ops) (past_of c)
  work_is ops = by c.due refl
    where
      by : (o : Option Call) → c.due ≡ o → (is_some o || (nat_lt c.begun (length ops) && not died)) ≡ ((is_some (under_way (past_of c)) || nat_lt (last_number (begun_of (past_of c))) (length ops)) && not died)
      by None none = left_idle (length ops) none
      by (Some call) due =
          sym (ap (λ b. (b || nat_lt (last_number (begun_of (past_of c))) (length ops)) && not died) (due_under_way call due) ∙ ap not (due_lives call due))

  pub has_work_as : (ops : List Op) (result b : Bool) → result ≡ (is_some c.due || (nat_lt c.begun (length ops) && not died)) → result ≡ b → has_work (as_role points c.list.client ops) (past_of c) ≡ b
  has_work_as ops result b says so = sym (work_is ops) ∙ (sym says ∙ so)

  -- the next call is of a plan just where the list shows that such a one is due
  pub planned : (ops : List Op) → is_planned c.due c.is_plan ≡ (not (is_at_work (as_role points c.list.client ops) (past_of c)) || is_plan_due (past_of c))
  planned ops = by c.due refl
    where
      by : (o : Option Call) → c.due ≡ o → is_planned o c.is_plan ≡ (not (is_some (under_way (past_of c)) && not died) || is_plan_due (past_of c))
      by None none = sym (ap (λ b. not b || is_plan_due (past_of c)) (works_idle none))
      by (Some call) due =
          let alive = due_alive start points c call is due in
          ap (λ b. may_stop call.request && b) is.run.issues.plan_is
          ∙ (plan_is_due (past_of c) c.proxy call.node call.request alive.1.agrees alive.2.out
          ∙ sym (ap (λ b. not b || is_plan_due (past_of c)) (works_due call due)))

  -- Beginning

  pub stays_under_way : (ops : List Op) → is_some c.due ≡ true → IsUnderWay (as_role points c.list.client ops) (past_of c) (past_of c)
  stays_under_way ops due = subst (λ b. MatchBool b (past_of c ≡ past_of c) (Begins (as_role points c.list.client ops) (past_of c) (past_of c))) (sym (due_under_way (some_due c.due due).0 (some_due c.due due).1)) refl

  pub begins_next : (ops : List Op) (op : Op) (new : List Entry) → c.due ≡ None → died ≡ false → slice_get ops c.begun ≡ Some op → BeginsOp c.list.client op (past_of c) new → IsUnderWay (as_role points c.list.client ops) (past_of c) new
  begins_next ops op new none lives there begins =
      subst (λ (o : Option Begun). MatchBool (is_some o) (new ≡ past_of c) (Begins (as_role points c.list.client ops) (past_of c) new)) (sym (idle_under_way none lives))
      (record { op = op; next = ap (λ (n : ℕ). slice_get ops n) is.run.begun ∙ there; begins = begins })

  -- Calling

  pub calls_none : (ops : List Op) → c.due ≡ None → CallsOnce (as_role points c.list.client ops) (past_of c) (past_of c)
  calls_none ops none = subst (λ b. MatchBool b (CallsOrLacks (as_role points c.list.client ops) (past_of c) (past_of c)) (past_of c ≡ past_of c)) (sym (works_idle none)) refl

  module _ (call : Call) (due : c.due ≡ Some call) (left : Option Call) (after : Client) (reply : NodeReply) (run : IsOfRun start points after) (client : after.list.client ≡ c.list.client)
      (said : reply ≢ Say.NoMemory → HasAnswer points call.node call.request reply (record c { due = left }) after) (none : reply ≡ Say.NoMemory → past_of after ≡ past_of c) where
    calls_or_lacks : (ops : List Op) (new : List Entry) (goes : GoesByItself c.list.client (past_of after) new) → (has_died points c.list.client (past_of after) ≡ true → goes.own ≡ []) → (reply ≡ Say.NoMemory → goes.own ≢ [])
        → CallsOrLacks (as_role points c.list.client ops) (past_of c) new
    calls_or_lacks ops new goes dead some = elim (entry_or_none reply) [
      | inl is ↦ inr (lacks_by c.list.client (past_of c) new goes.own (some is) (goes.new_is ∙ ap (λ (l : List Entry). goes.own ++ l) (none is)) goes.steps)
      | inr is ↦ calls (said is)
    ]
      where
        calls : HasAnswer points call.node call.request reply (record c { due = left }) after → CallsOrLacks (as_role points c.list.client ops) (past_of c) new
        calls a = inl (record {
          entry = a.entry;
          call = record { node = call.node; request = call.request; reply = reply };
          own = goes.own;
          new_is = goes.new_is ∙ ap (λ (l : List Entry). goes.own ++ l) a.longer;
          by = (subst (λ (l : List Entry). AllByRecursion (λ e. e.client ≡ Some after.list.client) l) a.longer run.own).0 ∙ ap (λ (k : ClientNo). Some k) client;
          is_call = a.answers;
          plain = plain_out c.proxy.work call.node call.request (due_alive start points c call is due).2.out;
          asked = a.stops;
          steps = goes.steps;
          dead = λ d. dead (ap (λ (l : List Entry). has_died points c.list.client l) a.longer ∙ d);
        })

    calls_once : (ops : List Op) (new : List Entry) → CallsOrLacks (as_role points c.list.client ops) (past_of c) new → CallsOnce (as_role points c.list.client ops) (past_of c) new
    calls_once ops new calls = subst (λ b. MatchBool b (CallsOrLacks (as_role points c.list.client ops) (past_of c) new) (new ≡ past_of c)) (sym (works_due call due)) calls

    -- it died by the call
    pub calls_last : has_died points after.list.client (past_of after) ≡ true → (ops : List Op) → CallsOnce (as_role points c.list.client ops) (past_of c) (past_of after)
    calls_last dies ops = calls_once ops (past_of after) (calls_or_lacks ops (past_of after) (by_none c.list.client (past_of after)) (λ d. refl) (λ is. absurd (lived is)))
      where
        lived : reply ≡ Say.NoMemory → ⊥
        lived is = clash died (ap (λ (k : ClientNo). has_died points k (past_of c)) (sym client) ∙ (ap (λ (l : List Entry). has_died points after.list.client l) (sym (none is)) ∙ dies)) (due_lives call due)

    -- it goes on from the reply
    pub calls_on : has_died points after.list.client (past_of after) ≡ false → (new : List Entry) → GoesByItself after.list.client (past_of after) new → (reply ≡ Say.NoMemory → new ≢ past_of after) → (ops : List Op)
        → CallsOnce (as_role points c.list.client ops) (past_of c) new
    calls_on lives new goes some ops = calls_once ops new (calls_or_lacks ops new goes' dead longer')
      where
        goes' : GoesByItself c.list.client (past_of after) new
        goes' = record { own = goes.own; new_is = goes.new_is; steps = subst (λ (k : ClientNo). AreOwn k goes.own) client goes.steps }

        longer' : reply ≡ Say.NoMemory → goes.own ≢ []
        longer' is none' = some is (goes.new_is ∙ ap (λ (l : List Entry). l ++ past_of after) none')

        dead : has_died points c.list.client (past_of after) ≡ true → goes.own ≡ []
        dead d = absurd (clash (has_died points c.list.client (past_of after)) d (ap (λ (k : ClientNo). has_died points k (past_of after)) (sym client) ∙ lives))

-- an operation is begun as the next, with the steps that follow
pub begins_op : (c d : ClientNo) (op copy : Op) (number : ℕ) (es mid new : List Entry) → last_number (begun_of es) ≡ number → copy ≡ op → d ≡ c → mid ≡ own_entry c (Begin (number + 1) copy) ∷ es → GoesByItself d mid new → BeginsOp c op es new
begins_op c d op copy number es mid new last same client is goes = record {
  entry = own_entry c (Begin (number + 1) copy);
  own = goes.own;
  new_is = goes.new_is ∙ ap (λ (l : List Entry). goes.own ++ l) is;
  by = refl;
  begun = ap (λ (n : ℕ). Begin (n + 1) copy) (sym last) ∙ ap (λ (o : Op). Begin (last_number (begun_of es) + 1) o) same;
  steps = subst (λ (k : ClientNo). AreOwn k goes.own) client goes.steps;
}

-- Acts

module _ (a : Role) (does : List Entry → List Entry → Type 0) (es : List Entry) where
  pub works_so : (now new : List Entry) → has_work a es ≡ true → IsUnderWay a es now → does now new → Works a does es new
  works_so now new has under so = subst (λ b. MatchBool b ((mid : List Entry) × IsUnderWay a es mid × does mid new) (new ≡ es)) (sym has) (now, under, so)

  pub works_not : has_work a es ≡ false → Works a does es es
  works_not none = subst (λ b. MatchBool b ((mid : List Entry) × IsUnderWay a es mid × does mid es) (es ≡ es)) (sym none) refl

-- the client of another list has the same number
pub of_same : (P : Role → Type 0) (points : List Point) (c d : ClientNo) (ops : List Op) → c ≡ d → P (as_role points c ops) → P (as_role points d ops)
of_same P points c d ops same so = subst (λ (k : ClientNo). P (as_role points k ops)) same so

pub calls_more : (a : Role) (stop : List Entry → Bool) (es now new : List Entry) → CallsWhile a stop es now → stop now ≡ false → is_at_work a now ≡ true → CallsOnce a now new → CallsWhile a stop es new
calls_more a stop es now new before goes works once =
    CallsWhile.one_more now new before goes (subst (λ b. MatchBool b (CallsOrLacks a now new) (new ≡ now)) works once)

pub plan_goes_on : (a : Role) (now : List Entry) → (not (is_at_work a now) || is_plan_due now) ≡ false → is_at_work a now ≡ true
plan_goes_on a now goes = not_false (is_at_work a now) (or_split (not (is_at_work a now)) (is_plan_due now) goes).0

-- The list of one client: its operations have ascending numbers, and an operation's issues but the
-- last are over.
use Rattle.std.proofs.Common.{◌≡◌, ℕ, suc, ◌+◌, ◌<◌, ◌≤◌, ◌⊎◌, inl, inr, Bool, true, false, List, [], ◌∷◌, ◌++◌, length, Option, Some, None, refl, subst, sym, ap, ◌∙◌, arith, if◌then◌else◌}
use Rattle.std.proofs.lemmas.List.{length-append}
use Rattle.mn_base.specs.Ids.{tid_same}
use Rattle.mn_base.specs.declared.ids.NodeNo.{NodeNo}
use Rattle.mn_base.specs.declared.ids.ClientNo.{ClientNo}
use Rattle.mn_base.specs.declared.ids.Tid.{Tid}
use Rattle.mn_base.specs.declared.op.Op.{Op}
use Rattle.mn_base.specs.declared.answer.Answer.{Answer}
use Rattle.mn_runs.specs.declared.entry.Entry.{Entry}
use Rattle.mn_runs.specs.declared.entry.What.{What}
use Rattle.mn_runs.specs.declared.entry.What.TheVariants.{Begin, Issue, Called, Stopped, Restarted, Abandoned, Answered}
use Rattle.mn_runs.specs.Calls.{Issued, issue_in, issues_of, issue_named, Begun, begun_in, begun_of, under_way, under_way_after, since_begin, is_by, client_entries}
use Rattle.mn_runs.specs.Clients.{last_number, ClientAllows}
use Rattle.mn_runs.specs.Protocol.{Start, FollowsProtocol}
use Rattle.mn_runs.proofs.Same.{tid_same-true, tid_same-refl}
use Rattle.mn_runs.proofs.NewCalls.{by_of}

-- each entry is allowed by the older ones
abbrev pub Allowed : ClientNo → List Entry → Type 0
Allowed c [] = Unit {0}
Allowed c (e ∷ es) = Allowed c es × ClientAllows c es e.node e.what

allowed_here : (past : List Entry) (c : ClientNo) (by : Option ClientNo) (at : Option NodeNo) (what : What) → by ≡ Some c → Rattle.mn_runs.specs.Protocol.AllowedBy past by at what → ClientAllows c (client_entries c past) at what
allowed_here past c by at what is allowed = subst (λ (o : Option ClientNo). Rattle.mn_runs.specs.Protocol.AllowedBy past o at what) is allowed

pub client_allowed : (start : Start) (past : List Entry) (c : ClientNo) → FollowsProtocol start past
    → Allowed c (client_entries c past)
client_allowed start [] c run = tt
client_allowed start (e ∷ past) c run =
    elim (is_by c e) as (λ b. is_by c e ≡ b → Allowed c (if b then e ∷ client_entries c past else client_entries c past)) [
      | true ↦ λ by. (client_allowed start past c run.0, allowed_here past c e.client e.node e.what (by_of c e.client e.node e.what by) run.1.by_client)
      | false ↦ λ _. client_allowed start past c run.0
    ] refl

pub allowed_older : (c : ClientNo) (newer older : List Entry) → Allowed c (newer ++ older)
    → Allowed c older
allowed_older c [] older a = a
allowed_older c (e ∷ newer) older a = allowed_older c newer older a.0

-- Numbers

begun_rises : (at : Option NodeNo) (c : ClientNo) (what : What) (es : List Entry)
    → ClientAllows c es at what
    → last_number (begun_of es) ≤ last_number (begun_in what ++ begun_of es)
begun_rises at c (Begin number op) es a = let is : number ≡ last_number (begun_of es) + 1 = a.1 in omega arith
begun_rises at c (Issue tid mini) es a = omega arith
begun_rises at c (Called request reply) es a = omega arith
begun_rises at c (Stopped request asked) es a = omega arith
begun_rises at c (Restarted kept) es a = omega arith
begun_rises at c (Abandoned tid) es a = omega arith
begun_rises at c (Answered number answer) es a = omega arith

pub numbers_rise : (c : ClientNo) (newer older : List Entry) → Allowed c (newer ++ older)
    → last_number (begun_of older) ≤ last_number (begun_of (newer ++ older))
numbers_rise c [] older a = omega arith
numbers_rise c (e ∷ newer) older a =
    let one : last_number (begun_of older) ≤ last_number (begun_of (newer ++ older)) = numbers_rise c newer older a.0 in
    let two : last_number (begun_of (newer ++ older)) ≤ last_number (begun_in e.what ++ begun_of (newer ++ older)) = begun_rises e.node c e.what (newer ++ older) a.1 in
    omega arith

pub same_begun : (a b : Begun) → Some a ≡ Some b → a ≡ b
same_begun a b e = cc

numbered_step : (at : Option NodeNo) (c : ClientNo) (what : What) (es : List Entry) (b : Begun)
    → ((d : Begun) → under_way es ≡ Some d → d.number ≡ last_number (begun_of es))
    → under_way_after what (under_way es) ≡ Some b
    → b.number ≡ last_number (begun_in what ++ begun_of es)
numbered_step at c (Begin number op) es b older is = sym (ap (λ (x : Begun). x.number) (same_begun (record { number = number; op = op }) b is))
numbered_step at c (Answered number answer) es b older is = absurd (none b is)
  where
    none : (b : Begun) → None ≡ Some b → ⊥
    none b e = cc
numbered_step at c (Issue tid mini) es b older is = older b is
numbered_step at c (Called request reply) es b older is = older b is
numbered_step at c (Stopped request asked) es b older is = older b is
numbered_step at c (Restarted kept) es b older is = older b is
numbered_step at c (Abandoned tid) es b older is = older b is

-- the operation under way has the last number
pub numbered : (c : ClientNo) (es : List Entry) (b : Begun) → under_way es ≡ Some b
    → b.number ≡ last_number (begun_of es)
numbered c [] b is = absurd (none b is)
  where
    none : (b : Begun) → None ≡ Some b → ⊥
    none b e = cc
numbered c (e ∷ es) b is = numbered_step e.node c e.what es b (λ d is'. numbered c es d is') is

-- The operation under way at an older place

-- it is under way still
pub record Still (b : Begun) (newer older : List Entry) : Type 0 where
  pub under_way : under_way (newer ++ older) ≡ Some b
  pub since : since_begin (newer ++ older) ≡ newer ++ since_begin older

-- or it was answered
pub record Ended (b : Begun) (newer older : List Entry) : Type 0 where
  pub newest : List Entry
  pub entry : Entry
  pub between : List Entry
  pub answer : Answer
  pub split : newer ≡ newest ++ entry ∷ between
  pub answers : entry.what ≡ Answered b.number answer
  pub still : Still b between older
  pub next : (d : Begun) → under_way (newer ++ older) ≡ Some d → b.number < d.number

none_begun : (b : Begun) → None ≡ Some b → ⊥
none_begun b e = cc

still_step : (at : Option NodeNo) (by : Option ClientNo) (c : ClientNo) (what : What) (b : Begun) (newer older : List Entry) → ClientAllows c (newer ++ older) at what → Still b newer older
    → Still b (record { node = at; client = by; what = what } ∷ newer) older
    ⊎ Ended b (record { node = at; client = by; what = what } ∷ newer) older
still_step at by c (Begin number op) b newer older a s = absurd (none_begun b (sym a.0 ∙ s.under_way))
still_step at by c (Answered number answer) b newer older a s =
    let same : record { number = number; op = a.0 } ≡ b = same_begun _ b (sym a.1 ∙ s.under_way) in
    inr (record {
      newest = [];
      entry = record { node = at; client = by; what = Answered number answer };
      between = newer;
      answer = answer;
      split = refl;
      answers = ap (λ (x : Begun). Answered x.number answer) same;
      still = s;
      next = λ d is. absurd (none_begun d is);
    })
still_step at by c (Issue tid mini) b newer older a s = inl (record { under_way = s.under_way; since = ap (λ (l : List Entry). record { node = at; client = by; what = Issue tid mini } ∷ l) s.since })
still_step at by c (Called request reply) b newer older a s = inl (record { under_way = s.under_way; since = ap (λ (l : List Entry). record { node = at; client = by; what = Called request reply } ∷ l) s.since })
still_step at by c (Stopped request asked) b newer older a s = inl (record { under_way = s.under_way; since = ap (λ (l : List Entry). record { node = at; client = by; what = Stopped request asked } ∷ l) s.since })
still_step at by c (Restarted kept) b newer older a s = inl (record { under_way = s.under_way; since = ap (λ (l : List Entry). record { node = at; client = by; what = Restarted kept } ∷ l) s.since })
still_step at by c (Abandoned tid) b newer older a s = inl (record { under_way = s.under_way; since = ap (λ (l : List Entry). record { node = at; client = by; what = Abandoned tid } ∷ l) s.since })

next_step : (at : Option NodeNo) (c : ClientNo) (what : What) (n : ℕ) (es : List Entry)
    → ClientAllows c es at what → n ≤ last_number (begun_of es)
    → ((d : Begun) → under_way es ≡ Some d → n < d.number)
    → (d : Begun) → under_way_after what (under_way es) ≡ Some d → n < d.number
next_step at c (Begin number op) n es a low older d is =
    let same : number ≡ d.number = ap (λ (x : Begun). x.number) (same_begun (record { number = number; op = op }) d is) in
    let next : number ≡ last_number (begun_of es) + 1 = a.1 in omega arith
next_step at c (Answered number answer) n es a low older d is = absurd (none_begun d is)
next_step at c (Issue tid mini) n es a low older d is = older d is
next_step at c (Called request reply) n es a low older d is = older d is
next_step at c (Stopped request asked) n es a low older d is = older d is
next_step at c (Restarted kept) n es a low older d is = older d is
next_step at c (Abandoned tid) n es a low older d is = older d is

pub since_op : (c : ClientNo) (b : Begun) (newer older : List Entry) → Allowed c (newer ++ older)
    → under_way older ≡ Some b → Still b newer older ⊎ Ended b newer older
since_op c b [] older a is = inl (record { under_way = is; since = refl })
since_op c b (e ∷ newer) older a is = by (since_op c b newer older a.0 is)
  where
    by : Still b newer older ⊎ Ended b newer older
        → Still b (e ∷ newer) older ⊎ Ended b (e ∷ newer) older
    by (inl s) = still_step e.node e.client c e.what b newer older a.1 s
    by (inr o) =
        let own : b.number ≡ last_number (begun_of older) = numbered c older b is in
        let rise : last_number (begun_of older) ≤ last_number (begun_of (newer ++ older)) = numbers_rise c newer older a.0 in
        inr (record {
          newest = e ∷ o.newest;
          entry = o.entry;
          between = o.between;
          answer = o.answer;
          split = ap (λ (l : List Entry). e ∷ l) o.split;
          answers = o.answers;
          still = o.still;
          next = next_step e.node c e.what b.number (newer ++ older) a.1 (omega arith) o.next;
        })

-- where the number is the same, so is the operation
pub same_op : (c : ClientNo) (b d : Begun) (newer older : List Entry) → Allowed c (newer ++ older)
    → under_way older ≡ Some b → under_way (newer ++ older) ≡ Some d → b.number ≡ d.number
    → Still b newer older
same_op c b d newer older a is now same = by (since_op c b newer older a is)
  where
    by : Still b newer older ⊎ Ended b newer older → Still b newer older
    by (inl s) = s
    by (inr o) = let less : b.number < d.number = o.next d now in absurd (omega arith)

-- behind an answer the operations have higher numbers
pub behind_answer : (c : ClientNo) (newer : List Entry) (e : Entry) (older : List Entry) (number : ℕ) (answer : Answer) (d : Begun) → Allowed c (newer ++ e ∷ older) → e.what ≡ Answered number answer → under_way (newer ++ e ∷ older) ≡ Some d → number < d.number
behind_answer c [] e older number answer d a what is = absurd (none_begun d (sym (ap (λ (w : What). under_way_after w (under_way older)) what) ∙ is))
behind_answer c (x ∷ newer) e older number answer d a what is =
    next_step x.node c x.what number (newer ++ e ∷ older) a.1 low (λ f now. behind_answer c newer e older number answer f a.0 what now) d is
  where
    answered : ClientAllows c older e.node (Answered number answer)
    answered = subst (λ (w : What). ClientAllows c older e.node w) what (allowed_older c newer (e ∷ older) a.0).1

    low : number ≤ last_number (begun_of (newer ++ e ∷ older))
    low =
        let own : number ≡ last_number (begun_of older) = numbered c older (record { number = number; op = answered.0 }) answered.1 in
        let one : last_number (begun_of older) ≤ last_number (begun_of (e ∷ older)) = numbers_rise c (e ∷ []) older (allowed_older c newer (e ∷ older) a.0) in
        let two : last_number (begun_of (e ∷ older)) ≤ last_number (begun_of (newer ++ e ∷ older)) = numbers_rise c newer (e ∷ older) a.0 in
        omega arith

-- a Begin has a higher number than what was under way before it
pub begin_higher : (c : ClientNo) (newer : List Entry) (older : List Entry) (at : Option NodeNo) (number : ℕ) (op : Op) (b : Begun) → Allowed c (newer ++ older) → under_way older ≡ Some b → ClientAllows c (newer ++ older) at (Begin number op) → b.number < number
begin_higher c newer older at number op b a is begins =
    let own : b.number ≡ last_number (begun_of older) = numbered c older b is in
    let rise : last_number (begun_of older) ≤ last_number (begun_of (newer ++ older)) = numbers_rise c newer older a in
    let next : number ≡ last_number (begun_of (newer ++ older)) + 1 = begins.1 in omega arith

-- Issues

issue_serial : (at : Option NodeNo) (c : ClientNo) (what : What) (es : List Entry) (j : Issued)
    → ClientAllows c es at what → issue_in what ≡ j ∷ [] → j.tid.serial ≡ length (issues_of es) + 1
issue_serial at c (Issue tid mini) es j a is =
    let same : record { tid = tid; mini = mini } ≡ j = head _ j is in ap (λ (i : Issued). i.tid.serial) (sym same) ∙ a.serial
  where
    head : (a b : Issued) → a ∷ [] ≡ b ∷ [] → a ≡ b
    head a b e = cc
issue_serial at c (Begin number op) es j a is = absurd cc
issue_serial at c (Answered number answer) es j a is = absurd cc
issue_serial at c (Called request reply) es j a is = absurd cc
issue_serial at c (Stopped request asked) es j a is = absurd cc
issue_serial at c (Restarted kept) es j a is = absurd cc
issue_serial at c (Abandoned tid) es j a is = absurd cc

pub serial_of : (c : ClientNo) (x : Entry) (es : List Entry) (j : Issued) → Allowed c (x ∷ es)
    → issue_in x.what ≡ j ∷ [] → j.tid.serial ≡ length (issues_of es) + 1
serial_of c x es j a is = issue_serial x.node c x.what es j a.1 is

pub issues_grow : (newer older : List Entry)
    → length (issues_of older) ≤ length (issues_of (newer ++ older))
issues_grow [] older = omega arith
issues_grow (e ∷ newer) older =
    let one = issues_grow newer older in
    let parts = length-append (issue_in e.what) (issues_of (newer ++ older)) in omega arith

-- an issue is found by its id in any list that ends in it and what stands below
newer_step : (at : Option NodeNo) (c : ClientNo) (what : What) (es : List Entry) (i : Issued) (rest : List Issued) → ClientAllows c es at what → i.tid.serial ≤ length (issues_of es) → issue_named i.tid rest ≡ Some i.mini → issue_named i.tid (issue_in what ++ rest) ≡ Some i.mini
newer_step at c (Issue tid mini) es i rest a low is =
    elim (tid_same tid i.tid) as (λ b. tid_same tid i.tid ≡ b → (if b then Some mini else issue_named i.tid rest) ≡ Some i.mini) [
      | true ↦ λ same.
          let equal : tid.serial ≡ i.tid.serial = ap (λ (t : Tid). t.serial) (tid_same-true tid i.tid same) in
          let high : tid.serial ≡ length (issues_of es) + 1 = a.serial in absurd (omega (arith, equal, high, low))
      | false ↦ λ _. is
    ] refl
newer_step at c (Begin number op) es i rest a low is = is
newer_step at c (Answered number answer) es i rest a low is = is
newer_step at c (Called request reply) es i rest a low is = is
newer_step at c (Stopped request asked) es i rest a low is = is
newer_step at c (Restarted kept) es i rest a low is = is
newer_step at c (Abandoned tid) es i rest a low is = is

pub named_below : (c : ClientNo) (newer : List Entry) (x : Entry) (older below : List Entry) (i : Issued) → Allowed c (newer ++ x ∷ older) → issue_in x.what ≡ i ∷ [] → issue_named i.tid (issues_of (newer ++ x ∷ below)) ≡ Some i.mini
named_below c [] x older below i a is =
    ap (λ (js : List Issued). issue_named i.tid (js ++ issues_of below)) is ∙ ap (λ (b : Bool). if b then Some i.mini else issue_named i.tid (issues_of below)) (tid_same-refl i.tid)
named_below c (e ∷ newer) x older below i a is = newer_step e.node c e.what (newer ++ x ∷ older) i (issues_of (newer ++ x ∷ below)) a.1 low (named_below c newer x older below i a.0 is)
  where
    low : i.tid.serial ≤ length (issues_of (newer ++ x ∷ older))
    low =
        let own : i.tid.serial ≡ length (issues_of older) + 1 = serial_of c x older i (allowed_older c newer (x ∷ older) a.0) is in
        let one : length (issues_of (x ∷ older)) ≡ suc (length (issues_of older)) = ap (λ (js : List Issued). length (js ++ issues_of older)) is in
        let grow = issues_grow newer (x ∷ older) in
        omega arith

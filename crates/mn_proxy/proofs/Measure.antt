-- The steps that are left fall with each step, and no reply raises them.
use Rattle.std.proofs.Common.{◌≡◌, ℕ, suc, ◌+◌, ◌-◌, ◌*◌, ◌<◌, ◌≤◌, Bool, true, false, List, [], ◌∷◌, Option, Some, None, Result, Ok, Err, length, arith, refl, sym, subst, ap, ◌∙◌, if◌then◌else◌, not, ◌&&◌}
use Rattle.std.specs.Prelude.{filter, IfOk, nat_lt, nat_eq}
use Rattle.std.proofs.lemmas.Bool.{ltb-true}
use Rattle.std.proofs.lemmas.List.FromFn.{length-map-range_with_len}
use Rattle.mn_coord.specs.Coordination.{Coordination, after_reply, after_step, fed, fed_at, is_stopped_at_last, new_coordination, stage_in, stage_of, stage_refused, step_at, step_of}
use Rattle.mn_coord.specs.declared.stage.Stage.{Stage}
use Rattle.mn_coord.specs.declared.stage.Stage.TheVariants as At
use Rattle.mn_coord.specs.declared.step.CoordStep.TheVariants.{Send, Abandon}
use Rattle.mn_coord.proofs.Stages.{asking}
use Rattle.mn_mini.specs.Mini.{Mini, is_named, participants_of}
use Rattle.mn_mini.specs.declared.request.Request.{Request}
use Rattle.mn_mini.specs.declared.reply.NodeReply.TheVariants as Say
use Rattle.mn_base.specs.Ids.{node_numbers}
use Rattle.mn_base.specs.declared.ids.NodeNo.{NodeNo}
use Rattle.mn_proxy.specs.declared.proxy.TheConstants.{PEEKS}
use Rattle.mn_mini.specs.declared.reply.NodeReply.{NodeReply}
use Rattle.mn_proxy.specs.Measure.{Falls, GoesBelow, left_after, left_at, left_for, left_in, steps_left, left_by, left_of}
use Rattle.mn_base.specs.declared.ids.Tid.{Tid}
use Rattle.mn_proxy.specs.declared.errand.Errand.{Errand}
use Rattle.mn_proxy.specs.declared.errand.Errand.TheVariants as out
use Rattle.mn_proxy.specs.Turn.{Turn}
use Rattle.mn_proxy.specs.Turn as turns
use Rattle.mn_proxy.specs.declared.step.ProxyStep.{ProxyStep}
use Rattle.mn_proxy.specs.declared.step.ProxyStep.TheVariants as steps
use Rattle.mn_work.specs.declared.work.Work.{Work}
use Rattle.mn_proxy.specs.State.{IsOutIn, ProxyState}
use Rattle.mn_proxy.specs.Turns.{IsFed, IsOutFor, with_known, with_work}

-- Serials and Peeks

-- a Peek is one fewer
pub peek_falls : (issued peeks : ℕ) → 1 ≤ peeks → left_by issued (peeks - 1) < left_by issued peeks
unfolding left_by
peek_falls issued peeks some = falls ((4294967295 - issued) * 4114) peeks some
  where
    falls : (n k : ℕ) → 1 ≤ k → n + (k - 1) < n + k
    falls n k some = omega arith

-- a serial is worth what comes up to the next one
serial_falls : (m w i k p l : ℕ) → i < m → k + l < w → (m - (i + 1)) * w + k + l < (m - i) * w + p
serial_falls m w i k p l below few = subst (λ n. (m - (i + 1)) * w + k + l < n * w + p) (sym one) more
  where
    one : m - i ≡ suc (m - (i + 1))
    one = omega arith

    grown : (n : ℕ) → suc n * w ≡ n * w + w
    grown n = omega arith

    more : (m - (i + 1)) * w + k + l < suc (m - (i + 1)) * w + p
    more = omega (arith, grown (m - (i + 1)))

-- Stages of a minitransaction

module _ (n done : ℕ) (told : Bool) (decided : ℕ) where
  -- where the next is told yes, all were done, and some are to be told
  committing : (refused : Option NodeReply) → stage_of n done refused told decided ≡ At.Commit
      → (refused ≡ None) × (nat_lt done n ≡ false) × (decided < n)
  committing None e = let told = by (nat_lt done n) (nat_lt 1 n) (nat_lt decided n) refl refl e in (refl, told.0, told.1)
    where
      by : (a b c : Bool) → nat_lt done n ≡ a → nat_lt decided n ≡ c
          → (if a then At.Ask else (if b && c then At.Commit else At.Committed)) ≡ At.Commit
          → (nat_lt done n ≡ false) × (decided < n)
      by true b c f g e = absurd cc
      by false true true f g e = (f, ltb-true decided n g)
      by false true false f g e = absurd cc
      by false false c f g e = absurd cc
  committing (Some reply) e = absurd (by (is_stopped_at_last n done reply) (nat_eq n 1) (not told) (nat_lt decided done) e)
    where
      by : (a b c d : Bool) → (if a then At.Doubt else (if b then At.Failed else (if c then At.Abandon else (if d then At.Cancel else At.Failed)))) ≡ At.Commit → ⊥
      by true b c d f = absurd cc
      by false true c d f = absurd cc
      by false false true d f = absurd cc
      by false false false true f = absurd cc
      by false false false false f = absurd cc

  -- where one is told no, another refused, that was told, and some are to be told
  cancelling : (refused : Option NodeReply) → stage_of n done refused told decided ≡ At.Cancel
      → (reply : NodeReply) × (refused ≡ Some reply) × (told ≡ true) × (decided < done)
  cancelling None e = absurd (by (nat_lt done n) (nat_lt 1 n && nat_lt decided n) e)
    where
      by : (a b : Bool) → (if a then At.Ask else (if b then At.Commit else At.Committed)) ≡ At.Cancel → ⊥
      by true b f = absurd cc
      by false true f = absurd cc
      by false false f = absurd cc
  cancelling (Some reply) e =
      let was = by (is_stopped_at_last n done reply) (nat_eq n 1) told (nat_lt decided done) refl refl e in (reply, refl, was.0, was.1)
    where
      by : (a b c d : Bool) → told ≡ c → nat_lt decided done ≡ d
          → (if a then At.Doubt else (if b then At.Failed else (if not c then At.Abandon else (if d then At.Cancel else At.Failed)))) ≡ At.Cancel
          → (told ≡ true) × (decided < done)
      by true b c d f g e = absurd cc
      by false true c d f g e = absurd cc
      by false false false d f g e = absurd cc
      by false false true true f g e = (f, ltb-true decided done g)
      by false false true false f g e = absurd cc

-- A step of a minitransaction

one : (n k : ℕ) → k < n → n - k - 1 < n - k
one n k less = omega arith

-- a request that is handed out is one fewer
pub send_falls : (c d : Coordination) (node : NodeNo) (request : Request) → c.asked ≡ false
    → step_of c ≡ Send node request → d ≡ after_step c (Send node request) → left_of d < left_of c
send_falls c d node request quiet step is =
    subst (λ (x : Coordination). left_of x < left_of c) (sym is)
    (subst (λ (b : Bool). left_at n c.done c.decided true (stage_in c) < left_at n c.done c.decided b (stage_in c)) (sym quiet) (by (stage_in c) refl step))
  where
    n : ℕ
    n = length (participants_of c.mini)

    by : (s : Stage) → stage_in c ≡ s → step_at c s ≡ Send node request
        → left_at n c.done c.decided true s < left_at n c.done c.decided false s
    by At.Ask at e = ask (n - c.done) n
      where
        ask : (a m : ℕ) → a + (m + 1) - 1 < a + (m + 1)
        ask a m = omega arith
    by At.Commit at e = one n c.decided (committing n c.done c.told c.decided c.refused at).2
    by At.Abandon at e = absurd cc
    by At.Cancel at e = one c.done c.decided (cancelling n c.done c.told c.decided c.refused at).3
    by At.Committed at e = absurd cc
    by At.Failed at e = absurd cc
    by At.Doubt at e = absurd cc

-- once it is given up only those that are done are told
pub abandon_falls : (c d : Coordination) → step_of c ≡ Abandon → d ≡ after_step c Abandon
    → left_of d < left_of c
abandon_falls c d step is =
    subst (λ (x : Coordination). left_of x < left_of c) (sym is) (by (stage_in c) refl step)
  where
    n : ℕ
    n = length (participants_of c.mini)

    by : (s : Stage) → stage_in c ≡ s → step_at c s ≡ Abandon
        → left_of (after_step c Abandon) < left_at n c.done c.decided c.asked s
    by At.Ask at e = absurd cc
    by At.Commit at e = absurd cc
    by At.Abandon at e = told c.refused at
      where
        told : (refused : Option NodeReply) → stage_of n c.done refused c.told c.decided ≡ At.Abandon
            → left_at n c.done c.decided c.asked (stage_of n c.done refused true c.decided) < c.done + 1
        told None f = absurd (none (nat_lt c.done n) (nat_lt 1 n && nat_lt c.decided n) f)
          where
            none : (a b : Bool) → (if a then At.Ask else (if b then At.Commit else At.Committed)) ≡ At.Abandon → ⊥
            none true b f = absurd cc
            none false true f = absurd cc
            none false false f = absurd cc
        told (Some reply) f = some (is_stopped_at_last n c.done reply) (nat_eq n 1) (nat_lt c.decided c.done) c.asked
          where
            some : (a b d asked : Bool) → left_at n c.done c.decided asked (if a then At.Doubt else (if b then At.Failed else (if d then At.Cancel else At.Failed))) < c.done + 1
            some true b d asked = omega arith
            some false true d asked = omega arith
            some false false true true = omega arith
            some false false true false = omega arith
            some false false false asked = omega arith
    by At.Cancel at e = absurd cc
    by At.Committed at e = absurd cc
    by At.Failed at e = absurd cc
    by At.Doubt at e = absurd cc

-- Replies

module _ (n done decided : ℕ) where
  -- a participant was done
  done_falls : (told : Bool) (refused : Option NodeReply) → (refused ≡ None) × (done < n)
      → left_at n (done + 1) decided false (stage_of n (done + 1) refused told decided) ≤ n - done + (n + 1) - 1
  done_falls told refused (none, more) =
      subst (λ (r : Option NodeReply). left_at n (done + 1) decided false (stage_of n (done + 1) r told decided) ≤ n - done + (n + 1) - 1)
      (sym none) (by (nat_lt (done + 1) n) (nat_lt 1 n && nat_lt decided n))
    where
      by : (a b : Bool) → left_at n (done + 1) decided false (if a then At.Ask else (if b then At.Commit else At.Committed)) ≤ n - done + (n + 1) - 1
      by true b = omega arith
      by false true = omega arith
      by false false = omega arith

  -- it refused
  refused_falls : (told : Bool) (reply : NodeReply) → done < n
      → left_at n done decided false (stage_refused n done reply told decided) ≤ n - done + (n + 1) - 1
  refused_falls told reply more = by (is_stopped_at_last n done reply) (nat_eq n 1) (not told) (nat_lt decided done)
    where
      by : (a b c d : Bool) → left_at n done decided false (if a then At.Doubt else (if b then At.Failed else (if c then At.Abandon else (if d then At.Cancel else At.Failed)))) ≤ n - done + (n + 1) - 1
      by true b c d = omega arith
      by false true c d = omega arith
      by false false true d = omega arith
      by false false false true = omega arith
      by false false false false = omega arith

  -- one was told yes
  commit_falls : (told : Bool) (refused : Option NodeReply)
      → (refused ≡ None) × (nat_lt done n ≡ false) × (decided < n)
      → left_at n done (decided + 1) false (stage_of n done refused told (decided + 1)) ≤ n - decided - 1
  commit_falls told refused (none, all, more) =
      subst (λ (r : Option NodeReply). left_at n done (decided + 1) false (stage_of n done r told (decided + 1)) ≤ n - decided - 1) (sym none)
      (subst (λ (a : Bool). left_at n done (decided + 1) false (if a then At.Ask else (if nat_lt 1 n && nat_lt (decided + 1) n then At.Commit else At.Committed)) ≤ n - decided - 1) (sym all)
      (by (nat_lt 1 n && nat_lt (decided + 1) n)))
    where
      by : (b : Bool) → left_at n done (decided + 1) false (if b then At.Commit else At.Committed) ≤ n - decided - 1
      by true = omega arith
      by false = omega arith

  -- one was told no
  cancel_falls : (told : Bool) (refused : Option NodeReply)
      → (reply : NodeReply) × (refused ≡ Some reply) × (told ≡ true) × (decided < done)
      → left_at n done (decided + 1) false (stage_of n done refused told (decided + 1)) ≤ done - decided - 1
  cancel_falls told refused (reply, some, was, more) =
      subst (λ (r : Option NodeReply). left_at n done (decided + 1) false (stage_of n done r told (decided + 1)) ≤ done - decided - 1) (sym some)
      (subst (λ (t : Bool). left_at n done (decided + 1) false (stage_refused n done reply t (decided + 1)) ≤ done - decided - 1) (sym was)
      (by (is_stopped_at_last n done reply) (nat_eq n 1) (nat_lt (decided + 1) done)))
    where
      by : (a b d : Bool) → left_at n done (decided + 1) false (if a then At.Doubt else (if b then At.Failed else (if d then At.Cancel else At.Failed))) ≤ done - decided - 1
      by true b d = omega arith
      by false true d = omega arith
      by false false true = omega arith
      by false false false = omega arith

-- a reply raises nothing
pub fed_falls : (c : Coordination) (reply : NodeReply) → c.asked ≡ true → left_of (fed c reply) ≤ left_of c
fed_falls c reply asked =
    subst (λ (b : Bool). left_of (fed c reply) ≤ left_at n c.done c.decided b (stage_in c)) (sym asked)
    (by (stage_in c) refl)
  where
    n : ℕ
    n = length (participants_of c.mini)

    asks : (r : NodeReply) → (c.refused ≡ None) × (c.done < n)
        → left_of (after_reply c r) ≤ n - c.done + (n + 1) - 1
    asks (Say.Done reads) facts = done_falls n c.done c.decided c.told c.refused facts
    asks r facts = refused_falls n c.done c.decided c.told r facts.1

    by : (s : Stage) → stage_in c ≡ s → left_of (fed_at c s reply) ≤ left_at n c.done c.decided true s
    by At.Ask at = asks reply (asking n c.done c.refused c.told c.decided at)
    by At.Commit at = commit_falls n c.done c.decided c.told c.refused (committing n c.done c.told c.decided c.refused at)
    by At.Abandon at =
        subst (λ (s : Stage). left_at n c.done c.decided false s ≤ c.done + 1) (sym at) (omega arith)
    by At.Cancel at = cancel_falls n c.done c.decided c.told c.refused (cancelling n c.done c.told c.decided c.refused at)
    by At.Committed at = subst (λ (s : Stage). left_at n c.done c.decided false s ≤ 0) (sym at) (omega arith)
    by At.Failed at = subst (λ (s : Stage). left_at n c.done c.decided false s ≤ 0) (sym at) (omega arith)
    by At.Doubt at = subst (λ (s : Stage). left_at n c.done c.decided false s ≤ 0) (sym at) (omega arith)

-- Issues

few_named : (p : NodeNo → Bool) (nodes : List NodeNo) → length (filter p nodes) ≤ length nodes
few_named p [] = omega arith
few_named p (n ∷ ns) = by (p n) (few_named p ns)
  where
    by : (b : Bool) → length (filter p ns) ≤ length ns → length (if b then n ∷ filter p ns else filter p ns) ≤ length (n ∷ ns)
    by true few = omega arith
    by false few = omega arith

few_participants : (mini : Mini) → mini.nodes ≤ 8 → length (participants_of mini) ≤ 8
few_participants mini few = omega (arith, few_named (is_named mini.items) (node_numbers mini.nodes), numbers mini.nodes)
  where
    numbers : (nodes : ℕ) → length (node_numbers nodes) ≡ nodes
    numbers nodes = length-map-range_with_len (λ (k : ℕ). record { 0 = k }) 0 nodes

-- a new minitransaction has but so many steps
new_few : (n : ℕ) (s : Stage) → n ≤ 8 → left_at n 0 0 false s ≤ 17
new_few n At.Ask few = omega arith
new_few n At.Commit few = omega arith
new_few n At.Abandon few = omega arith
new_few n At.Cancel few = omega arith
new_few n At.Committed few = omega arith
new_few n At.Failed few = omega arith
new_few n At.Doubt few = omega arith

pub issue_falls : (issued peeks : ℕ) (c : Coordination) → issued < 4294967295 → c.mini.nodes ≤ 8
    → c.done ≡ 0 → c.decided ≡ 0 → c.asked ≡ false
    → left_by (issued + 1) PEEKS + left_of c < left_by issued peeks
unfolding left_by
issue_falls issued peeks c more few done decided quiet =
    serial_falls 4294967295 4114 issued PEEKS peeks (left_of c) more (omega (arith, at_most))
  where
    at_most : left_of c ≤ 17
    at_most =
        subst (λ (k : ℕ). left_at (length (participants_of c.mini)) k c.decided c.asked (stage_in c) ≤ 17) (sym done)
        (subst (λ (k : ℕ). left_at (length (participants_of c.mini)) 0 k c.asked (stage_in c) ≤ 17) (sym decided)
        (subst (λ (b : Bool). left_at (length (participants_of c.mini)) 0 0 b (stage_in c) ≤ 17) (sym quiet)
        (new_few (length (participants_of c.mini)) (stage_in c) (few_participants c.mini few))))

-- so it goes on with fewer steps, under the proxy's own names
pub issue_goes : (p q : ProxyState) (mini copy : Mini) (tid : Tid)
    (c : Coordination) → q ≡ p → q.issued < 4294967295 → q.known.nodes ≤ 8
    → mini.nodes ≡ p.known.nodes → copy ≡ mini → c ≡ new_coordination tid copy
    → left_by (q.issued + 1) PEEKS + left_of c < left_after p
issue_goes p q mini copy tid c same more few nodes copied new =
    subst (λ (x : ProxyState). left_by (q.issued + 1) PEEKS + left_of c < left_after x) same
    (issue_falls q.issued q.peeks c more nodes_few (ap (λ (x : Coordination). x.done) new)
    (ap (λ (x : Coordination). x.decided) new) (ap (λ (x : Coordination). x.asked) new))
  where
    nodes_are : c.mini.nodes ≡ q.known.nodes
    nodes_are = ap (λ (x : Coordination). x.mini.nodes) new ∙ (ap (λ (m : Mini). m.nodes) copied ∙ (nodes ∙ ap (λ (x : ProxyState). x.known.nodes) (sym same)))

    nodes_few : c.mini.nodes ≤ 8
    nodes_few = subst (λ (k : ℕ). k ≤ 8) (sym nodes_are) few

-- Turns

-- a turn that goes on below a number does so below a greater one
pub goes_within : (a b : ℕ) (p : ProxyState) (turn : Turn) → a ≤ b → GoesBelow a p turn → GoesBelow b p turn
goes_within a b p (turns.Goes step w errand) more goes = omega arith
goes_within a b p (turns.Ends answer) more goes = tt
goes_within a b p turns.Stops more goes = absurd goes

pub within_ok : {E : Type 0} (a b : ℕ) (p : ProxyState) (r : Result Turn E) → a ≤ b
    → IfOk r (GoesBelow a p) → IfOk r (GoesBelow b p)
within_ok a b p (Ok turn) more goes = goes_within a b p turn more goes
within_ok a b p (Err e) more goes = tt

-- a Peek is one fewer, under the proxy's own names
pub peek_goes : (p q : ProxyState) → q ≡ p → 1 ≤ p.peeks
    → left_by q.issued (q.peeks - 1) + 0 < left_after p
peek_goes p q same some =
    subst (λ (x : ProxyState). left_by q.issued (q.peeks - 1) + 0 < left_after x) same
    (falls (peek_falls q.issued q.peeks (subst (λ (x : ProxyState). 1 ≤ x.peeks) (sym same) some)))
  where
    falls : left_by q.issued (q.peeks - 1) < left_by q.issued q.peeks
        → left_by q.issued (q.peeks - 1) + 0 < left_by q.issued q.peeks
    falls less = omega arith

-- a turn of another state with as many steps left
pub same_goes : {E : Type 0} (p q after : ProxyState) (r : Result Turn E) → q ≡ p
    → IfOk r (GoesBelow (left_after q) after) → IfOk r (GoesBelow (left_after p) after)
same_goes p q after r same goes = subst (λ (x : ProxyState). IfOk r (GoesBelow (left_after x) after)) same goes

pub known_goes : {E : Type 0} (p q after : ProxyState) (r : Result Turn E) → q ≡ with_known p q.known
    → IfOk r (GoesBelow (left_after q) after) → IfOk r (GoesBelow (left_after p) after)
known_goes p q after r same goes = subst (λ (n : ℕ). IfOk r (GoesBelow n after)) (ap left_after same) goes

-- the turn of what is on its way has its steps besides
pub errand_goes : {E : Type 0} (p after : ProxyState) (w : Work) (errand : Errand) (r : Result Turn E)
    → IfOk r (GoesBelow (left_after p) after)
    → IfOk r (GoesBelow (steps_left (with_work p w errand)) after)
errand_goes p after w errand r goes =
    within_ok (left_after p) (steps_left (with_work p w errand)) after r (more (left_after p) (left_for errand)) goes
  where
    more : (a b : ℕ) → a ≤ a + b
    more a b = omega arith

pub mini_goes : {E : Type 0} (p after : ProxyState) (c : Coordination) (r : Result Turn E)
    → IfOk r (GoesBelow (left_after p) after) → IfOk r (GoesBelow (left_after p + left_of c) after)
mini_goes p after c r goes = within_ok (left_after p) (left_after p + left_of c) after r (more (left_after p) (left_of c)) goes
  where
    more : (a b : ℕ) → a ≤ a + b
    more a b = omega arith

pub coordinates_below : (p : ProxyState) (c d : Coordination) → left_of d < left_of c
    → left_after p + left_of d < left_after p + left_of c
coordinates_below p c d less = more (left_after p) (left_of d) (left_of c) less
  where
    more : (a x y : ℕ) → x < y → a + x < a + y
    more a x y less = omega arith

-- The whole

-- the step that it makes lowers the steps that are left
pub goes_falls : (p after : ProxyState) (w v : Work) (errand out_now : Errand) (step : ProxyStep) (turn : Turn)
    → p.work ≡ Some (w, errand) → turn ≡ turns.Goes step v out_now
    → GoesBelow (steps_left (with_work p w errand)) after turn
    → Falls p (with_work after v out_now) step
goes_falls p after w v errand out_now step turn under is goes = falls step
  where
    below : left_after after + left_for out_now < left_after p + left_for errand
    below = subst (GoesBelow (steps_left (with_work p w errand)) after) is goes

    less : left_after after + left_for out_now < left_after p + left_in p.work
    less = subst (λ (o : Option (Work × Errand)). left_after after + left_for out_now < left_after p + left_in o) (sym under) below

    falls : (s : ProxyStep) → Falls p (with_work after v out_now) s
    falls (steps.Issue tid mini) = less
    falls (steps.Abandon tid) = less
    falls (steps.Call node request) = less
    falls (steps.Done answer) = tt

-- a reply raises nothing of what is on its way
pub reply_falls : (errand after : Errand) (reply : NodeReply) → IsOutFor errand
    → IsFed errand reply after → left_for after ≤ left_for errand
reply_falls out.Nothing after reply is fed = absurd is
reply_falls (out.Peek place purpose) after reply is fed = subst (λ (e : Errand). left_for e ≤ 0) (sym fed) (omega arith)
reply_falls (out.Peeked place r purpose) after reply is fed = absurd is
reply_falls (out.Mini tid c purpose) after reply is (d, same, takes) =
    subst (λ (e : Errand). left_for e ≤ left_of c) (sym same)
    (subst (λ (x : Coordination). left_of x ≤ left_of c) (sym takes.fed_is) (fed_falls c reply is))

out_for : (w : Work) (errand : Errand) → IsOutIn (Some (w, errand)) → IsOutFor errand
out_for w out.Nothing is = is
out_for w (out.Peek place purpose) is = tt
out_for w (out.Peeked place r purpose) is = is
out_for w (out.Mini tid c purpose) is = is

pub feed_falls : (p : ProxyState) (w : Work) (errand after : Errand) (reply : NodeReply)
    → p.work ≡ Some (w, errand) → IsOutIn p.work → IsFed errand reply after
    → steps_left (with_work p w after) ≤ steps_left p
feed_falls p w errand after reply under is fed =
    subst (λ (o : Option (Work × Errand)). left_after p + left_for after ≤ left_after p + left_in o) (sym under)
    (more (left_after p) (left_for after) (left_for errand)
    (reply_falls errand after reply (out_for w errand (subst IsOutIn under is)) fed))
  where
    more : (a x y : ℕ) → x ≤ y → a + x ≤ a + y
    more a x y less = omega arith

-- That the steps, the calls and the operations of a client come to an end.
use Rattle.std.proofs.Common.{◌≡◌, ℕ, ◌+◌, ◌-◌, ◌≤◌, ◌<◌, Bool, true, false, Option, Some, None, is_some, Result, Ok, Err, refl, sym, subst, arith}
use Rattle.std.specs.Prelude.{MatchOption, OnOk}
use Rattle.mn_proxy.specs.Measure.{steps_left}
use Rattle.mn_proxy.specs.State.{ProxyState}
use Rattle.mn_callers.specs.declared.client.Call.{Call}
use Rattle.mn_callers.specs.declared.client.Client.{Client}
use Rattle.mn_callers.specs.Going.{BeginsIfIdle, is_planned, left_where, ops_left, work_left, works_on}

none_left : (o : Option Call) (steps n : ℕ) → o ≡ None → left_where o steps ≤ n
none_left o steps n none = subst (λ (o : Option Call). left_where o steps ≤ n) (sym none) (omega arith)

-- Steps

-- a step was made, and the proxy is to be asked again
pub fewer_on : (old new : Client) (n : ℕ) → new.proxy ≡ old.proxy → steps_left old.proxy < n → steps_left new.proxy < n
fewer_on old new n same less = subst (λ (p : ProxyState). steps_left p < n) (sym same) less

-- a call is due
pub fewer_due : (steps n : ℕ) → steps < n → steps + 1 ≤ n
fewer_due steps n less = omega (arith, less)

-- the operation is answered, or the client has died
pub none_rests : (c : Client) (n : ℕ) → c.due ≡ None → work_left c ≤ n
none_rests c n none = none_left c.due (steps_left c.proxy) n none

pub still_fewer : (a b n : ℕ) → b ≤ n → a < b → a ≤ n
still_fewer a b n below less = omega (arith, below, less)

pub no_more : (a b n : ℕ) → a ≤ b → b ≤ n → a ≤ n
no_more a b n one two = omega (arith, one, two)

-- Calls

due_falls : (o : Option Call) (left steps : ℕ) → is_some o ≡ true → left ≤ steps → left < left_where o steps
due_falls None left steps due less = absurd cc
due_falls (Some call) left steps due less = omega (arith, less)

-- the call that was due was made
pub call_falls : (old new : Client) → work_left new ≤ steps_left old.proxy → is_some old.due ≡ true → work_left new < work_left old
call_falls old new less due = due_falls old.due (work_left new) (steps_left old.proxy) due less

pub unplanned : (o : Option Call) (plan : Bool) → is_planned o plan ≡ false → is_some o ≡ true
unplanned None plan is = absurd cc
unplanned (Some call) plan is = refl

-- Operations

one_less : (n begun now : ℕ) → begun < n → now ≡ begun + 1 → n - now + 0 < n - begun + 0
one_less n begun now less is = omega (arith, less, is)

over_less : (n begun now : ℕ) → now ≡ begun → n - now + 0 < n - begun + 1
over_less n begun now is = omega (arith, is)

begun_falls : (o : Option Call) (n begun now : ℕ) → (o ≡ None → begun < n) → MatchOption o (now ≡ begun + 1) (λ call. now ≡ begun) → n - now + 0 < n - begun + works_on o
begun_falls None n begun now left is = one_less n begun now (left refl) is
begun_falls (Some call) n begun now left is = over_less n begun now is

-- an operation was under way or begun, and is over
pub op_falls : (n : ℕ) (old mid new : Client) → (old.due ≡ None → old.begun < n) → BeginsIfIdle old mid → new.begun ≡ mid.begun → new.due ≡ None → ops_left n new < ops_left n old
op_falls n old mid new left begins same none =
    subst (λ (o : Option Call). n - new.begun + works_on o < ops_left n old) (sym none)
    (begun_falls old.due n old.begun new.begun left (subst (λ (k : ℕ). MatchOption old.due (k ≡ old.begun + 1) (λ call. k ≡ old.begun)) (sym same) begins))

pub on_any : {T E : Type 0} (r : Result T E) (P : Type 0) → P → OnOk r P
on_any (Ok x) P so = so
on_any (Err e) P so = tt

still_begun : (o : Option Call) (n : ℕ) → is_some o ≡ true → MatchOption o (n ≡ n + 1) (λ call. n ≡ n)
still_begun None n due = absurd cc
still_begun (Some call) n due = refl

-- an operation is under way already
pub begins_none : (c : Client) → is_some c.due ≡ true → BeginsIfIdle c c
begins_none c due = still_begun c.due c.begun due

-- one was begun
pub begins_one : (old new : Client) → old.due ≡ None → new.begun ≡ old.begun + 1 → BeginsIfIdle old new
begins_one old new none is = subst (λ (o : Option Call). MatchOption o (new.begun ≡ old.begun + 1) (λ call. new.begun ≡ old.begun)) (sym none) is

-- none was due
pub idle_calls : (o : Option Call) (P : Type 0) → o ≡ None → is_some o ≡ true → P
idle_calls o P none due = absurd cc

-- What the acts of a schedule make of a client's own list: it begins an operation, calls nodes, and
-- takes what follows from each reply. Lists of entries stand newest first; each relation is between
-- the list before and the list after.
use Rattle.std.specs.Prelude.{◌+◌, ◌≡◌, ◌⊎◌, Bool, true, false, not, ◌&&◌, ◌||◌, nat_lt, IsTrue}
use Rattle.std.specs.Prelude.{List, [], ◌∷◌, ◌++◌, length, map, reverse, take, Some, is_some}
use Rattle.std.specs.Prelude.{slice_get, MatchBool}
use Rattle.std.specs.List.{list_all, list_any, AllByRecursion}
use Rattle.std.specs.Option.{option_map_or}
use Rattle.mn_base.specs.declared.ids.ClientNo.{ClientNo}
use Rattle.mn_base.specs.declared.op.Op.{Op}
use Rattle.mn_mini.specs.Mini.{participants_of, is_read}
use Rattle.mn_script.specs.declared.elements.Point.{Point}
use Rattle.mn_script.specs.declared.elements.ScriptClient.{ScriptClient}
use Rattle.mn_script.specs.Script.{Script}
use Rattle.mn_runs.specs.declared.entry.Entry.{Entry}
use Rattle.mn_runs.specs.declared.entry.What.{What}
use Rattle.mn_runs.specs.declared.entry.What.TheVariants.{Begin, Issue, Abandoned, Answered}
use Rattle.mn_runs.specs.Calls.{Call, call_in, was_sent, was_done, was_abandoned, Issued}
use Rattle.mn_runs.specs.Calls.{issues_of, under_way, begun_of, since_begin}
use Rattle.mn_runs.specs.Clients.{is_recovery, is_over, last_number}
use Rattle.mn_callers.specs.Points.{has_died, stop_due, AsksAs}

-- What stands to be done

-- a client of a script: the script's points, its number, its operations
pub record Role : Type 0 where
  pub points : List Point
  pub number : ClientNo
  pub ops : List Op

abbrev pub as_role : List Point → ClientNo → List Op → Role
as_role points number ops = record { points = points; number = number; ops = ops }

-- the operations of this client, in order
abbrev pub ops_by : List ScriptClient → ClientNo → List Op
ops_by clients c = option_map_or (λ client. client.ops) (slice_get clients c.0) []

abbrev pub role_of : Script → ClientNo → Role
role_of script c =
    record { points = script.points; number = c; ops = ops_by script.clients c }

-- an operation is under way, and the client lives
abbrev pub is_at_work : Role → List Entry → Bool
is_at_work a es = is_some (under_way es) && not (has_died a.points a.number es)

-- an operation is under way or left, and the client lives
abbrev pub has_work : Role → List Entry → Bool
has_work a es =
    (is_some (under_way es) || nat_lt (last_number (begun_of es)) (length a.ops))
    && not (has_died a.points a.number es)

-- a plan on its way of which a participant is to be sent its Prepare or Exec next: each that was
-- sent it was done; `now` are the entries of the operation
abbrev pub is_to_be_sent : List Entry → List Entry → Issued → Bool
is_to_be_sent es now i =
    not (is_read i.mini.items) && (not (is_over now i || was_abandoned i.tid now)
    && (list_all (λ n. not (was_sent i.tid n es) || was_done i.tid n es) (participants_of i.mini)
    && list_any (λ n. not (was_sent i.tid n es)) (participants_of i.mini)))

abbrev pub is_first_to_be_sent : List Entry → List Entry → List Issued → Bool
is_first_to_be_sent es now [] = false
is_first_to_be_sent es now (i ∷ is) = is_to_be_sent es now i

-- the next call of the operation under way is a Prepare or an Exec of a plan
abbrev pub is_plan_due : List Entry → Bool
is_plan_due es = is_first_to_be_sent es (since_begin es) (issues_of (since_begin es))

-- the operations that were begun are the first of these, in order
abbrev pub BeginsFirst : List Op → List Entry → Type 0
BeginsFirst ops es = map (λ b. b.op) (reverse (begun_of es)) ≡ take (length (begun_of es)) ops

-- Steps

abbrev pub is_own : What → Bool
is_own (Issue tid mini) = true
is_own (Abandoned tid) = true
is_own (Answered number answer) = true
is_own what = false

-- the client's own steps between two calls: a minitransaction is issued or given up, the operation
-- is answered
abbrev pub AreOwn : ClientNo → List Entry → Type 0
AreOwn c es = AllByRecursion (λ e. (e.client ≡ Some c) × IsTrue (is_own e.what)) es

-- the list went on by such steps alone
pub record GoesByItself (c : ClientNo) (es new : List Entry) : Type 0 where
  pub own : List Entry
  pub new_is : new ≡ own ++ es
  pub steps : AreOwn c own

-- the operation is begun as the client's next, with the steps before its first call
pub record BeginsOp (c : ClientNo) (op : Op) (es new : List Entry) : Type 0 where
  pub entry : Entry
  pub own : List Entry
  pub new_is : new ≡ own ++ entry ∷ es
  pub by : entry.client ≡ Some c
  pub begun : entry.what ≡ Begin (last_number (begun_of es) + 1) op
  pub steps : AreOwn c own

-- its next operation is
pub record Begins (a : Role) (es new : List Entry) : Type 0 where
  pub op : Op
  pub next : slice_get a.ops (last_number (begun_of es)) ≡ Some op
  pub begins : BeginsOp a.number op es new

-- one call of a node, which is none of a recovery's and stops where a point says so, with the steps
-- that follow from its reply; none, where the client died by it
pub record Calls (a : Role) (es new : List Entry) : Type 0 where
  pub entry : Entry
  pub call : Call
  pub own : List Entry
  pub new_is : new ≡ own ++ entry ∷ es
  pub by : entry.client ≡ Some a.number
  pub is_call : call_in entry.node entry.what ≡ call ∷ []
  pub plain : is_recovery call.request ≡ false
  pub asked : AsksAs (stop_due a.points a.number call.node call.request es) entry.what
  pub steps : AreOwn a.number own
  pub dead : has_died a.points a.number (entry ∷ es) ≡ true → own ≡ []

-- a call that found no memory has no entry: it ends its try, so one or more of the client's own
-- steps follow
pub record Lacks (c : ClientNo) (es new : List Entry) : Type 0 where
  pub first : Entry
  pub own : List Entry
  pub new_is : new ≡ (own ++ first ∷ []) ++ es
  pub steps : AreOwn c (own ++ first ∷ [])

abbrev pub CallsOrLacks : Role → List Entry → List Entry → Type 0
CallsOrLacks a es new = Calls a es new ⊎ Lacks a.number es new

-- Acts

-- calls one after another, each made where it wasn't time to stop
pub data CallsWhile (a : Role) (stop : List Entry → Bool) (es : List Entry)
    : List Entry → Type 0 where
  none : CallsWhile a stop es es
  one_more : (now new : List Entry) → CallsWhile a stop es now → stop now ≡ false
      → CallsOrLacks a now new → CallsWhile a stop es new

-- calls until it is time to stop
abbrev pub CallsUntil : Role → (List Entry → Bool) → List Entry → List Entry → Type 0
CallsUntil a stop es new = CallsWhile a stop es new × (stop new ≡ true)

-- an operation is begun if none is under way
abbrev pub IsUnderWay : Role → List Entry → List Entry → Type 0
IsUnderWay a es now = MatchBool (is_some (under_way es)) (now ≡ es) (Begins a es now)

-- where there is work, on an operation that is under way or begun; else nothing
abbrev pub Works : Role → (List Entry → List Entry → Type 0) → List Entry → List Entry → Type 0
Works a does es new =
    MatchBool (has_work a es) ((now : List Entry) × IsUnderWay a es now × does now new) (new ≡ es)

-- one call, unless the operation is over already
abbrev pub CallsOnce : Role → List Entry → List Entry → Type 0
CallsOnce a es new = MatchBool (is_at_work a es) (CallsOrLacks a es new) (new ≡ es)

-- `step`: one node call
abbrev pub DoesStep : Role → List Entry → List Entry → Type 0
DoesStep a es new = Works a (CallsOnce a) es new

-- `plan`: node calls until the next would be a Prepare or an Exec of a plan, or the operation is
-- over
abbrev pub DoesPlan : Role → List Entry → List Entry → Type 0
DoesPlan a es new =
    Works a (CallsUntil a (λ now. not (is_at_work a now) || is_plan_due now)) es new

-- `go`: node calls until the operation is answered or the client has died
abbrev pub DoesGo : Role → List Entry → List Entry → Type 0
DoesGo a es new = Works a (CallsUntil a (λ now. not (is_at_work a now))) es new

-- one operation after another
pub data OperatesOn (a : Role) (es : List Entry) : List Entry → Type 0 where
  none : OperatesOn a es es
  one_more : (now new : List Entry) → OperatesOn a es now → has_work a now ≡ true
      → DoesGo a now new → OperatesOn a es new

-- `all`: until no operation is left or the client has died
abbrev pub DoesAll : Role → List Entry → List Entry → Type 0
DoesAll a es new = OperatesOn a es new × (has_work a new ≡ false)

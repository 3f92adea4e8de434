-- How a client goes on by itself from one call to the next. Lists of entries stand newest first.
use Rattle.std.specs.Prelude.{ℕ, ◌+◌, ◌-◌, ◌<◌, ◌≤◌, ◌≡◌, ◌⊎◌, Bool, true, ◌&&◌, IsTrue}
use Rattle.std.specs.Prelude.{List, [], ◌∷◌, length, Option, Some, None, MatchOption, ⊤}
use Rattle.std.specs.List.{AllByRecursion}
use Rattle.mn_base.specs.declared.ids.ClientNo.{ClientNo}
use Rattle.mn_base.specs.declared.ids.NodeNo.{NodeNo}
use Rattle.mn_base.specs.declared.ids.Tid.{Tid}
use Rattle.mn_base.specs.declared.op.Op.{Op}
use Rattle.mn_cell.specs.Runs.{IsIssueOf}
use Rattle.mn_coord.specs.Legal.{IsAnswered}
use Rattle.mn_mini.specs.RecordGrammar.{IsTid}
use Rattle.mn_mini.specs.declared.reply.NodeReply.{NodeReply}
use Rattle.mn_mini.specs.declared.request.Request.{Request}
use Rattle.mn_proxy.specs.Agrees.{Agrees, Enters, IsSoundStep, MayStep, Wants}
use Rattle.mn_proxy.specs.Measure.{steps_left}
use Rattle.mn_proxy.specs.State.{IsReady, ProxyState}
use Rattle.mn_proxy.specs.declared.step.ProxyStep.{ProxyStep}
use Rattle.mn_script.specs.declared.elements.Point.{Point}
use Rattle.mn_runs.specs.declared.entry.Entry.{Entry}
use Rattle.mn_runs.specs.declared.entry.What.{What}
use Rattle.mn_law.specs.Answers.{MeansBy}
use Rattle.mn_runs.specs.Calls.{begun_in, begun_of, issue_in}
use Rattle.mn_runs.specs.Clients.{recovers_nothing, ClientAllows, last_number}
use Rattle.mn_runs.specs.Lists.{ClientState}
use Rattle.mn_runs.specs.Protocol.{IsOwnStep, Start, run_number, start_nodes}
use Rattle.mn_runs.specs.Protocol.{IsOfRun as IsWhatOfRun, entries_of}
use Rattle.mn_hist.specs.Points.{may_stop, points_met}
use Rattle.mn_hist.specs.Watching.{number_of}
use Rattle.mn_callers.specs.declared.client.Call.{Call}
use Rattle.mn_callers.specs.declared.client.Client.{Client}
use Rattle.mn_callers.specs.declared.client.Went.{Went}
use Rattle.mn_callers.specs.declared.client.Went.TheVariants.{On, Rests}
use Rattle.mn_callers.specs.Acts.{BeginsFirst}
use Rattle.mn_callers.specs.Clients.{HasProxy, IsAlive, KeepsIssues, past_of}
use Rattle.mn_callers.specs.Points.{AsksAs, stop_due}
use Rattle.mn_callers.specs.Steps.{own_entry}

-- Steps of its own

-- all but the list is the same
abbrev pub IsSameBut : Client → Client → Type 0
IsSameBut old new = new ≡ record old { list = new.list }

-- its list has other room, and all else is the same
abbrev pub IsSameButRoom : Client → Client → Type 0
IsSameButRoom old new = new ≡ record old { list = record old.list { room = new.list.room } }

-- the client of this list may make the step by itself
abbrev pub MayAdd : ClientNo → List Entry → What → Type 0
MayAdd c es what = IsOwnStep what × ClientAllows c es None what × MeansBy es what

-- the list is its client's own and of this run, it has no request of a recovery, so many operations
-- were begun, under the numbers up to this, the shared id is such as there may be, and this is kept
-- of its issues
pub record IsList (start : Start) (list : ClientState) (count : ℕ) (id : Option Tid) (plan : Bool)
    : Type 0 where
  pub own : AllByRecursion (λ e. e.client ≡ Some list.client) (entries_of list.entries)
  pub of_run : AllByRecursion (IsIssueOf start) (entries_of list.entries)
  pub plain : IsTrue (recovers_nothing (entries_of list.entries))
  pub begun : last_number (begun_of (entries_of list.entries)) ≡ count
  pub counted : length (begun_of (entries_of list.entries)) ≡ count
  pub shared : MatchOption id ⊤ IsTid
  pub issues : KeepsIssues (entries_of list.entries) id plan

-- what is so of its list, whatever the crash points
abbrev pub HasList : Start → Client → Type 0
HasList start c = IsList start c.list c.begun c.shared c.is_plan

-- the lists met the same points, and the flags stay
pub record MeetsSame (old : ClientState) (before : List Bool) (new : ClientState)
    (after : List Bool) : Type 0 where
  pub client : new.client ≡ old.client
  pub flags : after ≡ before
  pub met : (points : List Point)
      → points_met points (entries_of new.entries) ≡ points_met points (entries_of old.entries)

-- its list met the same points before and after
abbrev pub KeepsPoints : Client → Client → Type 0
KeepsPoints old new = MeetsSame old.list old.met.items new.list new.met.items

-- the proxy works for the client of the list, in this run
pub record WorksFor (start : Start) (list : ClientState) (p : ProxyState) : Type 0 where
  pub client : p.client ≡ list.client
  pub run : p.run ≡ run_number start
  pub nodes : p.known.nodes ≡ start_nodes start

-- the client of the list may make the step, with which the proxy agrees, and which begins no
-- operation
pub record MayMake (start : Start) (list : ClientState) (p : ProxyState) (what : What)
    : Type 0 where
  pub proxy : WorksFor start list p
  pub may : MayAdd list.client (entries_of list.entries) what
  pub agrees : Agrees (own_entry list.client what ∷ entries_of list.entries) p
  pub of_run : IsWhatOfRun start what
  pub begins_none : begun_in what ≡ []

-- and issues nothing by it
abbrev pub MakesStep : Start → Client → What → Type 0
MakesStep start c what = MayMake start c.list c.proxy what × (issue_in what ≡ [])

-- its list has more entries
abbrev pub IsLonger : Client → Client → Type 0
IsLonger old new = length (past_of old) < length (past_of new)

-- Steps of its proxy

-- the proxy handed out the step, which the list allows, and with which the proxy agrees
pub record HandedOut (start : Start) (list : ClientState) (p : ProxyState) (step : ProxyStep)
    : Type 0 where
  pub proxy : WorksFor start list p
  pub may : MayStep (entries_of list.entries) p step
  pub enters : (new : List Entry) → Enters (entries_of list.entries) p step new → Agrees new p
  pub sound : IsSoundStep (start_nodes start) step
  pub wants : Wants step p

abbrev pub MayTake : Start → Client → ProxyStep → Type 0
MayTake start c step = HandedOut start c.list c.proxy step

-- how it has gone on: its proxy is to be asked again, or nothing of its own is left to do
abbrev pub HasGone : Start → Client → Went → Type 0
HasGone start c On = HasProxy start c × IsReady c.proxy × (c.due ≡ None)
HasGone start c Rests = IsAlive start c

-- Operations

-- none is begun, or this one
abbrev pub BeginsAtMost : Op → List Entry → List Entry → Type 0
BeginsAtMost op es new =
    (begun_of new ≡ begun_of es)
    ⊎ ((number : ℕ) × (begun_of new ≡ record { number = number; op = op } ∷ begun_of es))

-- where those that were begun were the first of these, in order, they still are
abbrev pub KeepsOrder : List Op → List Entry → List Entry → Type 0
KeepsOrder ops es new = BeginsFirst ops es → BeginsFirst ops new

-- Calls

-- no call is due, or it is one of a plan: a Prepare or an Exec, where the last issue is a plan
abbrev pub is_planned : Option Call → Bool → Bool
is_planned None plan = true
is_planned (Some call) plan = may_stop call.request && plan

-- its newest entry answers the call, which was asked to stop where the points say so
pub record HasAnswer (points : List Point) (node : NodeNo) (request : Request) (reply : NodeReply)
    (old new : Client) : Type 0 where
  pub entry : Entry
  pub longer : past_of new ≡ entry ∷ past_of old
  pub answers : IsAnswered entry node request reply
  pub stops : AsksAs (stop_due points old.list.client node request (past_of old)) entry.what

-- its newest entry, which it made in its last operation, is still to be noted
pub record IsUnnoted (points : List Point) (c : Client) : Type 0 where
  pub last : Entry
  pub before : List Entry
  pub split : past_of c ≡ last ∷ before
  pub own : AllByRecursion (λ e. e.client ≡ Some c.list.client) (past_of c)
  pub number : number_of before ≡ Some c.begun
  pub met : c.met.items ≡ points_met points before

-- That it comes to an end

-- the steps of its own and the calls that are left of its operation: none, where no call is due
abbrev pub left_where : Option Call → ℕ → ℕ
left_where None steps = 0
left_where (Some call) steps = steps + 1

-- a client's, by its proxy
abbrev pub work_left : Client → ℕ
work_left c = left_where c.due (steps_left c.proxy)

-- how it has gone on: fewer steps than so many are left
abbrev pub HasFewer : ℕ → Client → Went → Type 0
HasFewer steps c On = steps_left c.proxy < steps
HasFewer steps c Rests = work_left c ≤ steps

-- one more operation is begun where no call was due
abbrev pub BeginsIfIdle : Client → Client → Type 0
BeginsIfIdle old new =
    MatchOption old.due (new.begun ≡ old.begun + 1) (λ call. new.begun ≡ old.begun)

-- an operation is under way where a call is due
abbrev pub works_on : Option Call → ℕ
works_on None = 0
works_on (Some call) = 1

-- the operations that are left, of so many: those that aren't begun, and the one under way
abbrev pub ops_left : ℕ → Client → ℕ
ops_left ops c = ops - c.begun + works_on c.due

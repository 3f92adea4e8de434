-- How far a client of the script has come, by its own list. Lists of entries stand newest first.
use Rattle.std.specs.Prelude.{ℕ, ◌≡◌, ◌<◌, Bool, true, false, not, nat_le, List, [], ◌∷◌, length}
use Rattle.std.specs.Prelude.{IsTrue, MatchOption, Option, Some, None, if◌then◌else◌, ⊤}
use Rattle.std.specs.List.{AllByRecursion}
use Rattle.mn_base.specs.declared.ids.Tid.{Tid}
use Rattle.mn_cell.specs.Runs.{IsIssueOf}
use Rattle.mn_mini.specs.RecordGrammar.{IsTid}
use Rattle.mn_mini.specs.Sound.{IsSoundRequest}
use Rattle.mn_proxy.specs.Agrees.{Agrees, HasOut}
use Rattle.mn_proxy.specs.State.{IsIdle, IsReady, ProxyState}
use Rattle.mn_script.specs.declared.elements.Point.{Point}
use Rattle.mn_runs.specs.declared.entry.Entry.{Entry}
use Rattle.mn_runs.specs.Calls.{Issued, begun_of, issues_of}
use Rattle.mn_runs.specs.Clients.{recovers_nothing, Sends, last_number}
use Rattle.mn_mini.specs.Mini.{participants_of, is_read}
use Rattle.mn_runs.specs.Lists.{ClientState}
use Rattle.mn_runs.specs.Protocol.{Start, run_number, start_nodes, entries_of}
use Rattle.mn_hist.specs.Points.{points_met}
use Rattle.mn_callers.specs.declared.client.Call.{Call}
use Rattle.mn_callers.specs.declared.client.Client.{Client}
use Rattle.mn_callers.specs.Points.{has_died}

-- What it has issued

-- the newest of these minitransactions that has two or more participants
abbrev pub last_shared : List Issued → Option Tid
last_shared [] = None
last_shared (i ∷ is) =
    if nat_le 2 (length (participants_of i.mini)) then Some i.tid else last_shared is

-- the newest of these is a plan: it compares or writes
abbrev pub is_plan_first : List Issued → Bool
is_plan_first [] = false
is_plan_first (i ∷ is) = not (is_read i.mini.items)

-- what is kept of it: the id of the newest with several participants, and whether the newest is a
-- plan
pub record KeepsIssues (es : List Entry) (id : Option Tid) (plan : Bool) : Type 0 where
  pub id_is : id ≡ last_shared (issues_of es)
  pub plan_is : plan ≡ is_plan_first (issues_of es)

-- Its list

-- its entries, newest first
abbrev pub past_of : Client → List Entry
past_of c = entries_of c.list.entries

-- the client has died, by its own list
abbrev pub is_dead : List Point → Client → Type 0
is_dead points c = has_died points c.list.client (past_of c) ≡ true

-- the call is the one that the proxy wants next, and the client of the list may make it
pub record MayCall (start : Start) (list : ClientState) (p : ProxyState) (call : Call)
    : Type 0 where
  pub out : HasOut p call.node call.request
  pub allowed : Sends (entries_of list.entries) (Some call.node) call.request
  pub among : call.node.0 < start_nodes start
  pub sound : IsSoundRequest call.request

abbrev pub MayCallNext : Start → Client → Call → Type 0
MayCallNext start c call = MayCall start c.list c.proxy call

-- the proxy agrees with the list, and works for its client in this run
pub record IsProxyFor (start : Start) (list : ClientState) (p : ProxyState) : Type 0 where
  pub agrees : Agrees (entries_of list.entries) p
  pub client : p.client ≡ list.client
  pub run : p.run ≡ run_number start
  pub nodes : p.known.nodes ≡ start_nodes start

abbrev pub HasProxy : Start → Client → Type 0
HasProxy start c = IsProxyFor start c.list c.proxy

-- it lives: where a call is due it may be made, and where none is no operation is under way
pub record IsAlive (start : Start) (c : Client) : Type 0 where
  pub proxy : HasProxy start c
  pub due : MatchOption c.due (IsIdle c.proxy) (MayCallNext start c)

-- the list is its client's own and of this run, it has no request of a recovery, the flags tell the
-- points that it met, so many operations were begun, under the numbers up to this, the shared id is
-- such as there may be, and this is kept of its issues
pub record IsListOfRun (start : Start) (points : List Point) (list : ClientState)
    (flags : List Bool) (count : ℕ) (id : Option Tid) (plan : Bool) : Type 0 where
  pub own : AllByRecursion (λ e. e.client ≡ Some list.client) (entries_of list.entries)
  pub of_run : AllByRecursion (IsIssueOf start) (entries_of list.entries)
  pub met : flags ≡ points_met points (entries_of list.entries)
  pub plain : IsTrue (recovers_nothing (entries_of list.entries))
  pub begun : last_number (begun_of (entries_of list.entries)) ≡ count
  pub counted : length (begun_of (entries_of list.entries)) ≡ count
  pub shared : MatchOption id ⊤ IsTid
  pub issues : KeepsIssues (entries_of list.entries) id plan

-- what is so of each client, dead or alive
abbrev pub IsOfRun : Start → List Point → Client → Type 0
IsOfRun start points c = IsListOfRun start points c.list c.met.items c.begun c.shared c.is_plan

-- between two calls nothing of its own is left to do
pub record IsClient (start : Start) (points : List Point) (c : Client) : Type 0 where
  pub run : IsOfRun start points c
  pub dead : is_dead points c → c.due ≡ None
  pub alive : (is_dead points c → ⊥) → IsAlive start c

-- in the middle of its own steps: its proxy is to be asked what comes next
pub record IsAtSteps (start : Start) (points : List Point) (c : Client) : Type 0 where
  pub run : IsOfRun start points c
  pub lives : is_dead points c → ⊥
  pub proxy : HasProxy start c
  pub ready : IsReady c.proxy
  pub none_due : c.due ≡ None

-- The recovery coordinators of the script, and the one that opens and closes, by their own lists.
-- Lists of entries stand newest first.
use Rattle.std.specs.Prelude.{ℕ, ◌+◌, ◌≡◌, false, List, [], ◌++◌, Some, None, MatchOption, ⊤}
use Rattle.std.specs.List.{AllByRecursion}
use Rattle.mn_base.specs.declared.ids.ClientNo.{ClientNo}
use Rattle.mn_base.specs.declared.ids.Tid.{Tid}
use Rattle.mn_cell.specs.Runs.{IsIssueOf}
use Rattle.mn_mini.specs.declared.request.Request.{Request}
use Rattle.mn_mini.specs.declared.request.Request.TheVariants as Ask
use Rattle.mn_recov.specs.Legal.{Agrees}
use Rattle.mn_recov.specs.Recovery.{Recovery}
use Rattle.mn_runs.specs.declared.entry.Entry.{Entry}
use Rattle.mn_runs.specs.declared.entry.What.{What}
use Rattle.mn_runs.specs.declared.entry.What.TheVariants.{Called, Stopped, Restarted}
use Rattle.mn_runs.specs.Calls.{begun_of, is_in_doubt}
use Rattle.mn_runs.specs.Lists.{ClientState}
use Rattle.mn_runs.specs.Protocol.{Start, start_nodes, entries_of}
use Rattle.mn_callers.specs.declared.desk.Desk.{Desk}

-- recovery coordinators are the actors from 17 on, for their numbers from 1 on
abbrev pub recoverer : ℕ → ClientNo
recoverer number = record { 0 = 16 + number }

-- a request that a recovery may send
abbrev pub IsRecoveryCall : Request → Type 0
IsRecoveryCall Ask.List = ⊤
IsRecoveryCall (Ask.Force tid) = ⊤
IsRecoveryCall (Ask.Decide tid verdict) = ⊤
IsRecoveryCall request = ⊥

-- no minitransaction is in doubt by the list: its actor sends none
abbrev pub DoubtsNothing : List Entry → Type 0
DoubtsNothing es = (tid : Tid) → is_in_doubt tid es ≡ false

-- the list is the actor's own; it begins no operation, issues nothing, and sends no
-- minitransaction
pub record IsOfRecovery (start : Start) (list : ClientState) : Type 0 where
  pub own : AllByRecursion (λ e. e.client ≡ Some list.client) (entries_of list.entries)
  pub of_run : AllByRecursion (IsIssueOf start) (entries_of list.entries)
  pub begins_none : begun_of (entries_of list.entries) ≡ []
  pub free : DoubtsNothing (entries_of list.entries)

-- the list shows how far the recovery has come, which is over the run's nodes
abbrev pub IsWork : Start → ClientState → Recovery → Type 0
IsWork start list r = Agrees (entries_of list.entries) r × (r.nodes ≡ start_nodes start)

pub record IsDesk (start : Start) (d : Desk) : Type 0 where
  pub list : IsOfRecovery start d.list
  pub work : MatchOption d.work ⊤ (IsWork start d.list)

-- a step of a recovery coordinator: a call, inside which the node may stop unasked, or a restart
abbrev pub IsRecoveryStep : What → Type 0
IsRecoveryStep (Called request reply) = ⊤
IsRecoveryStep (Stopped (Some request) None) = ⊤
IsRecoveryStep (Restarted kept) = ⊤
IsRecoveryStep what = ⊥

-- its list went on by such steps
pub record RecoversOn (old new : List Entry) : Type 0 where
  pub own : List Entry
  pub new_is : new ≡ own ++ old
  pub steps : AllByRecursion (λ e. IsRecoveryStep e.what) own

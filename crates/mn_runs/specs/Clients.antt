-- What a client's own list allows it: the calls of a minitransaction in their order, and decisions
-- that its list backs.
use Rattle.std.specs.Prelude.{ℕ, ◌+◌, ◌≡◌, ◌<◌, ◌≤◌, ◌⊎◌, Bool, true, false, not, ◌&&◌, ◌||◌}
use Rattle.std.specs.Prelude.{IsTrue, List, [], ◌∷◌, length, Option, Some, None, IsSome, ⊤}
use Rattle.std.specs.Prelude.{Contains, nat_eq}
use Rattle.std.specs.List.{list_any, list_all, AllByRecursion}
use Rattle.mn_base.specs.declared.ids.NodeNo.{NodeNo}
use Rattle.mn_base.specs.declared.ids.ClientNo.{ClientNo}
use Rattle.mn_base.specs.declared.ids.Tid.{Tid}
use Rattle.mn_base.specs.declared.op.Op.{Op}
use Rattle.mn_mini.specs.declared.item.Item.{Item}
use Rattle.mn_mini.specs.declared.item.Item.TheVariants.{Compare, Read, Write}
use Rattle.mn_mini.specs.declared.part.PartItem.{PartItem}
use Rattle.mn_mini.specs.declared.request.Request.{Request}
use Rattle.mn_mini.specs.declared.request.Request.TheVariants as Ask
use Rattle.mn_mini.specs.Mini.{Mini, IsSound, participants_of, part_of, is_read}
use Rattle.mn_runs.specs.declared.entry.Entry.{Entry}
use Rattle.mn_runs.specs.declared.entry.What.{What}
use Rattle.mn_runs.specs.declared.entry.What.TheVariants.{Begin, Issue, Called, Stopped, Restarted}
use Rattle.mn_runs.specs.declared.entry.What.TheVariants.{Abandoned, Answered}
use Rattle.mn_runs.specs.Calls.{is_prepare, is_exec, is_done, is_refused, is_down_reply, is_stopped}
use Rattle.mn_runs.specs.Calls.{was_told_somewhere, was_sent, was_done, was_stopped, has_yes}
use Rattle.mn_runs.specs.Calls.{has_no, is_in_doubt, was_abandoned, WasListed, Issued, issues_of}
use Rattle.mn_runs.specs.Calls.{issue_named, Begun, under_way, begun_of, since_begin, calls_of}

-- Kinds of minitransactions

abbrev pub is_compare_or_write : Item → Bool
is_compare_or_write (Compare node start bytes) = true
is_compare_or_write (Read node start length) = false
is_compare_or_write (Write node start bytes) = true

-- compare and write items alone
abbrev pub is_plan : List Item → Bool
is_plan items = list_all is_compare_or_write items

-- Issues

-- the number of the last operation, or 0
abbrev pub last_number : List Begun → ℕ
last_number [] = 0
last_number (b ∷ bs) = b.number

-- after it another may be issued: it was abandoned, with no Prepare answered Down or Stopped; or
-- its Exec was refused; or it was a read that was done
abbrev pub is_over : List Entry → Issued → Bool
is_over now i =
    (was_abandoned i.tid now && not (was_told_somewhere (is_prepare i.tid)
    (λ reply. is_down_reply reply || is_stopped reply) now))
    || (was_told_somewhere (is_exec i.tid) is_refused now
    || (is_read i.mini.items && was_told_somewhere (is_exec i.tid) is_done now))

-- the first issue of an operation, or one after an issue that is over
abbrev pub may_follow : List Entry → List Issued → Bool
may_follow now [] = true
may_follow now (i ∷ is) = is_over now i

pub record AllowsIssue (c : ClientNo) (es : List Entry) (tid : Tid) (mini : Mini) : Type 0 where
  pub under_way : IsSome (under_way es)
  pub client : tid.client ≡ c
  pub serial : tid.serial ≡ length (issues_of es) + 1
  pub kind : IsTrue (is_read mini.items || is_plan mini.items)
  pub sound : IsSound mini
  pub after : IsTrue (may_follow (since_begin es) (issues_of (since_begin es)))

-- Calls

-- a Prepare of an issue of the operation under way: its part, once to each participant, after all
-- lower ones are done
pub record AllowsPrepare (es : List Entry) (n : NodeNo) (tid : Tid) (participants : List NodeNo)
    (part : List PartItem) : Type 0 where
  pub mini : Mini
  pub issued : issue_named tid (issues_of (since_begin es)) ≡ Some mini
  pub all : participants ≡ participants_of mini
  pub several : 2 ≤ length participants
  pub named : Contains participants n
  pub own_part : part ≡ part_of mini n
  pub once : was_sent tid n es ≡ false
  pub open_still : was_abandoned tid es ≡ false
  pub lower : AllByRecursion (λ m. m.0 < n.0 → was_done tid m es ≡ true) participants

-- an Exec of an issue with one participant
pub record AllowsExec (es : List Entry) (n : NodeNo) (tid : Tid) (part : List PartItem)
    : Type 0 where
  pub mini : Mini
  pub issued : issue_named tid (issues_of (since_begin es)) ≡ Some mini
  pub alone : participants_of mini ≡ n ∷ []
  pub own_part : part ≡ part_of mini n
  pub once : was_sent tid n es ≡ false
  pub open_still : was_abandoned tid es ≡ false

-- the list shows the participants of an id: by its own issue, or by a Listed reply
abbrev pub Knows : List Entry → Tid → List NodeNo → Type 0
Knows es tid participants =
    ((mini : Mini) × (issue_named tid (issues_of es) ≡ Some mini)
    × (participants ≡ participants_of mini)) ⊎ WasListed tid participants es

-- yes after a yes of every participant; no after the client's own Abandoned, or a Force that was
-- voted no
abbrev pub AllowsDecide : List Entry → Tid → Bool → Type 0
AllowsDecide es tid true =
    (participants : List NodeNo) × Knows es tid participants
    × AllByRecursion (λ n. has_yes tid n es ≡ true) participants
AllowsDecide es tid false = IsTrue (was_abandoned tid es || has_no tid es)

-- a Force goes to a participant that a Listed reply gives
abbrev pub AllowsForce : List Entry → NodeNo → Tid → Type 0
AllowsForce es n tid =
    (participants : List NodeNo) × WasListed tid participants es × Contains participants n

-- a request to a node. After the node stopped inside an id's last Prepare or its Exec nothing more
-- is sent for it
abbrev pub Sends : List Entry → Option NodeNo → Request → Type 0
Sends es None request = ⊥
Sends es (Some n) (Ask.Prepare tid participants part) = AllowsPrepare es n tid participants part
Sends es (Some n) (Ask.Exec tid part) = AllowsExec es n tid part
Sends es (Some n) (Ask.Decide tid verdict) =
    (is_in_doubt tid es ≡ false) × AllowsDecide es tid verdict
Sends es (Some n) (Ask.Force tid) = (is_in_doubt tid es ≡ false) × AllowsForce es n tid
Sends es (Some n) Ask.List = ⊤
Sends es (Some n) (Ask.Peek start length) = ⊤

-- its own issue is abandoned where some participant is neither done nor stopped
abbrev pub AllowsAbandoned : List Entry → Tid → Type 0
AllowsAbandoned es tid =
    (mini : Mini) × (issue_named tid (issues_of es) ≡ Some mini)
    × IsTrue (list_any (λ n. not (was_done tid n es) && not (was_stopped tid n es))
    (participants_of mini))

-- operations come one after another, each with the next number, and each is answered once
abbrev pub ClientAllows : ClientNo → List Entry → Option NodeNo → What → Type 0
ClientAllows c es at (Begin number op) =
    (under_way es ≡ None) × (number ≡ last_number (begun_of es) + 1)
ClientAllows c es at (Issue tid mini) = AllowsIssue c es tid mini
ClientAllows c es at (Called request reply) = Sends es at request
ClientAllows c es at (Stopped None asked) = ⊤
ClientAllows c es at (Stopped (Some request) asked) = Sends es at request
ClientAllows c es at (Restarted kept) = ⊤
ClientAllows c es at (Abandoned tid) = AllowsAbandoned es tid
ClientAllows c es at (Answered number answer) =
    (op : Op) × (under_way es ≡ Some (record { number = number; op = op }))

-- Plans that are over

-- the plan will never be committed: it was abandoned, or its Exec was neither done nor stopped
abbrev pub is_given_up : List Entry → Issued → Bool
is_given_up es i =
    was_abandoned i.tid es || (nat_eq (length (participants_of i.mini)) 1
    && not (was_told_somewhere (is_exec i.tid) (λ reply. is_done reply || is_stopped reply) es))

-- Recovery

-- a request that a recovery makes: for the list of what is held, or a Force
abbrev pub is_recovery : Request → Bool
is_recovery Ask.List = true
is_recovery (Ask.Force tid) = true
is_recovery request = false

-- a client's list has none, as a proxy's has none
abbrev pub recovers_nothing : List Entry → Bool
recovers_nothing es = list_all (λ call. not (is_recovery call.request)) (calls_of es)

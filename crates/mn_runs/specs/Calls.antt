-- Reading a log. Lists of entries stand newest first: what an entry may be is said of the entries
-- before it.
use Rattle.std.specs.Prelude.{ℕ, ◌≡◌, Bool, true, false, not, ◌&&◌, ◌||◌, List, [], ◌∷◌, ◌++◌}
use Rattle.std.specs.Prelude.{length, filter, Option, Some, None, if◌then◌else◌, Contains}
use Rattle.std.specs.List.{list_any}
use Rattle.std.specs.Option.{option_map_or}
use Rattle.mn_base.specs.Ids.{node_same, client_same, tid_same}
use Rattle.mn_base.specs.declared.ids.NodeNo.{NodeNo}
use Rattle.mn_base.specs.declared.ids.ClientNo.{ClientNo}
use Rattle.mn_base.specs.declared.ids.Tid.{Tid}
use Rattle.mn_base.specs.declared.op.Op.{Op}
use Rattle.mn_mini.specs.declared.request.Request.{Request}
use Rattle.mn_mini.specs.declared.request.Request.TheVariants as Ask
use Rattle.mn_mini.specs.declared.reply.NodeReply.{NodeReply}
use Rattle.mn_mini.specs.declared.reply.NodeReply.TheVariants as Say
use Rattle.mn_mini.specs.declared.doubt.Doubt.{Doubt}
use Rattle.mn_mini.specs.Mini.{Mini}
use Rattle.mn_runs.specs.declared.entry.Entry.{Entry}
use Rattle.mn_runs.specs.declared.entry.What.{What}
use Rattle.mn_runs.specs.declared.entry.What.TheVariants.{Begin, Issue, Called, Stopped, Abandoned}
use Rattle.mn_runs.specs.declared.entry.What.TheVariants.{Answered}

-- Whose an entry is

abbrev pub is_at : NodeNo → Entry → Bool
is_at n e = option_map_or (node_same n) e.node false

abbrev pub is_by : ClientNo → Entry → Bool
is_by c e = option_map_or (client_same c) e.client false

abbrev pub node_entries : NodeNo → List Entry → List Entry
node_entries n past = filter (is_at n) past

abbrev pub client_entries : ClientNo → List Entry → List Entry
client_entries c past = filter (is_by c) past

-- Requests and replies

-- a request that was sent to a node, and what came back; where the node stopped inside it, Stopped
pub record Call : Type 0 where
  pub node : NodeNo
  pub request : Request
  pub reply : NodeReply

abbrev pub call_in : Option NodeNo → What → List Call
call_in None what = []
call_in (Some n) (Called request reply) = record { node = n; request = request; reply = reply } ∷ []
call_in (Some n) (Stopped (Some request) asked) =
    record { node = n; request = request; reply = Say.Stopped } ∷ []
call_in (Some n) what = []

-- the calls of a list
abbrev pub calls_of : List Entry → List Call
calls_of [] = []
calls_of (e ∷ es) = call_in e.node e.what ++ calls_of es

abbrev pub is_prepare : Tid → Request → Bool
is_prepare tid (Ask.Prepare t participants part) = tid_same t tid
is_prepare tid request = false

abbrev pub is_exec : Tid → Request → Bool
is_exec tid (Ask.Exec t part) = tid_same t tid
is_exec tid request = false

abbrev pub is_decide : Tid → Request → Bool
is_decide tid (Ask.Decide t verdict) = tid_same t tid
is_decide tid request = false

abbrev pub is_force : Tid → Request → Bool
is_force tid (Ask.Force t) = tid_same t tid
is_force tid request = false

abbrev pub is_last : NodeNo → List NodeNo → Bool
is_last n [] = false
is_last n (m ∷ []) = node_same m n
is_last n (m ∷ (k ∷ ms)) = is_last n (k ∷ ms)

-- the node is the last participant of this Prepare
abbrev pub is_last_of : NodeNo → Request → Bool
is_last_of n (Ask.Prepare t participants part) = is_last n participants
is_last_of n request = false

abbrev pub is_done : NodeReply → Bool
is_done (Say.Done reads) = true
is_done reply = false

abbrev pub is_refused : NodeReply → Bool
is_refused (Say.BadLock start length holder) = true
is_refused (Say.BadCompare item found) = true
is_refused reply = false

abbrev pub is_down_reply : NodeReply → Bool
is_down_reply Say.Down = true
is_down_reply reply = false

abbrev pub is_stopped : NodeReply → Bool
is_stopped Say.Stopped = true
is_stopped reply = false

abbrev pub is_yes : NodeReply → Bool
is_yes (Say.Vote vote) = vote
is_yes reply = false

abbrev pub is_no : NodeReply → Bool
is_no (Say.Vote vote) = not vote
is_no reply = false

-- What a list shows of an id

-- a request of this id to the node, with a reply that passes the test
abbrev pub was_told : (Request → Bool) → (NodeReply → Bool) → NodeNo → List Entry → Bool
was_told ask say n es =
    list_any (λ c. node_same c.node n && (ask c.request && say c.reply)) (calls_of es)

-- the same at any node
abbrev pub was_told_somewhere : (Request → Bool) → (NodeReply → Bool) → List Entry → Bool
was_told_somewhere ask say es = list_any (λ c. ask c.request && say c.reply) (calls_of es)

-- its Prepare or Exec
abbrev pub is_try : Tid → Request → Bool
is_try tid request = is_prepare tid request || is_exec tid request

abbrev pub was_sent : Tid → NodeNo → List Entry → Bool
was_sent tid n es = was_told (is_try tid) (λ reply. true) n es

abbrev pub was_done : Tid → NodeNo → List Entry → Bool
was_done tid n es = was_told (is_try tid) is_done n es

abbrev pub was_stopped : Tid → NodeNo → List Entry → Bool
was_stopped tid n es = was_told (is_try tid) is_stopped n es

-- a yes: Done to its Prepare, or a vote to a Force
abbrev pub has_yes : Tid → NodeNo → List Entry → Bool
has_yes tid n es = was_told (is_prepare tid) is_done n es || was_told (is_force tid) is_yes n es

abbrev pub has_no : Tid → List Entry → Bool
has_no tid es = was_told_somewhere (is_force tid) is_no es

abbrev pub was_decided : Tid → NodeNo → List Entry → Bool
was_decided tid n es = was_told (is_decide tid) (λ reply. true) n es

-- the node stopped inside its last Prepare or its Exec: whether it is committed is not known
abbrev pub is_in_doubt : Tid → List Entry → Bool
is_in_doubt tid es =
    list_any (λ c. is_stopped c.reply
    && (is_exec tid c.request || (is_prepare tid c.request && is_last_of c.node c.request)))
    (calls_of es)

abbrev pub is_abandonment : Tid → What → Bool
is_abandonment tid (Abandoned t) = tid_same t tid
is_abandonment tid what = false

abbrev pub was_abandoned : Tid → List Entry → Bool
was_abandoned tid es = list_any (λ e. is_abandonment tid e.what) es

-- a Listed reply that gives the id with these participants
abbrev pub lists_doubt : Tid → List Doubt → Option (List NodeNo)
lists_doubt tid [] = None
lists_doubt tid (d ∷ ds) = if tid_same d.tid tid then Some d.participants else lists_doubt tid ds

abbrev pub Lists : Tid → List NodeNo → NodeReply → Type 0
Lists tid participants (Say.Listed doubts) = lists_doubt tid doubts ≡ Some participants
Lists tid participants reply = ⊥

-- some reply of the list gives the id with these participants
abbrev pub WasListed : Tid → List NodeNo → List Entry → Type 0
WasListed tid participants es =
    (call : Call) × Contains (calls_of es) call × Lists tid participants call.reply

-- Issues

-- a minitransaction under its id
pub record Issued : Type 0 where
  pub tid : Tid
  pub mini : Mini

abbrev pub issue_in : What → List Issued
issue_in (Issue tid mini) = record { tid = tid; mini = mini } ∷ []
issue_in what = []

-- the issues of a list
abbrev pub issues_of : List Entry → List Issued
issues_of [] = []
issues_of (e ∷ es) = issue_in e.what ++ issues_of es

abbrev pub issue_named : Tid → List Issued → Option Mini
issue_named tid [] = None
issue_named tid (i ∷ is) = if tid_same i.tid tid then Some i.mini else issue_named tid is

-- Operations

-- an operation with its number
pub record Begun : Type 0 where
  pub number : ℕ
  pub op : Op

abbrev pub under_way_after : What → Option Begun → Option Begun
under_way_after (Begin number op) before = Some (record { number = number; op = op })
under_way_after (Answered number answer) before = None
under_way_after what before = before

-- the operation under way
abbrev pub under_way : List Entry → Option Begun
under_way [] = None
under_way (e ∷ es) = under_way_after e.what (under_way es)

abbrev pub begun_in : What → List Begun
begun_in (Begin number op) = record { number = number; op = op } ∷ []
begun_in what = []

-- the operations that were begun
abbrev pub begun_of : List Entry → List Begun
begun_of [] = []
begun_of (e ∷ es) = begun_in e.what ++ begun_of es

abbrev pub since_begin_after : What → Entry → List Entry → List Entry
since_begin_after (Begin number op) e es = []
since_begin_after (Answered number answer) e es = []
since_begin_after what e es = e ∷ es

-- the entries since the last Begin or Answered
abbrev pub since_begin : List Entry → List Entry
since_begin [] = []
since_begin (e ∷ es) = since_begin_after e.what e (since_begin es)

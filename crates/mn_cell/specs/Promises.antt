-- The decisions that a node's list is owed: with each vote that which its caller will send.
use Rattle.std.specs.Prelude.{ℕ, ◌≡◌, ◌+◌, ◌≤◌, ◌<◌, ◌^◌, ◌⊎◌, Bool, true, false, not, ◌&&◌, ◌||◌}
use Rattle.std.specs.Prelude.{List, [], ◌∷◌, ◌++◌, length, filter, Option, Some, None}
use Rattle.std.specs.Prelude.{if◌then◌else◌}
use Rattle.std.specs.List.{list_any}
use Rattle.std.specs.Option.{option_map_or}
use Rattle.mn_base.specs.Ids.{client_same, tid_same}
use Rattle.mn_base.specs.declared.ids.ClientNo.{ClientNo}
use Rattle.mn_base.specs.declared.ids.NodeNo.{NodeNo}
use Rattle.mn_base.specs.declared.ids.Tid.{Tid}
use Rattle.mn_mini.specs.declared.request.Request.{Request}
use Rattle.mn_mini.specs.declared.request.Request.TheVariants as Ask
use Rattle.mn_mini.specs.declared.reply.NodeReply.{NodeReply}
use Rattle.mn_mini.specs.declared.reply.NodeReply.TheVariants as Say
use Rattle.mn_runs.specs.declared.entry.Entry.{Entry}
use Rattle.mn_runs.specs.declared.entry.What.{What}
use Rattle.mn_runs.specs.declared.entry.What.TheVariants.{Called, Stopped}
use Rattle.mn_runs.specs.Calls.{is_at, is_by}
use Rattle.mn_runs.specs.Protocol.{entries_of}
use Rattle.mn_cell.specs.declared.owing.Owed.{Owed}

-- Votes and decisions

abbrev pub if_done : Tid → NodeReply → Option Tid
if_done tid (Say.Done reads) = Some tid
if_done tid reply = None

abbrev pub if_vote : Tid → NodeReply → Option Tid
if_vote tid (Say.Vote verdict) = Some tid
if_vote tid reply = None

-- the id of which the reply is a vote: Done to a Prepare, or a vote to a Force
abbrev pub voted_by : Request → NodeReply → Option Tid
voted_by (Ask.Prepare tid participants part) reply = if_done tid reply
voted_by (Ask.Force tid) reply = if_vote tid reply
voted_by request reply = None

-- the id that the request decides
abbrev pub decided_by : Request → Option Tid
decided_by (Ask.Decide tid verdict) = Some tid
decided_by request = None

abbrev pub decided_if : Option Request → Option Tid
decided_if None = None
decided_if (Some request) = decided_by request

abbrev pub voted_in : What → Option Tid
voted_in (Called request reply) = voted_by request reply
voted_in what = None

abbrev pub decided_in : What → Option Tid
decided_in (Called request reply) = decided_by request
decided_in (Stopped request asked) = decided_if request
decided_in what = None

abbrev pub is_id : Tid → Option Tid → Bool
is_id tid other = option_map_or (λ t. tid_same t tid) other false

abbrev pub owed_by : Tid → What → Bool → Bool
owed_by tid what before = is_id tid (voted_in what) || (before && not (is_id tid (decided_in what)))

-- by these entries, newest first, the client has got a vote of the id and hasn't sent its decision
-- yet
abbrev pub is_owed : Tid → ClientNo → List Entry → Bool
is_owed tid c [] = false
is_owed tid c (e ∷ es) =
    if is_by c e then owed_by tid e.what (is_owed tid c es) else is_owed tid c es

-- by these entries of a client, newest first, it has got a vote of the id at the node and hasn't
-- sent its decision there yet
abbrev pub is_owed_at : Tid → NodeNo → List Entry → Bool
is_owed_at tid n [] = false
is_owed_at tid n (e ∷ es) =
    if is_at n e then owed_by tid e.what (is_owed_at tid n es) else is_owed_at tid n es

-- by these entries of a client it owes the node the decision of this id, if there is one
abbrev pub IsOwedAt : NodeNo → Option Tid → List Entry → Type 0
IsOwedAt n None es = ⊥
IsOwedAt n (Some tid) es = is_owed_at tid n es ≡ true

-- What is kept

abbrev pub is_owed_to : Tid → ClientNo → Owed → Bool
is_owed_to tid c o = tid_same o.tid tid && client_same o.client c

-- a decision of the id by the client is among these
abbrev pub owes : Tid → ClientNo → List Owed → Bool
owes tid c os = list_any (is_owed_to tid c) os

-- how long a node's list is, the decisions that it is owed, and for how many further ones there is
-- room
pub record OwingState : Type 0 where
  pub size : ℕ
  pub owed : List Owed
  pub spare : ℕ

-- the list is so long, and each decision that it is owed is among these
pub record IsOwing (list : List (ℕ × Entry)) (size : ℕ) (owed : List Owed) : Type 0 where
  pub counted : size ≡ length list
  pub covered : (tid : Tid) (c : ClientNo) → is_owed tid c (entries_of list) ≡ true
      → owes tid c owed ≡ true

-- the decision of this id, if there is one, by the client is among these
abbrev pub OwesTo : Option ClientNo → Option Tid → List Owed → Type 0
OwesTo None tid os = ⊥
OwesTo (Some c) None os = ⊥
OwesTo (Some c) (Some tid) os = owes tid c os ≡ true

-- the client has got a vote of this id, if there is one, and hasn't decided it yet
abbrev pub IsOwed : Option ClientNo → Option Tid → List Entry → Type 0
IsOwed None tid es = ⊥
IsOwed (Some c) None es = ⊥
IsOwed (Some c) (Some tid) es = is_owed tid c es ≡ true

-- there is room for a step: for it and the decision that it may owe, or it is itself a decision
-- that is owed
abbrev pub HasRoomForStep : OwingState → Option ClientNo → Option Tid → Type 0
HasRoomForStep s c decided =
    ((s.size + length s.owed + 2 ≤ 2 ^ 57) × (0 < s.spare)) ⊎ OwesTo c decided s.owed

abbrev pub owed_without : Tid → ClientNo → List Owed → List Owed
owed_without tid c os = filter (λ o. not (is_owed_to tid c o)) os

-- what is owed after a step of a client that decides the one id or is a vote of the other
abbrev pub owed_after : Option ClientNo → Option Tid → Option Tid → List Owed → List Owed
owed_after None decided voted os = os
owed_after (Some c) (Some tid) voted os = owed_without tid c os
owed_after (Some c) None (Some tid) os = os ++ record { tid = tid; client = c } ∷ []
owed_after (Some c) None None os = os

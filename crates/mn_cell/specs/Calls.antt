-- What a call of a node says, and what it takes before the node is asked.
use Rattle.std.specs.Prelude.{ℕ, ◌+◌, ◌≡◌, ◌≤◌, false, List, [], ◌∷◌, ◌++◌, length, map, Option}
use Rattle.std.specs.Prelude.{Some, None, ⊤, if◌then◌else◌}
use Rattle.mn_base.specs.declared.ids.NodeNo.{NodeNo}
use Rattle.mn_base.specs.declared.ids.ClientNo.{ClientNo}
use Rattle.mn_base.specs.declared.gate.StopAt.{StopAt}
use Rattle.mn_mini.specs.declared.part.PartItem.{PartItem}
use Rattle.mn_mini.specs.declared.part.PartItem.TheVariants.{Compare, Read, Write}
use Rattle.mn_mini.specs.declared.request.Request.{Request}
use Rattle.mn_mini.specs.declared.request.Request.TheVariants as Ask
use Rattle.mn_mini.specs.declared.reply.NodeReply.{NodeReply}
use Rattle.mn_mini.specs.declared.reply.NodeReply.TheVariants as Say
use Rattle.mn_mini.specs.Mini.{has_write}
use Rattle.mn_node.specs.declared.restart.RestartError.{RestartError}
use Rattle.mn_node.specs.declared.restart.RestartError.TheVariants.{Fault, Damaged, NoMemory}
use Rattle.mn_actors.specs.Lines.{Line}
use Rattle.mn_runs.specs.declared.entry.Entry.{Entry}
use Rattle.mn_runs.specs.declared.entry.What.{What}
use Rattle.mn_runs.specs.declared.entry.What.TheVariants.{Called, Stopped}
use Rattle.mn_runs.specs.Protocol.{entries_of}
use Rattle.mn_law.specs.Run.{IsLegalBy}

-- the node of this number
abbrev pub numbered : ℕ → NodeNo
numbered n = record { 0 = n }

-- an entry of a client at a node
abbrev pub entry_at : NodeNo → ClientNo → What → Entry
entry_at n c what = record { node = Some n; client = Some c; what = what }

-- the step of a call: the reply, or, where the node stopped inside the request, that
abbrev pub what_said : Request → Option StopAt → NodeReply → What
what_said request stop Say.Stopped = Stopped (Some request) stop
what_said request stop reply = Called request reply

-- whatever the reply is, the client's list allows the entry
abbrev pub MaySend : NodeNo → ClientNo → List (ℕ × Entry) → Request → Option StopAt → Type 0
MaySend n c list request stop =
    (reply : NodeReply) → IsLegalBy (entries_of list) (entry_at n c (what_said request stop reply))

-- what the law of the core asks of a line
abbrev pub IsLegalLine : List (ℕ × Entry) → List (ℕ × Entry) → Line Entry → Type 0
IsLegalLine node client line =
    (line.entry.node ≡ line.node) × (line.entry.client ≡ line.client)
    × IsLegalBy (entries_of client) line.entry

-- an entry ends a list, at a place that is not below this one; the other is the place after it
pub record EndsList (known after : ℕ) (e : Entry) (old new : List (ℕ × Entry)) : Type 0 where
  pub place : ℕ
  pub later : known ≤ place
  pub next : after ≡ place + 1
  pub ends : new ≡ old ++ (place, e) ∷ []

-- an entry ends the node's list and the client's, at one place that is not below this one; both
-- passes know the place after it
pub record EndsBoth (known node_knows client_knows : ℕ) (e : Entry)
    (node node' client client' : List (ℕ × Entry)) : Type 0 where
  pub place : ℕ
  pub later : known ≤ place
  pub next : node_knows ≡ place + 1
  pub client_next : client_knows ≡ place + 1
  pub ends_node : node' ≡ node ++ (place, e) ∷ []
  pub ends_client : client' ≡ client ++ (place, e) ∷ []

-- it adds no record where it is done
abbrev pub AddsNoRecord : Request → Type 0
AddsNoRecord (Ask.Prepare tid participants part) = ⊥
AddsNoRecord (Ask.Exec tid part) = has_write part ≡ false
AddsNoRecord request = ⊤

-- where a stop was asked for, a request that adds a record isn't done
abbrev pub ObeysStop : Option StopAt → Request → NodeReply → Type 0
ObeysStop (Some at) request (Say.Done reads) = AddsNoRecord request
ObeysStop stop request reply = ⊤

-- no damage: the disk has the node's records
abbrev pub IsUndamaged : RestartError → Type 0
IsUndamaged Fault = ⊤
IsUndamaged (Damaged at kept found) = ⊥
IsUndamaged NoMemory = ⊤

-- Copies of replies

-- the lengths of what the read items ask for, in order
abbrev pub read_lengths : List PartItem → List ℕ
read_lengths [] = []
read_lengths (Compare start bytes ∷ part) = read_lengths part
read_lengths (Read start size ∷ part) = size ∷ read_lengths part
read_lengths (Write start bytes ∷ part) = read_lengths part

-- the lengths of what is kept ready for a copy of what the request may read, if it may add a record
abbrev pub lengths_by : Request → Option (List ℕ)
lengths_by (Ask.Prepare tid participants part) = Some (read_lengths part)
lengths_by (Ask.Exec tid part) = if has_write part then Some (read_lengths part) else None
lengths_by request = None

abbrev pub lengths_of : List (List ℕ) → List ℕ
lengths_of reads = map (λ bytes. length bytes) reads

-- there are none, where there is no room
abbrev pub lengths_in : Option (List ℕ) → List ℕ
lengths_in None = []
lengths_in (Some lengths) = lengths

-- the reads have these lengths, if there are some
abbrev pub HaveLengths : List (List ℕ) → Option (List ℕ) → Type 0
HaveLengths reads None = ⊤
HaveLengths reads (Some lengths) = lengths_of reads ≡ lengths

-- where the reply has reads, they have these lengths
abbrev pub HasLengths : Option (List ℕ) → NodeReply → Type 0
HasLengths lengths (Say.Done reads) = HaveLengths reads lengths
HasLengths lengths reply = ⊤

-- a reply that may be large, and comes with no new record: so do reads for which nothing is kept
-- ready
abbrev pub IsLarge : Option (List ℕ) → NodeReply → Type 0
IsLarge lengths (Say.Done reads) = lengths ≡ None
IsLarge lengths (Say.BadCompare item found) = ⊤
IsLarge lengths (Say.Listed doubts) = ⊤
IsLarge lengths (Say.Peeked bytes) = ⊤
IsLarge lengths reply = ⊥

-- Worked runs over two nodes.
use Rattle.std.proofs.Common.{◌≡◌, ℕ, true, false, List, [], ◌∷◌, ◌++◌, length, replicate, Option, Some, None, refl}
use Rattle.mn_base.specs.declared.ids.NodeNo.{NodeNo}
use Rattle.mn_base.specs.declared.ids.ClientNo.{ClientNo}
use Rattle.mn_base.specs.declared.ids.Tid.{Tid}
use Rattle.mn_mini.specs.declared.item.Item.TheVariants.{Write}
use Rattle.mn_mini.specs.declared.record.Record.TheVariants.{Voted, Decided, Forced}
use Rattle.mn_mini.specs.declared.request.Request.{Request}
use Rattle.mn_mini.specs.declared.request.Request.TheVariants as Ask
use Rattle.mn_mini.specs.declared.reply.NodeReply.{NodeReply}
use Rattle.mn_mini.specs.declared.reply.NodeReply.TheVariants as Say
use Rattle.mn_mini.specs.Mini.{Mini, part_of, participants_of}
use Rattle.mn_mini.specs.Node.{answer}
use Rattle.mn_runs.specs.declared.entry.Entry.{Entry}
use Rattle.mn_runs.specs.declared.entry.What.{What}
use Rattle.mn_runs.specs.declared.entry.What.TheVariants.{Issue, Called}
use Rattle.mn_runs.specs.Protocol.{Start, base_at, records_of, start_of}
use Rattle.mn_runs.specs.Calls.{Issued}
use Rattle.mn_runs.specs.Commits.{committed_by, flat_after}

abbrev pub node : ℕ → NodeNo
node n = record { 0 = n }

abbrev pub client : ℕ → ClientNo
client c = record { 0 = c }

abbrev pub id : ℕ → ℕ → Tid
id c serial = record { run = 1; client = client c; serial = serial }

abbrev pub start : Start
start = start_of ([] ∷ [] ∷ [])

-- as much of a flat memory as they write
abbrev pub memory : List (List ℕ)
memory = replicate 32 0 ∷ replicate 32 0 ∷ []

-- a request that a client makes at a node, answered by its records
abbrev pub call : ℕ → ℕ → Request → List Entry → List Entry
call c n request past =
    record { node = Some (node n); client = Some (client c); what = Called request (answer (base_at start (node n)) (records_of start past (node n)) request).reply } ∷ past

abbrev pub issue : ℕ → ℕ → Mini → List Entry → List Entry
issue c serial mini past = record { node = None; client = Some (client c); what = Issue (id c serial) mini } ∷ past

-- what a list commits, each with its place, the newest first
abbrev with_commit : ℕ → Option Issued → List (ℕ × Tid) → List (ℕ × Tid)
with_commit place None rest = rest
with_commit place (Some i) rest = (place, i.tid) ∷ rest

abbrev pub commits : List Entry → List (ℕ × Tid)
commits [] = []
commits (e ∷ past) = with_commit (length past) (committed_by past e) (commits past)

-- a writes 61 at start 20 of both nodes, b writes 62 at start 21 of node 0
abbrev pub a_writes : Mini
a_writes = record { nodes = 2; items = Write (node 0) 20 (97 ∷ []) ∷ (Write (node 1) 20 (97 ∷ []) ∷ []) }

abbrev pub b_writes : Mini
b_writes = record { nodes = 2; items = Write (node 0) 21 (98 ∷ []) ∷ [] }

abbrev pub prepare : ℕ → ℕ → Mini → ℕ → Request
prepare c serial mini n = Ask.Prepare (id c serial) (participants_of mini) (part_of mini (node n))

abbrev pub place_3 : List Entry
place_3 = call 1 0 (Ask.Exec (id 1 1) (part_of b_writes (node 0))) (call 0 0 (prepare 0 1 a_writes 0) (issue 1 1 b_writes (issue 0 1 a_writes [])))

abbrev pub place_4 : List Entry
place_4 = call 0 1 (prepare 0 1 a_writes 1) place_3

-- b takes effect at its Exec, a with its second vote
flat_example_3 : flat_after memory place_3 ≡ (replicate 21 0 ++ 98 ∷ [] ++ replicate 10 0) ∷ replicate 32 0 ∷ []
flat_example_3 = refl

flat_example_4 : flat_after memory place_4 ≡ (replicate 20 0 ++ 97 ∷ 98 ∷ [] ++ replicate 10 0) ∷ (replicate 20 0 ++ 97 ∷ [] ++ replicate 11 0) ∷ []
flat_example_4 = refl

-- two recovery coordinators race a client over one id
abbrev pub raced : List Entry
raced =
    call 0 0 (Ask.Decide (id 0 1) false) (
    call 18 0 (Ask.Decide (id 0 1) false) (call 17 1 (Ask.Decide (id 0 1) false) (
    call 17 0 (Ask.Decide (id 0 1) false) (call 18 1 (Ask.Force (id 0 1)) (call 18 0 (Ask.Force (id 0 1)) (
    call 0 1 (prepare 0 1 a_writes 1) (call 17 1 (Ask.Force (id 0 1)) (call 17 0 (Ask.Force (id 0 1)) (
    call 18 0 Ask.List (call 17 0 Ask.List (call 0 0 (prepare 0 1 a_writes 0) (issue 0 1 a_writes [])))
    )))
    )))
    ))
    )

abbrev pub replies_in : What → List NodeReply
replies_in (Called request reply) = reply ∷ []
replies_in what = []

abbrev pub replies : List Entry → List NodeReply
replies [] = []
replies (e ∷ es) = replies es ++ replies_in e.what

raced_example : replies raced
    ≡ Say.Done []
    ∷ Say.Listed (record { tid = id 0 1; participants = node 0 ∷ node 1 ∷ [] } ∷ [])
    ∷ Say.Listed (record { tid = id 0 1; participants = node 0 ∷ node 1 ∷ [] } ∷ [])
    ∷ Say.Vote true
    ∷ Say.Vote false
    ∷ Say.BadForced
    ∷ Say.Vote true
    ∷ Say.Vote false
    ∷ Say.Decided
    ∷ Say.Decided
    ∷ Say.Decided
    ∷ Say.Decided
    ∷ []
raced_example = refl

raced_example_records : records_of start raced (node 0) ≡ Decided (id 0 1) false ∷ Voted (id 0 1) (node 0 ∷ node 1 ∷ []) (part_of a_writes (node 0)) ∷ []
raced_example_records = refl

raced_example_records_1 : records_of start raced (node 1) ≡ Forced (id 0 1) ∷ []
raced_example_records_1 = refl

-- nothing of it is committed
raced_example_commits : commits raced ≡ []
raced_example_commits = refl

raced_example_flat : flat_after memory raced ≡ memory
raced_example_flat = refl

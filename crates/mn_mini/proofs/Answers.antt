-- A worked example: what a node answers to one request after another.
use Rattle.std.proofs.Common.{◌≡◌, ℕ, true, false, List, [], ◌∷◌, replicate, refl}
use Rattle.mn_base.specs.declared.ids.NodeNo.{NodeNo}
use Rattle.mn_base.specs.declared.ids.Tid.{Tid}
use Rattle.mn_mini.specs.declared.part.PartItem.TheVariants.{Compare, Read, Write}
use Rattle.mn_mini.specs.declared.record.Record.{Record}
use Rattle.mn_mini.specs.declared.record.Record.TheVariants.{Voted, Decided, Forced}
use Rattle.mn_mini.specs.declared.request.Request.{Request}
use Rattle.mn_mini.specs.declared.request.Request.TheVariants as Ask
use Rattle.mn_mini.specs.declared.reply.NodeReply.{NodeReply}
use Rattle.mn_mini.specs.declared.reply.NodeReply.TheVariants as Say
use Rattle.mn_mini.specs.Node.{answer, with_added}

-- the replies to requests, one after another, and the records then, the newest first
abbrev replies : List ℕ → List Record → List Request → List NodeReply
replies base records [] = []
replies base records (r ∷ rs) = (answer base records r).reply ∷ replies base (with_added (answer base records r).added records) rs

abbrev records : List ℕ → List Record → List Request → List Record
records base rs [] = rs
records base rs (q ∷ qs) = records base (with_added (answer base rs q).added rs) qs

abbrev id : ℕ → ℕ → Tid
id client serial = record { run = 1; client = record { 0 = client }; serial = serial }

abbrev both : List NodeNo
both = record { 0 = 0 } ∷ (record { 0 = 1 } ∷ [])

abbrev base : List ℕ
base = 9 ∷ 9 ∷ 9 ∷ 9 ∷ replicate 28 0

-- what is asked, one after another:'s answers, on a space of 32 bytes with the count at 16 and a
-- slot at 28
abbrev asked : List Request
asked =
    Ask.Prepare (id 0 1) both (Compare 16 (replicate 8 0) ∷ (Write 28 (97 ∷ []) ∷ []))
    ∷ Ask.Prepare (id 1 1) both (Write 20 (1 ∷ []) ∷ [])
    ∷ Ask.Exec (id 1 2) (Read 16 8 ∷ [])
    ∷ Ask.Force (id 1 3)
    ∷ Ask.Prepare (id 1 3) both (Read 0 1 ∷ [])
    ∷ Ask.Force (id 0 1)
    ∷ Ask.Prepare (id 1 4) both (Write 20 (1 ∷ []) ∷ [])
    ∷ Ask.List
    ∷ Ask.Peek 28 1
    ∷ Ask.Decide (id 0 1) true
    ∷ Ask.Peek 28 1
    ∷ Ask.Prepare (id 1 5) both (Compare 28 (0 ∷ []) ∷ [])
    ∷ Ask.Decide (id 0 1) false
    ∷ []

node_example : replies base [] asked
    ≡ Say.Done []
    ∷ Say.BadLock 20 1 (id 0 1)
    ∷ Say.Done (replicate 8 0 ∷ [])
    ∷ Say.Vote false
    ∷ Say.BadForced
    ∷ Say.Vote true
    ∷ Say.BadLock 20 1 (id 0 1)
    ∷ Say.Listed (record { tid = id 0 1; participants = both } ∷ [])
    ∷ Say.Peeked (0 ∷ [])
    ∷ Say.Decided
    ∷ Say.Peeked (97 ∷ [])
    ∷ Say.BadCompare 0 (97 ∷ [])
    ∷ Say.Decided
    ∷ []
node_example = refl

node_example_records : records base [] asked
    ≡ Decided (id 0 1) true
    ∷ Forced (id 1 3)
    ∷ Voted (id 0 1) both (Compare 16 (replicate 8 0) ∷ (Write 28 (97 ∷ []) ∷ []))
    ∷ []
node_example_records = refl

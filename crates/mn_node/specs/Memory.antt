-- What a node keeps in memory.
use Rattle.std.specs.Prelude.{◌≡◌, ◌≤◌, ℕ, ◌+◌, Bool, List, length, reverse, Option, None}
use Rattle.std.specs.Prelude.{take, vec_len, vec_capacity}
use Rattle.std.specs.List.{list_any, AllByRecursion}
use Rattle.mn_base.specs.Ids.{tid_same}
use Rattle.mn_base.specs.declared.ids.Tid.{Tid}
use Rattle.mn_mini.specs.declared.part.PartItem.{PartItem}
use Rattle.mn_mini.specs.declared.record.Record.{Record}
use Rattle.mn_mini.specs.declared.reply.NodeReply.TheVariants as Say
use Rattle.mn_mini.specs.Mini.{space_size}
use Rattle.mn_mini.specs.Node.{HeldPart, held_parts, has_forced, space_of, Response, only_reply}
use Rattle.mn_mini.specs.Node.{after_locks, clash_of}
use Rattle.mn_mini.specs.RecordGrammar.{IsRecord}
use Rattle.mn_mini.specs.Short.{short}
use Rattle.mn_page.specs.Base.{base_of}
use Rattle.mn_locks.specs.declared.hold.Hold.{Hold}
use Rattle.mn_node.specs.declared.memory.Memory.{Memory}
use Rattle.mn_node.specs.declared.memory.Shortened.{Shortened}
use Rattle.mn_node.specs.declared.memory.Tested.{Tested}
use Rattle.mn_node.specs.declared.memory.Tested.TheVariants as Result
use Rattle.mn_node.specs.declared.held.Vote.{Vote}
use Rattle.mn_node.specs.Held.{AreHeldVotes}
use Rattle.mn_node.specs.Part.{holds_by}

-- the id is among these
abbrev pub is_among : List Tid → Tid → Bool
is_among tids tid = list_any (λ t. tid_same t tid) tids

-- what is kept beside the records, which stand oldest first, is what they make of the base space
pub record IsMadeByRecords (base : List ℕ) (records : List Record) (space : List ℕ)
    (holds : List Hold)
    (forced : List Tid) (held : List Vote) : Type 0 where
  pub space_is : space ≡ space_of base (reverse records)
  pub size : length space ≡ space_size
  pub holds_are : holds ≡ holds_by (held_parts (reverse records))
  pub forced_are : (tid : Tid) → is_among forced tid ≡ has_forced (reverse records) tid
  pub held_are : AreHeldVotes records held
  pub sound : AllByRecursion IsRecord records

abbrev pub IsMemory : Memory → Type 0
IsMemory m =
    IsMadeByRecords (base_of m.nodes m.node) m.records.items m.space m.locks.holds
    m.forced.items
    m.held.items

-- what is kept of the first records as the log has them: their shortened list, and the votes for
-- the parts that they hold
pub record IsFront (records : List Record) (cut : ℕ) (front : Shortened) : Type 0 where
  pub within : cut ≤ length records
  pub listed : front.list.items ≡ short (take cut records)
  pub held : AreHeldVotes (take cut records) front.held.items

abbrev pub HasFront : Memory → Type 0
HasFront m = IsFront m.records.items m.cut m.front

-- the room for a decision of each held part
abbrev pub HasDecisionRoom : Memory → Type 0
HasDecisionRoom m = vec_len m.records + vec_len m.held ≤ vec_capacity m.records

-- what the test of a part tells, with the record that a yes adds
abbrev pub response_of : Tested → Option Record → Response
response_of (Result.Yes reads) added = record { reply = Say.Done reads; added = added }
response_of (Result.Locked held) added =
    only_reply (Say.BadLock held.range.start held.range.length held.holder)
response_of (Result.Differs differs) added = only_reply (Say.BadCompare differs.item differs.found)

-- the test tells what the locks and then the compares say of the part
abbrev pub IsTested : List ℕ → List Hold → Tid → List PartItem → Tested → Type 0
IsTested space holds tid part tested =
    (hs : List HeldPart) → holds ≡ holds_by hs → (added : Option Record)
    → after_locks space part added (clash_of hs tid part) ≡ response_of tested added

-- where the part conflicts with none that is held, the test tells what the compares say of it
abbrev pub IsTestedFree : List ℕ → List PartItem → Tested → Type 0
IsTestedFree space part tested =
    (added : Option Record) → after_locks space part added None ≡ response_of tested added

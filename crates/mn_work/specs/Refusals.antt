-- Why a try failed whose minitransaction a node refused.
use Rattle.std.specs.Prelude.{ℕ, List, [], ◌∷◌, ◌++◌, Option, Some, None, if◌then◌else◌, slice_get}
use Rattle.std.specs.Option.{option_map, option_to_list}
use Rattle.mn_base.specs.Ids.{node_same}
use Rattle.mn_base.specs.declared.ids.NodeNo.{NodeNo}
use Rattle.mn_base.specs.declared.ids.Tid.{Tid}
use Rattle.mn_base.specs.declared.answer.Busy.{Busy}
use Rattle.mn_base.specs.declared.answer.Busy.TheVariants.{Lock, Moved, Forced}
use Rattle.mn_mini.specs.declared.item.Item.{Item}
use Rattle.mn_mini.specs.declared.item.Item.TheVariants.{Compare, Read, Write}
use Rattle.mn_mini.specs.declared.reply.NodeReply.{NodeReply}
use Rattle.mn_mini.specs.declared.reply.NodeReply.TheVariants as Say
use Rattle.mn_mini.specs.Mini.{Mini}
use Rattle.mn_work.specs.declared.causes.Expected.{Expected}

-- where an item compares at a node, and what it expects, if it does
abbrev pub compared : NodeNo → Item → Option (ℕ × List ℕ)
compared at (Compare node start bytes) = if node_same node at then Some (start, bytes) else None
compared at (Read node start length) = None
compared at (Write node start bytes) = None

-- a compare as it is lent
abbrev pub expected : Expected → ℕ × List ℕ
expected e = (e.start, e.bytes.now)

-- the compares at a node, in the order of the items
abbrev pub compares_at : NodeNo → List Item → List (ℕ × List ℕ)
compares_at at [] = []
compares_at at (item ∷ items) = option_to_list (compared at item) ++ compares_at at items

-- the cause that a refusing reply tells; none where it is no refusal
abbrev pub refusal_of : Tid → Mini → NodeNo → NodeReply → Option Busy
refusal_of tid mini node (Say.BadLock start length holder) = Some (Lock node start length holder)
refusal_of tid mini node (Say.BadCompare item found) =
    option_map (λ c. Moved node c.0 c.1 found) (slice_get (compares_at node mini.items) item)
refusal_of tid mini node Say.BadForced = Some (Forced tid)
refusal_of tid mini node reply = None

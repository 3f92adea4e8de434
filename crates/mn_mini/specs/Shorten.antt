-- What the program that shortens a list keeps while it goes back over the records, and what that
-- tells of the newer ones.
use Rattle.std.specs.Prelude.{◌≡◌, Bool, ◌&&◌, nat_eq, List, [], ◌∷◌, ◌++◌, map, Option, Some}
use Rattle.std.specs.Prelude.{None, ⊤, if◌then◌else◌}
use Rattle.std.specs.List.{list_any}
use Rattle.std.specs.Option.{option_map_or}
use Rattle.std.specs.HashMap.{get}
use Rattle.std.specs.HashSet.{HashSet, contains}
use Rattle.mn_base.specs.Ids.{tid_same}
use Rattle.mn_base.specs.declared.ids.Tid.{Tid}
use Rattle.mn_base.specs.declared.ids.Range.{Range}
use Rattle.mn_mini.specs.declared.part.PartItem.{PartItem}
use Rattle.mn_mini.specs.declared.record.Record.{Record}
use Rattle.mn_mini.specs.declared.record.Record.TheVariants.{Voted, Executed, Decided, Forced}
use Rattle.mn_mini.specs.declared.shortening.RangeKey.{RangeKey}
use Rattle.mn_mini.specs.declared.shortening.IdKey.{IdKey}
use Rattle.mn_mini.specs.declared.shortening.Parts.{Parts}
use Rattle.mn_mini.specs.declared.shortening.Held.{Held}
use Rattle.mn_mini.specs.declared.shortening.Kept.{Kept}
use Rattle.mn_mini.specs.declared.shortening.Ended.{Ended}
use Rattle.mn_mini.specs.declared.shortening.Ended.TheVariants as End
use Rattle.mn_mini.specs.declared.shortening.Newer.{Newer}
use Rattle.mn_mini.specs.Node.{HeldPart, held_parts}
use Rattle.mn_mini.specs.Short.{writes_just, remaining, shortened_below, shortened}
use Rattle.mn_mini.specs.Short.{Fate, Open, Dropped, Applied}

-- Ranges and ids as they are looked up

abbrev pub range_key : Range → RangeKey
range_key range = record { start = range.start; length = range.length }

abbrev pub ranges_same : RangeKey → RangeKey → Bool
ranges_same a b = nat_eq a.start b.start && nat_eq a.length b.length

abbrev pub id_key : Tid → IdKey
id_key tid = record { run = tid.run; client = tid.client.0; serial = tid.serial }

abbrev pub keys_same : IdKey → IdKey → Bool
keys_same a b = nat_eq a.run b.run && (nat_eq a.client b.client && nat_eq a.serial b.serial)

-- Ranges that are written

-- they are those that these items write
abbrev pub OverTells : {S : Type 0} → HashSet RangeKey S → List PartItem → Type 0
OverTells over items =
    (range : Range)
    → contains ranges_same over (range_key range) ≡ list_any (writes_just range) items

-- Parts of an id

-- the parts that are held for an id, the oldest first
abbrev pub held_of : Tid → List HeldPart → List (List PartItem)
held_of tid [] = []
held_of tid (h ∷ hs) =
    if tid_same h.tid tid then held_of tid hs ++ h.part ∷ [] else held_of tid hs

abbrev pub joined : List (List PartItem) → List PartItem
joined [] = []
joined (part ∷ parts) = part ++ joined parts

-- what remains of each part, where they are applied in turn and `over` behind them
abbrev pub remaining_each : List (List PartItem) → List PartItem → List (List PartItem)
remaining_each [] over = []
remaining_each (part ∷ parts) over =
    remaining part (joined parts ++ over) ∷ remaining_each parts over

-- for each decision the parts that it ends, the oldest decision first; the records stand newest
-- first
abbrev pub ended_lists : List Record → List (List (List PartItem))
ended_lists [] = []
ended_lists (Voted tid participants part ∷ older) = ended_lists older
ended_lists (Executed tid part ∷ older) = ended_lists older
ended_lists (Decided tid verdict ∷ older) =
    ended_lists older ++ held_of tid (held_parts older) ∷ []
ended_lists (Forced tid ∷ older) = ended_lists older

abbrev pub parts_of : Parts → List (List PartItem)
parts_of p = map (λ part. part.now) p.parts.items

abbrev pub held_at : Held → Tid → List (List PartItem)
held_at h tid = option_map_or parts_of (get keys_same h.held (id_key tid)) []

-- it has the parts that are held behind these records, which stand newest first
abbrev pub HeldTells : Held → List Record → Type 0
HeldTells h records = (tid : Tid) → held_at h tid ≡ held_of tid (held_parts records)

-- What the newer records make of the older ones

abbrev pub queue_of : Kept → List (List PartItem)
queue_of k = map (λ left. left.items) k.parts.items

-- of an id with this fate, for which these parts are held, this is kept
abbrev pub FateTells : Option Ended → Fate → List (List PartItem) → Type 0
FateTells None Open parts = ⊤
FateTells None Dropped parts = ⊥
FateTells None (Applied over) parts = ⊥
FateTells (Some End.Dropped) Open parts = ⊥
FateTells (Some End.Dropped) Dropped parts = ⊤
FateTells (Some End.Dropped) (Applied over) parts = ⊥
FateTells (Some (End.Applied k)) Open parts = ⊥
FateTells (Some (End.Applied k)) Dropped parts = ⊥
FateTells (Some (End.Applied k)) (Applied over) parts = queue_of k ≡ remaining_each parts over

-- the newer records apply these items and make this of the votes; these parts are held
pub record NewerTells (newer : Newer) (over : List PartItem) (fates : Tid → Fate)
    (hs : List HeldPart) : Type 0 where
  pub written : OverTells newer.over over
  pub ended : (tid : Tid)
      → FateTells (get keys_same newer.ended (id_key tid)) (fates tid) (held_of tid hs)

-- with what was kept so far, the newest first, the older records make the whole shortened list
pub record Goes (newer : Newer) (kept older whole : List Record) : Type 0 where
  pub over : List PartItem
  pub fates : Tid → Fate
  pub tells : NewerTells newer over fates (held_parts older)
  pub goes : kept ++ shortened_below over fates older ≡ shortened whole

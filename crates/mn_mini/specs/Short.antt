-- A list of records without the writes that are written over. As elsewhere, lists of records stand
-- newest first; `short` alone takes and gives its list as it is logged, oldest first.
use Rattle.std.specs.Prelude.{Bool, true, false, ◌&&◌, nat_eq, List, [], ◌∷◌, ◌++◌, length}
use Rattle.std.specs.Prelude.{reverse, if◌then◌else◌}
use Rattle.std.specs.List.{list_any}
use Rattle.mn_base.specs.Ids.{tid_same}
use Rattle.mn_base.specs.declared.ids.Tid.{Tid}
use Rattle.mn_base.specs.declared.ids.Range.{Range}
use Rattle.mn_mini.specs.declared.part.PartItem.{PartItem}
use Rattle.mn_mini.specs.declared.part.PartItem.TheVariants.{Compare, Read, Write}
use Rattle.mn_mini.specs.declared.record.Record.{Record}
use Rattle.mn_mini.specs.declared.record.Record.TheVariants.{Voted, Executed, Decided, Forced}
use Rattle.mn_mini.specs.Mini.{range_of}
use Rattle.mn_mini.specs.Node.{HeldPart, held_parts}

-- Of one part

-- it writes just this range
abbrev pub writes_just : Range → PartItem → Bool
writes_just range (Write start bytes) =
    nat_eq start range.start && nat_eq (length bytes) range.length
writes_just range item = false

-- the write items of a part that remain where `over` is applied behind it: those whose range no
-- later item writes
abbrev pub remaining : List PartItem → List PartItem → List PartItem
remaining [] over = []
remaining (Compare start bytes ∷ part) over = remaining part over
remaining (Read start size ∷ part) over = remaining part over
remaining (Write start bytes ∷ part) over =
    if list_any (writes_just (range_of (Write start bytes))) (part ++ over)
    then remaining part over
    else Write start bytes ∷ remaining part over

-- the range of the first item, read
abbrev pub first_read : List PartItem → List PartItem
first_read [] = []
first_read (item ∷ part) = Read (range_of item).start (range_of item).length ∷ []

-- Of a list

-- what the newer records make of an older vote for an id
pub data Fate : Type 0 where
  -- none of them decides it
  Open : Fate
  -- the first that decides it says no
  Dropped : Fate
  -- the first that decides it says yes, and behind the vote's part these items are applied
  Applied : (over : List PartItem) → Fate

-- a vote before this part's vote meets the same decision, and its part is applied before this one
abbrev pub fate_before : Fate → List PartItem → Fate
fate_before (Applied over) part = Applied (part ++ over)
fate_before fate part = fate

abbrev pub with_fate : Tid → Fate → (Tid → Fate) → Tid → Fate
with_fate tid fate fates t = if tid_same t tid then fate else fates t

abbrev pub or_first_read : List PartItem → List PartItem → List PartItem
or_first_read part [] = first_read part
or_first_read part (item ∷ items) = item ∷ items

-- what a vote keeps of its part: all until it is decided; then the write items that were applied
-- and remain, or the range of its first item, read, where none does
abbrev pub kept_part : Fate → List PartItem → List PartItem
kept_part Open part = part
kept_part Dropped part = first_read part
kept_part (Applied over) part = or_first_read part (remaining part over)

-- the items of the id's held parts, as a yes applies them: the oldest part first
abbrev pub held_items : Tid → List HeldPart → List PartItem
held_items tid [] = []
held_items tid (h ∷ hs) =
    if tid_same h.tid tid then held_items tid hs ++ h.part else held_items tid hs

-- an execution with these items goes where there are none
abbrev pub executed_over : Tid → List PartItem → List Record → List Record
executed_over tid [] records = records
executed_over tid (item ∷ items) records = Executed tid (item ∷ items) ∷ records

-- the records, where newer ones apply these items and make this of the votes
abbrev pub shortened_below : List PartItem → (Tid → Fate) → List Record → List Record
shortened_below over fates [] = []
shortened_below over fates (Voted tid participants part ∷ older) =
    Voted tid participants (kept_part (fates tid) part)
    ∷ shortened_below over (with_fate tid (fate_before (fates tid) part) fates) older
shortened_below over fates (Executed tid part ∷ older) =
    executed_over tid (remaining part over) (shortened_below (part ++ over) fates older)
shortened_below over fates (Decided tid true ∷ older) =
    Decided tid true
    ∷ shortened_below (held_items tid (held_parts older) ++ over)
    (with_fate tid (Applied over) fates) older
shortened_below over fates (Decided tid false ∷ older) =
    Decided tid false ∷ shortened_below over (with_fate tid Dropped fates) older
shortened_below over fates (Forced tid ∷ older) = Forced tid ∷ shortened_below over fates older

-- no newer record decides any id
abbrev pub all_open : Tid → Fate
all_open tid = Open

abbrev pub shortened : List Record → List Record
shortened records = shortened_below [] all_open records

-- the list as it is logged, shortened
abbrev pub short : List Record → List Record
short records = reverse (shortened (reverse records))

-- The bytes of a record. Each record in the grammar has one spelling: its fields in order, with
-- nothing behind them.
use Rattle.std.specs.Prelude.{◌≡◌, ℕ, ◌^◌, ◌<◌, ◌≤◌, Bool, true, false, ◌&&◌, nat_le, nat_lt}
use Rattle.std.specs.Prelude.{IsTrue, List, [], ◌∷◌, ◌++◌, length, map, ⊤}
use Rattle.std.specs.List.{flat_map, AllByRecursion}
use Rattle.byteorder.specs.Endian.{big_bytes}
use Rattle.mn_base.specs.declared.ids.NodeNo.{NodeNo}
use Rattle.mn_base.specs.declared.ids.Tid.{Tid}
use Rattle.mn_base.specs.declared.ids.Range.{Range}
use Rattle.mn_mini.specs.declared.part.PartItem.{PartItem}
use Rattle.mn_mini.specs.declared.part.PartItem.TheVariants as Bare
use Rattle.mn_mini.specs.declared.record.Record.{Record}
use Rattle.mn_mini.specs.declared.record.Record.TheVariants.{Voted, Executed, Decided, Forced}
use Rattle.mn_mini.specs.Mini.{range_of, has_write, IsInSpace}

-- Spelling

-- the run in four bytes, the client in one, the serial in four
abbrev pub tid_bytes : Tid → List ℕ
tid_bytes tid = big_bytes 4 tid.run ++ (tid.client.0 ∷ big_bytes 4 tid.serial)

-- the start and the length, in four bytes each
abbrev pub range_bytes : Range → List ℕ
range_bytes range = big_bytes 4 range.start ++ big_bytes 4 range.length

-- 1 compare, 2 read, 3 write
abbrev pub kind_of : PartItem → ℕ
kind_of (Bare.Compare start bytes) = 1
kind_of (Bare.Read start length) = 2
kind_of (Bare.Write start bytes) = 3

-- the bytes that an item brings
abbrev pub data_of : PartItem → List ℕ
data_of (Bare.Compare start bytes) = bytes
data_of (Bare.Read start length) = []
data_of (Bare.Write start bytes) = bytes

-- the kind, the range, the bytes
abbrev pub item_bytes : PartItem → List ℕ
item_bytes item = kind_of item ∷ (range_bytes (range_of item) ++ data_of item)

-- the number of items in two bytes, then the items
abbrev pub part_bytes : List PartItem → List ℕ
part_bytes part = big_bytes 2 (length part) ++ flat_map item_bytes part

abbrev pub numbers_of : List NodeNo → List ℕ
numbers_of participants = map (λ n. n.0) participants

-- how many, then their numbers, in one byte each
abbrev pub participants_bytes : List NodeNo → List ℕ
participants_bytes participants = length participants ∷ numbers_of participants

-- 0 no, 1 yes
abbrev pub verdict_byte : Bool → ℕ
verdict_byte false = 0
verdict_byte true = 1

-- 1 voted, 2 executed, 3 decided, 4 forced
abbrev pub record_kind : Record → ℕ
record_kind (Voted tid participants part) = 1
record_kind (Executed tid part) = 2
record_kind (Decided tid verdict) = 3
record_kind (Forced tid) = 4

-- the id, which stands behind the kind
abbrev pub head_bytes : Record → List ℕ
head_bytes (Voted tid participants part) = tid_bytes tid
head_bytes (Executed tid part) = tid_bytes tid
head_bytes (Decided tid verdict) = tid_bytes tid
head_bytes (Forced tid) = tid_bytes tid

-- what stands behind the id
abbrev pub behind_tid : Record → List ℕ
behind_tid (Voted tid participants part) = participants_bytes participants ++ part_bytes part
behind_tid (Executed tid part) = part_bytes part
behind_tid (Decided tid verdict) = verdict_byte verdict ∷ []
behind_tid (Forced tid) = []

-- the kind, the id, and what the kind goes on with
abbrev pub record_bytes : Record → List ℕ
record_bytes r = record_kind r ∷ (head_bytes r ++ behind_tid r)

-- Rules

-- the run and the serial count from 1, and there are actors 0 to 20
abbrev pub IsTid : Tid → Type 0
IsTid tid =
    (1 ≤ tid.run) × (tid.run < 2 ^ 32) × (tid.client.0 ≤ 20) × (1 ≤ tid.serial)
    × (tid.serial < 2 ^ 32)

abbrev pub IsRange : Range → Type 0
IsRange range = IsInSpace range.start range.length

abbrev pub IsPartItem : PartItem → Type 0
IsPartItem item = IsRange (range_of item)

-- no item is of a kind below the one before it, where one of this kind stands before them
abbrev pub are_in_order : ℕ → List PartItem → Bool
are_in_order kind [] = true
are_in_order kind (item ∷ items) = nat_le kind (kind_of item) && are_in_order (kind_of item) items

-- 1 to 1,024 items inside the space: compares, then reads, then writes
pub record IsPart (part : List PartItem) : Type 0 where
  pub some : 1 ≤ length part
  pub few : length part ≤ 1024
  pub order : IsTrue (are_in_order 1 part)
  pub inside : AllByRecursion IsPartItem part

-- each number is above the one before it
abbrev pub are_ascending : List ℕ → Bool
are_ascending [] = true
are_ascending (a ∷ []) = true
are_ascending (a ∷ (b ∷ cs)) = nat_lt a b && are_ascending (b ∷ cs)

-- 2 to 8 nodes in order
abbrev pub AreParticipants : List NodeNo → Type 0
AreParticipants participants =
    (2 ≤ length participants) × (length participants ≤ 8)
    × IsTrue (are_ascending (numbers_of participants))

-- the id is one that there may be
abbrev pub MayBegin : Record → Type 0
MayBegin (Voted tid participants part) = IsTid tid
MayBegin (Executed tid part) = IsTid tid
MayBegin (Decided tid verdict) = IsTid tid
MayBegin (Forced tid) = IsTid tid

-- what may stand behind the id
abbrev pub MayFollow : Record → Type 0
MayFollow (Voted tid participants part) = AreParticipants participants × IsPart part
MayFollow (Executed tid part) = IsPart part × IsTrue (has_write part)
MayFollow (Decided tid verdict) = ⊤
MayFollow (Forced tid) = ⊤

-- the record is in the grammar
pub record IsRecord (r : Record) : Type 0 where
  pub id : MayBegin r
  pub follows : MayFollow r

-- Reading

-- the bytes begin with the spelling of a value that may stand there
pub record Begins {X : Type 0} (Is : X → Type 0) (spelling : X → List ℕ) (bytes : List ℕ)
    (value : X) (rest : List ℕ) : Type 0 where
  pub may : Is value
  pub spelled : bytes ≡ spelling value ++ rest

-- they begin with no such spelling
abbrev pub NoneBegins : {X : Type 0} → (X → Type 0) → (X → List ℕ) → List ℕ → Type 0
NoneBegins {X = X} Is spelling bytes =
    (value : X) (rest : List ℕ) → Begins Is spelling bytes value rest → ⊥

-- bytes, so many, as they stand
abbrev pub as_they_stand : List ℕ → List ℕ
as_they_stand bytes = bytes

abbrev pub HasLength : ℕ → List ℕ → Type 0
HasLength n bytes = length bytes ≡ n

-- an item of this kind or a later one
abbrev pub IsItemFrom : ℕ → PartItem → Type 0
IsItemFrom kind item = IsPartItem item × (kind ≤ kind_of item)

-- so many items in order, where one of this kind stands before them
pub record AreItems (count kind : ℕ) (items : List PartItem) : Type 0 where
  pub count_is : length items ≡ count
  pub order : IsTrue (are_in_order kind items)
  pub inside : AllByRecursion IsPartItem items

-- the record is of this id
abbrev pub HasTid : Tid → Record → Type 0
HasTid tid (Voted t participants part) = tid ≡ t
HasTid tid (Executed t part) = tid ≡ t
HasTid tid (Decided t verdict) = tid ≡ t
HasTid tid (Forced t) = tid ≡ t

-- the bytes behind the id are those of a record of this kind and id
pub record BodyFollows (kind : ℕ) (tid : Tid) (bytes : List ℕ) (r : Record) : Type 0 where
  pub kind_is : kind ≡ record_kind r
  pub tid_is : HasTid tid r
  pub follows : MayFollow r
  pub spelled : bytes ≡ behind_tid r

-- they are those of no record of this kind and id
abbrev pub NoneGoesOn : ℕ → Tid → List ℕ → Type 0
NoneGoesOn kind tid bytes = (r : Record) → BodyFollows kind tid bytes r → ⊥

-- the bytes spell this record
pub record Spells (bytes : List ℕ) (r : Record) : Type 0 where
  pub may : IsRecord r
  pub spelled : bytes ≡ record_bytes r

-- they spell none
abbrev pub SpellsNone : List ℕ → Type 0
SpellsNone bytes = (r : Record) → Spells bytes r → ⊥

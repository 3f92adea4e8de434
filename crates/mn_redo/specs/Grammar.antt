-- What the bytes of a disk stand for.
use Rattle.std.specs.Prelude.{◌<◌, ◌≤◌, ◌≡◌, ◌≢◌, ◌⊎◌, ◌^◌, ◌%◌, ℕ, zero, suc, ◌+◌, List, [], ◌∷◌}
use Rattle.std.specs.Prelude.{◌++◌, length, take, drop, get_or, max, nat_lt, nat_le, if◌then◌else◌}
use Rattle.std.specs.Prelude.{◌==◌}
use Rattle.std.specs.Int.{w32, w64, to_be_bytes, from_be_bytes}
use Rattle.mn_ckpt.specs.Area.{gate_of, image_of}

-- the first 16 bytes: an open gate, the letters MNLOG, the format, the number of the node, that of
-- all nodes, and zeros
abbrev pub header : ℕ → ℕ → List ℕ
header node nodes = 1 ∷ 77 ∷ 78 ∷ 76 ∷ 79 ∷ 71 ∷ 2 ∷ node ∷ nodes ∷ 0 ∷ 0 ∷ 0 ∷ 0 ∷ 0 ∷ 0 ∷ 0 ∷ []

-- the bytes of a record behind its gate: the length of its body in four bytes, and the body
abbrev pub behind_gate : List ℕ → List ℕ
behind_gate body = to_be_bytes w32 (length body) ++ body

-- open records, one behind the other
abbrev pub records : List (List ℕ) → List ℕ
records [] = []
records (body ∷ bodies) = (1 ∷ behind_gate body) ++ records bodies

-- each length fits its four bytes
abbrev pub HaveSizes : List (List ℕ) → Type 0
HaveSizes [] = Unit {0}
HaveSizes (body ∷ bodies) = (length body < 2 ^ 32) × HaveSizes bodies

-- a log behind other bytes: those, open records of these bodies, a closed gate, and anything
pub record IsLog (before content : List ℕ) (bodies : List (List ℕ)) : Type 0 where
  pub gate : ℕ
  pub tail : List ℕ
  pub closed : gate ≢ 1
  pub sizes : HaveSizes bodies
  pub bytes : content ≡ (before ++ records bodies) ++ gate ∷ tail

-- a disk that has no header yet
abbrev pub IsFresh : List ℕ → Type 0
IsFresh content = (length content < 81) ⊎ (get_or content 0 0 ≢ 1)

-- the number in an area, and the place in it where a log begins
abbrev pub number_in : ℕ → List ℕ → ℕ
number_in area bytes = from_be_bytes w64 (take 8 (image_of area bytes))

abbrev pub start_in : ℕ → List ℕ → ℕ
start_in area bytes = from_be_bytes w64 (drop 8 (image_of area bytes))

-- the number of an area that is open, and 0 of one that is closed
abbrev pub number_of : ℕ → List ℕ → ℕ
number_of area bytes = (if gate_of area bytes == 1 then number_in area bytes else 0)

-- the number of the current area, which is the open one with the greater number; 0 where none is
-- open
abbrev pub current_number : List ℕ → ℕ
current_number bytes = max (number_of 0 bytes) (number_of 1 bytes)

-- of two areas with these numbers, what is said of the one with the greater, or else what is said
-- of none
abbrev pub by_greater : ℕ → ℕ → ℕ → ℕ → ℕ → ℕ
by_greater n m first second none =
    (if nat_lt m n then first else (if nat_lt n m then second else none))

-- the place where the log begins: the start in the current area, or 80 where none is open
abbrev pub beginning : List ℕ → ℕ
beginning bytes =
    by_greater (number_of 0 bytes) (number_of 1 bytes) (start_in 0 bytes) (start_in 1 bytes) 80

-- an area that is open has a number from 1 to 2^63 that leaves the area's by 2
abbrev pub IsRight : ℕ → List ℕ → Type 0
IsRight area bytes =
    gate_of area bytes ≡ 1
    → (0 < number_in area bytes)
    × (number_in area bytes ≤ 2 ^ 63)
    × (number_in area bytes % 2 ≡ area)

-- the bytes in front of a log: the header, two areas and more, as many as the areas say
pub record IsLead (node nodes : ℕ) (before : List ℕ) : Type 0 where
  pub head : take 16 before ≡ header node nodes
  pub first : IsRight 0 before
  pub second : IsRight 1 before
  pub long : 80 ≤ length before
  pub begins : beginning before ≡ length before

-- a log on a disk, the number of the current area, and the place where the log begins
pub record IsLogAt (node nodes : ℕ) (content : List ℕ) (number start : ℕ)
    (bodies : List (List ℕ)) : Type 0 where
  pub before : List ℕ
  pub lead : IsLead node nodes before
  pub log : IsLog before content bodies
  pub number_is : number ≡ current_number before
  pub start_is : start ≡ length before

-- a log on a disk
abbrev pub HasLog : ℕ → ℕ → List ℕ → List (List ℕ) → Type 0
HasLog node nodes content bodies =
    (number : ℕ) × ((start : ℕ) × IsLogAt node nodes content number start bodies)

-- a fresh disk stands for no bodies, and one with a header for those of its log
abbrev pub Stands : ℕ → ℕ → List ℕ → List (List ℕ) → Type 0
Stands node nodes content bodies =
    (IsFresh content × (bodies ≡ [])) ⊎ HasLog node nodes content bodies

-- the places of the gates of these bodies' records, where the first is at this place
abbrev pub places : ℕ → List (List ℕ) → List ℕ
places at [] = []
places at (body ∷ bodies) = at ∷ places (at + 5 + length body) bodies

-- behind an open gate: no whole record with a gate behind it
abbrev pub IsShort : List ℕ → Type 0
IsShort rest = (length rest < 4) ⊎ (length rest ≤ 4 + from_be_bytes w32 (take 4 rest))

-- behind other bytes: open records, and at this place an open gate with no whole record behind it
pub record IsDamagedAt (before content : List ℕ) (at : ℕ) : Type 0 where
  pub bodies : List (List ℕ)
  pub rest : List ℕ
  pub sizes : HaveSizes bodies
  pub bytes : content ≡ (before ++ records bodies) ++ 1 ∷ rest
  pub at_is : at ≡ length before + length (records bodies)
  pub short : IsShort rest

-- the place of the gate of the current area
abbrev pub current_place : List ℕ → ℕ
current_place bytes = by_greater (number_of 0 bytes) (number_of 1 bytes) 16 48 48

-- what is wrong in front of a log, at this place: the header, else area 0, else area 1, else the
-- start in the current area
abbrev pub IsWrongAt : ℕ → ℕ → List ℕ → ℕ → Type 0
IsWrongAt node nodes content at =
    ((take 16 content ≢ header node nodes) × (at ≡ 0))
    ⊎ ((take 16 content ≡ header node nodes)
    × (((IsRight 0 content → ⊥) × (at ≡ 16))
    ⊎ (IsRight 0 content
    × (((IsRight 1 content → ⊥) × (at ≡ 48))
    ⊎ (IsRight 1 content
    × (((beginning content < 80) ⊎ (length content ≤ beginning content))
    × (at ≡ current_place content)))))))

-- a log in the grammar up to this place, where an open gate has no whole record behind it
pub record IsBrokenAt (node nodes : ℕ) (content : List ℕ) (at : ℕ) : Type 0 where
  pub before : List ℕ
  pub lead : IsLead node nodes before
  pub broken : IsDamagedAt before content at

-- where bytes are outside the grammar
abbrev pub IsDamaged : ℕ → ℕ → List ℕ → ℕ → Type 0
IsDamaged node nodes content at =
    ((IsFresh content → ⊥) × IsWrongAt node nodes content at) ⊎ IsBrokenAt node nodes content at

-- the bytes stand for one of two lists
abbrev pub IsOneOrOther : ℕ → ℕ → List (List ℕ) → List (List ℕ) → List ℕ → Type 0
IsOneOrOther node nodes bodies others content =
    Stands node nodes content bodies ⊎ Stands node nodes content others

-- the same of bytes that have a header
abbrev pub IsLogOneOrOther : ℕ → ℕ → List (List ℕ) → List (List ℕ) → List ℕ → Type 0
IsLogOneOrOther node nodes bodies others content =
    HasLog node nodes content bodies ⊎ HasLog node nodes content others

-- the bytes stand for the list, with one more or without it
abbrev pub IsBeforeOrAfter : ℕ → ℕ → List (List ℕ) → List ℕ → List ℕ → Type 0
IsBeforeOrAfter node nodes bodies body content =
    IsOneOrOther node nodes bodies (bodies ++ body ∷ []) content

-- the same of a log behind other bytes
abbrev pub IsLogBeforeOrAfter : List ℕ → List (List ℕ) → List ℕ → List ℕ → Type 0
IsLogBeforeOrAfter before bodies body content =
    IsLog before content bodies ⊎ IsLog before content (bodies ++ body ∷ [])

-- behind other bytes: the open records of these bodies, up to this place
pub record EndAt (before content : List ℕ) (at : ℕ) (bodies : List (List ℕ)) : Type 0 where
  pub sizes : HaveSizes bodies
  pub bytes : take at content ≡ before ++ records bodies

-- a log's whole records up to this place
pub record EndsAt (node nodes : ℕ) (content : List ℕ) (at start : ℕ) (bodies : List (List ℕ))
    : Type 0 where
  pub before : List ℕ
  pub lead : IsLead node nodes before
  pub start_is : start ≡ length before
  pub records_end : EndAt before content at bodies

-- the bodies of the whole records in front of the place of damage, and where the first begins:
-- where the header or an area is wrong there are none
abbrev pub AreInFront : ℕ → ℕ → List ℕ → ℕ → ℕ → List (List ℕ) → Type 0
AreInFront node nodes content at start bodies =
    ((at < 80) × (bodies ≡ [])) ⊎ EndsAt node nodes content at start bodies

-- the bodies of the open records at the front of these bytes, at most so many
abbrev pub bodies_in : ℕ → List ℕ → List (List ℕ)
bodies_in zero bytes = []
bodies_in (suc fuel) [] = []
bodies_in (suc fuel) (gate ∷ rest) =
    let n =
    from_be_bytes w32 (take 4 rest) in if gate == 1
    then take n (drop 4 rest) ∷ bodies_in fuel (drop n (drop 4 rest)) else []

-- the bytes of a whole log: open records and a closed gate
abbrev pub whole_log : List (List ℕ) → List ℕ
whole_log bodies = records bodies ++ 0 ∷ []

-- behind other bytes: open records of these bodies, a closed gate with the record of one more
-- behind it, a closed gate, and anything
pub record IsStaged (before : List ℕ) (bodies : List (List ℕ)) (body content : List ℕ)
    : Type 0 where
  pub gate : ℕ
  pub tail : List ℕ
  pub closed : gate ≢ 1
  pub sizes : HaveSizes bodies
  pub bytes : content ≡ (before ++ records bodies) ++ gate ∷ (behind_gate body ++ 0 ∷ tail)

-- the same of a log on a disk
pub record IsStagedAt (node nodes : ℕ) (bodies : List (List ℕ)) (body content : List ℕ)
    : Type 0 where
  pub before : List ℕ
  pub lead : IsLead node nodes before
  pub staged : IsStaged before bodies body content

-- behind other bytes: open records whose gates are at these places, and a gate and more at this
-- place
pub record IsFront (before content gates : List ℕ) (at : ℕ) : Type 0 where
  pub bodies : List (List ℕ)
  pub rest : List ℕ
  pub sizes : HaveSizes bodies
  pub bytes : content ≡ (before ++ records bodies) ++ rest
  pub gates_are : gates ≡ places (length before) bodies
  pub at_is : at ≡ length before + length (records bodies)
  pub some : 0 < length rest

-- how many bytes these bodies have
abbrev pub total : List (List ℕ) → ℕ
total [] = 0
total (body ∷ bodies) = length body + total bodies

-- where a new list of so many bytes is written: at 80 if it ends before the log that begins at this
-- place, else behind the closed gate
abbrev pub place_for : ℕ → ℕ → ℕ → ℕ
place_for start gate size = (if nat_le (80 + size) start then 80 else gate + 1)

-- There is a log, and a new list is written at a place beside it, under the next number.
pub record IsReplacing (node nodes : ℕ) (content : List ℕ) (number : ℕ)
    (bodies others : List (List ℕ)) (piece : List ℕ) (place : ℕ) : Type 0 where
  pub start : ℕ
  pub log : IsLogAt node nodes content number start bodies
  pub piece_is : piece ≡ whole_log others
  pub sizes : HaveSizes others
  pub apart : ((place ≡ 80) × (80 + length piece ≤ start))
      ⊎ (place ≡ start + length (records bodies) + 1)

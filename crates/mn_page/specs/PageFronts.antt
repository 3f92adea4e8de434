-- What may follow in the bytes of a page, field by field.
use Rattle.std.specs.Prelude.{◌≡◌, ℕ, zero, suc, ◌+◌, ◌^◌, ◌<◌, ◌≤◌, Bool, true, false, ◌↔◌, ◌&&◌}
use Rattle.std.specs.Prelude.{◌||◌, nat_eq, nat_lt, IsTrue, List, [], ◌∷◌, ◌++◌, Option, Some, None}
use Rattle.std.specs.Prelude.{⊤}
use Rattle.std.specs.List.{list_all}
use Rattle.mn_base.specs.Order.{key_le, key_lt}
use Rattle.mn_base.specs.declared.ids.Addr.{Addr}
use Rattle.mn_page.specs.Grammar.{IsAddr, IsBound, IsKey, IsValue, addr_bytes, counted, high_bytes}
use Rattle.mn_page.specs.KeyRoom.{HasRoomForKeys}
use Rattle.mn_page.specs.Reading.{AreVersions, HasLength, IsSeq, as_they_stand, eight, height_text}
use Rattle.mn_page.specs.Reading.{versions_text}

-- the bytes end inside a field: more of them make it one that may stand there, or no more do
abbrev pub Judged : {X : Type 0} → (X → Type 0) → (X → List ℕ) → List ℕ → Bool → Type 0
Judged {X = X} Is spelling bytes true =
    (x : X) × (tail : List ℕ) × Is x × (spelling x ≡ bytes ++ tail)
Judged {X = X} Is spelling bytes false =
    (x : X) (tail more : List ℕ) → Is x → bytes ++ tail ≡ spelling x ++ more → ⊥

-- with more bytes they are such a text, or with no more
abbrev pub Decides : (List ℕ → Type 0) → List ℕ → Bool → Type 0
Decides IsText bytes true = (tail : List ℕ) × IsText (bytes ++ tail)
Decides IsText bytes false = (tail : List ℕ) → IsText (bytes ++ tail) → ⊥

-- a value that may stand there, and behind it what may follow it
pub record Then {X : Type 0} (Is : X → Type 0) (spelling : X → List ℕ)
    (Follows : X → List ℕ → Type 0) (text : List ℕ) : Type 0 where
  pub value : X
  pub rest : List ℕ
  pub may : Is value
  pub spelled : text ≡ spelling value ++ rest
  pub follows : Follows value rest

-- zeros alone
abbrev pub AreZeros : List ℕ → Type 0
AreZeros bytes = IsTrue (list_all (λ b. nat_eq b 0) bytes)

-- whether bytes that are no whole height, or address, begin one
abbrev pub height_goes_on : List ℕ → Bool
height_goes_on [] = true
height_goes_on (kind ∷ []) = nat_eq kind 1 || nat_eq kind 2
height_goes_on (kind ∷ (high ∷ [])) = nat_eq kind 2 || (nat_eq kind 1 && nat_eq high 0)
height_goes_on (kind ∷ (high ∷ (low ∷ more))) = false

abbrev pub addr_goes_on : List ℕ → Bool
addr_goes_on [] = true
addr_goes_on (node ∷ []) = nat_lt node 8
addr_goes_on (node ∷ (slot ∷ [])) = nat_lt node 8 && nat_lt slot 16
addr_goes_on (node ∷ (slot ∷ (low ∷ more))) = false

-- Keys

-- so many keys a page has at least
abbrev pub least_keys : Bool → ℕ
least_keys true = 0
least_keys false = 1

-- at or above these bytes, or above them
abbrev pub Over : Bool → List ℕ → List ℕ → Type 0
Over true base key = IsTrue (key_le base key)
Over false base key = IsTrue (key_lt base key)

-- so many keys have room there below the bound
abbrev pub HasKeys : Bool → List ℕ → ℕ → Option (List ℕ) → Type 0
HasKeys from base zero high = ⊤
HasKeys from base (suc n) high =
    (key : List ℕ) × IsKey key × Over from base key × HasRoomForKeys key n high

-- the least key there
abbrev pub IsLeastOver : Bool → List ℕ → List ℕ → Type 0
IsLeastOver from base least =
    IsKey least × ((key : List ℕ) → IsKey key → Over from base key ↔ IsTrue (key_le least key))

-- where keys are still to come, these bytes are the least of them
abbrev pub IsFloor : ℕ → Bool → List ℕ → List ℕ → Type 0
IsFloor zero from base least = ⊤
IsFloor (suc n) from base least = IsLeastOver from base least

-- the keys that may be a page's high fence
abbrev pub IsLeastHigh : Bool → List ℕ → List ℕ → Type 0
IsLeastHigh leaf low least =
    IsKey least × ((key : List ℕ) → IsKey key → HasRoomForKeys low (least_keys leaf) (Some key)
    ↔ IsTrue (key_le least key))

-- bytes of a length, at or above others, with room for so many keys above them
abbrev pub IsKeyIn : ℕ → List ℕ → ℕ → Option (List ℕ) → List ℕ → Type 0
IsKeyIn shortest least more high key =
    HasLength shortest 32 key × IsTrue (key_le least key) × HasRoomForKeys key more high

abbrev pub IsKeyAt : Bool → List ℕ → ℕ → Option (List ℕ) → List ℕ → Type 0
IsKeyAt from base more high key = IsKey key × Over from base key × HasRoomForKeys key more high

-- what stands behind a key: of a leaf a value, of an inner page an address
abbrev pub IsHeld : Bool → List ℕ → Type 0
IsHeld true text = (value : List ℕ) × IsValue value × (text ≡ counted value)
IsHeld false text = (addr : Addr) × IsAddr addr × (text ≡ addr_bytes addr)

-- so many keys with what they hold, and zeros
abbrev pub Items : Bool → Bool → List ℕ → Option (List ℕ) → ℕ → List ℕ → Type 0
Items leaf from base high zero text = AreZeros text
Items leaf from base high (suc n) text =
    Then (IsKeyAt from base n high) counted
    (λ key more. Then (IsHeld leaf) as_they_stand
    (λ held last. Items leaf false key high n last) more) text

-- Fields

abbrev pub IsHeight : ℕ → Type 0
IsHeight height = height < 2 ^ 16

abbrev pub IsLowAt : Bool → List ℕ → Type 0
IsLowAt leaf low = IsKeyIn 0 [] (least_keys leaf) None low

abbrev pub IsHighAt : Bool → List ℕ → Option (List ℕ) → Type 0
IsHighAt leaf low high = IsBound high × HasRoomForKeys low (least_keys leaf) high

-- the number of keys
abbrev pub IsCount : Bool → List ℕ → Option (List ℕ) → ℕ → Type 0
IsCount true low high n = (n ≤ 8) × HasKeys true low n high
IsCount false low high n = (1 ≤ n) × (n ≤ 7) × HasKeys false low n high

abbrev pub count_text : Bool → ℕ → List ℕ
count_text true n = n ∷ []
count_text false n = (n + 1) ∷ []

abbrev pub BehindCount : Bool → List ℕ → Option (List ℕ) → ℕ → List ℕ → Type 0
BehindCount true low high n text = Items true true low high n text
BehindCount false low high n text =
    Then IsAddr addr_bytes (λ addr more. Items false false low high n more) text

abbrev pub BehindFences : Bool → List ℕ → Option (List ℕ) → List ℕ → Type 0
BehindFences leaf low high text =
    Then (IsCount leaf low high) (count_text leaf) (BehindCount leaf low high) text

abbrev pub BehindLow : Bool → List ℕ → List ℕ → Type 0
BehindLow leaf low text = Then (IsHighAt leaf low) high_bytes (BehindFences leaf low) text

abbrev pub BehindVersions : Bool → List ℕ → Type 0
BehindVersions leaf text = Then (IsLowAt leaf) counted (BehindLow leaf) text

abbrev pub BehindHeight : Bool → List ℕ → Type 0
BehindHeight leaf text = Then AreVersions versions_text (λ v more. BehindVersions leaf more) text

abbrev pub BehindSeq : List ℕ → Type 0
BehindSeq text = Then IsHeight height_text (λ height more. BehindHeight (nat_eq height 0) more) text

abbrev pub FromSeq : List ℕ → Type 0
FromSeq text = Then IsSeq eight (λ seq more. BehindSeq more) text

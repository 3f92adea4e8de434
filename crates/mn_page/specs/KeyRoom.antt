-- Keys of a page that are still to come.
use Rattle.std.specs.Prelude.{◌≡◌, ℕ, zero, suc, false, nat_lt, IsTrue, List, [], ◌∷◌, ◌++◌, length}
use Rattle.std.specs.Prelude.{Option, Some, None, if◌then◌else◌}
use Rattle.std.specs.List.{list_all}
use Rattle.mn_base.specs.Order.{key_le, key_lt, below_bound}
use Rattle.mn_page.specs.Grammar.{IsKey}

-- the key, and so many more above it, each above the one before it, lie below the bound
abbrev pub HasRoomForKeys : List ℕ → ℕ → Option (List ℕ) → Type 0
HasRoomForKeys key zero high = IsTrue (below_bound key high)
HasRoomForKeys key (suc more) high =
    (next : List ℕ) × IsKey next × IsTrue (key_lt key next) × HasRoomForKeys next more high

-- the least key above these bytes
pub record IsNext (bytes next : List ℕ) : Type 0 where
  pub key : IsKey next
  pub above : IsTrue (key_lt bytes next)
  pub least : (k : List ℕ) → IsKey k → IsTrue (key_lt bytes k) → key_lt k next ≡ false

-- there is no key above these bytes
abbrev pub IsLast : List ℕ → Type 0
IsLast bytes = (k : List ℕ) → IsKey k → IsTrue (key_lt bytes k) → ⊥

-- the last byte that is not 255 is one higher, and nothing stands behind it
abbrev pub raised_on : ℕ → Option (List ℕ) → Option (List ℕ)
raised_on b None = if nat_lt b 255 then Some (suc b ∷ []) else None
raised_on b (Some bs) = Some (b ∷ bs)

abbrev pub raised : List ℕ → Option (List ℕ)
raised [] = None
raised (b ∷ bs) = raised_on b (raised bs)

-- a key of so many bytes that begins so and doesn't stand before the least one
pub record IsKeyFrom (least front : List ℕ) (size : ℕ) (k : List ℕ) : Type 0 where
  pub long : length k ≡ size
  pub small : IsTrue (list_all (λ b. nat_lt b 256) k)
  pub begins : (rest : List ℕ) × (k ≡ front ++ rest)
  pub from : IsTrue (key_le least k)

-- the least of them
pub record IsLeastFrom (least front : List ℕ) (size : ℕ) (k : List ℕ) : Type 0 where
  pub is : IsKeyFrom least front size k
  pub lowest : (m : List ℕ) → IsKeyFrom least front size m → key_lt m k ≡ false

-- there is none
abbrev pub HasNoneFrom : List ℕ → List ℕ → ℕ → Type 0
HasNoneFrom least front size = (m : List ℕ) → IsKeyFrom least front size m → ⊥

-- one of them has so many more keys above it below the bound
abbrev pub LeavesRoom : List ℕ → List ℕ → ℕ → ℕ → Option (List ℕ) → Type 0
LeavesRoom least front size more high =
    (k : List ℕ) × IsKeyFrom least front size k × HasRoomForKeys k more high

-- The bytes of a log in memory.
use Rattle.std.specs.Prelude.{◌<◌, ◌≡◌, ◌^◌, ℕ, List, [], ◌∷◌, ◌++◌, length, drop}
use Rattle.mn_redo.specs.Grammar.{records, HaveSizes, bodies_in, places}

-- the list that the bytes of a log show from a place on
abbrev pub listed_in : ℕ → List ℕ → List (List ℕ)
listed_in start bytes = bodies_in (length bytes) (drop start bytes)

-- bytes up to the closed gate
pub record BytesAreKept (before bytes : List ℕ) : Type 0 where
  pub sizes : HaveSizes (listed_in (length before) bytes)
  pub bytes_are : bytes ≡ (before ++ records (listed_in (length before) bytes)) ++ 0 ∷ []

-- the bytes of a log from its beginning on that was read up to its closed gate or its damage, and
-- where its gates are from there
pub record IsFrontKept (bytes gates : List ℕ) : Type 0 where
  pub kept : BytesAreKept [] bytes
  pub gates_are : gates ≡ places 0 (listed_in 0 bytes)
  pub count : length gates < 2 ^ 32

-- what contracts see of a log that was read: where it begins, and its bodies
pub record FrontState : Type 0 where
  pub start : ℕ
  pub bodies : List (List ℕ)

-- of a fresh disk: where its log will begin, with no bodies, and no area is open
pub record IsNoLog (start number : ℕ) (bodies : List (List ℕ)) : Type 0 where
  pub start_is : start ≡ 80
  pub number_is : number ≡ 0
  pub none : bodies ≡ []

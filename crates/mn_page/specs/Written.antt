-- Bytes that are written one behind the other.
use Rattle.std.specs.Prelude.{◌≡◌, ℕ, ◌+◌, List, [], ◌∷◌, ◌++◌, length, take}
use Rattle.byteorder.specs.Endian.{big_bytes}
use Rattle.mn_page.specs.declared.page.Page.{Page}
use Rattle.mn_page.specs.Grammar.{counted, high_bytes, kind_of, height_of}

-- the text was put behind the first `at` bytes, and ends behind the first `end`
pub record Adds (old new : List ℕ) (at end : ℕ) (text : List ℕ) : Type 0 where
  pub place : end ≡ at + length text
  pub added : take end new ≡ take at old ++ text
  pub size : length new ≡ length old

-- what stands before the fences
abbrev pub head_bytes : Page → List ℕ
head_bytes p =
    big_bytes 8 p.seq ++ kind_of p.body ∷ [] ++ big_bytes 2 (height_of p.body) ++ p.made.0 ∷ []
    ++ big_bytes 8 p.copied

abbrev pub fence_bytes : Page → List ℕ
fence_bytes p = counted p.low ++ high_bytes p.high

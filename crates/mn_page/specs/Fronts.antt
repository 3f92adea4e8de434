-- How many of the first bytes still begin some page, or some entry.
use Rattle.std.specs.Prelude.{◌≤◌, ◌<◌, ℕ, ◌+◌, Bool, true, ◌&&◌, ◌||◌, nat_eq, nat_lt, List, ◌++◌}
use Rattle.std.specs.Prelude.{take, length, ⊤, if◌then◌else◌}
use Rattle.mn_base.specs.Name.{is_name_byte}
use Rattle.mn_page.specs.declared.entry.CatEntry.{CatEntry}
use Rattle.mn_page.specs.declared.error.PageError.{PageError}
use Rattle.mn_page.specs.declared.error.PageError.TheVariants.{BadPage, NoMemory}
use Rattle.mn_page.specs.declared.page.Page.{Page}
use Rattle.mn_page.specs.Grammar.{SpellsEntry, SpellsPage}

-- some entry's bytes begin with these
abbrev pub BeginsEntry : List ℕ → Type 0
BeginsEntry front = (rest : List ℕ) × (e : CatEntry) × SpellsEntry (front ++ rest) e

-- some page's bytes begin with these
abbrev pub BeginsPage : List ℕ → Type 0
BeginsPage front = (rest : List ℕ) × (p : Page) × SpellsPage (front ++ rest) p

-- so many of the first bytes are such a front, and one more aren't
pub record IsLongest (IsFront : List ℕ → Type 0) (bytes : List ℕ) (n : ℕ) : Type 0 where
  pub within : n ≤ length bytes
  pub here : IsFront (take n bytes)
  pub further : n < length bytes → IsFront (take (n + 1) bytes) → ⊥

-- the place that is named, if one is, is the length of the longest such front
abbrev pub NamesLongest : (List ℕ → Type 0) → List ℕ → PageError → Type 0
NamesLongest IsFront bytes (BadPage at) = IsLongest IsFront bytes at
NamesLongest IsFront bytes NoMemory = ⊤

-- the byte at this place of an entry may be this one: `some` says whether a byte before it isn't
-- zero, `count` how long the name is
abbrev pub entry_goes_on : ℕ → Bool → ℕ → ℕ → Bool
entry_goes_on at some count b =
    if nat_lt at 7 then true
    else (if nat_eq at 7 then some || nat_lt 0 b
    else (if nat_eq at 8 then nat_eq b 1 || nat_eq b 2
    else (if nat_eq at 9 then nat_lt b 64 || nat_eq b 255
    else (if nat_eq at 10 then nat_lt b 8
    else (if nat_eq at 11 then nat_lt b 16
    else (if nat_eq at 12 then true
    else (if nat_eq at 13 then nat_lt 0 b && nat_lt b 17
    else (if nat_lt at (14 + count) then is_name_byte b else nat_eq b 0))))))))

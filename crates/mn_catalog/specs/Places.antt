-- What the reading of a catalog knows of the places that it has read.
use Rattle.std.specs.Prelude.{◌≡◌, ℕ, ◌<◌, ◌≤◌, List, length, slice_get, Option, Some, None}
use Rattle.std.specs.Prelude.{MatchOption, ⊤}
use Rattle.mn_page.specs.Grammar.{IsUnused, SpellsEntry, SpellsNoEntry}
use Rattle.mn_page.specs.declared.entry.CatEntry.{CatEntry}
use Rattle.mn_catalog.specs.Grammar.{place_bytes}
use Rattle.mn_catalog.specs.declared.error.CatError.{CatError}
use Rattle.mn_catalog.specs.declared.error.CatError.TheVariants.{BadCatalog, NoMemory}

-- a place gave this entry, or none for an unused one, and could give nothing else
pub record IsEntryRead (place : List ℕ) (found : Option CatEntry) : Type 0 where
  pub told : MatchOption found (IsUnused place) (SpellsEntry place)
  pub entry : (e : CatEntry) → SpellsEntry place e → found ≡ Some e
  pub unused : IsUnused place → found ≡ None

-- so many places gave these entries
abbrev pub AreRead : ℕ → List ℕ → List CatEntry → Type 0
AreRead places bytes entries =
    (length entries ≤ places) × ((w : ℕ) → w < places
    → IsEntryRead (place_bytes w bytes) (slice_get entries w))

-- why a place is refused
abbrev pub RefusesPlace : ℕ → List ℕ → CatError → Type 0
RefusesPlace version place (BadCatalog entry) = (entry ≡ version) × SpellsNoEntry place
RefusesPlace version place NoMemory = ⊤

-- The bytes of a catalog: its used entries in order of version, then zeros.
use Rattle.std.specs.Prelude.{◌≡◌, ◌≢◌, ℕ, ◌*◌, ◌<◌, ◌≤◌, ◌⊎◌, List, length, take, drop, slice_get}
use Rattle.std.specs.Prelude.{Some, All, ⊤}
use Rattle.std.specs.List.{flat_map}
use Rattle.mn_page.specs.Space.{catalog_size, entry_size}
use Rattle.mn_page.specs.Grammar.{padded, entry_bytes, IsEntry, IsUnused, SpellsNoEntry}
use Rattle.mn_page.specs.declared.entry.CatEntry.{CatEntry}
use Rattle.mn_catalog.specs.declared.error.CatError.{CatError}
use Rattle.mn_catalog.specs.declared.error.CatError.TheVariants.{BadCatalog, NoMemory}

-- how many places for entries a catalog has
abbrev pub max_entries : ℕ
max_entries = 64

abbrev pub catalog_bytes : List CatEntry → List ℕ
catalog_bytes entries = padded catalog_size (flat_map entry_bytes entries)

-- the used entries of a catalog
abbrev pub IsCatalog : List CatEntry → Type 0
IsCatalog entries = (length entries ≤ max_entries) × All IsEntry entries

-- the bytes spell the catalog of these entries
abbrev pub SpellsCatalog : List ℕ → List CatEntry → Type 0
SpellsCatalog bytes entries = IsCatalog entries × (bytes ≡ catalog_bytes entries)

abbrev pub SpellsNoCatalog : List ℕ → Type 0
SpellsNoCatalog bytes = (entries : List CatEntry) → SpellsCatalog bytes entries → ⊥

-- Faults

-- the bytes of the place for the entry of a version
abbrev pub place_bytes : ℕ → List ℕ → List ℕ
place_bytes version bytes = take entry_size (drop (entry_size * version) bytes)

-- a place that is neither an entry nor unused, or is used behind an unused one
abbrev pub IsAtFault : List ℕ → ℕ → Type 0
IsAtFault bytes version =
    SpellsNoEntry (place_bytes version bytes)
    ⊎ ((IsUnused (place_bytes version bytes) → ⊥)
    × ((w : ℕ) × (w < version) × IsUnused (place_bytes w bytes)))

-- the first such place
pub record IsFirstAtFault (bytes : List ℕ) (version : ℕ) : Type 0 where
  pub place : version < max_entries
  pub fault : IsAtFault bytes version
  pub first : (w : ℕ) → w < version → IsAtFault bytes w → ⊥

-- why bytes are refused
abbrev pub RefusesCatalog : List ℕ → CatError → Type 0
RefusesCatalog bytes (BadCatalog entry) =
    ((length bytes ≡ catalog_size) × IsFirstAtFault bytes entry)
    ⊎ ((length bytes ≢ catalog_size) × (entry ≡ 0))
RefusesCatalog bytes NoMemory = ⊤

abbrev pub IsWantOfMemory : CatError → Type 0
IsWantOfMemory e = e ≡ NoMemory

-- Names

-- the version is the least of this name
pub record IsFirstNamed (entries : List CatEntry) (name : List ℕ) (version : ℕ) : Type 0 where
  pub entry : CatEntry
  pub there : slice_get entries version ≡ Some entry
  pub named : entry.name ≡ name
  pub first : (w : ℕ) → (e : CatEntry) → w < version → slice_get entries w ≡ Some e → e.name ≡ name
      → ⊥

-- What a proxy keeps from one operation to the next.
use Rattle.std.specs.Prelude.{ℕ, ◌≡◌, ◌≤◌, ◌⊎◌, Bool, true, false, List, [], Option, Some, None}
use Rattle.std.specs.Option.{is_some, option_map_or}
use Rattle.std.specs.List.{AllByRecursion}
use Rattle.mn_base.specs.Store.{refusal}
use Rattle.mn_base.specs.declared.ids.Addr.{Addr}
use Rattle.mn_base.specs.declared.op.Op.{Op}
use Rattle.mn_base.specs.declared.op.Op.TheVariants.{Tx}
use Rattle.mn_page.specs.declared.page.Page.{Page}
use Rattle.mn_page.specs.declared.entry.CatEntry.{CatEntry}
use Rattle.mn_page.specs.Forest.{heads_in}
use Rattle.mn_page.specs.Grammar.{IsPage, height_of}
use Rattle.mn_work.specs.declared.known.Known.{Known}
use Rattle.mn_work.specs.Catalogs.{SpellsNoVersions, SpellsVersions, TellsVersions}

-- nothing is kept yet
abbrev pub new_known : ℕ → Known
new_known nodes = record { nodes = nodes; catalog = None; cache = [] }

-- by these bytes the catalog is now kept, or none is
abbrev pub LearnsFrom : List ℕ → Option (List CatEntry) → Bool → Type 0
LearnsFrom bytes None learnt = (learnt ≡ false) × SpellsNoVersions bytes
LearnsFrom bytes (Some entries) learnt = (learnt ≡ true) × SpellsVersions bytes entries

-- by these bytes the catalog is now kept, or none is; or there was no memory for it, and none is:
-- the older one isn't kept beside bytes that were read after it
abbrev pub LearnsOrForgets : List ℕ → Option (List CatEntry) → Type 0
LearnsOrForgets bytes after = (after ≡ None) ⊎ TellsVersions bytes after

-- an operation has to read the catalog first: each but a transaction that the kept one admits
abbrev pub lacks_catalog : Option (List CatEntry) → Op → Bool
lacks_catalog catalog (Tx version steps) =
    option_map_or (λ entries. is_some (refusal (heads_in entries) (Tx version steps))) catalog true
lacks_catalog catalog op = true

-- the cached pages are inner pages
abbrev pub ArePages : List (Addr × Page) → Type 0
ArePages pages = AllByRecursion (λ h. IsPage h.1 × (1 ≤ height_of h.1.body)) pages

-- the number of nodes and the catalog stay, and what is cached are inner pages still
abbrev pub KeepsKnown : Known → Known → Type 0
KeepsKnown before after =
    (after.nodes ≡ before.nodes) × (after.catalog ≡ before.catalog)
    × (ArePages before.cache → ArePages after.cache)

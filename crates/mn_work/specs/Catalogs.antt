-- Catalogs as a proxy reads and keeps them.
use Rattle.std.specs.Prelude.{ℕ, List, Option, MatchOption, reverse, slice_get, ⊤}
use Rattle.std.specs.Option.{option_and_then, option_map}
use Rattle.mn_base.specs.Store.{Head, number_named, refusal}
use Rattle.mn_base.specs.Tree.{parents_of}
use Rattle.mn_base.specs.declared.ids.Addr.{Addr}
use Rattle.mn_base.specs.declared.ids.VersionNo.{VersionNo}
use Rattle.mn_base.specs.declared.op.Op.{Op}
use Rattle.mn_base.specs.declared.reply.Reply.{Reply}
use Rattle.mn_page.specs.declared.entry.CatEntry.{CatEntry}
use Rattle.mn_page.specs.Forest.{heads_in}
use Rattle.mn_catalog.specs.Grammar.{SpellsCatalog}
use Rattle.mn_vtree.specs.declared.error.TreeError.{TreeError}
use Rattle.mn_vtree.specs.declared.error.TreeError.TheVariants.{BadParent, NoMemory}
use Rattle.mn_law.specs.Answers.{ParentsAreBelow}

-- each version's parent, if it has one, has a lower number
abbrev pub HasParentsBelow : List CatEntry → Type 0
HasParentsBelow entries = ParentsAreBelow (reverse (parents_of (heads_in entries)))

-- why the versions of a catalog make no tree
abbrev pub RefusesTree : List CatEntry → TreeError → Type 0
RefusesTree entries (BadParent version) = HasParentsBelow entries → ⊥
RefusesTree entries NoMemory = ⊤

-- the bytes spell a catalog whose versions make a tree
abbrev pub SpellsVersions : List ℕ → List CatEntry → Type 0
SpellsVersions bytes entries = SpellsCatalog bytes entries × HasParentsBelow entries

abbrev pub SpellsNoVersions : List ℕ → Type 0
SpellsNoVersions bytes = (entries : List CatEntry) → SpellsVersions bytes entries → ⊥

-- the name of the version of a number
abbrev pub name_in : List Head → ℕ → Option (List ℕ)
name_in heads n = option_map (λ h. h.name) (slice_get heads n)

-- the number of the version of a name, and where its root stands
abbrev pub root_named : List CatEntry → List ℕ → Option (ℕ × Addr)
root_named entries name =
    option_and_then (λ v. option_map (λ e. (v, e.root)) (slice_get entries v))
    (number_named (heads_in entries) name)

-- the same as the code finds them
abbrev pub found : VersionNo × Addr → ℕ × Addr
found f = (f.0.0, f.1)

-- by the kept catalog
abbrev pub root_by : Option (List CatEntry) → List ℕ → Option (ℕ × Addr)
root_by catalog name = option_and_then (λ entries. root_named entries name) catalog

abbrev pub refusal_by : Option (List CatEntry) → Op → Option Reply
refusal_by catalog op = option_and_then (λ entries. refusal (heads_in entries) op) catalog

-- the bytes spell the catalog that is told, or no such one
abbrev pub TellsVersions : List ℕ → Option (List CatEntry) → Type 0
TellsVersions bytes told = MatchOption told (SpellsNoVersions bytes) (SpellsVersions bytes)

-- the name of a version's parent
abbrev pub parent_in : List Head → Option VersionNo → Option (List ℕ)
parent_in heads parent = option_and_then (name_in heads) (option_map (λ v. v.0) parent)

-- Which reply one read of a client shows, told by the catalog that the client had read last before.
use Rattle.std.specs.Prelude.{ℕ, ◌≡◌, Bool, true, false, ◌&&◌, nat_eq, List, [], ◌∷◌, Option, Some}
use Rattle.std.specs.Prelude.{None}
use Rattle.std.specs.Prelude.{⊤, Contains}
use Rattle.mn_base.specs.Store.{value_at}
use Rattle.mn_base.specs.Tree.{parents_of}
use Rattle.mn_base.specs.declared.op.Op.{Op}
use Rattle.mn_base.specs.declared.op.Step.{Step}
use Rattle.mn_base.specs.declared.op.Step.TheVariants.{Get}
use Rattle.mn_base.specs.declared.reply.Reply.{Reply}
use Rattle.mn_base.specs.declared.reply.Reply.TheVariants as Say
use Rattle.mn_catalog.specs.Grammar.{SpellsCatalog}
use Rattle.mn_page.specs.declared.entry.CatEntry.{CatEntry}
use Rattle.mn_page.specs.declared.page.Body.{Body}
use Rattle.mn_page.specs.declared.page.Body.TheVariants.{Leaf, Inner}
use Rattle.mn_page.specs.declared.page.Page.{Page}
use Rattle.mn_page.specs.Forest.{heads_in}
use Rattle.mn_page.specs.Grammar.{SpellsPage}
use Rattle.mn_page.specs.Holds.{page_covers}
use Rattle.mn_runs.specs.declared.entry.Entry.{Entry}
use Rattle.mn_runs.specs.Seen.{Seen, seen_in}
use Rattle.mn_law.specs.Shown.{IsCatalogRead, CatalogReplies, ReadShows, ServesNamed, ShowsCatalog}
use Rattle.mn_vtree.specs.Parents.{AreLess}
use Rattle.mn_hist.specs.declared.shown.Read.{Read}

-- the read as a client's list shows it
abbrev pub as_seen : Read → Seen
as_seen r =
    record {
      place = record { node = r.node; start = r.start; length = r.length };
      bytes = r.bytes.now;
    }

-- a test decides a statement
abbrev pub TestDecides : Bool → Type 0 → Type 0
TestDecides true T = T
TestDecides false T = T → ⊥

-- it is a read of the catalog's place
abbrev pub is_of_catalog : Seen → Bool
is_of_catalog seen =
    nat_eq seen.place.node.0 0 && (nat_eq seen.place.start 64 && nat_eq seen.place.length 4096)

-- the list shows these bytes as a catalog that was read
abbrev pub HasCatalog : List Entry → Option (List ℕ) → Type 0
HasCatalog es None = ⊤
HasCatalog es (Some bytes) =
    (seen : Seen) × Contains (seen_in es) seen × IsCatalogRead seen × (seen.bytes ≡ bytes)

-- the bytes spell a catalog in which each version has a parent of a lower number, if any
abbrev pub SpellsTree : List ℕ → List CatEntry → Type 0
SpellsTree bytes entries = SpellsCatalog bytes entries × AreLess (parents_of (heads_in entries))

-- what serves a version by the one catalog serves it by the other
abbrev pub ServesAll : List CatEntry → List CatEntry → Type 0
ServesAll one other = (name : List ℕ) (page : Page) → ServesNamed one name page
    → ServesNamed other name page

-- these bytes spell a catalog that serves all that any catalog of the list does
abbrev pub LastServesAll : List Entry → Option (List ℕ) → Type 0
LastServesAll es None = (entries : List CatEntry) → ShowsCatalog es entries → ⊥
LastServesAll es (Some bytes) =
    (last : List CatEntry) × SpellsTree bytes last
    × ((entries : List CatEntry) → ShowsCatalog es entries → ServesAll entries last)

-- the read shows the reply to the operation, where this catalog was read before it
abbrev pub IsShownBy : Option (List ℕ) → Seen → Op → Reply → Type 0
IsShownBy catalog seen op reply =
    (es : List Entry) → HasCatalog es catalog → ReadShows es seen op reply

-- it doesn't, where this catalog serves all that was read before it
abbrev pub IsUnshownBy : Option (List ℕ) → Seen → Op → Reply → Type 0
IsUnshownBy catalog seen op reply =
    (es : List Entry) → LastServesAll es catalog → ReadShows es seen op reply → ⊥

-- whether it does
abbrev pub TellsShown : Bool → Option (List ℕ) → Seen → Op → Reply → Type 0
TellsShown true catalog seen op reply = IsShownBy catalog seen op reply
TellsShown false catalog seen op reply = IsUnshownBy catalog seen op reply

-- Catalogs

-- the bytes spell a catalog that shows the reply
abbrev pub CatalogBytesShow : List ℕ → Op → Reply → Type 0
CatalogBytesShow bytes op reply =
    (entries : List CatEntry) × SpellsCatalog bytes entries
    × CatalogReplies (heads_in entries) op reply

-- a reply that refuses an operation
abbrev pub IsRefusing : Reply → Type 0
IsRefusing Say.NoVersion = ⊤
IsRefusing Say.Frozen = ⊤
IsRefusing Say.NotFrozen = ⊤
IsRefusing Say.NameTaken = ⊤
IsRefusing Say.VersionsFull = ⊤
IsRefusing reply = ⊥

-- Leaves

-- the key of a lone Get
abbrev pub lone_key : List Step → Option (List ℕ)
lone_key (Get key ∷ []) = Some key
lone_key steps = None

-- what a leaf that covers the key has there
abbrev pub found_in : Body → List ℕ → Option (Option (List ℕ))
found_in (Leaf pairs) key = Some (value_at pairs key)
found_in (Inner height first rest) key = None

abbrev pub found_at : Bool → Body → List ℕ → Option (Option (List ℕ))
found_at true body key = found_in body key
found_at false body key = None

abbrev pub leaf_value : Page → List ℕ → Option (Option (List ℕ))
leaf_value page key = found_at (page_covers key page) page.body key

-- the catalog that these bytes spell says that the page serves the version of this name
abbrev pub CatalogServes : List ℕ → List ℕ → Page → Type 0
CatalogServes bytes name page =
    (entries : List CatEntry) × SpellsTree bytes entries × ServesNamed entries name page

-- what is known of a catalog's bytes is what they spell, with the tree of its versions
abbrev pub IsKnownOf : List ℕ → Option (List CatEntry × List (Option ℕ)) → Type 0
IsKnownOf bytes None = (entries : List CatEntry) → SpellsTree bytes entries → ⊥
IsKnownOf bytes (Some known) =
    SpellsTree bytes known.0 × (known.1 ≡ parents_of (heads_in known.0))

abbrev pub IsServedByCatalog : Option (List ℕ) → List ℕ → Page → Type 0
IsServedByCatalog None name page = ⊥
IsServedByCatalog (Some bytes) name page = CatalogServes bytes name page

-- the bytes spell a leaf that shows the reply to a lone Get of the key
pub record LeafBytesShow (bytes key : List ℕ) (reply : Reply) (page : Page) : Type 0 where
  pub spelled : SpellsPage bytes page
  pub value : Option (List ℕ)
  pub found : leaf_value page key ≡ Some value
  pub is : reply ≡ Say.Values (value ∷ [])

-- they do, and by this catalog the leaf serves the version of this name
abbrev pub LeafShowsBy : Option (List ℕ) → List ℕ → List ℕ → List ℕ → Reply → Type 0
LeafShowsBy catalog bytes name key reply =
    (page : Page) × LeafBytesShow bytes key reply page × IsServedByCatalog catalog name page

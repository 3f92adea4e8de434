-- What a client's own list shows: bytes that were read, catalogs, pages, and the replies that
-- follow from them.
use Rattle.std.specs.Prelude.{ℕ, ◌≡◌, ◌+◌, ◌-◌, ◌≤◌, ◌⊎◌, true, IsTrue, List, [], ◌∷◌, ◌++◌, length}
use Rattle.std.specs.Prelude.{take, Option, Some, None, ⊤, Contains, unwrap_or, slice_get}
use Rattle.std.specs.List.{flat_map, AllByRecursion}
use Rattle.mn_base.specs.Order.{key_le}
use Rattle.mn_base.specs.Store.{Head, number_named, head_named, value_at, pairs_within, refusal}
use Rattle.mn_base.specs.Store.{listing_of, max_versions}
use Rattle.mn_base.specs.declared.ids.NodeNo.{NodeNo}
use Rattle.mn_base.specs.declared.ids.Addr.{Addr}
use Rattle.mn_base.specs.declared.reply.Pair.{Pair}
use Rattle.mn_base.specs.declared.op.Step.TheVariants.{Get}
use Rattle.mn_base.specs.declared.op.Op.{Op}
use Rattle.mn_base.specs.declared.op.Op.TheVariants.{Tx, Scan, Versions}
use Rattle.mn_base.specs.declared.reply.Reply.{Reply}
use Rattle.mn_base.specs.declared.reply.Reply.TheVariants.{Values, Pairs, Listing}
use Rattle.mn_mini.specs.declared.part.PartItem.{PartItem}
use Rattle.mn_mini.specs.declared.part.PartItem.TheVariants as Bare
use Rattle.mn_mini.specs.declared.request.Request.{Request}
use Rattle.mn_mini.specs.declared.request.Request.TheVariants as Ask
use Rattle.mn_mini.specs.declared.reply.NodeReply.{NodeReply}
use Rattle.mn_mini.specs.declared.reply.NodeReply.TheVariants as Say
use Rattle.mn_mini.specs.Flat.{bytes_in}
use Rattle.mn_page.specs.declared.page.Page.{Page}
use Rattle.mn_page.specs.declared.entry.CatEntry.{CatEntry}
use Rattle.mn_page.specs.Grammar.{padded, entry_bytes, IsEntry, SpellsPage, height_of}
use Rattle.mn_page.specs.Space.{catalog_size}
use Rattle.mn_page.specs.Forest.{heads_in}
use Rattle.mn_page.specs.Holds.{page_covers, page_serves, pairs_in}
use Rattle.mn_runs.specs.declared.entry.Entry.{Entry}
use Rattle.mn_runs.specs.Calls.{calls_of}
use Rattle.mn_runs.specs.Seen.{Place, Seen, seen_in}
use Rattle.mn_law.specs.Places.{page_place, entry_place, catalog_place, at_catalog, IsEntryPlace}
use Rattle.mn_law.specs.Places.{number_size}

-- Bytes that were read

-- each read item of a part with the bytes that it brought, in their order
abbrev pub items_shown : NodeNo → List PartItem → List (List ℕ) → List Seen
items_shown n [] reads = []
items_shown n (Bare.Compare start bytes ∷ items) reads = items_shown n items reads
items_shown n (Bare.Read start length ∷ items) [] = []
items_shown n (Bare.Read start length ∷ items) (bytes ∷ reads) =
    record { place = record { node = n; start = start; length = length }; bytes = bytes }
    ∷ items_shown n items reads
items_shown n (Bare.Write start bytes ∷ items) reads = items_shown n items reads

-- what a reply gives: the reads of an Exec that was done, and a Peek that was answered
abbrev pub shown_by : NodeNo → Request → NodeReply → List Seen
shown_by n (Ask.Exec tid part) (Say.Done reads) = items_shown n part reads
shown_by n (Ask.Peek start length) (Say.Peeked bytes) =
    record { place = record { node = n; start = start; length = length }; bytes = bytes } ∷ []
shown_by n request reply = []

-- what the replies of a list give, the newest first
abbrev pub shown_in : List Entry → List Seen
shown_in es = flat_map (λ c. shown_by c.node c.request c.reply) (calls_of es)

-- a read gives the whole place, which lies in it, with these bytes
pub record GivesPlace (seen : Seen) (place : Place) (bytes : List ℕ) : Type 0 where
  pub node : seen.place.node ≡ place.node
  pub begins : seen.place.start ≤ place.start
  pub ends : place.start + place.length ≤ seen.place.start + length seen.bytes
  pub part : bytes_in seen.bytes (place.start - seen.place.start) place.length ≡ bytes

-- a read tells what stands in the place: it gives the whole place, or, of an entry, the whole place
-- of the same entry on the node from which the catalog is read
abbrev pub TellsPlace : Seen → Place → List ℕ → Type 0
TellsPlace seen place bytes =
    GivesPlace seen place bytes
    ⊎ (IsEntryPlace place × GivesPlace seen (at_catalog place) bytes)

-- the list shows the bytes of a place: a reply in it tells them
abbrev pub ShowsPlace : List Entry → Place → List ℕ → Type 0
ShowsPlace es place bytes =
    (seen : Seen) × Contains (shown_in es) seen × TellsPlace seen place bytes

-- a read tells bytes of the place that begin so
abbrev pub GivesFrom : Seen → Place → List ℕ → List ℕ → Type 0
GivesFrom seen place number bytes =
    TellsPlace seen place bytes × (take number_size bytes ≡ number)

-- of these reads, the first that tells bytes of the place that begin so tells these
abbrev pub FirstGives : List Seen → Place → List ℕ → List ℕ → Type 0
FirstGives [] place number bytes = ⊥
FirstGives (seen ∷ seens) place number bytes =
    GivesFrom seen place number bytes
    ⊎ (((other : List ℕ) → GivesFrom seen place number other → ⊥)
    × FirstGives seens place number bytes)

-- the last bytes of the place that the list shows, of those that begin so
abbrev pub ShowsLast : List Entry → Place → List ℕ → List ℕ → Type 0
ShowsLast es place number bytes = FirstGives (shown_in es) place number bytes

-- the list shows bytes of the place that begin so
abbrev pub ShowsNumber : List Entry → Place → List ℕ → Type 0
ShowsNumber es place number =
    (bytes : List ℕ) × ShowsPlace es place bytes × (take number_size bytes ≡ number)

-- a read of the catalog with these entries
abbrev pub SeesCatalog : Seen → List CatEntry → Type 0
SeesCatalog seen entries =
    (seen.place ≡ catalog_place) × (length entries ≤ max_versions) × AllByRecursion IsEntry entries
    × (seen.bytes ≡ padded catalog_size (flat_map entry_bytes entries))

-- a read of this page at this address
abbrev pub SeesPage : Seen → Addr → Page → Type 0
SeesPage seen addr page = (seen.place ≡ page_place addr) × SpellsPage seen.bytes page

-- the list shows a catalog as read
abbrev pub ShowsCatalog : List Entry → List CatEntry → Type 0
ShowsCatalog es entries = (seen : Seen) × Contains (seen_in es) seen × SeesCatalog seen entries

-- the page serves the version of this name, by these entries
abbrev pub ServesNamed : List CatEntry → List ℕ → Page → Type 0
ServesNamed entries name page =
    (v : ℕ) × (number_named (heads_in entries) name ≡ Some v) × IsTrue (page_serves entries v page)

-- Replies that a read shows

-- a leaf shows a lone Get's reply, where the list before its read shows a catalog by which it
-- serves the version
abbrev pub LeafShows : List Entry → Seen → Op → Reply → Type 0
LeafShows es seen (Tx version (Get key ∷ [])) reply =
    (entries : List CatEntry) × (addr : Addr) × (page : Page) × ShowsCatalog es entries
    × SeesPage seen addr page × (height_of page.body ≡ 0)
    × ServesNamed entries version page × IsTrue (page_covers key page)
    × (reply ≡ Values (value_at (pairs_in page.body) key ∷ []))
LeafShows es seen op reply = ⊥

-- a catalog shows a refusing reply, or the listing
abbrev pub CatalogReplies : List Head → Op → Reply → Type 0
CatalogReplies heads Versions reply = reply ≡ Listing (listing_of heads)
CatalogReplies heads op reply = refusal heads op ≡ Some reply

abbrev pub CatalogShows : Seen → Op → Reply → Type 0
CatalogShows seen op reply =
    (entries : List CatEntry) × SeesCatalog seen entries
    × CatalogReplies (heads_in entries) op reply

-- a read shows a reply, by what its client's list held before it
abbrev pub ReadShows : List Entry → Seen → Op → Reply → Type 0
ReadShows es seen op reply = LeafShows es seen op reply ⊎ CatalogShows seen op reply

-- Replies of a scan

-- each leaf begins where the one before it ends
abbrev pub IsChain : List Page → Type 0
IsChain [] = ⊥
IsChain (p ∷ []) = ⊤
IsChain (p ∷ (q ∷ ps)) = (p.high ≡ Some q.low) × IsChain (q ∷ ps)

-- a leaf that ends here ends at or above the bound
abbrev pub EndsAtOrAbove : Option (List ℕ) → Option (List ℕ) → Type 0
EndsAtOrAbove bound None = ⊤
EndsAtOrAbove None (Some fence) = ⊥
EndsAtOrAbove (Some bound) (Some fence) = IsTrue (key_le bound fence)

-- the last leaf ends at or above the bound
abbrev pub ReachesEnd : Option (List ℕ) → List Page → Type 0
ReachesEnd high [] = ⊥
ReachesEnd high (p ∷ []) = EndsAtOrAbove high p.high
ReachesEnd high (p ∷ (q ∷ ps)) = ReachesEnd high (q ∷ ps)

-- the first leaf covers the bound, or is the first of all
abbrev pub BeginsAt : Option (List ℕ) → List Page → Type 0
BeginsAt low [] = ⊥
BeginsAt low (p ∷ ps) = IsTrue (page_covers (unwrap_or low []) p)

-- the pairs of these leaves
abbrev pub leaf_pairs : List Page → List Pair
leaf_pairs pages = flat_map (λ p. pairs_in p.body) pages

-- leaves that were read, in order, have the pairs within the bounds, up to the limit or to the end
pub record ShowsPairs (entries : List CatEntry) (later : List Seen) (name : List ℕ)
    (low high : Option (List ℕ)) (limit : ℕ) (pairs : List Pair) : Type 0 where
  pub leaves : List Page
  pub seen : AllByRecursion (λ p. (seen : Seen) × (addr : Addr) × Contains later seen
      × SeesPage seen addr p × (height_of p.body ≡ 0) × ServesNamed entries name p) leaves
  pub chain : IsChain leaves
  pub first : BeginsAt low leaves
  pub pairs_are : pairs ≡ take limit (pairs_within (leaf_pairs leaves) low high)
  pub enough : (limit ≤ length (pairs_within (leaf_pairs leaves) low high)) ⊎ ReachesEnd high leaves

-- whether a read is a read of the catalog
abbrev pub IsCatalogRead : Seen → Type 0
IsCatalogRead seen = seen.place ≡ catalog_place

-- the oldest catalog read of these, with the reads after it; the newest stand first
pub record FirstCatalog (seens : List Seen) (seen : Seen) (later : List Seen) : Type 0 where
  pub earlier : List Seen
  pub split : seens ≡ later ++ seen ∷ [] ++ earlier
  pub catalog : IsCatalogRead seen
  pub none_before : AllByRecursion (λ s. IsCatalogRead s → ⊥) earlier

-- an operation's first catalog read shows the version as frozen, and leaves read after it show the
-- pairs
abbrev pub ScanShows : List Seen → Op → Reply → Type 0
ScanShows seens (Scan version low high limit) (Pairs pairs) =
    (seen : Seen) × (later : List Seen) × (entries : List CatEntry) × (head : Head)
    × FirstCatalog seens seen later × SeesCatalog seen entries
    × (head_named (heads_in entries) version ≡ Some head) × (head.frozen ≡ true)
    × ShowsPairs entries later version low high limit pairs
ScanShows seens op reply = ⊥

-- Laws of what a list shows

-- what a list has seen, its replies give
abbrev pub SeenIsShown : Type 0
SeenIsShown =
    (es : List Entry) (seen : Seen) → Contains (seen_in es) seen → Contains (shown_in es) seen

-- what an older list shows, the newer one shows
abbrev pub ShownStays : Type 0
ShownStays =
    (newer older : List Entry) (place : Place) (bytes : List ℕ) → ShowsPlace older place bytes
    → ShowsPlace (newer ++ older) place bytes

-- a list that shows a catalog shows each entry of it, on each node
abbrev pub EntriesAreShown : Type 0
EntriesAreShown =
    (es : List Entry) (seen : Seen) (entries : List CatEntry) (n : NodeNo) (v : ℕ) (e : CatEntry)
    → Contains (shown_in es) seen → SeesCatalog seen entries
    → slice_get entries v ≡ Some e → ShowsPlace es (entry_place n v) (entry_bytes e)

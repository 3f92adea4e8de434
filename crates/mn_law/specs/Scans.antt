-- What a scan gathers leaf by leaf, and that it shows the scan's reply.
use Rattle.std.specs.Prelude.{ℕ, ◌≡◌, ◌≤◌, ◌⊎◌, IsTrue, List, [], ◌∷◌, ◌++◌, length, take, Option}
use Rattle.std.specs.Prelude.{true, Some, Contains, ⊤, unwrap_or}
use Rattle.std.specs.List.{AllByRecursion}
use Rattle.mn_base.specs.Store.{Head, head_named, pairs_within}
use Rattle.mn_base.specs.declared.ids.Addr.{Addr}
use Rattle.mn_base.specs.declared.op.Op.TheVariants.{Scan}
use Rattle.mn_base.specs.declared.reply.Pair.{Pair}
use Rattle.mn_base.specs.declared.reply.Reply.TheVariants.{Pairs}
use Rattle.mn_page.specs.declared.page.Page.{Page}
use Rattle.mn_page.specs.declared.entry.CatEntry.{CatEntry}
use Rattle.mn_page.specs.Forest.{heads_in}
use Rattle.mn_page.specs.Grammar.{height_of}
use Rattle.mn_page.specs.Holds.{page_covers, pairs_in}
use Rattle.mn_runs.specs.Seen.{Seen}
use Rattle.mn_law.specs.Shown.{SeesCatalog, SeesPage, ServesNamed, FirstCatalog, ScanShows}
use Rattle.mn_law.specs.Shown.{IsChain, BeginsAt, ReachesEnd, leaf_pairs}

-- a leaf that one of these reads brought, and that serves the version of this name
abbrev pub IsLeafRead : List CatEntry → List Seen → List ℕ → Page → Type 0
IsLeafRead entries reads name p =
    (seen : Seen) × (addr : Addr) × Contains reads seen × SeesPage seen addr p
    × (height_of p.body ≡ 0) × ServesNamed entries name p

-- the leaf may come next: the first covers the bound, or is the first of all; each other one begins
-- where the one before it ends
abbrev pub MayFollow : Option (List ℕ) → List Page → Page → Type 0
MayFollow low [] p = IsTrue (page_covers (unwrap_or low []) p)
MayFollow low (q ∷ []) p = q.high ≡ Some p.low
MayFollow low (q ∷ (r ∷ leaves)) p = MayFollow low (r ∷ leaves) p

-- none yet, or a chain of leaves that begins there
abbrev pub AreInTurn : Option (List ℕ) → List Page → Type 0
AreInTurn low [] = ⊤
AreInTurn low (p ∷ leaves) = IsChain (p ∷ leaves) × BeginsAt low (p ∷ leaves)

-- these leaves were taken, and these are their pairs within the bounds, up to the limit
pub record HasGathered (entries : List CatEntry) (reads : List Seen) (name : List ℕ)
    (low high : Option (List ℕ)) (limit : ℕ) (leaves : List Page) (pairs : List Pair) : Type 0 where
  pub read : AllByRecursion (IsLeafRead entries reads name) leaves
  pub in_turn : AreInTurn low leaves
  pub pairs_are : pairs ≡ take limit (pairs_within (leaf_pairs leaves) low high)

-- a further read takes nothing away
abbrev pub GatheredStays : Type 0
GatheredStays =
    (entries : List CatEntry) (reads more : List Seen) (name : List ℕ) (low high : Option (List ℕ))
    (limit : ℕ) (leaves : List Page) (pairs : List Pair)
    → HasGathered entries reads name low high limit leaves pairs
    → HasGathered entries (more ++ reads) name low high limit leaves pairs

-- the next leaf brings its pairs within the bounds, as far as the limit allows
abbrev pub LeavesAreGathered : Type 0
LeavesAreGathered =
    (entries : List CatEntry) (reads : List Seen) (name : List ℕ) (low high : Option (List ℕ))
    (limit : ℕ) (leaves : List Page) (pairs : List Pair) (p : Page)
    → HasGathered entries reads name low high limit leaves pairs
    → IsLeafRead entries reads name p → MayFollow low leaves p
    → HasGathered entries reads name low high limit (leaves ++ p ∷ [])
    (take limit (pairs ++ pairs_within (pairs_in p.body) low high))

-- up to the limit, or to a leaf that reaches the upper bound, that is the reply of the scan: by the
-- operation's first catalog read, which shows the version as frozen, and reads after it
abbrev pub GatheredIsShown : Type 0
GatheredIsShown =
    (seens : List Seen) (catalog : Seen) (later : List Seen) (entries : List CatEntry) (head : Head)
    (name : List ℕ) (low high : Option (List ℕ)) (limit : ℕ) (leaves : List Page)
    (p : Page) (pairs : List Pair)
    → FirstCatalog seens catalog later → SeesCatalog catalog entries
    → head_named (heads_in entries) name ≡ Some head → head.frozen ≡ true
    → HasGathered entries later name low high limit (leaves ++ p ∷ []) pairs
    → ((limit ≤ length pairs) ⊎ ReachesEnd high (leaves ++ p ∷ []))
    → ScanShows seens (Scan name low high limit) (Pairs pairs)

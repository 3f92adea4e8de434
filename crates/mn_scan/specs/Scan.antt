-- How a scan goes on, page by page.
use Rattle.std.specs.Prelude.{ℕ, ◌≡◌, ◌||◌, Bool, true, false, nat_eq, nat_le, List, []}
use Rattle.std.specs.Prelude.{◌++◌, length, take, Option, Some, None, if◌then◌else◌, unwrap_or, ⊤}
use Rattle.std.specs.Prelude.{◌⊎◌}
use Rattle.std.specs.Option.{option_map_or}
use Rattle.mn_base.specs.Order.{key_le}
use Rattle.mn_base.specs.Store.{pairs_within}
use Rattle.mn_base.specs.declared.ids.Addr.{Addr}
use Rattle.mn_base.specs.declared.ids.VersionNo.{VersionNo}
use Rattle.mn_base.specs.declared.reply.Pair.{Pair}
use Rattle.mn_page.specs.declared.page.Page.{Page}
use Rattle.mn_page.specs.declared.page.Body.{Body}
use Rattle.mn_page.specs.declared.page.Body.TheVariants.{Leaf, Inner}
use Rattle.mn_scan.specs.declared.step.ScanStep.{ScanStep}
use Rattle.mn_scan.specs.declared.step.ScanStep.TheVariants.{Need, Ended}
use Rattle.mn_scan.specs.declared.error.ScanError.{ScanError}
use Rattle.mn_scan.specs.declared.error.ScanError.TheVariants as refusals
use Rattle.mn_path.specs.Walk.{front_of, is_on_path, child_from}

-- a scan of a version with this root, by the parents of the versions: its bounds; the key at which
-- it stands, none for the least; the page that it needs, and the height of the page that names it;
-- whether it took a leaf, and whether it has ended; and the pairs that it has
pub record ScanState : Type 0 where
  pub parents : List (Option ℕ)
  pub version : VersionNo
  pub root : Addr
  pub low : Option (List ℕ)
  pub high : Option (List ℕ)
  pub limit : ℕ
  pub at : Option (List ℕ)
  pub needed : Addr
  pub above : Option ℕ
  pub began : Bool
  pub ended : Bool
  pub pairs : List Pair

abbrev pub new_scan : List (Option ℕ) → VersionNo → Addr → Option (List ℕ) → Option (List ℕ) → ℕ
    → ScanState
new_scan parents version root low high limit = record {
  parents = parents;
  version = version;
  root = root;
  low = low;
  high = high;
  limit = limit;
  at = low;
  needed = root;
  above = None;
  began = false;
  ended = false;
  pairs = [];
}

-- the key at which it stands
abbrev pub key_at : ScanState → List ℕ
key_at s = unwrap_or s.at []

-- a leaf may stand at the root, and below a page of height 1
abbrev pub may_be_leaf : Option ℕ → Bool
may_be_leaf above = option_map_or (λ a. nat_eq a 1) above true

-- what it wants next
abbrev pub step_of : ScanState → ScanStep
step_of s = if s.ended then Ended else Need s.needed (may_be_leaf s.above)

-- it needs the page at this address
abbrev pub IsNeeded : ScanState → Addr → Type 0
IsNeeded s addr = (s.ended ≡ false) × (s.needed ≡ addr)

-- the page is on the path to the leaf of its key
abbrev pub fits : ScanState → Page → Bool
fits s p = is_on_path s.parents s.version.0 (key_at s) s.above (front_of p)

-- it walks to its next leaf from the root again
abbrev pub restarted : ScanState → ScanState
restarted s = record {
  parents = s.parents;
  version = s.version;
  root = s.root;
  low = s.low;
  high = s.high;
  limit = s.limit;
  at = s.at;
  needed = s.root;
  above = None;
  began = s.began;
  ended = s.ended;
  pairs = s.pairs;
}

-- it walks on below an inner page
abbrev pub gone_below : ScanState → Addr → ℕ → ScanState
gone_below s addr height = record {
  parents = s.parents;
  version = s.version;
  root = s.root;
  low = s.low;
  high = s.high;
  limit = s.limit;
  at = s.at;
  needed = addr;
  above = Some height;
  began = s.began;
  ended = s.ended;
  pairs = s.pairs;
}

-- a leaf with this high fence is the last one of the bound
abbrev pub is_end : Option (List ℕ) → Option (List ℕ) → Bool
is_end bound None = true
is_end None (Some fence) = false
is_end (Some bound) (Some fence) = key_le bound fence

-- the pairs with those of one more leaf that lie within the bounds, up to the limit
abbrev pub gathered : ScanState → List Pair → List Pair
gathered s pairs = take s.limit (s.pairs ++ pairs_within pairs s.low s.high)

abbrev pub with_pairs : ScanState → List Pair → ScanState
with_pairs s pairs = record {
  parents = s.parents;
  version = s.version;
  root = s.root;
  low = s.low;
  high = s.high;
  limit = s.limit;
  at = s.at;
  needed = s.needed;
  above = s.above;
  began = s.began;
  ended = s.ended;
  pairs = pairs;
}

-- it has taken a leaf with these pairs and this high fence
abbrev pub leaf_taken : ScanState → Option (List ℕ) → List Pair → ScanState
leaf_taken s fence pairs = record {
  parents = s.parents;
  version = s.version;
  root = s.root;
  low = s.low;
  high = s.high;
  limit = s.limit;
  at = fence;
  needed = s.root;
  above = None;
  began = true;
  ended = nat_le s.limit (length (gathered s pairs)) || is_end s.high fence;
  pairs = gathered s pairs;
}

-- it has taken a page
abbrev pub fed_body : ScanState → Option (List ℕ) → Body → ScanState
fed_body s fence (Leaf pairs) = leaf_taken s fence pairs
fed_body s fence (Inner height first rest) = gone_below s (child_from first rest (key_at s)) height

abbrev pub fed : ScanState → Page → ScanState
fed s p = fed_body s p.high p.body

-- a leaf after the first begins at the key at which the one before it ended
abbrev pub FollowsOn : Bool → List ℕ → List ℕ → Body → Type 0
FollowsOn true key low (Leaf pairs) = low ≡ key
FollowsOn began key low body = ⊤

abbrev pub IsInTurn : ScanState → Page → Type 0
IsInTurn s p = FollowsOn s.began (key_at s) p.low p.body

-- why a page is refused
abbrev pub RefusesPage : ScanState → Addr → Page → ScanError → Type 0
RefusesPage s addr p (refusals.BadPath at) =
    (at ≡ addr) × ((fits s p ≡ false) ⊎ (IsInTurn s p → ⊥))
RefusesPage s addr p refusals.NoMemory = ⊤

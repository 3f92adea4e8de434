-- The tree of versions, and which versions a page serves.
use Rattle.std.specs.Prelude.{◌≡◌, ℕ, ◌<◌, ◌≤◌, Bool, false, true, not, ◌&&◌, ◌||◌, nat_eq, IsTrue}
use Rattle.std.specs.Prelude.{List, [], ◌∷◌, length, map, reverse, filter, Option, Some, None, ⊤}
use Rattle.std.specs.Prelude.{if◌then◌else◌, slice_get, bytes_eq}
use Rattle.std.specs.List.{list_any, range_with_len}
use Rattle.std.specs.Option.{option_map_or}
use Rattle.std.specs.Int.{bit_at}
use Rattle.mn_base.specs.Store.{Head, max_versions}

-- a is v or above it, where the parents stand newest first
abbrev pub is_above : List (Option ℕ) → ℕ → ℕ → Bool
is_above [] a v = false
is_above (parent ∷ older) a v =
    if nat_eq v (length older) then nat_eq a v
    || option_map_or (λ p. is_above older a p) parent false
    else is_above older a v

-- a is v or an ancestor of v
abbrev pub is_ancestor : List (Option ℕ) → ℕ → ℕ → Bool
is_ancestor parents a v = is_above (reverse parents) a v

abbrev pub parents_of : List Head → List (Option ℕ)
parents_of heads = map (λ h. h.parent) heads

-- the version is in the set
abbrev pub has_version : ℕ → ℕ → Bool
has_version copied w = nat_eq (bit_at copied w) 1

-- the versions of a set, in order
abbrev pub versions_in : ℕ → List ℕ
versions_in copied = filter (has_version copied) (range_with_len 0 max_versions)

-- a page made in one version serves v if that is v or an ancestor of v, and nothing it was copied
-- for is
abbrev pub serves : List (Option ℕ) → ℕ → ℕ → ℕ → Bool
serves parents made copied v =
    is_ancestor parents made v && not (list_any (λ w. is_ancestor parents w v) (versions_in copied))

-- The shape of a tree of versions

-- the first version has no parent, each other one a parent of a lower number; newest first
abbrev pub HaveParents : List (Option ℕ) → Type 0
HaveParents [] = ⊥
HaveParents (None ∷ []) = ⊤
HaveParents (None ∷ (parent ∷ older)) = ⊥
HaveParents (Some p ∷ older) = (p < length older) × HaveParents older

-- no name comes twice
abbrev pub are_distinct : List Head → Bool
are_distinct [] = true
are_distinct (h ∷ hs) = not (list_any (λ g. bytes_eq g.name h.name) hs) && are_distinct hs

-- some version has this one as its parent
abbrev pub has_child : List Head → ℕ → Bool
has_child heads v = list_any (λ h. option_map_or (nat_eq v) h.parent false) heads

-- the heads of a store
pub record IsVersionTree (heads : List Head) : Type 0 where
  pub count : length heads ≤ max_versions
  pub parents : HaveParents (reverse (parents_of heads))
  pub names : IsTrue (are_distinct heads)
  -- a version is frozen exactly where it has a child
  pub frozen : (v : ℕ) (h : Head) → slice_get heads v ≡ Some h → h.frozen ≡ has_child heads v

-- The table that the pairs of a version are kept in: places in order of key, each with a value or
-- none.
use Rattle.std.specs.Prelude.{ℕ, Bool, false, List, [], ◌∷◌, Option, None, Some, ⊤}
use Rattle.std.specs.declared.ops.Bound.{Bound}
use Rattle.std.specs.declared.ops.Bound.TheVariants.{Included, Excluded, Unbounded}
use Rattle.std.specs.BTreeMap.{BTreeMap, ContainsKey}
use Rattle.mn_base.specs.declared.reply.Pair.{Pair}
use Rattle.mn_base.specs.declared.op.Step.{Step}
use Rattle.mn_base.specs.declared.op.Step.TheVariants.{Put, Del}
use Rattle.mn_base.specs.Order.{key_cmp, key_lt}
use Rattle.mn_base.specs.Store.{pairs_with, pairs_without}

abbrev pub Table : Type 0
Table = BTreeMap (List ℕ) (Option (List ℕ))

-- a place before these pairs: without a value it has no pair
abbrev pub shown_before : List ℕ → Option (List ℕ) → List Pair → List Pair
shown_before key None ps = ps
shown_before key (Some value) ps = record { key = key; value = value } ∷ ps

-- the pairs of these places
abbrev pub shown : List (List ℕ × Option (List ℕ)) → List Pair
shown [] = []
shown (place ∷ places) = shown_before place.0 place.1 (shown places)

-- the pairs with this value of the key, or without the key
abbrev pub pairs_set : List Pair → List ℕ → Option (List ℕ) → List Pair
pairs_set ps key None = pairs_without ps key
pairs_set ps key (Some value) = pairs_with ps key value

-- each key that had a place has one
abbrev pub KeepsPlaces : Table → Table → Type 0
KeepsPlaces old new = (key : List ℕ) → ContainsKey key_cmp old key → ContainsKey key_cmp new key

-- the key that the step changes has a place
abbrev pub HasPlace : Table → Step → Type 0
HasPlace table (Put key value) = ContainsKey key_cmp table key
HasPlace table (Del key) = ContainsKey key_cmp table key
HasPlace table step = ⊤

-- where the pairs at or above low begin
abbrev pub from_low : Option (List ℕ) → Bound (List ℕ)
from_low None = Unbounded
from_low (Some key) = Included key

-- where the pairs below high end
abbrev pub to_high : Option (List ℕ) → Bound (List ℕ)
to_high None = Unbounded
to_high (Some key) = Excluded key

-- high is below low
abbrev pub are_turned : Option (List ℕ) → Option (List ℕ) → Bool
are_turned (Some low) (Some high) = key_lt high low
are_turned low high = false

-- Which child of an inner page a key belongs to.
use Rattle.std.specs.Prelude.{◌≡◌, ℕ, ◌<◌, ◌≤◌, true, Some, List, length, slice_get, count_by}
use Rattle.mn_base.specs.Order.{key_lt, key_le}

-- how many of the separators are not above the key
abbrev pub count_not_above : List (List ℕ) → List ℕ → ℕ
count_not_above separators key = count_by (λ separator. key_le separator key) separators

-- each separator is below the later ones
abbrev pub Ascend : List (List ℕ) → Type 0
Ascend separators =
    (i j : ℕ) (a b : List ℕ) → i < j → slice_get separators i ≡ Some a
    → slice_get separators j ≡ Some b → key_lt a b ≡ true

-- the key belongs to this child: the separators before it are not above the key, and the others are
pub record IsChild (separators : List (List ℕ)) (key : List ℕ) (child : ℕ) : Type 0 where
  pub within : child ≤ length separators
  pub before : (i : ℕ) (s : List ℕ) → i < child → slice_get separators i ≡ Some s
      → key_le s key ≡ true
  pub after : (i : ℕ) (s : List ℕ) → child ≤ i → slice_get separators i ≡ Some s
      → key_lt key s ≡ true

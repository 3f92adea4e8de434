-- The value of a key among the pairs of a leaf.
use Rattle.std.specs.Prelude.{ℕ, ◌≡◌, List, drop}
use Rattle.mn_base.specs.Store.{value_at}
use Rattle.mn_page.specs.declared.page.Body.{Body}
use Rattle.mn_page.specs.Holds.{pairs_in}

-- so far the key has no value
abbrev pub NoValueSoFar : Body → ℕ → List ℕ → Type 0
NoValueSoFar body i key = value_at (drop i (pairs_in body)) key ≡ value_at (pairs_in body) key

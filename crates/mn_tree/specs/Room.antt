-- Room for writes that come.
use Rattle.std.specs.Prelude.{ℕ, ◌≤◌}
use Rattle.mn_tree.specs.declared.draft.Draft.{Draft}

-- each list has room for so many more
pub record HasListRoom (d : Draft) (n : ℕ) : Type 0 where
  pub pages : n ≤ d.pages.room
  pub changed : n ≤ d.changed.room
  pub read : n ≤ d.read.room
  pub origins : n ≤ d.origins.room

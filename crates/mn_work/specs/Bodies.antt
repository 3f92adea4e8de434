-- What a page as it stands in its bytes tells of a key.
use Rattle.std.specs.Prelude.{ℕ, ◌≡◌, List, Option, Some, None, drop}
use Rattle.mn_base.specs.declared.ids.Addr.{Addr}
use Rattle.mn_page.specs.declared.page.Body.{Body}
use Rattle.mn_page.specs.declared.page.Body.TheVariants.{Leaf, Inner}
use Rattle.mn_path.specs.Walk.{child_from}

-- the child of an inner page that the key goes to
abbrev pub body_child : Body → List ℕ → Option Addr
body_child (Leaf pairs) key = None
body_child (Inner height first rest) key = Some (child_from first rest key)

-- so far the key goes to this child, or to one behind so many separators
abbrev pub ChildSoFar : Body → ℕ → Addr → List ℕ → Type 0
ChildSoFar (Leaf pairs) i found key = ⊥
ChildSoFar (Inner height first rest) i found key =
    child_from found (drop i rest) key ≡ child_from first rest key

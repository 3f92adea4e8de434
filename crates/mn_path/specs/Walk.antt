-- What a walk asks of a page before it goes on there.
use Rattle.std.specs.Prelude.{ℕ, ◌+◌, ◌&&◌, Bool, true, nat_eq, nat_le, List, [], ◌∷◌, Option, Some}
use Rattle.std.specs.Prelude.{None, if◌then◌else◌}
use Rattle.mn_base.specs.Order.{key_lt, covers_key}
use Rattle.mn_base.specs.Tree.{serves}
use Rattle.mn_base.specs.declared.ids.Addr.{Addr}
use Rattle.mn_base.specs.declared.ids.VersionNo.{VersionNo}
use Rattle.mn_page.specs.declared.page.Page.{Page}
use Rattle.mn_page.specs.declared.page.Child.{Child}
use Rattle.mn_page.specs.Grammar.{height_of}

-- the version that it was made for, those that it was copied for, its height and its fences
pub record FrontState : Type 0 where
  pub made : VersionNo
  pub copied : ℕ
  pub height : ℕ
  pub low : List ℕ
  pub high : Option (List ℕ)

abbrev pub front_of : Page → FrontState
front_of p =
    record {
      made = p.made;
      copied = p.copied;
      height = height_of p.body;
      low = p.low;
      high = p.high;
    }

-- the greatest height of a page
abbrev pub max_height : ℕ
max_height = 14

-- one below the page that names it; a root has none
abbrev pub is_below : Option ℕ → ℕ → Bool
is_below None height = true
is_below (Some above) height = nat_eq (height + 1) above

-- a page that was made in this version and copied for those serves the version, where these are the
-- parents of the versions
unfoldable pub is_live : List (Option ℕ) → ℕ → ℕ → ℕ → Bool
is_live parents v made copied = serves parents made copied v

-- a page of this height may stand below one of that height
abbrev pub may_stand : Option ℕ → ℕ → Bool
may_stand above height = is_below above height && nat_le height max_height

-- it serves the version, covers the key, is one height below the page that names it, and isn't too
-- high
abbrev pub is_on_path : List (Option ℕ) → ℕ → List ℕ → Option ℕ → FrontState → Bool
is_on_path parents v key above f =
    is_live parents v f.made.0 f.copied && (covers_key f.low f.high key && may_stand above f.height)

-- the child of a key: the last whose separator isn't above it, before the first that is
abbrev pub child_from : Addr → List Child → List ℕ → Addr
child_from found [] key = found
child_from found (c ∷ cs) key = if key_lt key c.separator then found else child_from c.addr cs key

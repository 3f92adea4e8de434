-- What an overlay keeps from one call to the next.
use Rattle.std.specs.Prelude.{ℕ, ◌≡◌, ◌≤◌, ◌^◌, Bool, true, false, List, length, Option, None}
use Rattle.std.specs.Prelude.{IfSome}
use Rattle.std.specs.Option.{option_map}
use Rattle.mn_base.specs.declared.ids.Addr.{Addr}
use Rattle.mn_base.specs.declared.ids.VersionNo.{VersionNo}
use Rattle.mn_page.specs.Overlay.{held_at}
use Rattle.mn_tree.specs.declared.kept.Kept.{Kept}
use Rattle.mn_tree.specs.declared.way.Way.{Way}
use Rattle.mn_tree.specs.Walk.{helds}
use Rattle.mn_tree.specs.Way.{CameTo}
use Rattle.mn_tree.specs.State.{TreeState, Wanted, drafted}

-- what the last step asked for, if it did: the page at which its way goes on
abbrev pub asked : Bool → Way → Option Wanted
asked false way = None
asked true way =
    option_map (λ key. record { addr = way.next; key = key; above = way.above }) way.key

-- the tree of a version with this root, as contracts see it
abbrev pub state_of : List (Option ℕ) → VersionNo → Addr → Kept → TreeState
state_of parents version root k =
    record {
      parents = parents;
      version = version;
      root = root;
      draft = drafted k.draft;
      wanted = asked k.asks k.way;
    }

-- there are so few new pages that they can be numbered, no page is held yet where one is asked for,
-- and a walk can go on
pub record IsKept (parents : List (Option ℕ)) (v : ℕ) (root : Addr) (k : Kept) : Type 0 where
  pub bound : length k.draft.origins.items ≤ 2 ^ 16
  pub absent : IfSome (asked k.asks k.way) (λ w. held_at (helds k.draft.pages.items) w.addr ≡ None)
  pub came : CameTo parents v root (helds k.draft.pages.items) k.way

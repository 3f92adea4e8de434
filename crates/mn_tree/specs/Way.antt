-- How far a walk has come: it can go on there once the page that it needs has come in.
use Rattle.std.specs.Prelude.{ℕ, ◌≡◌, ◌&&◌, Bool, List, map, Option, Some, if◌then◌else◌, IfSome}
use Rattle.std.specs.List.{AllByRecursion}
use Rattle.std.specs.Option.{option_map_or}
use Rattle.mn_base.specs.declared.ids.Addr.{Addr}
use Rattle.mn_page.specs.declared.page.Page.{Page}
use Rattle.mn_page.specs.Grammar.{height_of}
use Rattle.mn_page.specs.Overlay.{Held, held_at}
use Rattle.mn_path.specs.Walk.{is_below}
use Rattle.mn_tree.specs.declared.way.Way.{Way}
use Rattle.mn_tree.specs.Walk.{held, is_met, Walk, Missing, Wrong, walk_down, walk}

-- a walk goes on at the page, where the page that names it is of this height
abbrev pub may_follow : List (Option ℕ) → ℕ → List ℕ → Option ℕ → Page → Bool
may_follow parents v key above p = is_below above (height_of p.body) && is_met parents v key p

-- the walk from an address on, where these pages were passed, the last one first
abbrev pub walk_at : List (Option ℕ) → ℕ → List Held → List ℕ → Addr → Option ℕ → List Held → Walk
walk_at parents v pages key next above passed =
    option_map_or (λ p. if may_follow parents v key above p
    then walk_down parents v (height_of p.body) pages key (held next p) passed else Wrong next)
    (held_at pages next) (Missing next above)

-- these pages are held
abbrev pub AreHeld : List Held → List Held → Type 0
AreHeld pages passed = AllByRecursion (λ h. held_at pages h.addr ≡ Some h.page) passed

-- the walk of the key comes from the root to where the way goes on, over all pages among which are
-- those that it passed
pub record IsWay (parents : List (Option ℕ)) (v : ℕ) (root : Addr) (pages : List Held)
    (key : List ℕ) (way : Way) : Type 0 where
  pub passed : List Held
  pub addrs : way.passed.items ≡ map (λ h. h.addr) passed
  pub held : AreHeld pages passed
  pub leads : (others : List Held) → AreHeld others passed
      → walk parents v others root key ≡ walk_at parents v others key way.next way.above passed

-- the walk that is under way, if one is, has come this far
abbrev pub CameTo : List (Option ℕ) → ℕ → Addr → List Held → Way → Type 0
CameTo parents v root pages way = IfSome way.key (λ key. IsWay parents v root pages key way)

-- the walk is where it was
abbrev pub IsSameWay : Way → Way → Type 0
IsSameWay old new =
    (new.key ≡ old.key) × (new.passed.items ≡ old.passed.items) × (new.next ≡ old.next)
    × (new.above ≡ old.above)

-- more than the height of the page to which a walk comes
abbrev pub left_above : Option ℕ → ℕ
left_above above = option_map_or (λ height. height) above 65536

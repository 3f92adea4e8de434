-- The way from the root down to the leaf of a key, over the pages that are held.
use Rattle.std.specs.Prelude.{ℕ, zero, suc, ◌&&◌, Bool, nat_eq, List, [], ◌∷◌, map, Option, Some}
use Rattle.std.specs.Prelude.{None, if◌then◌else◌}
use Rattle.std.specs.Option.{option_map_or}
use Rattle.mn_base.specs.Tree.{serves}
use Rattle.mn_base.specs.declared.ids.Addr.{Addr}
use Rattle.mn_page.specs.declared.page.Page.{Page}
use Rattle.mn_page.specs.Grammar.{height_of}
use Rattle.mn_page.specs.Forest.{children_of}
use Rattle.mn_page.specs.Holds.{page_covers}
use Rattle.mn_page.specs.Overlay.{Held, held_at, child_for}
use Rattle.mn_tree.specs.declared.held.HeldPage.{HeldPage}

abbrev pub held : Addr → Page → Held
held addr page = record { addr = addr; page = page }

-- a page at its address, as it is kept
abbrev pub held_of : HeldPage → Held
held_of h = held h.addr h.page

abbrev pub helds : List HeldPage → List Held
helds hs = map held_of hs

-- where a walk ends: before a page that isn't there, with the height of the page that names it; at
-- a page that doesn't serve the version, doesn't cover the key or isn't one height below; or at the
-- leaf, where the leaf stands first and the root last
pub data Walk : Type 0 where
  Missing : (addr : Addr) → (above : Option ℕ) → Walk
  Wrong : (addr : Addr) → Walk
  Reached : (path : List Held) → Walk

-- the page serves the version, where these are the parents of the versions: one that the
-- transaction has copied for the version doesn't
unfoldable pub is_live : List (Option ℕ) → ℕ → Page → Bool
is_live parents v p = serves parents p.made.0 p.copied v

-- it serves the version and covers the key
abbrev pub is_met : List (Option ℕ) → ℕ → List ℕ → Page → Bool
is_met parents v key p = is_live parents v p && page_covers key p

-- and has this height
abbrev pub goes_on : List (Option ℕ) → ℕ → ℕ → List ℕ → Page → Bool
goes_on parents v height key p = nat_eq (height_of p.body) height && is_met parents v key p

-- from a page of this height that covers the key down, where the pages above it stand behind
abbrev pub walk_down : List (Option ℕ) → ℕ → ℕ → List Held → List ℕ → Held → List Held → Walk
walk_down parents v zero pages key h above = Reached (h ∷ above)
walk_down parents v (suc height) pages key h above =
    option_map_or
    (λ addr. option_map_or (λ p. if goes_on parents v height key p
    then walk_down parents v height pages key (held addr p) (h ∷ above) else Wrong addr)
    (held_at pages addr) (Missing addr (Some (suc height))))
    (child_for (children_of h.page) key) (Wrong h.addr)

-- from the root, if it is there
abbrev pub walk : List (Option ℕ) → ℕ → List Held → Addr → List ℕ → Walk
walk parents v pages root key =
    option_map_or (λ p. if is_met parents v key p
    then walk_down parents v (height_of p.body) pages key (held root p) [] else Wrong root)
    (held_at pages root) (Missing root None)

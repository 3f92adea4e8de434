-- What a walk tells of the pages of its path.
use Rattle.std.proofs.Common.{◌≡◌, ℕ, suc, true, List, [], ◌∷◌, Option, Some, subst, sym}
use Rattle.std.specs.List.{AllByRecursion}
use Rattle.mn_base.specs.declared.ids.Addr.{Addr}
use Rattle.mn_page.specs.Grammar.{height_of}
use Rattle.mn_page.specs.Holds.{page_covers}
use Rattle.mn_page.specs.Overlay.{Held, held_at}
use Rattle.mn_tree.specs.Walk.{Reached, walk}
use Rattle.mn_tree.proofs.Trees.Passing.{ArePassed, walk_passes, first_passed}

-- each page of a path is held
abbrev pub AreHeld : List Held → List Held → Type 0
AreHeld pages hs = AllByRecursion (λ h. held_at pages h.addr ≡ Some h.page) hs

-- the leaf stands first, and covers the key
abbrev pub LeafFirst : List ℕ → List Held → Type 0
LeafFirst key [] = ⊥
LeafFirst key (h ∷ above) = (height_of h.page.body ≡ 0) × (page_covers key h.page ≡ true)

abbrev pub IsWay : List Held → List ℕ → List Held → Type 0
IsWay pages key path = AreHeld pages path × LeafFirst key path

-- the pages of a path are held, and its leaf covers the key
pub reached : (parents : List (Option ℕ)) (v : ℕ) (pages : List Held) (root : Addr) (key : List ℕ) (path : List Held) → walk parents v pages root key ≡ Reached path → IsWay pages key path
reached parents v pages root key path way =
    let p = walk_passes parents v pages root key path way in
    let first = first_passed parents v pages root key 0 p.leaf p.above p.passed in
    subst (IsWay pages key) (sym p.is) (held_up 0 p.leaf p.above p.passed, (first.level, first.covers))
  where
    held_up : (height : ℕ) (h : Held) (above : List Held) → ArePassed parents v pages root key height h above → AreHeld pages (h ∷ above)
    held_up height h [] passed = ((passed.0).there, tt)
    held_up height h (parent ∷ above) passed = ((passed.0).there, held_up (suc height) parent above passed.1)

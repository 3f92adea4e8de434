-- A walk that reaches a leaf goes the way of the plain model.
use Rattle.std.proofs.Common.{◌≡◌, ℕ, zero, suc, ◌<◌, Bool, true, false, List, [], ◌∷◌, Option, Some, None, refl, ap, ◌∙◌, arith, nat_eq, eq-eqb, ne_eqb, eqb-true}
use Rattle.std.specs.Prelude.{if◌then◌else◌}
use Rattle.std.specs.Option.{option_map_or, option_and_then}
use Rattle.mn_base.specs.declared.ids.Addr.{Addr}
use Rattle.mn_base.proofs.Booleans.{left_true}
use Rattle.mn_page.specs.declared.page.Page.{Page}
use Rattle.mn_page.specs.Grammar.{height_of}
use Rattle.mn_page.specs.Forest.{children_of}
use Rattle.mn_page.specs.Overlay.{Held, held_at, child_for, path_to, max_path}
use Rattle.mn_tree.specs.Walk.{held, is_met, goes_on, Missing, Wrong, Reached, walk_down, walk}
use Rattle.mn_tree.specs.Laws.{WalksArePaths}

-- one level of the plain model's path
abbrev path_step : ℕ → List Held → List ℕ → Addr → List Held → Page → Option (List Held)
path_step fuel pages key addr above page =
    if nat_eq (height_of page.body) 0 then Some (held addr page ∷ above)
    else option_and_then (λ next. path_to fuel pages next key (held addr page ∷ above)) (child_for (children_of page) key)

-- what a walk finds at a child, where the walk from there on goes the model's way
module _ (parents : List (Option ℕ)) (v height fuel : ℕ) (pages : List Held) (key : List ℕ) (addr : Addr) (above path : List Held)
    (later : (next : Addr) (q : Page) → goes_on parents v height key q ≡ true → held_at pages next ≡ Some q → walk_down parents v height pages key (held next q) above ≡ Reached path → path_to fuel pages next key above ≡ Some path) where
  into : (next : Addr) (q : Page) (goes : Bool) → goes_on parents v height key q ≡ goes → held_at pages next ≡ Some q
      → (if goes then walk_down parents v height pages key (held next q) above else Wrong next) ≡ Reached path → path_to fuel pages next key above ≡ Some path
  into next q true goes there way = later next q goes there way
  into next q false goes there way = absurd cc

  at_page : (next : Addr) (o : Option Page) → held_at pages next ≡ o
      → option_map_or (λ q. if goes_on parents v height key q then walk_down parents v height pages key (held next q) above else Wrong next) o (Missing next (Some (suc height))) ≡ Reached path
      → path_to fuel pages next key above ≡ Some path
  at_page next None there way = absurd cc
  at_page next (Some q) there way = into next q (goes_on parents v height key q) refl there way

  at_child : (o : Option Addr)
      → option_map_or
      (λ next. option_map_or (λ q. if goes_on parents v height key q then walk_down parents v height pages key (held next q) above else Wrong next) (held_at pages next) (Missing next (Some (suc height)))) o
      (Wrong addr) ≡ Reached path → option_and_then (λ next. path_to fuel pages next key above) o ≡ Some path
  at_child None way = absurd cc
  at_child (Some next) way = at_page next (held_at pages next) refl way

down : (parents : List (Option ℕ)) (v height fuel : ℕ) (pages : List Held) (key : List ℕ) (addr : Addr) (p : Page) (above path : List Held) → height < fuel → height_of p.body ≡ height → held_at pages addr ≡ Some p
    → walk_down parents v height pages key (held addr p) above ≡ Reached path → path_to fuel pages addr key above ≡ Some path
down parents v height zero pages key addr p above path enough is there way = absurd (omega (arith, enough))
down parents v zero (suc fuel) pages key addr p above path enough is there way =
    let leaf : path_step fuel pages key addr above p ≡ Some (held addr p ∷ above) = rw (eq-eqb (height_of p.body) 0 is) refl in
    let same : held addr p ∷ above ≡ path = cc in
    ap (option_and_then (path_step fuel pages key addr above)) there ∙ leaf ∙ ap (λ (l : List Held). Some l) same
down parents v (suc height) (suc fuel) pages key addr p above path enough is there way =
    let inner : path_step fuel pages key addr above p ≡ option_and_then (λ next. path_to fuel pages next key (held addr p ∷ above)) (child_for (children_of p) key) =
    rw (ne_eqb (height_of p.body) 0 (λ e. absurd (omega (arith, is, e)))) refl in
    let later = λ (next : Addr) (q : Page) (goes : goes_on parents v height key q ≡ true) (at : held_at pages next ≡ Some q) (way : walk_down parents v height pages key (held next q) (held addr p ∷ above) ≡ Reached path).
    down parents v height fuel pages key next q (held addr p ∷ above) path (omega (arith, enough)) (eqb-true (height_of q.body) height (left_true (nat_eq (height_of q.body) height) (is_met parents v key q) goes)) at way in
    ap (option_and_then (path_step fuel pages key addr above)) there ∙ inner ∙ at_child parents v height fuel pages key addr (held addr p ∷ above) path later (child_for (children_of p) key) way

module _ (parents : List (Option ℕ)) (v : ℕ) (pages : List Held) (root : Addr) (key : List ℕ) (path : List Held) where
  covered : (p : Page) (covers : Bool) → held_at pages root ≡ Some p → (if covers then walk_down parents v (height_of p.body) pages key (held root p) [] else Wrong root) ≡ Reached path → height_of p.body < max_path
      → path_to max_path pages root key [] ≡ Some path
  covered p true there way low = down parents v (height_of p.body) max_path pages key root p [] path low refl there way
  covered p false there way low = absurd cc

  from_root : (o : Option Page) → held_at pages root ≡ o
      → option_map_or (λ p. if is_met parents v key p then walk_down parents v (height_of p.body) pages key (held root p) [] else Wrong root) o (Missing root None) ≡ Reached path
      → option_map_or (λ p. height_of p.body) o 0 < max_path → path_to max_path pages root key [] ≡ Some path
  from_root None there way low = absurd cc
  from_root (Some p) there way low = covered p (is_met parents v key p) there way low

-- where the root is lower than a path is long
pub below_max : (parents : List (Option ℕ)) (v : ℕ) (pages : List Held) (root : Addr) (key : List ℕ) (path : List Held)
    → walk parents v pages root key ≡ Reached path
    → option_map_or (λ p. height_of p.body) (held_at pages root) 0 < max_path
    → path_to max_path pages root key [] ≡ Some path
below_max parents v pages root key path way low = from_root parents v pages root key path (held_at pages root) refl way low

pub walks_are_paths : WalksArePaths
walks_are_paths parents v pages root key path way low = below_max parents v pages root key path way (omega (arith, low))

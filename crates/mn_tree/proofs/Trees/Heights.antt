-- How high the pages that a transaction holds are: a step makes the tree one higher at most.
use Rattle.std.proofs.Common.{◌≡◌, ℕ, ◌+◌, ◌≤◌, Bool, true, false, List, [], ◌∷◌, length, Option, Some, None, is_some, subst, sym, arith, nat_eq, if◌then◌else◌}
use Rattle.std.specs.Prelude.{⊤, nat_le}
use Rattle.std.specs.List.{AllByRecursion}
use Rattle.mn_base.specs.Store.{value_at, pairs_with, pairs_without}
use Rattle.mn_base.specs.declared.ids.Addr.{Addr}
use Rattle.mn_base.specs.declared.ids.VersionNo.{VersionNo}
use Rattle.mn_base.specs.declared.op.Step.{Step}
use Rattle.mn_base.specs.declared.op.Step.TheVariants.{Get, Put, Del, Check}
use Rattle.mn_base.specs.declared.reply.Pair.{Pair}
use Rattle.mn_base.proofs.Lists.{all_append}
use Rattle.mn_page.specs.declared.page.Page.{Page}
use Rattle.mn_page.specs.declared.page.Body.{Body}
use Rattle.mn_page.specs.declared.page.Body.TheVariants.{Leaf, Inner}
use Rattle.mn_page.specs.declared.page.Child.{Child}
use Rattle.mn_page.specs.Grammar.{height_of}
use Rattle.mn_page.specs.Holds.{pairs_in}
use Rattle.mn_page.specs.Overlay.{Held, Overlay, Halves, Asked, Nothing, Child_is, held_at, held_with, leaf_halves, inner_halves, halves_of, body_with, placed_addr, step_on}
use Rattle.mn_tree.specs.declared.write.Write.{Write}
use Rattle.mn_tree.specs.Writes.{own_writes, other_writes, root_writes, page_writes, page_asks, origins_in, writes_if, writes_up, step_writes, written, all_written}
use Rattle.mn_tree.proofs.Changes.{step_is}
use Rattle.mn_tree.proofs.Trees.SplitBelow.{same_level}
use Rattle.mn_tree.proofs.Trees.Reached.{AreHeld}
use Rattle.mn_tree.proofs.Trees.StepWrites.{is_now, is_still, held_now}

-- each page that is held is at most so high
pub record AreLow (top : ℕ) (pages : List Held) : Type 0 where
  pub each : (x : Addr) (p : Page) → held_at pages x ≡ Some p → height_of p.body ≤ top

-- both halves of a body are
abbrev pub ArePartsLow : ℕ → Option Halves → Type 0
ArePartsLow top None = ⊤
ArePartsLow top (Some hs) = (height_of hs.left ≤ top) × (height_of hs.right ≤ top)

leaf_low : (top : ℕ) (ps : List Pair) → ArePartsLow top (leaf_halves ps)
leaf_low top [] = tt
leaf_low top (a ∷ []) = tt
leaf_low top (a ∷ (b ∷ [])) = tt
leaf_low top (a ∷ (b ∷ (c ∷ []))) = tt
leaf_low top (a ∷ (b ∷ (c ∷ (d ∷ [])))) = tt
leaf_low top (a ∷ (b ∷ (c ∷ (d ∷ (e ∷ rest))))) = (omega arith, omega arith)

inner_low : (top height : ℕ) (first : Addr) (cs : List Child) → height ≤ top
    → ArePartsLow top (inner_halves height first cs)
inner_low top height first [] low = tt
inner_low top height first (b ∷ []) low = tt
inner_low top height first (b ∷ (c ∷ [])) low = tt
inner_low top height first (b ∷ (c ∷ (d ∷ []))) low = tt
inner_low top height first (b ∷ (c ∷ (d ∷ (e ∷ rest)))) low = (low, low)

pub parts_low : (top : ℕ) (b : Body) → height_of b ≤ top → ArePartsLow top (halves_of b)
parts_low top (Leaf pairs) low = by_count (nat_le (length pairs) 8)
  where
    by_count : (t : Bool) → ArePartsLow top (if t then None else leaf_halves pairs)
    by_count true = tt
    by_count false = leaf_low top pairs
parts_low top (Inner height first rest) low = by_count (nat_le (length rest + 1) 8)
  where
    by_count : (t : Bool) → ArePartsLow top (if t then None else inner_halves height first rest)
    by_count true = tt
    by_count false = inner_low top height first rest low

-- Writes

abbrev IsLow : ℕ → Body → Type 0
IsLow top b = height_of b ≤ top

abbrev AreWrittenLow : ℕ → List Write → Type 0
AreWrittenLow top ws = AllByRecursion (λ w. height_of w.page.body ≤ top) ws

page_low : (top : ℕ) (v : VersionNo) (n : ℕ) (origin : Addr) (h : Held) (body : Body)
    → height_of h.page.body ≤ top → height_of body ≤ top
    → AreWrittenLow (top + 1) (page_writes v n origin h body)
page_low top v n origin h body was low = by_own (nat_eq h.page.made.0 v.0) (halves_of body) (parts_low top body low)
  where
    up : (m : ℕ) → m ≤ top → m ≤ top + 1
    up m l = omega arith

    by_own : (t : Bool) (x : Option Halves) → ArePartsLow top x
        → AreWrittenLow (top + 1) (if t then own_writes v n origin h body x else other_writes v n origin h body x)
    by_own true None parts = (up (height_of body) low, tt)
    by_own true (Some hs) parts = (up (height_of hs.right) parts.1, (up (height_of hs.left) parts.0, tt))
    by_own false None parts = (up (height_of body) low, (up (height_of h.page.body) was, tt))
    by_own false (Some hs) parts = (up (height_of hs.left) parts.0, (up (height_of hs.right) parts.1, (up (height_of h.page.body) was, tt)))

up_low : (top : ℕ) (v : VersionNo) (n : ℕ) (origins : List Addr) (h : Held) (above : List Held)
    (body : Body) → AllByRecursion (λ g. height_of g.page.body ≤ top) (h ∷ above)
    → height_of body ≤ top
    → AreWrittenLow (top + 1) (writes_up v n origins h above body)
up_low top v n origins h [] body all low = by_halves (halves_of body) (parts_low top body low)
  where
    by_halves : (x : Option Halves) → ArePartsLow top x
        → AreWrittenLow (top + 1) (root_writes v n (placed_addr origins h.addr) h body x)
    by_halves None parts = (omega arith, tt)
    by_halves (Some hs) parts = let left = parts.0 in let right = parts.1 in (omega arith, (omega arith, (omega arith, tt)))
up_low top v n origins h (parent ∷ above) body all low =
    all_append (λ w. height_of w.page.body ≤ top + 1) (page_writes v n (placed_addr origins h.addr) h body) _ (page_low top v n (placed_addr origins h.addr) h body all.0 low)
    (by_asked (page_asks v n h body) (λ now more.
    up_low top v (n + length (origins_in (page_writes v n (placed_addr origins h.addr) h body))) origins parent above (body_with parent.page.body h.addr now more) all.1
    (subst (λ m. m ≤ top) (sym (same_level parent.page.body h.addr now more)) (all.1).0)))
  where
    later : Addr → Option Child → List Write
    later now more = writes_up v (n + length (origins_in (page_writes v n (placed_addr origins h.addr) h body))) origins parent above (body_with parent.page.body h.addr now more)

    by_asked : (a : Asked)
        → ((now : Addr) (more : Option Child) → AreWrittenLow (top + 1) (later now more))
        → AreWrittenLow (top + 1) (writes_if a later)
    by_asked Nothing rest = tt
    by_asked (Child_is now more) rest = rest now more

step_low : (top : ℕ) (v : VersionNo) (n : ℕ) (origins : List Addr) (step : Step) (path : List Held)
    → AllByRecursion (λ g. height_of g.page.body ≤ top) path
    → AreWrittenLow (top + 1) (step_writes v n origins step path)
step_low top v n origins (Get key) [] all = tt
step_low top v n origins (Put key value) [] all = tt
step_low top v n origins (Del key) [] all = tt
step_low top v n origins (Check key want) [] all = tt
step_low top v n origins (Put key value) (h ∷ above) all = up_low top v n origins h above (Leaf (pairs_with (pairs_in h.page.body) key value)) all (omega arith)
step_low top v n origins (Del key) (h ∷ above) all = by_value (is_some (value_at (pairs_in h.page.body) key))
  where
    by_value : (b : Bool)
        → AreWrittenLow (top + 1) (if b then writes_up v n origins h above (Leaf (pairs_without (pairs_in h.page.body) key)) else [])
    by_value true = up_low top v n origins h above (Leaf (pairs_without (pairs_in h.page.body) key)) all (omega arith)
    by_value false = tt
step_low top v n origins (Get key) (h ∷ above) all = tt
step_low top v n origins (Check key want) (h ∷ above) all = tt

-- Pages

-- with one more, or another one in its place
pub with_low : (top : ℕ) (pages : List Held) (a : Addr) (p : Page) → AreLow top pages
    → height_of p.body ≤ top → AreLow top (held_with pages a p)
with_low top pages a p low is = record {
  each = λ x q there. elim (held_now pages a p x q there) as (λ _. height_of q.body ≤ top) [
    | is_now e f ↦ subst (λ (y : Page). height_of y.body ≤ top) (sym f) is
    | is_still apart f ↦ low.each x q f
  ];
}

all_low : (top : ℕ) (ws : List Write) (o : Overlay) → AreLow top o.pages → AreWrittenLow top ws
    → AreLow top (all_written o ws).pages
all_low top [] o low all = low
all_low top (w ∷ ws) o low all = all_low top ws (written o w) (with_low top o.pages w.addr w.page low all.0) all.1

path_low : (top : ℕ) (pages path : List Held) → AreLow top pages → AreHeld pages path
    → AllByRecursion (λ g. height_of g.page.body ≤ top) path
path_low top pages [] low held = tt
path_low top pages (h ∷ path) low held = (low.each h.addr h.page held.0, path_low top pages path low held.1)

-- a step makes them one higher at most
pub step_keeps_low : (top : ℕ) (v : VersionNo) (o : Overlay) (origins : List Addr) (step : Step)
    (path : List Held) → AreLow top o.pages → AreHeld o.pages path
    → AreLow (top + 1) (step_on v o step path).pages
step_keeps_low top v o origins step path low held =
    subst (λ (x : Overlay). AreLow (top + 1) x.pages) (sym (step_is v o origins step path))
    (all_low (top + 1) (step_writes v o.fresh origins step path) o higher (step_low top v o.fresh origins step path (path_low top o.pages path low held)))
  where
    higher : AreLow (top + 1) o.pages
    higher = record { each = λ x p there. let is = low.each x p there in omega arith }

-- The moves of a try in the plain model of the tree, which has all pages that came in from the
-- start.
use Rattle.std.specs.Prelude.{ℕ, ◌≡◌, ◌≤◌, List, [], ◌∷◌, ◌++◌, length, Option, Some}
use Rattle.mn_base.specs.declared.ids.Addr.{Addr}
use Rattle.mn_base.specs.declared.ids.VersionNo.{VersionNo}
use Rattle.mn_base.specs.declared.op.Step.{Step}
use Rattle.mn_base.specs.declared.op.Op.TheVariants.{Tx}
use Rattle.mn_base.specs.declared.reply.Reply.TheVariants as reply
use Rattle.mn_page.specs.Overlay.{Held, Overlay, overlay_of, held_at, steps_on}
use Rattle.mn_page.specs.Overlay.{needed_slots, changed_pages}
use Rattle.mn_tree.specs.State.{Drafted, no_pages}
use Rattle.mn_tree.specs.Moves.{Move, LeadsTo, comes_in, AreAnswered}
use Rattle.mn_tree.specs.Tries.{ComeTo, EndsUnmet}

-- the same page at each address, the same old pages changed, in this order, and as many new ones
pub record AreAlike (a b : Overlay) : Type 0 where
  pub pages : (x : Addr) → held_at a.pages x ≡ held_at b.pages x
  pub changed : a.changed ≡ b.changed
  pub fresh : a.fresh ≡ b.fresh

-- where all Checks are met, the steps leave of the pages that came in what the moves leave
abbrev pub MovesAreSteps : Type 0
MovesAreSteps =
    (parents : List (Option ℕ)) (v : VersionNo) (root : Addr) (moves : List Move) (d : Drafted)
    (steps : List Step) (found : List (Option (List ℕ)))
    → LeadsTo parents v root no_pages moves d
    → AreAnswered parents v root no_pages moves 1 [] steps (reply.Values found)
    → length steps ≤ 16
    → (o : Overlay)
    × (steps_on v root (overlay_of (comes_in moves)) (overlay_of (comes_in moves)) steps ≡ Some o)
    × AreAlike o d.overlay

-- where one is unmet, they leave the pages as they came in
abbrev pub UnmetMovesChangeNothing : Type 0
UnmetMovesChangeNothing =
    (parents : List (Option ℕ)) (v : VersionNo) (root : Addr) (moves : List Move) (d : Drafted)
    (steps : List Step) (n : ℕ) (x : Option (List ℕ))
    → LeadsTo parents v root no_pages moves d
    → AreAnswered parents v root no_pages moves 1 [] steps (reply.Unmet n x)
    → length steps ≤ 16
    → steps_on v root (overlay_of (comes_in moves)) (overlay_of (comes_in moves)) steps
    ≡ Some (overlay_of (comes_in moves))

-- by the pages that came in, a transaction takes as many new slots as its try has new pages, and
-- writes the old pages that its try changed
abbrev pub TriesShowNeeds : Type 0
TriesShowNeeds =
    (parents : List (Option ℕ)) (v : VersionNo) (root : Addr) (moves : List Move) (d : Drafted)
    (came : List Held) (done : List Step) (found : List (Option (List ℕ))) (name : List ℕ)
    → ComeTo parents v root moves d came done found → length done ≤ 16
    → (needed_slots v root came (Tx name done) ≡ Some d.overlay.fresh)
    × (changed_pages v root came (Tx name done) ≡ Some d.overlay.changed)

-- one with an unmet Check takes none and writes none, whatever steps were to follow
abbrev pub UnmetNeedsNothing : Type 0
UnmetNeedsNothing =
    (parents : List (Option ℕ)) (v : VersionNo) (root : Addr) (moves : List Move) (d : Drafted)
    (came : List Held) (done : List Step) (step : Step) (x : Option (List ℕ)) (later : List Step)
    (name : List ℕ)
    → EndsUnmet parents v root moves d came done step x → length (done ++ step ∷ later) ≤ 16
    → (needed_slots v root came (Tx name (done ++ step ∷ later)) ≡ Some 0)
    × (changed_pages v root came (Tx name (done ++ step ∷ later)) ≡ Some [])

-- The list of a node in its pass.
use Rattle.std.proofs.Common.{◌≡◌, ℕ, Option, Some, List, [], ◌∷◌, ◌++◌, sym, ap, ◌∙◌}
use Rattle.mn_base.specs.declared.ids.NodeNo.{NodeNo}
use Rattle.mn_actors.specs.declared.actor.Actor.TheVariants.{Node}
use Rattle.mn_actors.specs.declared.board.Pass.{Pass}
use Rattle.mn_actors.specs.Lists.{grow, held, or_empty, Owns}
use Rattle.mn_actors.specs.Sight.{view_of}
use Rattle.mn_cell.specs.Station.{list_by, list_in}

-- a pass that is there
pub list_of_pass : {L E : Type 0} {g : _} (n : NodeNo) (o : Option (Pass L E g)) (p : Pass L E g) → o ≡ Some p → list_by n o ≡ list_in n p
list_of_pass {L} {E} {g} n o p is = ap (λ (q : Option (Pass L E g)). list_by n q) is

-- the pass has it, if it owns the node
pub held_in : {L E : Type 0} {g : _} (n : NodeNo) (p : Pass L E g) → Owns (view_of p) (Node n) → held (view_of p) (Node n) ≡ Some (list_in n p)
held_in {L} {E} {g} n p owns = owns.1 ∙ sym (ap (λ (o : Option (List (ℕ × E))). Some (or_empty o)) owns.1)

-- what ends it
pub grown_in : {L E : Type 0} {g : _} (n : NodeNo) (p q : Pass L E g) (x : ℕ × E) → Owns (view_of p) (Node n) → held (view_of q) (Node n) ≡ grow (held (view_of p) (Node n)) x → list_in n q ≡ list_in n p ++ x ∷ []
grown_in {L} {E} {g} n p q x owns is = ap (λ (o : Option (List (ℕ × E))). or_empty o) (is ∙ ap (λ (o : Option (List (ℕ × E))). grow o x) (held_in n p owns))

-- that of another pass of the node
pub same_list : {L E : Type 0} {g : _} (n : NodeNo) (o : Option (Pass L E g)) (p q : Pass L E g) → o ≡ Some p → held (view_of q) (Node n) ≡ held (view_of p) (Node n) → list_by n o ≡ list_in n q
same_list {L} {E} {g} n o p q is same = list_of_pass n o p is ∙ sym (ap (λ (l : Option (List (ℕ × E))). or_empty l) same)

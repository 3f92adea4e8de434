use Rattle.std.proofs.Common.{◌≡◌, Bool, ◌&&◌, List, [], ◌∷◌, refl, ap, ◌∙◌}
use Rattle.std.specs.Cmp.Lexicographic.{pointwise}
use Rattle.mn_base.specs.Ids.{node_same}
use Rattle.mn_base.specs.declared.ids.NodeNo.{NodeNo}
use Rattle.mn_flat.specs.Votes.{same_nodes}
use Rattle.mn_flat.proofs.known.are_same.Goals as goal

in_order : (ms ns : List NodeNo) → pointwise node_same ms ns ≡ same_nodes ms ns
in_order [] [] = refl
in_order [] (n ∷ ns) = refl
in_order (m ∷ ms) [] = refl
in_order (m ∷ ms) (n ∷ ns) = ap (λ (b : Bool). node_same m n && b) (in_order ms ns)

pub returns : goal.returns
returns c = c.eq.ensures ∙ in_order c.args.one.now c.args.other.now

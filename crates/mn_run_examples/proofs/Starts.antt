-- Which records are sound: none at all, and not those that decide without votes or both ways.
use Rattle.std.proofs.Common.{true, false, List, [], ◌∷◌, refl, lit<, if◌then◌else◌, nat_eq}
use Rattle.mn_base.specs.declared.ids.NodeNo.{NodeNo}
use Rattle.mn_mini.specs.declared.part.PartItem.TheVariants.{Read}
use Rattle.mn_mini.specs.declared.record.Record.{Record}
use Rattle.mn_mini.specs.declared.record.Record.TheVariants.{Voted, Decided}
use Rattle.mn_runs.specs.Sound.{AreSound}
use Rattle.mn_run_examples.proofs.TwoNodes.{node, id}

abbrev two : List NodeNo
two = node 0 ∷ node 1 ∷ []

abbrev vote : Record
vote = Voted (id 0 1) two (Read 0 1 ∷ [])

-- a decided yes with no vote before it
abbrev alone : NodeNo → List Record
alone n = if nat_eq n.0 0 then Decided (id 0 1) true ∷ [] else []

votes_example : AreSound 2 alone → ⊥
votes_example s = absurd (let h = (s.in_place (node 0) (lit< tt)).0 in cc)

-- a decided yes that lacks the vote of a participant
abbrev one_vote : NodeNo → List Record
one_vote n = if nat_eq n.0 0 then Decided (id 0 1) true ∷ vote ∷ [] else []

votes_example_2 : AreSound 2 one_vote → ⊥
votes_example_2 s = absurd (let h = s.yes (node 0) (id 0 1) two (lit< tt) refl refl in cc)

-- both have voted, and one is decided yes, the other no
abbrev both_ways : NodeNo → List Record
both_ways n = if nat_eq n.0 0 then Decided (id 0 1) true ∷ vote ∷ [] else Decided (id 0 1) false ∷ vote ∷ []

both_example : AreSound 2 both_ways → ⊥
both_example s = absurd (let h = (s.no (node 1) (node 0) (id 0 1) (lit< tt) (lit< tt) refl).1 in cc)

-- A node that has voted twice for one id and has decided it with yes.
use Rattle.std.proofs.Common.{◌≡◌, true, List, [], ◌∷◌, refl}
use Rattle.mn_base.specs.declared.ids.NodeNo.{NodeNo}
use Rattle.mn_base.specs.declared.ids.Tid.{Tid}
use Rattle.mn_mini.specs.declared.part.PartItem.TheVariants.{Write}
use Rattle.mn_mini.specs.declared.record.Record.{Record}
use Rattle.mn_mini.specs.declared.record.Record.TheVariants.{Voted, Decided}
use Rattle.mn_mini.specs.Node.{held_parts, space_of}

abbrev tid : Tid
tid = record { run = 1; client = record { 0 = 0 }; serial = 1 }

abbrev both_nodes : List NodeNo
both_nodes = record { 0 = 0 } ∷ record { 0 = 1 } ∷ []

-- newest first: the later vote writes over one byte of the two of the older one
abbrev votes : List Record
votes = Voted tid both_nodes (Write 2 (8 ∷ []) ∷ []) ∷ Voted tid both_nodes (Write 1 (7 ∷ 7 ∷ []) ∷ []) ∷ []

-- the decision writes both parts, the older one first
decided_example : space_of (0 ∷ 0 ∷ 0 ∷ 0 ∷ []) (Decided tid true ∷ votes) ≡ 0 ∷ 7 ∷ 8 ∷ 0 ∷ []
decided_example = refl

-- until then neither is in the space
held_example : space_of (0 ∷ 0 ∷ 0 ∷ 0 ∷ []) votes ≡ 0 ∷ 0 ∷ 0 ∷ 0 ∷ []
held_example = refl

-- and none is held behind it
left_example : held_parts (Decided tid true ∷ votes) ≡ []
left_example = refl

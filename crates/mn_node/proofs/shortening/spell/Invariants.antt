use Rattle.std.proofs.Common.{take}
use Rattle.mn_node.proofs.Spelled.{AreSpelled}
use Rattle.mn_node.proofs.shortening.spell.Given as goal

-- the bodies of so many records, and how many bytes they have
abbrev pub invariant-loop-added : goal.invariant-loop-added
invariant-loop-added l = AreSpelled (take l.added-index l.records) l.bodies.items l.total

use Rattle.std.proofs.Common.{◌≡◌, drop}
use Rattle.mn_path.specs.Walk.{child_from}
use Rattle.mn_path.proofs.walk.child_for.Given as goal

-- the separators so far aren't above the key
abbrev pub invariant-loop-child : goal.invariant-loop-child
invariant-loop-child l = child_from l.found (drop l.child-index l.rest) l.key ≡ child_from l.fn.first l.rest l.key

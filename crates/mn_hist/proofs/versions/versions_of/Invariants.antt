use Rattle.std.proofs.Common.{◌≡◌, map, take}
use Rattle.mn_hist.specs.Audit.{version_told}
use Rattle.mn_hist.proofs.versions.versions_of.Given as goal

-- the versions so far are told
abbrev pub invariant-loop-at : goal.invariant-loop-at
invariant-loop-at l = l.lines.items ≡ map (version_told l.store) (take l.at l.store)

use Rattle.mn_plain.proofs.KeptLemmas.{Passes}
use Rattle.mn_plain.proofs.store.place_of.Given as goal

-- the versions so far have other names
abbrev pub invariant-loop-at : goal.invariant-loop-at
invariant-loop-at l = Passes l.versions l.name l.at

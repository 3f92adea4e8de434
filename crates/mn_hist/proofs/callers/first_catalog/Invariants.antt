use Rattle.std.proofs.Common.{◌≡◌, false, take}
use Rattle.std.specs.List.{AllByRecursion}
use Rattle.mn_hist.specs.History.{Noting}
use Rattle.mn_hist.specs.Shown.{is_of_catalog}
use Rattle.mn_hist.proofs.callers.first_catalog.Given as goal

-- none of these reads the catalog
abbrev pub invariant-loop-note : goal.invariant-loop-note
invariant-loop-note l =
    AllByRecursion (λ (n : Noting). AllByRecursion (λ s. is_of_catalog s ≡ false) n.seens) (take l.note-index l.notes)

use Rattle.std.proofs.Common.{◌≡◌, ◌++◌, drop, map}
use Rattle.mn_base.specs.Store.{listed}
use Rattle.mn_page.specs.Forest.{heads_in}
use Rattle.mn_work.proofs.catalog.listing_of.Given as goal

-- the lines so far, and those of the rest
abbrev pub invariant-loop-entry : goal.invariant-loop-entry
invariant-loop-entry l =
    l.versions.items ++ map (listed (heads_in l.entries)) (heads_in (drop l.entry-index l.entries)) ≡ map (listed (heads_in l.entries)) (heads_in l.entries)

use Rattle.std.proofs.Common.{◌≡◌, map, take}
use Rattle.mn_page.specs.Reading.{pair_seen}
use Rattle.mn_page.proofs.page_read.pairs_of.Given as goal

abbrev pub invariant-loop-pair : goal.invariant-loop-pair
invariant-loop-pair l = l.found.items ≡ map pair_seen (take l.pair-index l.pairs)

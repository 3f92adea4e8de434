use Rattle.std.proofs.Common.{◌≡◌, map, take}
use Rattle.mn_page.specs.Reading.{child_seen}
use Rattle.mn_page.proofs.page_read.children_of.Given as goal

abbrev pub invariant-loop-child : goal.invariant-loop-child
invariant-loop-child l = l.found.items ≡ map child_seen (take l.child-index l.children)

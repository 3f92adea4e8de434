use Rattle.std.proofs.Common.{◌≡◌, length}
use Rattle.mn_page.specs.Grammar.{child_bytes}
use Rattle.mn_page.specs.Reading.{children_seen, IsChild}
use Rattle.mn_page.proofs.Scanned.{Progress}
use Rattle.mn_page.proofs.scan.first_children.Given as goal

-- what is read so far, and the length of the array
abbrev pub invariant-loop-i : goal.invariant-loop-i
invariant-loop-i l = record {
  progress : Progress IsChild child_bytes l.count l.bytes l.i (children_seen l.i l.children) l.rest;
  size : length l.children ≡ 7;
}

use Rattle.std.proofs.Common.{◌≡◌, length}
use Rattle.mn_page.specs.Grammar.{pair_bytes}
use Rattle.mn_page.specs.Reading.{pairs_seen, IsPair}
use Rattle.mn_page.proofs.Scanned.{Progress}
use Rattle.mn_page.proofs.scan.first_pairs.Given as goal

-- what is read so far, and the length of the array
abbrev pub invariant-loop-i : goal.invariant-loop-i
invariant-loop-i l = record {
  progress : Progress IsPair pair_bytes l.count l.bytes l.i (pairs_seen l.i l.pairs) l.rest;
  size : length l.pairs ≡ 8;
}

use Rattle.std.proofs.Common.{◌≡◌, ◌++◌, drop}
use Rattle.std.specs.Prelude.{flat_map}
use Rattle.mn_report.specs.Answers.{pair_text}
use Rattle.mn_report.proofs.answers.push_pairs.Given as goal

-- the text so far, and that of the rest
abbrev pub invariant-loop-pair : goal.invariant-loop-pair
invariant-loop-pair l = l.out.items ++ flat_map pair_text (drop l.pair-index l.pairs) ≡ l.fn.out.items ++ flat_map pair_text l.pairs

use Rattle.std.proofs.Common.{◌≡◌, drop}
use Rattle.std.specs.List.{list_all}
use Rattle.mn_script.specs.Words.{is_digit}
use Rattle.mn_script.proofs.words.are_digits.Given as goal

-- digits so far
abbrev pub invariant-loop-byte : goal.invariant-loop-byte
invariant-loop-byte l = list_all is_digit (drop l.byte-index l.word) ≡ list_all is_digit l.word

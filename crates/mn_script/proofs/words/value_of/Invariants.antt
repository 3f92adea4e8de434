use Rattle.std.proofs.Common.{◌≡◌, ◌≤◌, drop, IsTrue}
use Rattle.std.specs.List.{list_all}
use Rattle.mn_script.specs.Words.{is_digit, number_from}
use Rattle.mn_script.proofs.words.value_of.Given as goal

-- the number so far, and the digits behind
abbrev pub invariant-loop-byte : goal.invariant-loop-byte
invariant-loop-byte l = record {
  value : number_from l.value (drop l.byte-index l.word) ≡ number_from 0 l.word;
  small : l.value ≤ 10000;
  digits : IsTrue (list_all is_digit (drop l.byte-index l.word));
}

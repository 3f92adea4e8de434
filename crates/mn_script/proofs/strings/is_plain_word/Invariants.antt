use Rattle.std.proofs.Common.{◌≡◌, drop}
use Rattle.std.specs.List.{list_all}
use Rattle.mn_report.specs.Spelling.{is_plain}
use Rattle.mn_script.proofs.strings.is_plain_word.Given as goal

-- plain bytes so far
abbrev pub invariant-loop-byte : goal.invariant-loop-byte
invariant-loop-byte l = list_all is_plain (drop l.byte-index l.word) ≡ list_all is_plain l.word

use Rattle.std.proofs.Common.{◌≡◌, drop, map, string_bytes}
use Rattle.std.specs.List.{list_any}
use Rattle.mn_top.specs.CommandLine.{is_option}
use Rattle.mn_top.proofs.clap_words.has_option.Given as goal

-- no option so far
abbrev pub invariant-loop-word : goal.invariant-loop-word
invariant-loop-word l = list_any is_option (map string_bytes (drop l.word-index l.words)) ≡ list_any is_option (map string_bytes l.words)

use Rattle.std.proofs.Common.{rules, sym, ◌∙◌, ◌≤◌, length, arith}
use Rattle.mn_script.proofs.StringLemmas.{unspelled_front}
use Rattle.mn_script.proofs.strings.first_byte.Goals as goal

pub returns-then-is_plain_byte : goal.returns-then-is_plain_byte
returns-then-is_plain_byte c =
    let some : 1 ≤ length c.args.word.now = search rules in
    (omega arith, some, unspelled_front c.args.word.now some (sym c.is_plain_byte.ensures ∙ c.if-is_plain_byte.true))

use Rattle.std.proofs.Common.{Some, ap, sym, ◌∙◌}
use Rattle.mn_script.proofs.StringLemmas.{plain_word}
use Rattle.mn_script.proofs.strings.string_of.Goals as goal

pub returns-then-is_plain_word : goal.returns-then-is_plain_word
returns-then-is_plain_word c =
    ap Some c.itself-then-is_plain_word.ensures
    ∙ sym (plain_word c.args.word.now (sym c.is_none.ensures ∙ c.if-is_none.false) (sym c.is_empty.ensures ∙ c.if-is_empty.false) (sym c.is_plain_word.ensures ∙ c.if-is_plain_word.true))

use Rattle.std.proofs.Common.{◌∙◌, ap, sym}
use Rattle.std.specs.Prelude.{nat_eq}
use Rattle.std.proofs.lemmas.Bool.{le-ltb}
use Rattle.std.proofs.lemmas.Nat.Bits.{bit_at_above}
use Rattle.mn_work.proofs.child.has_copied.Goals as goal

pub returns-else-number-lt64 : goal.returns-else-number-lt64
returns-else-number-lt64 c =
    le-ltb c.args.number 64 c.if-number-lt64.false
    ∙ sym (ap (λ b. nat_eq b 1) (bit_at_above c.args.page.now.copied 64 c.args.number c.requires.copied c.if-number-lt64.false))

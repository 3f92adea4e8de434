use Rattle.std.proofs.Common.{◌∙◌, ap, arith, sym}
use Rattle.mn_padded.specs.Zeros.{zeros_from}
use Rattle.mn_padded.proofs.Tails.{zeros_later, zeros_until}
use Rattle.mn_padded.proofs.Padded.are_zeros_from.Goals as goal

pub returns-then-at-self : goal.returns-then-at-self
returns-then-at-self c = sym (ap (zeros_from c.args.at) (sym c.self.view_is) ∙ zeros_later c.self.inside.filled c.args.at c.self.inside.bytes.now c.if-at-self.true c.self.invariant.1)

pub returns : goal.returns
returns c =
    c.are_zeros.ensures
    ∙ zeros_until c.args.at c.self.inside.filled c.self.inside.bytes.now (omega arith) c.self.invariant.1
    ∙ ap (zeros_from c.args.at) c.self.view_is

use Rattle.std.proofs.Common.{◌≡◌, true, ◌∙◌, ap, arith}
use Rattle.std.specs.Prelude.{bytes_eq}
use Rattle.mn_padded.specs.Zeros.{zeros_from}
use Rattle.mn_padded.proofs.Tails.{zeros_later, same_front}
use Rattle.mn_padded.proofs.Padded.is_same.Goals as goal

pub returns : goal.returns
returns c =
    let filled = c.max-filled.result in
    let a = c.self.inside.bytes.now in
    let b = c.other.inside.bytes.now in
    let mine : zeros_from filled a ≡ true = zeros_later c.self.inside.filled filled a (omega arith) c.self.invariant.1 in
    let its : zeros_from filled b ≡ true = zeros_later c.other.inside.filled filled b (omega arith) c.other.invariant.1 in
    c.eq.ensures ∙ same_front filled a b c.if-self-other.false mine its
    ∙ ap (λ l. bytes_eq l b) c.self.view_is ∙ ap (bytes_eq c.args.self.now) c.other.view_is

use Rattle.std.proofs.Common.{◌/◌, ◌∙◌, sym, arith}
use Rattle.mn_padded.proofs.Tails.{zeros_until}
use Rattle.mn_padded.proofs.filled_in.Goals as goal

pub loop-filled-preserved : goal.loop-filled-preserved
loop-filled-preserved c =
    let half = c.loop-filled.filled / 2 in
    (omega arith, sym (zeros_until half c.loop-filled.filled c.args.bytes.now (omega arith) c.loop-filled.invariant.1) ∙ (sym c.are_zeros.ensures ∙ c.if-not-are_zeros.false))

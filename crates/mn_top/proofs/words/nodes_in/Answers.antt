use Rattle.std.proofs.Common.{arith, sym, ◌∙◌}
use Rattle.mn_top.proofs.WordLemmas.{of_digit, as_digit}
use Rattle.mn_top.proofs.words.nodes_in.Goals as goal
use Rattle.mn_top.proofs.words.nodes_in.Goals.{then-digit-lt49-via-then-digit-lt49, then-digit-lt49-via-else-digit-lt49+then-digit-gt56}

pub returns-in_default : goal.returns-in_default
returns-in_default c = λ n some few e. omega (arith, of_digit n few c.as_bytes.result.now (c.as_bytes.ensures.value ∙ e), c.in_default.len_below)

pub returns-in_default-2 : goal.returns-in_default-2
returns-in_default-2 c = λ n some few e. omega (arith, of_digit n few c.as_bytes.result.now (c.as_bytes.ensures.value ∙ e), c.in_default.len_at_least)

pub returns-then-digit-lt49 : goal.returns-then-digit-lt49
returns-then-digit-lt49 c = λ n some few e.
    let digit = of_digit n few c.as_bytes.result.now (c.as_bytes.ensures.value ∙ e) in
    elim c.then-digit-lt49.branch [
      | then-digit-lt49-via-then-digit-lt49 w ↦ omega (arith, digit, w.if-digit-lt49.true)
      | then-digit-lt49-via-else-digit-lt49+then-digit-gt56 w ↦ omega (arith, digit, w.if-digit-gt56.true)
    ]

pub returns : goal.returns
returns c = (sym c.as_bytes.ensures.value ∙ as_digit c.as_bytes.result.now c.in-len1.len_at_least c.in-len1.len_below (omega (arith, c.if-digit-lt49.false)) (omega (arith, c.if-digit-gt56.false)), omega (arith, c.if-digit-lt49.false), omega (arith, c.if-digit-gt56.false))

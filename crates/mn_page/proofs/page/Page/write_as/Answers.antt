use Rattle.std.proofs.Common.{◌≤◌, ◌-◌, length, sym, subst, arith}
use Rattle.mn_padded.specs.Zeros.{IsFilled}
use Rattle.mn_padded.proofs.Tails.{zeros_put}
use Rattle.mn_page.proofs.page.Page.write_as.Goals as goal

pub returns-clause-filled : goal.returns-clause-filled
returns-clause-filled c =
    let at = c.put_body-at.result in
    let spelled = c.put_body-at.new.into in
    let within : at ≤ length spelled = omega arith in
    subst (λ bytes. IsFilled at bytes) (sym c.put_zeros.ensures) (zeros_put at (length spelled - at) spelled within)

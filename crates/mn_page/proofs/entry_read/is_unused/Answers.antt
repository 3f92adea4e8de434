use Rattle.std.proofs.Common.{sym, ◌∙◌}
use Rattle.mn_page.proofs.PageText.{free_zeros}
use Rattle.mn_page.proofs.entry_read.is_unused.Goals as goal

pub returns-then-bytes-eq-ENTRY : goal.returns-then-bytes-eq-ENTRY
returns-then-bytes-eq-ENTRY c =
    let both = free_zeros 64 c.args.bytes.now c.if-bytes-eq-ENTRY.true in
    (λ h. both.0 (sym c.are_zeros.ensures ∙ h), λ h. c.are_zeros.ensures ∙ both.1 h)

use Rattle.std.proofs.Common.{sym, ◌∙◌, ap, length, List, ℕ}
use Rattle.mn_page.proofs.PageText.{free_zeros}
use Rattle.mn_page.proofs.page_scan.is_free.Goals as goal

pub returns-then-as_slice-eq-SLOT : goal.returns-then-as_slice-eq-SLOT
returns-then-as_slice-eq-SLOT c =
    let both = free_zeros 1024 c.args.bytes.now (ap (λ (l : List ℕ). length l) (sym c.as_slice.ensures) ∙ c.if-as_slice-eq-SLOT.true) in
    (λ h. both.0 (sym c.are_zeros_from.ensures ∙ h), λ h. c.are_zeros_from.ensures ∙ both.1 h)

use Rattle.std.proofs.Common.{List, ℕ, subst, sym}
use Rattle.mn_page.specs.Grammar.{SpellsPage}
use Rattle.mn_work.proofs.seen.page_in.Goals as goal

pub returns-in_ok-new-in-Ok-Some : goal.returns-in_ok-new-in-Ok-Some
returns-in_ok-new-in-Ok-Some c =
    subst (SpellsPage c.args.bytes.now) (sym c.in_ok-new-in-Ok-Some.ensures)
    (subst (λ (b : List ℕ). SpellsPage b c.in-Ok-Some.page) c.padded.ensures (rw c.in-Ok-Some.field-0-is at c.in-Ok-Some.ensures.read))

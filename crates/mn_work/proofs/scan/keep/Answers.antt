use Rattle.std.proofs.Common.{◌≡◌, ◌∙◌, ℕ, ◌≤◌, false, arith, eqb-true, subst, sym}
use Rattle.std.specs.Prelude.{nat_eq}
use Rattle.std.proofs.lemmas.Bool.Decides.{nat_tests}
use Rattle.mn_page.specs.Grammar.{height_of}
use Rattle.mn_scan.specs.Scan.{RefusesPage, ScanState}
use Rattle.mn_work.specs.Scans.{WalksAlike}
use Rattle.mn_work.specs.Walks.{IsAbove}
use Rattle.mn_work.proofs.Scans.{fed_above, fed_alike}
use Rattle.mn_work.proofs.scan.keep.Goals as goal

some_height : (n : ℕ) → false ≡ nat_eq n 0 → 1 ≤ n
some_height n e = grind (arith, nat_tests)

pub returns-in-Ok-clause-taken : goal.returns-in-Ok-clause-taken
returns-in-Ok-clause-taken c = (
  sym (rw c.get-seen.ensures at c.goes_on.ensures) ∙ c.if-not-goes_on.false,
  c.in-Ok.ensures.fits,
  eqb-true (height_of c.args.page.body) 0 (sym ((rw c.get-seen.ensures at c.if-leaf.ensures) c.requires.page)),
  c.in-Ok.ensures.in_turn,
  c.in-Ok.ensures.fed,
)

pub returns-in-Ok-clause-above : goal.returns-in-Ok-clause-above
returns-in-Ok-clause-above c =
    subst (λ (s : ScanState). IsAbove s.above) (sym c.in-Ok.ensures.fed) (fed_above c.args.scan.now c.args.page c.requires.page)

pub returns-in-Ok-2-clause-taken : goal.returns-in-Ok-2-clause-taken
returns-in-Ok-2-clause-taken c = (
  sym (rw c.get-seen.ensures at c.goes_on.ensures) ∙ c.if-not-goes_on.false,
  c.in-Ok-2.ensures.fits,
  some_height (height_of c.args.page.body) ((rw c.get-seen.ensures at c.if-leaf.ensures) c.requires.page),
  c.in-Ok-2.ensures.fed,
)

pub returns-in-Ok-2-clause-stays : goal.returns-in-Ok-2-clause-stays
returns-in-Ok-2-clause-stays c =
    subst (λ (s : ScanState). WalksAlike c.args.scan.now s) (sym c.in-Ok-2.ensures.fed)
    (fed_alike c.args.scan.now c.args.page (some_height (height_of c.args.page.body) ((rw c.get-seen.ensures at c.if-leaf.ensures) c.requires.page)))

pub returns-in-Ok-2-clause-above : goal.returns-in-Ok-2-clause-above
returns-in-Ok-2-clause-above c =
    subst (λ (s : ScanState). IsAbove s.above) (sym c.in-Ok-2.ensures.fed) (fed_above c.args.scan.now c.args.page c.requires.page)

-- it is refused
pub returns-in-Err-BadPath-clause-taken : goal.returns-in-Err-BadPath-clause-taken
returns-in-Err-BadPath-clause-taken c = (
  sym (rw c.get-seen.ensures at c.goes_on.ensures) ∙ c.if-not-goes_on.false,
  (subst (RefusesPage c.args.scan.now c.args.addr c.args.page) c.in-Err-BadPath.field-0-is c.in-Err-BadPath.ensures.refused).1,
)

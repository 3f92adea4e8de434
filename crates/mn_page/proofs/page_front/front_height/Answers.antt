use Rattle.std.proofs.Common.{Bool, sym, subst, arith}
use Rattle.mn_page.specs.Reading.{height_text}
use Rattle.mn_page.specs.PageFronts.{IsHeight, Judged}
use Rattle.mn_page.proofs.Scanned.{are_bytes}
use Rattle.mn_page.proofs.FrontFields.{height_judged}
use Rattle.mn_page.proofs.page_front.front_height.Goals as goal

pub returns-in-None : goal.returns-in-None
returns-in-None c =
    let bytes = c.args.bytes.now in
    subst (λ (t : Bool). Judged IsHeight height_text bytes t) (sym c.height_goes_on.ensures) (height_judged bytes (are_bytes bytes (λ i. omega (arith, c.type_inv.bytes i))) c.in-None.ensures.only)

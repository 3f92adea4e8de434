use Rattle.std.proofs.Common.{Bool, sym, subst, arith}
use Rattle.mn_page.specs.Grammar.{IsAddr, addr_bytes}
use Rattle.mn_page.specs.PageFronts.{Judged}
use Rattle.mn_page.proofs.Scanned.{are_bytes}
use Rattle.mn_page.proofs.FrontFields.{addr_judged}
use Rattle.mn_page.proofs.page_front.front_addr.Goals as goal

pub returns-in-None : goal.returns-in-None
returns-in-None c =
    let bytes = c.args.bytes.now in
    subst (λ (t : Bool). Judged IsAddr addr_bytes bytes t) (sym c.addr_goes_on.ensures) (addr_judged bytes (are_bytes bytes (λ i. omega (arith, c.type_inv.bytes i))) c.in-None.ensures.only)

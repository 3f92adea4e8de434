use Rattle.std.proofs.Common.{arith}
use Rattle.mn_page.proofs.Scanned.{are_bytes}
use Rattle.mn_page.proofs.FrontFields.{seq_judged}
use Rattle.mn_page.proofs.page_front.front_seq.Goals as goal

pub returns-in-None : goal.returns-in-None
returns-in-None c = seq_judged c.args.bytes.now (are_bytes c.args.bytes.now (λ i. omega (arith, c.type_inv.bytes i))) c.in-None.ensures.only

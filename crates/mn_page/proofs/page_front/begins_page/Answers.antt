use Rattle.std.proofs.Common.{true, arith}
use Rattle.mn_page.proofs.FrontWhole.{decided, page_short}
use Rattle.mn_page.proofs.page_front.begins_page.Goals as goal

pub returns-then-bytes-gt-SLOT : goal.returns-then-bytes-gt-SLOT
returns-then-bytes-gt-SLOT c = (λ e. absurd cc, λ b. let short = page_short c.args.bytes.now b in absurd (omega (arith, short, c.if-bytes-gt-SLOT.true)))

pub returns-in-Ok : goal.returns-in-Ok
returns-in-Ok c = decided c.args.bytes.now true (omega (arith, c.if-bytes-gt-SLOT.false)) c.in-Ok.ensures

pub returns-in-Err : goal.returns-in-Err
returns-in-Err c = decided c.args.bytes.now c.in-Err.goes (omega (arith, c.if-bytes-gt-SLOT.false)) c.in-Err.ensures

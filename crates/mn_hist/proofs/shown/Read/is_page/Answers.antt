use Rattle.mn_hist.proofs.Places.{page_test}
use Rattle.mn_hist.proofs.shown.Read.is_page.Goals as goal

pub returns-then-self-eq-SLOT : goal.returns-then-self-eq-SLOT
returns-then-self-eq-SLOT c = page_test c.args.self.now.node c.args.self.now.start c.args.self.now.length c.if-self-eq-SLOT.true c.is_slot.result c.is_slot.ensures

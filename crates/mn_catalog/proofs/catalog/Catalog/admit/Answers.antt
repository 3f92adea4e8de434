use Rattle.std.proofs.Common.{ap, sym, ◌∙◌}
use Rattle.mn_base.specs.Store.{refusal}
use Rattle.mn_base.specs.declared.op.Op.{Op}
use Rattle.mn_page.specs.Forest.{heads_in}
use Rattle.mn_catalog.proofs.catalog.Catalog.admit.Goals as goal

pub returns-in-Scan : goal.returns-in-Scan
returns-in-Scan c =
    c.admit_scan.ensures c.in-Scan.low c.in-Scan.high c.in-Scan.limit
    ∙ sym (ap (λ (op : Op). refusal (heads_in c.args.self.now) op) c.in-Scan.is)

-- Node 0, which has the catalog, is one of the nodes.
use Rattle.mn_proxy.specs.Turn.{turned}
use Rattle.std.proofs.Common.{◌<◌, ℕ, ap, subst, sym}
use Rattle.mn_runs.specs.Seen.{Place}
use Rattle.std.specs.Prelude.{IfOk}
use Rattle.mn_proxy.specs.declared.errand.Purpose.TheVariants as by
use Rattle.mn_proxy.specs.Kept.{Issues}
use Rattle.mn_proxy.specs.Turns.{read_mini}
use Rattle.mn_proxy.proofs.proxy.Proxy.read_catalog.Goals as goal

pub read-requires-clause-node : goal.read-requires-clause-node
read-requires-clause-node c =
    subst (λ (n : ℕ). n < c.args.self.now.known.nodes)
    (sym (ap (λ (p : Place). p.node.0) c.of_catalog.ensures)) c.has_nodes.ensures.some

pub read-requires-clause-waits : goal.read-requires-clause-waits
read-requires-clause-waits c = (c.requires.job, (c.requires.startable, c.requires.asks))

pub returns-clause-reads : goal.returns-clause-reads
returns-clause-reads c =
    subst (λ (p : Place). IfOk (turned c.read.new.self.work c.read.result) (Issues c.args.work by.Catalog (read_mini c.args.self.now.known.nodes p))) c.of_catalog.ensures c.read.ensures.reads

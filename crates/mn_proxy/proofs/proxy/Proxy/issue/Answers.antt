-- The minitransaction is the newest entry, and its coordinator has just begun.
use Rattle.std.proofs.Common.{refl, sym, ◌<◌, arith}
use Rattle.mn_proxy.specs.contracts.proxy.Proxy.{the_view}
use Rattle.mn_proxy.proofs.Issuing.{issues_turn}
use Rattle.mn_proxy.proofs.Measure.{issue_goes}
use Rattle.mn_proxy.proofs.proxy.Proxy.issue.Goals as goal

pub returns-clause-turns : goal.returns-clause-turns
returns-clause-turns c = λ es own may.
    issues_turn es c.args.self.now (the_view c.self.inside) c.args.work c.args.purpose c.args.mini
    c.in_ok-try_copy.field-0 c.in_ok-coordinator.coordinator _ (sym c.self.view_is)
    c.is_sound.ensures c.requires.nodes c.in_ok-try_copy.ensures c.in_ok-coordinator.ensures.starts
    c.in_ok-coordinator.ensures.agrees refl own may

pub returns-clause-falls : goal.returns-clause-falls
returns-clause-falls c =
    let more : c.self.inside.issued < 4294967295 = omega arith in
    issue_goes c.args.self.now (the_view c.self.inside) c.args.mini c.in_ok-try_copy.field-0 _
    c.in_ok-coordinator.coordinator c.self.view_is more c.self.invariant.nodes.1 c.requires.nodes
    c.in_ok-try_copy.ensures c.in_ok-coordinator.ensures.starts

-- What is read by an Exec is issued.
use Rattle.std.proofs.Common.{◌∙◌, ap}
use Rattle.mn_work.specs.Places.{place_of}
use Rattle.mn_proxy.specs.State.{ProxyState}
use Rattle.mn_proxy.specs.Turns.{read_mini}
use Rattle.mn_proxy.proofs.Issuing.{may_read, read_asked}
use Rattle.mn_proxy.proofs.proxy.Proxy.read.Goals as goal

pub returns-then-not-may_peek-clause-turns : goal.returns-then-not-may_peek-clause-turns
returns-then-not-may_peek-clause-turns c = λ es own rest is peeks.
    c.issue.ensures.turns es own
    (may_read es c.args.self.now.known c.args.work c.args.purpose (place_of c.args.place) c.in_ok-mini.mini rest is
    (c.in_ok-mini.ensures ∙ ap (λ (p : ProxyState). read_mini p.known.nodes (place_of c.args.place)) c.self.view_is))

pub issue-requires-clause-asked : goal.issue-requires-clause-asked
issue-requires-clause-asked c =
    read_asked c.args.self.now.known c.args.work c.args.purpose c.in_ok-mini.mini c.requires.reads

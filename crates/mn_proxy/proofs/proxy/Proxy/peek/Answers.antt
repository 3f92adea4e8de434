-- One Peek fewer may come.
use Rattle.mn_proxy.specs.contracts.proxy.Proxy.{the_view}
use Rattle.mn_proxy.proofs.Measure.{peek_goes}
use Rattle.mn_proxy.proofs.proxy.Proxy.peek.Goals as goal

pub returns-clause-falls : goal.returns-clause-falls
returns-clause-falls c =
    peek_goes c.args.self.now (the_view c.self.inside) c.self.view_is c.requires.left

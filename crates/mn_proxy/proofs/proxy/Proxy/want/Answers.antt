use Rattle.std.proofs.Common.{subst, sym, ◌∙◌}
use Rattle.mn_proxy.specs.State.{ProxyState}
use Rattle.std.specs.Prelude.{OnOk}
use Rattle.mn_work.specs.declared.work.Work.{Work}
use Rattle.mn_work.specs.Paths.{HasCurrentPath}
use Rattle.mn_work.specs.Works.{StaysLast}
use Rattle.mn_proxy.proofs.proxy.Proxy.want.Goals as goal

pub returns-clause-path : goal.returns-clause-path
returns-clause-path c = λ op leaf new path.
    c.advance.ensures.path op leaf (c.get_mut.ensures.same ∙ new) (subst (λ (p : ProxyState). HasCurrentPath p.known op leaf) (sym c.self.view_is) path)

pub returns-clause-last : goal.returns-clause-last
returns-clause-last c =
    subst (λ (w : Work). OnOk c.advance.result (StaysLast c.args.self.now.known.cache w.job c.advance.new.self.job)) c.get_mut.ensures.same
    (subst (λ (p : ProxyState). OnOk c.advance.result (StaysLast p.known.cache c.get_mut.result.now.job c.advance.new.self.job)) c.self.view_is c.advance.ensures.last)

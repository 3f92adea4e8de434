-- The operation that begins is the one of the newest entry, and has read nothing.
use Rattle.std.proofs.Common.{ap, subst, sym, ◌∙◌}
use Rattle.mn_proxy.specs.State.{ProxyState}
use Rattle.mn_proxy.specs.Agrees.{Agrees, BeginsNext}
use Rattle.mn_proxy.specs.contracts.proxy.Proxy.{the_view}
use Rattle.mn_proxy.proofs.Issuing.{begins_agree}
use Rattle.mn_proxy.proofs.proxy.Proxy.begin.Goals as goal

pub returns-clause-agrees : goal.returns-clause-agrees
returns-clause-agrees c = λ es e agrees begins.
    begins_agree es (the_view c.self.inside) c.args.work.op e c.args.work c.requires.new
    (ap (λ (p : ProxyState). p.work) c.self.view_is ∙ c.requires.idle)
    (subst (Agrees es) (sym c.self.view_is) agrees)
    (subst (λ (p : ProxyState). BeginsNext es p.client c.args.work.op e) (sym c.self.view_is) begins)

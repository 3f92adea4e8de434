-- The next try asks for the catalog anew. Where there is no memory for it the catalog stays.
use Rattle.mn_proxy.specs.Turn.{Turn, turn_of}
use Rattle.mn_proxy.specs.contracts.proxy.Proxy.{the_view}
use Rattle.mn_proxy.proofs.Retrying.{own_forgotten_by, own_restored, retried_by}
use Rattle.mn_proxy.proofs.Measure.{same_goes}
use Rattle.std.proofs.Common.{Ok, Result, ap, inr, subst, sym, ◌∙◌}
use Rattle.mn_base.specs.declared.error.NoMemory.{NoMemory}
use Rattle.mn_work.specs.declared.known.Known.{Known}
use Rattle.mn_work.specs.declared.work.Work.{Work}
use Rattle.mn_proxy.specs.Agrees.{IsOwnLast}
use Rattle.mn_proxy.specs.State.{ProxyState}
use Rattle.mn_work.specs.Walks.{is_later}
use Rattle.mn_work.specs.Works.{retried}
use Rattle.mn_proxy.proofs.Kept.{catalog_gone, later_now}
use Rattle.mn_proxy.proofs.proxy.Proxy.retry.Goals as goal

pub read_catalog-requires-clause-asks : goal.read_catalog-requires-clause-asks
read_catalog-requires-clause-asks c = inr c.take-kept.ensures.after

pub returns-in-Ok-clause-turns : goal.returns-in-Ok-clause-turns
returns-in-Ok-clause-turns c = λ es own may.
    c.in-Ok.ensures.turns es
    (own_forgotten_by es (the_view c.self.inside) c.args.self.now c.take-kept.new.self c.take-kept.ensures.after c.self.view_is own).0
    (retried_by es (the_view c.self.inside) c.args.self.now c.take-kept.new.self c.take-kept.ensures.after c.args.work c.retry.new.self c.self.view_is (c.retry.ensures ∙ ap retried c.get_mut.ensures.same) c.requires.startable own.1 may)

pub returns-in-Ok-clause-falls : goal.returns-in-Ok-clause-falls
returns-in-Ok-clause-falls c =
    let result : Result Turn NoMemory = Ok (turn_of c.read_catalog.new.self.work c.in-Ok.step) in
    same_goes c.args.self.now (the_view c.self.inside) c.read_catalog.new.self result c.self.view_is c.in-Ok.ensures.falls

pub returns-in-Ok-clause-cache : goal.returns-in-Ok-clause-cache
returns-in-Ok-clause-cache c =
    ap (λ (k : Known). k.cache) c.read_catalog.ensures.known ∙ ap (λ (p : ProxyState). p.known.cache) c.self.view_is

pub returns-in-Ok-clause-catalog : goal.returns-in-Ok-clause-catalog
returns-in-Ok-clause-catalog c =
    let result : Result Turn NoMemory = Ok (turn_of c.read_catalog.new.self.work c.in-Ok.step) in
    catalog_gone c.args.self.now.known.catalog c.read_catalog.new.self.known.catalog c.retry.new.self _ result
    (ap (λ (k : Known). k.catalog) c.read_catalog.ensures.known ∙ c.take-kept.ensures.after)
    (ap (λ (w : Work). is_later w.failed) (c.retry.ensures ∙ ap retried c.get_mut.ensures.same) ∙ later_now c.args.work.failed) c.in-Ok.ensures.reads

pub returns-in-Err-clause-left : goal.returns-in-Err-clause-left
returns-in-Err-clause-left c = λ es own.
    own_restored es c.args.self.now (the_view c.self-2.inside) c.take-kept.result
    (c.take-kept.ensures.value ∙ ap (λ (p : ProxyState). p.known.catalog) c.self.view_is) own
    (subst (IsOwnLast es) (sym c.self-2.view_is)
    (c.in-Err.ensures.left es
    (own_forgotten_by es (the_view c.self.inside) c.args.self.now c.take-kept.new.self c.take-kept.ensures.after c.self.view_is own)))

use Rattle.std.proofs.Common.{◌∙◌, ap, subst, sym}
use Rattle.std.specs.Option.{option_map}
use Rattle.mn_base.specs.declared.ids.Addr.{Addr}
use Rattle.mn_work.specs.Among.{WalksAmong}
use Rattle.mn_work.proofs.Among.{found_at}
use Rattle.mn_work.proofs.causes.met_at.Goals as goal

pub returns-in-Some-clause-met : goal.returns-in-Some-clause-met
returns-in-Some-clause-met c seens op walks brought =
    let found = found_at c.args.pages.now c.args.addr c.in-Some.seen.now
    (sym c.page_at.ensures ∙ ap (λ o. option_map (λ p. p.now) o) c.in-Some.is) in
    c.met_page.ensures.met c.args.nodes seens op
    (subst (λ (a : Addr). WalksAmong seens op c.args.kept.now c.args.version c.args.key.now a c.args.above) (sym found.0) walks)
    (found.1 seens brought)

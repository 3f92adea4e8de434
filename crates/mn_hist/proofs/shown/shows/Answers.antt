use Rattle.std.proofs.Common.{ap, sym, ◌∙◌}
use Rattle.std.specs.Option.{option_map}
use Rattle.mn_hist.specs.Shown.{as_seen}
use Rattle.mn_hist.proofs.Leaves.{if_ok, catalog_tells, page_unshown, leaf_tells}
use Rattle.mn_hist.proofs.shown.shows.Goals as goal

pub returns-then-is_catalog : goal.returns-then-is_catalog
returns-then-is_catalog c =
    if_ok c.catalog_shows.result c.catalog_shows.ensures (λ b. catalog_tells (option_map (λ x. x.now) c.args.catalog) (as_seen c.args.read.now) c.args.op.now c.args.reply.now (sym c.is_catalog.ensures ∙ c.if-is_catalog.true) b)

pub returns-then-not-is_page : goal.returns-then-not-is_page
returns-then-not-is_page c = page_unshown (option_map (λ x. x.now) c.args.catalog) (as_seen c.args.read.now) c.args.op.now c.args.reply.now (sym c.is_catalog.ensures ∙ c.if-is_catalog.false) c.if-not-is_page.ensures

pub returns : goal.returns
returns c =
    leaf_tells (option_map (λ x. x.now) c.args.catalog) (as_seen c.args.read.now) c.args.op.now c.in-Tx.version c.in-Tx.steps c.in-Some.key.now c.args.reply.now c.in-Tx.is
    (sym (ap (option_map (λ k. k.now)) c.in-Some.is) ∙ c.lone_get.ensures) c.if-not-is_page.ensures (sym c.is_catalog.ensures ∙ c.if-is_catalog.false) c.leaf_shows.result c.leaf_shows.ensures

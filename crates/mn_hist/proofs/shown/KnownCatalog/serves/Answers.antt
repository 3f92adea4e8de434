use Rattle.std.proofs.Common.{◌≡◌, ℕ, List, Some, ap, sym, subst, ◌∙◌}
use Rattle.std.specs.Option.{option_map}
use Rattle.mn_base.specs.Tree.{parents_of, serves}
use Rattle.mn_base.specs.declared.ids.VersionNo.{VersionNo}
use Rattle.mn_page.specs.Forest.{heads_in}
use Rattle.mn_hist.specs.Shown.{CatalogServes, IsKnownOf, TestDecides}
use Rattle.mn_hist.proofs.Leaves.{named_served, none_served}
use Rattle.mn_hist.proofs.shown.KnownCatalog.serves.Goals as goal

pub returns-in_default-find : goal.returns-in_default-find
returns-in_default-find c =
    let known : IsKnownOf c.self.inside.bytes.now (Some (c.in-Some.catalog, c.in-Some.tree)) = subst (IsKnownOf c.self.inside.bytes.now) c.in-Some.is c.self.invariant in
    subst (λ (bytes : List ℕ). CatalogServes bytes c.args.name.now c.args.page.now → ⊥) c.self.view_is (none_served c.self.inside.bytes.now c.args.name.now c.args.page.now c.in-Some.catalog known.0 (sym c.find.ensures.number ∙ ap (option_map (λ (v : VersionNo). v.0)) c.in_default-find.is))

pub returns : goal.returns
returns c =
    let page = c.args.page.now in
    let tree = c.in-Some.tree in
    let version = c.in-Some-find.version.0 in
    let known : IsKnownOf c.self.inside.bytes.now (Some (c.in-Some.catalog, tree)) = subst (IsKnownOf c.self.inside.bytes.now) c.in-Some.is c.self.invariant in
    let served : serves (parents_of (heads_in c.in-Some.catalog)) page.made.0 page.copied version ≡ c.serves.result =
    ap (λ t. serves t page.made.0 page.copied version) (sym known.1)
    ∙ (ap (λ (m : VersionNo). serves tree m.0 page.copied version) (sym c.made.ensures)
    ∙ (ap (λ (k : ℕ). serves tree c.made.result.0 k version) (sym c.copied.ensures) ∙ sym c.serves.ensures)) in
    subst (λ (bytes : List ℕ). TestDecides c.serves.result (CatalogServes bytes c.args.name.now page)) c.self.view_is
    (named_served c.serves.result c.self.inside.bytes.now c.args.name.now page c.in-Some.catalog version known.0 (sym c.in-Some-find.ensures.number) (sym served))

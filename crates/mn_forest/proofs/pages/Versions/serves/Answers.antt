use Rattle.std.proofs.Common.{ℕ, ap, ◌∙◌}
use Rattle.mn_base.specs.Tree.{serves}
use Rattle.mn_base.specs.declared.ids.VersionNo.{VersionNo}
use Rattle.mn_forest.proofs.pages.Versions.serves.Goals as goal

pub returns : goal.returns
returns c =
    c.serves.ensures
    ∙ (ap (λ (m : VersionNo). serves c.args.self.now.tree m.0 c.copied.result c.args.version) c.made.ensures ∙ ap (λ (s : ℕ). serves c.args.self.now.tree c.args.page.now.made.0 s c.args.version) c.copied.ensures)

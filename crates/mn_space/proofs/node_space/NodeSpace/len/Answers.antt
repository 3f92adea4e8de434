use Rattle.std.proofs.Common.{ℕ, List, length, sym, ap, ◌∙◌}
use Rattle.mn_mini.specs.Mini.{space_size}
use Rattle.mn_space.specs.Kept.{AreWholeSlots}
use Rattle.mn_space.proofs.Spaces.{padded_long}
use Rattle.mn_space.proofs.node_space.NodeSpace.len.Goals as goal

pub returns-clause-all : goal.returns-clause-all
returns-clause-all c =
    let whole : AreWholeSlots c.self.inside.kept.items = c.self.invariant.0 in
    sym (padded_long c.self.inside.kept.items space_size whole.within) ∙ ap (λ (l : List ℕ). length l) c.self.view_is

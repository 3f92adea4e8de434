-- What a step does, as the code says it.
use Rattle.std.specs.Prelude.{◌≡◌, ◌+◌, ◌≤◌, ◌^◌, List, ◌∷◌, length}
use Rattle.mn_base.specs.declared.ids.Addr.{Addr}
use Rattle.mn_base.specs.declared.ids.VersionNo.{VersionNo}
use Rattle.mn_base.specs.declared.op.Step.{Step}
use Rattle.mn_page.specs.Overlay.{Held, path_pairs}
use Rattle.mn_tree.specs.declared.effect.Effect.{Effect}
use Rattle.mn_tree.specs.Writes.{origins_in, step_writes}
use Rattle.mn_tree.specs.State.{told}

-- the answer and the writes of a step on this leaf, under these pages
pub record IsEffect (v : VersionNo) (origins : List Addr) (leaf : Held) (above : List Held)
    (step : Step) (e : Effect) : Type 0 where
  pub answer : e.answer ≡ told step (path_pairs (leaf ∷ above))
  pub writes : e.writes.items ≡ step_writes v (length origins) origins step (leaf ∷ above)
  pub bound : length origins + length (origins_in e.writes.items) ≤ 2 ^ 16

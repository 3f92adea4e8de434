-- A step of the tree in memory is a step on the pages of its path.
use Rattle.std.proofs.Common.{[], subst, sym, ap, ◌∙◌, slice_set}
use Rattle.mn_base.specs.Store.{step_key, pairs_after_step}
use Rattle.mn_base.specs.declared.ids.Addr.{Addr}
use Rattle.mn_page.specs.Overlay.{max_path, path_to}
use Rattle.mn_tree.specs.Walk.{Walk}
use Rattle.mn_tree.specs.Trees.{IsDraft}
use Rattle.mn_tree.specs.State.{stepping}
use Rattle.mn_tree.specs.Laws.{SteppedKeepsTree}
use Rattle.mn_tree.proofs.Paths.{walks_are_paths}
use Rattle.mn_tree.proofs.Trees.Steps.{step_keeps_tree}

pub stepped_keeps_tree : SteppedKeepsTree
stepped_keeps_tree entries at store s version entry step path draft found there root may reached low =
    let way = walks_are_paths s.parents s.version.0 s.draft.overlay.pages s.root (step_key step) path reached low in
    subst (λ (w : Walk). IsDraft entries at (slice_set store s.version.0 (record version { pairs = pairs_after_step version.pairs step })) (stepping s step w).state.draft.overlay) (sym reached)
    (step_keeps_tree entries at store s.draft.overlay s.version version entry step path draft found there may (ap (λ (a : Addr). path_to max_path s.draft.overlay.pages a (step_key step) []) (sym root) ∙ way))

use Rattle.std.proofs.Common.{ℕ, List, length, take, sym, ap, ◌∙◌, arith}
use Rattle.std.proofs.lemmas.List.{length-take-le}
use Rattle.mn_space.specs.Kept.{AreWholeSlots}
use Rattle.mn_space.proofs.Slots.{kept_first}
use Rattle.mn_space.proofs.node_space.NodeSpace.front.Goals as goal

pub slice_bounds-result-end : goal.slice_bounds-result-end
slice_bounds-result-end c =
    let whole : AreWholeSlots c.self.inside.kept.items = c.self.invariant.0 in
    let count = ap (λ (l : List ℕ). length l) c.deref.ensures.value in
    sym (length-take-le 20480 c.deref.result.now (omega (arith, whole.count, count)))

pub returns-clause-bytes : goal.returns-clause-bytes
returns-clause-bytes c =
    let kept = c.self.inside.kept.items in
    let whole : AreWholeSlots kept = c.self.invariant.0 in
    ap (λ (l : List ℕ). take 20480 l) c.deref.ensures.value
    ∙ kept_first kept 20480 (omega (arith, whole.count))
    ∙ ap (λ (l : List ℕ). take 20480 l) c.self.view_is

pub returns-clause-size : goal.returns-clause-size
returns-clause-size c =
    let whole : AreWholeSlots c.self.inside.kept.items = c.self.invariant.0 in
    let count = ap (λ (l : List ℕ). length l) c.deref.ensures.value in
    length-take-le 20480 c.deref.result.now (omega (arith, whole.count, count))

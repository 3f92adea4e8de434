use Rattle.std.proofs.Common.{length, ◌∙◌, ap}
use Rattle.mn_redo.proofs.Parse.{length-places}
use Rattle.mn_redo.specs.Log.{listed_in}
use Rattle.mn_redo.proofs.front.Front.count.Goals as goal

pub returns : goal.returns
returns c =
    let front = c.self.inside in
    c.len.ensures ∙ front.gates.ok.0 ∙ ap length c.self.invariant.0.gates_are ∙ length-places 0 (listed_in 0 front.bytes.items) ∙ ap (λ s. length s.bodies) c.self.view_is

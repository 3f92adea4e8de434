use Rattle.mn_node.proofs.Restarts.{up_to_found}
use Rattle.mn_node.proofs.node.Node.is_down.Goals as goal

pub returns-clause-up : goal.returns-clause-up
returns-clause-up g c = rw (← c.self.view_is) (λ up. (c.self.invariant.up up).log.stands)

pub returns-clause-stands : goal.returns-clause-stands
returns-clause-stands g c =
    let n = c.self.inside in
    let old = n.redo.value in
    rw (← c.self.view_is) (λ honest l image. up_to_found old.node old.nodes n.memory n.pending n.cutting c.self.invariant.front.within l (c.self.invariant.stands honest l image))

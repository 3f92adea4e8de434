use Rattle.std.proofs.Common.{◌≡◌, ◌∙◌, ℕ, List, ap, sym, subst}
use Rattle.mn_node.specs.Node.{IsUpToWithOrWithout}
use Rattle.mn_node.specs.State.{StandsUpToAll}
use Rattle.mn_node.proofs.Listed.{up_to}
use Rattle.mn_node.proofs.Restarts.{up_to_found}
use Rattle.mn_node.proofs.node.Node.close.Goals as goal

pub returns-clause-up : goal.returns-clause-up
returns-clause-up g c =
    let n = c.self.inside in
    let old = n.redo.value in
    let disk : c.close.result ≡ old.disk = c.close.ensures.disk ∙ ap (λ r. r.disk) c.into_inner.ensures in
    rw (← c.self.view_is) (λ up. subst (λ d. StandsUpToAll (g.D.Disk.state d) old.node old.nodes n.memory.records.items) (sym disk)
    (λ honest l image. up_to old.node old.nodes l n.memory.cut n.memory.records.items c.self.invariant.front.within ((c.self.invariant.up up).log.stands honest l image)))

pub returns-clause-stands : goal.returns-clause-stands
returns-clause-stands g c =
    let n = c.self.inside in
    let old = n.redo.value in
    let disk : c.close.result ≡ old.disk = c.close.ensures.disk ∙ ap (λ r. r.disk) c.into_inner.ensures in
    rw (← c.self.view_is) (subst (λ d. (g.D.Disk.state d).honest → (l : List ℕ) → (g.D.Disk.state d).images l → IsUpToWithOrWithout old.node old.nodes n.memory.records.items n.pending l) (sym disk)
    (λ honest l image. up_to_found old.node old.nodes n.memory n.pending n.cutting c.self.invariant.front.within l (c.self.invariant.stands honest l image)))

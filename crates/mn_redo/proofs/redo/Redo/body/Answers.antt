use Rattle.std.proofs.Common.{◌≡◌, [], ◌≢◌, ◌<◌, ℕ, List, length, get_or, arith, sym, ap, subst}
use Rattle.mn_redo.proofs.Placed.{gates_length, gate_place, bytes_length}
use Rattle.mn_redo.specs.Log.{listed_in}
use Rattle.mn_redo.specs.declared.redo.Phase.TheVariants.{Closing}
use Rattle.mn_redo.proofs.redo.Redo.body.Goals as goal

pub body_of-requires-clause-index : goal.body_of-requires-clause-index
body_of-requires-clause-index g c =
    let going = subst (λ p. p ≢ Closing) (sym (ap (λ s. s.phase) c.self.view_is)) c.requires.going in
    let r = c.self.inside in
    let copied = (c.self.invariant going).kept in
    let within : c.args.number < length (listed_in 0 r.bytes.items) = omega (arith, c.requires.number, ap (λ s. length s.bodies) c.self.view_is) in
    omega (arith, within, ap length c.deref-2.ensures.value, gates_length [] r.bytes.items r.gates.items c.args.number copied.kept copied.gates_are within)

pub body_of-requires-clause-start : goal.body_of-requires-clause-start
body_of-requires-clause-start g c =
    let going = subst (λ p. p ≢ Closing) (sym (ap (λ s. s.phase) c.self.view_is)) c.requires.going in
    let r = c.self.inside in
    let copied = (c.self.invariant going).kept in
    let within : c.args.number < length (listed_in 0 r.bytes.items) = omega (arith, c.requires.number, ap (λ s. length s.bodies) c.self.view_is) in
    let gate : get_or c.deref-2.result.now c.args.number 0 ≡ get_or r.gates.items c.args.number 0 = ap (λ (l : List ℕ). get_or l c.args.number 0) c.deref-2.ensures.value in
    let place = gate_place [] r.bytes.items r.gates.items c.args.number copied.kept copied.gates_are within 0 in
    let long = bytes_length [] r.bytes.items r.gates.items c.args.number copied.kept copied.gates_are within in
    omega (arith, gate, place, long, ap length c.deref.ensures.value)

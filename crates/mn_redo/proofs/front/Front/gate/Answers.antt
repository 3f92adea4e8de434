use Rattle.std.proofs.Common.{◌≡◌, ◌<◌, [], ℕ, List, length, get_or, arith, ◌+◌, ◌∙◌, ap}
use Rattle.mn_redo.proofs.Parse.{length-places}
use Rattle.mn_redo.proofs.Placed.{any_default, bytes_length, gate_place, places_from_0}
use Rattle.mn_redo.specs.Grammar.{places}
use Rattle.mn_redo.specs.Log.{listed_in}
use Rattle.mn_redo.proofs.front.Front.gate.Goals as goal

pub index-requires : goal.index-requires
index-requires c =
    let front = c.self.inside in
    omega (arith, front.gates.ok.0, ap length c.self.invariant.0.gates_are, length-places 0 (listed_in 0 front.bytes.items), ap (λ s. length s.bodies) c.self.view_is, c.requires.number)

pub overflow_add-result : goal.overflow_add-result
overflow_add-result c =
    let front = c.self.inside in
    let kept = c.self.invariant.0 in
    let number : c.args.number < length (listed_in 0 front.bytes.items) = omega (arith, ap (λ s. length s.bodies) c.self.view_is, c.requires.number) in
    let within : c.args.number < length front.gates.items = omega (arith, ap length kept.gates_are, length-places 0 (listed_in 0 front.bytes.items), number) in
    let read = c.index.ensures ∙ any_default front.gates.items c.args.number c.index.result.now 0 within in
    omega (arith, read, gate_place [] front.bytes.items front.gates.items c.args.number kept.kept kept.gates_are number 0, bytes_length [] front.bytes.items front.gates.items c.args.number kept.kept kept.gates_are number, c.self.invariant.1)

pub returns : goal.returns
returns c =
    let front = c.self.inside in
    let kept = c.self.invariant.0.gates_are in
    let number : c.args.number < length (listed_in 0 front.bytes.items) = omega (arith, ap (λ s. length s.bodies) c.self.view_is, c.requires.number) in
    let within : c.args.number < length front.gates.items = omega (arith, ap length kept, length-places 0 (listed_in 0 front.bytes.items), number) in
    let read : c.index.result.now ≡ get_or (places 0 (listed_in 0 front.bytes.items)) c.args.number 0 = c.index.ensures ∙ any_default front.gates.items c.args.number c.index.result.now 0 within ∙ ap (λ (l : List ℕ). get_or l c.args.number 0) kept in
    ap (λ (n : ℕ). front.start + n) read ∙ places_from_0 front.start (listed_in 0 front.bytes.items) c.args.number number ∙ ap (λ s. get_or (places s.start s.bodies) c.args.number 0) c.self.view_is

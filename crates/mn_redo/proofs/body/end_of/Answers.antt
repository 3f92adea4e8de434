use Rattle.std.proofs.Common.{◌≡◌, [], List, ◌+◌, ℕ, suc, get_or, arith, ap}
use Rattle.mn_redo.proofs.Placed.{gates_length, gate_place, next_place, bytes_length, end_last}
use Rattle.mn_redo.proofs.body.end_of.Goals as goal

next_number : (gates : List ℕ) (k d : ℕ) → get_or gates (k + 1) d ≡ get_or gates (suc k) d
next_number gates k d = let e : k + 1 ≡ suc k = omega arith in ap (λ (n : ℕ). get_or gates n d) e

pub returns-then-number-gates-clause-end : goal.returns-then-number-gates-clause-end
returns-then-number-gates-clause-end c =
    omega (arith, next_number c.args.gates.now c.args.number 0, gate_place [] c.args.bytes.now c.args.gates.now c.args.number c.requires.kept c.requires.gates c.requires.number 0, next_place [] c.args.bytes.now c.args.gates.now c.args.number c.requires.kept c.requires.gates c.requires.number 0 (omega (arith, c.if-number-gates.true)))

pub returns-then-number-gates-clause-within : goal.returns-then-number-gates-clause-within
returns-then-number-gates-clause-within c =
    omega (arith, next_number c.args.gates.now c.args.number 0, bytes_length [] c.args.bytes.now c.args.gates.now c.args.number c.requires.kept c.requires.gates c.requires.number, next_place [] c.args.bytes.now c.args.gates.now c.args.number c.requires.kept c.requires.gates c.requires.number 0 (omega (arith, c.if-number-gates.true)))

pub returns-clause-end : goal.returns-clause-end
returns-clause-end c = omega (arith, gate_place [] c.args.bytes.now c.args.gates.now c.args.number c.requires.kept c.requires.gates c.requires.number 0, end_last [] c.args.bytes.now c.args.gates.now c.args.number c.requires.kept c.requires.gates c.requires.number (omega (arith, c.if-number-gates.false, gates_length [] c.args.bytes.now c.args.gates.now c.args.number c.requires.kept c.requires.gates c.requires.number, c.requires.number)))

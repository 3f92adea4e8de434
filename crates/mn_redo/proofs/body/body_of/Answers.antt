use Rattle.std.proofs.Common.{[], ◌+◌, ◌-◌, get_or, arith}
use Rattle.mn_redo.proofs.Placed.{gate_place, body_there}
use Rattle.mn_redo.proofs.body.body_of.Goals as goal

pub returns : goal.returns
returns c =
    body_there [] c.args.bytes.now c.args.gates.now c.args.number c.requires.kept c.requires.gates c.requires.number (get_or c.args.gates.now c.args.number 0 + 5) (c.end_of.result - (get_or c.args.gates.now c.args.number 0 + 5)) (omega (arith, gate_place [] c.args.bytes.now c.args.gates.now c.args.number c.requires.kept c.requires.gates c.requires.number 0)) (omega (arith, c.end_of.ensures.end))

use Rattle.std.proofs.Common.{◌≡◌, drop}
use Rattle.mn_cell.specs.Promises.{owes}
use Rattle.mn_cell.proofs.owing.is_among.Given as goal

abbrev pub invariant-loop-owed : goal.invariant-loop-owed
invariant-loop-owed l = owes l.tid l.client (drop l.owed-index l.all) ≡ owes l.tid l.client l.all

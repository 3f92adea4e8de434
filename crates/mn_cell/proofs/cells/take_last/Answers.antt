use Rattle.std.proofs.Common.{vec_len, arith, lit<}
use Rattle.mn_cell.proofs.Filled.{last_number, others_numbered}
use Rattle.mn_cell.proofs.cells.take_last.Goals as goal

pub of-requires : goal.of-requires
of-requires g c = (lit< tt, last_number c.args.left.now.items c.pop.new.self.items c.in-Some.station g.row.NODE (vec_len c.args.left.now) c.in-Some.ensures.items (omega (arith, c.in-Some.ensures.cases)) c.requires)

pub returns-in-Some-clause-left : goal.returns-in-Some-clause-left
returns-in-Some-clause-left g c = others_numbered c.args.left.now.items c.pop.new.self.items c.in-Some.station g.row.NODE (vec_len c.args.left.now) (vec_len c.pop.new.self) c.in-Some.ensures.items (omega (arith, c.in-Some.ensures.cases)) c.requires

use Rattle.std.proofs.Common.{◌≡◌, length, is_some, ap, arith}
use Rattle.mn_cell.proofs.Filled.{next_numbered}
use Rattle.mn_cell.proofs.cells.put_back.Goals as goal

pub returns-in-Some-clause-numbers : goal.returns-in-Some-clause-numbers
returns-in-Some-clause-numbers g c =
    let next = c.requires.next (ap is_some c.in-Some.is) in
    let count : g.row.NODE ≡ length c.args.stations.now.items = omega (arith, next) in
    next_numbered c.args.stations.now.items c.push_reserved.new.self.items c.into_station.result g.row.NODE c.push_reserved.ensures.items count c.into_station.ensures c.requires.numbers

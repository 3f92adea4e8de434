use Rattle.mn_cell.proofs.cells.Cells.of.Goals as goal
use Rattle.mn_cell.proofs.Filled.{lt_left, none_left, turned}
use Rattle.std.proofs.Common.{◌+◌, vec_len, arith, lit<, ◌∙◌}

pub take_last-requires : goal.take_last-requires
take_last-requires g c = (lit< tt, turned c.args.stations.now.items c.reverse.new.self.items (0 + vec_len c.reverse.new.self) c.reverse.ensures.items (omega arith) c.requires.numbers)

pub take_last-requires-2 : goal.take_last-requires-2
take_last-requires-2 g c = (lit< tt, c.take_last.ensures.left)

pub take_last-requires-3 : goal.take_last-requires-3
take_last-requires-3 g c = (lit< tt, c.take_last-2.ensures.left)

pub take_last-requires-4 : goal.take_last-requires-4
take_last-requires-4 g c = (lit< tt, c.take_last-3.ensures.left)

pub take_last-requires-5 : goal.take_last-requires-5
take_last-requires-5 g c = (lit< tt, c.take_last-4.ensures.left)

pub take_last-requires-6 : goal.take_last-requires-6
take_last-requires-6 g c = (lit< tt, c.take_last-5.ensures.left)

pub take_last-requires-7 : goal.take_last-requires-7
take_last-requires-7 g c = (lit< tt, c.take_last-6.ensures.left)

pub take_last-requires-8 : goal.take_last-requires-8
take_last-requires-8 g c = (lit< tt, c.take_last-7.ensures.left)

pub returns-clause-filled : goal.returns-clause-filled
returns-clause-filled g c =
    let n = vec_len c.args.stations.now in
    let e0 = c.take_last.ensures.is ∙ lt_left 0 n (vec_len c.reverse.new.self) (omega arith) in
    let e1 = c.take_last-2.ensures.is ∙ lt_left 1 n (vec_len c.take_last.new.left) (omega arith) in
    let e2 = c.take_last-3.ensures.is ∙ lt_left 2 n (vec_len c.take_last-2.new.left) (omega arith) in
    let e3 = c.take_last-4.ensures.is ∙ lt_left 3 n (vec_len c.take_last-3.new.left) (omega arith) in
    let e4 = c.take_last-5.ensures.is ∙ lt_left 4 n (vec_len c.take_last-4.new.left) (omega arith) in
    let e5 = c.take_last-6.ensures.is ∙ lt_left 5 n (vec_len c.take_last-5.new.left) (omega arith) in
    let e6 = c.take_last-7.ensures.is ∙ lt_left 6 n (vec_len c.take_last-6.new.left) (omega arith) in
    let e7 = c.take_last-8.ensures.is ∙ lt_left 7 n (vec_len c.take_last-7.new.left) (omega arith) in
    cc

pub returns-clause-none : goal.returns-clause-none
returns-clause-none g c = none_left c.take_last-8.new.left.items (omega arith)

pub returns-clause-room : goal.returns-clause-room
returns-clause-room g c = omega arith

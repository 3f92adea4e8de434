use Rattle.std.proofs.Common.{arith}
use Rattle.mn_cell.proofs.Numbers.{sent_to}
use Rattle.mn_cell.proofs.cells.Cells.call.Goals as goal

pub call-requires : goal.call-requires
call-requires g c = (omega arith, (c.requires.board, (c.requires.owns, (c.requires.list, (c.requires.sound, sent_to c.args.node 0 c.in-0.is c.args.list.now.client c.args.list.now.entries c.args.request c.args.stop c.requires.legal)))))

pub call-requires-in-Some-c1 : goal.call-requires-in-Some-c1
call-requires-in-Some-c1 g c = (omega arith, (c.requires.board, (c.requires.owns, (c.requires.list, (c.requires.sound, sent_to c.args.node 1 c.in-1.is c.args.list.now.client c.args.list.now.entries c.args.request c.args.stop c.requires.legal)))))

pub call-requires-in-Some-c2 : goal.call-requires-in-Some-c2
call-requires-in-Some-c2 g c = (omega arith, (c.requires.board, (c.requires.owns, (c.requires.list, (c.requires.sound, sent_to c.args.node 2 c.in-2.is c.args.list.now.client c.args.list.now.entries c.args.request c.args.stop c.requires.legal)))))

pub call-requires-in-Some-c3 : goal.call-requires-in-Some-c3
call-requires-in-Some-c3 g c = (omega arith, (c.requires.board, (c.requires.owns, (c.requires.list, (c.requires.sound, sent_to c.args.node 3 c.in-3.is c.args.list.now.client c.args.list.now.entries c.args.request c.args.stop c.requires.legal)))))

pub call-requires-in-Some-c4 : goal.call-requires-in-Some-c4
call-requires-in-Some-c4 g c = (omega arith, (c.requires.board, (c.requires.owns, (c.requires.list, (c.requires.sound, sent_to c.args.node 4 c.in-4.is c.args.list.now.client c.args.list.now.entries c.args.request c.args.stop c.requires.legal)))))

pub call-requires-in-Some-c5 : goal.call-requires-in-Some-c5
call-requires-in-Some-c5 g c = (omega arith, (c.requires.board, (c.requires.owns, (c.requires.list, (c.requires.sound, sent_to c.args.node 5 c.in-5.is c.args.list.now.client c.args.list.now.entries c.args.request c.args.stop c.requires.legal)))))

pub call-requires-in-Some-c6 : goal.call-requires-in-Some-c6
call-requires-in-Some-c6 g c = (omega arith, (c.requires.board, (c.requires.owns, (c.requires.list, (c.requires.sound, sent_to c.args.node 6 c.in-6.is c.args.list.now.client c.args.list.now.entries c.args.request c.args.stop c.requires.legal)))))

pub call-requires-in-Some-c7 : goal.call-requires-in-Some-c7
call-requires-in-Some-c7 g c = (omega arith, (c.requires.board, (c.requires.owns, (c.requires.list, (c.requires.sound, sent_to c.args.node 7 c.in-7.is c.args.list.now.client c.args.list.now.entries c.args.request c.args.stop c.requires.legal)))))

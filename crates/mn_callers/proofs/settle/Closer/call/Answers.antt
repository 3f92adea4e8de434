use Rattle.std.proofs.Common.{refl, sym}
use Rattle.mn_runs.specs.Protocol.{start_of}
use Rattle.mn_callers.specs.Turn.{turn_at}
use Rattle.mn_callers.proofs.Closing.{caused_by, closes_called, closing_called, never_damage, no_failure, up_not_down}
use Rattle.mn_callers.proofs.Stations.{not_none}
use Rattle.mn_callers.proofs.settle.Closer.call.Goals as goal

pub returns-in-Some-clause-closing : goal.returns-in-Some-clause-closing
returns-in-Some-clause-closing g c =
    let t = turn_at c.args.table.now c.args.pass.now c.args.self.now.list in
    let r = c.call-reply.ensures in
    closing_called g.N.Named.board (start_of g.N.Named.records) t _ c.requires.closing r.turn r.goes_on.client c.args.node c.args.request c.call-reply.result c.requires.kind r.said r.none

pub returns-in-None-clause-closing : goal.returns-in-None-clause-closing
returns-in-None-clause-closing g c =
    let t = turn_at c.args.table.now c.args.pass.now c.args.self.now.list in
    let r = c.call-reply.ensures in
    closing_called g.N.Named.board (start_of g.N.Named.records) t _ c.requires.closing r.turn r.goes_on.client c.args.node c.args.request c.call-reply.result c.requires.kind r.said r.none

pub returns-in-Some-clause-caused : goal.returns-in-Some-clause-caused
returns-in-Some-clause-caused g c =
    let r = c.call-reply.ensures in
    caused_by g.D.Disk.faults g.N.Named.faults g.N.Named.honest c.call-reply.new.self.stations.items c.args.node c.call-reply.result c.in-Some.cause c.in-Some.ensures
    (λ is. r.stopped is refl c.requires.closing.client)
    (λ is. up_not_down _ c.args.table.now.stations.items c.args.node c.requires.closing.turn.ready.stations c.requires.node c.requires.up (r.was_down is))

pub returns-in-None-clause-closes : goal.returns-in-None-clause-closes
returns-in-None-clause-closes g c =
    let answers = no_failure c.args.node c.call-reply.result c.in-None.ensures in
    closes_called c.args.self.now.list c.call-reply.new.list c.args.node c.args.request c.call-reply.result answers (c.call-reply.ensures.said (not_none c.call-reply.result answers))

pub returns-in-Some-clause-whole : goal.returns-in-Some-clause-whole
returns-in-Some-clause-whole g c = λ damage. never_damage c.args.node c.call-reply.result c.in-Some.cause (sym c.in-Some.ensures) damage

use Rattle.std.proofs.Common.{inl}
use Rattle.mn_runs.specs.Protocol.{start_of}
use Rattle.mn_callers.specs.Turn.{turn_at}
use Rattle.mn_callers.proofs.Closing.{closes_restarted, closing_restarted}
use Rattle.mn_callers.proofs.Doings.{went_or_not}
use Rattle.mn_callers.proofs.settle.Closer.restart.Goals as goal

pub returns-in-Ok-clause-closing : goal.returns-in-Ok-clause-closing
returns-in-Ok-clause-closing g c =
    let t = turn_at c.args.table.now c.args.pass.now c.args.self.now.list in
    let r = c.restart.ensures in
    closing_restarted g.N.Named.board (start_of g.N.Named.records) t _ c.requires.closing r.turn r.goes_on.client c.args.node (went_or_not c.args.node c.args.table.now.stations.items c.in-Ok.ensures.restarts)

pub returns-in-Err-clause-closing : goal.returns-in-Err-clause-closing
returns-in-Err-clause-closing g c =
    let t = turn_at c.args.table.now c.args.pass.now c.args.self.now.list in
    let r = c.restart.ensures in
    closing_restarted g.N.Named.board (start_of g.N.Named.records) t _ c.requires.closing r.turn r.goes_on.client c.args.node (inl c.in-Err.ensures.none)

pub returns-in-Ok-clause-closes : goal.returns-in-Ok-clause-closes
returns-in-Ok-clause-closes g c =
    closes_restarted c.args.self.now.list c.restart.new.list c.args.node (went_or_not c.args.node c.args.table.now.stations.items c.in-Ok.ensures.restarts)

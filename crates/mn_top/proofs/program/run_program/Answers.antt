use Rattle.mn_io.specs.Faults.{Rose}
use Rattle.mn_top.proofs.Calls.{so_due}
use Rattle.mn_top.proofs.Complete.{complete}
use Rattle.mn_top.proofs.Promise.Keeping.{keeps, survives}
use Rattle.mn_top.specs.Program.{Finishes}
use Rattle.mn_top.proofs.program.run_program.Goals as goal

pub returns-clause-due : goal.returns-clause-due
returns-clause-due g c =
    so_due g.D.Disk.state g.D.Disk.faults c.args.words.now (g.R.Source.remaining c.args.source.now) (Rose (g.R.Source.faults c.args.source.now) (g.R.Source.faults c.ended-due.new.source))
    (g.R.Source.remaining c.ended-due.new.source) c.args.disks.items c.ended-due.result.disks.items c.ended-due.result.log c.ended-due.result.due c.ended-due.ensures.due c.finish.ensures

pub returns-clause-complete : goal.returns-clause-complete
returns-clause-complete g c =
    let failed = Rose (g.R.Source.faults c.args.source.now) (g.R.Source.faults c.ended-due.new.source) in
    let sink = Rose (g.W.Sink.faults c.args.sink.now) (g.W.Sink.faults c.finish.new.sink) in
    let told =
    so_due g.D.Disk.state g.D.Disk.faults c.args.words.now (g.R.Source.remaining c.args.source.now) failed (g.R.Source.remaining c.ended-due.new.source) c.args.disks.items c.ended-due.result.disks.items c.ended-due.result.log c.ended-due.result.due c.ended-due.ensures.due
    {So = λ due. Finishes due c.finish.result (g.W.Sink.contents c.args.sink.now) (g.W.Sink.contents c.finish.new.sink) sink} c.finish.ensures in
    complete c.one_list.ensures c.damaged_or_not.ensures g.D.Disk.state g.D.Disk.faults c.args.words.now (g.R.Source.remaining c.args.source.now) failed sink (g.R.Source.remaining c.ended-due.new.source) c.args.disks.items c.ended-due.result.disks.items c.ended-due.result.log
    told.0 c.finish.result (g.W.Sink.contents c.args.sink.now) (g.W.Sink.contents c.finish.new.sink) told.1 told.2

pub returns-clause-promise : goal.returns-clause-promise
returns-clause-promise g c =
    let failed = Rose (g.R.Source.faults c.args.source.now) (g.R.Source.faults c.ended-due.new.source) in
    let sink = Rose (g.W.Sink.faults c.args.sink.now) (g.W.Sink.faults c.finish.new.sink) in
    let told =
    so_due g.D.Disk.state g.D.Disk.faults c.args.words.now (g.R.Source.remaining c.args.source.now) failed (g.R.Source.remaining c.ended-due.new.source) c.args.disks.items c.ended-due.result.disks.items c.ended-due.result.log c.ended-due.result.due c.ended-due.ensures.due
    {So = λ due. Finishes due c.finish.result (g.W.Sink.contents c.args.sink.now) (g.W.Sink.contents c.finish.new.sink) sink} c.finish.ensures in
    keeps c.ends_opened.ensures g.D.Disk.state g.D.Disk.faults c.args.words.now (g.R.Source.remaining c.args.source.now) failed sink (g.R.Source.remaining c.ended-due.new.source) c.args.disks.items c.ended-due.result.disks.items c.ended-due.result.log
    (g.W.Sink.contents c.args.sink.now) (g.W.Sink.contents c.finish.new.sink) told.0 c.finish.result told.1 told.2

pub returns-clause-survives : goal.returns-clause-survives
returns-clause-survives g c =
    survives c.disks_hold_one_store.ensures g.D.Disk.state g.D.Disk.faults c.args.words.now (g.R.Source.remaining c.args.source.now) (Rose (g.R.Source.faults c.args.source.now) (g.R.Source.faults c.ended-due.new.source))
    (g.R.Source.remaining c.ended-due.new.source) c.args.disks.items c.ended-due.result.disks.items c.ended-due.result.log c.ended-due.result.due c.ended-due.ensures.due

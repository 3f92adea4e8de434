use Rattle.std.proofs.Common.{◌≡◌, ℕ, inl, length, refl, subst, arith}
use Rattle.mn_top.proofs.Calls.{task_nodes}
use Rattle.mn_top.proofs.Crashing.{same_stay, stay, untouched}
use Rattle.mn_io.specs.Faults.{Rose}
use Rattle.mn_top.specs.Program.{IsDueBefore}
use Rattle.mn_top.proofs.program.ended.Goals as goal

pub play-requires-clause-nodes : goal.play-requires-clause-nodes
play-requires-clause-nodes g c = λ _ _.
    let nodes = task_nodes c.args.words.now (g.R.Source.remaining c.args.source.now) (g.R.Source.remaining c.called.new.source) c.len.result c.in-Ok-Play.field-0 c.in-Ok-Play.command c.in-Ok-Play.script c.in-Ok-Play.ensures.called c.in-Ok-Play.field-0-is in
    omega (arith, nodes, c.len.ensures)

pub returns-in-Ok-Play-clause-crash : goal.returns-in-Ok-Play-clause-crash
returns-in-Ok-Play-clause-crash g c =
    stay g.D.Disk.state c.args.disks.items c.play.result.disks.items c.play.ensures.count g.D.Disk.faults _ _ c.play.result.log c.play.result.due
    c.play.ensures.comes_to

pub returns-in-Ok-Check-clause-crash : goal.returns-in-Ok-Check-clause-crash
returns-in-Ok-Check-clause-crash g c = untouched g.D.Disk.state c.args.disks.items c.check_disks.result.disks.items c.check_disks.ensures.count c.check_disks.ensures.unwritten

pub returns-in-Err-clause-crash : goal.returns-in-Err-clause-crash
returns-in-Err-clause-crash g c = same_stay g.D.Disk.state c.args.disks.items c.without_log.result.disks.items c.without_log.ensures.disks

pub returns-in-Err-clause-due : goal.returns-in-Err-clause-due
returns-in-Err-clause-due g c =
    let there : c.len.result ≡ length c.args.disks.items = omega (arith, c.len.ensures) in
    let before = subst (λ (n : ℕ). IsDueBefore c.args.words.now (g.R.Source.remaining c.args.source.now) (Rose (g.R.Source.faults c.args.source.now) (g.R.Source.faults c.called.new.source)) n c.in-Err.due) there c.in-Err.ensures.due in
    rw (c.without_log.ensures.due, c.without_log.ensures.disks, c.without_log.ensures.log) (inl (before, refl, refl))

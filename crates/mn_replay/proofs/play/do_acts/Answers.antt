use Rattle.mn_callers.specs.Stages.{GoesAs, state_of}
use Rattle.mn_replay.specs.Schedule.{DoesActs, acts_of, last_acts}
use Rattle.mn_callers.proofs.Turns.{ok_then}
use Rattle.mn_callers.proofs.Played.{goes_as_both}
use Rattle.mn_replay.proofs.Scheduled.{acts_both}
use Rattle.mn_replay.proofs.play.do_acts.Goals as goal

pub returns-clause-does : goal.returns-clause-does
returns-clause-does g c =
    let script = c.args.script.now in
    let p = (state_of c.args.stage.now) in
    let q = (state_of c.do_schedule.new.stage) in
    let r = (state_of c.finish.new.stage) in
    ok_then c.finish.result (GoesAs (DoesActs script (last_acts script)) q r) (GoesAs (DoesActs script (acts_of script)) p r)
    (λ other. goes_as_both (DoesActs script script.schedule) (DoesActs script (last_acts script)) (DoesActs script (acts_of script)) p q r
    (λ before now after one two. acts_both script script.schedule (last_acts script) before now after one two) c.in_ok-do_schedule.ensures.does other)
    c.finish.ensures.does

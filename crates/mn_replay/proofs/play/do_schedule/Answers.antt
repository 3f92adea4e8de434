use Rattle.std.proofs.Common.{◌∙◌, ◌+◌, List, take, sym, subst}
use Rattle.std.proofs.lemmas.List.{take_more, take_all}
use Rattle.mn_script.specs.declared.elements.Act.{Act}
use Rattle.mn_callers.specs.Stages.{GoesAs, state_of}
use Rattle.mn_replay.specs.Schedule.{DoesAct, DoesActs}
use Rattle.mn_callers.proofs.Played.{goes_as_both}
use Rattle.mn_replay.proofs.Scheduled.{acts_more}
use Rattle.mn_replay.proofs.play.do_schedule.Goals as goal

pub loop-act-preserved : goal.loop-act-preserved
loop-act-preserved g c =
    let script = c.args.script.now in
    let p = (state_of c.args.stage.now) in
    let q = (state_of c.loop-act.stage) in
    let r = (state_of c.do_act.new.stage) in
    let k = c.loop-act.act-index in
    let items = c.schedule-act-items.result.now in
    record {
      play = c.do_act.ensures.play;
      ready = c.in_ok-do_act.ensures.ready;
      does = goes_as_both (DoesActs script (take k items)) (DoesAct script _) (DoesActs script (take (k + 1) items)) p q r
          (λ before now after one other. subst (λ (l : List Act). DoesActs script l before after) (sym (take_more items k _ c.loop-act-test.true)) (acts_more script (take k items) _ before now after one other))
          c.loop-act.invariant.does c.in_ok-do_act.ensures.does;
    }

pub returns-clause-does : goal.returns-clause-does
returns-clause-does g c =
    let whole = take_all c.loop-act.act-index c.schedule-act-items.result.now c.loop-act-test.false ∙ c.schedule-act-items.ensures.value in
    subst (λ (l : List Act). GoesAs (DoesActs c.args.script.now l) (state_of c.args.stage.now)
    (state_of c.loop-act.stage)) whole c.loop-act.invariant.does

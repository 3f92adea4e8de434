use Rattle.std.proofs.Common.{ℕ, OnOk, true, false, sym, subst}
use Rattle.mn_runs.specs.Protocol.{start_of}
use Rattle.mn_callers.specs.Stages.{GoesAs, state_of}
use Rattle.mn_callers.specs.Plays.{AreReady}
use Rattle.mn_replay.specs.Schedule.{DoesAct, RecoversFor}
use Rattle.mn_script.specs.declared.elements.Act.{Act}
use Rattle.mn_replay.proofs.Acting.{ok_so}
use Rattle.mn_replay.proofs.play.do_act.Goals as goal

pub returns-in-Step-clause-does : goal.returns-in-Step-clause-does
returns-in-Step-clause-does g c =
    subst (λ (a : Act). OnOk c.client_turn.result (GoesAs (DoesAct c.args.script.now a) (state_of c.args.stage.now)
    (state_of c.client_turn.new.self))) (sym c.in-Step.is) c.client_turn.ensures.does

pub returns-in-Plan-clause-does : goal.returns-in-Plan-clause-does
returns-in-Plan-clause-does g c =
    subst (λ (a : Act). OnOk c.client_turn-in-Plan.result (GoesAs (DoesAct c.args.script.now a) (state_of c.args.stage.now)
    (state_of c.client_turn-in-Plan.new.self))) (sym c.in-Plan.is) c.client_turn-in-Plan.ensures.does

pub returns-in-Go-clause-does : goal.returns-in-Go-clause-does
returns-in-Go-clause-does g c =
    subst (λ (a : Act). OnOk c.client_turn-in-Go.result (GoesAs (DoesAct c.args.script.now a) (state_of c.args.stage.now)
    (state_of c.client_turn-in-Go.new.self))) (sym c.in-Go.is) c.client_turn-in-Go.ensures.does

pub returns-in-All-clause-does : goal.returns-in-All-clause-does
returns-in-All-clause-does g c =
    subst (λ (a : Act). OnOk c.client_turn-in-All.result (GoesAs (DoesAct c.args.script.now a) (state_of c.args.stage.now)
    (state_of c.client_turn-in-All.new.self))) (sym c.in-All.is) c.client_turn-in-All.ensures.does

pub returns-in-Halt-clause-ready : goal.returns-in-Halt-clause-ready
returns-in-Halt-clause-ready g c = ok_so c.halt.result (AreReady (start_of g.N.Named.records) c.args.script.now c.halt.new.stage.callers) (c.halt.ensures.ready c.args.script.now c.requires.ready)

pub returns-in-Halt-clause-does : goal.returns-in-Halt-clause-does
returns-in-Halt-clause-does g c =
    subst (λ (a : Act). OnOk c.halt.result (GoesAs (DoesAct c.args.script.now a) (state_of c.args.stage.now)
    (state_of c.halt.new.stage))) (sym c.in-Halt.is) c.halt.ensures.does

pub returns-in-Restart-clause-ready : goal.returns-in-Restart-clause-ready
returns-in-Restart-clause-ready g c = c.restart.ensures.ready c.args.script.now c.requires.ready

pub returns-in-Restart-clause-does : goal.returns-in-Restart-clause-does
returns-in-Restart-clause-does g c =
    subst (λ (a : Act). GoesAs (DoesAct c.args.script.now a) (state_of c.args.stage.now)
    (state_of c.restart.new.stage)) (sym c.in-Restart.is) c.restart.ensures.does

pub returns-in-Rstep-clause-ready : goal.returns-in-Rstep-clause-ready
returns-in-Rstep-clause-ready g c = ok_so c.recoverer_turn.result (AreReady (start_of g.N.Named.records) c.args.script.now c.recoverer_turn.new.stage.callers) (c.recoverer_turn.ensures.ready c.args.script.now c.requires.ready)

pub returns-in-Rstep-clause-does : goal.returns-in-Rstep-clause-does
returns-in-Rstep-clause-does g c =
    subst (λ (a : Act). OnOk c.recoverer_turn.result (GoesAs (DoesAct c.args.script.now a) (state_of c.args.stage.now)
    (state_of c.recoverer_turn.new.stage))) (sym c.in-Rstep.is) (subst (λ (n : ℕ). OnOk c.recoverer_turn.result (GoesAs (RecoversFor n c.in-Rstep.recoverer c.in-Rstep.client false) (state_of c.args.stage.now)
    (state_of c.recoverer_turn.new.stage))) c.requires.play.nodes c.recoverer_turn.ensures.does)

pub returns-in-Recover-clause-ready : goal.returns-in-Recover-clause-ready
returns-in-Recover-clause-ready g c = ok_so c.recoverer_turn-in-Recover.result (AreReady (start_of g.N.Named.records) c.args.script.now c.recoverer_turn-in-Recover.new.stage.callers) (c.recoverer_turn-in-Recover.ensures.ready c.args.script.now c.requires.ready)

pub returns-in-Recover-clause-does : goal.returns-in-Recover-clause-does
returns-in-Recover-clause-does g c =
    subst (λ (a : Act). OnOk c.recoverer_turn-in-Recover.result (GoesAs (DoesAct c.args.script.now a) (state_of c.args.stage.now)
    (state_of c.recoverer_turn-in-Recover.new.stage))) (sym c.in-Recover.is) (subst (λ (n : ℕ). OnOk c.recoverer_turn-in-Recover.result (GoesAs (RecoversFor n c.in-Recover.recoverer c.in-Recover.client true) (state_of c.args.stage.now)
    (state_of c.recoverer_turn-in-Recover.new.stage))) c.requires.play.nodes c.recoverer_turn-in-Recover.ensures.does)

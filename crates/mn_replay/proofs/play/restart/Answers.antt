use Rattle.std.proofs.Common.{refl, ◌∙◌}
use Rattle.mn_actors.specs.Sight.{board_of, view_of}
use Rattle.mn_runs.specs.Protocol.{start_of}
use Rattle.mn_replay.specs.Schedule.{RestartsNode}
use Rattle.mn_callers.specs.Plays.{state_at}
use Rattle.mn_callers.specs.Stages.{state_of}
use Rattle.mn_callers.specs.Turn.{turn_at}
use Rattle.mn_callers.proofs.CloserTurns.{closer_begins, closer_ends, closer_goes, closer_owns, closer_turn, closer_recovery}
use Rattle.mn_replay.proofs.Halting.{restart_recovery, restarts_log}
use Rattle.mn_replay.proofs.play.restart.Goals as goal

pub split-pass-requires-clause-owns : goal.split-pass-requires-clause-owns
split-pass-requires-clause-owns g c = let p = c.args.stage.now in closer_owns g.N.Named.board (start_of g.N.Named.records) (state_of p) c.requires.play

pub restart-done-requires-clause-turn : goal.restart-done-requires-clause-turn
restart-done-requires-clause-turn g c =
    let p = c.args.stage.now in
    closer_begins g.N.Named.board (start_of g.N.Named.records) (state_of p) c.requires.play
    (view_of c.split-pass.new.from) (view_of c.split-pass.result) (board_of c.split-pass.result) c.split-pass.ensures.view c.split-pass.ensures.board.1

pub returns-clause-play : goal.returns-clause-play
returns-clause-play g c =
    let p = c.args.stage.now in
    let start = start_of g.N.Named.records in
    let state = state_of p in
    let table = c.restart-done.new.self in
    let turn = turn_at table c.restart-done.new.pass c.restart-done.new.list in
    let after = state_at table c.join.new.into (record { clients = p.callers.clients; desks = p.callers.desks; closer = record { list = c.restart-done.new.list } }) in
    let recovery = restart_recovery start p.callers.closer.list c.restart-done.new.list c.args.node c.restart-done.result c.restart-done.ensures.restarts c.restart-done.ensures.none (closer_recovery g.N.Named.board start state c.requires.play) in
    let of = closer_turn g.N.Named.board start state c.requires.play after (view_of c.split-pass.new.from) (view_of c.split-pass.result) (board_of c.split-pass.result) turn
    c.split-pass.ensures.view c.restart-done.ensures.turn c.restart-done.ensures.goes_on c.join.ensures.view (c.join.ensures.board ∙ c.split-pass.ensures.board.0) refl refl refl refl refl recovery in
    closer_ends g.N.Named.board start state c.requires.play after (view_of c.split-pass.new.from) (view_of c.split-pass.result) (board_of c.split-pass.result) turn of refl refl refl recovery

pub returns-clause-does : goal.returns-clause-does
returns-clause-does g c =
    let p = c.args.stage.now in
    let start = start_of g.N.Named.records in
    let state = state_of p in
    let table = c.restart-done.new.self in
    let turn = turn_at table c.restart-done.new.pass c.restart-done.new.list in
    let after = state_at table c.join.new.into (record { clients = p.callers.clients; desks = p.callers.desks; closer = record { list = c.restart-done.new.list } }) in
    let recovery = restart_recovery start p.callers.closer.list c.restart-done.new.list c.args.node c.restart-done.result c.restart-done.ensures.restarts c.restart-done.ensures.none (closer_recovery g.N.Named.board start state c.requires.play) in
    let of = closer_turn g.N.Named.board start state c.requires.play after (view_of c.split-pass.new.from) (view_of c.split-pass.result) (board_of c.split-pass.result) turn
    c.split-pass.ensures.view c.restart-done.ensures.turn c.restart-done.ensures.goes_on c.join.ensures.view (c.join.ensures.board ∙ c.split-pass.ensures.board.0) refl refl refl refl refl recovery in
    closer_goes g.N.Named.board start state c.requires.play (RestartsNode c.args.node) after (view_of c.split-pass.new.from) (view_of c.split-pass.result) (board_of c.split-pass.result) turn of refl
    (λ before later. restarts_log state after p.callers.closer.list c.restart-done.new.list before later c.args.node c.restart-done.result c.requires.play.1.rests.numbers.closer_is c.restart-done.ensures.restarts c.restart-done.ensures.none)

use Rattle.std.proofs.Common.{refl, ◌∙◌, List, length}
use Rattle.mn_actors.specs.Sight.{board_of, view_of}
use Rattle.mn_runs.specs.declared.entry.Entry.{Entry}
use Rattle.mn_runs.specs.Protocol.{AreUp, start_of, entries_of}
use Rattle.mn_callers.specs.Closing.{ClosesOn}
use Rattle.mn_callers.specs.Plays.{state_at}
use Rattle.mn_callers.specs.Stages.{AreFreeIfSound, GoesAs, Settles, state_of}
use Rattle.mn_callers.specs.Logs.{HasLog}
use Rattle.mn_callers.specs.Settled.{AreUpAndFree}
use Rattle.mn_callers.specs.Turn.{turn_at}
use Rattle.mn_callers.proofs.Closing.{if_error}
use Rattle.mn_callers.proofs.Turns.{ok_then}
use Rattle.mn_callers.proofs.Opened.{free_if_sound, up_in_log}
use Rattle.mn_callers.proofs.CloserTurns.{closer_begins, closer_ends, closer_goes, closer_owns, closer_turn, settles_log}
use Rattle.mn_callers.proofs.stage.Stage.settle.Goals as goal

pub split-pass-requires-clause-owns : goal.split-pass-requires-clause-owns
split-pass-requires-clause-owns g c = let p = c.args.self.now in closer_owns g.N.Named.board (start_of g.N.Named.records) (state_of p) c.requires.play

pub settle-done-requires-clause-turn : goal.settle-done-requires-clause-turn
settle-done-requires-clause-turn g c =
    let p = c.args.self.now in
    closer_begins g.N.Named.board (start_of g.N.Named.records) (state_of p) c.requires.play
    (view_of c.split-pass.new.from) (view_of c.split-pass.result) (board_of c.split-pass.result) c.split-pass.ensures.view c.split-pass.ensures.board.1

pub returns-clause-play : goal.returns-clause-play
returns-clause-play g c =
    let p = c.args.self.now in
    let start = start_of g.N.Named.records in
    let state = state_of p in
    let table = c.settle-done.new.table in
    let turn = turn_at table c.settle-done.new.pass c.settle-done.new.self.list in
    let after = state_at table c.join.new.into (record { clients = p.callers.clients; desks = p.callers.desks; closer = record { list = c.settle-done.new.self.list } }) in
    let recovery = c.settle-done.ensures.list in
    let of = closer_turn g.N.Named.board start state c.requires.play after (view_of c.split-pass.new.from) (view_of c.split-pass.result) (board_of c.split-pass.result) turn
    c.split-pass.ensures.view c.settle-done.ensures.turn c.settle-done.ensures.goes_on c.join.ensures.view (c.join.ensures.board ∙ c.split-pass.ensures.board.0) refl refl refl refl refl recovery in
    closer_ends g.N.Named.board start state c.requires.play after (view_of c.split-pass.new.from) (view_of c.split-pass.result) (board_of c.split-pass.result) turn of refl refl refl recovery

pub returns-clause-does : goal.returns-clause-does
returns-clause-does g c =
    let p = c.args.self.now in
    let start = start_of g.N.Named.records in
    let state = state_of p in
    let table = c.settle-done.new.table in
    let turn = turn_at table c.settle-done.new.pass c.settle-done.new.self.list in
    let after = state_at table c.join.new.into (record { clients = p.callers.clients; desks = p.callers.desks; closer = record { list = c.settle-done.new.self.list } }) in
    let recovery = c.settle-done.ensures.list in
    let of = closer_turn g.N.Named.board start state c.requires.play after (view_of c.split-pass.new.from) (view_of c.split-pass.result) (board_of c.split-pass.result) turn
    c.split-pass.ensures.view c.settle-done.ensures.turn c.settle-done.ensures.goes_on c.join.ensures.view (c.join.ensures.board ∙ c.split-pass.ensures.board.0) refl refl refl refl refl recovery in
    ok_then c.settle-done.result (ClosesOn (entries_of p.callers.closer.list.entries) (entries_of c.settle-done.new.self.list.entries)) (GoesAs Settles state after)
    (λ closes. closer_goes g.N.Named.board start state c.requires.play Settles after (view_of c.split-pass.new.from) (view_of c.split-pass.result) (board_of c.split-pass.result) turn of refl
    (λ before later. settles_log state after p.callers.closer.list c.settle-done.new.self.list before later closes))
    c.settle-done.ensures.closes

pub settle-done-requires-clause-closer : goal.settle-done-requires-clause-closer
settle-done-requires-clause-closer g c = c.requires.play.1.rests.numbers.closer_is

pub settle-done-requires-clause-list : goal.settle-done-requires-clause-list
settle-done-requires-clause-list g c = c.requires.play.1.callers.closer_list

pub returns-clause-free : goal.returns-clause-free
returns-clause-free g c =
    let p = c.args.self.now in
    let table = c.settle-done.new.table in
    let after = state_at table c.join.new.into (record { clients = p.callers.clients; desks = p.callers.desks; closer = record { list = c.settle-done.new.self.list } }) in
    ok_then c.settle-done.result (AreUpAndFree (length g.N.Named.records) table.stations.items) ((past : List Entry) → HasLog after past → AreFreeIfSound (start_of g.N.Named.records) past)
    (λ settled. free_if_sound g.D.Disk.state g.D.Disk.faults (start_of g.N.Named.records) g.N.Named.faults g.N.Named.honest after c.settle-done.ensures.turn.ready.stations c.made.ensures settled)
    c.settle-done.ensures.settled

pub returns-clause-up_all : goal.returns-clause-up_all
returns-clause-up_all g c =
    let p = c.args.self.now in
    let table = c.settle-done.new.table in
    let after = state_at table c.join.new.into (record { clients = p.callers.clients; desks = p.callers.desks; closer = record { list = c.settle-done.new.self.list } }) in
    ok_then c.settle-done.result (AreUpAndFree (length g.N.Named.records) table.stations.items) ((past : List Entry) → HasLog after past → AreUp (start_of g.N.Named.records) past)
    (λ settled. up_in_log g.D.Disk.state g.D.Disk.faults (start_of g.N.Named.records) g.N.Named.faults g.N.Named.honest after c.settle-done.ensures.turn.ready.stations c.made.ensures settled.0)
    c.settle-done.ensures.settled

pub returns-clause-damaged : goal.returns-clause-damaged
returns-clause-damaged g c =
    let p = c.args.self.now in
    let start = start_of g.N.Named.records in
    let state = state_of p in
    let table = c.settle-done.new.table in
    let turn = turn_at table c.settle-done.new.pass c.settle-done.new.self.list in
    let after = state_at table c.join.new.into (record { clients = p.callers.clients; desks = p.callers.desks; closer = record { list = c.settle-done.new.self.list } }) in
    let recovery = c.settle-done.ensures.list in
    let of = closer_turn g.N.Named.board start state c.requires.play after (view_of c.split-pass.new.from) (view_of c.split-pass.result) (board_of c.split-pass.result) turn
    c.split-pass.ensures.view c.settle-done.ensures.turn c.settle-done.ensures.goes_on c.join.ensures.view (c.join.ensures.board ∙ c.split-pass.ensures.board.0) refl refl refl refl refl recovery in
    if_error c.settle-done.result _ _
    (λ cause so damage. (
      closer_goes g.N.Named.board start state c.requires.play Settles after (view_of c.split-pass.new.from) (view_of c.split-pass.result) (board_of c.split-pass.result) turn of refl
          (λ before later. settles_log state after p.callers.closer.list c.settle-done.new.self.list before later (so damage).0),
      (so damage).1,
    ))
    c.settle-done.ensures.damaged

use Rattle.std.proofs.Common.{◌≡◌, ◌∙◌, ◌+◌, ◌-◌, ℕ, List, length, Option, refl, sym, ap, subst, arith, MatchOption}
use Rattle.std.specs.Prelude.{slice_set, ⊤}
use Rattle.std.specs.Vec.{with_item}
use Rattle.mn_actors.specs.Sight.{board_of, view_of}
use Rattle.mn_base.specs.declared.ids.ClientNo.{ClientNo}
use Rattle.mn_base.specs.declared.ids.Tid.{Tid}
use Rattle.mn_mini.specs.RecordGrammar.{IsTid}
use Rattle.mn_runs.specs.declared.entry.Entry.{Entry}
use Rattle.mn_runs.specs.Calls.{issues_of}
use Rattle.mn_runs.specs.Protocol.{start_of, entries_of}
use Rattle.mn_callers.specs.Clients.{last_shared}
use Rattle.mn_callers.specs.Stages.{GoesAs, state_of}
use Rattle.mn_callers.specs.Plays.{caller_at, list_by, state_at}
use Rattle.mn_callers.specs.Recoveries.{bench_of}
use Rattle.mn_replay.specs.Schedule.{DoesWork, RecoversFor}
use Rattle.mn_callers.specs.Desks.{recoverer}
use Rattle.mn_callers.specs.Turn.{turn_at}
use Rattle.mn_callers.proofs.ClientTurns.{list_of_client, met_at}
use Rattle.mn_callers.proofs.Turns.{ok_then}
use Rattle.mn_replay.proofs.Acting.{desk_begins, desk_ends, desk_goes, desk_turn}
use Rattle.mn_replay.proofs.play.recoverer_turn.Goals as goal

pub split-pass-requires-clause-owns : goal.split-pass-requires-clause-owns
split-pass-requires-clause-owns g c =
    let actor = caller_at (17 + (c.args.recoverer - 1)) in
    let few = c.requires.recoverer in
    (list_by c.args.stage.now.callers actor, c.requires.play.1.rests.owns actor (omega arith))

pub work-done-requires-clause-turn : goal.work-done-requires-clause-turn
work-done-requires-clause-turn g c =
    let four = c.requires.play.1.rests.four in
    let few = c.requires.recoverer in
    let there = met_at c.args.stage.now.callers.desks.items (c.args.recoverer - 1) c.from-2.result c.index_mut-desk.result.now (omega arith) c.from-2.ensures c.index_mut-desk.ensures.value in
    let p = c.args.stage.now in
    desk_begins g.N.Named.board (start_of g.N.Named.records) (state_of p) c.requires.play.1.rests (c.args.recoverer - 1) c.index_mut-desk.result.now there
    (view_of c.split-pass.new.from) (view_of c.split-pass.result) (board_of c.split-pass.result) c.split-pass.ensures.view c.split-pass.ensures.board.1

pub work-done-requires-clause-desk : goal.work-done-requires-clause-desk
work-done-requires-clause-desk g c =
    let four = c.requires.play.1.rests.four in
    let few = c.requires.recoverer in
    let there = met_at c.args.stage.now.callers.desks.items (c.args.recoverer - 1) c.from-2.result c.index_mut-desk.result.now (omega arith) c.from-2.ensures c.index_mut-desk.ensures.value in
    c.requires.play.1.callers.desks (c.args.recoverer - 1) c.index_mut-desk.result.now there

pub work-done-requires-clause-id : goal.work-done-requires-clause-id
work-done-requires-clause-id g c =
    let client = c.index.result.now in
    let is = met_at c.args.stage.now.callers.clients.items c.args.client.0 c.from.result client c.requires.client c.from.ensures c.index.ensures in
    subst (λ (o : Option Tid). MatchOption o ⊤ IsTid) (sym c.shared-shared.ensures) (c.requires.play.1.callers.clients c.args.client.0 client is).shared

pub returns-clause-play : goal.returns-clause-play
returns-clause-play g c =
    let four = c.requires.play.1.rests.four in
    let few = c.requires.recoverer in
    let there = met_at c.args.stage.now.callers.desks.items (c.args.recoverer - 1) c.from-2.result c.index_mut-desk.result.now (omega arith) c.from-2.ensures c.index_mut-desk.ensures.value in
    let p = c.args.stage.now in
    let start = start_of g.N.Named.records in
    let state = state_of p in
    let table = c.work-done.new.table in
    let desk = c.work-done.new.desk in
    let turn = turn_at table c.work-done.new.pass desk.list in
    let items = ap (λ (k : ℕ). slice_set p.callers.desks.items k desk) c.from-2.ensures in
    let after = state_at table c.join.new.into (record { clients = p.callers.clients; desks = with_item p.callers.desks c.from-2.result desk; closer = p.callers.closer }) in
    let of = desk_turn g.N.Named.board start state c.requires.play.1.rests (c.args.recoverer - 1) c.index_mut-desk.result.now there after
    (view_of c.split-pass.new.from) (view_of c.split-pass.result) (board_of c.split-pass.result) turn desk
    c.split-pass.ensures.view c.work-done.ensures.turn c.work-done.ensures.goes_on c.join.ensures.view (c.join.ensures.board ∙ c.split-pass.ensures.board.0) refl refl refl items refl refl c.work-done.ensures.desk in
    desk_ends g.N.Named.board start state c.requires.play.1.rests (c.args.recoverer - 1) c.index_mut-desk.result.now there after
    (view_of c.split-pass.new.from) (view_of c.split-pass.result) (board_of c.split-pass.result) turn desk of items refl refl c.work-done.ensures.desk

pub returns-clause-does : goal.returns-clause-does
returns-clause-does g c =
    let four = c.requires.play.1.rests.four in
    let few = c.requires.recoverer in
    let there = met_at c.args.stage.now.callers.desks.items (c.args.recoverer - 1) c.from-2.result c.index_mut-desk.result.now (omega arith) c.from-2.ensures c.index_mut-desk.ensures.value in
    let p = c.args.stage.now in
    let start = start_of g.N.Named.records in
    let state = state_of p in
    let table = c.work-done.new.table in
    let desk = c.work-done.new.desk in
    let turn = turn_at table c.work-done.new.pass desk.list in
    let items = ap (λ (k : ℕ). slice_set p.callers.desks.items k desk) c.from-2.ensures in
    let after = state_at table c.join.new.into (record { clients = p.callers.clients; desks = with_item p.callers.desks c.from-2.result desk; closer = p.callers.closer }) in
    let of = desk_turn g.N.Named.board start state c.requires.play.1.rests (c.args.recoverer - 1) c.index_mut-desk.result.now there after
    (view_of c.split-pass.new.from) (view_of c.split-pass.result) (board_of c.split-pass.result) turn desk
    c.split-pass.ensures.view c.work-done.ensures.turn c.work-done.ensures.goes_on c.join.ensures.view (c.join.ensures.board ∙ c.split-pass.ensures.board.0) refl refl refl items refl refl c.work-done.ensures.desk in
    let client = c.index.result.now in
    let is = met_at c.args.stage.now.callers.clients.items c.args.client.0 c.from.result client c.requires.client c.from.ensures c.index.ensures in
    let below = c.requires.client in
    let actor : c.index_mut-desk.result.now.list.client ≡ recoverer c.args.recoverer = c.requires.play.1.rests.numbers.desks (c.args.recoverer - 1) c.index_mut-desk.result.now there ∙ ap caller_at (let same : 17 + (c.args.recoverer - 1) ≡ 16 + c.args.recoverer = omega arith in same) in
    let es = entries_of (list_by p.callers c.args.client) in
    let number : c.args.recoverer ≡ (c.args.recoverer - 1) + 1 = omega arith in
    let shared : c.shared-shared.result ≡ last_shared (issues_of es) = c.shared-shared.ensures ∙ ((c.requires.play.1.callers.clients c.args.client.0 client is).issues.id_is
    ∙ ap (λ (l : List (ℕ × Entry)). last_shared (issues_of (entries_of l))) (sym (list_of_client p.callers c.args.client.0 client (omega (arith, c.requires.play.1.rests.few, c.requires.client)) is))) in
    ok_then c.work-done.result _ (GoesAs (RecoversFor (length g.N.Named.records) c.args.recoverer c.args.client c.args.to_the_end) state after)
    (λ so. desk_goes g.N.Named.board start state c.requires.play.1.rests (c.args.recoverer - 1) c.index_mut-desk.result.now there c.args.recoverer number
    (DoesWork c.args.to_the_end (length g.N.Named.records) (recoverer c.args.recoverer)) after
    (view_of c.split-pass.new.from) (view_of c.split-pass.result) (board_of c.split-pass.result) turn desk of refl items c.args.client (omega (arith, below, c.requires.play.1.rests.few))
    (subst (λ (k : ClientNo). DoesWork c.args.to_the_end (length g.N.Named.records) k es (bench_of c.index_mut-desk.result.now) (bench_of desk)) actor (so es shared)))
    c.work-done.ensures.does

use Rattle.std.proofs.Common.{◌∙◌, ◌<◌, ℕ, List, length, refl, sym, ap, subst, arith}
use Rattle.std.specs.Prelude.{slice_get, slice_set}
use Rattle.std.specs.Vec.{with_item}
use Rattle.mn_actors.specs.Sight.{board_of, view_of}
use Rattle.mn_base.specs.declared.op.Op.{Op}
use Rattle.mn_script.specs.declared.elements.Point.{Point}
use Rattle.mn_script.specs.declared.elements.ScriptClient.{ScriptClient}
use Rattle.mn_runs.specs.Protocol.{start_of}
use Rattle.mn_callers.specs.declared.callers.Callers.{Callers}
use Rattle.mn_callers.specs.Acts.{Role, as_role}
use Rattle.mn_callers.specs.Clients.{IsClient, IsOfRun, past_of}
use Rattle.mn_callers.specs.Going.{KeepsOrder}
use Rattle.mn_callers.specs.Stages.{DoesMove, GoesAs, IsOfClient, state_of}
use Rattle.mn_callers.specs.Plays.{AreReady, state_at}
use Rattle.mn_callers.specs.Turn.{turn_at}
use Rattle.mn_callers.specs.Acts.{role_of}
use Rattle.mn_callers.proofs.ClientTurns.{client_begins, client_ends, client_goes, client_turn, met_at, role_same}
use Rattle.mn_callers.proofs.Turns.{ok_then}
use Rattle.mn_callers.proofs.Replacing.{client_ready}
use Rattle.mn_callers.proofs.stage.Stage.client_turn.Goals as goal

pub make_move-done-requires-clause-turn : goal.make_move-done-requires-clause-turn
make_move-done-requires-clause-turn g c =
    let count = c.requires.play.callers.count in
    let asked = c.requires.client in
    let there = met_at c.args.self.now.callers.clients.items c.args.client.0 c.from-at.result c.index_mut-caller.result.now (omega arith) c.from-at.ensures c.index_mut-caller.ensures.value in
    let p = c.args.self.now in
    client_begins g.N.Named.board (start_of g.N.Named.records) (state_of p) c.requires.play.rests c.args.client.0 c.index_mut-caller.result.now there
    (view_of c.split-pass.new.from) (view_of c.split-pass.result) (board_of c.split-pass.result) c.split-pass.ensures.view c.split-pass.ensures.board.1

pub make_move-done-requires-clause-client : goal.make_move-done-requires-clause-client
make_move-done-requires-clause-client g c =
    let count = c.requires.play.callers.count in
    let asked = c.requires.client in
    let there = met_at c.args.self.now.callers.clients.items c.args.client.0 c.from-at.result c.index_mut-caller.result.now (omega arith) c.from-at.ensures c.index_mut-caller.ensures.value in
    subst (λ (points : List Point). IsClient (start_of g.N.Named.records) points c.index_mut-caller.result.now) (sym c.points-points.ensures.value)
    (c.requires.ready c.args.client.0 c.index_mut-caller.result.now there)

pub returns-clause-play : goal.returns-clause-play
returns-clause-play g c =
    let count = c.requires.play.callers.count in
    let asked = c.requires.client in
    let there = met_at c.args.self.now.callers.clients.items c.args.client.0 c.from-at.result c.index_mut-caller.result.now (omega arith) c.from-at.ensures c.index_mut-caller.ensures.value in
    let p = c.args.self.now in
    let start = start_of g.N.Named.records in
    let state = state_of p in
    let table = c.make_move-done.new.table.inner in
    let caller = c.make_move-done.new.caller in
    let turn = turn_at table c.make_move-done.new.pass caller.list in
    let items = ap (λ (k : ℕ). slice_set p.callers.clients.items k caller) c.from-at.ensures in
    let of_run = subst (λ (points : List Point). IsOfRun start points caller) c.points-points.ensures.value c.make_move-done.ensures.of_run in
    let after = state_at table c.join.new.into (record { clients = with_item p.callers.clients c.from-at.result caller; desks = p.callers.desks; closer = p.callers.closer }) in
    let of = client_turn g.N.Named.board start state c.requires.play.rests c.args.client.0 c.index_mut-caller.result.now there after
    (view_of c.split-pass.new.from) (view_of c.split-pass.result) (board_of c.split-pass.result) turn caller
    c.split-pass.ensures.view c.make_move-done.ensures.turn c.make_move-done.ensures.goes_on c.join.ensures.view (c.join.ensures.board ∙ c.split-pass.ensures.board.0) refl refl refl items refl refl of_run.of_run in
    let role = role_same c.args.script.now c.points-points.result.now c.args.client c.index_mut-caller.result.now.list.client c.as_slice-ops.result.now c.index-clients-at.result c.points-points.ensures.value
    (c.requires.play.rests.numbers.clients c.args.client.0 c.index_mut-caller.result.now there)
    (ap (λ (l : List ScriptClient). slice_get l c.args.client.0) (sym c.clients.ensures.value) ∙ met_at c.clients.result.now c.args.client.0 c.from-at.result c.index-clients-at.result
    (subst (λ (l : List ScriptClient). c.args.client.0 < length l) (sym c.clients.ensures.value) c.requires.client) c.from-at.ensures c.index-clients-at.is)
    (c.as_slice-ops.ensures ∙ ap (λ (k : ScriptClient). k.ops) (sym c.index-clients-at.is)) in
    client_ends g.N.Named.board start state c.requires.play.rests c.args.client.0 c.index_mut-caller.result.now there c.args.script.now c.requires.play after
    (view_of c.split-pass.new.from) (view_of c.split-pass.result) (board_of c.split-pass.result) turn caller of items refl refl of_run
    (subst (λ (ops : List Op). KeepsOrder ops (past_of c.index_mut-caller.result.now) (past_of caller)) (ap (λ (a : Role). a.ops) role) c.make_move-done.ensures.order)

pub returns-clause-does : goal.returns-clause-does
returns-clause-does g c =
    let count = c.requires.play.callers.count in
    let asked = c.requires.client in
    let there = met_at c.args.self.now.callers.clients.items c.args.client.0 c.from-at.result c.index_mut-caller.result.now (omega arith) c.from-at.ensures c.index_mut-caller.ensures.value in
    let p = c.args.self.now in
    let start = start_of g.N.Named.records in
    let state = state_of p in
    let table = c.make_move-done.new.table.inner in
    let caller = c.make_move-done.new.caller in
    let turn = turn_at table c.make_move-done.new.pass caller.list in
    let items = ap (λ (k : ℕ). slice_set p.callers.clients.items k caller) c.from-at.ensures in
    let of_run = subst (λ (points : List Point). IsOfRun start points caller) c.points-points.ensures.value c.make_move-done.ensures.of_run in
    let after = state_at table c.join.new.into (record { clients = with_item p.callers.clients c.from-at.result caller; desks = p.callers.desks; closer = p.callers.closer }) in
    let of = client_turn g.N.Named.board start state c.requires.play.rests c.args.client.0 c.index_mut-caller.result.now there after
    (view_of c.split-pass.new.from) (view_of c.split-pass.result) (board_of c.split-pass.result) turn caller
    c.split-pass.ensures.view c.make_move-done.ensures.turn c.make_move-done.ensures.goes_on c.join.ensures.view (c.join.ensures.board ∙ c.split-pass.ensures.board.0) refl refl refl items refl refl of_run.of_run in
    let role = role_same c.args.script.now c.points-points.result.now c.args.client c.index_mut-caller.result.now.list.client c.as_slice-ops.result.now c.index-clients-at.result c.points-points.ensures.value
    (c.requires.play.rests.numbers.clients c.args.client.0 c.index_mut-caller.result.now there)
    (ap (λ (l : List ScriptClient). slice_get l c.args.client.0) (sym c.clients.ensures.value) ∙ met_at c.clients.result.now c.args.client.0 c.from-at.result c.index-clients-at.result
    (subst (λ (l : List ScriptClient). c.args.client.0 < length l) (sym c.clients.ensures.value) c.requires.client) c.from-at.ensures c.index-clients-at.is)
    (c.as_slice-ops.ensures ∙ ap (λ (k : ScriptClient). k.ops) (sym c.index-clients-at.is)) in
    let does = DoesMove c.args.what (role_of c.args.script.now c.args.client) in
    ok_then c.make_move-done.result (DoesMove c.args.what (as_role c.points-points.result.now c.index_mut-caller.result.now.list.client c.as_slice-ops.result.now) (past_of c.index_mut-caller.result.now) (past_of caller)) (GoesAs (IsOfClient c.args.client does) state after)
    (λ so. client_goes g.N.Named.board start state c.requires.play.rests c.args.client.0 c.index_mut-caller.result.now there does after
    (view_of c.split-pass.new.from) (view_of c.split-pass.result) (board_of c.split-pass.result) turn of refl
    (subst (λ (a : Role). DoesMove c.args.what a (past_of c.index_mut-caller.result.now) (past_of caller)) role so))
    c.make_move-done.ensures.does

pub returns-clause-ready : goal.returns-clause-ready
returns-clause-ready g c =
    let p = c.args.self.now in
    let start = start_of g.N.Named.records in
    let caller = c.make_move-done.new.caller in
    let after : Callers = record { clients = with_item p.callers.clients c.from-at.result caller; desks = p.callers.desks; closer = p.callers.closer } in
    let count = c.requires.play.callers.count in
    let asked = c.requires.client in
    let there = met_at c.args.self.now.callers.clients.items c.args.client.0 c.from-at.result c.index_mut-caller.result.now (omega arith) c.from-at.ensures c.index_mut-caller.ensures.value in
    ok_then c.make_move-done.result (IsClient start c.points-points.result.now caller) (AreReady start c.args.script.now after)
    (λ client. client_ready start c.args.script.now p.callers after c.args.client.0 c.index_mut-caller.result.now caller c.requires.ready there
    (ap (λ (k : ℕ). slice_set p.callers.clients.items k caller) c.from-at.ensures) (subst (λ (points : List Point). IsClient start points caller) c.points-points.ensures.value client))
    c.make_move-done.ensures.client

use Rattle.std.proofs.Common.{refl, sym, ◌∙◌, subst, arith}
use Rattle.std.specs.List.{AllByRecursion}
use Rattle.std.proofs.lemmas.List.Elements.{All-from_recursion}
use Rattle.atomic_table.specs.Seated.{TableId}
use Rattle.mn_actors.specs.Sight.{view_of}
use Rattle.mn_runs.specs.Protocol.{start_of}
use Rattle.mn_callers.proofs.Turns.{ok_then}
use Rattle.mn_callers.specs.Plays.{AreReady, state_at}
use Rattle.mn_callers.specs.Stages.{GoesAs, state_of}
use Rattle.mn_cluster.specs.Follows.{GoAtOnce}
use Rattle.mn_cluster.specs.Hired.{AreHired, HaveTurns, IsDone, roles_of}
use Rattle.mn_cluster.specs.Runs.{on_past}
use Rattle.mn_cluster.specs.Workers.{IsWorker}
use Rattle.mn_cluster.proofs.AtOnce.{are_ready, clients_stand, desks_long, have_grown, may_work, own, play_again, rests_again, turns_after, went}
use Rattle.mn_cluster.proofs.Worked.{pairs}
use Rattle.mn_cluster.proofs.running.at_once.Goals as goal

pub hire-requires-clause-board : goal.hire-requires-clause-board
hire-requires-clause-board g c = c.requires.play.rests.passes ∙ sym c.requires.play.rests.table.0

pub hire-requires-clause-owns : goal.hire-requires-clause-owns
hire-requires-clause-owns g c = c.requires.play.rests.owns

pub hire-requires-clause-numbers : goal.hire-requires-clause-numbers
hire-requires-clause-numbers g c = c.requires.play.rests.numbers

pub hire-requires-clause-few : goal.hire-requires-clause-few
hire-requires-clause-few g c = c.requires.play.rests.few

pub hire-requires-clause-four : goal.hire-requires-clause-four
hire-requires-clause-four g c = c.requires.play.rests.four

pub hire-requires-clause-empty : goal.hire-requires-clause-empty
hire-requires-clause-empty g c = c.requires.workers.0

pub hire-requires-clause-room : goal.hire-requires-clause-room
hire-requires-clause-room g c = c.requires.workers.1

pub behind_locks-requires-clause-table : goal.behind_locks-requires-clause-table
behind_locks-requires-clause-table g c = λ _ _. record { table = c.requires.play.rests.table; stations = c.requires.play.rests.stations }

pub behind_locks-requires-clause-workers : goal.behind_locks-requires-clause-workers
behind_locks-requires-clause-workers g c = λ _ _.
    let p = state_of c.args.stage.now in
    let start = start_of g.N.Named.records in
    let before = c.hire.new.workers.items in
    let hired = subst (λ (b : TableId). AreHired b p.view.known before) c.requires.play.rests.table.0 c.hire.ensures.hired in
    All-from_recursion (IsWorker g.N.Named.board start c.args.script.now) before
    (may_work g.N.Named.board start c.args.script.now p c.requires.play c.requires.ready before hired c.hire.ensures.roles)

pub dismiss-done-requires-clause-board : goal.dismiss-done-requires-clause-board
dismiss-done-requires-clause-board g c = c.hire.ensures.board ∙ (c.requires.play.rests.passes ∙ sym c.behind_locks.ensures.table.table.0)

pub dismiss-done-requires-clause-turns : goal.dismiss-done-requires-clause-turns
dismiss-done-requires-clause-turns g c =
    let p = state_of c.args.stage.now in
    let start = start_of g.N.Named.records in
    let before = c.hire.new.workers.items in
    let after = c.behind_locks.new.workers.items in
    let worked = pairs g.N.Named.board start c.args.script.now p.view.known before after c.behind_locks.ensures.count c.behind_locks.ensures.worked in
    subst (λ (b : TableId). HaveTurns b after) (sym c.behind_locks.ensures.table.table.0) (turns_after g.N.Named.board start c.args.script.now p.view.known before after worked)

pub dismiss-done-requires-clause-none : goal.dismiss-done-requires-clause-none
dismiss-done-requires-clause-none g c = c.hire.ensures.none

pub dismiss-done-requires-clause-desks : goal.dismiss-done-requires-clause-desks
dismiss-done-requires-clause-desks g c =
    let p = state_of c.args.stage.now in
    let start = start_of g.N.Named.records in
    let before = c.hire.new.workers.items in
    let after = c.behind_locks.new.workers.items in
    let hired = subst (λ (b : TableId). AreHired b p.view.known before) c.requires.play.rests.table.0 c.hire.ensures.hired in
    let worked = pairs g.N.Named.board start c.args.script.now p.view.known before after c.behind_locks.ensures.count c.behind_locks.ensures.worked in
    let long = desks_long g.N.Named.board start c.args.script.now p c.requires.play before after hired c.hire.ensures.roles worked in
    let same = c.hire.ensures.desks in
    let held = c.args.stage.now.callers.desks.ok in
    omega (arith, long, same, held.0, held.1)

pub dismiss-done-requires-clause-clients : goal.dismiss-done-requires-clause-clients
dismiss-done-requires-clause-clients g c =
    let p = state_of c.args.stage.now in
    let start = start_of g.N.Named.records in
    let before = c.hire.new.workers.items in
    let after = c.behind_locks.new.workers.items in
    let hired = subst (λ (b : TableId). AreHired b p.view.known before) c.requires.play.rests.table.0 c.hire.ensures.hired in
    let worked = pairs g.N.Named.board start c.args.script.now p.view.known before after c.behind_locks.ensures.count c.behind_locks.ensures.worked in
    let long = clients_stand g.N.Named.board start c.args.script.now p c.requires.play before after hired c.hire.ensures.roles worked in
    let same = c.hire.ensures.clients in
    let held = c.args.stage.now.callers.clients.ok in
    omega (arith, long, same, held.0, held.1)

pub hear-requires : goal.hear-requires
hear-requires g c =
    let p = state_of c.args.stage.now in
    let start = start_of g.N.Named.records in
    let before = c.hire.new.workers.items in
    let after = c.behind_locks.new.workers.items in
    let hired = subst (λ (b : TableId). AreHired b p.view.known before) c.requires.play.rests.table.0 c.hire.ensures.hired in
    let worked = pairs g.N.Named.board start c.args.script.now p.view.known before after c.behind_locks.ensures.count c.behind_locks.ensures.worked in
    let callers = c.dismiss-done.new.callers in
    record {
      rests = rests_again g.N.Named.board start c.args.script.now p c.requires.play before after hired c.hire.ensures.roles worked callers
          c.dismiss-done.ensures.desks c.dismiss-done.ensures.clients (c.dismiss-done.ensures.closer ∙ c.hire.ensures.closer)
          (state_at {N = g.row.N.Denot} c.behind_locks.new.table c.dismiss-done.new.rest callers) (view_of c.hire.new.rest) c.behind_locks.ensures.table.table c.behind_locks.ensures.table.stations
          (c.dismiss-done.ensures.board ∙ (c.hire.ensures.board ∙ c.requires.play.rests.passes)) refl c.hire.ensures.left c.dismiss-done.ensures.owns
          (λ n. c.dismiss-done.ensures.nodes n ∙ c.hire.ensures.nodes n);
    }

pub returns-clause-play : goal.returns-clause-play
returns-clause-play g c =
    let p = state_of c.args.stage.now in
    let start = start_of g.N.Named.records in
    let before = c.hire.new.workers.items in
    let after = c.behind_locks.new.workers.items in
    let hired = subst (λ (b : TableId). AreHired b p.view.known before) c.requires.play.rests.table.0 c.hire.ensures.hired in
    let worked = pairs g.N.Named.board start c.args.script.now p.view.known before after c.behind_locks.ensures.count c.behind_locks.ensures.worked in
    let callers = c.dismiss-done.new.callers in
    play_again g.N.Named.board start c.args.script.now p c.requires.play before after hired c.hire.ensures.roles worked callers
    c.dismiss-done.ensures.desks c.dismiss-done.ensures.clients (c.dismiss-done.ensures.closer ∙ c.hire.ensures.closer)
    (state_at {N = g.row.N.Denot} c.hear.new.self c.hear.new.rest callers) refl c.hear.ensures.rests

pub returns-clause-ready : goal.returns-clause-ready
returns-clause-ready g c =
    let p = state_of c.args.stage.now in
    let start = start_of g.N.Named.records in
    let before = c.hire.new.workers.items in
    let after = c.behind_locks.new.workers.items in
    let hired = subst (λ (b : TableId). AreHired b p.view.known before) c.requires.play.rests.table.0 c.hire.ensures.hired in
    let worked = pairs g.N.Named.board start c.args.script.now p.view.known before after c.behind_locks.ensures.count c.behind_locks.ensures.worked in
    let callers = c.dismiss-done.new.callers in
    ok_then c.dismiss-done.result (AllByRecursion IsDone (roles_of after)) (AreReady start c.args.script.now callers)
    (are_ready g.N.Named.board start c.args.script.now p c.requires.play before after hired c.hire.ensures.roles worked callers
    c.dismiss-done.ensures.desks c.dismiss-done.ensures.clients (c.dismiss-done.ensures.closer ∙ c.hire.ensures.closer))
    c.dismiss-done.ensures.done

pub returns-clause-does : goal.returns-clause-does
returns-clause-does g c =
    let p = state_of c.args.stage.now in
    let start = start_of g.N.Named.records in
    let before = c.hire.new.workers.items in
    let after = c.behind_locks.new.workers.items in
    let hired = subst (λ (b : TableId). AreHired b p.view.known before) c.requires.play.rests.table.0 c.hire.ensures.hired in
    let worked = pairs g.N.Named.board start c.args.script.now p.view.known before after c.behind_locks.ensures.count c.behind_locks.ensures.worked in
    let callers = c.dismiss-done.new.callers in
    let closing = c.dismiss-done.ensures.closer ∙ c.hire.ensures.closer in
    let q = state_at {N = g.row.N.Denot} c.hear.new.self c.hear.new.rest callers in
    ok_then c.dismiss-done.result (AllByRecursion IsDone (roles_of after)) (GoesAs (on_past (GoAtOnce c.args.script.now)) p q)
    (λ all past log.
    went g.N.Named.board start c.args.script.now p c.requires.play before after hired c.hire.ensures.roles worked callers c.dismiss-done.ensures.desks c.dismiss-done.ensures.clients closing q refl past log
    (c.hear.ensures.since p past (own g.N.Named.board start c.args.script.now p c.requires.play before after hired c.hire.ensures.roles worked callers c.dismiss-done.ensures.desks c.dismiss-done.ensures.clients closing) log
    (have_grown g.N.Named.board start c.args.script.now p c.requires.play before after hired c.hire.ensures.roles worked callers c.dismiss-done.ensures.desks c.dismiss-done.ensures.clients closing)) all)
    c.dismiss-done.ensures.done

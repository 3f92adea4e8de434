use Rattle.std.proofs.Common.{[], List, length, refl, sym, ap, ◌∙◌, subst}
use Rattle.mn_actors.specs.Sight.{clients_of, nodes_of, view_of}
use Rattle.mn_node.specs.State.{NodeState}
use Rattle.mn_runs.specs.Protocol.{start_of}
use Rattle.mn_callers.specs.Failed.{IsRunOn}
use Rattle.mn_callers.specs.Plays.{state_at}
use Rattle.mn_callers.specs.Trace.{HaveSoundRecords}
use Rattle.mn_callers.specs.Turn.{callers_count}
use Rattle.mn_callers.proofs.Opening.{all_back, as_named, first_play, fresh_play, holds_empty, not_begun}
use Rattle.mn_callers.proofs.begun.Begun.new.Goals as goal

pub returns-in_default-clause-failed : goal.returns-in_default-clause-failed
returns-in_default-clause-failed g c =
    c.without_log.ensures.fails c.args.script.now c.args.nodes.items refl [] (not_begun g.D.Disk.state g.D.Disk.faults c.args.script.now c.args.script.now.nodes c.args.nodes.items c.requires.nodes)

pub returns-in_default-room_for_lists-clause-failed : goal.returns-in_default-room_for_lists-clause-failed
returns-in_default-room_for_lists-clause-failed g c =
    c.without_log-in_default-room_for_lists.ensures.fails c.args.script.now c.args.nodes.items refl [] (not_begun g.D.Disk.state g.D.Disk.faults c.args.script.now c.args.script.now.nodes c.args.nodes.items c.requires.nodes)

pub stations_of-requires-clause-empty : goal.stations_of-requires-clause-empty
stations_of-requires-clause-empty g c =
    holds_empty c.args.script.now.nodes callers_count (length g.N.Named.records) (view_of c.args.all) c.requires.empty c.requires.others
    (as_named g.D.Disk.state g.D.Disk.faults g.N.Named.records g.N.Named.faults g.N.Named.honest c.args.script.now.nodes c.args.nodes.items c.requires.named c.requires.nodes)

pub without_log-requires-in_default-stations_of-clause-owns : goal.without_log-requires-in_default-stations_of-clause-owns
without_log-requires-in_default-stations_of-clause-owns g c =
    all_back c.args.script.now.nodes callers_count (length g.N.Named.records) (view_of c.args.all) c.requires.empty c.requires.others
    (as_named g.D.Disk.state g.D.Disk.faults g.N.Named.records g.N.Named.faults g.N.Named.honest c.args.script.now.nodes c.args.nodes.items c.requires.named c.requires.nodes)
    (view_of c.stations_of.new.all) (nodes_of c.args.board) (clients_of c.args.board) c.requires.size.0 c.requires.size.1 c.in_default-stations_of.ensures.owns c.in_default-stations_of.ensures.callers

pub returns-in_default-stations_of-clause-failed : goal.returns-in_default-stations_of-clause-failed
returns-in_default-stations_of-clause-failed g c =
    let back = c.in_default-stations_of.ensures.back in
    c.without_log-in_default-stations_of.ensures.fails c.args.script.now c.args.nodes.items (ap (λ (l : List (NodeState g.row.D.Denot)). length l) back) []
    (subst (λ (l : List (NodeState g.row.D.Denot)). HaveSoundRecords l → IsRunOn g.D.Disk.state g.D.Disk.faults c.args.script.now c.args.nodes.items l []) (sym back)
    (not_begun g.D.Disk.state g.D.Disk.faults c.args.script.now c.args.script.now.nodes c.args.nodes.items c.requires.nodes))

pub returns-clause-play : goal.returns-clause-play
returns-clause-play g c =
    let records = g.N.Named.records in
    let count = as_named g.D.Disk.state g.D.Disk.faults records g.N.Named.faults g.N.Named.honest c.args.script.now.nodes c.args.nodes.items c.requires.named c.requires.nodes in
    let size = c.requires.size in
    let made = c.in-Ok-stations_of.ensures in
    let callers = c.in-Ok.ensures in
    first_play g.N.Named.board records c.args.script.now (state_at {N = g.row.N.Denot} (record { board = c.args.board; stations = c.in-Ok-stations_of.stations }) c.stations_of.new.all c.in-Ok.callers) (view_of c.args.all)
    count (c.requires.board.0, size.0 ∙ sym count, size.1) made.stations made.bare made.board made.no_nodes made.callers c.requires.empty c.requires.others
    (callers.callers (start_of records) c.requires.run (sym count)) callers.numbers callers.empty callers.few callers.desks

pub returns-clause-ready : goal.returns-clause-ready
returns-clause-ready g c =
    let count = as_named g.D.Disk.state g.D.Disk.faults g.N.Named.records g.N.Named.faults g.N.Named.honest c.args.script.now.nodes c.args.nodes.items c.requires.named c.requires.nodes in
    c.in-Ok.ensures.ready (start_of g.N.Named.records) c.requires.run (sym count)

pub returns-clause-fresh : goal.returns-clause-fresh
returns-clause-fresh g c =
    let made = c.in-Ok-stations_of.ensures in
    let callers = c.in-Ok.ensures in
    fresh_play (state_at {N = g.row.N.Denot} (record { board = c.args.board; stations = c.in-Ok-stations_of.stations }) c.stations_of.new.all c.in-Ok.callers) made.bare callers.empty callers.idle

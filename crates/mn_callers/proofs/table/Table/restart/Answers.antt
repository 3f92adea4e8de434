use Rattle.std.proofs.Common.{◌≡◌, ◌+◌, ◌++◌, ◌∷◌, [], Bool, Some, slice_get, sym, ap, ◌∙◌, subst}
use Rattle.mn_base.specs.declared.ids.NodeNo.{NodeNo}
use Rattle.mn_actors.specs.Sight.{view_of}
use Rattle.mn_cell.specs.Calls.{EndsBoth, entry_at}
use Rattle.mn_cell.specs.Station.{RoseBy, unasked}
use Rattle.mn_runs.specs.declared.entry.What.TheVariants.{Restarted}
use Rattle.mn_runs.specs.Protocol.{entries_of, start_of}
use Rattle.mn_runs.specs.Lists.{ClientState}
use Rattle.mn_runs.specs.Nodes.{is_down}
use Rattle.mn_callers.specs.Turn.{turn_at}
use Rattle.mn_callers.proofs.Doings.{by_kept, by_same, goes_by, in_both_ways}
use Rattle.mn_callers.proofs.Stations.{caused, down_as, made_at, others_stay, was_as}
use Rattle.mn_callers.proofs.Turns.{by_option, goes_called, goes_still, is_among, its_number, read_there, turn_called}
use Rattle.mn_callers.proofs.table.Table.restart.Goals as goal
use Rattle.mn_callers.proofs.table.Table.restart.Goals.{After-index_mut-station}

there : (g : _) (c : After-index_mut-station g) → slice_get c.args.self.now.stations.items c.from.result ≡ Some c.index_mut-station.result.now
there g c = read_there c.args.self.now.stations.items c.from.result c.index_mut-station.result.now (is_among c.from.result c.args.node.0 _ _ c.from.ensures c.requires.node c.requires.turn.ready.stations.count) c.index_mut-station.ensures.value

number : (g : _) (c : After-index_mut-station g) → c.index_mut-station.result.now.number ≡ c.args.node
number g c = its_number _ c.args.self.now.stations.items c.from.result c.args.node c.index_mut-station.result.now c.requires.turn.ready.stations (there g c) c.from.ensures

pub returns-in-Ok-clause-turn : goal.returns-in-Ok-clause-turn
returns-in-Ok-clause-turn g c =
    let at = (goal.at.returns-in-Ok-clause-turn g c).After-index_mut-station in
    let t = turn_at c.args.self.now c.args.pass.now c.args.list.now in
    let r = c.restart.ensures in
    turn_called t c.from.result c.index_mut-station.result.now c.restart.new.self (there g at) _ _ _ g.N.Named.board _ c.requires.turn r.number r.board r.client r.owns r.list

pub returns-in-Err-clause-turn : goal.returns-in-Err-clause-turn
returns-in-Err-clause-turn g c =
    let at = (goal.at.returns-in-Err-clause-turn g c).After-index_mut-station in
    let t = turn_at c.args.self.now c.args.pass.now c.args.list.now in
    let r = c.restart.ensures in
    turn_called t c.from.result c.index_mut-station.result.now c.restart.new.self (there g at) _ _ _ g.N.Named.board _ c.requires.turn r.number r.board r.client r.owns r.list

pub returns-in-Ok-clause-goes_on : goal.returns-in-Ok-clause-goes_on
returns-in-Ok-clause-goes_on g c =
    let at = (goal.at.returns-in-Ok-clause-goes_on g c).After-index_mut-station in
    let t = turn_at c.args.self.now c.args.pass.now c.args.list.now in
    let s = c.index_mut-station.result.now in
    let r = c.in-Ok.ensures in
    let ends = λ (kept : Bool). EndsBoth (view_of c.args.pass.now).known c.restart.new.self.known (view_of c.restart.new.pass).known (entry_at s.number c.args.list.now.client (Restarted kept)) s.list c.restart.new.self.list c.args.list.now.entries c.restart.new.list.entries in
    by_option ends c.in-Ok._kept r.no_entry r.restarted
    (λ same. goes_still t c.from.result s c.restart.new.self (there g at) _ _ _ (ap (λ s. s.list) same.0) (ap (λ p. (view_of p).known) same.1) c.restart.ensures.client (ap (λ (l : ClientState). l.entries) same.2))
    (λ kept e. goes_called t c.from.result s c.restart.new.self (there g at) _ _ _ (Restarted kept) (c.requires.turn.ready.stations.in_order c.from.result s (there g at)) c.restart.ensures.client e)

pub returns-in-Ok-clause-restarts : goal.returns-in-Ok-clause-restarts
returns-in-Ok-clause-restarts g c =
    let at = (goal.at.returns-in-Ok-clause-restarts g c).After-index_mut-station in
    let s = c.index_mut-station.result.now in
    let r = c.in-Ok.ensures in
    let ends = λ (kept : Bool). EndsBoth (view_of c.args.pass.now).known c.restart.new.self.known (view_of c.restart.new.pass).known (entry_at s.number c.args.list.now.client (Restarted kept)) s.list c.restart.new.self.list c.args.list.now.entries c.restart.new.list.entries in
    goes_by c.args.node c.args.self.now.stations.items c.from.result s (there g at) c.from.ensures
    (by_same _ _ s.node.down (is_down (entries_of s.list)) c.made.ensures.down (by_kept ends s.node.down c.in-Ok._kept r.was_up r.was_down r.no_entry r.restarted
    (λ kept e. (
      kept,
      record {
        client = c.restart.ensures.client;
        place = e.place;
        ends = subst (λ (n : NodeNo). c.restart.new.list.entries ≡ c.args.list.now.entries ++ (e.place, entry_at n c.args.list.now.client (Restarted kept)) ∷ []) (number g at) e.ends_client;
      },
    ))
    (λ same. record { client = c.restart.ensures.client; entries = ap (λ (l : ClientState). l.entries) same.2 })))

pub returns-in-Err-clause-restarts : goal.returns-in-Err-clause-restarts
returns-in-Err-clause-restarts g c =
    let at = (goal.at.returns-in-Err-clause-restarts g c).After-index_mut-station in
    let s = c.index_mut-station.result.now in
    goes_by c.args.node c.args.self.now.stations.items c.from.result s (there g at) c.from.ensures (in_both_ways (is_down (entries_of s.list)) tt tt)

pub returns-in-Err-clause-was_down : goal.returns-in-Err-clause-was_down
returns-in-Err-clause-was_down g c =
    let at = (goal.at.returns-in-Err-clause-was_down g c).After-index_mut-station in
    was_as g.D.Disk.state g.D.Disk.faults (start_of g.N.Named.records) g.N.Named.faults g.N.Named.honest c.args.node c.args.self.now.stations.items c.from.result c.index_mut-station.result.now c.restart.new.self (there g at) c.from.ensures _ c.in-Err.ensures.failed.1

pub returns-in-Ok-clause-others : goal.returns-in-Ok-clause-others
returns-in-Ok-clause-others g c =
    let at = (goal.at.returns-in-Ok-clause-others g c).After-index_mut-station in
    others_stay g.D.Disk.state g.D.Disk.faults (start_of g.N.Named.records) g.N.Named.faults g.N.Named.honest c.args.node c.args.self.now.stations.items c.from.result c.index_mut-station.result.now c.restart.new.self (there g at) c.from.ensures

pub returns-in-Err-clause-others : goal.returns-in-Err-clause-others
returns-in-Err-clause-others g c =
    let at = (goal.at.returns-in-Err-clause-others g c).After-index_mut-station in
    others_stay g.D.Disk.state g.D.Disk.faults (start_of g.N.Named.records) g.N.Named.faults g.N.Named.honest c.args.node c.args.self.now.stations.items c.from.result c.index_mut-station.result.now c.restart.new.self (there g at) c.from.ensures

pub returns-in-Ok-clause-up : goal.returns-in-Ok-clause-up
returns-in-Ok-clause-up g c =
    let at = (goal.at.returns-in-Ok-clause-up g c).After-index_mut-station in
    down_as g.D.Disk.state g.D.Disk.faults (start_of g.N.Named.records) g.N.Named.faults g.N.Named.honest c.args.node c.args.self.now.stations.items c.from.result c.index_mut-station.result.now c.restart.new.self (there g at) c.from.ensures _ c.in-Ok.ensures.up

pub returns-in-Err-clause-goes_on : goal.returns-in-Err-clause-goes_on
returns-in-Err-clause-goes_on g c =
    let at = (goal.at.returns-in-Err-clause-goes_on g c).After-index_mut-station in
    let t = turn_at c.args.self.now c.args.pass.now c.args.list.now in
    let same = c.in-Err.ensures.failed in
    goes_still t c.from.result c.index_mut-station.result.now c.restart.new.self (there g at) _ _ _ same.0.list (ap (λ p. (view_of p).known) same.2) c.restart.ensures.client same.3

pub returns-in-Err-clause-failed : goal.returns-in-Err-clause-failed
returns-in-Err-clause-failed g c =
    let at = (goal.at.returns-in-Err-clause-failed g c).After-index_mut-station in
    let state = g.D.Disk.state in
    let faults = g.D.Disk.faults in
    let start = start_of g.N.Named.records in
    let before = g.N.Named.faults in
    let honest = g.N.Named.honest in
    let n = c.args.node in
    let s = c.index_mut-station.result.now in
    let s' = c.restart.new.self in
    let had = made_at state faults start before honest n s (number g at) c.made.ensures in
    let made = made_at state faults start before honest n s' (c.restart.ensures.number ∙ number g at) c.made-in-Err.ensures in
    let r = c.in-Err.ensures in
    caused state faults start before honest n c.args.self.now.stations.items c.from.result s s' (there g at) c.from.ensures had made r.failed.0 r.failed.1 c.in-Err.error r.cause
    (λ is. subst (λ (m : NodeNo). RoseBy (unasked (entries_of s'.list) + 1) (before m.0) (faults s'.node.disk)) (number g at) (r.fault is))
    (λ h. r.undamaged (subst (λ (m : NodeNo). honest m.0) (sym (number g at)) h))

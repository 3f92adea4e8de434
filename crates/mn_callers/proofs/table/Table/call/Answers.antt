use Rattle.std.proofs.Common.{◌≡◌, ◌++◌, ◌∷◌, [], Some, slice_get, sym, ◌∙◌, subst}
use Rattle.mn_base.specs.declared.ids.NodeNo.{NodeNo}
use Rattle.mn_cell.specs.Calls.{entry_at, what_said}
use Rattle.mn_cell.specs.Promises.{IsOwedAt, decided_by}
use Rattle.mn_runs.specs.Protocol.{start_of, entries_of}
use Rattle.mn_law.specs.Run.{IsLegalBy}
use Rattle.mn_callers.specs.Turn.{turn_at}
use Rattle.mn_callers.proofs.Stations.{answered, down_not_none, entered, made_at, not_none, others_stay, stopped, stopped_not_none, was_down}
use Rattle.mn_callers.proofs.Turns.{goes_called, goes_still, if_none, is_among, its_number, read_there, turn_called}
use Rattle.mn_callers.proofs.table.Table.call.Goals as goal
use Rattle.mn_callers.proofs.table.Table.call.Goals.{After-index_mut-station}

there : (g : _) (c : After-index_mut-station g) → slice_get c.args.self.now.stations.items c.from.result ≡ Some c.index_mut-station.result.now
there g c = read_there c.args.self.now.stations.items c.from.result c.index_mut-station.result.now (is_among c.from.result c.args.node.0 _ _ c.from.ensures c.requires.node c.requires.turn.ready.stations.count) c.index_mut-station.ensures.value

number : (g : _) (c : After-index_mut-station g) → c.index_mut-station.result.now.number ≡ c.args.node
number g c = its_number _ c.args.self.now.stations.items c.from.result c.args.node c.index_mut-station.result.now c.requires.turn.ready.stations (there g c) c.from.ensures

pub call-reply-requires-clause-legal : goal.call-reply-requires-clause-legal
call-reply-requires-clause-legal g c = λ reply.
    subst (λ (n : NodeNo). IsLegalBy (entries_of c.args.list.now.entries) (entry_at n c.args.list.now.client (what_said c.args.request c.args.stop reply)))
    (sym (number g (goal.at.call-reply-requires-clause-legal g c).After-index_mut-station)) (c.requires.legal reply)

pub returns-clause-turn : goal.returns-clause-turn
returns-clause-turn g c =
    let at = (goal.at.returns-clause-turn g c).After-index_mut-station in
    let t = turn_at c.args.self.now c.args.pass.now c.args.list.now in
    turn_called t c.from.result c.index_mut-station.result.now c.call-reply.new.self (there g at) _ _ _ g.N.Named.board _ c.requires.turn c.call-reply.ensures.number c.call-reply.ensures.board c.call-reply.ensures.client c.call-reply.ensures.owns c.call-reply.ensures.list

pub returns-clause-goes_on : goal.returns-clause-goes_on
returns-clause-goes_on g c =
    let at = (goal.at.returns-clause-goes_on g c).After-index_mut-station in
    let t = turn_at c.args.self.now c.args.pass.now c.args.list.now in
    let s = c.index_mut-station.result.now in
    if_none c.call-reply.result
    (λ is. goes_still t c.from.result s c.call-reply.new.self (there g at) _ _ _ (c.call-reply.ensures.before is).list (c.call-reply.ensures.pass_before is).0 c.call-reply.ensures.client (c.call-reply.ensures.list_before is))
    (λ other. goes_called t c.from.result s c.call-reply.new.self (there g at) _ _ _ (what_said c.args.request c.args.stop c.call-reply.result) (c.requires.turn.ready.stations.in_order c.from.result s (there g at)) c.call-reply.ensures.client (c.call-reply.ensures.said other))

pub returns-clause-said : goal.returns-clause-said
returns-clause-said g c = λ other.
    let at = (goal.at.returns-clause-said g c).After-index_mut-station in
    let ends = c.call-reply.ensures.said other in
    let e = what_said c.args.request c.args.stop c.call-reply.result in
    record {
      client = c.call-reply.ensures.client;
      place = ends.place;
      ends = subst (λ (n : NodeNo). c.call-reply.new.list.entries ≡ c.args.list.now.entries ++ (ends.place, entry_at n c.args.list.now.client e) ∷ []) (number g at) ends.ends_client;
    }

pub returns-clause-owed : goal.returns-clause-owed
returns-clause-owed g c = λ owed.
    let at = (goal.at.returns-clause-owed g c).After-index_mut-station in
    c.call-reply.ensures.owed (subst (λ (n : NodeNo). IsOwedAt n (decided_by c.args.request) (entries_of c.args.list.now.entries)) (sym (number g at)) owed)

pub returns-clause-others : goal.returns-clause-others
returns-clause-others g c =
    let at = (goal.at.returns-clause-others g c).After-index_mut-station in
    others_stay g.D.Disk.state g.D.Disk.faults (start_of g.N.Named.records) g.N.Named.faults g.N.Named.honest c.args.node c.args.self.now.stations.items c.from.result c.index_mut-station.result.now c.call-reply.new.self (there g at) c.from.ensures

pub returns-clause-answered : goal.returns-clause-answered
returns-clause-answered g c = λ is.
    let at = (goal.at.returns-clause-answered g c).After-index_mut-station in
    let state = g.D.Disk.state in
    let faults = g.D.Disk.faults in
    let start = start_of g.N.Named.records in
    let before = g.N.Named.faults in
    let honest = g.N.Named.honest in
    let n = c.args.node in
    let s = c.index_mut-station.result.now in
    let s' = c.call-reply.new.self in
    let client = c.args.list.now.client in
    let reply = c.call-reply.result in
    let had = made_at state faults start before honest n s (number g at) c.made.ensures in
    let made = made_at state faults start before honest n s' (c.call-reply.ensures.number ∙ number g at) c.made-2.ensures in
    let entries = entered n s s' client (what_said c.args.request c.args.stop reply) _ _ _ _ _ (number g at) (c.call-reply.ensures.said (not_none reply is)) in
    answered state faults start before honest n c.args.self.now.stations.items c.from.result s s' (there g at) c.from.ensures had made client c.args.request c.args.stop reply entries is

pub returns-clause-was_down : goal.returns-clause-was_down
returns-clause-was_down g c = λ is.
    let at = (goal.at.returns-clause-was_down g c).After-index_mut-station in
    let state = g.D.Disk.state in
    let faults = g.D.Disk.faults in
    let start = start_of g.N.Named.records in
    let before = g.N.Named.faults in
    let honest = g.N.Named.honest in
    let n = c.args.node in
    let s = c.index_mut-station.result.now in
    let s' = c.call-reply.new.self in
    let client = c.args.list.now.client in
    let reply = c.call-reply.result in
    let had = made_at state faults start before honest n s (number g at) c.made.ensures in
    let made = made_at state faults start before honest n s' (c.call-reply.ensures.number ∙ number g at) c.made-2.ensures in
    let entries = entered n s s' client (what_said c.args.request c.args.stop reply) _ _ _ _ _ (number g at) (c.call-reply.ensures.said (down_not_none reply is)) in
    was_down state faults start before honest n c.args.self.now.stations.items c.from.result s s' (there g at) c.from.ensures had made client c.args.request c.args.stop reply entries is

pub returns-clause-stopped : goal.returns-clause-stopped
returns-clause-stopped g c = λ is.
    let at = (goal.at.returns-clause-stopped g c).After-index_mut-station in
    let state = g.D.Disk.state in
    let faults = g.D.Disk.faults in
    let start = start_of g.N.Named.records in
    let before = g.N.Named.faults in
    let honest = g.N.Named.honest in
    let n = c.args.node in
    let s = c.index_mut-station.result.now in
    let s' = c.call-reply.new.self in
    let client = c.args.list.now.client in
    let reply = c.call-reply.result in
    let had = made_at state faults start before honest n s (number g at) c.made.ensures in
    let made = made_at state faults start before honest n s' (c.call-reply.ensures.number ∙ number g at) c.made-2.ensures in
    let entries = entered n s s' client (what_said c.args.request c.args.stop reply) _ _ _ _ _ (number g at) (c.call-reply.ensures.said (stopped_not_none reply is)) in
    stopped state faults start before honest n c.args.self.now.stations.items c.from.result s s' (there g at) c.from.ensures had made client c.args.request c.args.stop reply entries is

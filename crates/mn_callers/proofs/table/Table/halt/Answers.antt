use Rattle.std.proofs.Common.{◌≡◌, ◌++◌, ◌∷◌, [], None, Some, slice_get, ap, subst}
use Rattle.mn_base.specs.declared.ids.NodeNo.{NodeNo}
use Rattle.mn_actors.specs.Sight.{view_of}
use Rattle.mn_cell.specs.Calls.{entry_at}
use Rattle.mn_runs.specs.declared.entry.What.TheVariants.{Stopped}
use Rattle.mn_runs.specs.Lists.{ClientState}
use Rattle.mn_runs.specs.Nodes.{is_down}
use Rattle.mn_runs.specs.Protocol.{entries_of}
use Rattle.mn_callers.specs.Turn.{turn_at}
use Rattle.mn_callers.proofs.Doings.{by_halted, by_same, goes_by, in_both_ways, not_ok}
use Rattle.mn_callers.proofs.Turns.{by_flag, goes_called, goes_still, is_among, its_number, read_there, turn_called}
use Rattle.mn_callers.proofs.table.Table.halt.Goals as goal
use Rattle.mn_callers.proofs.table.Table.halt.Goals.{After-index_mut-station}

there : (g : _) (c : After-index_mut-station g) → slice_get c.args.self.now.stations.items c.from.result ≡ Some c.index_mut-station.result.now
there g c = read_there c.args.self.now.stations.items c.from.result c.index_mut-station.result.now (is_among c.from.result c.args.node.0 _ _ c.from.ensures c.requires.node c.requires.turn.ready.stations.count) c.index_mut-station.ensures.value

number : (g : _) (c : After-index_mut-station g) → c.index_mut-station.result.now.number ≡ c.args.node
number g c = its_number _ c.args.self.now.stations.items c.from.result c.args.node c.index_mut-station.result.now c.requires.turn.ready.stations (there g c) c.from.ensures

pub returns-in_err-halt-clause-goes_on : goal.returns-in_err-halt-clause-goes_on
returns-in_err-halt-clause-goes_on g c =
    let at = (goal.at.returns-in_err-halt-clause-goes_on g c).After-index_mut-station in
    let t = turn_at c.args.self.now c.args.pass.now c.args.list.now in
    let same = c.in_err-halt.ensures.failed in
    goes_still t c.from.result c.index_mut-station.result.now c.halt.new.self (there g at) _ _ _ (ap (λ s. s.list) same.0) (ap (λ p. (view_of p).known) same.1) c.halt.ensures.client same.2

pub returns-clause-turn : goal.returns-clause-turn
returns-clause-turn g c =
    let at = (goal.at.returns-clause-turn g c).After-index_mut-station in
    let t = turn_at c.args.self.now c.args.pass.now c.args.list.now in
    turn_called t c.from.result c.index_mut-station.result.now c.halt.new.self (there g at) _ _ _ g.N.Named.board _ c.requires.turn c.halt.ensures.number c.halt.ensures.board c.halt.ensures.client c.halt.ensures.owns c.halt.ensures.list

pub returns-clause-goes_on : goal.returns-clause-goes_on
returns-clause-goes_on g c =
    let at = (goal.at.returns-clause-goes_on g c).After-index_mut-station in
    let t = turn_at c.args.self.now c.args.pass.now c.args.list.now in
    let s = c.index_mut-station.result.now in
    by_flag c.in_ok-halt.field-0
    (λ is. goes_called t c.from.result s c.halt.new.self (there g at) _ _ _ (Stopped None None) (c.requires.turn.ready.stations.in_order c.from.result s (there g at)) c.halt.ensures.client (c.in_ok-halt.ensures.halted is))
    (λ is. let same = c.in_ok-halt.ensures.no_entry is in
    goes_still t c.from.result s c.halt.new.self (there g at) _ _ _ (ap (λ s. s.list) same.0) (ap (λ p. (view_of p).known) same.1) c.halt.ensures.client (ap (λ (l : ClientState). l.entries) same.2))

pub returns-clause-halts : goal.returns-clause-halts
returns-clause-halts g c =
    let at = (goal.at.returns-clause-halts g c).After-index_mut-station in
    let s = c.index_mut-station.result.now in
    let r = c.in_ok-halt.ensures in
    goes_by c.args.node c.args.self.now.stations.items c.from.result s (there g at) c.from.ensures
    (by_same _ _ s.node.down (is_down (entries_of s.list)) c.made.ensures.down (by_halted s.node.down c.in_ok-halt.field-0 r.exactly
    (λ is. let ends = r.halted is in
    record {
      client = c.halt.ensures.client;
      place = ends.place;
      ends = subst (λ (n : NodeNo). c.halt.new.list.entries ≡ c.args.list.now.entries ++ (ends.place, entry_at n c.args.list.now.client (Stopped None None)) ∷ []) (number g at) ends.ends_client;
    })
    (λ is. record { client = c.halt.ensures.client; entries = ap (λ (l : ClientState). l.entries) (r.no_entry is).2 })))

pub returns-in_err-halt-clause-halts : goal.returns-in_err-halt-clause-halts
returns-in_err-halt-clause-halts g c =
    let at = (goal.at.returns-in_err-halt-clause-halts g c).After-index_mut-station in
    let s = c.index_mut-station.result.now in
    let r = c.from_residual.result in
    let fails = c.from_residual.ensures.0 in
    goes_by c.args.node c.args.self.now.stations.items c.from.result s (there g at) c.from.ensures (in_both_ways (is_down (entries_of s.list)) (not_ok r _ fails) (not_ok r _ fails))

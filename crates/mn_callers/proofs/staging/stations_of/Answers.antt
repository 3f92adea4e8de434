use Rattle.std.proofs.Common.{◌≡◌, ℕ, ◌+◌, Some, List, [], ◌∷◌, ◌++◌, length, map, reverse, sym, ap, ◌∙◌, subst, arith, vec_len}
use Rattle.std.specs.Prelude.{slice_get}
use Rattle.mn_actors.specs.Lists.{IsJoined}
use Rattle.mn_actors.specs.Sight.{view_of}
use Rattle.mn_cell.specs.Calls.{numbered}
use Rattle.mn_cell.specs.Station.{StationState}
use Rattle.mn_node.specs.State.{NodeState}
use Rattle.mn_callers.specs.Begins.{AreBare, HoldsEmpty}
use Rattle.mn_callers.specs.Ended.{AreMadeFromLast, OwnsNodes}
use Rattle.mn_callers.proofs.Apart.{callers_then, nodes_back}
use Rattle.mn_callers.proofs.Staged.{again_callers, given_alone, given_at, holds_less, is_first, less_callers, more_bare, more_numbers, owns_again, station_count, turned_bare, turned_stations}
use Rattle.mn_callers.proofs.staging.stations_of.Goals as goal

pub split-pass-requires-clause-owns : goal.split-pass-requires-clause-owns
split-pass-requires-clause-owns g c =
    let fewer = c.in-Some.ensures.cases in
    let last = c.len-in-Some.ensures in
    ([], c.loop-node.invariant.holds.those (numbered c.len-in-Some.result) (omega arith))

pub new-requires-clause-node : goal.new-requires-clause-node
new-requires-clause-node g c =
    let given : List (NodeState g.row.D.Denot) = c.args.nodes.now.items in
    let node : NodeState g.row.D.Denot = c.in-Some.node in
    let last : length c.pop.new.self.items ≡ c.len-in-Some.result = sym c.pop.new.self.ok.0 ∙ sym c.len-in-Some.ensures in
    let at : slice_get given c.len-in-Some.result ≡ Some node = subst (λ (k : ℕ). slice_get given k ≡ Some node) last
    (given_at given c.loop-node.nodes.items c.pop.new.self.items (reverse (map (λ (s : StationState g.row.D.Denot). s.node) c.loop-node.stations.items)) node c.loop-node.invariant.nodes c.in-Some.ensures.items) in
    is_first g.D.Disk.state g.D.Disk.faults g.N.Named.records g.N.Named.faults g.N.Named.honest given c.len-in-Some.result node c.requires.named c.requires.nodes at

pub new-requires-clause-owns : goal.new-requires-clause-owns
new-requires-clause-owns g c =
    let fewer = c.in-Some.ensures.cases in
    let last = c.len-in-Some.ensures in
    given_alone (view_of c.loop-node.all) (view_of c.split-pass.new.from) (view_of c.split-pass.result) (numbered c.len-in-Some.result) c.split-pass.ensures.view (c.loop-node.invariant.holds.those (numbered c.len-in-Some.result) (omega arith))

pub new-requires-clause-list : goal.new-requires-clause-list
new-requires-clause-list g c =
    let fewer = c.in-Some.ensures.cases in
    let last = c.len-in-Some.ensures in
    c.split-pass.ensures.view.given.0 ∙ c.loop-node.invariant.holds.those (numbered c.len-in-Some.result) (omega arith)

pub loop-node-preserved : goal.loop-node-preserved
loop-node-preserved g c =
    let D = g.row.D.Denot in
    let old = c.loop-node.invariant in
    let total : ℕ = length g.N.Named.records in
    let k : ℕ = c.len-in-Some.result in
    let node : NodeState D = c.in-Some.node in
    let s : StationState D = c.in-Ok.station in
    let nodes : List (NodeState D) = c.pop.new.self.items in
    let stations : List (StationState D) = c.loop-node.stations.items in
    let last = c.len-in-Some.ensures in
    let fewer = c.in-Some.ensures.cases in
    let made = c.in-Ok.ensures.made in
    let long = c.loop-node.stations.ok.0 in
    let left = c.loop-node.nodes.ok.0 in
    let sum = station_count c.args.nodes.now.items c.loop-node.nodes.items stations old.nodes in
    let all = c.requires.nodes.count in
    let number : s.number.0 ≡ k = ap (λ (t : StationState D). t.number.0) made in
    let same : s.node ≡ node = ap (λ (t : StationState D). t.node) made in
    let popped : c.loop-node.nodes.items ≡ nodes ++ s.node ∷ [] = c.in-Some.ensures.items ∙ ap (λ (m : NodeState D). nodes ++ m ∷ []) (sym same) in
    let back = λ (l : List (StationState D)). reverse (map (λ (s : StationState D). s.node) l) in
    let holds = subst (λ (n : ℕ). HoldsEmpty n (view_of c.loop-node.all)) (let same : vec_len c.loop-node.nodes ≡ k + 1 = omega arith in same) old.holds in
    record {
      board = c.split-pass.ensures.board.0 ∙ old.board;
      nodes = ap (λ (l : List (StationState D)). nodes ++ back l) c.push_reserved.ensures.items
          ∙ (nodes_back nodes stations s ∙ (ap (λ (l : List (NodeState D)). l ++ back stations) (sym popped) ∙ old.nodes));
      room = c.in-Some.ensures.capacity ∙ old.room;
      stations_room = c.push_reserved.ensures.capacity ∙ old.stations_room;
      numbers = subst (λ (l : List (StationState D)). AreMadeFromLast total l) (sym c.push_reserved.ensures.items) (more_numbers total stations s (omega arith) old.numbers);
      bare = subst (λ (l : List (StationState D)). AreBare l) (sym c.push_reserved.ensures.items) (more_bare total stations s (ap (λ (t : StationState D). t.list) made) old.bare);
      holds = subst (λ (n : ℕ). HoldsEmpty n (view_of c.split-pass.new.from)) last (holds_less (view_of c.loop-node.all) (view_of c.split-pass.new.from) (view_of c.split-pass.result) k c.split-pass.ensures.view holds);
      callers = callers_then (view_of c.args.all.now) (view_of c.loop-node.all) (view_of c.split-pass.new.from) old.callers
          (less_callers (view_of c.loop-node.all) (view_of c.split-pass.new.from) (view_of c.split-pass.result) (numbered k) c.split-pass.ensures.view);
    }

pub give_back-requires-clause-room : goal.give_back-requires-clause-room
give_back-requires-clause-room g c =
    let old = c.loop-node.invariant in
    let fewer = c.in-Some.ensures.cases in
    let len = c.push_reserved-in-Err.ensures.len in
    let capacity = c.push_reserved-in-Err.ensures.capacity ∙ (c.in-Some.ensures.capacity ∙ old.room) in
    let sum = station_count c.args.nodes.now.items c.loop-node.nodes.items c.loop-node.stations.items old.nodes in
    let one = c.loop-node.nodes.ok.0 in
    let other = c.loop-node.stations.ok.0 in
    let all = c.args.nodes.now.ok in
    omega arith

pub give_back-requires-clause-numbers : goal.give_back-requires-clause-numbers
give_back-requires-clause-numbers g c =
    let old = c.loop-node.invariant in
    let fewer = c.in-Some.ensures.cases in
    let len = c.push_reserved-in-Err.ensures.len in
    let sum = station_count c.args.nodes.now.items c.loop-node.nodes.items c.loop-node.stations.items old.nodes in
    let one = c.loop-node.nodes.ok.0 in
    let other = c.loop-node.stations.ok.0 in
    let all = c.requires.nodes.count in
    let total : length g.N.Named.records ≡ vec_len c.push_reserved-in-Err.new.self + vec_len c.loop-node.stations = omega arith in
    subst (λ (n : ℕ). AreMadeFromLast n c.loop-node.stations.items) total old.numbers

pub give_back-requires-clause-owns : goal.give_back-requires-clause-owns
give_back-requires-clause-owns g c =
    let old = c.loop-node.invariant in
    let k : ℕ = c.len-in-Some.result in
    let fewer = c.in-Some.ensures.cases in
    let len = c.push_reserved-in-Err.ensures.len in
    let last = c.len-in-Some.ensures in
    let before : vec_len c.loop-node.nodes ≡ k + 1 = omega arith in
    let after : k + 1 ≡ vec_len c.push_reserved-in-Err.new.self = omega arith in
    let joined = subst (λ p. IsJoined (view_of c.split-pass.new.from) (view_of p) (view_of c.join.new.into)) c.in-Err.ensures.refused.1 c.join.ensures.view in
    subst (λ (n : ℕ). OwnsNodes n (view_of c.join.new.into)) after
    (owns_again (view_of c.loop-node.all) (view_of c.split-pass.new.from) (view_of c.split-pass.result) (view_of c.join.new.into) k c.split-pass.ensures.view
    (subst (λ (n : ℕ). HoldsEmpty n (view_of c.loop-node.all)) before old.holds) joined)

pub returns-in-Err-clause-callers : goal.returns-in-Err-clause-callers
returns-in-Err-clause-callers g c =
    let joined = subst (λ p. IsJoined (view_of c.split-pass.new.from) (view_of p) (view_of c.join.new.into)) c.in-Err.ensures.refused.1 c.join.ensures.view in
    callers_then (view_of c.args.all.now) (view_of c.join.new.into) (view_of c.give_back.new.all)
    (callers_then (view_of c.args.all.now) (view_of c.loop-node.all) (view_of c.join.new.into) c.loop-node.invariant.callers
    (again_callers (view_of c.loop-node.all) (view_of c.split-pass.new.from) (view_of c.split-pass.result) (view_of c.join.new.into) (numbered c.len-in-Some.result) c.split-pass.ensures.view joined))
    c.give_back.ensures.callers

pub returns-clause-stations : goal.returns-clause-stations
returns-clause-stations g c =
    let old = c.loop-node.invariant in
    let sum = station_count c.args.nodes.now.items c.loop-node.nodes.items c.loop-node.stations.items old.nodes in
    let none = c.in_default.ensures.cases.0 in
    let one = c.loop-node.nodes.ok.0 in
    let all = c.requires.nodes.count in
    let count : length c.loop-node.stations.items ≡ length g.N.Named.records = omega arith in
    turned_stations (length g.N.Named.records) c.loop-node.stations.items c.reverse.new.self.items c.reverse.ensures.items c.requires.few count old.numbers

pub returns-clause-bare : goal.returns-clause-bare
returns-clause-bare g c = turned_bare c.loop-node.stations.items c.reverse.new.self.items c.reverse.ensures.items c.loop-node.invariant.bare
